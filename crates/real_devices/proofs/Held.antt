-- Bytes that are held between the reads of a stream and those of a connection.
use Rattle.std.proofs.Common.{◌≡◌, ℕ, ◌+◌, ◌-◌, ◌≤◌, ◌++◌, List, [], take, drop, ap, sym, ◌∙◌, arith, append_assoc}
use Rattle.std.specs.Prelude.{Option, Some, None}
use Rattle.std.specs.Io.KnownBytes.{Consumes, IsAtEnd, Keeps, prepend_known}
use Rattle.std.proofs.lemmas.List.{drop-drop, drop-take}

-- what is left of a range after its first bytes
pub range_after : (n at end : ℕ) (xs : List ℕ) → n ≤ end - at → take (end - (at + n)) (drop (at + n) xs) ≡ drop n (take (end - at) (drop at xs))
range_after n at end xs fits =
    let count : end - (at + n) ≡ end - at - n = omega arith in
    let whole : n + (end - at - n) ≡ end - at = omega (arith, fits) in
    ap (λ k. take k (drop (at + n) xs)) count ∙ ap (take (end - at - n)) (sym (drop-drop n at xs)) ∙ sym (drop-take n (end - at - n) (drop at xs))
    ∙ ap (λ k. drop n (take k (drop at xs))) whole

-- a read of the stream moves bytes into what is held
pub held_after_read : (a b : Option (List ℕ)) (bs : List ℕ) → Consumes a b bs → Keeps (prepend_known [] a) (prepend_known bs b)
held_after_read None b bs reads = tt
held_after_read (Some x) None bs reads = absurd reads
held_after_read (Some x) (Some y) bs reads = sym reads

-- a read of the stream that gave nothing found its end
pub held_at_end : (a b : Option (List ℕ)) → Consumes a b [] → IsAtEnd b → Keeps (prepend_known [] a) (prepend_known [] b) × IsAtEnd (prepend_known [] b)
held_at_end None None reads end = (tt, tt)
held_at_end None (Some y) reads end = (tt, end)
held_at_end (Some x) None reads end = absurd reads
held_at_end (Some x) (Some y) reads end = (sym reads, end)

-- a read of the connection takes the first of the bytes that are held
pub held_after_giving : (a : Option (List ℕ)) (old new front : List ℕ) → old ≡ front ++ new → Consumes (prepend_known old a) (prepend_known new a) front
held_after_giving None old new front is = tt
held_after_giving (Some x) old new front is = ap (λ l. l ++ x) is ∙ append_assoc front new x

-- a read of the connection that reads the stream first
pub held_after_both : (a b c : Option (List ℕ)) (front : List ℕ) → Keeps a b → Consumes b c front → Consumes a c front
held_after_both None b c front kept takes = tt
held_after_both (Some x) None c front kept takes = absurd kept
held_after_both (Some x) (Some y) None front kept takes = absurd takes
held_after_both (Some x) (Some y) (Some z) front kept takes = sym kept ∙ takes
