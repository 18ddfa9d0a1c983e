use Rattle.std.proofs.Common.{◌≡◌, ◌≤◌, ◌-◌, ◌++◌, ℕ, List, length, take, drop, sym, ap, ◌∙◌, arith}
use Rattle.std.proofs.lemmas.List.{length-take, length-take-le, take-append-drop}
use lib.Seq.{take-append_seam}
use Rattle.real_devices.proofs.Held.{range_after}
use Rattle.real_devices.proofs.held_bytes.HeldBytes.give_line.Goals as goal

-- the bytes that are handed on, and then those that are left, are those that were held
pub returns-clause-left : goal.returns-clause-left
returns-clause-left c =
    let n = c.min-count.result in
    let held = c.args.self.now in
    let inside = c.self.inside in
    let some : n ≤ length held = omega (arith, c.min-count.ensures, c.first_line.ensures.fits, ap length c.as_slice-left.ensures) in
    let copied : c.copy_from_slice.new.self ≡ take n held = c.copy_from_slice.ensures.after ∙ ap (take n) c.as_slice-left.ensures in
    let many : length c.copy_from_slice.new.self ≡ n = ap length copied ∙ length-take-le n held some in
    let front : take n (c.copy_from_slice.new.self ++ drop n c.args.buf.now) ≡ take n held =
    ap (λ (k : ℕ). take k (c.copy_from_slice.new.self ++ drop n c.args.buf.now)) (sym many)
    ∙ take-append_seam c.copy_from_slice.new.self (drop n c.args.buf.now) ∙ copied in
    let fits : n ≤ inside.end - inside.at = omega (arith, some, ap length (sym c.self.view_is) ∙ length-take (inside.end - inside.at) (drop inside.at inside.bytes)) in
    let rest = range_after n inside.at inside.end inside.bytes fits ∙ ap (drop n) c.self.view_is in
    sym (take-append-drop n held) ∙ ap (λ (l : List ℕ). l ++ drop n held) (sym front)
    ∙ ap (λ (l : List ℕ). take n (c.copy_from_slice.new.self ++ drop n c.args.buf.now) ++ l) (sym rest)
