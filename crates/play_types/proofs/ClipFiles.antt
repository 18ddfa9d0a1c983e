-- Clip files.
use Rattle.std.proofs.Common.{◌≡◌, ℕ, ◌^◌, ◌<◌, take, drop, sym, ap, ◌∙◌, arith}
use Rattle.std.proofs.lemmas.Nat.{from_be_bytes-to_be_bytes_2, from_be_bytes-to_be_bytes_4}
use Rattle.std.specs.Int.{w16, w32, to_be_bytes, from_be_bytes}
use Rattle.play_types.specs.ClipFile.{ClipView, IsClip, clip_bytes}

-- two numbers whose two bytes are equal are equal
to_be_bytes_same_2 : (m n : ℕ) → m < 2 ^ 16 → n < 2 ^ 16 → to_be_bytes w16 m ≡ to_be_bytes w16 n → m ≡ n
to_be_bytes_same_2 m n p q e =
    sym (from_be_bytes-to_be_bytes_2 m p) ∙ ap (from_be_bytes w16) e ∙ from_be_bytes-to_be_bytes_2 n q

-- two numbers whose four bytes are equal are equal
to_be_bytes_same_4 : (m n : ℕ) → m < 2 ^ 32 → n < 2 ^ 32 → to_be_bytes w32 m ≡ to_be_bytes w32 n → m ≡ n
to_be_bytes_same_4 m n p q e =
    sym (from_be_bytes-to_be_bytes_4 m p) ∙ ap (from_be_bytes w32) e ∙ from_be_bytes-to_be_bytes_4 n q

-- a file is the file of only one clip
pub clip_bytes_same : (a b : ClipView) → IsClip a → IsClip b → clip_bytes a ≡ clip_bytes b → a ≡ b
clip_bytes_same a b p q e =
    let version = to_be_bytes_same_2 a.version b.version (omega arith) (omega arith) (ap (λ f. take 2 (drop 4 f)) e) in
    let width = to_be_bytes_same_2 a.geometry.width b.geometry.width (omega arith) (omega arith) (ap (λ f. take 2 (drop 8 f)) e) in
    let height = to_be_bytes_same_2 a.geometry.height b.geometry.height (omega arith) (omega arith) (ap (λ f. take 2 (drop 10 f)) e) in
    let frames = to_be_bytes_same_4 a.frames b.frames (omega arith) (omega arith) (ap (λ f. take 4 (drop 12 f)) e) in
    let pairs = to_be_bytes_same_2 a.geometry.pairs b.geometry.pairs (omega arith) (omega arith) (ap (λ f. take 2 (drop 16 f)) e) in
    let bytes : a.bytes ≡ b.bytes = ap (drop 20) e in
    λ i. record { version = version i; geometry = record { width = width i; height = height i; pairs = pairs i }; frames = frames i; bytes = bytes i }
