-- Clip files by their fields.
use Rattle.std.proofs.Common.{◌≡◌, ℕ, ◌+◌, ◌*◌, ◌<◌, ◌≤◌, ◌==◌, Bool, true, false, cond, List, ◌++◌, length, take, drop, refl, sym, ap, ap₂, subst, ◌∙◌, arith, inl, inr, ◌-◌, length-take, length-drop, mul_assoc}
use Rattle.std.specs.Prelude.{codes, bytes_eq, Option, Some, None, Ok, Err, slice_index}
use Rattle.std.specs.Int.{w16, w32, to_be_bytes}
use Rattle.std.proofs.lemmas.Bool.{eqb-true, leb-true, eq-eqb, le-leb, lt-ltb, le-ltb, and_parts, cases_lt}
use Rattle.std.proofs.lemmas.List.{get_or-take, get_or-drop, get_or_past, take-append-drop, drop-drop}
use Rattle.std.proofs.lemmas.Nat.{from_be_bytes-to_be_bytes_2, from_be_bytes-to_be_bytes_4, be_bytes_2, be_bytes_4, mul-le}
use Rattle.std.proofs.lemmas.Slice.Eq.{bytes_eq-Decides}
use Rattle.play_types.specs.declared.clip.TheConstants.{MAX_FRAMES, MULTIPLIED, STRAIGHT}
use Rattle.play_types.specs.declared.geometry.TheConstants.{MAX_SIDE, MAX_PAIRS}
use Rattle.play_types.specs.Geometry.{frame_bytes}
use Rattle.play_types.specs.ClipFile.{ClipView, IsClip, IsClipFile, clip_bytes}
use Rattle.play_types.specs.declared.clip_fault.ClipFault.{ClipFault}
use Rattle.play_types.specs.declared.clip_fault.ClipFault.TheVariants.{Short, Long}
use Rattle.clip_format.specs.Decoding.{number_of_2, number_of_4, is_within, header_fault, header_version, header_size, header_frames, announced, clip_of}

-- the fields of a header that is accepted
pub record IsHeader (bytes : List ℕ) : Type 0 where
  pub magic : take 4 bytes ≡ codes "RCLP"
  pub some_version : MULTIPLIED ≤ number_of_2 bytes 4
  pub version : number_of_2 bytes 4 ≤ STRAIGHT
  pub flags : number_of_2 bytes 6 ≡ 0
  pub some_columns : 1 ≤ number_of_2 bytes 8
  pub columns : number_of_2 bytes 8 ≤ MAX_SIDE
  pub some_rows : 1 ≤ number_of_2 bytes 10
  pub rows : number_of_2 bytes 10 ≤ MAX_SIDE
  pub some_frames : 1 ≤ number_of_4 bytes 12
  pub frames : number_of_4 bytes 12 ≤ MAX_FRAMES
  pub pairs : number_of_2 bytes 16 ≤ MAX_PAIRS
  pub zero : number_of_2 bytes 18 ≡ 0

none_first : (accepted : Bool) (fault : ClipFault) (rest : Option ClipFault) → cond accepted rest (Some fault) ≡ None → (accepted ≡ true) × (rest ≡ None)
none_first true fault rest e = (refl, e)
none_first false fault rest e = cc

-- a header without a fault has each field accepted
pub IsHeader-no_fault : (bytes : List ℕ) → header_fault bytes ≡ None → IsHeader bytes
unfolding header_fault
IsHeader-no_fault bytes e =
    let a = none_first (bytes_eq (take 4 bytes) (codes "RCLP")) _ _ e in
    let b = none_first (is_within MULTIPLIED STRAIGHT (number_of_2 bytes 4)) _ _ a.1 in
    let c = none_first (number_of_2 bytes 6 == 0) _ _ b.1 in
    let d = none_first (is_within 1 MAX_SIDE (number_of_2 bytes 8)) _ _ c.1 in
    let f = none_first (is_within 1 MAX_SIDE (number_of_2 bytes 10)) _ _ d.1 in
    let g = none_first (is_within 1 MAX_FRAMES (number_of_4 bytes 12)) _ _ f.1 in
    let h = none_first (is_within 0 MAX_PAIRS (number_of_2 bytes 16)) _ _ g.1 in
    let k = none_first (number_of_2 bytes 18 == 0) _ _ h.1 in
    let version = and_parts _ _ b.0 in
    let width = and_parts _ _ d.0 in
    let height = and_parts _ _ f.0 in
    let count = and_parts _ _ g.0 in
    let sound = and_parts _ _ h.0 in record {
      magic = (bytes_eq-Decides (take 4 bytes) (codes "RCLP")).0 a.0;
      some_version = leb-true _ _ version.0;
      version = leb-true _ _ version.1;
      flags = eqb-true _ _ c.0;
      some_columns = leb-true _ _ width.0;
      columns = leb-true _ _ width.1;
      some_rows = leb-true _ _ height.0;
      rows = leb-true _ _ height.1;
      some_frames = leb-true _ _ count.0;
      frames = leb-true _ _ count.1;
      pairs = leb-true _ _ sound.1;
      zero = eqb-true _ _ k.0;
    }

is_within-true : (low high n : ℕ) → low ≤ n → n ≤ high → is_within low high n ≡ true
is_within-true low high n p q = rw (le-leb low n p, le-leb n high q) refl

-- a header with each field accepted has no fault
pub no_fault : (bytes : List ℕ) → IsHeader bytes → header_fault bytes ≡ None
unfolding header_fault
no_fault bytes h =
    rw (
      (bytes_eq-Decides (take 4 bytes) (codes "RCLP")).1 h.magic,
      is_within-true MULTIPLIED STRAIGHT _ h.some_version h.version,
      eq-eqb _ _ h.flags,
      is_within-true 1 MAX_SIDE _ h.some_columns h.columns,
      is_within-true 1 MAX_SIDE _ h.some_rows h.rows,
      is_within-true 1 MAX_FRAMES _ h.some_frames h.frames,
      is_within-true 0 MAX_PAIRS _ (omega arith) h.pairs,
      eq-eqb _ _ h.zero,
    ) refl

-- a part of a list of bytes is one
part_of_bytes : (bytes : List ℕ) (count at : ℕ) → ((i : ℕ) → slice_index bytes i < 256) → (i : ℕ) → slice_index (take count (drop at bytes)) i < 256
part_of_bytes bytes count at fits i =
    elim (cases_lt i count) [
      | inl lt ↦ rw (get_or-take count (drop at bytes) i 0 lt, get_or-drop at bytes i 0) (fits (at + i))
      | inr le ↦ rw (get_or_past (take count (drop at bytes)) i 0 (omega (arith, length-take count (drop at bytes)))) (omega arith)
    ]

-- two bytes spell their number
field_2 : (bytes : List ℕ) (at n : ℕ) → ((i : ℕ) → slice_index bytes i < 256) → at + 2 ≤ length bytes → number_of_2 bytes at ≡ n → take 2 (drop at bytes) ≡ to_be_bytes w16 n
field_2 bytes at n fits long is =
    let size : length (take 2 (drop at bytes)) ≡ 2 = omega (arith, length-take 2 (drop at bytes), length-drop at bytes) in
    sym (be_bytes_2 (take 2 (drop at bytes)) n size (part_of_bytes bytes 2 at fits) (sym is))

-- four bytes spell their number
field_4 : (bytes : List ℕ) (at n : ℕ) → ((i : ℕ) → slice_index bytes i < 256) → at + 4 ≤ length bytes → number_of_4 bytes at ≡ n → take 4 (drop at bytes) ≡ to_be_bytes w32 n
field_4 bytes at n fits long is =
    let size : length (take 4 (drop at bytes)) ≡ 4 = omega (arith, length-take 4 (drop at bytes), length-drop at bytes) in
    sym (be_bytes_4 (take 4 (drop at bytes)) n size (part_of_bytes bytes 4 at fits) (sym is))

-- a field, and what follows it
field_then : (bytes : List ℕ) (at count : ℕ) (field rest : List ℕ) → take count (drop at bytes) ≡ field → drop (at + count) bytes ≡ rest → drop at bytes ≡ field ++ rest
field_then bytes at count field rest p q =
    sym (take-append-drop count (drop at bytes)) ∙ ap₂ (λ (a b : List ℕ). a ++ b) p (drop-drop count at bytes ∙ q)

-- the clip of a file with an accepted header
abbrev pub clip_in : List ℕ → ClipView
clip_in bytes = record { version = header_version bytes; geometry = header_size bytes; frames = header_frames bytes; bytes = drop 20 bytes }

spelled : (bytes : List ℕ) → ((i : ℕ) → slice_index bytes i < 256) → 20 ≤ length bytes → IsHeader bytes → bytes ≡ clip_bytes (clip_in bytes)
spelled bytes fits long h =
    let at_18 = field_then bytes 18 2 (to_be_bytes w16 0) (drop 20 bytes) (field_2 bytes 18 0 fits (omega arith) h.zero) refl in
    let at_16 = field_then bytes 16 2 (to_be_bytes w16 (number_of_2 bytes 16)) _ (field_2 bytes 16 _ fits (omega arith) refl) at_18 in
    let at_12 = field_then bytes 12 4 (to_be_bytes w32 (number_of_4 bytes 12)) _ (field_4 bytes 12 _ fits (omega arith) refl) at_16 in
    let at_10 = field_then bytes 10 2 (to_be_bytes w16 (number_of_2 bytes 10)) _ (field_2 bytes 10 _ fits (omega arith) refl) at_12 in
    let at_8 = field_then bytes 8 2 (to_be_bytes w16 (number_of_2 bytes 8)) _ (field_2 bytes 8 _ fits (omega arith) refl) at_10 in
    let at_6 = field_then bytes 6 2 (to_be_bytes w16 0) _ (field_2 bytes 6 0 fits (omega arith) h.flags) at_8 in
    let at_4 = field_then bytes 4 2 (to_be_bytes w16 (number_of_2 bytes 4)) _ (field_2 bytes 4 _ fits (omega arith) refl) at_6 in
    field_then bytes 0 4 (codes "RCLP") _ h.magic at_4

-- bytes with an accepted header, as many as it announces, are a clip file
pub IsClipFile-whole : (bytes : List ℕ) → ((i : ℕ) → slice_index bytes i < 256) → IsHeader bytes → length bytes ≡ announced bytes → IsClipFile bytes (clip_in bytes)
IsClipFile-whole bytes fits h whole =
    let rest : length (drop 20 bytes) ≡ header_frames bytes * frame_bytes (header_size bytes) = omega (arith, length-drop 20 bytes) in record {
      ranges = record {
        some_version = h.some_version;
        version = h.version;
        size = record { some_columns = h.some_columns; columns = h.columns; some_rows = h.some_rows; rows = h.rows; sound = h.pairs };
        some_frames = h.some_frames;
        frames = h.frames;
        whole = rest;
      };
      spelled = spelled bytes fits (omega arith) h;
    }

-- fewer than 20 bytes
pub clip_of-cut : (bytes : List ℕ) → length bytes < 20 → clip_of bytes ≡ Err (Short 20 (length bytes))
unfolding clip_of
clip_of-cut bytes few = rw (lt-ltb (length bytes) 20 few) refl

-- a header with a fault
pub clip_of-fault : (bytes : List ℕ) (fault : ClipFault) → 20 ≤ length bytes → header_fault bytes ≡ Some fault → clip_of bytes ≡ Err fault
unfolding clip_of
clip_of-fault bytes fault long e = rw (le-ltb (length bytes) 20 long, e) refl

-- fewer bytes than the header announces
pub clip_of-short : (bytes : List ℕ) → 20 ≤ length bytes → header_fault bytes ≡ None → length bytes < announced bytes → clip_of bytes ≡ Err (Short (announced bytes) (length bytes))
unfolding clip_of
clip_of-short bytes long e few = rw (le-ltb (length bytes) 20 long, e, lt-ltb (length bytes) (announced bytes) few) refl

-- more bytes than the header announces
pub clip_of-long : (bytes : List ℕ) → 20 ≤ length bytes → header_fault bytes ≡ None → announced bytes < length bytes → clip_of bytes ≡ Err (Long (length bytes - announced bytes))
unfolding clip_of
clip_of-long bytes long e more =
    rw (le-ltb (length bytes) 20 long, e, le-ltb (length bytes) (announced bytes) (omega arith), lt-ltb (announced bytes) (length bytes) more) refl

-- exactly as many bytes as the header announces
pub clip_of-whole : (bytes : List ℕ) → header_fault bytes ≡ None → length bytes ≡ announced bytes → clip_of bytes ≡ Ok (clip_in bytes)
unfolding clip_of
clip_of-whole bytes e whole =
    rw (le-ltb (length bytes) 20 (omega arith), e, le-ltb (length bytes) (announced bytes) (omega arith), le-ltb (announced bytes) (length bytes) (omega arith)) refl

-- the file of a clip is read as the clip
pub clip_of-clip_bytes : (clip : ClipView) → IsClip clip → clip_of (clip_bytes clip) ≡ Ok clip
clip_of-clip_bytes clip h =
    let version : number_of_2 (clip_bytes clip) 4 ≡ clip.version = from_be_bytes-to_be_bytes_2 clip.version (omega arith) in
    let width : number_of_2 (clip_bytes clip) 8 ≡ clip.geometry.width = from_be_bytes-to_be_bytes_2 clip.geometry.width (omega arith) in
    let height : number_of_2 (clip_bytes clip) 10 ≡ clip.geometry.height = from_be_bytes-to_be_bytes_2 clip.geometry.height (omega arith) in
    let frames : number_of_4 (clip_bytes clip) 12 ≡ clip.frames = from_be_bytes-to_be_bytes_4 clip.frames (omega arith) in
    let pairs : number_of_2 (clip_bytes clip) 16 ≡ clip.geometry.pairs = from_be_bytes-to_be_bytes_2 clip.geometry.pairs (omega arith) in
    let same : clip_in (clip_bytes clip) ≡ clip = λ i. record { version = version i; geometry = record { width = width i; height = height i; pairs = pairs i }; frames = frames i; bytes = clip.bytes } in
    let header : IsHeader (clip_bytes clip) = record {
      magic = refl;
      some_version = subst (λ n. MULTIPLIED ≤ n) (sym version) h.some_version;
      version = subst (λ n. n ≤ STRAIGHT) (sym version) h.version;
      flags = refl;
      some_columns = subst (λ n. 1 ≤ n) (sym width) h.size.some_columns;
      columns = subst (λ n. n ≤ MAX_SIDE) (sym width) h.size.columns;
      some_rows = subst (λ n. 1 ≤ n) (sym height) h.size.some_rows;
      rows = subst (λ n. n ≤ MAX_SIDE) (sym height) h.size.rows;
      some_frames = subst (λ n. 1 ≤ n) (sym frames) h.some_frames;
      frames = subst (λ n. n ≤ MAX_FRAMES) (sym frames) h.frames;
      pairs = subst (λ n. n ≤ MAX_PAIRS) (sym pairs) h.size.sound;
      zero = refl;
    } in
    let length-is : length (clip_bytes clip) ≡ 20 + clip.frames * frame_bytes clip.geometry = omega (arith, h.whole) in
    let whole : length (clip_bytes clip) ≡ announced (clip_bytes clip) = length-is ∙ ap (λ (c : ClipView). 20 + c.frames * frame_bytes c.geometry) (sym same) in
    clip_of-whole (clip_bytes clip) (no_fault (clip_bytes clip) header) whole ∙ ap Ok same

-- each clip file is read as its clip
pub clip_of-file : (bytes : List ℕ) (clip : ClipView) → IsClipFile bytes clip → clip_of bytes ≡ Ok clip
clip_of-file bytes clip file = ap clip_of file.spelled ∙ clip_of-clip_bytes clip file.ranges

-- the length that an accepted header announces is below 2 to the 46th
pub announced-small : (bytes : List ℕ) → IsHeader bytes → header_frames bytes * frame_bytes (header_size bytes) ≤ 1000000 * 67125248
announced-small bytes h =
    let picture = mul-le (number_of_2 bytes 8) (number_of_2 bytes 10) 4096 4096 h.columns h.rows in
    mul-le (header_frames bytes) (frame_bytes (header_size bytes)) 1000000 67125248 h.frames (omega (arith, picture, mul_assoc 4 (number_of_2 bytes 8) (number_of_2 bytes 10), h.pairs))
