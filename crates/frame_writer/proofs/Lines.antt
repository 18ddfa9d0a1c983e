-- The lines of a frame in the parts in which they are sent.
use Rattle.std.proofs.Common.{◌≡◌, ◌≢◌, ℕ, ◌*◌, ◌==◌, false, List, [], ◌∷◌, ◌++◌, refl, append_assoc}
use Rattle.std.proofs.lemmas.Bool.{ne_eqb}
use Rattle.play_types.specs.declared.geometry.Geometry.{Geometry}
use Rattle.hex.specs.Hex.{encode_lower}
use Rattle.history_model.specs.text.Frames.{frame_lines, head_line, row_lines, sound_line}

-- the three parts of a frame
pub frame_lines-parts : (channel tick : ℕ) (size : Geometry) (frame sound : List ℕ) → frame_lines channel tick size frame sound
    ≡ head_line channel tick ++ (row_lines (4 * size.width) size.height frame ++ sound_line size.pairs sound)
unfolding frame_lines
frame_lines-parts channel tick size frame sound =
    append_assoc (head_line channel tick) (row_lines (4 * size.width) size.height frame) (sound_line size.pairs sound)

-- no sound has no line
pub sound_line-none : (pairs : ℕ) (sound : List ℕ) → pairs ≡ 0 → sound_line pairs sound ≡ []
unfolding sound_line
sound_line-none pairs sound none = rw none refl

-- the line of some sound
pub sound_line-some : (pairs : ℕ) (sound : List ℕ) → pairs ≢ 0 → sound_line pairs sound ≡ encode_lower sound ++ 10 ∷ []
unfolding sound_line
sound_line-some pairs sound some =
    let test : (pairs == 0) ≡ false = ne_eqb pairs 0 some in rw test refl
