-- Clips that are prepared, and clips that are made straight.
use Rattle.std.proofs.Common.{◌≡◌, ℕ, ◌+◌, ◌*◌, ◌==◌, ◌<◌, ◌≤◌, List, Bool, true, false, drop, length, refl, sym, ap, subst, arith}
use Rattle.std.specs.Prelude.{min, slice_index, if◌then◌else◌}
use Rattle.std.proofs.lemmas.Bool.{eqb-true}
use Rattle.std.proofs.lemmas.List.{get_or-drop}
use Rattle.std.proofs.lemmas.Nat.{mul-le}
use Rattle.pixel_math.specs.Pixel.{scaled, straight}
use Rattle.pixel_math.proofs.ColourBytes.{scaled-straight, straight-lt}
use Rattle.play_types.specs.declared.clip.TheConstants.{MULTIPLIED, STRAIGHT}
use Rattle.play_types.specs.Geometry.{frame_bytes}
use Rattle.play_types.specs.ClipFile.{ClipView, IsClip}
use Rattle.clip_format.specs.Preparing.{AreBytes, IsLowered, prepared_clip, prepared_colour, recoloured, straight_clip, straight_colour}
use Rattle.clip_format.proofs.Recoloured.{AreBytes-recoloured, AreOneAfterAnother, IsClip-recoloured, bytes-fours, pixel-recoloured, recoloured-twice}

-- a clip that was prepared is a clip
pub IsClip-prepared_clip : (clip : ClipView) → IsClip clip → IsClip (prepared_clip clip)
unfolding prepared_clip
IsClip-prepared_clip clip h = IsClip-recoloured (prepared_colour clip.version) MULTIPLIED clip (omega arith) (omega arith) h

pub version-prepared_clip : (clip : ClipView) → (prepared_clip clip).version ≡ MULTIPLIED
unfolding prepared_clip
version-prepared_clip clip = refl

-- a byte times an alpha is at or below the alpha
scaled-le : (colour alpha : ℕ) → colour < 256 → scaled colour alpha ≤ alpha
scaled-le colour alpha byte = let le = mul-le colour alpha 255 alpha (omega (arith, byte)) (omega arith) in omega (arith, le)

-- a colour byte that was prepared is at or below its alpha
pub prepared_colour-le : (straight : Bool) (colour alpha : ℕ) → colour < 256 → (if straight then scaled colour alpha else min colour alpha) ≤ alpha
prepared_colour-le true colour alpha byte = scaled-le colour alpha byte
prepared_colour-le false colour alpha byte = omega arith

-- a clip that was prepared has no colour byte above its alpha
pub IsLowered-prepared_clip : (clip : ClipView) → IsClip clip → AreBytes clip.bytes → IsLowered (prepared_clip clip)
unfolding prepared_clip
IsLowered-prepared_clip clip h fit frame pixel inside within =
    let bytes = clip.bytes in
    let new = recoloured (prepared_colour clip.version) clip in
    let at = frame * frame_bytes clip.geometry + 4 * pixel in
    let made = pixel-recoloured (prepared_colour clip.version) clip frame pixel h inside within in
    let low = λ (colour : ℕ) (three : colour < 3).
    (let le = prepared_colour-le (clip.version == STRAIGHT) (slice_index bytes (at + colour)) (slice_index bytes (at + 3)) (fit (at + colour)) in
    let new_le : slice_index new (at + colour) ≤ slice_index new (at + 3) = rw (made.colour colour three, made.alpha) le in
    new_le) in
    let first : at ≡ at + 0 = omega arith in
    record {
      blue = subst (λ (k : ℕ). slice_index new k ≤ slice_index new (at + 3)) (sym first) (low 0 (omega arith));
      green = low 1 (omega arith);
      red = low 2 (omega arith);
    }

either : (choice : Bool) {a b : ClipView} → IsClip a → IsClip b → IsClip (if choice then a else b)
either true first second = first
either false first second = second

-- a clip that was made straight is a clip of version 2
pub IsClip-straight_clip : (clip : ClipView) → IsClip clip → IsClip (straight_clip clip)
unfolding straight_clip
IsClip-straight_clip clip h = either (clip.version == STRAIGHT) h (IsClip-recoloured straight_colour STRAIGHT clip (omega arith) (omega arith) h)

named : (clip other : ClipView) (choice : Bool) → clip.version == STRAIGHT ≡ choice → other.version ≡ STRAIGHT → (if choice then clip else other).version ≡ STRAIGHT
named clip other true is straight_other = eqb-true _ _ is
named clip other false is straight_other = straight_other

pub version-straight_clip : (clip : ClipView) → (straight_clip clip).version ≡ STRAIGHT
unfolding straight_clip
version-straight_clip clip = named clip _ (clip.version == STRAIGHT) refl refl

same_size : (clip other : ClipView) (choice : Bool) → other.geometry ≡ clip.geometry → (if choice then clip else other).geometry ≡ clip.geometry
same_size clip other true same = refl
same_size clip other false same = same

all_bytes : (clip other : ClipView) (choice : Bool) → AreBytes clip.bytes → AreBytes other.bytes → AreBytes (if choice then clip else other).bytes
all_bytes clip other true fit other_fit = fit
all_bytes clip other false fit other_fit = other_fit

-- the size stays, and bytes stay bytes
pub geometry-straight_clip : (clip : ClipView) → (straight_clip clip).geometry ≡ clip.geometry
unfolding straight_clip
geometry-straight_clip clip = same_size clip _ (clip.version == STRAIGHT) refl

pub AreBytes-straight_clip : (clip : ClipView) → AreBytes clip.bytes → AreBytes (straight_clip clip).bytes
unfolding straight_clip
AreBytes-straight_clip clip fit =
    all_bytes clip _ (clip.version == STRAIGHT) fit (AreBytes-recoloured straight_colour clip (λ colour alpha byte. straight-lt (min colour alpha) alpha (omega arith)) fit)

-- a colour byte that is lowered, made straight and multiplied is the lowered one
one_after_another : (version : ℕ) → version == STRAIGHT ≡ false → AreOneAfterAnother straight_colour (prepared_colour STRAIGHT) (prepared_colour version)
one_after_another version is colour alpha byte top = rw is (scaled-straight (min colour alpha) alpha (omega arith) top)

by_version : (clip : ClipView) → IsClip clip → AreBytes clip.bytes → (choice : Bool) → clip.version == STRAIGHT ≡ choice → prepared_clip (straight_clip clip) ≡ prepared_clip clip
unfolding prepared_clip straight_clip
by_version clip h fit true is = rw is refl
by_version clip h fit false is =
    let bytes = recoloured-twice straight_colour (prepared_colour STRAIGHT) (prepared_colour clip.version) STRAIGHT clip (one_after_another clip.version is) fit
    (bytes-fours clip.frames (length clip.bytes) clip.geometry h.whole) in
    rw is (ap (λ (b : List ℕ). record { version = MULTIPLIED; geometry = clip.geometry; frames = clip.frames; bytes = b }) bytes)

-- a clip and its straight form are prepared as one clip
pub prepared_clip-straight_clip : (clip : ClipView) → IsClip clip → AreBytes clip.bytes → prepared_clip (straight_clip clip) ≡ prepared_clip clip
prepared_clip-straight_clip clip h fit = by_version clip h fit (clip.version == STRAIGHT) refl

-- the bytes behind the first ones are bytes
pub AreBytes-drop : (n : ℕ) (bytes : List ℕ) → AreBytes bytes → AreBytes (drop n bytes)
AreBytes-drop n bytes fit k = subst (λ (byte : ℕ). byte < 256) (sym (get_or-drop n bytes k 0)) (fit (n + k))
