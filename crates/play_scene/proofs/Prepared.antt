-- Clips that are prepared, or made straight, show what they showed.
use Rattle.std.proofs.Common.{◌≡◌, ℕ, ◌+◌, ◌*◌, ◌<◌, ◌==◌, Bool, true, false, slice_index, inl, inr, refl, sym, ap, subst, ◌∙◌, arith}
use Rattle.std.proofs.lemmas.Bool.{lt-ltb, le-ltb, cases_lt}
use Rattle.std.proofs.lemmas.Nat.{mul-add-lt}
use Rattle.pixel_math.specs.Pixel.{pixel_of}
use Rattle.pixel_math.proofs.Pixels.{same_pixel}
use Rattle.play_types.specs.declared.clip.TheConstants.{STRAIGHT}
use Rattle.play_types.specs.declared.geometry.Geometry.{Geometry}
use Rattle.play_types.specs.Geometry.{frame_bytes}
use Rattle.play_types.specs.ClipFile.{ClipView, IsClip}
use Rattle.clip_format.specs.Preparing.{AreBytes, prepared_clip, prepared_colour, recoloured, straight_clip}
use Rattle.clip_format.proofs.Prepared.{AreBytes-straight_clip, IsClip-straight_clip, geometry-straight_clip, prepared_clip-straight_clip, prepared_colour-le}
use Rattle.clip_format.proofs.Recoloured.{pixel-recoloured}
use Rattle.history_model.specs.pictures.Media.{clip_pixel, pixel_of_bytes, prepared_pixel}

-- the pixel of a clip, by its colour bytes
prepared_pixel-is : (clip : ClipView) (at : ℕ) (straight : Bool) → clip.version == STRAIGHT ≡ straight →
    let made = prepared_colour clip.version in
    let bytes = clip.bytes in
    let alpha = slice_index bytes (at + 3) in
    prepared_pixel clip at ≡ pixel_of (made (slice_index bytes at) alpha) (made (slice_index bytes (at + 1)) alpha) (made (slice_index bytes (at + 2)) alpha) alpha
prepared_pixel-is clip at true is = rw is refl
prepared_pixel-is clip at false is = rw is refl

-- a pixel of a clip that was prepared is the pixel of the clip
pixel-prepared : (clip : ClipView) (frame pixel : ℕ) → IsClip clip → AreBytes clip.bytes → frame < clip.frames → pixel < clip.geometry.width * clip.geometry.height →
    let at = frame * frame_bytes clip.geometry + 4 * pixel in
    pixel_of_bytes (recoloured (prepared_colour clip.version) clip) at ≡ prepared_pixel clip at
pixel-prepared clip frame pixel h fit inside within =
    let at = frame * frame_bytes clip.geometry + 4 * pixel in
    let made = prepared_colour clip.version in
    let new = recoloured made clip in
    let is = pixel-recoloured made clip frame pixel h inside within in
    let straight = clip.version == STRAIGHT in
    let first : at ≡ at + 0 = omega arith in
    let blue : slice_index new at ≡ made (slice_index clip.bytes at) (slice_index clip.bytes (at + 3)) =
    subst (λ (k : ℕ). slice_index new k ≡ made (slice_index clip.bytes k) (slice_index clip.bytes (at + 3))) (sym first) (is.colour 0 (omega arith)) in
    let low = λ (k : ℕ). prepared_colour-le straight (slice_index clip.bytes k) (slice_index clip.bytes (at + 3)) (fit k) in
    same_pixel _ _
    (omega (arith, blue, is.alpha, low at))
    (omega (arith, is.colour 1 (omega arith), is.alpha, low (at + 1)))
    (omega (arith, is.colour 2 (omega arith), is.alpha, low (at + 2)))
    is.alpha
    ∙ sym (prepared_pixel-is clip at straight refl)

-- a clip that was prepared shows what the clip shows
pub clip_pixel-prepared : (clip : ClipView) (frame column row : ℕ) → IsClip clip → AreBytes clip.bytes → column < clip.geometry.width → row < clip.geometry.height →
    clip_pixel (prepared_clip clip) frame column row ≡ clip_pixel clip frame column row
unfolding prepared_clip
clip_pixel-prepared clip frame column row h fit x y =
    let pixel = row * clip.geometry.width + column in
    let within = mul-add-lt row clip.geometry.width column clip.geometry.height y x in
    elim (cases_lt frame clip.frames) [
      | inl lt ↦ rw (lt-ltb frame clip.frames lt) (pixel-prepared clip frame pixel h fit lt within)
      | inr le ↦ rw (le-ltb frame clip.frames le) refl
    ]

-- a clip that was made straight shows what the clip shows
pub clip_pixel-straight : (clip : ClipView) (frame column row : ℕ) → IsClip clip → AreBytes clip.bytes → column < clip.geometry.width → row < clip.geometry.height →
    clip_pixel (straight_clip clip) frame column row ≡ clip_pixel clip frame column row
clip_pixel-straight clip frame column row h fit x y =
    let size = geometry-straight_clip clip in
    sym (clip_pixel-prepared (straight_clip clip) frame column row (IsClip-straight_clip clip h) (AreBytes-straight_clip clip fit)
    (subst (λ (s : Geometry). column < s.width) (sym size) x) (subst (λ (s : Geometry). row < s.height) (sym size) y))
    ∙ ap (λ (shown : ClipView). clip_pixel shown frame column row) (prepared_clip-straight_clip clip h fit)
    ∙ clip_pixel-prepared clip frame column row h fit x y
