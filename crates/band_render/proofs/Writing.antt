-- Frames of which the sound of one channel is written, channel after channel.
use Rattle.std.proofs.Common.{◌≡◌, ℕ, ◌+◌, ◌-◌, ◌<◌, ◌≤◌, List, [], length, map, set, get_or, sym, subst, ap, ◌∙◌, ⊎_elim, refl, arith, length-set}
use Rattle.std.proofs.lemmas.Bool.{cases_lt}
use Rattle.std.proofs.lemmas.List.{get_or-map, get_or-set_other, get_or-set_same, length-map}
use Rattle.std.proofs.Math.Seq.{map-set_same}
use Rattle.play_types.specs.Scene.{IsConfigured}
use Rattle.play_types.specs.declared.geometry.Geometry.{Geometry}
use Rattle.clip_format.specs.Table.{Entry}
use Rattle.history_model.specs.pictures.Media.{no_size}
use Rattle.play_scene.specs.Frames.{ArePictures, FrameView, IsFrame, frame_at, no_frame, pictures_of, with_sound}
use Rattle.play_sound.specs.Sounds.{AreSounds, sounds_of}
use Rattle.band_render.specs.Rendered.{sizes}

-- the frame of a channel whose sound was written
pub sound_written : (channel : ℕ) (sound : List ℕ) (frames now : List FrameView) → IsConfigured (length frames) channel →
    now ≡ with_sound channel sound frames → frame_at channel now ≡ record (frame_at channel frames) { sound = sound }
sound_written channel sound frames now h is =
    ap (frame_at channel) is
    ∙ get_or-set_same frames (channel - 1) (record (frame_at channel frames) { sound = sound }) no_frame (omega (arith, h.0, h.1))

-- a sound of the same length leaves a frame a frame
pub frame_with_sound : (frame : FrameView) (sound : List ℕ) → IsFrame frame → length sound ≡ length frame.sound → IsFrame (record frame { sound = sound })
frame_with_sound frame sound is long = record { size = is.size; bytes = is.bytes; sound = long ∙ is.sound; lowered = is.lowered }

-- the frames of the tick before are some pictures
pub pictures_there : (frames : List FrameView) (entries : List Entry) → ArePictures (pictures_of frames entries) frames entries
pictures_there frames entries = record { clips = refl; sizes = refl; pixels = λ channel x y configured inside below. refl }

pub sounds_there : (frames : List FrameView) (entries : List Entry) → AreSounds (sounds_of frames entries) frames entries
sounds_there frames entries = record { clips = refl; sizes = refl; samples = λ channel pair side configured below small. refl }

-- frames of the same sizes are as many, and each channel has the same size in both
pub same_many : (prev next : List FrameView) → sizes next ≡ sizes prev → length next ≡ length prev
same_many prev next same =
    sym (length-map next (λ (frame : FrameView). frame.size)) ∙ ap length same ∙ length-map prev (λ (frame : FrameView). frame.size)

size_there : (channel : ℕ) (frames : List FrameView) → IsConfigured (length frames) channel →
    get_or (sizes frames) (channel - 1) no_size ≡ (frame_at channel frames).size
size_there channel frames h =
    get_or-map (λ (frame : FrameView). frame.size) frames (channel - 1) no_frame no_size (omega (arith, h.0, h.1))

pub same_size : (channel : ℕ) (prev next : List FrameView) → sizes next ≡ sizes prev → IsConfigured (length prev) channel →
    (frame_at channel next).size ≡ (frame_at channel prev).size
same_size channel prev next same h =
    sym (size_there channel next (h.0, omega (arith, h.1, same_many prev next same)))
    ∙ ap (λ (list : List Geometry). get_or list (channel - 1) no_size) same
    ∙ size_there channel prev h

-- a sound leaves the sizes of all frames
pub sizes_stay : (channel : ℕ) (sound : List ℕ) (frames now : List FrameView) → now ≡ with_sound channel sound frames → sizes now ≡ sizes frames
sizes_stay channel sound frames now is =
    ap sizes is
    ∙ map-set_same (λ (frame : FrameView). frame.size) frames (channel - 1) (record (frame_at channel frames) { sound = sound }) no_frame refl

-- and what else they have
abbrev silent : FrameView → FrameView
silent frame = record frame { sound = [] }

pub pictures_stay : (P : FrameView → Type 0) (channel other : ℕ) (sound : List ℕ) (frames now : List FrameView) → now ≡ with_sound channel sound frames →
    IsConfigured (length frames) other → P (silent (frame_at other frames)) → P (silent (frame_at other now))
pictures_stay P channel other sound frames now is h p =
    let many : length now ≡ length frames =
    ap length is ∙ length-set frames (channel - 1) (record (frame_at channel frames) { sound = sound }) in
    let same : map silent now ≡ map silent frames =
    ap (map silent) is ∙ map-set_same silent frames (channel - 1) (record (frame_at channel frames) { sound = sound }) no_frame refl in
    subst P
    (sym (sym (get_or-map silent now (other - 1) no_frame no_frame (omega (arith, h.0, h.1, many)))
    ∙ ap (λ (list : List FrameView). get_or list (other - 1) no_frame) same
    ∙ get_or-map silent frames (other - 1) no_frame no_frame (omega (arith, h.0, h.1))))
    p

-- what holds of the frames before one that is replaced still holds
pub frames_more : (P : ℕ → FrameView → Type 0) (at : ℕ) (frame : FrameView) (frames now : List FrameView) → now ≡ set frames at frame →
    ((channel : ℕ) → IsConfigured at channel → P channel (frame_at channel frames)) → P (at + 1) (frame_at (at + 1) now) →
    (channel : ℕ) → IsConfigured (at + 1) channel → P channel (frame_at channel now)
frames_more P at frame frames now is before here channel h =
    ⊎_elim
    (λ (less : channel < at + 1).
    let kept : frame_at channel now ≡ frame_at channel frames =
    ap (frame_at channel) is
    ∙ get_or-set_other frames at (channel - 1) frame no_frame (λ e. omega (arith, e, less, h.0)) in
    subst (P channel) (sym kept) (before channel (h.0, omega (arith, less))))
    (λ (past : at + 1 ≤ channel).
    let same : at + 1 ≡ channel = omega (arith, past, h.1) in
    subst (λ (k : ℕ). P k (frame_at k now)) same here)
    (cases_lt channel (at + 1))
