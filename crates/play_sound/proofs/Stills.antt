-- The clips of a media table and the frames of the tick before, as the sounds that stills give.
use Rattle.std.proofs.Common.{◌≡◌, ℕ, zero, suc, ◌+◌, ◌*◌, ◌-◌, ◌<◌, ◌≤◌, Bool, true, false, List, [], ◌∷◌, length, map, get_or, slice_get, unwrap_or, Option, None, refl, sym, ap, ap₂, ◌∙◌, arith, inl, inr, ltb}
use Rattle.std.specs.Prelude.{All, ℤ, pos, ◌+ℤ◌, ◌*ℤ◌, int_div}
use Rattle.std.proofs.lemmas.Bool.{cases_lt, le-ltb, lt-ltb, ltb-true}
use Rattle.std.proofs.lemmas.List.Elements.{All-head, All-tail}
use Rattle.play_types.specs.ClipFile.{ClipView}
use Rattle.play_types.specs.declared.geometry.Geometry.{Geometry}
use Rattle.play_types.specs.declared.setting.TheConstants.{MICROS_PER_UNIT}
use Rattle.play_types.specs.declared.drawn.Drawn.{Drawn}
use Rattle.play_types.specs.declared.drawn.Still.{Still}
use Rattle.play_types.specs.declared.drawn.Still.TheVariants.{Nothing, Colour, Frame, Channel}
use Rattle.play_types.specs.Scene.{NamesConfigured, ShowsConfigured}
use Rattle.clip_format.specs.Table.{Entry}
use Rattle.history_model.specs.pictures.Media.{no_size, sample_of_bytes, size}
use Rattle.history_model.specs.pictures.Sound.{held_to_sample, layer_sample, mixed_sample, played_sample, sample_sum, still_sample}
use Rattle.play_scene.specs.Frames.{FrameView, frame_at, no_frame}
use Rattle.play_sound.specs.Sounds.{AreSounds, Sounds, sample_in, sounds_of}
use Rattle.play_sound.specs.Sounds.{mixed_sample as mixed_at}
use Rattle.play_sound.proofs.Silence.{silent_past}

-- the size of a channel is that of its frame
size_of_list : (frames : List FrameView) (n : ℕ) →
    unwrap_or (slice_get (map (λ (frame : FrameView). frame.size) frames) n) no_size ≡ (get_or frames n no_frame).size
size_of_list [] n = refl
size_of_list (frame ∷ frames) zero = refl
size_of_list (frame ∷ frames) (suc n) = size_of_list frames n

pub size_at : (frames : List FrameView) (clips : List (Option ClipView)) (channel : ℕ) → 1 ≤ channel →
    size (record { channels = map (λ (frame : FrameView). frame.size) frames; clips = clips }) channel ≡ (frame_at channel frames).size
size_at frames clips zero h = absurd (omega (arith, h))
size_at frames clips (suc n) h =
    let same : n ≡ suc n - 1 = omega arith in
    size_of_list frames n ∙ ap (λ (k : ℕ). (get_or frames k no_frame).size) same

-- a sample, or 0 if it is not given
abbrev if_given : Bool → ℤ → ℤ
if_given b one = elim b [ true ↦ one | false ↦ pos 0 ]

chosen : (b : Bool) (one other : ℤ) → (b ≡ true → one ≡ other) → if_given b one ≡ if_given b other
chosen true one other same = same refl
chosen false one other same = refl

given : (b : Bool) (one : ℤ) → b ≡ true → if_given b one ≡ one
given true one same = refl
given false one same = absurd (cc)

-- a channel's sample at the tick before
pub channel_sample : (frames : List FrameView) (entries : List Entry) (channel pair side : ℕ) → 1 ≤ channel →
    pair < (frame_at channel frames).size.pairs →
    still_sample (sounds_of frames entries).setup (sounds_of frames entries).samples pair side (Channel channel)
    ≡ sample_in (frame_at channel frames) pair side
channel_sample frames entries channel pair side one below =
    let sized = ap (λ (g : Geometry). ltb pair g.pairs) (size_at frames (sounds_of frames entries).setup.clips channel one) in
    given (ltb pair (size (sounds_of frames entries).setup channel).pairs) (sample_in (frame_at channel frames) pair side)
    (sized ∙ lt-ltb pair (frame_at channel frames).size.pairs below)

-- the samples of a channel's sound at the tick before
not_given : (b : Bool) (one : ℤ) → b ≡ false → if_given b one ≡ pos 0
not_given true one is = absurd (cc)
not_given false one is = refl

pub channel_sounds : (frames : List FrameView) (entries : List Entry) (channel : ℕ) → 1 ≤ channel →
    length (frame_at channel frames).sound ≡ 4 * (frame_at channel frames).size.pairs → (pair side : ℕ) → side < 2 →
    sample_of_bytes (frame_at channel frames).sound (4 * pair + 2 * side)
    ≡ still_sample (sounds_of frames entries).setup (sounds_of frames entries).samples pair side (Channel channel)
channel_sounds frames entries channel one long pair side small =
    elim (cases_lt pair (frame_at channel frames).size.pairs) [
      | inl below ↦ sym (channel_sample frames entries channel pair side one below)
      | inr past ↦ beyond past
    ]
  where
    beyond : (frame_at channel frames).size.pairs ≤ pair → sample_of_bytes (frame_at channel frames).sound (4 * pair + 2 * side)
        ≡ still_sample (sounds_of frames entries).setup (sounds_of frames entries).samples pair side (Channel channel)
    beyond past =
        let sized = ap (λ (g : Geometry). ltb pair g.pairs) (size_at frames (sounds_of frames entries).setup.clips channel one) in
        silent_past (frame_at channel frames).sound (4 * pair + 2 * side) (omega (arith, long, past))
        ∙ sym (not_given (ltb pair (size (sounds_of frames entries).setup channel).pairs) (sample_in (frame_at channel frames) pair side)
        (sized ∙ le-ltb pair (frame_at channel frames).size.pairs past))

-- sounds of these frames and clips give the samples of the frames
size-sounds : (sounds : Sounds) (frames : List FrameView) (entries : List Entry) (channel : ℕ) → AreSounds sounds frames entries → 1 ≤ channel →
    size sounds.setup channel ≡ (frame_at channel frames).size
size-sounds sounds frames entries zero are one = absurd (omega (arith, one))
size-sounds sounds frames entries (suc n) are one =
    ap (λ (list : List Geometry). unwrap_or (slice_get list n) no_size) are.sizes
    ∙ size_at frames sounds.setup.clips (suc n) one

same_still : (sounds : Sounds) (frames : List FrameView) (entries : List Entry) (pair side : ℕ) (still : Still) → AreSounds sounds frames entries →
    side < 2 → ShowsConfigured (length frames) still →
    still_sample sounds.setup sounds.samples pair side still
    ≡ still_sample (sounds_of frames entries).setup (sounds_of frames entries).samples pair side still
same_still sounds frames entries pair side Nothing are small names = refl
same_still sounds frames entries pair side (Colour value) are small names = refl
same_still sounds frames entries pair side (Frame id frame) are small names =
    ap (λ (clips : List (Option ClipView)). played_sample (unwrap_or (slice_get clips id) None) frame pair side) are.clips
same_still sounds frames entries pair side (Channel channel) are small names =
    let clips = (sounds_of frames entries).setup.clips in
    let frame = frame_at channel frames in
    ap (λ (g : Geometry). if_given (ltb pair g.pairs) (sounds.samples channel pair side)) (size-sounds sounds frames entries channel are names.0)
    ∙ chosen (ltb pair frame.size.pairs) (sounds.samples channel pair side) (sample_in frame pair side)
    (λ below. are.samples channel pair side names (ltb-true pair frame.size.pairs below) small)
    ∙ ap (λ (g : Geometry). if_given (ltb pair g.pairs) (sample_in frame pair side)) (sym (size_at frames clips channel names.0))

-- a layer's sample by those of its two stills
abbrev played : Drawn → ℤ → ℤ → ℤ
played layer new old =
    let before : ℤ = elim (ltb layer.step layer.trans.duration) [
      | true ↦ mixed_sample old new layer.step layer.trans.duration
      | false ↦ new
    ] in
    int_div (before *ℤ layer.volume) MICROS_PER_UNIT

same_layer : (f g : Still → ℤ) (layer : Drawn) → f layer.still ≡ g layer.still → f layer.old ≡ g layer.old → layer_sample f layer ≡ layer_sample g layer
same_layer f g layer new old =
    ap₂ (λ (a b : ℤ). played layer a b) new old

same_sum : (sounds : Sounds) (frames : List FrameView) (entries : List Entry) (pair side : ℕ) (layers : List Drawn) → AreSounds sounds frames entries →
    side < 2 → All (NamesConfigured (length frames)) layers →
    sample_sum (still_sample sounds.setup sounds.samples pair side) layers
    ≡ sample_sum (still_sample (sounds_of frames entries).setup (sounds_of frames entries).samples pair side) layers
same_sum sounds frames entries pair side [] are small names = refl
same_sum sounds frames entries pair side (layer ∷ layers) are small names =
    let named = All-head (NamesConfigured (length frames)) layer layers names in
    ap₂ (λ (a b : ℤ). a +ℤ b)
    (same_layer (still_sample sounds.setup sounds.samples pair side)
    (still_sample (sounds_of frames entries).setup (sounds_of frames entries).samples pair side) layer
    (same_still sounds frames entries pair side layer.still are small named.0)
    (same_still sounds frames entries pair side layer.old are small named.1))
    (same_sum sounds frames entries pair side layers are small (All-tail (NamesConfigured (length frames)) layer layers names))

pub same_sample : (sounds : Sounds) (frames : List FrameView) (entries : List Entry) (layers : List Drawn) (pair side : ℕ) → AreSounds sounds frames entries →
    side < 2 → All (NamesConfigured (length frames)) layers →
    mixed_at sounds layers pair side ≡ mixed_at (sounds_of frames entries) layers pair side
same_sample sounds frames entries layers pair side are small names =
    ap held_to_sample (same_sum sounds frames entries pair side layers are small names)

pub are_sounds : (frames : List FrameView) (entries : List Entry) → AreSounds (sounds_of frames entries) frames entries
are_sounds frames entries = record { clips = refl; sizes = refl; samples = λ channel pair side configured below small. refl }
