-- A film is a clip.
use Rattle.std.proofs.Common.{◌≡◌, ℕ, zero, suc, ◌+◌, ◌-◌, ◌*◌, ◌≤◌, ◌==◌, min, Bool, true, false, cond, List, [], ◌++◌, length, length-append, refl, sym, ◌∙◌, subst, arith}
use Rattle.std.specs.Prelude.{Option, Some, None, option_map, option_and_then, unwrap_or, flat_map, ℤ, pos, negsuc}
use Rattle.std.specs.List.{range_with_len}
use Rattle.std.proofs.Math.Nat.{mul_comm}
use Rattle.std.proofs.lemmas.Bool.Decides.{nat_tests}
use Rattle.std.proofs.lemmas.Option.{none-some, same_Some}
use Rattle.play_types.specs.ClipFile.{ClipView, IsClip}
use Rattle.play_types.specs.Geometry.{IsSize, frame_bytes}
use Rattle.play_types.specs.History.{ticks}
use Rattle.play_types.specs.declared.clip.TheConstants.{MAX_FRAMES}
use Rattle.play_types.specs.declared.event.Event.{Event}
use Rattle.pixel_math.specs.Pixel.{pixel_bytes}
use Rattle.history_model.specs.pictures.Frame.{frame_pixel}
use Rattle.history_model.specs.pictures.Media.{Setup, size}
use Rattle.history_model.specs.pictures.Sound.{frame_sample}
use Rattle.history_model.specs.recordings.Film.{Begun, Span, accepted_commands, before_tick, begun_in, film, film_span, filmed, span_of, span_to}
use Rattle.history_model.specs.scripts.Output.{picture_bytes, raw_frame, sample_bytes, sound_bytes}
use Rattle.history_model.specs.stage.Answer.{pair_samples}

-- the bytes of `count` pieces from the one at `first` on, each of one length
length-pieces : (f : ℕ → List ℕ) (one first count : ℕ) → ((k : ℕ) → length (f k) ≡ one) → length (flat_map f (range_with_len first count)) ≡ one * count
length-pieces f one first zero each = omega arith
length-pieces f one first (suc count) each =
    length-append (f first) (flat_map f (range_with_len (first + 1) count))
    ∙ rw (each first, length-pieces f one (first + 1) count each) (omega arith)

length-picture : (setup : Setup) (history : List Event) (channel : ℕ)
    → length (picture_bytes setup history channel) ≡ 4 * (size setup channel).width * (size setup channel).height
length-picture setup history channel =
    length-pieces (λ y. flat_map (λ x. pixel_bytes (frame_pixel setup history channel x y)) (range_with_len 0 (size setup channel).width))
    (4 * (size setup channel).width) 0 (size setup channel).height
    (λ y. length-pieces (λ x. pixel_bytes (frame_pixel setup history channel x y)) 4 0 (size setup channel).width (λ x. refl))

length-sample : (sample : ℤ) → length (sample_bytes sample) ≡ 2
length-sample (pos n) = refl
length-sample (negsuc n) = refl

length-pair : (setup : Setup) (history : List Event) (channel pair : ℕ) → length (flat_map sample_bytes (pair_samples setup history channel pair)) ≡ 4
length-pair setup history channel pair =
    let left = sample_bytes (frame_sample setup history channel pair 0) in
    let right = sample_bytes (frame_sample setup history channel pair 1) in
    let whole = length-append left (right ++ []) in
    let last = length-append right [] in
    omega (arith, whole, last, length-sample (frame_sample setup history channel pair 0), length-sample (frame_sample setup history channel pair 1))

length-sound : (setup : Setup) (history : List Event) (channel : ℕ) → length (sound_bytes setup history channel) ≡ 4 * (size setup channel).pairs
length-sound setup history channel =
    length-pieces (λ pair. flat_map sample_bytes (pair_samples setup history channel pair)) 4 0 (size setup channel).pairs
    (length-pair setup history channel)

length-raw_frame : (setup : Setup) (history : List Event) (channel : ℕ) → length (raw_frame setup history channel) ≡ frame_bytes (size setup channel)
unfolding raw_frame
length-raw_frame setup history channel =
    length-append (picture_bytes setup history channel) (sound_bytes setup history channel)
    ∙ rw (length-picture setup history channel, length-sound setup history channel) refl

-- there is at least one recorded tick, and at most as many as a clip may have frames
record IsShort (span : Span) : Type 0 where
  some : 1 ≤ span.frames
  few : span.frames ≤ MAX_FRAMES

span_to-short : (channel first end : ℕ) (span : Span) → span_to channel first end ≡ Some span → IsShort span
span_to-short channel first end span found = by_test (end - first == 0) refl found
  where
    by_test : (b : Bool) → (end - first == 0) ≡ b
        → cond b None (Some (record { channel = channel; first = first; frames = min MAX_FRAMES (end - first) })) ≡ Some span → IsShort span
    by_test true is h = absurd (none-some span h)
    by_test false is h =
        let kept : record { channel = channel; first = first; frames = min MAX_FRAMES (end - first) } ≡ span = same_Some _ span h in
        let low : 1 ≤ end - first = grind (arith, nat_tests) in
        subst IsShort kept (record { some = omega (arith, low); few = omega arith })

begun-short : (total : ℕ) (begun : Option Begun) (span : Span) → option_and_then (span_of total) begun ≡ Some span → IsShort span
begun-short total None span found = absurd (none-some span found)
begun-short total (Some begun) span found = span_to-short begun.channel begun.first (unwrap_or begun.end total) span found

film_span-short : (history : List Event) (name : List ℕ) (span : Span) → film_span history name ≡ Some span → IsShort span
unfolding film_span
film_span-short history name span found = begun-short (ticks history) (begun_in name (accepted_commands history)) span found

filmed-clip : (setup : Setup) (history : List Event) (span : Span) → IsShort span
    → IsSize (size setup span.channel).width (size setup span.channel).height (size setup span.channel).pairs → IsClip (filmed setup history span)
unfolding filmed
filmed-clip setup history span short sized =
    let frame : ℕ → List ℕ = λ tick. raw_frame setup (before_tick history tick) span.channel in
    record {
      some_version = omega arith;
      version = omega arith;
      size = sized;
      some_frames = short.some;
      frames = short.few;
      whole = length-pieces frame (frame_bytes (size setup span.channel)) span.first span.frames
          (λ tick. length-raw_frame setup (before_tick history tick) span.channel)
          ∙ mul_comm (frame_bytes (size setup span.channel)) span.frames;
    }

pub film_is_clip : (setup : Setup) (history : List Event) (name : List ℕ) (clip : ClipView) → film setup history name ≡ Some clip
    → IsSize clip.geometry.width clip.geometry.height clip.geometry.pairs → IsClip clip
unfolding film filmed
film_is_clip setup history name clip found sized = by_span (film_span history name) refl found
  where
    by_span : (span : Option Span) → film_span history name ≡ span → option_map (filmed setup history) span ≡ Some clip → IsClip clip
    by_span None is h = absurd (none-some clip h)
    by_span (Some span) is h =
        let made : filmed setup history span ≡ clip = same_Some (filmed setup history span) clip h in
        subst IsClip made (filmed-clip setup history span (film_span-short history name span is)
        (subst (λ (one : ClipView). IsSize one.geometry.width one.geometry.height one.geometry.pairs) (sym made) sized))
