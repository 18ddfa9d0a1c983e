-- The bytes that are written for a tick are those of its answer.
use Rattle.std.proofs.Common.{◌≡◌, ℕ, zero, suc, ◌+◌, List, [], ◌∷◌, ◌++◌, length, map, refl, sym, ap, ◌∙◌}
use Rattle.std.specs.Prelude.{flat_map}
use Rattle.std.specs.List.{enumerate_from, range_with_len}
use Rattle.std.proofs.lemmas.Grind.{flat_map-append}
use Rattle.std.proofs.lemmas.List.Folds.{flat_map-map}
use Rattle.play_types.specs.History.{ticks}
use Rattle.play_types.specs.declared.event.Event.{Event}
use Rattle.play_types.specs.declared.event.Event.TheVariants.{Tick}
use Rattle.pixel_math.specs.Pixel.{pixel_bytes}
use Rattle.history_model.specs.pictures.Frame.{frame_pixel}
use Rattle.history_model.specs.pictures.Media.{Setup, size}
use Rattle.history_model.specs.scripts.History.{Playout, setup_of}
use Rattle.history_model.specs.scripts.Output.{channel_output, picture_bytes, sample_bytes, sound_bytes, tick_output, written_frame}
use Rattle.history_model.specs.stage.Answer.{ChannelFrame, Frames, answer, channel_frame, channel_numbers, numbers_below, pair_samples, row_pixels}

-- lists of the elements of lists, one after another
flat_map-flat_map : {A B C : Type 0} (f : B → List C) (g : A → List B) (xs : List A) → flat_map f (flat_map g xs) ≡ flat_map (λ x. flat_map f (g x)) xs
flat_map-flat_map f g [] = refl
flat_map-flat_map f g (x ∷ xs) =
    flat_map-append f (g x) (flat_map g xs) ∙ ap (λ rest. flat_map f (g x) ++ rest) (flat_map-flat_map f g xs)

pub picture-answer : (setup : Setup) (history : List Event) (channel : ℕ) →
    picture_bytes setup history channel ≡ flat_map pixel_bytes (channel_frame setup history channel).pixels
picture-answer setup history channel =
    let rows : List ℕ = numbers_below (size setup channel).height in
    let columns : List ℕ = numbers_below (size setup channel).width in
    sym (flat_map-flat_map pixel_bytes (row_pixels setup history channel) rows
    ∙ (λ i. flat_map (λ y. flat_map-map pixel_bytes (λ x. frame_pixel setup history channel x y) columns i) rows))

pub sound-answer : (setup : Setup) (history : List Event) (channel : ℕ) →
    sound_bytes setup history channel ≡ flat_map sample_bytes (channel_frame setup history channel).samples
sound-answer setup history channel =
    sym (flat_map-flat_map sample_bytes (pair_samples setup history channel) (numbers_below (size setup channel).pairs))

-- numbers, each with the value of a function
numbered : {A : Type 0} (f : ℕ → A) (first count : ℕ) →
    enumerate_from first (map f (range_with_len first count)) ≡ map (λ n. (n, f n)) (range_with_len first count)
numbered f first zero = refl
numbered f first (suc count) = ap (λ rest. (first, f first) ∷ rest) (numbered f (first + 1) count)

frames_of : (one other : List ChannelFrame) → Frames one ≡ Frames other → one ≡ other
frames_of one other e = cc

pub tick-answer : (playout : Playout) (history : List Event) (frames : List ChannelFrame) → answer (setup_of playout) history Tick ≡ Frames frames →
    tick_output playout history ≡ flat_map (written_frame playout (ticks history + 1)) (enumerate_from 1 frames)
unfolding answer tick_output
tick-answer playout history frames e =
    let setup : Setup = setup_of playout in
    let tick : ℕ = ticks history + 1 in
    let numbers : List ℕ = channel_numbers setup in
    let shown = frames_of (map (channel_frame setup history) numbers) frames e in
    (λ i. flat_map (λ channel. channel_output playout tick channel (picture-answer setup history channel i) (sound-answer setup history channel i)) numbers)
    ∙ sym (flat_map-map (written_frame playout tick) (λ channel. (channel, channel_frame setup history channel)) numbers)
    ∙ ap (flat_map (written_frame playout tick)) (sym (numbered (channel_frame setup history) 1 (length setup.channels)))
    ∙ ap (λ fs. flat_map (written_frame playout tick) (enumerate_from 1 fs)) shown
