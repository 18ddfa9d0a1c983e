-- What is written for a tick of channels without sound, and frames with equal pixels.
use Rattle.std.proofs.Common.{◌≡◌, ℕ, zero, suc, ◌+◌, ◌<◌, ◌≤◌, List, [], ◌∷◌, ◌++◌, refl, ap, ap₂, arith, unwrap_or}
use Rattle.std.proofs.lemmas.List.Elements.{All-head, All-tail}
use Rattle.std.specs.Prelude.{All, map, flat_map, slice_get}
use Rattle.std.specs.List.{range_with_len}
use Rattle.play_types.specs.Config.{ChannelView}
use Rattle.play_types.specs.History.{ticks}
use Rattle.play_types.specs.declared.event.Event.{Event}
use Rattle.pixel_math.specs.Pixel.{PixelView, pixel_bytes}
use Rattle.history_model.specs.stage.Answer.{numbers_below, pair_samples, channel_numbers}
use Rattle.history_model.specs.text.Frames.{frame_bytes}
use Rattle.history_model.specs.pictures.Media.{size, no_size}
use Rattle.history_model.specs.scripts.History.{Playout, setup_of, channel_size}
use Rattle.history_model.specs.scripts.Output.{sample_bytes, sound_bytes, picture_bytes, channel_output, tick_output}

-- lists of equal pieces are equal
same_pieces : {A : Type 0} (f g : ℕ → List A) (first count : ℕ) →
    ((k : ℕ) → first ≤ k → k < first + count → f k ≡ g k) →
    flat_map f (range_with_len first count) ≡ flat_map g (range_with_len first count)
same_pieces f g first zero same = refl
same_pieces f g first (suc count) same =
    ap₂ (λ a b. a ++ b) (same first (omega arith) (omega arith))
    (same_pieces f g (first + 1) count (λ k low high. same k (omega arith) (omega arith)))

-- frames of equal pixels have equal bytes
pub frame_bytes-same : (width height : ℕ) (f g : ℕ → ℕ → PixelView) →
    ((x y : ℕ) → x < width → y < height → f x y ≡ g x y) → frame_bytes width height f ≡ frame_bytes width height g
frame_bytes-same width height f g same =
    same_pieces (λ y. flat_map (λ x. pixel_bytes (f x y)) (range_with_len 0 width))
    (λ y. flat_map (λ x. pixel_bytes (g x y)) (range_with_len 0 width)) 0 height
    (λ y low high. same_pieces (λ x. pixel_bytes (f x y)) (λ x. pixel_bytes (g x y)) 0 width
    (λ x left right. ap pixel_bytes (same x y (omega arith) (omega arith))))

-- if no channel has sound, none of them has a pair
no_pairs_at : (channels : List ChannelView) → All (λ channel. channel.pairs ≡ 0) channels → (at : ℕ) →
    (unwrap_or (slice_get (map channel_size channels) at) no_size).pairs ≡ 0
no_pairs_at [] silent at = refl
no_pairs_at (channel ∷ channels) silent zero = All-head (λ (one : ChannelView). one.pairs ≡ 0) channel channels silent
no_pairs_at (channel ∷ channels) silent (suc at) =
    no_pairs_at channels (All-tail (λ (one : ChannelView). one.pairs ≡ 0) channel channels silent) at

pub no_pairs : (playout : Playout) → All (λ channel. channel.pairs ≡ 0) playout.config.channels → (channel : ℕ) →
    (size (setup_of playout) channel).pairs ≡ 0
no_pairs playout silent zero = refl
no_pairs playout silent (suc before) = no_pairs_at playout.config.channels silent before

-- a channel without pairs has no bytes of sound
sound_bytes-none : (playout : Playout) (events : List Event) (channel : ℕ) →
    All (λ channel. channel.pairs ≡ 0) playout.config.channels → sound_bytes (setup_of playout) events channel ≡ []
sound_bytes-none playout events channel silent =
    ap (λ count. flat_map (λ pair. flat_map sample_bytes (pair_samples (setup_of playout) events channel pair)) (numbers_below count))
    (no_pairs playout silent channel)

-- what is written for a tick without sound: the picture of each channel alone
pub tick_output-silent : (playout : Playout) (events : List Event) →
    All (λ channel. channel.pairs ≡ 0) playout.config.channels →
    tick_output playout events
    ≡ flat_map
    (λ channel. channel_output playout (ticks events + 1) channel (picture_bytes (setup_of playout) events channel) [])
    (channel_numbers (setup_of playout))
unfolding tick_output
tick_output-silent playout events silent =
    λ i. flat_map
    (λ channel.
    channel_output playout (ticks events + 1) channel (picture_bytes (setup_of playout) events channel)
    (sound_bytes-none playout events channel silent i))
    (channel_numbers (setup_of playout))
