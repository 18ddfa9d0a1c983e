-- The levels of a sound are those of the history.
use Rattle.std.proofs.Common.{◌≡◌, ℕ, zero, suc, ◌+◌, ◌*◌, ◌/◌, ◌<◌, ◌≤◌, List, ◌∷◌, length, map, refl, sym, ap, ap₂, ◌∙◌, arith}
use Rattle.std.specs.Prelude.{unsigned_abs}
use Rattle.std.specs.List.{range_with_len}
use Rattle.play_types.specs.Scene.{IsConfigured}
use Rattle.play_types.specs.declared.event.Event.{Event}
use Rattle.clip_format.specs.Table.{Entry}
use Rattle.history_model.specs.pictures.Media.{Setup}
use Rattle.history_model.specs.pictures.Sound.{last_sample}
use Rattle.history_model.specs.stage.Answer.{numbers_below}
use Rattle.play_scene.specs.Frames.{FrameView, IsFrame, frame_at}
use Rattle.play_sound.specs.Sounds.{AreSounds, sounds_after}
use Rattle.view_status.specs.Levels.{greatest, level_of, loudness}

-- numbers that are equal at each place
same_map : (f g : ℕ → ℕ) (first count : ℕ) → ((k : ℕ) → first ≤ k → k < first + count → f k ≡ g k) → map f (range_with_len first count) ≡ map g (range_with_len first count)
same_map f g first zero same = refl
same_map f g first (suc count) same =
    ap₂ (λ a b. a ∷ b) (same first (omega arith) (omega arith)) (same_map f g (first + 1) count (λ k low high. same k (omega arith) (omega arith)))

-- a sound has four bytes a pair
quarter : (bytes : List ℕ) (pairs : ℕ) → length bytes ≡ 4 * pairs → length bytes / 4 ≡ pairs
quarter bytes pairs long = omega (arith, long)

module _ (setup : Setup) (events : List Event) (entries : List Entry) (frames : List FrameView) (channel : ℕ) (are : AreSounds (sounds_after setup events) frames entries)
    (configured : IsConfigured (length frames) channel) (is : IsFrame (frame_at channel frames)) where
  pub level_of_history : (side : ℕ) → side < 2
      → level_of (frame_at channel frames).sound side
      ≡ greatest (map (λ pair. unsigned_abs (last_sample setup events channel pair side)) (numbers_below (frame_at channel frames).size.pairs))
  level_of_history side small =
      let sound = (frame_at channel frames).sound in
      let pairs = (frame_at channel frames).size.pairs in
      ap (λ (n : ℕ). greatest (map (loudness sound side) (numbers_below n))) (quarter sound pairs is.sound)
      ∙ ap greatest (same_map (loudness sound side) (λ pair. unsigned_abs (last_sample setup events channel pair side)) 0 pairs
      (λ pair low high. ap unsigned_abs (sym (are.samples channel pair side configured (omega (arith, high)) small))))
