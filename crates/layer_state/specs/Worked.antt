-- Words for the worked examples: what a layer shows, tick by tick.
use Rattle.std.specs.Prelude.{ℕ, zero, suc, Some, None, List, [], ◌∷◌}
use Rattle.play_types.specs.Transition.{cut}
use Rattle.play_types.specs.declared.transition.Kind.TheVariants.{Mix}
use Rattle.play_types.specs.declared.take.Spec.{Spec}
use Rattle.play_types.specs.declared.take.Spec.TheVariants.{Clip, Colour}
use Rattle.history_model.specs.Worked.{rightward}
use Rattle.history_model.specs.stage.Life.{Life, after, ready}
use Rattle.layer_state.specs.declared.shown.Shown.{Shown}
use Rattle.layer_state.specs.Shown.{shown_of}

-- what a layer shows at each of the next `n` ticks
abbrev pub pictures : ℕ → Life → List Shown
pictures zero layer = []
pictures (suc n) layer = shown_of (ready layer).foreground ∷ pictures n (after layer 1)

-- a frame of a producer, with a cut
abbrev pub with_cut : Spec → ℕ → Shown
with_cut spec frame = record { now = Some (spec, frame); old = None; trans = cut; step = 0 }

-- frame `frame` of clip 1, and the colours red and blue
abbrev pub shows_clip : ℕ → Shown
shows_clip frame = with_cut (Clip 1) frame

abbrev pub shows_red : Shown
shows_red = with_cut (Colour 0xFFFF0000) 0

abbrev pub shows_blue : Shown
shows_blue = with_cut (Colour 0xFF0000FF) 0

-- blue over frame `frame` of clip 1, at a step of a mix
abbrev pub mixes_blue : ℕ → ℕ → ℕ → Shown
mixes_blue frame step duration =
    record { now = Some (Colour 0xFF0000FF, 0); old = Some (Clip 1, frame); trans = rightward Mix duration; step = step }

-- a layer without a foreground
abbrev pub nothing : Shown
nothing = record { now = None; old = None; trans = cut; step = 0 }
