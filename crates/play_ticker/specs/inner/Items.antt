-- The sets of scenes of the ticks of a history, as they go from the side that makes ticks to the side that writes.
use Rattle.std.specs.Prelude.{◌≡◌, ℕ, ◌+◌, Bool, true, false, List, [], ◌∷◌, ◌++◌, All}
use Rattle.play_types.specs.History.{ticks}
use Rattle.play_types.specs.declared.event.Event.{Event}
use Rattle.play_types.specs.declared.event.Event.TheVariants.{Do, Batch, Tick, Stop}
use Rattle.band_render.specs.Histories.{scenes_after}
use Rattle.scene_pipe.specs.declared.item.Taken.{Taken}
use Rattle.scene_pipe.specs.declared.item.Taken.TheVariants.{Staged, Done}
use Rattle.scene_pipe.specs.declared.item.Returned.{Returned}
use Rattle.scene_pipe.specs.declared.item.Returned.TheVariants.{Free, Broken}
use Rattle.scene_pipe.specs.Items.{fits_taken}

-- the set of the tick after these events
abbrev pub staged_item : ℕ → List Event → Taken
staged_item channels history = Staged (ticks history + 1) (scenes_after history channels)

-- the sets of the ticks among `rest`, which comes after the events `past`
abbrev pub staged_after : ℕ → List Event → List Event → List Taken
staged_after channels past [] = []
staged_after channels past (Do tag cmd ∷ rest) = staged_after channels (past ++ Do tag cmd ∷ []) rest
staged_after channels past (Batch tag cmds ∷ rest) = staged_after channels (past ++ Batch tag cmds ∷ []) rest
staged_after channels past (Tick ∷ rest) = staged_item channels past ∷ staged_after channels (past ++ Tick ∷ []) rest
staged_after channels past (Stop tag ∷ rest) = staged_after channels (past ++ Stop tag ∷ []) rest

-- the sets of all ticks of a history that comes after given events
abbrev pub staged_of : ℕ → List Event → List Event → List Taken
staged_of channels given history = staged_after channels given history

-- whether there is no end mark
abbrev pub is_open : List Taken → Bool
is_open [] = true
is_open (Staged tick scenes ∷ items) = is_open items
is_open (Done ∷ items) = false

-- whether an item reports that an output has failed
abbrev pub is_broken : Returned → Bool
is_broken (Free scenes) = false
is_broken (Broken channel scenes) = true

-- all scenes are of this number of channels
abbrev pub AllFit : ℕ → List Taken → Type 0
AllFit channels items = All (λ item. fits_taken channels item ≡ true) items
