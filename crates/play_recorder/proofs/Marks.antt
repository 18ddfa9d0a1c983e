-- A recording goes on, mark by mark, with the commands of its history.
use Rattle.std.proofs.Common.{◌≡◌, ℕ, ◌+◌, ◌≤◌, ◌==◌, Bool, true, false, cond, if◌then◌else◌, List, [], ◌∷◌, ◌++◌, map, inl, inr, refl, sym, ap, ◌∙◌, append_assoc, append-nil, arith}
use Rattle.std.specs.Prelude.{Option, Some, None, option_map, option_and_then, unwrap_or}
use Rattle.std.specs.Option.{option_map_or}
use Rattle.std.proofs.lemmas.Bool.{cases_Bool}
use Rattle.play_types.specs.Commands.{mark_of}
use Rattle.play_types.specs.Shape.{recording_channel}
use Rattle.play_types.specs.declared.command.Cmd.{Cmd}
use Rattle.play_types.specs.declared.shape.Recording.{Recording}
use Rattle.history_model.specs.recordings.Film.{Begun, begun_in, begun_on, first_mark, is_mark_of}
use Rattle.history_model.specs.stage.Act.{Act, act_after}
use Rattle.play_recorder.specs.Finder.{FinderView, HasBegun, IsInTime}
use Rattle.play_recorder.specs.inner.Begun.{begun_next, followed, followed_all, marked}

-- the first mark of a channel after one more command, which may be a mark
abbrev later_mark : ℕ → ℕ → Option Recording → Option ℕ → Option ℕ
later_mark channel t mark None = if option_map_or (λ one. recording_channel one == channel) mark false then Some t else None
later_mark channel t mark (Some at) = Some at

first_mark-more : (channel : ℕ) (acts : List Act) (t : ℕ) (cmd : Cmd)
    → first_mark channel (acts ++ act_after t cmd ∷ []) ≡ later_mark channel t (mark_of cmd) (first_mark channel acts)
first_mark-more channel [] t cmd = refl
first_mark-more channel (act ∷ acts) t cmd = elim (cases_Bool (is_mark_of channel act.cmd)) [
  | inl is ↦ rw is refl
  | inr other ↦ rw other (first_mark-more channel acts t cmd)
]

abbrev finder_at : List ℕ → ℕ → Option Begun → FinderView
finder_at name t begun = record { name = name; ticks = t; begun = begun }

abbrev begun_with : ℕ → ℕ → Option ℕ → Begun
begun_with channel first end = record { channel = channel; first = first; end = end }

-- the recording of a finder after a command that may be a mark
abbrev after_mark : List ℕ → ℕ → Option Begun → Option Recording → Option Begun
after_mark name t begun None = begun
after_mark name t begun (Some mark) = begun_next (finder_at name t begun) mark

followed-mark : (name : List ℕ) (t : ℕ) (begun : Option Begun) (cmd : Cmd)
    → followed (finder_at name t begun) cmd ≡ finder_at name t (after_mark name t begun (mark_of cmd))
followed-mark name t begun cmd = by_mark (mark_of cmd)
  where
    by_mark : (mark : Option Recording) →
        elim mark [
          | None ↦ finder_at name t begun
          | Some one ↦ record (finder_at name t begun) { begun = begun_next (finder_at name t begun) one }
        ] ≡ finder_at name t (after_mark name t begun mark)
    by_mark None = refl
    by_mark (Some one) = refl

-- a recording that has begun, after a command that may be a mark
begun_more : (name : List ℕ) (t channel first : ℕ) (mark : Option Recording) (end : Option ℕ)
    → Some (begun_with channel first (later_mark channel t mark end)) ≡ after_mark name t (Some (begun_with channel first end)) mark
begun_more name t channel first None None = refl
begun_more name t channel first None (Some at) = refl
begun_more name t channel first (Some mark) (Some at) = refl
begun_more name t channel first (Some mark) None = by_test (recording_channel mark == channel)
  where
    by_test : (b : Bool) → Some (begun_with channel first (cond b (Some t) None))
        ≡ Some (cond b (begun_with channel first (Some t)) (begun_with channel first None))
    by_test true = refl
    by_test false = refl

-- no recording has begun before a command that may be a mark
begun_first : (name : List ℕ) (t : ℕ) (mark : Option Recording) →
    elim (option_and_then (begun_on name) mark) [
      | None ↦ None
      | Some channel ↦ Some (begun_with channel t None)
    ] ≡ after_mark name t None mark
begun_first name t None = refl
begun_first name t (Some mark) = by_channel (begun_on name mark)
  where
    by_channel : (found : Option ℕ) →
        elim found [
          | None ↦ None
          | Some channel ↦ Some (begun_with channel t None)
        ] ≡ option_map (λ channel. begun_with channel t None) found
    by_channel None = refl
    by_channel (Some channel) = refl

begun_in-more : (name : List ℕ) (acts : List Act) (t : ℕ) (cmd : Cmd)
    → begun_in name (acts ++ act_after t cmd ∷ []) ≡ after_mark name t (begun_in name acts) (mark_of cmd)
begun_in-more name [] t cmd = begun_first name t (mark_of cmd)
begun_in-more name (act ∷ acts) t cmd = by_channel (begun_in-more name acts t cmd) (option_and_then (begun_on name) (mark_of act.cmd))
  where
    by_channel : begun_in name (acts ++ act_after t cmd ∷ []) ≡ after_mark name t (begun_in name acts) (mark_of cmd) → (found : Option ℕ) →
        elim found [
          | None ↦ begun_in name (acts ++ act_after t cmd ∷ [])
          | Some channel ↦ Some (begun_with channel act.ticks (first_mark channel (acts ++ act_after t cmd ∷ [])))
        ] ≡ after_mark name t (elim found [
          | None ↦ begun_in name acts
          | Some channel ↦ Some (begun_with channel act.ticks (first_mark channel acts))
        ]) (mark_of cmd)
    by_channel rest None = rest
    by_channel rest (Some channel) =
        ap (λ end. Some (begun_with channel act.ticks end)) (first_mark-more channel acts t cmd)
        ∙ begun_more name t channel act.ticks (mark_of cmd) (first_mark channel acts)

-- a finder with the recording of some commands goes on with one more, and with any number
pub followed-knows : (name : List ℕ) (acts : List Act) (t : ℕ) (cmd : Cmd)
    → followed (finder_at name t (begun_in name acts)) cmd ≡ finder_at name t (begun_in name (acts ++ act_after t cmd ∷ []))
followed-knows name acts t cmd =
    followed-mark name t (begun_in name acts) cmd ∙ ap (finder_at name t) (sym (begun_in-more name acts t cmd))

pub followed_all-knows : (name : List ℕ) (acts : List Act) (t : ℕ) (cmds : List Cmd)
    → followed_all (finder_at name t (begun_in name acts)) cmds ≡ finder_at name t (begun_in name (acts ++ map (act_after t) cmds))
followed_all-knows name acts t [] = ap (λ (more : List Act). finder_at name t (begun_in name more)) (sym (append-nil acts))
followed_all-knows name acts t (cmd ∷ cmds) =
    ap (λ finder. followed_all finder cmds) (followed-knows name acts t cmd)
    ∙ followed_all-knows name (acts ++ act_after t cmd ∷ []) t cmds
    ∙ ap (λ (more : List Act). finder_at name t (begun_in name more)) (append_assoc acts (act_after t cmd ∷ []) (map (act_after t) cmds))

-- the name stays
followed-name : (finder : FinderView) (cmd : Cmd) → (followed finder cmd).name ≡ finder.name
followed-name finder cmd = ap (λ (one : FinderView). one.name) (followed-mark finder.name finder.ticks finder.begun cmd)

pub followed_all-name : (finder : FinderView) (cmds : List Cmd) → (followed_all finder cmds).name ≡ finder.name
followed_all-name finder [] = refl
followed_all-name finder (cmd ∷ cmds) = followed_all-name (followed finder cmd) cmds ∙ followed-name finder cmd

-- a recording stays in time
pub IsInTime-later : (ticks : ℕ) (begun : Option Begun) → IsInTime ticks begun → IsInTime (ticks + 1) begun
IsInTime-later ticks None h = tt
IsInTime-later ticks (Some begun) h = by_end begun.end h
  where
    by_end : (end : Option ℕ) → begun.first ≤ unwrap_or end ticks → begun.first ≤ unwrap_or end (ticks + 1)
    by_end None h = omega (arith, h)
    by_end (Some at) h = h

marked-in_time : (ticks : ℕ) (mark : Recording) (channel first : ℕ) (end : Option ℕ) → HasBegun ticks (begun_with channel first end)
    → HasBegun ticks (marked ticks mark (begun_with channel first end))
marked-in_time ticks mark channel first (Some at) h = h
marked-in_time ticks mark channel first None h = by_test (recording_channel mark == channel)
  where
    by_test : (b : Bool) → HasBegun ticks (cond b (begun_with channel first (Some ticks)) (begun_with channel first None))
    by_test true = h
    by_test false = h

begun_at-in_time : (ticks : ℕ) (found : Option ℕ) → IsInTime ticks (option_map (λ channel. begun_with channel ticks None) found)
begun_at-in_time ticks None = tt
begun_at-in_time ticks (Some channel) = omega arith

pub IsInTime-next : (name : List ℕ) (ticks : ℕ) (begun : Option Begun) (mark : Recording) → IsInTime ticks begun
    → IsInTime ticks (begun_next (finder_at name ticks begun) mark)
IsInTime-next name ticks None mark h = begun_at-in_time ticks (begun_on name mark)
IsInTime-next name ticks (Some begun) mark h = marked-in_time ticks mark begun.channel begun.first begun.end h
