use Rattle.std.proofs.Common.{◌≡◌, ◌+◌, ◌∷◌, ◌++◌, [], ℕ, All, List, get_or, take, drop, sym, ap, ap₂, ◌∙◌, subst, arith, add-one, drop-cons}
use Rattle.std.proofs.lemmas.List.{take_all, take_more}
use Rattle.std.proofs.lemmas.List.Elements.{All-drop}
use Rattle.play_types.specs.declared.command.Cmd.{Cmd}
use Rattle.history_model.specs.stage.Act.{Act, acts_of}
use Rattle.history_model.specs.stage.StageState.{acts_after_all}
use Rattle.history_model.proofs.stage.Changes.{acts_after_all-append}
use Rattle.mixer_state.specs.Past.{Represents}
use Rattle.history_model.specs.commands.Channels.{IsServed}
use Rattle.stage_core.specs.inner.Settled.{CanTake, settings_of, settings_of_all, waiting_with, waits_on}
use Rattle.stage_core.proofs.Mixing.{CanTake-first, CanTake-rest}
use Rattle.stage_core.proofs.Needs.{settings_of_all-same, waits_on-after}
use Rattle.stage_core.proofs.settle.settle_all.Goals as goal

pub settle-requires-clause-served : goal.settle-requires-clause-served
settle-requires-clause-served c =
    let cmds : List Cmd = c.args.cmds.now in
    subst (λ (n : ℕ). IsServed n c.cmd-item.result) (sym c.loop-cmd.invariant.channels)
    (subst (IsServed c.args.mixer.now.channels) (sym c.cmd-item.is) (c.requires.served c.loop-cmd.cmd-index c.cmd-item.result c.loop-cmd-test.true))

pub settle-requires-clause-taken : goal.settle-requires-clause-taken
settle-requires-clause-taken c =
    let cmds : List Cmd = c.args.cmds.now in
    let at : ℕ = c.loop-cmd.cmd-index in
    let cut : drop at cmds ≡ c.cmd-item.result ∷ drop (at + 1) cmds =
    drop-cons cmds at c.cmd-item.result c.loop-cmd-test.true ∙ ap₂ (λ (one : Cmd) (k : ℕ). one ∷ drop k cmds) (sym c.cmd-item.is) (sym (add-one at)) in
    CanTake-first c.cmd-item.result (drop (at + 1) cmds) c.args.ticks c.loop-cmd.mixer
    (subst (λ (left : List Cmd). CanTake left c.args.ticks c.loop-cmd.mixer) cut c.loop-cmd.invariant.taken)

pub settle-requires-clause-memory : goal.settle-requires-clause-memory
settle-requires-clause-memory c =
    let cmds : List Cmd = c.args.cmds.now in
    let at : ℕ = c.loop-cmd.cmd-index in
    let cut : drop at cmds ≡ c.cmd-item.result ∷ drop (at + 1) cmds =
    drop-cons cmds at c.cmd-item.result c.loop-cmd-test.true ∙ ap₂ (λ (one : Cmd) (k : ℕ). one ∷ drop k cmds) (sym c.cmd-item.is) (sym (add-one at)) in
    let before : ℕ → ℕ = waits_on c.loop-cmd.mixer in
    let all : settings_of_all before (drop at cmds)
    ≡ settings_of before c.cmd-item.result + settings_of_all (waiting_with c.cmd-item.result before) (drop (at + 1) cmds) = ap (settings_of_all before) cut in
    omega (arith, all, c.loop-cmd.invariant.memory)

pub loop-cmd-preserved : goal.loop-cmd-preserved
loop-cmd-preserved c =
    let cmds : List Cmd = c.args.cmds.now in
    let at : ℕ = c.loop-cmd.cmd-index in
    let cut : drop at cmds ≡ c.cmd-item.result ∷ drop (at + 1) cmds =
    drop-cons cmds at c.cmd-item.result c.loop-cmd-test.true ∙ ap₂ (λ (one : Cmd) (k : ℕ). one ∷ drop k cmds) (sym c.cmd-item.is) (sym (add-one at)) in
    let rest : List Cmd = drop (at + 1) cmds in
    let before : ℕ → ℕ = waits_on c.loop-cmd.mixer in
    let all : settings_of_all before (drop at cmds)
    ≡ settings_of before c.cmd-item.result + settings_of_all (waiting_with c.cmd-item.result before) rest = ap (settings_of_all before) cut in
    let can : CanTake (c.cmd-item.result ∷ rest) c.args.ticks c.loop-cmd.mixer =
    subst (λ (left : List Cmd). CanTake left c.args.ticks c.loop-cmd.mixer) cut c.loop-cmd.invariant.taken in
    let each : All (IsServed c.loop-cmd.mixer.channels) rest =
    subst (λ (n : ℕ). All (IsServed n) rest) (sym c.loop-cmd.invariant.channels) (All-drop (IsServed c.args.mixer.now.channels) (at + 1) cmds c.requires.served) in
    let same : settings_of_all (waiting_with c.cmd-item.result before) rest ≡ settings_of_all (waits_on c.settle.new.mixer) rest =
    settings_of_all-same c.loop-cmd.mixer.channels rest (waiting_with c.cmd-item.result before) (waits_on c.settle.new.mixer) each
    (waits_on-after c.cmd-item.result c.loop-cmd.mixer c.settle.new.mixer can.acts c.args.ticks can.past (c.settle.ensures.past can.acts can.past) c.settle.ensures.channels) in
    let so_far : List Act → List Act = acts_after_all c.args.ticks (take at cmds) in
    record {
      channels = c.settle.ensures.channels ∙ c.loop-cmd.invariant.channels;
      taken =
          CanTake-rest c.cmd-item.result rest c.args.ticks c.loop-cmd.mixer can c.settle.new.mixer c.settle.ensures.past;
      memory = omega (arith, all, same, c.loop-cmd.invariant.memory, c.settle.ensures.spare);
      past = λ earlier represents.
          subst (λ (past : List Act). Represents c.settle.new.mixer past c.args.ticks)
          (sym (ap (λ (some : List Cmd). acts_after_all c.args.ticks some earlier) (take_more cmds at c.cmd-item.result c.loop-cmd-test.true)
          ∙ acts_after_all-append c.args.ticks (take at cmds) (get_or cmds at c.cmd-item.result ∷ []) earlier
          ∙ ap (λ (one : Cmd). acts_of c.args.ticks one ++ so_far earlier) (sym c.cmd-item.is)))
          (c.settle.ensures.past (so_far earlier) (c.loop-cmd.invariant.past earlier represents));
    }

pub returns-clause-past : goal.returns-clause-past
returns-clause-past c earlier represents =
    let cmds : List Cmd = c.args.cmds.now in
    let at : ℕ = c.loop-cmd.cmd-index in
    subst (λ (some : List Cmd). Represents c.loop-cmd.mixer (acts_after_all c.args.ticks some earlier) c.args.ticks)
    (take_all at cmds (omega (arith, c.loop-cmd-test.false))) (c.loop-cmd.invariant.past earlier represents)
