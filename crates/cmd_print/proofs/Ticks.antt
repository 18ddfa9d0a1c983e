-- The lines of ticks, one after another.
use Rattle.std.proofs.Common.{◌≡◌, ℕ, ◌+◌, ◌-◌, ◌/◌, ◌%◌, ◌<◌, ◌≤◌, zero, suc, List, [], ◌∷◌, ◌++◌, take, replicate, length, refl, sym, ap, ◌∙◌, subst, arith, append-nil}
use Rattle.std.specs.List.{flat_map}
use Rattle.std.proofs.lemmas.List.{take_all, length-replicate, get_or-replicate}
use Rattle.play_types.specs.Media.{MediaNameView}
use Rattle.play_types.specs.declared.event.Event.TheVariants.{Do, Batch, Tick, Stop}
use Rattle.play_types.specs.declared.event.Tag.{Tag}
use Rattle.play_types.specs.declared.command.Cmd.{Cmd}
use Rattle.play_outside.specs.SinkState.{SinkState}
use Rattle.play_outside.specs.Gathered.{Gathered, Adds}
use Rattle.play_outside.specs.declared.sink.Sent.{Sent}
use Rattle.play_outside.specs.declared.sink.Sent.TheVariants as sent
use Rattle.play_outside.proofs.Gathering.{Adds-first, Adds-turn, Adds-end, Gathered-turn}
use Rattle.history_model.specs.declared.limits.TheConstants.{MAX_TICKS_PER_LINE}
use Rattle.history_model.specs.text.History.{batch_lines, command_line, stop_line, tick_line, tick_lines, text_after, history_text}

-- the numbers of ticks of the full lines
abbrev pub full_lines : ℕ → List ℕ
full_lines times = replicate ((times - 1) / MAX_TICKS_PER_LINE) MAX_TICKS_PER_LINE

pub tick_lines-parts : (times : ℕ) → 1 ≤ times
    → tick_lines times ≡ flat_map tick_line (full_lines times) ++ tick_line ((times - 1) % MAX_TICKS_PER_LINE + 1)
unfolding tick_lines
tick_lines-parts zero some = absurd (omega arith)
tick_lines-parts (suc before) some =
    let e : suc before - 1 ≡ before = omega arith in
    rw e refl

module _ (times at : ℕ) (start waiting more : List ℕ) (first state after : SinkState)
    (added : Gathered (start ++ flat_map tick_line (take at (full_lines times))) waiting first state) where
  inside : at < (times - 1) / MAX_TICKS_PER_LINE → at < length (full_lines times)
  inside below = omega (arith, below, length-replicate {A = ℕ} ((times - 1) / MAX_TICKS_PER_LINE) MAX_TICKS_PER_LINE)

  pub ticks_left : 1 ≤ times → at < (times - 1) / MAX_TICKS_PER_LINE → Adds sent.Failed (waiting ++ tick_line MAX_TICKS_PER_LINE) more state after
      → Adds sent.Failed (start ++ tick_lines times) more first after
  ticks_left some below fails =
      rw (tick_lines-parts times some)
      (Adds-first start (flat_map tick_line (full_lines times)) (tick_line ((times - 1) % MAX_TICKS_PER_LINE + 1)) more first after
      (Adds-turn start tick_line (full_lines times) at 0 waiting more first state after (inside below) added
      (subst (λ n. Adds sent.Failed (waiting ++ tick_line n) more state after) (sym (get_or-replicate ((times - 1) / MAX_TICKS_PER_LINE) at MAX_TICKS_PER_LINE 0 below)) fails)))

  pub ticks_more : at < (times - 1) / MAX_TICKS_PER_LINE → Gathered (waiting ++ tick_line MAX_TICKS_PER_LINE) more state after
      → Gathered (start ++ flat_map tick_line (take (at + 1) (full_lines times))) more first after
  ticks_more below all =
      Gathered-turn start tick_line (full_lines times) at 0 waiting more first state after (inside below) added
      (subst (λ n. Gathered (waiting ++ tick_line n) more state after) (sym (get_or-replicate ((times - 1) / MAX_TICKS_PER_LINE) at MAX_TICKS_PER_LINE 0 below)) all)

  pub ticks_last : (result : Sent) → 1 ≤ times → (times - 1) / MAX_TICKS_PER_LINE ≤ at
      → Adds result (waiting ++ tick_line ((times - 1) % MAX_TICKS_PER_LINE + 1)) more state after → Adds result (start ++ tick_lines times) more first after
  ticks_last result some end last =
      let all : take at (full_lines times) ≡ full_lines times =
      take_all at (full_lines times) (omega (arith, end, length-replicate {A = ℕ} ((times - 1) / MAX_TICKS_PER_LINE) MAX_TICKS_PER_LINE)) in
      Adds-end result start (tick_lines times) (flat_map tick_line (full_lines times)) (tick_line ((times - 1) % MAX_TICKS_PER_LINE + 1)) waiting more first state after
      (tick_lines-parts times some) (rw all at added) last

-- ticks in a row, after others
text_of_ticks : (media : List MediaNameView) (before times : ℕ) → text_after media before (replicate times Tick) ≡ tick_lines (before + times)
text_of_ticks media before zero =
    let e : before + zero ≡ before = omega arith in
    rw e refl
text_of_ticks media before (suc times) =
    let e : before + suc times ≡ (before + 1) + times = omega arith in
    rw e (text_of_ticks media (before + 1) times)

pub history_of_ticks : (media : List MediaNameView) (times : ℕ) → history_text media (replicate times Tick) ≡ tick_lines times
unfolding history_text
history_of_ticks media times =
    let e : 0 + times ≡ times = omega arith in
    text_of_ticks media 0 times ∙ ap tick_lines e

-- an event that is no tick has lines of its own
pub history_of_command : (media : List MediaNameView) (tag : Tag) (cmd : Cmd) → history_text media (Do tag cmd ∷ []) ≡ command_line media tag cmd
unfolding history_text tick_lines
history_of_command media tag cmd = append-nil (command_line media tag cmd)

pub history_of_batch : (media : List MediaNameView) (tag : Tag) (cmds : List Cmd) → history_text media (Batch tag cmds ∷ []) ≡ batch_lines media tag cmds
unfolding history_text tick_lines
history_of_batch media tag cmds = append-nil (batch_lines media tag cmds)

pub history_of_stop : (media : List MediaNameView) (tag : Tag) → history_text media (Stop tag ∷ []) ≡ stop_line tag
unfolding history_text tick_lines
history_of_stop media tag = append-nil (stop_line tag)
