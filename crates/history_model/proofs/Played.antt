-- A script of one connection, line by line: its history and its output so far, and those of the next line.
use Rattle.std.proofs.Common.{◌≡◌, ℕ, true, false, cond, ◌||◌, List, [], ◌∷◌, ◌++◌, replicate, refl, ap, ◌∙◌, if◌then◌else◌}
use Rattle.std.specs.Prelude.{Some, None}
use Rattle.std.specs.List.{cons_option, list_any}
use Rattle.amcp_text.specs.Lines.{is_line_end, line_of_text}
use Rattle.play_types.specs.declared.event.Event.{Event}
use Rattle.play_types.specs.declared.event.Event.TheVariants as event
use Rattle.play_types.specs.declared.event.Tag.{Tag}
use Rattle.play_types.specs.declared.parsed.Parsed.{Parsed}
use Rattle.play_types.specs.declared.reply.Reply.TheVariants as reply
use Rattle.history_model.specs.sessions.Request.{text_token}
use Rattle.history_model.specs.sessions.Line.{LineMeaning, asked_by, line_meaning}
use Rattle.history_model.specs.sessions.Session.{Step, Local, Ask, AskBatch, KillServer, EndConnection, Skip, asks, is_end, line_steps, step_of_meaning}
use Rattle.history_model.specs.scripts.Line.{ScriptLine, Said, Ticks}
use Rattle.history_model.specs.scripts.History.{PlayedLine, Playout, Turn, ends_at, events_at, given_up_of, goes_on, is_kill, said_step, script_events, step_events, stream_of, text_by, texts_of, turn_of}
use Rattle.history_model.specs.scripts.Output.{answer_output, output_at, script_output, step_reply, ticks_output}
use Rattle.history_model.proofs.Outputs.{goes_on-none, goes_on-snoc, script_events-none, script_events-snoc, script_output-none, script_output-snoc}
use Rattle.history_model.proofs.Besides.{same_asks, same_ended}
use Rattle.history_model.proofs.Sides.{Side, Side-none, Side-other, Side-said, asked_of, asked_of-said, has_ended, has_ended-said, own_step, said_step-own}
use Rattle.history_model.proofs.Tags.{text_by-own}

-- what the connection asked for so far, and the history and the output of the script
pub record Progress : Type 0 where
  pub asked : List Parsed
  pub events : List Event
  pub output : List ℕ

-- after these lines the run and the connection go on, with this progress
pub record HasRun (playout : Playout) (tag : Tag) (lines : List PlayedLine) (so_far : Progress) : Type 0 where
  pub goes : goes_on playout lines ≡ true
  pub events : script_events playout lines ≡ so_far.events
  pub output : script_output playout lines ≡ so_far.output
  pub side : Side tag lines
  pub asked : asked_of playout tag lines ≡ so_far.asked
  pub ended : has_ended playout tag lines ≡ false

-- before the first line
abbrev pub nothing : Progress
nothing = record { asked = []; events = []; output = [] }

pub run_none : (playout : Playout) (tag : Tag) → HasRun playout tag [] nothing
unfolding stream_of texts_of given_up_of asks line_steps
run_none playout tag = record {
  goes = goes_on-none playout;
  events = script_events-none playout;
  output = script_output-none playout;
  side = Side-none tag;
  asked = refl;
  ended = refl;
}

-- the step of a line of the connection, by its meaning
abbrev pub step_then : Progress → LineMeaning → Step
step_then so_far meaning = step_of_meaning so_far.asked meaning

abbrev pub turn_then : Playout → Tag → PlayedLine → Progress → Turn
turn_then playout tag line so_far = turn_of playout so_far.events line tag

abbrev pub progress_said : Turn → Progress → List ℕ → LineMeaning → Progress
progress_said turn so_far text meaning = record {
  asked = so_far.asked ++ cons_option (asked_by meaning) [];
  events = so_far.events ++ step_events turn (Some (step_then so_far meaning));
  output = so_far.output ++ answer_output turn.playout turn.tag (text_token text) (step_reply turn (Some (step_then so_far meaning)));
}

-- a step that ends nothing is no KILL
pub no_kill : (step : Step) → is_end step ≡ false → is_kill (Some step) ≡ false
no_kill (Local answer) goes = refl
no_kill (Ask command) goes = refl
no_kill (AskBatch commands) goes = refl
no_kill KillServer goes = cc
no_kill EndConnection goes = refl
no_kill Skip goes = refl

module _ (playout : Playout) (tag : Tag) (lines : List PlayedLine) (so_far : Progress) (h : HasRun playout tag lines so_far) (line : PlayedLine) where
  -- a line of the connection with this text, which was not given up
  pub run_said : (text : List ℕ) (meaning : LineMeaning) → line.line ≡ Said tag text → list_any is_line_end text ≡ false → line.given_up ≡ false →
      line_meaning playout.config playout.names (line_of_text text) ≡ meaning → is_end (step_then so_far meaning) ≡ false →
      HasRun playout tag (lines ++ line ∷ []) (progress_said (turn_then playout tag line so_far) so_far text meaning)
  run_said text meaning says one kept means goes =
      let said = text_by-own tag line text says in
      let step : Step = step_then so_far meaning in
      let own : own_step playout tag lines text line.given_up ≡ step =
      λ i. if kept i then Local reply.NoMemory else step_of_meaning (h.asked i) (means i) in
      let found : said_step playout lines line tag ≡ Some step =
      said_step-own playout tag lines line text said one h.side ∙ (λ i. cond (h.ended i) None (Some (own i))) in
      record {
        goes = goes_on-snoc playout lines line h.goes (ap (ends_at playout lines line) says ∙ ap is_kill found ∙ no_kill step goes);
        events =
            script_events-snoc playout lines line h.goes
            ∙ ap (λ (l : ScriptLine). script_events playout lines ++ events_at playout (record { lines = lines; events = script_events playout lines }) line l) says
            ∙ (λ i. h.events i ++ step_events (turn_of playout (h.events i) line tag) (found i));
        output =
            script_output-snoc playout lines line h.goes
            ∙ ap (λ (l : ScriptLine). script_output playout lines ++ output_at playout lines line l) says
            ∙ (λ i. h.output i ++ answer_output playout tag (text_token text) (step_reply (turn_of playout (h.events i) line tag) (found i)));
        side = Side-said tag lines line text said one h.side;
        asked =
            asked_of-said playout tag lines line text said one h.side
            ∙ (λ i. h.asked i ++ cons_option (if kept i then None else asked_by (means i)) []);
        ended =
            has_ended-said playout tag lines line text said one h.side
            ∙ (λ i. h.ended i || is_end (own i)) ∙ goes;
      }

  -- a line of ticks
  pub run_ticks : (count : ℕ) → line.line ≡ Ticks count →
      HasRun playout tag (lines ++ line ∷ [])
      (record {
        asked = so_far.asked;
        events = so_far.events ++ replicate count event.Tick;
        output = so_far.output ++ ticks_output playout so_far.events count;
      })
  run_ticks count is =
      let other = ap (text_by tag) is in
      record {
        goes = goes_on-snoc playout lines line h.goes (ap (ends_at playout lines line) is);
        events =
            script_events-snoc playout lines line h.goes
            ∙ ap (λ (l : ScriptLine). script_events playout lines ++ events_at playout (record { lines = lines; events = script_events playout lines }) line l) is
            ∙ (λ i. h.events i ++ replicate count event.Tick);
        output =
            script_output-snoc playout lines line h.goes
            ∙ ap (λ (l : ScriptLine). script_output playout lines ++ output_at playout lines line l) is
            ∙ (λ i. h.output i ++ ticks_output playout (h.events i) count);
        side = Side-other tag lines line other h.side;
        asked = same_asks playout tag lines line other ∙ h.asked;
        ended = same_ended playout tag lines line other ∙ h.ended;
      }
