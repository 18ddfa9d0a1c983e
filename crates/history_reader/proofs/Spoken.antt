-- A text of one connection, line by line: whether its next line is one of a history, and its events.
use Rattle.std.proofs.Common.{◌≡◌, ℕ, false, cond, ◌||◌, ◌&&◌, Bool, List, [], ◌∷◌, ◌++◌, ◌+◌, length, ap, ◌∙◌, if◌then◌else◌}
use Rattle.std.specs.Prelude.{Some, None}
use Rattle.std.specs.List.{list_any}
use Rattle.amcp_text.specs.Lines.{is_line_end, line_of_text}
use Rattle.play_types.specs.declared.event.Tag.{Tag}
use Rattle.play_types.specs.declared.reply.Reply.TheVariants as reply
use Rattle.history_model.specs.sessions.Line.{LineMeaning, line_meaning}
use Rattle.history_model.specs.sessions.Session.{Local, Step, step_of_meaning}
use Rattle.history_model.specs.scripts.Line.{ScriptLine, Said}
use Rattle.history_model.specs.scripts.History.{PlayedLine, Playout, Turn, ends_at, events_at, goes_on, is_kill, said_step, script_events, step_events, turn_of}
use Rattle.history_model.specs.scripts.Memory.{reply_at}
use Rattle.history_model.specs.scripts.Output.{step_reply}
use Rattle.history_model.proofs.Outputs.{script_events-snoc}
use Rattle.history_model.proofs.Played.{HasRun, Progress, step_then, turn_then}
use Rattle.history_model.proofs.Sides.{own_step, said_step-own}
use Rattle.history_model.proofs.Tags.{text_by-own}
use Rattle.history_reader.specs.HistoryText.{fault_after, is_history_line, is_kept, is_some_event, past_of}
use Rattle.history_reader.proofs.FaultyLines.{fault-snoc}

-- a line of the connection, after lines of which none is faulty
module _ (playout : Playout) (tag : Tag) (lines : List PlayedLine) (so_far : Progress) (h : HasRun playout tag lines so_far) (line : PlayedLine) (text : List ℕ) where
  module _ (meaning : LineMeaning) (says : line.line ≡ Said tag text) (one : list_any is_line_end text ≡ false) (kept : line.given_up ≡ false)
      (means : line_meaning playout.config playout.names (line_of_text text) ≡ meaning) where
    -- what is done for it
    abbrev step : Step
    step = step_then so_far meaning

    abbrev turn : Turn
    turn = turn_then playout tag line so_far

    found : said_step playout lines line tag ≡ Some step
    found =
        let own : own_step playout tag lines text line.given_up ≡ step =
        λ i. if kept i then Local reply.NoMemory else step_of_meaning (h.asked i) (means i) in
        said_step-own playout tag lines line text (text_by-own tag line text says) one h.side ∙ (λ i. cond (h.ended i) None (Some (own i)))

    -- its events
    pub said_events : script_events playout (lines ++ line ∷ []) ≡ so_far.events ++ step_events turn (Some step)
    said_events =
        script_events-snoc playout lines line h.goes
        ∙ ap (λ (l : ScriptLine). script_events playout lines ++ events_at playout (past_of playout lines) line l) says
        ∙ (λ i. h.events i ++ step_events (turn_of playout (h.events i) line tag) (found i))

    -- whether the run ends at it
    pub said_ends : ends_at playout lines line line.line ≡ is_kill (Some step)
    said_ends = ap (ends_at playout lines line) says ∙ ap is_kill found

    -- whether it is one of a history
    pub said_right : is_history_line playout lines line ≡ (is_some_event (step_events turn (Some step)) || is_kept (step_reply turn (Some step)))
    said_right =
        ap (λ (l : ScriptLine). goes_on playout lines && (is_some_event (events_at playout (past_of playout lines) line l) || is_kept (reply_at playout lines line l))) says
        ∙ (λ i. h.goes i && (is_some_event (step_events (turn_of playout (h.events i) line tag) (found i)) || is_kept (step_reply (turn_of playout (h.events i) line tag) (found i))))

    -- the first faulty line among the lines and this one
    pub said_fault : fault_after playout [] lines ≡ None
        → fault_after playout [] (lines ++ line ∷ [])
        ≡ cond (is_some_event (step_events turn (Some step)) || is_kept (step_reply turn (Some step))) None (Some (length lines + 1))
    said_fault right = fault-snoc playout lines line right ∙ ap (λ (b : Bool). cond b None (Some (length lines + 1))) said_right
