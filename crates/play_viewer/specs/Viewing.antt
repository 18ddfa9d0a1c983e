-- What a viewing does, by what its desk records.
use Rattle.std.specs.Prelude.{◌≡◌, ◌⊎◌, ℕ, Bool, true, false, Option, List, [], ◌∷◌, ◌++◌, Result, Ok, Err}
use Rattle.play_types.specs.declared.event.Event.{Event}
use Rattle.history_model.specs.scripts.History.{Playout}
use Rattle.http_pages.specs.declared.page.Page.{Page}
use Rattle.server_setup.specs.declared.fault.RunFault.{RunFault}
use Rattle.server_setup.specs.declared.fault.RunFault.TheVariants.{Device}
use Rattle.live_view.specs.Faults.{RefusesLog, TakesLog}
use Rattle.live_view.specs.History.{history_of}
use Rattle.live_view.specs.Messages.{messages_due, sent_after}
use Rattle.live_view.specs.Page.{IsPage, PageSource}
use Rattle.play_viewer.specs.Moves.{DeskState, Move, Opened, Took, Wanted, Gave, Waited, Sent, Ended, Said, after_fault, after_move, after_moves}

-- what is viewed: the playout of the log, and whether pictures are wanted
pub record Viewed : Type 0 where
  pub playout : Playout
  pub pictures : Bool

-- the bytes of the log that were taken
abbrev pub bytes_in : List Move → List ℕ
bytes_in [] = []
bytes_in (Opened opening ∷ before) = bytes_in before
bytes_in (Took bytes ∷ before) = bytes_in before ++ bytes
bytes_in (Wanted path query ∷ before) = bytes_in before
bytes_in (Gave page ∷ before) = bytes_in before
bytes_in (Waited ∷ before) = bytes_in before
bytes_in (Sent messages ∷ before) = bytes_in before
bytes_in (Ended ∷ before) = bytes_in before
bytes_in (Said line ∷ before) = bytes_in before

-- the history of these bytes
abbrev pub events_in : Playout → List Move → List Event
events_in playout moves = history_of playout (bytes_in moves)

-- the number of ticks up to the last one whose status messages were sent
abbrev pub sent_in : Playout → List Move → ℕ
sent_in playout [] = 0
sent_in playout (Opened opening ∷ before) = sent_in playout before
sent_in playout (Took bytes ∷ before) = sent_in playout before
sent_in playout (Wanted path query ∷ before) = sent_in playout before
sent_in playout (Gave page ∷ before) = sent_in playout before
sent_in playout (Waited ∷ before) = sent_in playout before
sent_in playout (Sent messages ∷ before) = sent_after (sent_in playout before) (events_in playout before)
sent_in playout (Ended ∷ before) = sent_in playout before
sent_in playout (Said line ∷ before) = sent_in playout before

-- whether nothing but requests and answers came since messages were sent
abbrev pub is_settled : List Move → Bool
is_settled [] = false
is_settled (Opened opening ∷ before) = false
is_settled (Took bytes ∷ before) = false
is_settled (Wanted path query ∷ before) = is_settled before
is_settled (Gave page ∷ before) = is_settled before
is_settled (Waited ∷ before) = false
is_settled (Sent messages ∷ before) = true
is_settled (Ended ∷ before) = false
is_settled (Said line ∷ before) = false

-- the last move is neither a request, which wants its answer, nor that nothing is there for now, which wants the messages
abbrev pub OwesNothing : List Move → Type 0
OwesNothing [] = Unit {0}
OwesNothing (Opened opening ∷ before) = Unit {0}
OwesNothing (Took bytes ∷ before) = Unit {0}
OwesNothing (Wanted path query ∷ before) = ⊥
OwesNothing (Gave page ∷ before) = Unit {0}
OwesNothing (Waited ∷ before) = ⊥
OwesNothing (Sent messages ∷ before) = Unit {0}
OwesNothing (Ended ∷ before) = Unit {0}
OwesNothing (Said line ∷ before) = Unit {0}

-- a viewing may go on after these moves: they owe nothing, and the bytes that were taken are those of a log
abbrev pub MayGoOn : Viewed → List Move → Type 0
MayGoOn viewed moves = OwesNothing moves × TakesLog viewed.playout (bytes_in moves)

-- what the pages after these moves are made of
abbrev pub source_after : Viewed → List Move → Bool → PageSource
source_after viewed moves fresh = record {
  playout = viewed.playout;
  events = events_in viewed.playout moves;
  pictures = viewed.pictures;
  fresh = fresh;
}

-- the page at a path for a query is that of all bytes that were taken. If pictures are wanted, and nothing but requests and answers came
-- since messages were sent, it has the pictures and the levels of the last tick
pub record IsPageAfter (viewed : Viewed) (moves : List Move) (path : List ℕ) (query : Option (List ℕ)) (page : Option Page) : Type 0 where
  pub fresh : Bool
  pub is_fresh : is_settled moves ≡ true → viewed.pictures ≡ true → fresh ≡ true
  pub is_page : IsPage (source_after viewed moves fresh) path query page

-- the page answers the request that is the last move
abbrev pub AnswersLast : Viewed → Option Page → List Move → Type 0
AnswersLast viewed page [] = ⊥
AnswersLast viewed page (Opened opening ∷ before) = ⊥
AnswersLast viewed page (Took bytes ∷ before) = ⊥
AnswersLast viewed page (Wanted path query ∷ before) = IsPageAfter viewed before path query page
AnswersLast viewed page (Gave other ∷ before) = ⊥
AnswersLast viewed page (Waited ∷ before) = ⊥
AnswersLast viewed page (Sent messages ∷ before) = ⊥
AnswersLast viewed page (Ended ∷ before) = ⊥
AnswersLast viewed page (Said line ∷ before) = ⊥

-- the last move is that nothing is there for now, and these are the status messages of the last tick, each as the bytes of a datagram, if
-- they were not sent yet
abbrev pub AreMessagesAfter : Viewed → List (List ℕ) → List Move → Type 0
AreMessagesAfter viewed messages [] = ⊥
AreMessagesAfter viewed messages (Opened opening ∷ before) = ⊥
AreMessagesAfter viewed messages (Took bytes ∷ before) = ⊥
AreMessagesAfter viewed messages (Wanted path query ∷ before) = ⊥
AreMessagesAfter viewed messages (Gave page ∷ before) = ⊥
AreMessagesAfter viewed messages (Waited ∷ before) = messages ≡ messages_due viewed.playout (sent_in viewed.playout before) (events_in viewed.playout before)
AreMessagesAfter viewed messages (Sent others ∷ before) = ⊥
AreMessagesAfter viewed messages (Ended ∷ before) = ⊥
AreMessagesAfter viewed messages (Said line ∷ before) = ⊥

-- a viewing may make this move after these: a request is answered, and messages are sent after each rest, before anything else is taken
abbrev pub MayFollow : Viewed → Move → List Move → Type 0
MayFollow viewed (Opened opening) before = ⊥
MayFollow viewed (Took bytes) before = MayGoOn viewed before
MayFollow viewed (Wanted path query) before = MayGoOn viewed before
MayFollow viewed (Gave page) before = AnswersLast viewed page before
MayFollow viewed Waited before = MayGoOn viewed before
MayFollow viewed (Sent messages) before = AreMessagesAfter viewed messages before
MayFollow viewed Ended before = ⊥
MayFollow viewed (Said line) before = ⊥

-- the moves are those of a viewing, the newest first
abbrev pub AreOfViewing : Viewed → List Move → Type 0
AreOfViewing viewed [] = Unit {0}
AreOfViewing viewed (move ∷ before) = MayFollow viewed move before × AreOfViewing viewed before

-- how a viewing ends after these moves: the desk ended it; or the desk failed; or the log has a fault, or memory ran out
abbrev pub EndsViewing : Viewed → List Move → Result (Unit {0}) RunFault → DeskState → DeskState → Type 0
EndsViewing viewed moves (Ok done) before after = MayGoOn viewed moves × (after ≡ after_move Ended (after_moves moves before))
EndsViewing viewed moves (Err fault) before after =
    ((fault ≡ Device) × MayGoOn viewed moves × (after ≡ after_fault (after_moves moves before)))
    ⊎ (RefusesLog viewed.playout (bytes_in moves) fault × (after ≡ after_moves moves before))

-- a whole viewing, from the desk before it to the desk after it
pub record Views (viewed : Viewed) (result : Result (Unit {0}) RunFault) (before after : DeskState) : Type 0 where
  pub moves : List Move
  pub are : AreOfViewing viewed moves
  pub ends : EndsViewing viewed moves result before after
