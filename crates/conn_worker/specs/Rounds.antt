-- The reads of a link, and the steps that were executed after each.
use Rattle.std.specs.Prelude.{◌≡◌, ℕ, ◌+◌, None, List, [], ◌∷◌, ◌++◌, All, flat_map, length, map, sum_by}
use Rattle.play_types.specs.History.{stop_at}
use Rattle.play_types.specs.declared.event.Event.{Event}
use Rattle.play_outside.specs.declared.link.Look as told
use Rattle.play_outside.specs.SinkState.{SinkState, after_taking}
use Rattle.play_outside.specs.Sink.{Fails}
use Rattle.play_outside.specs.Link.{after_read, after_end, after_idle, after_failed_read}
use Rattle.conn_worker.specs.Followed.{Service, Followed, replies, sent_bytes, stage_look}

-- what a read of a link found: bytes, the end, or nothing yet. In the last case the stage was checked next, and this is the history
-- that was found
pub data Look : Type 0 where
  Got : List ℕ → Look
  End : Look
  Nothing : List Event → Look

-- a read, and the steps that were executed after it and before the next read, each with its reply written before the next step
pub record Round : Type 0 where
  pub look : Look
  pub followed : List Followed

-- the round of a read that found the end of the link: no step comes after it
abbrev pub end_round : Round
end_round = record { look = End; followed = [] }

-- the round of a read that found nothing yet, and of a check of the stage that then found this history
abbrev pub idle_round : List Event → Round
idle_round history = record { look = Nothing history; followed = [] }

-- the bytes that a read found
abbrev pub look_bytes : Look → List ℕ
look_bytes (Got bytes) = bytes
look_bytes End = []
look_bytes (Nothing history) = []

-- 1 if a read found nothing yet
abbrev pub idle_looks : Look → ℕ
idle_looks (Got bytes) = 0
idle_looks End = 0
idle_looks (Nothing history) = 1

-- all bytes that were read
abbrev pub bytes_in : List Round → List ℕ
bytes_in rounds = flat_map (λ (round : Round). look_bytes round.look) rounds

-- all steps that were executed
abbrev pub followed_in : List Round → List Followed
followed_in rounds = flat_map (λ (round : Round). round.followed) rounds

-- how many reads found nothing yet
abbrev pub number_idle : List Round → ℕ
number_idle rounds = sum_by (λ (round : Round). idle_looks round.look) rounds

-- what the reads found, in order
abbrev pub looks_in : List Round → List Look
looks_in rounds = map (λ (round : Round). round.look) rounds

-- a read leaves the connection open: it did not find the end of the link, and, if it found nothing yet, the history has no stop
abbrev pub LeavesOpen : Look → Type 0
LeavesOpen (Got bytes) = Unit {0}
LeavesOpen End = ⊥
LeavesOpen (Nothing history) = stop_at history ≡ None

-- each read left the connection open
abbrev pub AreLeftOpen : List Round → Type 0
AreLeftOpen rounds = All LeavesOpen (looks_in rounds)

-- the check of the stage after a read that found nothing yet
abbrev pub stage_looks : Look → List Followed
stage_looks (Got bytes) = []
stage_looks End = []
stage_looks (Nothing history) = stage_look history ∷ []

-- all executed steps and all checks of the stage, in order
abbrev pub finds_in : List Round → List Followed
finds_in rounds = flat_map (λ (round : Round). stage_looks round.look ++ round.followed) rounds

-- the link after a read
abbrev pub after_look : Look → SinkState → SinkState
after_look (Got bytes) link = after_read link bytes
after_look End link = after_end link
after_look (Nothing history) link = after_idle link

-- the link after a read, and after the replies to the steps executed after it were written
abbrev pub after_round : Service → Round → SinkState → SinkState
after_round service round link = after_taking (after_look round.look link) (replies service round.followed)

-- the link after these reads and replies, in order
abbrev pub after_rounds : Service → List Round → SinkState → SinkState
after_rounds service [] link = link
after_rounds service (round ∷ rounds) link = after_rounds service rounds (after_round service round link)

-- what a link records of its reads in these rounds, after it took `taken` bytes and gave `read` bytes: at each read the replies to all
-- steps before it have been taken
abbrev pub looks_from : Service → ℕ → ℕ → List Round → List told.Look
looks_from service taken read [] = []
looks_from service taken read (round ∷ rounds) =
    record { taken = taken; read = read }
    ∷ looks_from service (taken + length (replies service round.followed)) (read + length (look_bytes round.look)) rounds

-- where a link failed: in no call, in a read, or in a write of the reply to this step, which was executed
pub data Failure : Type 0 where
  NoFailure : Failure
  ReadFailed : Failure
  WriteFailed : Followed → Failure

-- the step whose reply was not wholly written
abbrev pub unsent : Failure → List Followed
unsent NoFailure = []
unsent ReadFailed = []
unsent (WriteFailed one) = one ∷ []

-- the link after a failure
abbrev pub IsAfterFailure : Service → Failure → SinkState → SinkState → Type 0
IsAfterFailure service NoFailure before after = after ≡ before
IsAfterFailure service ReadFailed before after = after ≡ after_failed_read before
IsAfterFailure service (WriteFailed one) before after = Fails (sent_bytes service one) before after
