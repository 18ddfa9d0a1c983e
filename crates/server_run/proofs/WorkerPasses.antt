-- The passes of a run before its threads begin, and after they have ended.
use Rattle.std.proofs.Common.{◌≡◌, ℕ, zero, suc, ◌+◌, List, [], ◌∷◌, ◌++◌, length, map, reverse, take, drop, refl, sym, ap, subst, ◌∙◌, arith}
use Rattle.std.specs.List.{range_with_len}
use Rattle.std.proofs.lemmas.List.{length-map, length-reverse, map-append}
use mathlib.Core.Option.{some, some-injective, some-ne-none}
use lib.ListN.{get_elem?}
use Rattle.play_types.specs.declared.event.Event.{Event}
use Rattle.stage_lock.specs.Views.{PassView, SharedView}
use Rattle.stage_lock.specs.Calls.{new_pass, new_passes}
use Rattle.stage_lock.specs.Closing.{AreAll}
use Rattle.conn_worker.specs.declared.server.Server.{Server}
use Rattle.conn_worker.specs.declared.work_end.WorkEnd.{WorkEnd}
use Rattle.history_model.specs.pictures.Media.{Setup}
use Rattle.play_outside.specs.declared.sink.Sent.{Sent}
use Rattle.play_ticker.specs.declared.ending.TickEnd.{TickEnd}
use Rattle.server_run.specs.Doors.{last_session}
use Rattle.server_run.specs.inner.Threads.{HasNewPasses, RanBeside, TickerStates, counts_of, log_pass, passes_back, sessions_in, ticker_pass, worker_passes}
use Rattle.server_run.specs.inner.Workers.{DoorStates, HasWorkedAt, IsRunning, doors_of, ends_of, passes_of}
use Rattle.server_run.specs.declared.connection_workers.ConnectionWorker.{ConnectionWorker}
use Rattle.server_run.specs.declared.run_threads.RunThreads.{RunThreads}
use Rattle.server_run.specs.declared.worker_session.WorkerSession.{WorkerSession}
use Rattle.server_run.proofs.HasWorkedAt.{EachPlace, each_place}
use Rattle.server_run.proofs.Reverse.{all_zip_many, all_zip_reverse, first_left, same_last}

-- a list over numbers from one on has an element for each of them, the last one at its end
pub mapped_many : {X : Type 0} (f : ℕ → X) (number count : ℕ) → length (map f (range_with_len number count)) ≡ count
mapped_many f number zero = refl
mapped_many f number (suc count) = ap suc (mapped_many f (number + 1) count)

pub mapped_last : {X : Type 0} (f : ℕ → X) (number count : ℕ)
    → map f (range_with_len number (suc count)) ≡ map f (range_with_len number count) ++ f (number + count) ∷ []
mapped_last f number zero =
    let same : number ≡ number + 0 = omega arith in
    ap (λ (n : ℕ). f n ∷ []) same
mapped_last {X} f number (suc count) =
    let same : (number + 1) + count ≡ number + suc count = omega arith in
    ap (λ (xs : List X). f number ∷ xs)
    (mapped_last f (number + 1) count ∙ ap (λ (n : ℕ). map f (range_with_len (number + 1) count) ++ f n ∷ []) same)

pub many_from : (stage : SharedView) (number count : ℕ) → length (map (new_pass stage) (range_with_len number count)) ≡ count
many_from stage number count = mapped_many (new_pass stage) number count

-- what was written through a slice of a whole list is the whole list
pub written_whole : {X : Type 0} (count : ℕ) (xs items : List X) → length xs ≡ count → length items ≡ count → take count (xs ++ drop (length xs) items) ≡ xs
written_whole zero [] items many same = refl
written_whole zero (x ∷ xs) items many same = absurd (omega (arith, many))
written_whole (suc count) [] items many same = absurd (omega (arith, many))
written_whole (suc count) (x ∷ xs) [] many same = absurd (omega (arith, same))
written_whole (suc count) (x ∷ xs) (y ∷ items) many same =
    ap (λ (l : List _). x ∷ l) (written_whole count xs items (omega (arith, many)) (omega (arith, same)))

module _ {D L : Type 0} (states : DoorStates D L) (server : Server) where
  -- at all places there is as much after the work as before it
  pub record SameMany (befores : List PassView) (olds : List D) (afters : List PassView) (ended : List WorkEnd) (news : List D) : Type 0 where
    pub passes : length afters ≡ length befores
    pub ends_many : length ended ≡ length befores
    pub doors : length news ≡ length olds

  pub same_many : (befores : List PassView) (olds : List D) (afters : List PassView) (ended : List WorkEnd) (news : List D)
      → EachPlace states server befores olds afters ended news → SameMany befores olds afters ended news
  same_many [] [] [] [] [] each = record { passes = refl; ends_many = refl; doors = refl }
  same_many (before ∷ befores) (old ∷ olds) (after ∷ afters) (end ∷ ended) (new ∷ news) each =
      let rest = same_many befores olds afters ended news each.1 in
      record { passes = ap suc rest.passes; ends_many = ap suc rest.ends_many; doors = ap suc rest.doors }
  same_many befores olds afters ended news each = absurd each

  -- all passes are of the stage after the work
  pub still_of : (stage : SharedView) (befores : List PassView) (olds : List D) (afters : List PassView) (ended : List WorkEnd) (news : List D)
      → EachPlace states server befores olds afters ended news
      → ((j : ℕ) (pass : PassView) → get_elem? befores j ≡ some pass → pass.stage ≡ stage)
      → (j : ℕ) (pass : PassView) → get_elem? afters j ≡ some pass → pass.stage ≡ stage
  still_of stage [] [] [] [] [] each of j pass at = absurd (some-ne-none pass (sym at))
  still_of stage (before ∷ befores) (old ∷ olds) (after ∷ afters) (end ∷ ended) (new ∷ news) each of zero pass at =
      ap (λ (p : PassView). p.stage) (sym (some-injective after pass at)) ∙ each.0.of ∙ of 0 before refl
  still_of stage (before ∷ befores) (old ∷ olds) (after ∷ afters) (end ∷ ended) (new ∷ news) each of (suc j) pass at =
      still_of stage befores olds afters ended news each.1 (λ k p. of (suc k) p) j pass at
  still_of stage befores olds afters ended news each of j pass at = absurd each

workers_of : (stage : SharedView) (number count : ℕ) (j : ℕ) (pass : PassView) → get_elem? (map (new_pass stage) (range_with_len number count)) j ≡ some pass → pass.stage ≡ stage
workers_of stage number zero j pass at = absurd (some-ne-none pass (sym at))
workers_of stage number (suc count) zero pass at = ap (λ (p : PassView). p.stage) (sym (some-injective (new_pass stage number) pass at))
workers_of stage number (suc count) (suc j) pass at = workers_of stage (number + 1) count j pass at

-- all passes of the stage are there when the threads have ended
pub all_there : {D L : Type 0} (states : DoorStates D L) (server : Server) (stage : SharedView) (log first : PassView) (others : List PassView) (olds : List D) (ended : List WorkEnd) (news : List D)
    → log.stage ≡ stage → first.stage ≡ stage → EachPlace states server (worker_passes stage (length olds)) olds others ended news → stage.sizes.passes ≡ length olds + 2
    → AreAll stage (log ∷ first ∷ others)
all_there states server stage log first others olds ended news log_of of each many = record {
  each = each_of;
  many = omega (arith, (same_many states server (worker_passes stage (length olds)) olds others ended news each).passes, many_from stage 1 (length olds), many);
}
  where
    each_of : (k : ℕ) (pass : PassView) → get_elem? (log ∷ first ∷ others) k ≡ some pass → pass.stage ≡ stage
    each_of zero pass at = ap (λ (p : PassView). p.stage) (sym (some-injective log pass at)) ∙ log_of
    each_of (suc zero) pass at = ap (λ (p : PassView). p.stage) (sym (some-injective first pass at)) ∙ of
    each_of (suc (suc k)) pass at =
        still_of states server stage (worker_passes stage (length olds)) olds others ended news each (workers_of stage 1 (length olds)) k pass at

-- the last pass of those from a number on
last_from : (stage : SharedView) (number count : ℕ)
    → map (new_pass stage) (range_with_len number (suc count)) ≡ map (new_pass stage) (range_with_len number count) ++ new_pass stage (number + count) ∷ []
last_from stage number count = mapped_last (new_pass stage) number count

-- the passes of a new stage, the ticker's first and the log's last
pub new_passes_parts : (stage : SharedView) (count : ℕ) → stage.sizes.passes ≡ count + 2
    → new_passes stage ≡ (ticker_pass stage ∷ worker_passes stage count) ++ log_pass stage count ∷ []
new_passes_parts stage count many =
    let next : stage.sizes.passes ≡ suc (suc count) = omega (arith, many) in
    let same : 1 + count ≡ count + 1 = omega arith in
    ap (λ (n : ℕ). map (new_pass stage) (range_with_len 0 n)) next
    ∙ ap (λ (ps : List PassView). ticker_pass stage ∷ ps)
    (last_from stage 1 count ∙ ap (λ (n : ℕ). worker_passes stage count ++ new_pass stage n ∷ []) same)

pub parts_many : (stage : SharedView) (count : ℕ) → length (ticker_pass stage ∷ worker_passes stage count) ≡ count + 1
parts_many stage count = omega (arith, many_from stage 1 count)

-- as many passes are new as the stage has
pub new_many : (stage : SharedView) → length (new_passes stage) ≡ stage.sizes.passes
new_many stage = many_from stage 0 stage.sizes.passes

-- the log's pass is the last one
pub log_given : (stage : SharedView) (count : ℕ) (passes left : List PassView) (log : PassView)
    → passes ≡ new_passes stage → stage.sizes.passes ≡ count + 2 → passes ≡ left ++ log ∷ []
    → (left ≡ ticker_pass stage ∷ worker_passes stage count) × (log ≡ log_pass stage count)
log_given stage count passes left log new many given =
    same_last left (ticker_pass stage ∷ worker_passes stage count) log (log_pass stage count) (sym given ∙ new ∙ new_passes_parts stage count many)

workers_many : {D : Type 0} (connection_workers : List (ConnectionWorker D)) → length (passes_of (reverse connection_workers)) ≡ length connection_workers
workers_many connection_workers = length-map (reverse connection_workers) _ ∙ length-reverse connection_workers

-- if each connection worker was given a pass of those before the log's, the ticker's pass is left
pub passes_given : {D : Type 0} (stage : SharedView) (count : ℕ) (passes left : List PassView) (connection_workers : List (ConnectionWorker D))
    → passes ≡ ticker_pass stage ∷ worker_passes stage count → length connection_workers ≡ count → passes ≡ left ++ passes_of (reverse connection_workers)
    → (left ≡ ticker_pass stage ∷ []) × (passes_of (reverse connection_workers) ≡ worker_passes stage count)
passes_given stage count passes left connection_workers first count_is given =
    first_left (ticker_pass stage) (worker_passes stage count) left (passes_of (reverse connection_workers))
    (sym first ∙ given)
    (workers_many connection_workers ∙ count_is ∙ sym (many_from stage 1 count))

-- there are as many sessions as workers that they are counted for
pub sessions_many : (sessions : List WorkerSession) (events : List Event) (count : ℕ) → counts_of sessions ≡ sessions_in events count → length sessions ≡ count
sessions_many sessions events count same =
    sym (length-map sessions (λ (session : WorkerSession). session.served)) ∙ ap length same ∙ mapped_many (λ (worker : ℕ). last_session worker events) 1 count

-- the last pass of those for the ticker and the workers is that of the last worker, and its session is counted from its last one on
pub record IsLastWorker (stage : SharedView) (count : ℕ) (pass : PassView) (session : WorkerSession) (left : List PassView × List WorkerSession) : Type 0 where
  pub running : IsRunning stage pass
  pub served : session.served ≡ last_session pass.number stage.sizes.given
  pub passes : left.0 ≡ ticker_pass stage ∷ worker_passes stage count
  pub sessions : counts_of left.1 ≡ sessions_in stage.sizes.given count

pub last_worker : (stage : SharedView) (count : ℕ) (passes left : List PassView) (pass : PassView) (sessions sessions_left : List WorkerSession) (session : WorkerSession)
    → passes ≡ ticker_pass stage ∷ worker_passes stage (suc count) → counts_of sessions ≡ sessions_in stage.sizes.given (suc count)
    → passes ≡ left ++ pass ∷ [] → sessions ≡ sessions_left ++ session ∷ []
    → IsLastWorker stage count pass session (left, sessions_left)
last_worker stage count passes left pass sessions sessions_left session passes_are sessions_are passes_end sessions_end =
    let numbered = same_last left (ticker_pass stage ∷ worker_passes stage count) pass (new_pass stage (1 + count))
    (sym passes_end ∙ passes_are ∙ ap (λ (ps : List PassView). ticker_pass stage ∷ ps) (last_from stage 1 count)) in
    let counted = same_last (counts_of sessions_left) (sessions_in stage.sizes.given count) session.served (last_session (1 + count) stage.sizes.given)
    (sym (map-append (λ (s : WorkerSession). s.served) sessions_left (session ∷ [])) ∙ ap counts_of (sym sessions_end) ∙ sessions_are
    ∙ mapped_last (λ (worker : ℕ). last_session worker stage.sizes.given) 1 count) in
    record {
      running = subst (IsRunning stage) (sym numbered.1) (record { of = refl; running = refl });
      served = counted.1 ∙ ap (λ (p : PassView). last_session p.number stage.sizes.given) (sym numbered.1);
      passes = numbered.0;
      sessions = counted.0;
    }

module _ {C D O L : Type 0} (ticker_states : TickerStates C O) (states : DoorStates D L) (setup : Setup) (server : Server) (ends : TickEnd × Sent) (old new : RunThreads C D O)
    (ran : RanBeside ticker_states states setup server (ends.0, ends.1, old, new)) where
  pub same_workers : length new.others.connection_workers.items ≡ length old.others.connection_workers.items
  same_workers = all_zip_many (HasWorkedAt states server) old.others.connection_workers.items new.others.connection_workers.items ran.worked

  -- all passes of the stage are there when the threads have ended
  pub all_passes : (count : ℕ) → length old.others.connection_workers.items ≡ count → HasNewPasses server.stage.now count old → server.stage.now.sizes.passes ≡ count + 2
      → AreAll server.stage.now (passes_back new)
  all_passes count count_is passes many =
      let doors : length (doors_of (reverse old.others.connection_workers.items)) ≡ count =
      length-map (reverse old.others.connection_workers.items) _ ∙ length-reverse old.others.connection_workers.items ∙ count_is in
      let each = each_place states server (reverse old.others.connection_workers.items) (reverse new.others.connection_workers.items)
      (all_zip_reverse (HasWorkedAt states server) old.others.connection_workers.items new.others.connection_workers.items ran.worked) in
      all_there states server server.stage.now new.others.log.pass new.ticker.pass (passes_of (reverse new.others.connection_workers.items)) (doors_of (reverse old.others.connection_workers.items))
      (ends_of (reverse new.others.connection_workers.items)) (doors_of (reverse new.others.connection_workers.items))
      (ran.logged.of ∙ ap (λ (p : PassView). p.stage) passes.log)
      ran.ticked.of
      (subst (λ (ps : List PassView). EachPlace states server ps (doors_of (reverse old.others.connection_workers.items)) (passes_of (reverse new.others.connection_workers.items))
      (ends_of (reverse new.others.connection_workers.items)) (doors_of (reverse new.others.connection_workers.items)))
      (passes.connection_workers ∙ ap (worker_passes server.stage.now) (sym doors)) each)
      (many ∙ ap (λ (n : ℕ). n + 2) (sym doors))

-- the passes of the threads were put back into a list without passes
pub put_back : {C D O : Type 0} (threads : RunThreads C D O) (none one two all : List PassView) (log first : PassView)
    → none ≡ [] → log ≡ threads.others.log.pass → first ≡ threads.ticker.pass
    → one ≡ none ++ log ∷ [] → two ≡ one ++ first ∷ [] → all ≡ two ++ passes_of (reverse threads.others.connection_workers.items)
    → all ≡ passes_back threads
put_back threads none one two all log first is_none is_log is_first is_one is_two is_all =
    let back = passes_of (reverse threads.others.connection_workers.items) in
    let parts : two ≡ log ∷ first ∷ [] =
    is_two ∙ ap (λ (ps : List PassView). ps ++ first ∷ []) (is_one ∙ ap (λ (ps : List PassView). ps ++ log ∷ []) is_none) in
    is_all ∙ ap (λ (ps : List PassView). ps ++ back) parts
    ∙ ap (λ (p : PassView). p ∷ first ∷ back) is_log ∙ ap (λ (p : PassView). threads.others.log.pass ∷ p ∷ back) is_first
