-- Both sides together, once their lists are compared.
use Rattle.std.proofs.Common.{◌≡◌, ℕ, ◌+◌, ◌≤◌, true, Some, None, Option, List, [], ◌∷◌, ◌++◌, length, All, inl, inr, refl, sym, ap, subst, ◌∙◌, arith}
use mathlib.Core.List.{IsPrefix}
use Rattle.play_types.specs.History.{ticks}
use Rattle.play_types.specs.Scene.{IsConfigured}
use Rattle.play_types.specs.declared.event.Event.{Event}
use Rattle.play_types.specs.declared.event.Event.TheVariants.{Tick}
use Rattle.play_types.proofs.Histories.{ticks-append}
use Rattle.play_outside.specs.SinkState.{SinkState}
use Rattle.scene_pipe.specs.declared.item.Taken.{Taken}
use Rattle.scene_pipe.specs.declared.item.Taken.TheVariants.{Staged, Done}
use Rattle.scene_pipe.specs.declared.item.Returned.{Returned}
use Rattle.scene_pipe.specs.Counts.{EndsWithNews, StopsAtNews, free_before_news, free_count}
use Rattle.scene_pipe.specs.Items.{IsClosed, fits_returned}
use Rattle.scene_pipe.specs.Views.{StageView, WriteView}
use Rattle.play_ticker.specs.Ends.{HasEnded, Meets}
use Rattle.play_ticker.specs.Outputs.{AllTakeFrames, AreCut, AreWritten, Beginning, IsCutAt, Shown, TakesFrames, shown_from}
use Rattle.play_ticker.specs.inner.Items.{AllFit, staged_item, staged_of}
use Rattle.play_ticker.specs.inner.Staging.{HasStaged, IsTold, Staging}
use Rattle.play_ticker.specs.inner.Writing.{HasWritten, IsCutTaken, IsWhole, Writing}
use Rattle.play_ticker.specs.declared.ending.TickEnd.{TickEnd}
use Rattle.play_ticker.specs.declared.ending.TickEnd.TheVariants.{ClockClosed, Ended, TicksOver, ClockFault, OutFault}
use Rattle.play_ticker.proofs.Counts.{no_news}
use Rattle.play_ticker.proofs.Items.{SplitsAt, StandsIn, closed_end, split_at, staged_count, staged_open, stands_in}
use Rattle.play_ticker.proofs.Taking.{each_length}

-- how many sets came back before the report of a failed output
abbrev pub FewCameBack : Type 0
FewCameBack = (channels : ℕ) (returned given : List Returned) → IsPrefix returned given → All (λ item. fits_returned channels item ≡ true) returned → StopsAtNews channels returned
    → free_count channels returned ≤ free_before_news given

stops_at_news : (met : TickEnd) (channels : ℕ) (returned : List Returned) → IsTold met channels returned → StopsAtNews channels returned
stops_at_news ClockClosed channels returned told = inl told
stops_at_news (Ended at) channels returned told = inl told
stops_at_news TicksOver channels returned told = inl told
stops_at_news ClockFault channels returned told = inl told
stops_at_news (OutFault channel) channels returned told = inr told

-- how the lists of the two ends compare
pub record AreSettled (channels : ℕ) (write : WriteView) (stage : StageView) : Type 0 where
  pub write_channels : write.channels ≡ channels
  pub taken : write.taken ≡ stage.sent
  pub returned : IsPrefix stage.returned write.given
  pub fit : AllFit channels write.taken
  pub came : All (λ item. fits_returned channels item ≡ true) stage.returned

pub settled : (channels : ℕ) (write now_write : WriteView) (stage now_stage : StageView) → now_write ≡ write → now_stage ≡ stage → now_write.taken ≡ now_stage.sent → IsPrefix now_stage.returned now_write.given
    → AllFit now_stage.channels now_write.taken × All (λ item. fits_returned now_stage.channels item ≡ true) now_stage.returned
    → write.channels ≡ channels → stage.channels ≡ channels → AreSettled channels write stage
settled channels write now_write stage now_stage same_write same_stage taken returned fit write_channels stage_channels =
    let now_channels : now_stage.channels ≡ channels = ap (λ (s : StageView). s.channels) same_stage ∙ stage_channels in
    record {
      write_channels = write_channels;
      taken = ap (λ (w : WriteView). w.taken) (sym same_write) ∙ taken ∙ ap (λ (s : StageView). s.sent) same_stage;
      returned = subst (λ (s : StageView). IsPrefix s.returned write.given) same_stage (subst (λ (w : WriteView). IsPrefix now_stage.returned w.given) same_write returned);
      fit = subst (λ (w : WriteView). AllFit channels w.taken) same_write (subst (λ (n : ℕ). AllFit n now_write.taken) now_channels fit.0);
      came = subst (λ (s : StageView). All (λ item. fits_returned channels item ≡ true) s.returned) same_stage
          (subst (λ (n : ℕ). All (λ item. fits_returned n item ≡ true) now_stage.returned) now_channels fit.1);
    }

-- how the ticks ended, by whether an output failed
abbrev pub end_by : Option ℕ → TickEnd → TickEnd
end_by (Some channel) met = OutFault channel
end_by None met = met

all_written : {O : Type 0} (state : O → SinkState) (met : TickEnd) (channels : ℕ) (begin : Beginning) (history : List Event) (returned : List Returned) (olds news : List O) → IsTold met channels returned
    → (EndsWithNews channels returned → ⊥) → AllTakeFrames state (shown_from begin history) olds news → AreWritten state met (shown_from begin history) olds news
all_written state ClockClosed channels begin history returned olds news told none all = all
all_written state (Ended at) channels begin history returned olds news told none all = all
all_written state TicksOver channels begin history returned olds news told none all = all
all_written state ClockFault channels begin history returned olds news told none all = all
all_written state (OutFault channel) channels begin history returned olds news told none all = absurd (none told)

all_met : (met : TickEnd) (channels configured : ℕ) (returned : List Returned) → IsTold met channels returned → (EndsWithNews channels returned → ⊥) → Meets configured met met
all_met ClockClosed channels configured returned told none = refl
all_met (Ended at) channels configured returned told none = refl
all_met TicksOver channels configured returned told none = refl
all_met ClockFault channels configured returned told none = refl
all_met (OutFault channel) channels configured returned told none = absurd (none told)

-- the outputs were cut at a tick of the history
cut_by : {O : Type 0} (state : O → SinkState) (met : TickEnd) (failed channels : ℕ) (begin : Beginning) (base now : Writing O) (first last : Staging) → FewCameBack → AreSettled channels now.pipe last.pipe
    → HasStaged begin.given met first last → first.pipe.channels ≡ channels → IsCutTaken state begin failed base now → AreCut state failed (shown_from begin last.pass.seen) base.outs now.outs
cut_by state met failed channels begin base now first last few same staged of cut =
    let seen : List Event = last.pass.seen in
    let given : List Event = begin.given in
    let sent : now.pipe.taken ≡ staged_of channels given seen ++ Done ∷ [] = same.taken ∙ staged.sent ∙ ap (λ (n : ℕ). staged_of n given seen ++ Done ∷ []) of in
    let stands : StandsIn (staged_of channels given seen) cut.before (Staged cut.tick cut.scenes) = stands_in (staged_of channels given seen) cut.before cut.after cut.tick cut.scenes (cut.whole ∙ sent) in
    let s : SplitsAt channels given seen cut.before (Staged cut.tick cut.scenes) = split_at channels given seen cut.before (Staged cut.tick cut.scenes) stands.after stands.whole in
    let news : StopsAtNews channels last.pipe.returned = stops_at_news met channels last.pipe.returned (subst (λ (n : ℕ). IsTold met n last.pipe.returned) of staged.told) in
    let came : free_count channels last.pipe.returned ≤ free_before_news now.pipe.given = few channels last.pipe.returned now.pipe.given same.returned same.came news in
    let most : ticks seen ≤ 4 + free_count channels last.pipe.returned = subst (λ (n : ℕ). ticks seen ≤ 4 + free_count n last.pipe.returned) of staged.few in
    record {
      before = s.front;
      after = s.back;
      whole = s.whole;
      few = omega (
        arith,
        most,
        came,
        cut.free,
        ap (λ (l : List Taken). length l) s.sets,
        staged_count channels given s.front,
        ap ticks s.whole,
        ticks-append s.front (Tick ∷ s.back),
      );
      outs = cut.outs s.front (ap (λ (n : ℕ). staged_of n given s.front) same.write_channels ∙ s.sets) (ap (λ (n : ℕ). staged_item n (given ++ s.front)) same.write_channels ∙ s.this);
    }

-- the outputs at the end
pub joined_outs : {O : Type 0} (state : O → SinkState) (failed : Option ℕ) (met : TickEnd) (channels : ℕ) (begin : Beginning) (base now : Writing O) (first last : Staging) → FewCameBack → AreSettled channels now.pipe last.pipe
    → HasWritten state begin failed base now → HasStaged begin.given met first last → first.pipe.channels ≡ channels
    → AreWritten state (end_by failed met) (shown_from begin last.pass.seen) base.outs now.outs
joined_outs state None met channels begin base now first last few same written staged of =
    let fit : AllFit now.pipe.channels now.pipe.taken = subst (λ (n : ℕ). AllFit n now.pipe.taken) (sym same.write_channels) same.fit in
    let whole : IsWhole state begin base now = written.written fit in
    let sent : staged_of now.pipe.channels begin.given last.pass.seen ++ Done ∷ [] ≡ now.pipe.taken =
    ap (λ (n : ℕ). staged_of n begin.given last.pass.seen ++ Done ∷ []) (same.write_channels ∙ sym of) ∙ sym (same.taken ∙ staged.sent) in
    all_written state met first.pipe.channels begin last.pass.seen last.pipe.returned base.outs now.outs staged.told
    (no_news first.pipe.channels last.pipe.returned now.pipe.given same.returned whole.free)
    (whole.outs last.pass.seen sent)
joined_outs state (Some failed) met channels begin base now first last few same written staged of =
    let fit : AllFit now.pipe.channels now.pipe.taken = subst (λ (n : ℕ). AllFit n now.pipe.taken) (sym same.write_channels) same.fit in
    cut_by state met failed channels begin base now first last few same staged of (written.written fit).1

-- how the ticks ended
pub joined_end : {O : Type 0} (state : O → SinkState) (failed : Option ℕ) (met : TickEnd) (channels : ℕ) (begin : Beginning) (base now : Writing O) (first last : Staging) → AreSettled channels now.pipe last.pipe
    → HasWritten state begin failed base now → HasStaged begin.given met first last → length base.frames ≡ last.pass.stage.sizes.channels
    → HasEnded begin.given (end_by failed met) (record { pass = first.pass; clock = first.clock }) (record { pass = last.pass; clock = last.clock })
joined_end state None met channels begin base now first last same written staged many =
    let fit : AllFit now.pipe.channels now.pipe.taken = subst (λ (n : ℕ). AllFit n now.pipe.taken) (sym same.write_channels) same.fit in
    let whole : IsWhole state begin base now = written.written fit in
    record {
      met = met;
      meets = all_met met first.pipe.channels last.pass.stage.sizes.channels last.pipe.returned staged.told (no_news first.pipe.channels last.pipe.returned now.pipe.given same.returned whole.free);
      clock = staged.clock;
      turns = staged.turns;
      pass = staged.pass;
    }
joined_end state (Some failed) met channels begin base now first last same written staged many =
    let fit : AllFit now.pipe.channels now.pipe.taken = subst (λ (n : ℕ). AllFit n now.pipe.taken) (sym same.write_channels) same.fit in
    record {
      met = met;
      meets = subst (λ (n : ℕ). IsConfigured n failed) many (written.written fit).0;
      clock = staged.clock;
      turns = staged.turns;
      pass = staged.pass;
    }

-- there are as many outputs after as before
pub written_length : {O : Type 0} (state : O → SinkState) (end : TickEnd) (shown : Shown) (olds news : List O) → AreWritten state end shown olds news → length news ≡ length olds
written_length state ClockClosed shown olds news all = each_length (λ channel old new. TakesFrames shown channel (state old) (state new)) 1 olds news all
written_length state (Ended at) shown olds news all = each_length (λ channel old new. TakesFrames shown channel (state old) (state new)) 1 olds news all
written_length state TicksOver shown olds news all = each_length (λ channel old new. TakesFrames shown channel (state old) (state new)) 1 olds news all
written_length state ClockFault shown olds news all = each_length (λ channel old new. TakesFrames shown channel (state old) (state new)) 1 olds news all
written_length state (OutFault failed) shown olds news cut =
    each_length (λ channel old new. IsCutAt failed (record shown { history = cut.before }) channel (state old) (state new)) 1 olds news cut.outs

-- the end mark was sent after all else
pub sent_closed : (given : List Event) (met : TickEnd) (first last : Staging) → HasStaged given met first last → IsClosed last.pipe.sent
sent_closed given met first last staged =
    subst IsClosed (sym staged.sent) (closed_end (staged_of first.pipe.channels given last.pass.seen) (staged_open first.pipe.channels given last.pass.seen))
