-- The side that renders and writes, set by set and at the end.
use Rattle.std.proofs.Common.{◌≡◌, ℕ, true, false, Some, None, List, [], ◌∷◌, ◌++◌, length, refl, sym, ap, subst, ◌∙◌, arith, append-nil, append_assoc, length-append}
use Rattle.std.specs.List.{list_any}
use Rattle.std.proofs.lemmas.List.Folds.{list_any-append}
use mathlib.Core.List.{IsPrefix}
use Rattle.play_types.specs.History.{ticks}
use Rattle.play_types.specs.Scene.{IsConfigured}
use Rattle.play_types.specs.declared.drawn.Drawn.{Drawn}
use Rattle.play_types.specs.declared.event.Event.{Event}
use Rattle.play_types.specs.declared.event.Event.TheVariants.{Tick}
use Rattle.play_types.proofs.Histories.{ticks-append}
use Rattle.play_outside.specs.SinkState.{SinkState, after_taking}
use Rattle.clip_format.specs.Table.{Entry}
use Rattle.stage_lock.proofs.Prefixes.{prefix_self, prefix_trans}
use Rattle.play_scene.specs.Frames.{FrameView}
use Rattle.band_render.specs.Rendered.{AreRendered}
use Rattle.band_render.specs.Histories.{Represents, scenes_after}
use Rattle.scene_pipe.specs.declared.item.Taken.{Taken}
use Rattle.scene_pipe.specs.declared.item.Taken.TheVariants.{Staged, Done}
use Rattle.scene_pipe.specs.declared.item.Returned.{Returned}
use Rattle.scene_pipe.specs.declared.item.Returned.TheVariants.{Free, Broken}
use Rattle.scene_pipe.specs.Calls.{GetsTaken}
use Rattle.scene_pipe.specs.Counts.{free_before_news}
use Rattle.scene_pipe.specs.Items.{fits_taken}
use Rattle.scene_pipe.specs.Lists.{GetsNext}
use Rattle.scene_pipe.specs.Views.{WriteView}
use Rattle.play_ticker.specs.Frames.{AreLast, raw_frame, setup_for}
use Rattle.play_ticker.specs.Outputs.{AllTakeFrames, Beginning, IsCutAt, TakesFrames, shown_from}
use Rattle.play_ticker.specs.inner.Items.{AllFit, is_broken, is_open, staged_item, staged_of}
use Rattle.play_ticker.specs.inner.Writing.{FailsAt, GivesBack, HasWritten, IsSameEnd, Writing, WritesSet, bytes_in}
use Rattle.play_ticker.proofs.Counts.{free_before}
use Rattle.play_ticker.proofs.Frames.{GoesOn, goes_on-since}
use Rattle.play_ticker.proofs.Items.{NonePassed, SplitsAt, all_front, closed_done, none_passed, open_set, same_front, split_at, staged_count}
use Rattle.play_ticker.proofs.Showing.{HasBytes, ShowsTick, StaysShown, shown-quiet, shows_last, tick_bytes}
use Rattle.play_ticker.proofs.Taking.{cut_tick, each_length, each_then, outs_first, still_taken, taken_tick}

-- the end of the pipe after a set was taken, and given back as `back`
record SetTaken (tick : ℕ) (scenes : List (List Drawn)) (back : Returned) (old new : WriteView) : Type 0 where
  next : GetsNext (fits_taken old.channels) (Staged tick scenes) old.taken new.taken
  given : new.given ≡ old.given ++ back ∷ []
  same : IsSameEnd old new

set_taken : (tick : ℕ) (scenes : List (List Drawn)) (back : Returned) (old got new : WriteView) → GetsTaken (Staged tick scenes) old got → new ≡ record got { given = got.given ++ back ∷ [] }
    → SetTaken tick scenes back old new
set_taken tick scenes back old got new gets gives =
    let all : SetTaken tick scenes back old (record old { taken = got.taken; given = old.given ++ back ∷ [] }) = record {
      next = gets.next;
      given = refl;
      same = record { pipe = refl; channels = refl };
    } in
    let is : new ≡ record old { taken = got.taken; given = old.given ++ back ∷ [] } = gives ∙ ap (λ (v : WriteView). record v { given = v.given ++ back ∷ [] }) gets.after in
    subst (SetTaken tick scenes back old) (sym is) all

-- sets were taken and given back
pub record GoesBack (base now : WriteView) : Type 0 where
  pub open_still : is_open now.taken ≡ true
  pub taken : IsPrefix base.taken now.taken
  pub back : List Returned
  pub given : now.given ≡ base.given ++ back
  pub free : list_any is_broken back ≡ false
  pub same : IsSameEnd base now

pub back_first : (base : WriteView) → is_open base.taken ≡ true → GoesBack base base
back_first base open_still = record {
  open_still = open_still;
  taken = prefix_self base.taken;
  back = [];
  given = sym (append-nil base.given);
  free = refl;
  same = record { pipe = refl; channels = refl };
}

-- what came out of a ring extends what had come before
longer_taken : (channels : ℕ) (item : Taken) (old new : List Taken) → GetsNext (fits_taken channels) item old new → IsPrefix old new
longer_taken channels item old new next = (next.others ++ item ∷ [], sym (append_assoc old next.others (item ∷ [])) ∙ sym next.lists)

pub back_goes : (tick : ℕ) (scenes : List (List Drawn)) (base old got new : WriteView) → GetsTaken (Staged tick scenes) old got → new ≡ record got { given = got.given ++ Free scenes ∷ [] }
    → GoesBack base old → GoesBack base new
back_goes tick scenes base old got new gets gives was =
    let set : SetTaken tick scenes (Free scenes) old new = set_taken tick scenes (Free scenes) old got new gets gives in
    record {
      open_still = open_set old.channels old.taken new.taken tick scenes set.next was.open_still;
      taken = prefix_trans base.taken old.taken new.taken was.taken (longer_taken old.channels (Staged tick scenes) old.taken new.taken set.next);
      back = was.back ++ Free scenes ∷ [];
      given = set.given ∙ ap (λ (l : List Returned). l ++ Free scenes ∷ []) was.given ∙ append_assoc base.given was.back (Free scenes ∷ []);
      free = rw (list_any-append is_broken was.back (Free scenes ∷ []), was.free) refl;
      same = record { pipe = set.same.pipe ∙ was.same.pipe; channels = set.same.channels ∙ was.same.channels };
    }

pub back_done : (base old new : WriteView) → GetsTaken Done old new → GoesBack base old → GivesBack base new
back_done base old new gets was =
    let pipe : new ≡ record old { taken = new.taken } = gets.after in
    record {
      closed = closed_done old.channels old.taken new.taken gets.next was.open_still;
      taken = prefix_trans base.taken old.taken new.taken was.taken (longer_taken old.channels Done old.taken new.taken gets.next);
      back = was.back;
      given = ap (λ (v : WriteView). v.given) pipe ∙ was.given;
      free = was.free;
      same = record { pipe = ap (λ (v : WriteView). v.pipe) pipe ∙ was.same.pipe; channels = ap (λ (v : WriteView). v.channels) pipe ∙ was.same.channels };
    }

-- the scenes that were rendered, if they are those of the tick after a history
rendered_for : (channels tick : ℕ) (scenes : List (List Drawn)) (history : List Event) (entries : List Entry) (prev next : List FrameView) → staged_item channels history ≡ Staged tick scenes
    → channels ≡ length prev → AreRendered prev entries scenes next → AreRendered prev entries (scenes_after history (length prev)) next
rendered_for channels tick scenes history entries prev next this many rendered =
    let same : scenes ≡ scenes_after history channels = cc (this) in
    subst (λ (d : List (List Drawn)). AreRendered prev entries d next) (same ∙ ap (scenes_after history) many) rendered

module _ {O : Type 0} where
  -- the frames that were rendered last are those of a history, and the outputs took its frames
  pub record HasShown (state : O → SinkState) (begin : Beginning) (entries : List Entry) (history : List Event) (base now : Writing O) : Type 0 where
    pub shown : Represents begin.setup (begin.given ++ history) entries now.frames
    pub outs : AllTakeFrames state (shown_from begin history) base.outs now.outs

  -- each set was rendered, written and given back, and none failed
  pub record IsWriting (state : O → SinkState) (begin : Beginning) (entries : List Entry) (base now : Writing O) : Type 0 where
    pub same : IsSameEnd base.pipe now.pipe
    pub frames : length now.frames ≡ length base.frames
    pub many : length now.outs ≡ length base.outs
    pub open_still : is_open now.pipe.taken ≡ true
    pub free : list_any is_broken now.pipe.given ≡ false
    pub count : AllFit now.pipe.channels now.pipe.taken → length now.pipe.given ≡ length now.pipe.taken
    pub shown : AllFit now.pipe.channels now.pipe.taken → (history : List Event) → staged_of now.pipe.channels begin.given history ≡ now.pipe.taken → HasShown state begin entries history base now

  -- the pipe, the frames and the outputs have equally many channels
  pub record AreAsMany (base : Writing O) : Type 0 where
    pub channels : base.pipe.channels ≡ length base.frames
    pub outs : length base.outs ≡ length base.frames

  pub writing_first : (state : O → SinkState) (before : List Event) (entries : List Entry) (base : Writing O) → StaysShown → AreLast before entries base.frames → base.pipe.taken ≡ [] → base.pipe.given ≡ []
      → IsWriting state (record { setup = setup_for base.frames entries; given = before }) entries base base
  writing_first state before entries base stays last taken given =
      let begin : Beginning = record { setup = setup_for base.frames entries; given = before } in
      let quiet : (history : List Event) → staged_of base.pipe.channels before history ≡ base.pipe.taken → ticks history ≡ 0 =
      λ history e. sym (staged_count base.pipe.channels before history) ∙ ap (λ (l : List Taken). length l) (e ∙ taken) in
      record {
        same = record { pipe = refl; channels = refl };
        frames = refl;
        many = refl;
        open_still = ap is_open taken;
        free = ap (list_any is_broken) given;
        count = λ fit. ap (λ (l : List Returned). length l) given ∙ sym (ap (λ (l : List Taken). length l) taken);
        shown = λ fit history e. record {
          shown = shows_last stays before entries base.frames history last (quiet history e);
          outs = outs_first state begin history base.outs (quiet history e);
        };
      }

  -- one set more
  pub writing_goes : (state : O → SinkState) (begin : Beginning) (entries : List Entry) (base old new : Writing O) → StaysShown → ShowsTick → HasBytes → AreAsMany base → length new.frames ≡ length old.frames
      → WritesSet entries (λ frames channel before after. state after ≡ after_taking (state before) (bytes_in frames channel)) (λ scenes. Free scenes) old new
      → IsWriting state begin entries base old → IsWriting state begin entries base new
  writing_goes state begin entries base old new stays tick_law bytes_law as_many frames h was =
      let set : SetTaken h.tick h.scenes (Free h.scenes) old.pipe new.pipe = set_taken h.tick h.scenes (Free h.scenes) old.pipe h.got new.pipe h.gets h.gives in
      let item : Taken = Staged h.tick h.scenes in
      let passed : AllFit new.pipe.channels new.pipe.taken → NonePassed old.pipe.channels item old.pipe.taken new.pipe.taken =
      λ fit. none_passed old.pipe.channels item old.pipe.taken new.pipe.taken set.next (subst (λ (n : ℕ). AllFit n new.pipe.taken) set.same.channels fit) in
      record {
        same = record { pipe = set.same.pipe ∙ was.same.pipe; channels = set.same.channels ∙ was.same.channels };
        frames = frames ∙ was.frames;
        many = each_length (λ channel before after. state after ≡ after_taking (state before) (bytes_in new.frames channel)) 1 old.outs new.outs h.outs ∙ was.many;
        open_still = open_set old.pipe.channels old.pipe.taken new.pipe.taken h.tick h.scenes set.next was.open_still;
        free = rw (set.given, list_any-append is_broken old.pipe.given (Free h.scenes ∷ []), was.free) refl;
        count = λ fit. omega (
          arith,
          was.count (passed fit).fits,
          ap (λ (l : List Taken). length l) (passed fit).whole,
          length-append old.pipe.taken (item ∷ []),
          ap (λ (l : List Returned). length l) set.given,
          length-append old.pipe.given (Free h.scenes ∷ []),
        );
        shown = λ fit history e.
            let given : List Event = begin.given in
            let sets : staged_of old.pipe.channels given history ≡ old.pipe.taken ++ item ∷ [] =
            ap (λ (n : ℕ). staged_of n given history) (sym set.same.channels) ∙ e ∙ (passed fit).whole in
            let s : SplitsAt old.pipe.channels given history old.pipe.taken item = split_at old.pipe.channels given history old.pipe.taken item [] sets in
            let before : HasShown state begin entries s.front base old = was.shown (passed fit).fits s.front s.sets in
            let quiet : ticks s.back ≡ 0 = omega (
              arith,
              staged_count old.pipe.channels given history,
              ap (λ (l : List Taken). length l) sets,
              length-append old.pipe.taken (item ∷ []),
              staged_count old.pipe.channels given s.front,
              ap (λ (l : List Taken). length l) s.sets,
              ap ticks s.whole,
              ticks-append s.front (Tick ∷ s.back),
            ) in
            let on : GoesOn (s.front ++ Tick ∷ []) history = record { rest = s.back; whole = append_assoc s.front (Tick ∷ []) s.back ∙ s.whole; quiet = quiet } in
            let many : old.pipe.channels ≡ length old.frames = was.same.channels ∙ as_many.channels ∙ sym was.frames in
            let outs : length base.outs ≡ length old.frames = as_many.outs ∙ sym was.frames in
            let past : List Event = given ++ s.front in
            let rendered : AreRendered old.frames entries (scenes_after past (length old.frames)) new.frames =
            rendered_for old.pipe.channels h.tick h.scenes past entries old.frames new.frames s.this many h.rendered in
            let bytes : (channel : ℕ) → IsConfigured (length old.frames) channel → bytes_in new.frames channel ≡ raw_frame begin.setup past channel =
            tick_bytes bytes_law begin.setup past entries old.frames new.frames before.shown rendered in
            record {
              shown = shown-quiet stays begin.setup entries new.frames (past ++ Tick ∷ []) (given ++ history) (goes_on-since given s.front history (Tick ∷ []) on)
                  (tick_law begin.setup past entries old.frames new.frames before.shown rendered);
              outs = still_taken state begin (s.front ++ Tick ∷ []) history base.outs new.outs on
                  (each_then
                  (λ channel b a. TakesFrames (shown_from begin s.front) channel (state b) (state a))
                  (λ channel b a. state a ≡ after_taking (state b) (bytes_in new.frames channel))
                  (λ channel b a. TakesFrames (shown_from begin (s.front ++ Tick ∷ [])) channel (state b) (state a))
                  1 (length base.outs) base.outs old.outs new.outs refl
                  (λ channel x y z le lt p q. taken_tick begin s.front channel (bytes_in new.frames channel) (state x) (state y) (state z) (bytes channel (le, omega (arith, lt, outs))) p q)
                  before.outs h.outs);
            };
      }

  -- the end mark was taken
  pub writing_done : (state : O → SinkState) (begin : Beginning) (entries : List Entry) (base old new : Writing O) → GetsTaken Done old.pipe new.pipe → new.outs ≡ old.outs
      → IsWriting state begin entries base old → HasWritten state begin None base new
  writing_done state begin entries base old new gets outs was =
      let pipe : new.pipe ≡ record old.pipe { taken = new.pipe.taken } = gets.after in
      let channels : new.pipe.channels ≡ old.pipe.channels = ap (λ (v : WriteView). v.channels) pipe in
      let given : new.pipe.given ≡ old.pipe.given = ap (λ (v : WriteView). v.given) pipe in
      record {
        closed = closed_done old.pipe.channels old.pipe.taken new.pipe.taken gets.next was.open_still;
        same = record { pipe = ap (λ (v : WriteView). v.pipe) pipe ∙ was.same.pipe; channels = channels ∙ was.same.channels };
        written = λ fit.
            let passed : NonePassed old.pipe.channels Done old.pipe.taken new.pipe.taken =
            none_passed old.pipe.channels Done old.pipe.taken new.pipe.taken gets.next (subst (λ (n : ℕ). AllFit n new.pipe.taken) channels fit) in
            record {
              free = ap (list_any is_broken) given ∙ was.free;
              outs = λ history e.
                  let sets : staged_of old.pipe.channels begin.given history ≡ old.pipe.taken =
                  same_front (staged_of old.pipe.channels begin.given history) old.pipe.taken Done Done (ap (λ (n : ℕ). staged_of n begin.given history ++ Done ∷ []) (sym channels) ∙ e ∙ passed.whole) in
                  subst (λ (l : List O). AllTakeFrames state (shown_from begin history) base.outs l) (sym outs) (was.shown passed.fits history sets).outs;
            };
      }

  -- no end mark was taken if an output failed
  pub failed_open : (state : O → SinkState) (begin : Beginning) (entries : List Entry) (failed : ℕ) (base old mid : Writing O)
      → WritesSet entries (λ frames channel before after. FailsAt failed (bytes_in frames) channel (state before) (state after)) (λ scenes. Broken failed scenes) old mid
      → IsWriting state begin entries base old → is_open mid.pipe.taken ≡ true
  failed_open state begin entries failed base old mid h was =
      let set : SetTaken h.tick h.scenes (Broken failed h.scenes) old.pipe mid.pipe = set_taken h.tick h.scenes (Broken failed h.scenes) old.pipe h.got mid.pipe h.gets h.gives in
      open_set old.pipe.channels old.pipe.taken mid.pipe.taken h.tick h.scenes set.next was.open_still

  -- an output failed, and the sets after it were given back
  pub writing_failed : (state : O → SinkState) (begin : Beginning) (entries : List Entry) (failed : ℕ) (base old mid : Writing O) (pipe : WriteView) → HasBytes → AreAsMany base → IsConfigured (length old.frames) failed
      → WritesSet entries (λ frames channel before after. FailsAt failed (bytes_in frames) channel (state before) (state after)) (λ scenes. Broken failed scenes) old mid
      → GivesBack mid.pipe pipe → IsWriting state begin entries base old → HasWritten state begin (Some failed) base (record mid { pipe = pipe })
  writing_failed state begin entries failed base old mid pipe bytes_law as_many configured h back was =
      let set : SetTaken h.tick h.scenes (Broken failed h.scenes) old.pipe mid.pipe = set_taken h.tick h.scenes (Broken failed h.scenes) old.pipe h.got mid.pipe h.gets h.gives in
      let item : Taken = Staged h.tick h.scenes in
      let channels : pipe.channels ≡ old.pipe.channels = back.same.channels ∙ set.same.channels in
      record {
        closed = back.closed;
        same = record { pipe = back.same.pipe ∙ set.same.pipe ∙ was.same.pipe; channels = channels ∙ was.same.channels };
        written = λ fit.
            let fits : AllFit old.pipe.channels (mid.pipe.taken ++ back.taken.0) =
            subst (λ (l : List Taken). AllFit old.pipe.channels l) (sym back.taken.1) (subst (λ (n : ℕ). AllFit n pipe.taken) channels fit) in
            let passed : NonePassed old.pipe.channels item old.pipe.taken mid.pipe.taken =
            none_passed old.pipe.channels item old.pipe.taken mid.pipe.taken set.next (all_front (λ (t : Taken). fits_taken old.pipe.channels t ≡ true) mid.pipe.taken back.taken.0 fits) in (
              subst (λ (n : ℕ). IsConfigured n failed) was.frames configured,
              record {
                before = old.pipe.taken;
                tick = h.tick;
                scenes = h.scenes;
                after = back.taken.0;
                whole = sym (append_assoc old.pipe.taken (item ∷ []) back.taken.0) ∙ ap (λ (l : List Taken). l ++ back.taken.0) (sym passed.whole) ∙ back.taken.1;
                told = record {
                  before = old.pipe.given;
                  scenes = h.scenes;
                  after = back.back;
                  whole = back.given ∙ ap (λ (l : List Returned). l ++ back.back) set.given ∙ append_assoc old.pipe.given (Broken failed h.scenes ∷ []) back.back;
                  first = was.free;
                  once = back.free;
                };
                free = ap free_before_news (back.given ∙ ap (λ (l : List Returned). l ++ back.back) set.given)
                    ∙ free_before old.pipe.given back.back failed h.scenes was.free ∙ was.count passed.fits;
                outs = λ history sets this.
                    let past : List Event = begin.given ++ history in
                    let here : staged_of old.pipe.channels begin.given history ≡ old.pipe.taken = ap (λ (n : ℕ). staged_of n begin.given history) (sym channels) ∙ sets in
                    let now : staged_item old.pipe.channels past ≡ item = ap (λ (n : ℕ). staged_item n past) (sym channels) ∙ this in
                    let before : HasShown state begin entries history base old = was.shown passed.fits history here in
                    let many : old.pipe.channels ≡ length old.frames = was.same.channels ∙ as_many.channels ∙ sym was.frames in
                    let outs : length base.outs ≡ length old.frames = as_many.outs ∙ sym was.frames in
                    let rendered : AreRendered old.frames entries (scenes_after past (length old.frames)) mid.frames =
                    rendered_for old.pipe.channels h.tick h.scenes past entries old.frames mid.frames now many h.rendered in
                    let bytes : (channel : ℕ) → IsConfigured (length old.frames) channel → bytes_in mid.frames channel ≡ raw_frame begin.setup past channel =
                    tick_bytes bytes_law begin.setup past entries old.frames mid.frames before.shown rendered in
                    each_then
                    (λ channel b a. TakesFrames (shown_from begin history) channel (state b) (state a))
                    (λ channel b a. FailsAt failed (bytes_in mid.frames) channel (state b) (state a))
                    (λ channel b a. IsCutAt failed (shown_from begin history) channel (state b) (state a))
                    1 (length base.outs) base.outs old.outs mid.outs refl
                    (λ channel x y z le lt p q. cut_tick begin history failed channel (bytes_in mid.frames) (state x) (state y) (state z) (bytes channel (le, omega (arith, lt, outs))) p q)
                    before.outs h.outs;
              },
            );
      }
