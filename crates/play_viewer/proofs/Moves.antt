-- Moves of a viewing that follow others.
use Rattle.std.proofs.Common.{◌≡◌, ℕ, Bool, true, List, [], ◌∷◌, ◌++◌, refl, sym, ap, ◌∙◌, subst, inl, inr}
use Rattle.std.specs.Prelude.{Option, Some, None, Result, Ok, Err, IfSome, IsErrAnd, option_map}
use Rattle.std.proofs.lemmas.Bool.{false≢true}
use Rattle.http_pages.specs.declared.page.Page.{Page}
use Rattle.server_setup.specs.declared.fault.RunFault.{RunFault}
use Rattle.server_setup.specs.declared.fault.RunFault.TheVariants.{Device, OutOfMemory}
use Rattle.live_view.specs.Faults.{RefusesLog}
use Rattle.live_view.specs.History.{history_of}
use Rattle.live_view.specs.Messages.{messages_due, sent_after}
use Rattle.live_view.specs.Page.{IsPage}
use Rattle.live_view.specs.View.{IsView, IsViewOf, ViewState, source_of, state_of}
use Rattle.live_view.proofs.Views.{takes_log}
use Rattle.play_viewer.specs.Moves.{DeskState, Move, Took, Wanted, Gave, Waited, Sent, Ended, after_fault, after_move, after_moves}
use Rattle.play_viewer.specs.Viewing.{Viewed, Views, bytes_in, sent_in}
use Rattle.live_view.specs.declared.view.LiveView.{LiveView}
use Rattle.play_viewer.specs.inner.UnderWay.{GoesOn, IsUnderWay}

-- no moves change nothing
pub none_more : (state : DeskState) → state ≡ after_moves [] state
none_more state = ap (λ (told : Option (List Move)). record state { told = told }) (by_told state.told)
  where
    by_told : (told : Option (List Move)) → told ≡ option_map (λ (moves : List Move). [] ++ moves) told
    by_told None = refl
    by_told (Some moves) = refl

-- one move after others
one_more : (move : Move) (moves : List Move) (state : DeskState) → after_move move (after_moves moves state) ≡ after_moves (move ∷ moves) state
one_more move moves state = ap (λ (told : Option (List Move)). record state { told = told }) (by_told state.told)
  where
    by_told : (told : Option (List Move)) → option_map (λ (all : List Move). move ∷ all) (option_map (λ (all : List Move). moves ++ all) told)
        ≡ option_map (λ (all : List Move). (move ∷ moves) ++ all) told
    by_told None = refl
    by_told (Some all) = refl

-- a desk that made one more move
moved : (move : Move) (moves : List Move) (before now after : DeskState) → now ≡ after_moves moves before → after ≡ after_move move now → after ≡ after_moves (move ∷ moves) before
moved move moves before now after was is = is ∙ ap (after_move move) was ∙ one_more move moves before

-- a viewing begins with a view of which nothing was taken
pub begins : (viewed : Viewed) (now : DeskState) (view : ViewState) → IsViewOf viewed.playout [] view → view.pictures ≡ viewed.pictures → view.sent ≡ 0 → IsUnderWay viewed now now view
begins viewed now view of_bytes pictures sent = (
  [],
  record {
    are = tt;
    even = (tt, takes_log viewed.playout [] view of_bytes);
    now_is = none_more now;
    view_is = record { of_bytes = of_bytes; pictures = pictures; sent = sent; fresh = λ settled. absurd (false≢true settled) };
  },
)

module _ (viewed : Viewed) (before now : DeskState) (view : ViewState) (way : IsUnderWay viewed before now view) where
  -- the bytes that were taken
  abbrev pub bytes : List ℕ
  bytes = bytes_in way.0

  -- the view has them
  pub has_bytes : IsViewOf viewed.playout bytes view
  has_bytes = way.1.view_is.of_bytes

  -- more bytes were taken
  pub took : (piece : List ℕ) (next : ViewState) (after : DeskState) → after ≡ after_move (Took piece) now → IsViewOf viewed.playout (bytes ++ piece) next
      → next.pictures ≡ view.pictures → next.sent ≡ view.sent → IsUnderWay viewed before after next
  took piece next after told of_bytes pictures sent = (
    Took piece ∷ way.0,
    record {
      are = (way.1.even, way.1.are);
      even = (tt, takes_log viewed.playout (bytes ++ piece) next of_bytes);
      now_is = moved (Took piece) way.0 before now after way.1.now_is told;
      view_is = record {
        of_bytes = of_bytes;
        pictures = pictures ∙ way.1.view_is.pictures;
        sent = sent ∙ way.1.view_is.sent;
        fresh = λ settled. absurd (false≢true settled);
      };
    },
  )

  -- more bytes were refused
  pub refused : (piece : List ℕ) (fault : RunFault) (after : DeskState) → after ≡ after_move (Took piece) now → RefusesLog viewed.playout (bytes ++ piece) fault
      → Views viewed (Err fault) before after
  refused piece fault after told refuses = record {
    moves = Took piece ∷ way.0;
    are = (way.1.even, way.1.are);
    ends = inr (refuses, moved (Took piece) way.0 before now after way.1.now_is told);
  }

  -- a request came
  module _ (path : List ℕ) (query : Option (List ℕ)) (asked : DeskState) (told : asked ≡ after_move (Wanted path query) now) where
    -- and was answered
    pub answered : (page : Option Page) (after : DeskState) → IsPage (source_of viewed.playout bytes view) path query page → after ≡ after_move (Gave page) asked
        → IsUnderWay viewed before after view
    answered page after is gave = (
      Gave page ∷ Wanted path query ∷ way.0,
      record {
        are = (
          record {
            fresh = view.fresh;
            is_fresh = way.1.view_is.fresh;
            is_page = subst (λ (b : Bool). IsPage (record (source_of viewed.playout bytes view) { pictures = b }) path query page) way.1.view_is.pictures is;
          },
          (way.1.even, way.1.are),
        );
        even = (tt, way.1.even.1);
        now_is = moved (Gave page) (Wanted path query ∷ way.0) before asked after (moved (Wanted path query) way.0 before now asked way.1.now_is told) gave;
        view_is = record {
          of_bytes = way.1.view_is.of_bytes;
          pictures = way.1.view_is.pictures;
          sent = way.1.view_is.sent;
          fresh = way.1.view_is.fresh;
        };
      },
    )

    -- and memory ran out
    pub unanswered : (after : DeskState) → after ≡ asked → Views viewed (Err OutOfMemory) before after
    unanswered after same = record {
      moves = Wanted path query ∷ way.0;
      are = (way.1.even, way.1.are);
      ends = inr (tt, same ∙ moved (Wanted path query) way.0 before now asked way.1.now_is told);
    }

  -- nothing was there for now
  module _ (waits : DeskState) (told : waits ≡ after_move Waited now) where
    -- and the messages that were due were sent
    pub rested : (next : ViewState) (after : DeskState) → IsViewOf viewed.playout bytes next → next.pictures ≡ view.pictures
        → next.sent ≡ sent_after view.sent (history_of viewed.playout bytes) → (next.pictures ≡ true → next.fresh ≡ true)
        → after ≡ after_move (Sent (messages_due viewed.playout view.sent (history_of viewed.playout bytes))) waits → IsUnderWay viewed before after next
    rested next after of_bytes pictures sent fresh sends =
        let events = history_of viewed.playout bytes in
        let messages = messages_due viewed.playout (sent_in viewed.playout way.0) events in
        let wanted = pictures ∙ way.1.view_is.pictures in (
          Sent messages ∷ Waited ∷ way.0,
          record {
            are = (refl, (way.1.even, way.1.are));
            even = (tt, way.1.even.1);
            now_is = moved (Sent messages) (Waited ∷ way.0) before waits after (moved Waited way.0 before now waits way.1.now_is told)
                (sends ∙ ap (λ (n : ℕ). after_move (Sent (messages_due viewed.playout n events)) waits) way.1.view_is.sent);
            view_is = record {
              of_bytes = of_bytes;
              pictures = wanted;
              sent = sent ∙ ap (λ (n : ℕ). sent_after n events) way.1.view_is.sent;
              fresh = λ settled shows. fresh (wanted ∙ shows);
            };
          },
        )

    -- and memory ran out
    pub unrested : (after : DeskState) → after ≡ waits → Views viewed (Err OutOfMemory) before after
    unrested after same = record {
      moves = Waited ∷ way.0;
      are = (way.1.even, way.1.are);
      ends = inr (tt, same ∙ moved Waited way.0 before now waits way.1.now_is told);
    }

  -- the desk ended the viewing
  pub ended : (after : DeskState) → after ≡ after_move Ended now → Views viewed (Ok tt) before after
  ended after told = record { moves = way.0; are = way.1.are; ends = (way.1.even, told ∙ ap (after_move Ended) way.1.now_is) }

  -- the desk failed
  pub failed : (after : DeskState) → after ≡ after_fault now → Views viewed (Err Device) before after
  failed after told = record { moves = way.0; are = way.1.are; ends = inl (refl, way.1.even, told ∙ ap after_fault way.1.now_is) }

-- a viewing that ended with a fault is handed on
pub handed_on : {R : Type 0} (viewed : Viewed) (before now : DeskState) (fault : RunFault) (result : Result (Option (LiveView R)) RunFault)
    → IsErrAnd result (λ other. other ≡ fault) → Views viewed (Err fault) before now → GoesOn viewed before now result
handed_on viewed before now fault (Ok next) is views = absurd is
handed_on viewed before now fault (Err other) is views = subst (λ (f : RunFault). Views viewed (Err f) before now) (sym is) views

-- and so is its end
pub ends_so : (viewed : Viewed) (before now : DeskState) (fault : RunFault) (result : Result (Unit {0}) RunFault) → IsErrAnd result (λ other. other ≡ fault)
    → Views viewed (Err fault) before now → Views viewed result before now
ends_so viewed before now fault (Ok done) is views = absurd is
ends_so viewed before now fault (Err other) is views = subst (λ (f : RunFault). Views viewed (Err f) before now) (sym is) views

-- a step that was taken, by whether there is a view after it
module _ {R : Type 0} (step : Option (LiveView R)) where
  pub view_after : (next : LiveView R) → step ≡ Some next → IfSome step (λ view. IsView (state_of view)) → IsView (state_of next)
  view_after next is views = subst (λ (o : Option (LiveView R)). IfSome o (λ view. IsView (state_of view))) is views

  module _ (viewed : Viewed) (before now : DeskState) where
    pub goes_on : (next : LiveView R) → step ≡ Some next → GoesOn viewed before now (Ok step) → IsUnderWay viewed before now (state_of next)
    goes_on next is goes = subst (λ (o : Option (LiveView R)). GoesOn viewed before now (Ok o)) is goes

    pub has_ended : step ≡ None → GoesOn viewed before now (Ok step) → Views viewed (Ok tt) before now
    has_ended is goes = subst (λ (o : Option (LiveView R)). GoesOn viewed before now (Ok o)) is goes
