-- How many sets came back, call by call.
use Rattle.std.proofs.Common.{◌≡◌, ℕ, ◌+◌, ◌≤◌, true, false, List, [], ◌∷◌, ◌++◌, length, All, inl, inr, ⊎_elim, refl, sym, ap, subst, ◌∙◌, arith, length-append}
use Rattle.std.specs.List.{list_any}
use Rattle.std.proofs.lemmas.Bool.{cases_Bool}
use Rattle.std.proofs.lemmas.Bool.Decides.{nat_tests}
use Rattle.std.proofs.lemmas.List.Elements.{All-head, All-tail}
use Rattle.std.proofs.lemmas.List.Folds.{list_any-append}
use mathlib.Core.List.{IsPrefix}
use Rattle.play_types.specs.declared.drawn.Drawn.{Drawn}
use Rattle.scene_pipe.specs.declared.item.Returned.{Returned}
use Rattle.scene_pipe.specs.declared.item.Returned.TheVariants.{Free, Broken}
use Rattle.scene_pipe.specs.declared.item.Room.{Room}
use Rattle.scene_pipe.specs.declared.item.Room.TheVariants as room
use Rattle.scene_pipe.specs.Calls.{GivesHeld, GivesReturned, GivesRoom}
use Rattle.scene_pipe.specs.Counts.{EndsWithNews, free_before_news, free_count, is_news, is_room}
use Rattle.scene_pipe.specs.Items.{fits_returned, room_of}
use Rattle.scene_pipe.specs.Views.{StageView}
use Rattle.play_ticker.specs.inner.Items.{is_broken}
use Rattle.play_ticker.specs.inner.Staging.{GetsRoom, IsSamePipe}

free_append : (channels : ℕ) (xs ys : List Returned) → free_count channels (xs ++ ys) ≡ free_count channels xs + free_count channels ys
free_append channels [] ys = omega arith
free_append channels (x ∷ xs) ys = elim (cases_Bool (is_room channels x)) [
  | inl room ↦ rw room (omega (arith, free_append channels xs ys))
  | inr none ↦ rw none (free_append channels xs ys)
]

-- an item that is passed over is no room and no report
foreign_room : (channels : ℕ) (item : Returned) → fits_returned channels item ≡ false → (is_room channels item ≡ false) × (is_news channels item ≡ false)
foreign_room channels (Free scenes) other = (other, refl)
foreign_room channels (Broken channel scenes) other = (refl, other)

foreign_free : (channels : ℕ) (others : List Returned) → All (λ item. fits_returned channels item ≡ false) others → free_count channels others ≡ 0
foreign_free channels [] foreign = refl
foreign_free channels (item ∷ others) foreign =
    rw (foreign_room channels item (All-head (λ (item : Returned). fits_returned channels item ≡ false) item others foreign)).0
    (foreign_free channels others (All-tail (λ (item : Returned). fits_returned channels item ≡ false) item others foreign))

foreign_news : (channels : ℕ) (others : List Returned) → All (λ item. fits_returned channels item ≡ false) others → list_any (is_news channels) others ≡ false
foreign_news channels [] foreign = refl
foreign_news channels (item ∷ others) foreign =
    rw (foreign_room channels item (All-head (λ (item : Returned). fits_returned channels item ≡ false) item others foreign)).1
    (foreign_news channels others (All-tail (λ (item : Returned). fits_returned channels item ≡ false) item others foreign))

-- an item that is a room counts, and is no report
free_item : (channels : ℕ) (item : Returned) (scenes : List (List Drawn)) → room.Free scenes ≡ room_of item → fits_returned channels item ≡ true
    → (free_count channels (item ∷ []) ≡ 1) × (list_any (is_news channels) (item ∷ []) ≡ false)
free_item channels (Free s) scenes says fits = (rw fits refl, refl)
free_item channels (Broken channel s) scenes says fits = absurd (cc says)

fits_length : (channels : ℕ) (item : Returned) (scenes : List (List Drawn)) → room.Free scenes ≡ room_of item → fits_returned channels item ≡ true → length scenes ≡ channels
fits_length channels (Free s) scenes says fits =
    let same : scenes ≡ s = cc in
    let many : length s ≡ channels = grind (arith, nat_tests) in
    ap (λ (l : List (List Drawn)). length l) same ∙ many
fits_length channels (Broken channel s) scenes says fits = absurd (cc says)

news_item : (channels : ℕ) (item : Returned) (channel : ℕ) → room.Broken channel ≡ room_of item → fits_returned channels item ≡ true
    → (is_news channels item ≡ true) × (free_count channels (item ∷ []) ≡ 0)
news_item channels (Free s) channel says fits = absurd (cc says)
news_item channels (Broken c s) channel says fits = (fits, refl)

-- the sets that were sent and those that are held are at most four and those that came back, and no report of a failed output came
pub record IsBalanced (view : StageView) : Type 0 where
  pub few : length view.sent + length view.held ≤ 4 + free_count view.channels view.returned
  pub quiet : list_any (is_news view.channels) view.returned ≡ false

-- the pipe gave scenes to fill, which are not counted any more
pub record HasGot (scenes : List (List Drawn)) (old new : StageView) : Type 0 where
  pub many : length scenes ≡ old.channels
  pub sent : new.sent ≡ old.sent
  pub few : length new.sent + length new.held + 1 ≤ 4 + free_count new.channels new.returned
  pub quiet : list_any (is_news new.channels) new.returned ≡ false
  pub same : IsSamePipe old new

got_held : (scenes : List (List Drawn)) (old new : StageView) → GivesHeld (room.Free scenes) old new → IsBalanced old → HasGot scenes old new
got_held scenes old new h was =
    let Is : StageView → Type 0 = λ view. HasGot scenes old view in
    let same : scenes ≡ h.scenes = cc (h.says) in
    let all : HasGot scenes old (record old { held = new.held }) = record {
      many = ap (λ (l : List (List Drawn)). length l) same ∙ h.fits;
      sent = refl;
      few = omega (arith, was.few, ap (λ (l : List (List (List Drawn))). length l) h.held, length-append new.held (h.scenes ∷ []));
      quiet = was.quiet;
      same = record { pipe = refl; channels = refl };
    } in
    subst Is (sym h.after) all

got_returned : (scenes : List (List Drawn)) (old new : StageView) → GivesReturned (room.Free scenes) old new → IsBalanced old → HasGot scenes old new
got_returned scenes old new h was =
    let Is : StageView → Type 0 = λ view. HasGot scenes old view in
    let next = h.gets.next in
    let item = free_item old.channels h.item scenes h.says next.own in
    let all : HasGot scenes old (record old { returned = new.returned }) = record {
      many = fits_length old.channels h.item scenes h.says next.own;
      sent = refl;
      few = omega (
        arith,
        was.few,
        ap (free_count old.channels) next.lists,
        free_append old.channels (old.returned ++ next.others) (h.item ∷ []),
        free_append old.channels old.returned next.others,
        foreign_free old.channels next.others next.foreign,
        item.0,
      );
      quiet = rw (
        next.lists,
        list_any-append (is_news old.channels) (old.returned ++ next.others) (h.item ∷ []),
        list_any-append (is_news old.channels) old.returned next.others,
        was.quiet,
        foreign_news old.channels next.others next.foreign,
      ) item.1;
      same = record { pipe = refl; channels = refl };
    } in
    subst Is (sym h.gets.after) all

pub got : (old new : StageView) (h : GetsRoom old new) → IsBalanced old → HasGot h.scenes old new
got old new h was = ⊎_elim (λ (held : GivesHeld (room.Free h.scenes) old new). got_held h.scenes old new held was) (λ (back : GivesReturned (room.Free h.scenes) old new). got_returned h.scenes old new back was) h.room

-- the report of a failed output came
pub record HasNews (old new : StageView) : Type 0 where
  pub sent : new.sent ≡ old.sent
  pub few : length new.sent ≤ 4 + free_count new.channels new.returned
  pub news : EndsWithNews new.channels new.returned
  pub same : IsSamePipe old new

got_news : (channel : ℕ) (old new : StageView) → GivesReturned (room.Broken channel) old new → IsBalanced old → HasNews old new
got_news channel old new h was =
    let next = h.gets.next in
    let item = news_item old.channels h.item channel h.says next.own in
    let all : HasNews old (record old { returned = new.returned }) = record {
      sent = refl;
      few = omega (
        arith,
        was.few,
        ap (free_count old.channels) next.lists,
        free_append old.channels (old.returned ++ next.others) (h.item ∷ []),
        free_append old.channels old.returned next.others,
        foreign_free old.channels next.others next.foreign,
        item.1,
      );
      news = record {
        front = old.returned ++ next.others;
        last = h.item;
        whole = next.lists;
        news = item.0;
        none_before = rw (list_any-append (is_news old.channels) old.returned next.others, was.quiet) (foreign_news old.channels next.others next.foreign);
      };
      same = record { pipe = refl; channels = refl };
    } in
    subst (HasNews old) (sym h.gets.after) all

no_held_news : (channel : ℕ) (old new : StageView) → GivesHeld (room.Broken channel) old new → HasNews old new
no_held_news channel old new h = absurd (cc (h.says))

pub told_news : (channel : ℕ) (old new : StageView) → GivesRoom (room.Broken channel) old new → IsBalanced old → HasNews old new
told_news channel old new h was = ⊎_elim (no_held_news channel old new) (λ (back : GivesReturned (room.Broken channel) old new). got_news channel old new back was) h

-- scenes that were got are of the pipe's number of channels
pub room_many : (scenes : List (List Drawn)) (old new : StageView) → GivesRoom (room.Free scenes) old new → length scenes ≡ old.channels
room_many scenes old new h =
    ⊎_elim
    (λ (held : GivesHeld (room.Free scenes) old new). let same : scenes ≡ held.scenes = cc (held.says) in ap (λ (l : List (List Drawn)). length l) same ∙ held.fits)
    (λ (back : GivesReturned (room.Free scenes) old new). fits_length old.channels back.item scenes back.says back.gets.next.own)
    h

-- a room keeps the number of channels
pub room_channels : (result : Room) (old new : StageView) → GivesRoom result old new → new.channels ≡ old.channels
room_channels result old new h =
    ⊎_elim
    (λ (held : GivesHeld result old new). ap (λ (v : StageView). v.channels) held.after)
    (λ (back : GivesReturned result old new). ap (λ (v : StageView). v.channels) back.gets.after)
    h

-- the sets that were given back before the first report
pub free_before : (given more : List Returned) (channel : ℕ) (scenes : List (List Drawn)) → list_any is_broken given ≡ false
    → free_before_news ((given ++ Broken channel scenes ∷ []) ++ more) ≡ length given
free_before [] more channel scenes none = refl
free_before (Free s ∷ given) more channel scenes none = omega (arith, free_before given more channel scenes none)
free_before (Broken c s ∷ given) more channel scenes none = absurd cc

-- if no output failed, no report came
news_broken : (channels : ℕ) (item : Returned) → is_news channels item ≡ true → is_broken item ≡ true
news_broken channels (Free s) news = absurd cc
news_broken channels (Broken c s) news = refl

pub no_news : (channels : ℕ) (returned given : List Returned) → IsPrefix returned given → list_any is_broken given ≡ false → EndsWithNews channels returned → ⊥
no_news channels returned given p none news =
    let whole : (news.front ++ news.last ∷ []) ++ p.0 ≡ given = ap (λ (l : List Returned). l ++ p.0) (sym news.whole) ∙ p.1 in
    let all : list_any is_broken ((news.front ++ news.last ∷ []) ++ p.0) ≡ false = ap (list_any is_broken) whole ∙ none in
    broken_in news.front p.0 news.last (news_broken channels news.last news.news) all
  where
    broken_in : (front rest : List Returned) (item : Returned) → is_broken item ≡ true → list_any is_broken ((front ++ item ∷ []) ++ rest) ≡ false → ⊥
    broken_in [] rest item is none = cc (rw is at none)
    broken_in (Free s ∷ front) rest item is none = broken_in front rest item is none
    broken_in (Broken c s ∷ front) rest item is none = cc none
