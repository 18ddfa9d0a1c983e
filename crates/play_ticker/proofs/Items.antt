-- The sets of the ticks of a history.
use Rattle.std.proofs.Common.{◌≡◌, ℕ, true, false, List, [], ◌∷◌, ◌++◌, length, All, refl, sym, ap, subst, ◌∙◌, arith, append_assoc, append-nil, length-append}
use Rattle.std.proofs.lemmas.List.Elements.{All-head, All-nil, All-cons, All-tail}
use Rattle.play_types.specs.History.{ticks}
use Rattle.play_types.specs.declared.drawn.Drawn.{Drawn}
use Rattle.play_types.specs.declared.event.Event.{Event}
use Rattle.play_types.specs.declared.event.Event.TheVariants.{Do, Batch, Tick, Stop}
use Rattle.scene_pipe.specs.declared.item.Taken.{Taken}
use Rattle.scene_pipe.specs.declared.item.Taken.TheVariants.{Staged, Done}
use Rattle.scene_pipe.specs.Items.{IsClosed, fits_taken, is_closed}
use Rattle.scene_pipe.specs.Lists.{GetsNext}
use Rattle.play_ticker.specs.inner.Items.{AllFit, is_open, staged_after, staged_item, staged_of}
use Rattle.play_ticker.proofs.Frames.{GoesOn}

-- the sets of two parts of a history
staged-append : (channels : ℕ) (past xs ys : List Event) → staged_after channels past (xs ++ ys) ≡ staged_after channels past xs ++ staged_after channels (past ++ xs) ys
staged-append channels past [] ys = ap (λ (p : List Event). staged_after channels p ys) (sym (append-nil past))
staged-append channels past (Do tag cmd ∷ xs) ys =
    staged-append channels (past ++ Do tag cmd ∷ []) xs ys
    ∙ ap (λ (p : List Event). staged_after channels (past ++ Do tag cmd ∷ []) xs ++ staged_after channels p ys) (append_assoc past (Do tag cmd ∷ []) xs)
staged-append channels past (Batch tag cmds ∷ xs) ys =
    staged-append channels (past ++ Batch tag cmds ∷ []) xs ys
    ∙ ap (λ (p : List Event). staged_after channels (past ++ Batch tag cmds ∷ []) xs ++ staged_after channels p ys) (append_assoc past (Batch tag cmds ∷ []) xs)
staged-append channels past (Tick ∷ xs) ys =
    ap (λ (l : List Taken). staged_item channels past ∷ l) (staged-append channels (past ++ Tick ∷ []) xs ys
    ∙ ap (λ (p : List Event). staged_after channels (past ++ Tick ∷ []) xs ++ staged_after channels p ys) (append_assoc past (Tick ∷ []) xs))
staged-append channels past (Stop tag ∷ xs) ys =
    staged-append channels (past ++ Stop tag ∷ []) xs ys
    ∙ ap (λ (p : List Event). staged_after channels (past ++ Stop tag ∷ []) xs ++ staged_after channels p ys) (append_assoc past (Stop tag ∷ []) xs)

-- there are as many sets as ticks
pub staged_count : (channels : ℕ) (past xs : List Event) → length (staged_after channels past xs) ≡ ticks xs
staged_count channels past [] = refl
staged_count channels past (Do tag cmd ∷ xs) = staged_count channels (past ++ Do tag cmd ∷ []) xs
staged_count channels past (Batch tag cmds ∷ xs) = staged_count channels (past ++ Batch tag cmds ∷ []) xs
staged_count channels past (Tick ∷ xs) = omega (arith, staged_count channels (past ++ Tick ∷ []) xs)
staged_count channels past (Stop tag ∷ xs) = staged_count channels (past ++ Stop tag ∷ []) xs

no_items : (items : List Taken) → length items ≡ 0 → items ≡ []
no_items [] none = refl
no_items (item ∷ items) none = absurd (omega (arith, none))

-- a history that goes on without a tick has the sets of the one that it goes on from
pub staged-quiet : (channels : ℕ) (given seen history : List Event) → GoesOn seen history → staged_of channels given history ≡ staged_of channels given seen
staged-quiet channels given seen history on =
    let rest : staged_after channels (given ++ seen) on.rest ≡ [] = no_items (staged_after channels (given ++ seen) on.rest) (staged_count channels (given ++ seen) on.rest ∙ on.quiet) in
    ap (staged_of channels given) (sym on.whole) ∙ staged-append channels given seen on.rest
    ∙ ap (λ (l : List Taken). staged_of channels given seen ++ l) rest ∙ append-nil (staged_of channels given seen)

-- one tick more is one set more
pub staged-tick : (channels : ℕ) (given history : List Event)
    → staged_of channels given (history ++ Tick ∷ []) ≡ staged_of channels given history ++ staged_item channels (given ++ history) ∷ []
staged-tick channels given history = staged-append channels given history (Tick ∷ [])

-- a history whose sets are known up to one, and from there on
pub record SplitsAt (channels : ℕ) (past rest : List Event) (before : List Taken) (item : Taken) : Type 0 where
  pub front : List Event
  pub back : List Event
  pub whole : front ++ Tick ∷ back ≡ rest
  pub sets : staged_after channels past front ≡ before
  pub this : staged_item channels (past ++ front) ≡ item

skipped : (channels : ℕ) (event : Event) (past rest : List Event) (before : List Taken) (item : Taken)
    → ((xs : List Event) → staged_after channels past (event ∷ xs) ≡ staged_after channels (past ++ event ∷ []) xs)
    → SplitsAt channels (past ++ event ∷ []) rest before item → SplitsAt channels past (event ∷ rest) before item
skipped channels event past rest before item same s = record {
  front = event ∷ s.front;
  back = s.back;
  whole = ap (λ (l : List Event). event ∷ l) s.whole;
  sets = same s.front ∙ s.sets;
  this = ap (staged_item channels) (sym (append_assoc past (event ∷ []) s.front)) ∙ s.this;
}

pub split_at : (channels : ℕ) (past rest : List Event) (before : List Taken) (item : Taken) (after : List Taken) → staged_after channels past rest ≡ before ++ item ∷ after
    → SplitsAt channels past rest before item
split_at channels past [] [] item after e = absurd cc
split_at channels past [] (x ∷ before) item after e = absurd cc
split_at channels past (Do tag cmd ∷ rest) before item after e =
    skipped channels (Do tag cmd) past rest before item (λ xs. refl) (split_at channels (past ++ Do tag cmd ∷ []) rest before item after e)
split_at channels past (Batch tag cmds ∷ rest) before item after e =
    skipped channels (Batch tag cmds) past rest before item (λ xs. refl) (split_at channels (past ++ Batch tag cmds ∷ []) rest before item after e)
split_at channels past (Tick ∷ rest) [] item after e = record {
  front = [];
  back = rest;
  whole = refl;
  sets = refl;
  this = ap (staged_item channels) (append-nil past) ∙ cc;
}
split_at channels past (Tick ∷ rest) (x ∷ before) item after e =
    let first : staged_item channels past ≡ x = cc in
    let others : staged_after channels (past ++ Tick ∷ []) rest ≡ before ++ item ∷ after = cc in
    let s : SplitsAt channels (past ++ Tick ∷ []) rest before item = split_at channels (past ++ Tick ∷ []) rest before item after others in
    record {
      front = Tick ∷ s.front;
      back = s.back;
      whole = ap (λ (l : List Event). Tick ∷ l) s.whole;
      sets = (λ i. first i ∷ s.sets i);
      this = ap (staged_item channels) (sym (append_assoc past (Tick ∷ []) s.front)) ∙ s.this;
    }
split_at channels past (Stop tag ∷ rest) before item after e =
    skipped channels (Stop tag) past rest before item (λ xs. refl) (split_at channels (past ++ Stop tag ∷ []) rest before item after e)

-- lists with a last item
pub same_front : (xs ys : List Taken) (x y : Taken) → xs ++ x ∷ [] ≡ ys ++ y ∷ [] → xs ≡ ys
same_front [] [] x y e = refl
same_front [] (b ∷ ys) x y e = absurd (omega (arith, ap (λ (l : List Taken). length l) e, length-append ys (y ∷ [])))
same_front (a ∷ xs) [] x y e = absurd (omega (arith, ap (λ (l : List Taken). length l) e, length-append xs (x ∷ [])))
same_front (a ∷ xs) (b ∷ ys) x y e =
    let first : a ≡ b = cc in
    let others : xs ++ x ∷ [] ≡ ys ++ y ∷ [] = cc in
    let rest : xs ≡ ys = same_front xs ys x y others in
    λ i. first i ∷ rest i

-- a set that is among sets and an end mark is among the sets
pub record StandsIn (sets before : List Taken) (item : Taken) : Type 0 where
  pub after : List Taken
  pub whole : sets ≡ before ++ item ∷ after

pub stands_in : (sets before after : List Taken) (tick : ℕ) (scenes : List (List Drawn)) → before ++ Staged tick scenes ∷ after ≡ sets ++ Done ∷ [] → StandsIn sets before (Staged tick scenes)
stands_in [] [] after tick scenes e = absurd cc
stands_in [] (x ∷ before) after tick scenes e = absurd (omega (arith, ap (λ (l : List Taken). length l) e, length-append before (Staged tick scenes ∷ after)))
stands_in (s ∷ sets) [] after tick scenes e =
    let first : s ≡ Staged tick scenes = cc in
    record { after = sets; whole = ap (λ (t : Taken). t ∷ sets) first }
stands_in (s ∷ sets) (x ∷ before) after tick scenes e =
    let first : s ≡ x = cc in
    let others : before ++ Staged tick scenes ∷ after ≡ sets ++ Done ∷ [] = cc in
    let rest : StandsIn sets before (Staged tick scenes) = stands_in sets before after tick scenes others in
    record { after = rest.after; whole = (λ i. first i ∷ rest.whole i) }

-- sets of ticks have no end mark
pub staged_open : (channels : ℕ) (past xs : List Event) → is_open (staged_after channels past xs) ≡ true
staged_open channels past [] = refl
staged_open channels past (Do tag cmd ∷ xs) = staged_open channels (past ++ Do tag cmd ∷ []) xs
staged_open channels past (Batch tag cmds ∷ xs) = staged_open channels (past ++ Batch tag cmds ∷ []) xs
staged_open channels past (Tick ∷ xs) = staged_open channels (past ++ Tick ∷ []) xs
staged_open channels past (Stop tag ∷ xs) = staged_open channels (past ++ Stop tag ∷ []) xs

-- the end mark after sets closes them
pub closed_end : (items : List Taken) → is_open items ≡ true → IsClosed (items ++ Done ∷ [])
closed_end [] open_still = refl
closed_end (Staged tick scenes ∷ items) open_still = closed_end items open_still
closed_end (Done ∷ items) open_still = absurd cc

pub open_more : (xs ys : List Taken) → is_open xs ≡ true → is_open ys ≡ true → is_open (xs ++ ys) ≡ true
open_more [] ys one two = two
open_more (Staged tick scenes ∷ xs) ys one two = open_more xs ys one two
open_more (Done ∷ xs) ys one two = absurd cc

-- what is passed over is no end mark
foreign_open : (channels : ℕ) (items : List Taken) → All (λ item. fits_taken channels item ≡ false) items → is_open items ≡ true
foreign_open channels [] foreign = refl
foreign_open channels (Staged tick scenes ∷ items) foreign = foreign_open channels items (All-tail (λ (item : Taken). fits_taken channels item ≡ false) (Staged tick scenes) items foreign)
foreign_open channels (Done ∷ items) foreign = let foreign_mark = All-head (λ (item : Taken). fits_taken channels item ≡ false) Done items foreign in absurd cc

pub open_set : (channels : ℕ) (old new : List Taken) (tick : ℕ) (scenes : List (List Drawn)) → GetsNext (fits_taken channels) (Staged tick scenes) old new → is_open old ≡ true → is_open new ≡ true
open_set channels old new tick scenes next was =
    ap is_open next.lists ∙ open_more (old ++ next.others) (Staged tick scenes ∷ []) (open_more old next.others was (foreign_open channels next.others next.foreign)) refl

pub closed_done : (channels : ℕ) (old new : List Taken) → GetsNext (fits_taken channels) Done old new → is_open old ≡ true → IsClosed new
closed_done channels old new next was =
    ap is_closed next.lists ∙ closed_end (old ++ next.others) (open_more old next.others was (foreign_open channels next.others next.foreign))

-- if all fit, nothing was passed over
pub record NonePassed (channels : ℕ) (item : Taken) (old new : List Taken) : Type 0 where
  pub whole : new ≡ old ++ item ∷ []
  pub fits : AllFit channels old

pub all_front : {X : Type 0} (P : X → Type 0) (xs ys : List X) → All P (xs ++ ys) → All P xs
all_front P [] ys all = All-nil P
all_front P (x ∷ xs) ys all = All-cons P x xs (All-head P x (xs ++ ys) all) (all_front P xs ys (All-tail P x (xs ++ ys) all))

all_back : {X : Type 0} (P : X → Type 0) (xs ys : List X) → All P (xs ++ ys) → All P ys
all_back P [] ys all = all
all_back P (x ∷ xs) ys all = all_back P xs ys (All-tail P x (xs ++ ys) all)

none_foreign : (channels : ℕ) (others : List Taken) → All (λ item. fits_taken channels item ≡ false) others → AllFit channels others → others ≡ []
none_foreign channels [] foreign fit = refl
none_foreign channels (item ∷ others) foreign fit =
    let foreign_item : fits_taken channels item ≡ false = All-head (λ (item : Taken). fits_taken channels item ≡ false) item others foreign in
    let own_item : fits_taken channels item ≡ true = All-head (λ (item : Taken). fits_taken channels item ≡ true) item others fit in
    absurd cc

pub none_passed : (channels : ℕ) (item : Taken) (old new : List Taken) → GetsNext (fits_taken channels) item old new → AllFit channels new → NonePassed channels item old new
none_passed channels item old new next fit =
    let P : Taken → Type 0 = λ item. fits_taken channels item ≡ true in
    let all : All P ((old ++ next.others) ++ item ∷ []) = subst (λ (l : List Taken). All P l) next.lists fit in
    let front : All P (old ++ next.others) = all_front P (old ++ next.others) (item ∷ []) all in
    let none : next.others ≡ [] = none_foreign channels next.others next.foreign (all_back P old next.others front) in
    record {
      whole = next.lists ∙ ap (λ (l : List Taken). (old ++ l) ++ item ∷ []) none ∙ ap (λ (l : List Taken). l ++ item ∷ []) (append-nil old);
      fits = all_front P old next.others front;
    }
