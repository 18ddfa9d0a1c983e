-- The words that begin an option, and those that name a kind of transition.
use Rattle.std.proofs.Common.{◌≡◌, ℕ, Bool, true, false, cond, List, refl, ap}
use Rattle.std.specs.Prelude.{Option, Some, None, is_some, option_map, unwrap_or, codes}
use Rattle.play_types.specs.declared.transition.Kind.{Kind}
use Rattle.play_types.specs.declared.transition.Kind.TheVariants.{Cut, Mix, Push, Slide, Wipe}
use Rattle.play_types.specs.Words.{is_word, kind_of}
use Rattle.history_model.specs.commands.Options.{option_of}
use Rattle.history_model.specs.commands.Options as meant
use Rattle.cmd_parse.specs.inner.Keyword.{keyword_of, option_named, is_cut}
use Rattle.cmd_parse.specs.declared.keyword.Keyword.{Keyword}
use Rattle.cmd_parse.specs.declared.keyword.Keyword.TheVariants.{Loop, Seek, Length, Auto, Transition}

-- the option of a word, by which of the four fixed words it is, and by the kind of transition that it names
abbrev keyword_by : Bool → Bool → Bool → Bool → Option Kind → Option Keyword
keyword_by loop seek length auto kind =
    cond loop (Some Loop) (cond seek (Some Seek) (cond length (Some Length) (cond auto (Some Auto) (option_map Transition kind))))

named_by : (loop seek length auto : Bool) (kind : Option Kind)
    → cond loop (Some meant.Loop) (cond seek (Some meant.Seek) (cond length (Some meant.Length) (cond auto (Some meant.Auto) (cond (is_some kind) (Some meant.Transition) None))))
    ≡ option_map option_named (keyword_by loop seek length auto kind)
named_by true seek length auto kind = refl
named_by false true length auto kind = refl
named_by false false true auto kind = refl
named_by false false false true kind = refl
named_by false false false false None = refl
named_by false false false false (Some kind) = refl

-- the option that a word begins, with the kind of a transition and without
pub keyword_named : (word : List ℕ) → option_of word ≡ option_map option_named (keyword_of word)
keyword_named word =
    named_by (is_word (codes "LOOP") word) (is_word (codes "SEEK") word) (is_word (codes "LENGTH") word) (is_word (codes "AUTO") word) (kind_of word)

kind_by : (loop seek length auto : Bool) (found : Option Kind) (kind : Kind) → keyword_by loop seek length auto found ≡ Some (Transition kind) → found ≡ Some kind
kind_by true seek length auto found kind h = cc
kind_by false true length auto found kind h = cc
kind_by false false true auto found kind h = cc
kind_by false false false true found kind h = cc
kind_by false false false false None kind h = cc
kind_by false false false false (Some found) kind h = cc

-- the kind of a transition that a word begins
pub keyword_kind : (word : List ℕ) (kind : Kind) → keyword_of word ≡ Some (Transition kind) → kind_of word ≡ Some kind
keyword_kind word kind h =
    kind_by (is_word (codes "LOOP") word) (is_word (codes "SEEK") word) (is_word (codes "LENGTH") word) (is_word (codes "AUTO") word) (kind_of word) kind h

cut_by : (cut mix push slide wipe : Bool) (kind : Kind)
    → cond cut (Some Cut) (cond mix (Some Mix) (cond push (Some Push) (cond slide (Some Slide) (cond wipe (Some Wipe) None)))) ≡ Some kind → cut ≡ is_cut kind
cut_by true mix push slide wipe kind h = ap (λ o. is_cut (unwrap_or o kind)) h
cut_by false true push slide wipe kind h = ap (λ o. is_cut (unwrap_or o kind)) h
cut_by false false true slide wipe kind h = ap (λ o. is_cut (unwrap_or o kind)) h
cut_by false false false true wipe kind h = ap (λ o. is_cut (unwrap_or o kind)) h
cut_by false false false false true kind h = ap (λ o. is_cut (unwrap_or o kind)) h
cut_by false false false false false kind h = cc

-- only CUT names a cut
pub cut_word : (word : List ℕ) (kind : Kind) → kind_of word ≡ Some kind → is_word (codes "CUT") word ≡ is_cut kind
unfolding kind_of
cut_word word kind h =
    cut_by (is_word (codes "CUT") word) (is_word (codes "MIX") word) (is_word (codes "PUSH") word) (is_word (codes "SLIDE") word) (is_word (codes "WIPE") word) kind h

pub cut_kind : (kind : Kind) → is_cut kind ≡ true → kind ≡ Cut
cut_kind Cut h = refl
cut_kind Mix h = cc
cut_kind Push h = cc
cut_kind Slide h = cc
cut_kind Wipe h = cc
