-- The curve and the direction of a transition, by the words that are left of the line.
use Rattle.std.proofs.Common.{◌≡◌, ℕ, ◌+◌, ◌≤◌, zero, suc, Bool, true, false, cond, ◌||◌, List, [], ◌∷◌, map, take, drop, refl, sym, ap, ◌∙◌, arith}
use Rattle.std.proofs.Math.Bool.{or-false}
use Rattle.std.specs.Prelude.{Option, Some, None, filter_map, is_some, option_and_then, unwrap_or, slice_get, codes, if◌then◌else◌}
use Rattle.std.specs.Option.{option_map_or}
use Rattle.std.specs.List.{list_any}
use Rattle.std.specs.Char.{to_ascii_uppercase}
use Rattle.std.specs.Str.{bytes_eq}
use Rattle.std.proofs.lemmas.Slice.Eq.{bytes_eq-Decides}
use Rattle.play_types.specs.Words.{curve_of, is_word}
use Rattle.play_types.specs.declared.transition.Curve.{Curve}
use Rattle.play_types.specs.declared.transition.Curve.TheVariants.{Linear, EaseInQuad, EaseOutQuad, EaseInCubic, EaseOutCubic}
use Rattle.history_model.specs.commands.Line.{Line, curve_at}
use Rattle.history_model.specs.commands.Options.{curve_among, is_direction, is_leftward, manner_len}
use Rattle.cmd_parse.specs.inner.Options.{curve_first, direction_first, manner_at}
use Rattle.cmd_parse.specs.declared.options.Manner.{Manner}

-- the words from a position on
pub word_here : {X : Type 0} (words rest : List X) (at : ℕ) → drop at words ≡ rest → slice_get words at ≡ slice_get rest 0
word_here words rest zero h = ap (λ xs. slice_get xs 0) h
word_here [] rest (suc at) h = ap (λ xs. slice_get xs 0) h
word_here (word ∷ words) rest (suc at) h = word_here words rest at h

pub word_next : {X : Type 0} (words rest : List X) (at : ℕ) → drop at words ≡ rest → slice_get words (at + 1) ≡ slice_get rest 1
word_next words rest zero h = ap (λ xs. slice_get xs 1) h
word_next [] rest (suc at) h = ap (λ xs. slice_get xs 1) h
word_next (word ∷ words) rest (suc at) h =
    let e : suc at + 1 ≡ suc (at + 1) = omega arith in rw e (word_next words rest at h)

-- a word that is one fixed word is not another one
pub other_word : (one other word : List ℕ) → bytes_eq one other ≡ false → is_word one word ≡ true → is_word other word ≡ false
unfolding is_word
other_word one other word differ is =
    let e : map to_ascii_uppercase word ≡ one = (bytes_eq-Decides (map to_ascii_uppercase word) one).0 is in
    rw e differ

-- which of the curves this one is
abbrev by_curve : Bool → Bool → Bool → Bool → Bool → Curve → Bool
by_curve linear in_quad out_quad in_cubic out_cubic Linear = linear
by_curve linear in_quad out_quad in_cubic out_cubic EaseInQuad = in_quad
by_curve linear in_quad out_quad in_cubic out_cubic EaseOutQuad = out_quad
by_curve linear in_quad out_quad in_cubic out_cubic EaseInCubic = in_cubic
by_curve linear in_quad out_quad in_cubic out_cubic EaseOutCubic = out_cubic

named_by : (a b c d e : Bool) (curve : Curve)
    → cond a (Some Linear) (cond b (Some EaseInQuad) (cond c (Some EaseOutQuad) (cond d (Some EaseInCubic) (cond e (Some EaseOutCubic) None)))) ≡ Some curve
    → by_curve a b c d e curve ≡ true
named_by true b c d e curve h = sym (ap (λ o. by_curve true b c d e (unwrap_or o curve)) h)
named_by false true c d e curve h = sym (ap (λ o. by_curve false true c d e (unwrap_or o curve)) h)
named_by false false true d e curve h = sym (ap (λ o. by_curve false false true d e (unwrap_or o curve)) h)
named_by false false false true e curve h = sym (ap (λ o. by_curve false false false true e (unwrap_or o curve)) h)
named_by false false false false true curve h = sym (ap (λ o. by_curve false false false false true (unwrap_or o curve)) h)
named_by false false false false false curve h = cc

named : (word : List ℕ) (curve : Curve) → curve_of word ≡ Some curve
    → by_curve (is_word (codes "LINEAR") word) (is_word (codes "EASEINQUAD") word) (is_word (codes "EASEOUTQUAD") word) (is_word (codes "EASEINCUBIC") word) (is_word (codes "EASEOUTCUBIC") word) curve ≡ true
unfolding curve_of
named word curve h =
    named_by (is_word (codes "LINEAR") word) (is_word (codes "EASEINQUAD") word) (is_word (codes "EASEOUTQUAD") word) (is_word (codes "EASEINCUBIC") word) (is_word (codes "EASEOUTCUBIC") word) curve h

-- a word that is one fixed word, which is no direction to the left
not_leftward : (fixed word : List ℕ) → bytes_eq fixed (codes "LEFT") ≡ false → bytes_eq fixed (codes "FROMRIGHT") ≡ false → is_word fixed word ≡ true
    → is_leftward word ≡ false
not_leftward fixed word left right is =
    rw (other_word fixed (codes "LEFT") word left is, other_word fixed (codes "FROMRIGHT") word right is) refl

curve_not_leftward : (word : List ℕ) (curve : Curve) → curve_of word ≡ Some curve → is_leftward word ≡ false
curve_not_leftward word Linear h = not_leftward (codes "LINEAR") word refl refl (named word Linear h)
curve_not_leftward word EaseInQuad h = not_leftward (codes "EASEINQUAD") word refl refl (named word EaseInQuad h)
curve_not_leftward word EaseOutQuad h = not_leftward (codes "EASEOUTQUAD") word refl refl (named word EaseOutQuad h)
curve_not_leftward word EaseInCubic h = not_leftward (codes "EASEINCUBIC") word refl refl (named word EaseInCubic h)
curve_not_leftward word EaseOutCubic h = not_leftward (codes "EASEOUTCUBIC") word refl refl (named word EaseOutCubic h)

-- whether there is a word that passes a test
abbrev is_one : (List ℕ → Bool) → Option (List ℕ) → Bool
is_one test word = option_map_or test word false

-- the curve and the direction by the next two words
abbrev curve_then : Curve → Option (List ℕ) → Manner
curve_then curve two =
    if is_one is_direction two then record { words = 2; curve = curve; leftward = is_one is_leftward two }
    else record { words = 1; curve = curve; leftward = false }

abbrev direction_then : Option (List ℕ) → Option Curve → Manner
direction_then one curve =
    if is_one is_direction one then
    record { words = if is_some curve then 2 else 1; curve = unwrap_or curve Linear; leftward = is_one is_leftward one }
    else record { words = 0; curve = Linear; leftward = false }

abbrev by_first : Option Curve → Option (List ℕ) → Option (List ℕ) → Manner
by_first (Some curve) one two = curve_then curve two
by_first None one two = direction_then one (option_and_then curve_of two)

abbrev manner_of : Option (List ℕ) → Option (List ℕ) → Manner
manner_of one two = by_first (option_and_then curve_of one) one two

-- a test for fixed words at a position is a test of the word there, if there is one
leftward_word : (word : Option (List ℕ)) →
    (option_map_or (is_word (codes "LEFT")) word false || option_map_or (is_word (codes "FROMRIGHT")) word false) ≡ is_one is_leftward word
leftward_word None = refl
leftward_word (Some word) = refl

direction_word : (word : Option (List ℕ)) →
    (is_one is_leftward word || (option_map_or (is_word (codes "RIGHT")) word false || option_map_or (is_word (codes "FROMLEFT")) word false)) ≡ is_one is_direction word
direction_word None = refl
direction_word (Some word) = refl

curve_first-words : (line : Line) (at : ℕ) (curve : Curve) → curve_first line at curve ≡ curve_then curve (slice_get line.words (at + 1))
curve_first-words line at curve =
    rw (leftward_word (slice_get line.words (at + 1)), direction_word (slice_get line.words (at + 1))) refl

direction_first-words : (line : Line) (at : ℕ) (curve : Option Curve) → direction_first line at curve ≡ direction_then (slice_get line.words at) curve
direction_first-words line at curve =
    rw (leftward_word (slice_get line.words at), direction_word (slice_get line.words at)) refl

by_first-words : (line : Line) (at : ℕ) (first : Option Curve) →
    (elim first [ Some curve ↦ curve_first line at curve | None ↦ direction_first line at (curve_at line (at + 1)) ])
    ≡ by_first first (slice_get line.words at) (slice_get line.words (at + 1))
by_first-words line at (Some curve) = curve_first-words line at curve
by_first-words line at None = direction_first-words line at (curve_at line (at + 1))

manner_at-words : (line : Line) (at : ℕ) → manner_at line at ≡ manner_of (slice_get line.words at) (slice_get line.words (at + 1))
unfolding manner_at
manner_at-words line at = by_first-words line at (curve_at line at)

-- the curve and the direction that these words name
abbrev pub said_by : List (List ℕ) → ℕ → Manner
said_by rest len =
    record { words = len; curve = curve_among (take len rest); leftward = list_any is_leftward (take len rest) }

-- what two words name, by the curves that they are and by whether they are directions, and to the left
abbrev len_of_two : Option Curve → Option Curve → Bool → Bool → ℕ
len_of_two first second direction_one direction_two =
    if is_some first then (if direction_two then 2 else 1)
    else if direction_one then (if is_some second then 2 else 1)
    else 0

abbrev manner_of_two : Option Curve → Option Curve → Bool → Bool → Bool → Bool → Manner
manner_of_two (Some curve) second direction_one direction_two left_one left_two =
    if direction_two then record { words = 2; curve = curve; leftward = left_two }
    else record { words = 1; curve = curve; leftward = false }
manner_of_two None second direction_one direction_two left_one left_two =
    if direction_one then
    record { words = if is_some second then 2 else 1; curve = unwrap_or second Linear; leftward = left_one }
    else record { words = 0; curve = Linear; leftward = false }

abbrev said_by_two : Option Curve → Option Curve → Bool → Bool → ℕ → Manner
said_by_two first second left_one left_two len = record {
  words = len;
  curve = unwrap_or (slice_get (filter_map (λ (found : Option Curve). found) (take len (first ∷ second ∷ []))) 0) Linear;
  leftward = list_any (λ (left : Bool). left) (take len (left_one ∷ left_two ∷ []));
}

-- a curve is no direction to the left
abbrev IsNotLeft : Option Curve → Bool → Type 0
IsNotLeft found left = (curve : Curve) → found ≡ Some curve → left ≡ false

two_words : (first second : Option Curve) (direction_one direction_two left_one left_two : Bool) → IsNotLeft first left_one → IsNotLeft second left_two
    → manner_of_two first second direction_one direction_two left_one left_two
    ≡ said_by_two first second left_one left_two (len_of_two first second direction_one direction_two)
two_words (Some curve) second direction_one true left_one left_two one two =
    rw (one curve refl) (ap (λ b. record { words = 2; curve = curve; leftward = b }) (sym (or-false left_two)))
two_words (Some curve) second direction_one false left_one left_two one two = rw (one curve refl) refl
two_words None (Some curve) true direction_two left_one left_two one two =
    rw (two curve refl) (ap (λ b. record { words = 2; curve = curve; leftward = b }) (sym (or-false left_one)))
two_words None None true direction_two left_one left_two one two =
    ap (λ b. record { words = 1; curve = Linear; leftward = b }) (sym (or-false left_one))
two_words None second false direction_two left_one left_two one two = refl

len_short : (first second : Option Curve) (direction_one direction_two : Bool) → len_of_two first second direction_one direction_two ≤ 2
len_short (Some curve) second direction_one true = omega arith
len_short (Some curve) second direction_one false = omega arith
len_short None (Some curve) true direction_two = omega arith
len_short None None true direction_two = omega arith
len_short None second false direction_two = omega arith

said_by_words : (one two : List ℕ) (rest : List (List ℕ)) (len : ℕ) → len ≤ 2
    → said_by_two (curve_of one) (curve_of two) (is_leftward one) (is_leftward two) len ≡ said_by (one ∷ two ∷ rest) len
said_by_words one two rest zero few = refl
said_by_words one two rest (suc zero) few = refl
said_by_words one two rest (suc (suc zero)) few = refl
said_by_words one two rest (suc (suc (suc len))) few = absurd (omega (arith, few))

-- what one word names
one_word : (first : Option Curve) (direction left : Bool) → IsNotLeft first left
    → manner_of_two first None direction false left false
    ≡ said_by_two first None left false (if is_some first || direction then 1 else 0)
one_word (Some curve) direction left one = rw (one curve refl) refl
one_word None true left one = ap (λ b. record { words = 1; curve = Linear; leftward = b }) (sym (or-false left))
one_word None false left one = refl

said_by_word : (one : List ℕ) (some : Bool)
    → said_by_two (curve_of one) None (is_leftward one) false (if some then 1 else 0) ≡ said_by (one ∷ []) (if some then 1 else 0)
said_by_word one true = refl
said_by_word one false = refl

-- the definition for one word, and for two
manner_of_one : (one : List ℕ) (first : Option Curve)
    → by_first first (Some one) None ≡ manner_of_two first None (is_direction one) false (is_leftward one) false
manner_of_one one (Some curve) = refl
manner_of_one one None = refl

manner_of_both : (one two : List ℕ) (first : Option Curve)
    → by_first first (Some one) (Some two)
    ≡ manner_of_two first (curve_of two) (is_direction one) (is_direction two) (is_leftward one) (is_leftward two)
manner_of_both one two (Some curve) = refl
manner_of_both one two None = refl

-- the curve and the direction by the first two words that are left
manner_left : (rest : List (List ℕ)) → manner_of (slice_get rest 0) (slice_get rest 1) ≡ said_by rest (manner_len rest)
manner_left [] = refl
manner_left (one ∷ []) =
    manner_of_one one (curve_of one)
    ∙ one_word (curve_of one) (is_direction one) (is_leftward one) (curve_not_leftward one)
    ∙ said_by_word one (is_some (curve_of one) || is_direction one)
manner_left (one ∷ two ∷ rest) =
    manner_of_both one two (curve_of one)
    ∙ two_words (curve_of one) (curve_of two) (is_direction one) (is_direction two) (is_leftward one) (is_leftward two) (curve_not_leftward one) (curve_not_leftward two)
    ∙ said_by_words one two rest (len_of_two (curve_of one) (curve_of two) (is_direction one) (is_direction two))
    (len_short (curve_of one) (curve_of two) (is_direction one) (is_direction two))

pub manner_from : (line : Line) (rest : List (List ℕ)) (at : ℕ) → drop at line.words ≡ rest
    → manner_at line at ≡ said_by rest (manner_len rest)
manner_from line rest at h =
    manner_at-words line at ∙ ap (λ one. manner_of one (slice_get line.words (at + 1))) (word_here line.words rest at h)
    ∙ ap (manner_of (slice_get rest 0)) (word_next line.words rest at h) ∙ manner_left rest
