-- Mixer values in printed form.
use Rattle.std.proofs.Common.{◌≡◌, ℕ, ◌-◌, ◌*◌, zero, suc, List, [], ◌∷◌, ◌++◌, map, take, length, get_or, refl, ap, ◌∙◌, ℤ, pos, to_z, of_z, w64, arith}
use Rattle.std.proofs.lemmas.Int.{ints}
use Rattle.std.specs.Prelude.{codes}
use Rattle.std.specs.List.{flat_map, join_by}
use Rattle.play_types.specs.Setting.{IsWide}
use Rattle.amcp_text.specs.Micros.{printed_micro}

-- a value fits a number of 64 bits with a sign
pub wide_kept : (value : ℤ) → IsWide value → to_z w64 (of_z w64 value) ≡ value
wide_kept value wide = omega (arith, ints)

-- values in printed form, with a space before each
abbrev after_spaces : List ℤ → List (List ℕ)
after_spaces [] = []
after_spaces (value ∷ more) = codes " " ∷ printed_micro value ∷ after_spaces more

-- values in printed form, with a space between each two
abbrev spaced : List ℤ → List (List ℕ)
spaced [] = []
spaced (value ∷ more) = printed_micro value ∷ after_spaces more

-- the texts of the first `2 * count` parts are the first `count` values, with a space before each
joined_more : (count : ℕ) (values : List ℤ)
    → flat_map (λ text. text) (take (2 * count) (after_spaces values)) ≡ flat_map (λ value. codes " " ++ printed_micro value) (take count values)
joined_more zero values = refl
joined_more (suc count) [] = let e : 2 * suc count ≡ suc (suc (2 * count)) = omega arith in rw e refl
joined_more (suc count) (value ∷ more) =
    let e : 2 * suc count ≡ suc (suc (2 * count)) = omega arith in
    rw e (ap (λ (text : List ℕ). 32 ∷ printed_micro value ++ text) (joined_more count more))

-- the texts of the first `2 * count - 1` parts are the line of the first `count` values
joined : (count : ℕ) (values : List ℤ)
    → flat_map (λ text. text) (take (2 * count - 1) (spaced values)) ≡ join_by printed_micro (codes " ") (take count values)
joined zero values = refl
joined (suc count) [] = let e : 2 * suc count - 1 ≡ suc (2 * count) = omega arith in rw e refl
joined (suc count) (value ∷ more) =
    let e : 2 * suc count - 1 ≡ suc (2 * count) = omega arith in
    rw e (ap (λ (text : List ℕ). printed_micro value ++ text) (joined_more count more))

-- parts by their texts
by_texts : {X : Type 0} (text : X → List ℕ) (count : ℕ) (parts : List X)
    → flat_map text (take count parts) ≡ flat_map (λ t. t) (take count (map text parts))
by_texts text zero parts = refl
by_texts text (suc count) [] = refl
by_texts text (suc count) (part ∷ parts) = ap (λ (all : List ℕ). text part ++ all) (by_texts text count parts)

-- a list of four values
four_values : (values : List ℤ) → length values ≡ 4
    → get_or values 0 (pos 0) ∷ get_or values 1 (pos 0) ∷ get_or values 2 (pos 0) ∷ get_or values 3 (pos 0) ∷ [] ≡ values
four_values [] four = absurd (omega arith)
four_values (a ∷ []) four = absurd (omega arith)
four_values (a ∷ b ∷ []) four = absurd (omega arith)
four_values (a ∷ b ∷ c ∷ []) four = absurd (omega arith)
four_values (a ∷ b ∷ c ∷ d ∷ []) four = refl
four_values (a ∷ b ∷ c ∷ d ∷ e ∷ more) four = absurd (omega arith)

-- seven parts are four values in printed form, with a space between each two: the first `used` of them are the line of the
-- first `count` values
pub joined_parts : {X : Type 0} (text : X → List ℕ) (a after_a b after_b c after_c d : X) (values : List ℤ) (count used : ℕ)
    → length values ≡ 4 → used ≡ 2 * count - 1
    → text a ≡ printed_micro (get_or values 0 (pos 0)) → text after_a ≡ codes " "
    → text b ≡ printed_micro (get_or values 1 (pos 0)) → text after_b ≡ codes " "
    → text c ≡ printed_micro (get_or values 2 (pos 0)) → text after_c ≡ codes " "
    → text d ≡ printed_micro (get_or values 3 (pos 0))
    → flat_map text (take used (a ∷ after_a ∷ b ∷ after_b ∷ c ∷ after_c ∷ d ∷ [])) ≡ join_by printed_micro (codes " ") (take count values)
joined_parts text a after_a b after_b c after_c d values count used four is first space_a second space_b third space_c fourth =
    by_texts text used (a ∷ after_a ∷ b ∷ after_b ∷ c ∷ after_c ∷ d ∷ [])
    ∙ rw (is, first, space_a, second, space_b, third, space_c, fourth)
    (ap (λ (vs : List ℤ). flat_map (λ t. t) (take (2 * count - 1) (spaced vs))) (four_values values four) ∙ joined count values)
