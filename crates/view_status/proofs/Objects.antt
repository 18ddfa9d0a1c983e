-- Objects that are written member by member.
use Rattle.std.proofs.Common.{◌≡◌, ℕ, List, [], ◌∷◌, ◌++◌, Result, Ok, Err, sym, ap, ◌∙◌, append_assoc, append-nil}
use Rattle.std.specs.Prelude.{OnOk}
use Rattle.std.specs.List.{flat_map}
use Rattle.std.proofs.lemmas.Grind.{flat_map-append}
use Rattle.json.specs.Token.{Token, begin_array, begin_object, end_array, end_object, key}
use Rattle.view_status.specs.Tokens.{array, named, object}

-- the tokens of members, one after another
abbrev pub joined : List (List Token) → List Token
joined members = flat_map (λ (tokens : List Token). tokens) members

-- an object was begun, and these members were written
pub record HasMembers (before now : List Token) (members : List (List Token)) : Type 0 where
  pub is : now ≡ before ++ begin_object ∷ joined members

pub begun : (before now : List Token) → now ≡ before ++ begin_object ∷ [] → HasMembers before now []
begun before now is = record { is = is }

-- further members were written
pub more_members : {before now : List Token} {members : List (List Token)} → HasMembers before now members
    → (next : List Token) (others : List (List Token)) → next ≡ now ++ joined others → HasMembers before next (members ++ others)
more_members {before} {now} {members} so_far next others more = record {
  is =
      more
      ∙ ap (λ (tokens : List Token). tokens ++ joined others) so_far.is
      ∙ append_assoc before (begin_object ∷ joined members) (joined others)
      ∙ ap (λ (tokens : List Token). before ++ begin_object ∷ tokens) (sym (flat_map-append (λ (tokens : List Token). tokens) members others));
}

-- one member was written
pub one_member : {before now : List Token} {members : List (List Token)} → HasMembers before now members
    → (next one : List Token) → next ≡ now ++ one → HasMembers before next (members ++ one ∷ [])
one_member {now = now} so_far next one more =
    more_members so_far next (one ∷ []) (more ∙ ap (λ (tokens : List Token). now ++ tokens) (sym (append-nil one)))

-- the name and the value of a member were written
pub keyed_member : {before now : List Token} {members : List (List Token)} → HasMembers before now members
    → (between next : List Token) (name : List ℕ) (value : List Token) → between ≡ now ++ key name ∷ [] → next ≡ between ++ value
    → HasMembers before next (members ++ named name value ∷ [])
keyed_member {now = now} so_far between next name value begins ends =
    one_member so_far next (named name value)
    (ends ∙ ap (λ (tokens : List Token). tokens ++ value) begins ∙ append_assoc now (key name ∷ []) value)

-- an array was written
pub array_written : (now begun items next tokens : List Token) → begun ≡ now ++ begin_array ∷ [] → items ≡ begun ++ tokens → next ≡ items ++ end_array ∷ []
    → next ≡ now ++ array tokens
array_written now begun items next tokens begins more ends =
    ends
    ∙ ap (λ (written : List Token). written ++ end_array ∷ []) (more ∙ ap (λ (written : List Token). written ++ tokens) begins ∙ append_assoc now (begin_array ∷ []) tokens)
    ∙ append_assoc now (begin_array ∷ tokens) (end_array ∷ [])

-- the object was ended
pub ended : {E : Type 0} {before now : List Token} {members : List (List Token)} (r : Result (Unit {0}) E) → HasMembers before now members
    → (next : List Token) → OnOk r (next ≡ now ++ end_object ∷ []) → OnOk r (next ≡ before ++ object members)
ended {before = before} {members = members} (Ok done) so_far next ends =
    ends
    ∙ ap (λ (tokens : List Token). tokens ++ end_object ∷ []) so_far.is
    ∙ append_assoc before (begin_object ∷ joined members) (end_object ∷ [])
ended (Err e) so_far next ends = tt
