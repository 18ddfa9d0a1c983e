-- The indices of connections in their list.
use Rattle.std.proofs.Common.{◌≡◌, ℕ, ◌+◌, ◌≤◌, zero, suc, Bool, false, cond, not, eqb, List, [], ◌∷◌, ◌++◌, length, length-append, get_or, set, refl, sym, ap, ap₂, ◌∙◌, arith}
use Rattle.std.specs.Prelude.{Some, None, nat_lt}
use Rattle.std.specs.List.{position, position_or_len}
use Rattle.std.proofs.lemmas.Bool.Decides.{nat_tests}
use Rattle.std.proofs.lemmas.List.{length-set}
use Rattle.std.proofs.lemmas.List.Folds.{position_or_len_push}
use Rattle.std.proofs.lemmas.List.Sums.{prefix_len-le-length}
use Rattle.play_types.specs.declared.event.Tag.{Tag}
use Rattle.history_model.specs.scripts.History.{same_tag}
use Rattle.script_player.specs.declared.clients.Client.{Client}

-- whether a connection has this tag
abbrev pub is_of : Tag → Client → Bool
is_of tag client = same_tag tag client.tag

-- the first index that passes a test is kept if one item is replaced by one that passes or fails alike
first_replaced : (p : Client → Bool) (clients : List Client) (at : ℕ) (new : Client) → p (get_or clients at new) ≡ p new → position_or_len p (set clients at new) ≡ position_or_len p clients
first_replaced p [] at new same = refl
first_replaced p (client ∷ clients) zero new same = ap (λ (b : Bool). cond (not b) (1 + position_or_len p clients) 0) (sym same)
first_replaced p (client ∷ clients) (suc at) new same = ap (λ (n : ℕ). cond (not (p client)) (1 + n) 0) (first_replaced p clients at new same)

pub place_replaced : (p : Client → Bool) (clients : List Client) (at : ℕ) (new : Client) → p (get_or clients at new) ≡ p new → position p (set clients at new) ≡ position p clients
place_replaced p clients at new same =
    ap₂ (λ (n len : ℕ). cond (nat_lt n len) (Some n) None) (first_replaced p clients at new same) (length-set clients at new)

-- and if one that fails the test is added
pub place_kept : (p : Client → Bool) (clients : List Client) (new : Client) → p new ≡ false → position p (clients ++ new ∷ []) ≡ position p clients
place_kept p clients new fails =
    ap₂ (λ (n len : ℕ). cond (nat_lt n len) (Some n) None)
    (position_or_len_push p clients new ∙ ap (λ (b : Bool). cond (eqb (position_or_len p clients) (length clients)) (length clients + cond b 0 1) (position_or_len p clients)) fails)
    (length-append clients (new ∷ []))
    ∙ by_place (position_or_len p clients) (prefix_len-le-length (λ (one : Client). not (p one)) clients)
  where
    by_place : (at : ℕ) → at ≤ length clients → cond (nat_lt (cond (eqb at (length clients)) (length clients + 1) at) (length clients + 1)) (Some (cond (eqb at (length clients)) (length clients + 1) at)) None
        ≡ cond (nat_lt at (length clients)) (Some at) None
    by_place at within = grind (arith, nat_tests)
