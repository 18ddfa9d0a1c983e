-- A message that is read is that of the bytes, and that of the bytes is read.
use Rattle.std.proofs.Common.{◌≡◌, ℕ, true, ◌==◌, List, [], ◌∷◌, ◌++◌, Option, Some, None, Result, Ok, Err, refl, sym, ap, subst, ◌∙◌, arith, inl, inr}
use Rattle.std.specs.Prelude.{flat_map, IfOk, ◌↔◌, ◌⊎◌}
use Rattle.std.proofs.lemmas.Bool.{eqb-true}
use Rattle.std.proofs.lemmas.Option.{same_Some}
use Rattle.osc_status.specs.declared.message.Message.{Message}
use Rattle.osc_status.specs.declared.message.OscFault.{OscFault}
use Rattle.osc_status.specs.declared.message.OscFault.TheVariants.{NoMessage, OutOfMemory}
use Rattle.osc_status.specs.Texts.{IsText, padded, text_bytes}
use Rattle.osc_status.specs.Message.{IsMessage, IsMessageOf, begins_with, letters, message_bytes, value_bytes}
use Rattle.osc_status.specs.inner.Reading.{◌>>=◌, IsReadAs, kinds_of, message_at, padded_at, parts_at, text_at, values_at}
use Rattle.osc_status.proofs.Padded.{bind_some, passed, padded_again, padded_takes}
use Rattle.osc_status.proofs.Characters.{begins-padded, text_again, text_takes}
use Rattle.osc_status.proofs.Values.{IsBytes, letters_whole, rest_bytes, values_again, values_take}

kinds_take : (found kinds : List ℕ) → kinds_of found ≡ Some kinds → found ≡ 44 ∷ kinds
unfolding kinds_of
kinds_take [] kinds e = absurd cc
kinds_take (c ∷ rest) kinds e =
    let g = passed (c == 44) (Some rest) kinds e in
    ap (λ (first : ℕ). first ∷ rest) (eqb-true c 44 g.0) ∙ ap (λ (more : List ℕ). 44 ∷ more) (same_Some rest kinds g.1)

-- the parts of a message, and its bytes
pub record TakesParts (bytes address kinds values : List ℕ) : Type 0 where
  pub text : IsText address
  pub slash : begins_with 47 address ≡ true
  pub parts : bytes ≡ text_bytes address ++ (padded (44 ∷ kinds) ++ values)

pub parts_take : (bytes : List ℕ) (p : List ℕ × List ℕ × List ℕ) → parts_at bytes ≡ Some p → TakesParts bytes p.0 p.1 p.2
unfolding parts_at
parts_take bytes p e =
    let g = passed (begins_with 47 bytes) (text_at bytes >>= λ address. padded_at address.1 >>= λ letters. kinds_of letters.0 >>= λ kinds. Some (address.0, kinds, letters.1)) p e in
    let a = bind_some (text_at bytes) (λ address. padded_at address.1 >>= λ letters. kinds_of letters.0 >>= λ kinds. Some (address.0, kinds, letters.1)) p g.1 in
    let b = bind_some (padded_at a.0.1) (λ letters. kinds_of letters.0 >>= λ kinds. Some (a.0.0, kinds, letters.1)) p a.2 in
    let k = bind_some (kinds_of b.0.0) (λ kinds. Some (a.0.0, kinds, b.0.1)) p b.2 in
    let text = text_takes bytes a.0.0 a.0.1 a.1 in
    let found = padded_takes a.0.1 b.0.0 b.0.1 b.1 in
    let comma : b.0.0 ≡ 44 ∷ k.0 = kinds_take b.0.0 k.0 k.1 in
    let whole : bytes ≡ text_bytes a.0.0 ++ (padded (44 ∷ k.0) ++ b.0.1) =
    text.1 ∙ ap (λ (rest : List ℕ). text_bytes a.0.0 ++ rest) (found.1 ∙ ap (λ (word : List ℕ). padded word ++ b.0.1) comma) in
    let begins : begins_with 47 (text_bytes a.0.0 ++ (padded (44 ∷ k.0) ++ b.0.1)) ≡ true = ap (begins_with 47) (sym whole) ∙ g.0 in
    subst (λ (q : List ℕ × List ℕ × List ℕ). TakesParts bytes q.0 q.1 q.2) (same_Some (a.0.0, k.0, b.0.1) p k.2) (record {
      text = text.0;
      slash = sym (begins-padded 47 a.0.0 (padded (44 ∷ k.0) ++ b.0.1) (omega arith) (omega arith)) ∙ begins;
      parts = whole;
    })

-- the message that is found is that of the bytes
pub message_takes : (bytes : List ℕ) (message : Message) → IsBytes bytes → message_at bytes ≡ Some message → IsMessageOf bytes message
unfolding message_at
message_takes bytes message are e =
    let a = bind_some (parts_at bytes) (λ parts. values_at parts.1 parts.2 >>= λ args. Some (record { address = parts.0; args = args })) message e in
    let b = bind_some (values_at a.0.1 a.0.2) (λ args. Some (record { address = a.0.0; args = args })) message a.2 in
    let t = parts_take bytes a.0 a.1 in
    let inner = rest_bytes bytes (text_bytes a.0.0) (padded (44 ∷ a.0.1) ++ a.0.2) are t.parts in
    let v = values_take a.0.1 a.0.2 b.0 (rest_bytes (padded (44 ∷ a.0.1) ++ a.0.2) (padded (44 ∷ a.0.1)) a.0.2 inner refl) b.1 in
    subst (λ (m : Message). IsMessageOf bytes m) (same_Some (record { address = a.0.0; args = b.0 }) message b.2) (record {
      ranges = record { address = t.text; slash = t.slash; args = v.are };
      spelled = t.parts ∙ ap (λ (kinds : List ℕ). text_bytes a.0.0 ++ (padded (44 ∷ kinds) ++ a.0.2)) v.letters
          ∙ ap (λ (values : List ℕ). text_bytes a.0.0 ++ (padded (letters b.0) ++ values)) v.parts;
    })

-- a message is found in its bytes
pub message_again : (message : Message) → IsMessage message → message_at (message_bytes message) ≡ Some message
unfolding message_at parts_at kinds_of
message_again message is =
    let rest : List ℕ = padded (letters message.args) ++ flat_map value_bytes message.args in
    let slash : begins_with 47 (message_bytes message) ≡ true =
    begins-padded 47 message.address (padded (letters message.args) ++ flat_map value_bytes message.args) (omega arith) (omega arith) ∙ is.slash in
    rw (slash, text_again message.address (padded (letters message.args) ++ flat_map value_bytes message.args) is.address)
    (rw (padded_again (letters message.args) (flat_map value_bytes message.args) (letters_whole message.args))
    (rw (values_again message.args is.args) refl))

-- the bytes of a message have one
pub one_message : (bytes : List ℕ) (one other : Message) → IsMessageOf bytes one → IsMessageOf bytes other → one ≡ other
one_message bytes one other first second =
    let found : Some one ≡ Some other =
    sym (message_again one first.ranges) ∙ ap message_at (sym first.spelled ∙ second.spelled) ∙ message_again other second.ranges in
    same_Some one other found

-- what is read is that of the bytes
pub is_read : (bytes : List ℕ) (result : Result Message OscFault) → IsBytes bytes → IsReadAs (message_at bytes) result → IfOk result (λ message. IsMessageOf bytes message)
is_read bytes (Ok message) are read = message_takes bytes message are read
is_read bytes (Err fault) are read = tt

-- the message of the bytes is read, or memory runs out
pub is_read_again : (bytes : List ℕ) (result : Result Message OscFault) (message : Message) → IsReadAs (message_at bytes) result → IsMessageOf bytes message
    → (result ≡ Ok message) ⊎ (result ≡ Err OutOfMemory)
is_read_again bytes (Ok found) message read of =
    let e : Some found ≡ Some message = sym read ∙ ap message_at of.spelled ∙ message_again message of.ranges in
    inl (ap (λ (m : Message). Ok m) (same_Some found message e))
is_read_again bytes (Err NoMessage) message read of =
    let e : None ≡ Some message = sym read ∙ ap message_at of.spelled ∙ message_again message of.ranges in
    absurd cc
is_read_again bytes (Err OutOfMemory) message read of = inr refl

none_found : (bytes : List ℕ) (found : Option Message) → IsBytes bytes → message_at bytes ≡ found → ((message : Message) → IsMessageOf bytes message → ⊥) → found ≡ None
none_found bytes None are e none = refl
none_found bytes (Some message) are e none = absurd (none message (message_takes bytes message are e))

-- NoMessage is returned exactly if the bytes are no message
pub is_none : (bytes : List ℕ) (result : Result Message OscFault) → IsBytes bytes → IsReadAs (message_at bytes) result
    → (result ≡ Err NoMessage) ↔ ((message : Message) → IsMessageOf bytes message → ⊥)
is_none bytes (Ok found) are read = (λ e. absurd cc, λ none. absurd (none found (message_takes bytes found are read)))
is_none bytes (Err NoMessage) are read = (
  λ e message of. let f : None ≡ Some message = sym read ∙ ap message_at of.spelled ∙ message_again message of.ranges in absurd cc,
  λ none. refl,
)
is_none bytes (Err OutOfMemory) are read = (λ e. absurd cc, λ none. absurd (read (none_found bytes (message_at bytes) are refl none)))
