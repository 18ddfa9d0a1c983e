-- A line of a connection says the connection and its text.
use Rattle.std.proofs.Common.{◌≡◌, ℕ, ◌+◌, ◌-◌, ◌<◌, ◌≤◌, ◌^◌, ◌==◌, true, false, cond, List, [], ◌∷◌, ◌++◌, length, refl, sym, ap, ◌∙◌, arith, append_assoc, length-append}
use Rattle.std.specs.Prelude.{Option, Some, option_map, option_and_then, slice_index, decimal}
use Rattle.std.specs.Char.{is_ascii_digit}
use Rattle.std.specs.List.{list_all, list_any}
use Rattle.std.proofs.lemmas.Bool.{and_parts, le-ltb}
use Rattle.std.proofs.lemmas.Bool.Decides.{nat_tests}
use Rattle.std.proofs.lemmas.Fmt.{decimal_nonempty, length-decimal-le}
use Rattle.std.proofs.lemmas.List.{get_or-append-add}
use Rattle.std.proofs.lemmas.List.Folds.{list_any-append}
use Rattle.amcp_text.specs.Lines.{is_line_end}
use Rattle.amcp_text.specs.Numbers.{are_digits, plain_number_within}
use Rattle.amcp_text.specs.declared.line_reader.TheConstants.{MAX_LINE_BYTES}
use Rattle.play_types.specs.declared.event.Tag.{Tag}
use Rattle.cmd_print.proofs.Numbers.{are_digits-decimal}
use Rattle.history_model.specs.declared.limits.TheConstants.{MAX_SCRIPT_LINE_BYTES, MAX_SESSION, MAX_WORKER}
use Rattle.history_model.specs.scripts.Line.{Said, Rejected, addressed_parts, meaning, said_by, said_line, short_meaning, tag_of}
use Rattle.history_model.specs.scripts.Output.{tag_text}
use Rattle.history_model.specs.text.History.{connection_line}
use Rattle.history_model.specs.text.Parts.{parts_at}
use Rattle.history_model.proofs.Cut.{parts_at_first}
use Rattle.history_replay.specs.Replay.{IsConnection}
use Rattle.history_replay.proofs.Digits.{none_among, plain_number-decimal}
use Rattle.history_replay.proofs.Says.{IsLine, Says, Says-line}

-- a text that has a character, and whose last one is no carriage return
pub record HasBareEnd (text : List ℕ) : Type 0 where
  pub some : 0 < length text
  pub bare : (slice_index text (length text - 1) == 13) ≡ false

pub HasBareEnd-append : (first last : List ℕ) → HasBareEnd last → HasBareEnd (first ++ last)
HasBareEnd-append first last h =
    let some = h.some in
    let many = length-append first last in
    let at : length (first ++ last) - 1 ≡ length first + (length last - 1) = omega (arith, some, many) in
    record {
      some = omega (arith, some, many);
      bare = ap (λ k. slice_index (first ++ last) k == 13) at ∙ ap (λ c. c == 13) (get_or-append-add first last (length last - 1) 0) ∙ h.bare;
    }

-- the text of a connection's line: it has no line end, and is not too long
pub record IsSpoken (text : List ℕ) : Type 0 where
  pub one : list_any is_line_end text ≡ false
  pub end : HasBareEnd text
  pub short : length text ≤ MAX_LINE_BYTES

-- a line that begins with a digit is a connection's
begins_with_digit : (first rest : List ℕ) → 0 < length first → are_digits first ≡ true → short_meaning (first ++ rest) ≡ said_line (addressed_parts (first ++ rest))
begins_with_digit [] rest some digits = absurd (omega arith)
begins_with_digit (c ∷ first) rest some digits =
    let digit = (and_parts (is_ascii_digit c) (list_all is_ascii_digit first) digits).0 in
    let one : (c == 35) ≡ false = grind (arith, nat_tests, digit) in
    let two : (c == 84) ≡ false = grind (arith, nat_tests, digit) in
    let three : (c == 88) ≡ false = grind (arith, nat_tests, digit) in
    rw (one, two, three) refl

module _ (tag : Tag) (known : IsConnection tag) where
  worker_fits : tag.worker < 2 ^ 64
  worker_fits = let most = known.worker in omega (arith, most)

  session_fits : tag.session < 2 ^ 64
  session_fits = let most = known.session in omega (arith, most)

  -- the tag is read back from its digits
  tag_read : tag_of (decimal tag.worker) (decimal tag.session) ≡ Some tag
  tag_read =
      ap (λ (w : Option ℕ).
      option_and_then (λ (n : ℕ). option_map (λ (s : ℕ). record { worker = n; session = s }) (plain_number_within 1 MAX_SESSION (decimal tag.session))) w)
      (plain_number-decimal MAX_WORKER tag.worker known.some_worker known.worker worker_fits)
      ∙ ap (option_map (λ (s : ℕ). record { worker = tag.worker; session = s }))
      (plain_number-decimal MAX_SESSION tag.session known.some_session known.session session_fits)

  -- the text of a line in its parts
  tagged : (text : List ℕ) → tag_text tag ++ text ≡ decimal tag.worker ++ 46 ∷ (decimal tag.session ++ 32 ∷ text)
  unfolding tag_text
  tagged text =
      append_assoc (decimal tag.worker ++ 46 ∷ decimal tag.session) (32 ∷ []) text
      ∙ append_assoc (decimal tag.worker) (46 ∷ decimal tag.session) (32 ∷ text)

  addressed : (text : List ℕ) → addressed_parts (tag_text tag ++ text) ≡ Some (decimal tag.worker, (decimal tag.session, text))
  addressed text =
      let none : list_any (λ c. c == 46) (decimal tag.worker) ≡ false =
      none_among is_ascii_digit 46 (decimal tag.worker) refl (are_digits-decimal tag.worker worker_fits) in
      let none' : list_any (λ c. c == 32) (decimal tag.session) ≡ false =
      none_among is_ascii_digit 32 (decimal tag.session) refl (are_digits-decimal tag.session session_fits) in
      ap addressed_parts (tagged text)
      ∙ ap (option_and_then (λ (p : List ℕ × List ℕ). option_map (λ (q : List ℕ × List ℕ). (p.0, q)) (parts_at 32 p.1)))
      (parts_at_first 46 (decimal tag.worker) (decimal tag.session ++ 32 ∷ text) refl none)
      ∙ ap (option_map (λ (q : List ℕ × List ℕ). (decimal tag.worker, q))) (parts_at_first 32 (decimal tag.session) text refl none')

  short_said : (text : List ℕ) → short_meaning (tag_text tag ++ text) ≡ Said tag text
  short_said text =
      let rest = 46 ∷ (decimal tag.session ++ 32 ∷ text) in
      ap short_meaning (tagged text)
      ∙ begins_with_digit (decimal tag.worker) rest (decimal_nonempty tag.worker worker_fits) (are_digits-decimal tag.worker worker_fits)
      ∙ ap (λ l. said_line (addressed_parts l)) (sym (tagged text))
      ∙ ap said_line (addressed text)
      ∙ ap (said_by text) tag_read

  length_tag : length (tag_text tag) ≤ 32
  unfolding tag_text
  length_tag =
      let w = decimal tag.worker in
      let s = decimal tag.session in
      let most = known.worker in
      let most' = known.session in
      let a = length-decimal-le 5 tag.worker (omega arith) (omega (arith, most)) worker_fits in
      let b = length-decimal-le 10 tag.session (omega arith) (omega (arith, most')) session_fits in
      omega (arith, a, b, length-append (w ++ 46 ∷ s) (32 ∷ []), length-append w (46 ∷ s))

  pub meaning-said : (text : List ℕ) → length text ≤ MAX_LINE_BYTES → meaning (tag_text tag ++ text) ≡ Said tag text
  meaning-said text short =
      let fits : length (tag_text tag ++ text) ≤ MAX_SCRIPT_LINE_BYTES = omega (arith, short, length_tag, length-append (tag_text tag) text) in
      ap (λ b. cond b Rejected (short_meaning (tag_text tag ++ text))) (le-ltb MAX_SCRIPT_LINE_BYTES (length (tag_text tag ++ text)) fits)
      ∙ short_said text

  -- there is no line end in a tag
  pub tag_one : list_any is_line_end (tag_text tag) ≡ false
  unfolding tag_text
  tag_one =
      let w = none_among is_ascii_digit 10 (decimal tag.worker) refl (are_digits-decimal tag.worker worker_fits) in
      let s = none_among is_ascii_digit 10 (decimal tag.session) refl (are_digits-decimal tag.session session_fits) in
      rw (
        list_any-append is_line_end (decimal tag.worker ++ 46 ∷ decimal tag.session) (32 ∷ []),
        list_any-append is_line_end (decimal tag.worker) (46 ∷ decimal tag.session),
        w,
        s,
      ) refl

  pub Says-said : (text : List ℕ) → IsSpoken text → Says (connection_line tag text) (Said tag text ∷ [])
  unfolding connection_line
  Says-said text h =
      rw (← append_assoc (tag_text tag) text (10 ∷ []))
      (Says-line (tag_text tag ++ text) (Said tag text) line (meaning-said text h.short))
    where
      line : IsLine (tag_text tag ++ text)
      line = record {
        one = rw (list_any-append is_line_end (tag_text tag) text, tag_one, h.one) refl;
        bare = rw (HasBareEnd-append (tag_text tag) text h.end).bare refl;
      }
