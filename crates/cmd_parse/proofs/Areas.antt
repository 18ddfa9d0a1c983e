-- The parts of a written place.
use Rattle.std.proofs.Common.{◌≡◌, ℕ, true, false, List, length, refl, sym, ap, ◌∙◌, arith, lit<}
use Rattle.std.specs.Prelude.{Option, Some, None, Result, Ok, MatchOption, ok_or}
use Rattle.std.specs.Borrow.{Bor}
use Rattle.std.specs.List.{list_any, before_first, after_first}
use Rattle.std.specs.Str.{IsUtf8, chars}
use Rattle.std.proofs.lemmas.Bool.{false_from_ne_true, true_from_ne_false}
use Rattle.std.proofs.lemmas.Str.Pattern.{IsSplitOnceResult, split_once_first}
use Rattle.play_types.specs.declared.place.TheConstants.{MAX_LAYER}
use Rattle.play_types.specs.declared.parsed.Refusal.{Refusal}
use Rattle.play_types.specs.declared.parsed.Refusal.TheVariants.{Channel}
use Rattle.amcp_text.proofs.FirstEnd.{position_or_len_none, position_or_len_some}
use Rattle.history_model.specs.commands.Line.{Line, ◌>>=◌, legal}
use Rattle.amcp_text.specs.Numbers.{number_within}
use Rattle.history_model.specs.commands.Places.{is_dash, area_of}
use Rattle.cmd_parse.proofs.Texts.{chars_without, cut_text}

-- a word without a dash, and one of two parts
pub record IsWhole (word : List ℕ) : Type 0 where
  pub has : list_any is_dash (chars word) ≡ false
  pub before : before_first is_dash (chars word) ≡ chars word

pub record HasParts (word prefix rest : List ℕ) : Type 0 where
  pub has : list_any is_dash (chars word) ≡ true
  pub before : before_first is_dash (chars word) ≡ chars prefix
  pub after : after_first is_dash (chars word) ≡ chars rest

-- the characters of the parts of a word that is split once at a dash
pub split_word : (word : List ℕ) (parts : Option (Bor (List ℕ) × Bor (List ℕ))) → IsUtf8 word → IsSplitOnceResult 45 word parts
    → MatchOption parts (IsWhole word) (λ p. HasParts word p.0.now p.1.now)
split_word word None utf8 h =
    let end = split_once_first 45 word None h (lit< tt) in
    let without = chars_without 45 (lit< tt) word utf8 (false_from_ne_true (list_any is_dash word) (λ e. omega (arith, end, position_or_len_some is_dash word e))) in
    record { has = without.0; before = without.1 }
split_word word (Some p) utf8 h =
    let cut = split_once_first 45 word (Some p) h (lit< tt) in
    let parts = cut_text 45 (lit< tt) word utf8 (true_from_ne_false (list_any is_dash word) (λ e. omega (arith, cut.0, position_or_len_none is_dash word e))) in
    record { has = parts.has; before = parts.before ∙ ap chars (sym cut.1); after = parts.after ∙ ap chars (sym cut.2) }

-- the channel of a written place
abbrev pub channel_named : Line → List ℕ → Result ℕ Refusal
channel_named line word = ok_or (number_within 1 (length line.config.channels) (chars word)) (Channel line.name)

-- a place without a layer
pub area_whole : (line : Line) (at : ℕ) (word : List ℕ) → IsWhole word
    → area_of line at (chars word) ≡ (channel_named line word >>= λ channel. Ok (record { channel = channel; layer = None }))
unfolding area_of
area_whole line at word h = rw (h.has, h.before) refl

-- a place with a layer
pub area_parts : (line : Line) (at : ℕ) (word prefix rest : List ℕ) → HasParts word prefix rest
    → area_of line at (chars word) ≡ (channel_named line prefix >>= λ channel.
    (legal line at (number_within 0 MAX_LAYER (chars rest)) >>= λ layer. Ok (Some layer)) >>= λ layer. Ok (record { channel = channel; layer = layer }))
unfolding area_of
area_parts line at word prefix rest h = rw (h.has, h.before, h.after) refl
