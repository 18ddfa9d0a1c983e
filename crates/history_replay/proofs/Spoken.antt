-- The text of a printed command is a client's line, which asks for the command.
use Rattle.std.proofs.Common.{◌≡◌, ℕ, ◌<◌, true, false, List, [], ◌∷◌, ◌++◌, length, map, refl, sym, ap, ◌∙◌, subst, arith, append-nil, length-append}
use Rattle.std.specs.Prelude.{None, All, Ok, codes, encode_utf8_all}
use Rattle.std.specs.Char.{encode_utf8}
use Rattle.std.specs.Str.{IsUtf8}
use Rattle.std.proofs.lemmas.Bool.{and_parts}
use Rattle.std.proofs.lemmas.Str.{chars_from_encodes, chars-IsAscii, IsUtf8-from_ascii}
use Rattle.amcp_text.specs.Lines.{Text, line_of_text}
use Rattle.amcp_text.specs.Tokens.{words_of}
use Rattle.amcp_text.proofs.LineLaws.{line_of_text_utf8}
use Rattle.play_types.specs.Commands.{command_name}
use Rattle.play_types.specs.Config.{ConfigView, IsConfig}
use Rattle.play_types.specs.Media.{IsMediaName, MediaNameView}
use Rattle.play_types.specs.Words.{is_word, name_text}
use Rattle.play_types.specs.declared.command.Cmd.{Cmd}
use Rattle.play_types.specs.declared.command.Cmd.TheVariants as cmd
use Rattle.play_types.specs.declared.reply.Name.{Name}
use Rattle.play_types.specs.declared.reply.Name.TheVariants as name
use Rattle.play_types.specs.declared.parsed.Parsed.{Parsed}
use Rattle.play_types.specs.declared.parsed.Parsed.TheVariants.{Begin, Commit, Kill, Stage}
use Rattle.history_model.specs.commands.Command.{enough, parsed}
use Rattle.history_model.specs.sessions.Request.{is_req, line_token, text_token, token_of_words}
use Rattle.history_model.specs.sessions.Line.{Asks, line_meaning, meaning_of_parsed, meaning_of_words}
use Rattle.history_model.specs.text.Commands.{Word, Plain, Quoted, arguments, command_text, command_words, word_meant}
use Rattle.cmd_print.specs.inner.Bytes.{spaced, word_bytes}
use Rattle.cmd_print.proofs.ReadsBack.{command_read}
use Rattle.cmd_print.proofs.Reading.{line_of, parsed_line}
use Rattle.cmd_print.proofs.Settings.{parsed_known}
use Rattle.cmd_print.proofs.Spaced.{spaced_one}
use Rattle.cmd_print.proofs.Texts.{are_fit, ascii_of_plain, command_text-bytes, fit_arguments, fit_name, is_fit, is_plain, plain_of_fit}
use Rattle.cmd_print.proofs.Tokens.{words_of-printed}
use Rattle.history_model.proofs.Requests.{requested_plain, token_among_plain}
use Rattle.history_replay.specs.Replay.{IsTextName, NamesShortClip}
use Rattle.history_replay.proofs.CommandSizes.{command_takes, name_short}
use Rattle.history_replay.proofs.Digits.{none_among, not_last}
use Rattle.history_replay.proofs.Quoted.{IsInLine, IsInLine-append, IsInLine-nil, quoted_end, quoted_in_line}
use Rattle.history_replay.proofs.Sizes.{HaveTexts, IsNameWord}
use Rattle.history_replay.proofs.Tagged.{HasBareEnd, HasBareEnd-append, IsSpoken}

-- a word that is written as it is, and the name of a clip
some_of : (word : List ℕ) → is_fit (Plain word) ≡ true → 0 < length word
some_of [] fit = cc
some_of (c ∷ word) fit = omega arith

plain_in_line : (word : List ℕ) → is_fit (Plain word) ≡ true → IsInLine word
plain_in_line word fit = record {
  utf8 = IsUtf8-from_ascii word (ascii_of_plain word (plain_of_fit word fit));
  one = none_among is_plain 10 word refl (plain_of_fit word fit);
}

plain_end : (word : List ℕ) → is_fit (Plain word) ≡ true → HasBareEnd word
plain_end word fit = record { some = some_of word fit; bare = not_last is_plain 13 word refl (plain_of_fit word fit) (some_of word fit) }

word_in_line : (word : Word) → is_fit word ≡ true → IsNameWord word → IsInLine (word_bytes word)
word_in_line (Plain word) fit text = plain_in_line word fit
word_in_line (Quoted name) fit text = quoted_in_line name text

word_end : (word : Word) → is_fit word ≡ true → HasBareEnd (word_bytes word)
word_end (Plain word) fit = plain_end word fit
word_end (Quoted name) fit = quoted_end name

space_in_line : IsInLine (32 ∷ [])
unfolding encode_utf8
space_in_line = record { utf8 = (32 ∷ [], (refl, refl)); one = refl }

-- words, each after a space
words_in_line : (words : List Word) → are_fit words ≡ true → HaveTexts words → IsInLine (spaced words)
unfolding spaced
words_in_line [] fit texts = IsInLine-nil
words_in_line (word ∷ words) fit texts =
    let parts = and_parts (is_fit word) (are_fit words) fit in
    IsInLine-append (32 ∷ word_bytes word) (spaced words)
    (IsInLine-append (32 ∷ []) (word_bytes word) space_in_line (word_in_line word parts.0 texts.0)) (words_in_line words parts.1 texts.1)

words_end : (word : Word) (words : List Word) → are_fit (word ∷ words) ≡ true → HasBareEnd (spaced (word ∷ words))
unfolding spaced
words_end word [] fit =
    let parts = and_parts (is_fit word) (are_fit []) fit in
    subst HasBareEnd (sym (spaced_one word)) (HasBareEnd-append (32 ∷ []) (word_bytes word) (word_end word parts.0))
words_end word (next ∷ words) fit =
    let parts = and_parts (is_fit word) (are_fit (next ∷ words)) fit in
    HasBareEnd-append (32 ∷ word_bytes word) (spaced (next ∷ words)) (words_end next words parts.1)

text_end : (name : List ℕ) (words : List Word) → is_fit (Plain name) ≡ true → are_fit words ≡ true → HasBareEnd (name ++ spaced words)
unfolding spaced
text_end name [] fit all = subst HasBareEnd (sym (append-nil name)) (plain_end name fit)
text_end name (word ∷ words) fit all = HasBareEnd-append name (spaced (word ∷ words)) (words_end word words all)

-- the line of a text that is one
text_line : (config : ConfigView) (media : List MediaNameView) (text : List ℕ) → IsUtf8 (encode_utf8_all text) → IsSpoken (encode_utf8_all text)
    → line_of_text (encode_utf8_all text) ≡ Text text
text_line config media text utf8 h =
    sym (line_of_text_utf8 (encode_utf8_all text) h.short utf8)
    ∙ ap Text (sym (chars_from_encodes text (encode_utf8_all text) utf8 refl))

words_read : (media : List MediaNameView) (command : Cmd) → words_of (command_text media command) ≡ Ok (map word_meant (command_words media command))
unfolding command_text
words_read media command =
    words_of-printed (Plain (name_text (command_name command))) (arguments media command) (fit_name (command_name command)) (fit_arguments media command)

-- no command has the name REQ
no_req : (command : Cmd) → is_req (name_text (command_name command)) ≡ false
unfolding is_word
no_req (cmd.Load place take) = refl
no_req (cmd.LoadBg place take) = refl
no_req (cmd.Play place) = refl
no_req (cmd.PlayTake place take) = refl
no_req (cmd.Pause place) = refl
no_req (cmd.Resume place) = refl
no_req (cmd.StopLayer place) = refl
no_req (cmd.ClearLayer place) = refl
no_req (cmd.ClearChannel channel) = refl
no_req (cmd.SwapLayers a b transforms) = refl
no_req (cmd.SwapChannels a b transforms) = refl
no_req (cmd.Set setting) = refl
no_req (cmd.CommitMixer channel) = refl
no_req (cmd.ResetLayer place) = refl
no_req (cmd.ResetChannel channel) = refl
no_req (cmd.AddFile channel recorded) = refl
no_req (cmd.RemoveFile channel) = refl
no_req (cmd.Value place prop) = refl
no_req cmd.Info = refl

-- the text of a line without REQ has no token
untold : (text word : List ℕ) (words : List (List ℕ)) (line : List ℕ) → line_of_text line ≡ Text text → words_of text ≡ Ok (word ∷ words) → is_req word ≡ false
    → text_token line ≡ None
unfolding line_token
untold text word words line is read plain = ap line_token is ∙ ap token_of_words read ∙ token_among_plain word words plain

module _ (config : ConfigView) (media : List MediaNameView) (kept : IsConfig config) (names : All IsMediaName media) (texts : All IsTextName media) where
  module _ (command : Cmd) (words : List (List ℕ)) (asked : parsed config media words ≡ Ok (Stage command)) (named : NamesShortClip media command) where
    text_in_line : IsInLine (encode_utf8_all (command_text media command))
    text_in_line =
        let takes = command_takes config kept.parts.few_channels media texts command (parsed_known config media words command names asked) named in
        let name = name_text (command_name command) in
        subst IsInLine (sym (command_text-bytes media command))
        (IsInLine-append name (spaced (arguments media command)) (plain_in_line name (fit_name (command_name command)))
        (words_in_line (arguments media command) (fit_arguments media command) takes.texts))

    -- the text of the command is a client's line
    pub command_spoken : IsSpoken (encode_utf8_all (command_text media command))
    command_spoken =
        let takes = command_takes config kept.parts.few_channels media texts command (parsed_known config media words command names asked) named in
        let within = takes.within in
        let name = name_text (command_name command) in
        record {
          one = text_in_line.one;
          end = subst HasBareEnd (sym (command_text-bytes media command))
              (text_end name (arguments media command) (fit_name (command_name command)) (fit_arguments media command));
          short = omega (
            arith,
            ap length (command_text-bytes media command),
            length-append name (spaced (arguments media command)),
            name_short (command_name command),
            within,
          );
        }

    -- which asks for the command
    pub command_asked : line_meaning config media (line_of_text (encode_utf8_all (command_text media command))) ≡ Asks (Stage command)
    unfolding line_meaning
    command_asked =
        let text = command_text media command in
        ap (line_meaning config media) (text_line config media text text_in_line.utf8 command_spoken)
        ∙ ap (meaning_of_words config media text) (words_read media command)
        ∙ ap (meaning_of_parsed text) (requested_plain config media (name_text (command_name command)) (map word_meant (arguments media command)) (no_req command))
        ∙ ap (meaning_of_parsed text) (command_read config media kept.parts.few_channels command (parsed_known config media words command names asked))

    -- and has no token
    pub command_untold : text_token (encode_utf8_all (command_text media command)) ≡ None
    command_untold =
        let text = command_text media command in
        untold text (name_text (command_name command)) (map word_meant (arguments media command)) (encode_utf8_all text)
        (text_line config media text text_in_line.utf8 command_spoken) (words_read media command) (no_req command)

-- a name that is a line alone
module _ (command : Name) where
  name_words : words_of (name_text command) ≡ Ok (name_text command ∷ [])
  name_words = ap words_of (sym (append-nil (name_text command))) ∙ words_of-printed (Plain (name_text command)) [] (fit_name command) refl

  name_line : line_of_text (name_text command) ≡ Text (name_text command)
  name_line =
      let text = name_text command in
      let ascii = ascii_of_plain text (plain_of_fit text (fit_name command)) in
      sym (line_of_text_utf8 text (omega (arith, name_short command)) (IsUtf8-from_ascii text ascii)) ∙ ap Text (chars-IsAscii text ascii)

  name_untold : is_req (name_text command) ≡ false → text_token (name_text command) ≡ None
  name_untold plain = untold (name_text command) (name_text command) [] (name_text command) name_line name_words plain

module _ (config : ConfigView) (media : List MediaNameView) (command : Name) (ask : Parsed) where
  name_asked : enough (line_of config media command []) ≡ Ok ask → is_req (name_text command) ≡ false → line_meaning config media (line_of_text (name_text command)) ≡ Asks ask
  unfolding line_meaning
  name_asked is plain =
      let text = name_text command in
      ap (line_meaning config media) (name_line command)
      ∙ ap (meaning_of_words config media text) (name_words command)
      ∙ ap (meaning_of_parsed text) (requested_plain config media text [] plain)
      ∙ ap (meaning_of_parsed text) (parsed_line config media command [] ∙ is)

pub begin_asked : (config : ConfigView) (media : List MediaNameView) → line_meaning config media (line_of_text (codes "BEGIN")) ≡ Asks Begin
unfolding is_word
begin_asked config media = name_asked config media name.Begin Begin refl refl

pub begin_untold : text_token (codes "BEGIN") ≡ None
unfolding is_word
begin_untold = name_untold name.Begin refl

pub commit_asked : (config : ConfigView) (media : List MediaNameView) → line_meaning config media (line_of_text (codes "COMMIT")) ≡ Asks Commit
unfolding is_word
commit_asked config media = name_asked config media name.Commit Commit refl refl

pub commit_untold : text_token (codes "COMMIT") ≡ None
unfolding is_word
commit_untold = name_untold name.Commit refl

pub kill_asked : (config : ConfigView) (media : List MediaNameView) → line_meaning config media (line_of_text (codes "KILL")) ≡ Asks Kill
unfolding is_word
kill_asked config media = name_asked config media name.Kill Kill refl refl

pub kill_untold : text_token (codes "KILL") ≡ None
unfolding is_word
kill_untold = name_untold name.Kill refl

-- they are lines
pub begin_spoken : IsSpoken (codes "BEGIN")
begin_spoken = record { one = refl; end = record { some = omega arith; bare = refl }; short = omega arith }

pub commit_spoken : IsSpoken (codes "COMMIT")
commit_spoken = record { one = refl; end = record { some = omega arith; bare = refl }; short = omega arith }

pub kill_spoken : IsSpoken (codes "KILL")
kill_spoken = record { one = refl; end = record { some = omega arith; bare = refl }; short = omega arith }
