-- The words that begin an option.
use Rattle.std.specs.Prelude.{ℕ, if◌then◌else◌, Bool, true, false, Option, Some, option_map, List, codes}
use Rattle.play_types.specs.declared.transition.Kind.{Kind}
use Rattle.play_types.specs.declared.transition.Kind.TheVariants.{Cut, Mix, Push, Slide, Wipe}
use Rattle.play_types.specs.Words.{is_word, kind_of}
use Rattle.history_model.specs.commands.Options.{OptionName}
use Rattle.history_model.specs.commands.Options as option
use Rattle.cmd_parse.specs.declared.keyword.Keyword.{Keyword}
use Rattle.cmd_parse.specs.declared.keyword.Keyword.TheVariants.{Loop, Seek, Length, Auto, Transition}

-- the option that a word begins
abbrev pub keyword_of : List ℕ → Option Keyword
keyword_of word =
    if is_word (codes "LOOP") word then Some Loop
    else if is_word (codes "SEEK") word then Some Seek
    else if is_word (codes "LENGTH") word then Some Length
    else if is_word (codes "AUTO") word then Some Auto
    else option_map Transition (kind_of word)

-- the option without the kind of its transition
abbrev pub option_named : Keyword → OptionName
option_named Loop = option.Loop
option_named Seek = option.Seek
option_named Length = option.Length
option_named Auto = option.Auto
option_named (Transition kind) = option.Transition

-- the kind is a cut
abbrev pub is_cut : Kind → Bool
is_cut Cut = true
is_cut Mix = false
is_cut Push = false
is_cut Slide = false
is_cut Wipe = false
