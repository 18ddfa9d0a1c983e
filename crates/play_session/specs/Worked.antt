-- Words for the worked examples: lines that are short to write, and their steps.
use Rattle.std.specs.Prelude.{ℕ, Option, List, [], ◌∷◌, codes, map}
use Prim.Native.String.{String}
use Rattle.amcp_text.specs.Lines.{Line, Text}
use Rattle.play_types.specs.Config.{ChannelView, ConfigView}
use Rattle.play_types.specs.Place.{PlaceView}
use Rattle.history_model.specs.sessions.Session.{Step, until_end, line_steps}
use Rattle.play_session.specs.Illegal.{illegal_word}

abbrev channel : ChannelView
channel = record { width = 1; height = 1; pairs = 0; output = codes "one.raw" }

-- a configuration of one channel
abbrev one : ConfigView
one = record { listen = codes "here"; media = codes "media"; rate = 25; connections = 4; journal_limit = 1000; channels = channel ∷ [] }

-- a line of this text
abbrev pub line : String → Line
line text = Text (codes text)

-- the steps of these lines, of which the lines of these numbers were given up
abbrev pub gives_without : List ℕ → List Line → List Step
gives_without given_up lines = until_end (line_steps one [] given_up lines)

-- the steps of these lines
abbrev pub gives : List Line → List Step
gives lines = gives_without [] lines

-- layer l of channel 1
abbrev pub layer : ℕ → PlaceView
layer l = record { channel = 1; layer = l }

-- the words for which these lines are refused
abbrev pub wrong_words : List Line → List (Option ℕ)
wrong_words lines = map (λ one_line. illegal_word one [] one_line) lines
