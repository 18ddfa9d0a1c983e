-- The fixed words of the protocol: how they print, and how they are read.
use Rattle.std.specs.Prelude.{ℕ, nat_lt, Bool, Option, List, [], ◌∷◌, map, codes}
use Rattle.std.specs.List.{list_all, find}
use Rattle.std.specs.Char.{to_ascii_uppercase}
use Rattle.std.specs.Str.{bytes_eq}
use Rattle.play_types.specs.declared.answer.Status.{Status}
use Rattle.play_types.specs.declared.answer.Status.TheVariants as status
use Rattle.play_types.specs.declared.reply.Name.{Name}
use Rattle.play_types.specs.declared.reply.Name.TheVariants as name
use Rattle.play_types.specs.declared.setting.Prop.{Prop}
use Rattle.play_types.specs.declared.setting.Prop.TheVariants as prop
use Rattle.play_types.specs.declared.transition.Kind.{Kind}
use Rattle.play_types.specs.declared.transition.Kind.TheVariants as kind
use Rattle.play_types.specs.declared.transition.Curve.{Curve}
use Rattle.play_types.specs.declared.transition.Curve.TheVariants as curve

-- every character comes before the small letters
abbrev pub are_capitals : List ℕ → Bool
are_capitals word = list_all (λ c. nat_lt c 97) word

-- a word is `fixed`, which is given in capitals, without regard to the case of ASCII letters
unfoldable pub is_word : List ℕ → List ℕ → Bool
is_word fixed word = bytes_eq (map to_ascii_uppercase word) fixed

-- two names are equal without regard to the case of their ASCII letters
unfoldable pub is_same_name : List ℕ → List ℕ → Bool
is_same_name one other = bytes_eq (map to_ascii_uppercase one) (map to_ascii_uppercase other)

-- the name of a command in capitals
abbrev pub name_text : Name → List ℕ
name_text name.LoadBg = codes "LOADBG"
name_text name.Load = codes "LOAD"
name_text name.Play = codes "PLAY"
name_text name.Pause = codes "PAUSE"
name_text name.Resume = codes "RESUME"
name_text name.Stop = codes "STOP"
name_text name.Clear = codes "CLEAR"
name_text name.Swap = codes "SWAP"
name_text name.Mixer = codes "MIXER"
name_text name.Add = codes "ADD"
name_text name.Remove = codes "REMOVE"
name_text name.Begin = codes "BEGIN"
name_text name.Commit = codes "COMMIT"
name_text name.Discard = codes "DISCARD"
name_text name.Info = codes "INFO"
name_text name.Cls = codes "CLS"
name_text name.Version = codes "VERSION"
name_text name.Bye = codes "BYE"
name_text name.Kill = codes "KILL"
name_text name.Req = codes "REQ"

-- the names of all commands
abbrev pub all_names : List Name
all_names =
    name.LoadBg ∷ name.Load ∷ name.Play ∷ name.Pause ∷ name.Resume ∷ name.Stop ∷ name.Clear ∷ name.Swap ∷ name.Mixer
    ∷ name.Add ∷ name.Remove ∷ name.Begin ∷ name.Commit ∷ name.Discard ∷ name.Info ∷ name.Cls ∷ name.Version ∷ name.Bye ∷ name.Kill ∷ name.Req ∷ []

-- the command that a word names
unfoldable pub name_of : List ℕ → Option Name
name_of word = find (λ name. is_word (name_text name) word) all_names

-- a property of the mixer in capitals
abbrev pub prop_text : Prop → List ℕ
prop_text prop.Opacity = codes "OPACITY"
prop_text prop.Fill = codes "FILL"
prop_text prop.Clip = codes "CLIP"
prop_text prop.Volume = codes "VOLUME"
prop_text prop.Keyer = codes "KEYER"

-- all properties
abbrev pub all_props : List Prop
all_props = prop.Opacity ∷ prop.Fill ∷ prop.Clip ∷ prop.Volume ∷ prop.Keyer ∷ []

-- the property that a word names
unfoldable pub prop_of : List ℕ → Option Prop
prop_of word = find (λ prop. is_word (prop_text prop) word) all_props

-- a kind of transition in capitals
abbrev pub kind_text : Kind → List ℕ
kind_text kind.Cut = codes "CUT"
kind_text kind.Mix = codes "MIX"
kind_text kind.Push = codes "PUSH"
kind_text kind.Slide = codes "SLIDE"
kind_text kind.Wipe = codes "WIPE"

-- all kinds of transition
abbrev pub all_kinds : List Kind
all_kinds = kind.Cut ∷ kind.Mix ∷ kind.Push ∷ kind.Slide ∷ kind.Wipe ∷ []

-- the kind of transition that a word names
unfoldable pub kind_of : List ℕ → Option Kind
kind_of word = find (λ kind. is_word (kind_text kind) word) all_kinds

-- a curve in capitals
abbrev pub curve_text : Curve → List ℕ
curve_text curve.Linear = codes "LINEAR"
curve_text curve.EaseInQuad = codes "EASEINQUAD"
curve_text curve.EaseOutQuad = codes "EASEOUTQUAD"
curve_text curve.EaseInCubic = codes "EASEINCUBIC"
curve_text curve.EaseOutCubic = codes "EASEOUTCUBIC"

-- all curves
abbrev pub all_curves : List Curve
all_curves = curve.Linear ∷ curve.EaseInQuad ∷ curve.EaseOutQuad ∷ curve.EaseInCubic ∷ curve.EaseOutCubic ∷ []

-- the curve that a word names
unfoldable pub curve_of : List ℕ → Option Curve
curve_of word = find (λ curve. is_word (curve_text curve) word) all_curves

-- the status of a channel in capitals
abbrev pub status_text : Status → List ℕ
status_text status.Empty = codes "EMPTY"
status_text status.Paused = codes "PAUSED"
status_text status.Playing = codes "PLAYING"
