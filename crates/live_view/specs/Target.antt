-- What is at a path.
use Rattle.std.specs.Prelude.{ℕ, ◌-◌, if◌then◌else◌, Option, Some, None, option_and_then, List, length, take, drop, codes, bytes_eq}
use Rattle.amcp_text.specs.Numbers.{plain_number_within}
use Rattle.live_view.specs.declared.target.Target.{Target}
use Rattle.live_view.specs.declared.target.Target.TheVariants.{Home, Status, Events, Picture, Nowhere}

-- what follows a prefix of a text
abbrev pub after_prefix : List ℕ → List ℕ → Option (List ℕ)
after_prefix prefix text = if bytes_eq (take (length prefix) text) prefix then Some (drop (length prefix) text) else None

-- what precedes a suffix of a text
abbrev pub before_suffix : List ℕ → List ℕ → Option (List ℕ)
before_suffix suffix text =
    let rest = length text - length suffix in
    if bytes_eq (drop rest text) suffix then Some (take rest text) else None

-- the channel whose picture is at a path, if there are this many channels: its number has no leading zero
abbrev pub channel_in : ℕ → List ℕ → Option ℕ
channel_in channels path =
    option_and_then (plain_number_within 1 channels) (option_and_then (before_suffix (codes ".bmp")) (after_prefix (codes "/channel/") path))

-- the picture of a channel, if there is one
abbrev pub picture_of : Option ℕ → Target
picture_of None = Nowhere
picture_of (Some channel) = Picture channel

-- what is at a path, if there are this many channels
abbrev pub target_of : ℕ → List ℕ → Target
target_of channels path =
    if bytes_eq path (codes "/") then Home
    else if bytes_eq path (codes "/status") then Status
    else if bytes_eq path (codes "/events") then Events
    else picture_of (channel_in channels path)
