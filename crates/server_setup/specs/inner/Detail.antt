-- The end of the line of a fault.
use Rattle.std.specs.Prelude.{ℕ, List, [], ◌∷◌, decimal}
use Rattle.std.specs.Str.{encode_utf8_all}
use Rattle.play_types.specs.declared.clip_fault.ClipFault.{ClipFault}
use Rattle.play_types.specs.declared.clip_fault.ClipFault.TheVariants as clip
use Rattle.server_setup.specs.declared.fault.RunFault.{RunFault}
use Rattle.server_setup.specs.declared.fault.RunFault.TheVariants.{Usage, ConfigText, ConfigKey, BadLine, InputTooLong, Plan, PlanEnd, Record, Resume, Clip, MediaTwice, MediaTotal, Device, OutOfMemory}

-- the first number in the line of a refused clip, or nothing if it has none
abbrev pub first_number : ClipFault → List ℕ
first_number clip.BadMagic = []
first_number clip.BadVersion = []
first_number (clip.BadField at) = decimal at
first_number (clip.Short needed had) = decimal needed
first_number (clip.Long extra) = decimal extra
first_number clip.OutOfMemory = []

-- the second number in that line, after a space, or nothing if it has none
abbrev pub second_number : ClipFault → List ℕ
second_number clip.BadMagic = []
second_number clip.BadVersion = []
second_number (clip.BadField at) = []
second_number (clip.Short needed had) = 32 ∷ decimal had
second_number (clip.Long extra) = []
second_number clip.OutOfMemory = []

-- the name or the first number in the line of a fault, or nothing if it has neither
abbrev pub detail_of : RunFault → List ℕ
detail_of Usage = []
detail_of ConfigText = []
detail_of (ConfigKey key) = encode_utf8_all key
detail_of (BadLine number) = decimal number
detail_of InputTooLong = []
detail_of (Plan number) = decimal number
detail_of PlanEnd = []
detail_of (Record name) = encode_utf8_all name
detail_of (Resume number) = decimal number
detail_of (Clip fault) = first_number fault
detail_of (MediaTwice name) = encode_utf8_all name
detail_of (MediaTotal total) = decimal total
detail_of Device = []
detail_of OutOfMemory = []

-- the second number in the line of a fault, after a space, or nothing if it has none
abbrev pub second_of : RunFault → List ℕ
second_of Usage = []
second_of ConfigText = []
second_of (ConfigKey key) = []
second_of (BadLine number) = []
second_of InputTooLong = []
second_of (Plan number) = []
second_of PlanEnd = []
second_of (Record name) = []
second_of (Resume number) = []
second_of (Clip fault) = second_number fault
second_of (MediaTwice name) = []
second_of (MediaTotal total) = []
second_of Device = []
second_of OutOfMemory = []
