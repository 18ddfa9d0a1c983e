-- When a read skips the stream, and how long a client has sent no command.
use Rattle.std.specs.Prelude.{◌+◌, ◌*◌, ◌≤◌, ℕ, List, if◌then◌else◌}
use Rattle.real_devices.specs.declared.watch.TheConstants.{LOOK_SECONDS, SILENT_SECONDS}
use Rattle.real_devices.specs.declared.watch.Watch.{Watch}
use Rattle.real_devices.specs.inner.OpenLine.{ends_word, leaves_word}

-- at nanosecond `now` it is LOOK_SECONDS or longer since a read last reported that nothing has come
abbrev pub IsLookDue : Watch → ℕ → Type 0
IsLookDue watch now = watch.looked + LOOK_SECONDS * 1_000_000_000 ≤ now

-- at nanosecond `now` the client has sent no command for SILENT_SECONDS or longer
abbrev pub IsSilent : Watch → ℕ → Type 0
IsSilent watch now = watch.spoke + SILENT_SECONDS * 1_000_000_000 ≤ now

-- the watch after a read of `bytes` at nanosecond `now`: the client has sent a command if they end a line that has a word
abbrev pub heard : List ℕ → ℕ → Watch → Watch
heard bytes now watch =
    record watch {
      spoke = if ends_word watch.line.has_word bytes then now else watch.spoke;
      line = record { has_word = leaves_word watch.line.has_word bytes };
      has_asked = ends_word watch.line.has_word bytes;
    }
