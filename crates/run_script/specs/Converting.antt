-- What `convert` reads and writes.
use Rattle.std.specs.Prelude.{◌≡◌, ◌⊎◌, ℕ, ◌+◌, ◌≤◌, Option, Some, None, Ok, Err, List, length}
use Rattle.play_outside.specs.Faults.{Rose}
use Rattle.play_outside.specs.Source.{Gives}
use Rattle.play_outside.specs.SinkState.{after_taking}
use Rattle.play_outside.specs.Sink.{Fails}
use Rattle.play_types.specs.ClipFile.{ClipView, clip_bytes}
use Rattle.clip_format.specs.Decoding.{clip_of}
use Rattle.clip_format.specs.Preparing.{straight_clip}
use Rattle.server_setup.specs.declared.fault.RunFault.{RunFault}
use Rattle.server_setup.specs.declared.fault.RunFault.TheVariants as faults
use Rattle.run_script.specs.declared.converting.TheConstants.{MAX_CLIP_BYTES}
use Rattle.script_player.specs.Run.{Streams, IsWholeInput}

-- the bytes are a clip file
pub record IsClipFileOf (bytes : List ℕ) (clip : ClipView) (before after : Streams) : Type 0 where
  pub whole : IsWholeInput MAX_CLIP_BYTES bytes before after
  pub reads : clip_of bytes ≡ Ok clip

-- how a conversion ends after these bytes were read: the clip was written in version 2, and nothing else; or the bytes are one more than
-- a clip may have; or they are no clip, for this reason; or a read or a write failed; or memory ran out
abbrev pub ConvertEnds : Option RunFault → List ℕ → Streams → Streams → Type 0
ConvertEnds None bytes before after =
    (clip : ClipView) × IsClipFileOf bytes clip before after × (after.out ≡ after_taking before.out (clip_bytes (straight_clip clip)))
ConvertEnds (Some faults.InputTooLong) bytes before after =
    (length bytes ≡ MAX_CLIP_BYTES + 1) × (after.input.faults ≡ before.input.faults) × (after.out ≡ before.out)
ConvertEnds (Some (faults.Clip fault)) bytes before after =
    IsWholeInput MAX_CLIP_BYTES bytes before after × (clip_of bytes ≡ Err fault) × (after.out ≡ before.out)
ConvertEnds (Some faults.Device) bytes before after =
    (length bytes ≤ MAX_CLIP_BYTES)
    × ((Rose before.input.faults after.input.faults × (after.out ≡ before.out))
    ⊎ ((clip : ClipView) × IsClipFileOf bytes clip before after × Fails (clip_bytes (straight_clip clip)) before.out after.out))
ConvertEnds (Some faults.OutOfMemory) bytes before after =
    (length bytes ≤ MAX_CLIP_BYTES) × (after.input.faults ≡ before.input.faults) × (after.out ≡ before.out)
ConvertEnds (Some faults.Usage) bytes before after = ⊥
ConvertEnds (Some faults.ConfigText) bytes before after = ⊥
ConvertEnds (Some (faults.ConfigKey key)) bytes before after = ⊥
ConvertEnds (Some (faults.BadLine number)) bytes before after = ⊥
ConvertEnds (Some (faults.Plan number)) bytes before after = ⊥
ConvertEnds (Some faults.PlanEnd) bytes before after = ⊥
ConvertEnds (Some (faults.Record name)) bytes before after = ⊥
ConvertEnds (Some (faults.Resume number)) bytes before after = ⊥
ConvertEnds (Some (faults.MediaTwice name)) bytes before after = ⊥
ConvertEnds (Some (faults.MediaTotal sum)) bytes before after = ⊥

-- what was read of the input, and how the conversion ended
pub record Converts (fault : Option RunFault) (before after : Streams) : Type 0 where
  pub bytes : List ℕ
  pub gives : Gives bytes before.input.left after.input.left
  pub ends : ConvertEnds fault bytes before after
