-- A clip that is read, and written.
use Rattle.std.proofs.Common.{◌≡◌, inr, ℕ, sym, ap, ◌∙◌, subst}
use Rattle.std.specs.Prelude.{Ok, Some}
use Rattle.std.specs.Global.{Vec}
use Rattle.play_types.specs.ClipFile.{ClipView, clip_bytes}
use Rattle.play_outside.specs.SourceState.{SourceState}
use Rattle.play_outside.specs.SinkState.{SinkState}
use Rattle.play_outside.specs.Sink.{Fails}
use Rattle.clip_format.specs.Decoding.{clip_of}
use Rattle.clip_format.specs.Preparing.{straight_clip}
use Rattle.server_setup.specs.declared.fault.RunFault.TheVariants as faults
use Rattle.run_script.specs.declared.converting.TheConstants.{MAX_CLIP_BYTES}
use Rattle.script_player.specs.Run.{Streams}
use Rattle.run_script.specs.Converting.{Converts}
use Rattle.script_player.specs.Reading.{ReadsInput}

-- a write of the clip that was read failed
pub clip_failed : (held : Vec ℕ) (before : Streams) (after : SourceState) (clip made : ClipView) (out : SinkState) → ReadsInput MAX_CLIP_BYTES (Ok held) before.input after
    → clip_of held.items ≡ Ok clip → made ≡ straight_clip clip → Fails (clip_bytes made) before.out out → Converts (Some faults.Device) before (record { input = after; out = out })
clip_failed held before after clip made out reads is straight fails = record {
  bytes = reads.bytes;
  gives = reads.gives;
  ends = (
    reads.ends.3,
    inr (
      clip,
      record { whole = record { at_end = reads.ends.1; quiet = reads.ends.2; few = reads.ends.3 }; reads = ap clip_of (sym reads.ends.0) ∙ is },
      subst (λ (c : ClipView). Fails (clip_bytes c) before.out out) straight fails,
    ),
  );
}
