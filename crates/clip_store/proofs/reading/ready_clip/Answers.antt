use Rattle.std.proofs.Common.{◌≡◌, sym, subst}
use Rattle.play_types.specs.declared.clip.TheConstants.{MULTIPLIED}
use Rattle.play_types.specs.ClipFile.{ClipView}
use Rattle.clip_format.proofs.Prepared.{IsLowered-prepared_clip, version-prepared_clip}
use Rattle.clip_format.specs.Preparing.{IsLowered}
use Rattle.clip_store.proofs.reading.ready_clip.Goals as goal

pub returns-clause-ready : goal.returns-clause-ready
returns-clause-ready g c =
    let clip = c.in_ok-clip.clip in
    subst (λ (made : ClipView). (made.version ≡ MULTIPLIED) × IsLowered made) (sym c.prepared.ensures)
    (version-prepared_clip clip, IsLowered-prepared_clip clip c.in_ok-clip.ensures.is_file.ranges c.in_ok-clip.ensures.of_bytes)
