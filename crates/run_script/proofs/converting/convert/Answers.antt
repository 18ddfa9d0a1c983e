use Rattle.std.proofs.Common.{sym}
use Rattle.run_script.proofs.ClipReading.{clip_failed}
use Rattle.run_script.proofs.converting.convert.Goals as goal

pub returns : goal.returns
returns g c =
    clip_failed c.in_ok-bytes.bytes _ _ c.in_ok-clip.clip c.straight_clip.result _ c.in_ok-bytes.ensures (sym c.in_ok-clip.ensures.exact)
    c.straight_clip.ensures.value c.in-Failed.ensures.written
