use Rattle.std.proofs.Common.{◌≡◌, ◌+◌, ◌*◌, length, refl, sym, ap, ◌∙◌}
use Rattle.play_types.specs.declared.clip.TheConstants.{MULTIPLIED}
use Rattle.play_types.specs.Geometry.{frame_bytes}
use Rattle.play_types.specs.ClipFile.{ClipView}
use Rattle.clip_format.specs.Preparing.{prepared_clip, prepared_colour, recoloured}
use Rattle.clip_format.proofs.Frames.{whole_frames, written_back}
use Rattle.clip_format.proofs.Recoloured.{recoloured-frames}
use Rattle.clip_store.proofs.preparing.prepared.Goals as goal

pub prepare_frames-requires-clause-whole : goal.prepare_frames-requires-clause-whole
prepare_frames-requires-clause-whole g c κs within =
    let clip = c.args.clip in
    let frame : 4 * c.from.result * c.from-2.result + 4 * c.from-3.result ≡ frame_bytes clip.geometry = rw (c.from.ensures, c.from-2.ensures, c.from-3.ensures, c.geometry-size.ensures.value) refl in
    let bytes : c.as_mut_slice.result.now ≡ clip.bytes = c.as_mut_slice.ensures.value ∙ c.into_vec-bytes.ensures ∙ c.into_bytes.ensures.value in
    rw (frame, bytes) (whole_frames clip c.geometry-size.ensures.range)

pub returns : goal.returns
unfolding prepared_clip
returns g c =
    let clip = c.args.clip in
    let made = prepared_colour clip.version in
    let new = c.prepare_frames.new.bytes in
    let value = c.as_mut_slice.ensures.value in
    let same = c.prepare_frames.ensures.len ∙ ap length value in
    let size = sym (ap length value) ∙ c.as_mut_slice.ensures.len in
    let read : c.as_mut_slice.result.now ≡ clip.bytes = value ∙ c.into_vec-bytes.ensures ∙ c.into_bytes.ensures.value in
    let are = rw (c.from.ensures, c.from-2.ensures, c.from-3.ensures, c.geometry-size.ensures.value, c.version-version.ensures.value, read) at c.prepare_frames.ensures in
    let geometry : c.geometry-size.result ≡ clip.geometry = c.geometry-size.ensures.value in
    let frames : c.frames-frames.result ≡ clip.frames = c.frames-frames.ensures.value in
    let bytes : c.new.result ≡ recoloured made clip = c.new.ensures ∙ written_back new c.into_vec-bytes.result.items c.into_vec-bytes.result.len same size ∙ recoloured-frames made clip new are in
    let before : ClipView = record { version = MULTIPLIED; geometry = c.geometry-size.result; frames = c.frames-frames.result; bytes = c.new.result } in
    let after : ClipView = record { version = MULTIPLIED; geometry = clip.geometry; frames = clip.frames; bytes = recoloured made clip } in
    let all : before ≡ after = λ i. record { version = MULTIPLIED; geometry = geometry i; frames = frames i; bytes = bytes i } in
    let kept : c.unwrap.result ≡ before = rw c.unwrap.ensures at c.new-2.ensures.value in
    kept ∙ all
