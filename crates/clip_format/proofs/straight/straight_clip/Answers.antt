use Rattle.std.proofs.Common.{◌≡◌, ◌+◌, ◌*◌, ◌==◌, false, length, refl, sym, ap, subst, ◌∙◌, arith}
use Rattle.std.proofs.lemmas.Bool.{ne_eqb, eq-eqb}
use Rattle.play_types.specs.declared.clip.TheConstants.{STRAIGHT}
use Rattle.play_types.specs.Geometry.{frame_bytes}
use Rattle.play_types.specs.ClipFile.{ClipView}
use Rattle.clip_format.specs.Preparing.{AreBytes, prepared_clip, recoloured, straight_clip, straight_colour}
use Rattle.clip_format.proofs.Frames.{whole_frames, written_back}
use Rattle.clip_format.proofs.Prepared.{prepared_clip-straight_clip}
use Rattle.clip_format.proofs.Recoloured.{recoloured-frames}
use Rattle.clip_format.proofs.straight.straight_clip.Goals as goal

pub returns-then-version-eq-STRAIGHT-clause-value :
    goal.returns-then-version-eq-STRAIGHT-clause-value
unfolding straight_clip
returns-then-version-eq-STRAIGHT-clause-value c =
    let is : c.args.clip.version ≡ STRAIGHT = omega (arith, c.version.ensures.value, c.if-version-eq-STRAIGHT.true) in
    rw (eq-eqb _ _ is) refl

pub straighten_frames-requires-clause-whole : goal.straighten_frames-requires-clause-whole
straighten_frames-requires-clause-whole c =
    let clip = c.args.clip in
    let frame : 4 * c.from.result * c.from-2.result + 4 * c.from-3.result ≡ frame_bytes clip.geometry = rw (c.from.ensures, c.from-2.ensures, c.from-3.ensures, c.geometry-size.ensures.value) refl in
    let bytes : c.as_mut_slice.result.now ≡ clip.bytes = c.as_mut_slice.ensures.value ∙ c.into_vec-bytes.ensures ∙ c.into_bytes.ensures.value in
    rw (frame, bytes) (whole_frames clip c.geometry-size.ensures.range)

pub returns-clause-value : goal.returns-clause-value
unfolding straight_clip
returns-clause-value c =
    let clip = c.args.clip in
    let new = c.straighten_frames.new.bytes in
    let value = c.as_mut_slice.ensures.value in
    let same = c.straighten_frames.ensures.made.len ∙ ap length value in
    let size = sym (ap length value) ∙ c.as_mut_slice.ensures.len in
    let read : c.as_mut_slice.result.now ≡ clip.bytes = value ∙ c.into_vec-bytes.ensures ∙ c.into_bytes.ensures.value in
    let are = rw (c.from.ensures, c.from-2.ensures, c.from-3.ensures, c.geometry-size.ensures.value, read) at c.straighten_frames.ensures.made in
    let geometry : c.geometry-size.result ≡ clip.geometry = c.geometry-size.ensures.value in
    let frames : c.frames-frames.result ≡ clip.frames = c.frames-frames.ensures.value in
    let bytes : c.new.result ≡ recoloured straight_colour clip =
    c.new.ensures ∙ written_back new c.into_vec-bytes.result.items c.into_vec-bytes.result.len same size ∙ recoloured-frames straight_colour clip new are in
    let before : ClipView = record { version = STRAIGHT; geometry = c.geometry-size.result; frames = c.frames-frames.result; bytes = c.new.result } in
    let after : ClipView = record { version = STRAIGHT; geometry = clip.geometry; frames = clip.frames; bytes = recoloured straight_colour clip } in
    let made : before ≡ after = λ i. record { version = STRAIGHT; geometry = geometry i; frames = frames i; bytes = bytes i } in
    let kept : c.unwrap.result ≡ before = rw c.unwrap.ensures at c.new-2.ensures.value in
    let other : clip.version == STRAIGHT ≡ false = ne_eqb _ _ (λ is. c.if-version-eq-STRAIGHT.false (omega (arith, is, c.version.ensures.value))) in
    rw other (kept ∙ made)

pub returns-clause-shown : goal.returns-clause-shown
returns-clause-shown c =
    let read : c.as_mut_slice.result.now ≡ c.args.clip.bytes = c.as_mut_slice.ensures.value ∙ c.into_vec-bytes.ensures ∙ c.into_bytes.ensures.value in
    ap prepared_clip (returns-clause-value c) ∙ prepared_clip-straight_clip c.args.clip c.version.ensures.range (subst AreBytes read c.straighten_frames.ensures.of_bytes)
