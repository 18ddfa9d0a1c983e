-- The part of a channel, and its frame.
use Rattle.std.proofs.Common.{◌≡◌, ℕ, ◌+◌, ◌-◌, ◌%◌, ◌<◌, ◌≤◌, List, length, take, drop, set, get_or, refl, sym, subst, ap, ◌∙◌, arith}
use Rattle.play_types.specs.Scene.{IsConfigured}
use Rattle.play_scene.specs.Frames.{FrameView, IsFrame, frame_at, no_frame, picture_length, with_bytes, with_piece, with_sound}
use Rattle.play_scene.specs.Parts.{ArePartsOf, frame_of, frames_of}
use Rattle.play_scene.specs.declared.part.Part.{Part}
use Rattle.play_scene.proofs.Parts.{frame_there, frames_put, frames_set, length-frames_of, part_aligned, part_is_frame, part_within}

-- a part is that of the channel at a place of the parts whose frames these are
pub record IsPartAt (n channel : ℕ) (parts : List Part) (pixels : List ℕ) (frames : List FrameView) (part : Part) : Type 0 where
  pub inside : n < length parts
  pub place : n ≡ channel - 1
  pub aligned : part.start % 4 ≡ 0
  pub within : part.start + picture_length part.size ≤ length pixels
  pub whole : IsFrame (frame_at channel frames)
  pub size : part.size ≡ (frame_at channel frames).size
  pub bytes : take (picture_length part.size) (drop part.start pixels) ≡ (frame_at channel frames).bytes
  pub sound : part.sound.items ≡ (frame_at channel frames).sound

-- a channel has a part
pub part_inside : (parts : List Part) (pixels : List ℕ) (frames : List FrameView) (channel n : ℕ) → frames_of parts pixels ≡ frames →
    IsConfigured (length frames) channel → n ≡ channel → n - 1 < length parts
part_inside parts pixels frames channel n is h same =
    let many = sym (ap length is) ∙ length-frames_of parts pixels in
    omega (arith, many, h.0, h.1, same)

pub channel_part : (parts : List Part) (pixels : List ℕ) (frames : List FrameView) (channel n : ℕ) (part : Part) → ArePartsOf pixels parts →
    frames_of parts pixels ≡ frames → IsConfigured (length frames) channel → n ≡ channel → part ≡ get_or parts (n - 1) part →
    IsPartAt (n - 1) channel parts pixels frames part
channel_part parts pixels frames channel n part are is h same there =
    let k = n - 1 in
    let place : k ≡ channel - 1 = omega (arith, same) in
    let inside = part_inside parts pixels frames channel n is h same in
    let within = part_within 0 parts k part are.starts inside in
    let counted = are.counted in
    let here = get_or parts k part in
    let none : here.start - 0 ≡ here.start = omega arith in
    let start : part.start ≡ here.start = ap (λ (p : Part). p.start) there in
    let long : picture_length part.size ≡ picture_length here.size = ap (λ (p : Part). picture_length p.size) there in
    let frame : frame_at channel frames ≡ get_or (frames_of parts pixels) k no_frame = (λ i. get_or (sym is i) (sym place i) no_frame) in
    let own : get_or (frames_of parts pixels) k no_frame ≡ frame_of part (drop part.start pixels) =
    frame_there 0 parts pixels k part are.starts inside
    ∙ ap (λ (m : ℕ). frame_of here (drop m pixels)) none
    ∙ ap (λ (p : Part). frame_of p (drop p.start pixels)) (sym there) in
    let shown : frame_of part (drop part.start pixels) ≡ frame_at channel frames = sym (frame ∙ own) in
    record {
      inside = inside;
      place = place;
      aligned = ap (λ (m : ℕ). m % 4) start ∙ part_aligned 0 parts k part refl are.starts inside;
      within = omega (arith, within.1, counted, start, long);
      whole = subst IsFrame (sym frame) (part_is_frame parts pixels k part are inside);
      size = ap (λ (f : FrameView). f.size) shown;
      bytes = ap (λ (f : FrameView). f.bytes) shown;
      sound = ap (λ (f : FrameView). f.sound) shown;
    }

-- the number of bytes of its pixels
pub length-part : (n channel : ℕ) (parts : List Part) (pixels : List ℕ) (frames : List FrameView) (part : Part) → IsPartAt n channel parts pixels frames part →
    picture_length part.size ≡ length (frame_at channel frames).bytes
length-part n channel parts pixels frames part is = ap picture_length is.size ∙ sym is.whole.bytes

-- a piece that is put at a place of the channel's pixels
pub channel_put : (parts : List Part) (pixels : List ℕ) (frames : List FrameView) (n channel at : ℕ) (piece : List ℕ) (part : Part) →
    ArePartsOf pixels parts → frames_of parts pixels ≡ frames → part ≡ get_or parts n part → IsPartAt n channel parts pixels frames part →
    at + length piece ≤ length (frame_at channel frames).bytes →
    frames_of parts (with_piece (part.start + at) piece pixels) ≡ with_bytes channel (with_piece at piece (frame_at channel frames).bytes) frames
channel_put parts pixels frames n channel at piece part are is there here fits =
    let start : part.start + at ≡ (get_or parts n part).start - 0 + at = omega (arith, ap (λ (p : Part). p.start) there) in
    let long : picture_length part.size ≡ picture_length (get_or parts n part).size = ap (λ (p : Part). picture_length p.size) there in
    let room = length-part n channel parts pixels frames part here in
    ap (λ (m : ℕ). frames_of parts (with_piece m piece pixels)) start
    ∙ frames_put 0 parts pixels n at piece part are.starts here.inside are.counted (omega (arith, fits, long, room))
    ∙ (λ i. set (is i) (here.place i)
    (record (get_or (is i) (here.place i) no_frame) { bytes = with_piece at piece (get_or (is i) (here.place i) no_frame).bytes }))

-- a sound that is put in place of the channel's
pub channel_sound : (parts : List Part) (pixels : List ℕ) (frames : List FrameView) (n channel : ℕ) (sound : List ℕ) (part now : Part) →
    frames_of parts pixels ≡ frames → part ≡ get_or parts n part → IsPartAt n channel parts pixels frames part →
    now.size ≡ part.size → now.sound.items ≡ sound → frames_of (set parts n now) pixels ≡ with_sound channel sound frames
channel_sound parts pixels frames n channel sound part now is there here size heard =
    frames_set parts pixels n now part here.inside (size ∙ ap (λ (p : Part). p.size) there)
    ∙ (λ i. set (is i) (here.place i) (record (get_or (is i) (here.place i) no_frame) { sound = heard i }))
