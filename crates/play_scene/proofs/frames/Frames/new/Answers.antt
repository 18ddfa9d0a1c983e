use Rattle.std.proofs.Common.{rules, ◌≡◌, ℕ, ◌+◌, [], ◌∷◌, ◌++◌, take, length, map, replicate, sym, subst, ap, ◌∙◌, arith}
use Rattle.std.proofs.lemmas.List.{length_push, map-append, take_all}
use Rattle.std.proofs.lemmas.Iterator.{YieldsList-from_slice}
use Rattle.std.proofs.lemmas.Iterator.Consumers.{YieldsList-turn, YieldsList-end}
use Rattle.play_scene.specs.Frames.{FrameView, picture_length, zero_frame}
use Rattle.play_scene.specs.Parts.{BeginAt, frames_of, parts_length, transparent}
use Rattle.play_scene.proofs.Parts.{begin_more, frames_zero, parts_length-more, zero_frames-turn, zero_parts}
use Rattle.play_scene.proofs.Rows.{picture_small}
use Rattle.play_scene.proofs.frames.Frames.new.Goals as goal

pub overflow_add-count : goal.overflow_add-count
overflow_add-count c =
    let turn = YieldsList-turn (YieldsList-from_slice c.args.config.now.channels cc) c.loop-channel.yielded _ c.loop-channel.yielded_by _ _ c.in-Some.channel c.in-Some.is c.next.ensures.steps in
    let few = c.channels-channels.ensures.range.parts.few_channels in
    let small = picture_small c.in_ok-part.part.size c.in_ok-part.part.sized in
    omega (arith, turn.0, few, small, c.picture_length.ensures, c.loop-channel.invariant.small)

pub loop-channel-preserved : goal.loop-channel-preserved
loop-channel-preserved c =
    let channels = c.args.config.now.channels in
    let yielded = c.loop-channel.yielded in
    let parts = c.loop-channel.parts.items in
    let part = c.in_ok-part.part in
    let channel = c.in-Some.channel.now in
    let turn = YieldsList-turn (YieldsList-from_slice channels cc) yielded _ c.loop-channel.yielded_by _ _ c.in-Some.channel c.in-Some.is c.next.ensures.steps in
    let pushed = c.in_ok-push.ensures.items in
    let made : transparent part ≡ zero_frame channel =
    λ i. record {
      size = c.in_ok-part.ensures.size i;
      bytes = replicate (picture_length (c.in_ok-part.ensures.size i)) 0;
      sound = c.in_ok-part.ensures.sound i;
    } in
    let small = picture_small part.size part.sized in
    let more = length_push yielded c.in-Some.channel in
    let counted : c.loop-channel.count + c.picture_length.result ≡ parts_length (parts ++ part ∷ []) =
    omega (arith, c.loop-channel.invariant.counted, c.picture_length.ensures, parts_length-more parts part) in
    record {
      frames = zero_frames-turn channels yielded c.in-Some.channel channel (map transparent parts) _ turn c.loop-channel.invariant.frames
          (ap (map transparent) pushed ∙ map-append transparent parts (part ∷ []) ∙ ap (λ (frame : FrameView). map transparent parts ++ frame ∷ []) made);
      starts = subst (BeginAt 0) (sym pushed)
          (begin_more 0 parts part (omega (arith, c.in_ok-part.ensures.start, c.loop-channel.invariant.counted)) c.loop-channel.invariant.starts);
      counted = counted ∙ ap parts_length (sym pushed);
      small = omega (arith, c.loop-channel.invariant.small, c.picture_length.ensures, small, more);
    }

pub invariant_of-result : goal.invariant_of-result
invariant_of-result c =
    let zeros : c.in_ok-vec.field-0.items ≡ replicate c.loop-channel.count 0 = search rules in
    zero_parts c.loop-channel.parts.items c.in_ok-vec.field-0.items c.loop-channel.count zeros c.loop-channel.invariant.counted c.loop-channel.invariant.starts

pub returns : goal.returns
returns c =
    let channels = c.args.config.now.channels in
    let parts = c.loop-channel.parts.items in
    let zeros : c.in_ok-vec.field-0.items ≡ replicate c.loop-channel.count 0 = search rules in
    let end = YieldsList-end (YieldsList-from_slice channels cc) c.loop-channel.yielded _ c.loop-channel.yielded_by _ _ c.in-None.is c.next.ensures.steps in
    let all : take (length c.loop-channel.yielded) channels ≡ channels = take_all _ channels (omega (arith, end.1)) in
    ap (frames_of parts) (zeros ∙ ap (λ (n : ℕ). replicate n 0) c.loop-channel.invariant.counted)
    ∙ frames_zero parts
    ∙ c.loop-channel.invariant.frames
    ∙ ap (map zero_frame) all
