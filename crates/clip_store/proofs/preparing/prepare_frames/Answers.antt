use Rattle.clip_format.specs.Preparing.{prepared_colour}
use Rattle.clip_store.proofs.Pixels.{byte_of_frame}
use Rattle.clip_store.proofs.preparing.prepare_frames.Goals as goal

pub returns : goal.returns
returns g c = record {
  len = c.par_chunks_mut_for_each.auto.s;
  each = λ k within.
      let h = (c.par_chunks_mut_for_each.ensures.by_index k 0 within).1 in
      byte_of_frame (prepared_colour c.args.version) c.args.picture c.args.frame h.start h.offset k c.args.bytes.now c.par_chunks_mut_for_each.new.s h.argument.now h.after_call.now
      c.requires.within c.requires.picture_of_pixels c.requires.frame_of_pixels c.requires.whole h.argument_is h.offset_in_chunk h.start_plus_offset h.call h.new_element;
}
