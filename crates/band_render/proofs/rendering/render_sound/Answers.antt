use Rattle.std.proofs.Common.{◌≡◌, ℕ, ◌*◌, List, length, take, sym, subst, ap, ◌∙◌, length-take-le, arith}
use Rattle.play_types.specs.Scene.{IsConfigured, scene_at}
use Rattle.play_types.specs.declared.geometry.Geometry.{Geometry}
use Rattle.play_scene.specs.Frames.{FrameView, IsFrame, frame_at, with_sound}
use Rattle.play_sound.specs.Sounds.{bytes_of_samples, mixed_sample}
use Rattle.band_render.proofs.Writing.{frame_with_sound, sound_written}
use Rattle.band_render.proofs.rendering.render_sound.Goals as goal

pub returns-clause-heard : goal.returns-clause-heard
returns-clause-heard c = λ sounds are.
    let channel = c.args.channel in
    let before = c.args.next.now in
    let after = c.put_sound.new.self in
    let tick = c.args.tick.now in
    let sound = c.mix_sound.new.out in
    let size = (frame_at channel before).size in
    let layers = scene_at channel tick.scenes.now in
    let range = c.size-size.ensures.range in
    let there : IsConfigured (length before) channel = (c.requires.channel.0, omega (arith, c.requires.channel.1, c.requires.next)) in
    let written : frame_at channel after ≡ record (frame_at channel before) { sound = sound } =
    sound_written channel sound before after there c.put_sound.ensures in
    let pairs : c.from.result ≡ size.pairs = c.from.ensures ∙ ap (λ (s : Geometry). s.pairs) c.size-size.ensures.value in
    let taken : length (take (4 * c.from.result) c.args.room.now) ≡ 4 * c.from.result =
    length-take-le (4 * c.from.result) c.args.room.now (omega (arith, pairs, range.size.sound, c.requires.room)) in
    let long : length sound ≡ length (frame_at channel before).sound =
    c.mix_sound.auto.out ∙ taken ∙ ap (λ (n : ℕ). 4 * n) pairs ∙ sym range.sound in
    record {
      whole = subst IsFrame (sym written) (frame_with_sound (frame_at channel before) sound range long);
      sound = ap (λ (frame : FrameView). frame.sound) written
          ∙ c.mix_sound.ensures sounds are
          ∙ (λ i. bytes_of_samples (c.size-size.ensures.value i).pairs (mixed_sample sounds (c.scene.ensures.value i)))
          ∙ sym (ap (λ (frame : FrameView). bytes_of_samples frame.size.pairs (mixed_sample sounds layers)) written);
    }

pub returns-clause-others : goal.returns-clause-others
returns-clause-others c =
    let channel = c.args.channel in
    let before = c.args.next.now in
    let there : IsConfigured (length before) channel = (c.requires.channel.0, omega (arith, c.requires.channel.1, c.requires.next)) in
    c.put_sound.ensures
    ∙ ap (λ (sound : List ℕ). with_sound channel sound before)
    (sym (ap (λ (frame : FrameView). frame.sound) (sound_written channel c.mix_sound.new.out before c.put_sound.new.self there c.put_sound.ensures)))
