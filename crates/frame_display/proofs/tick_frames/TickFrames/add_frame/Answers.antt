use Rattle.std.proofs.Common.{◌≡◌, ◌-◌, ◌*◌, ◌++◌, length, sym, ap, ap₂, ◌∙◌, subst}
use Rattle.std.specs.Prelude.{Bool, Some, if◌then◌else◌, slice_get}
use Rattle.std.specs.Option.{option_copied}
use Rattle.play_types.specs.declared.geometry.Geometry.{Geometry}
use Rattle.play_outside.specs.Gathered.{Adds}
use Rattle.play_outside.specs.Sink.{Sends}
use Rattle.play_outside.proofs.Gathering.{Adds-sent}
use Rattle.play_outside.proofs.Sending.{Fails-before}
use Rattle.history_model.specs.pictures.Media.{size}
use Rattle.history_model.specs.scripts.History.{setup_of}
use Rattle.history_model.specs.text.Frames.{digest_line, frame_lines}
use Rattle.play_scene.specs.Frames.{frame_at}
use Rattle.frame_display.specs.Frames.{one_text, playout_for}
use Rattle.frame_display.proofs.Rendering.{size_of_frame, size_there}
use Rattle.frame_display.proofs.tick_frames.TickFrames.add_frame.Goals as goal

pub write_hex-requires-clause-frame_size : goal.write_hex-requires-clause-frame_size
write_hex-requires-clause-frame_size g c =
    let frames = c.args.self.now in
    let channel = c.args.channel in
    let there : slice_get frames.setup.now.config.channels (channel - 1) ≡ Some c.unwrap.result.now =
    ap₂ slice_get (sym c.channels-channels.ensures.value) (sym c.channel_index.ensures) ∙ sym c.get.ensures ∙ ap option_copied c.unwrap.ensures in
    ap length c.frame-picture.ensures.value ∙ c.frame-picture.ensures.range.bytes
    ∙ ap (λ (s : Geometry). 4 * s.width * s.height) (size_of_frame frames channel c.unwrap.result.now c.requires.fits c.requires.channel.0 there ∙ sym c.geometry-size.ensures.value)

pub write_hex-requires-clause-sound_size : goal.write_hex-requires-clause-sound_size
write_hex-requires-clause-sound_size g c =
    let frames = c.args.self.now in
    let channel = c.args.channel in
    let there : slice_get frames.setup.now.config.channels (channel - 1) ≡ Some c.unwrap.result.now =
    ap₂ slice_get (sym c.channels-channels.ensures.value) (sym c.channel_index.ensures) ∙ sym c.get.ensures ∙ ap option_copied c.unwrap.ensures in
    ap length c.sound-sound.ensures.value ∙ c.sound-sound.ensures.range.sound
    ∙ ap (λ (s : Geometry). 4 * s.pairs) (size_of_frame frames channel c.unwrap.result.now c.requires.fits c.requires.channel.0 there ∙ sym c.geometry-size.ensures.value)

pub returns-in_err-finish : goal.returns-in_err-finish
returns-in_err-finish g c =
    rw c.from_residual.ensures (
      Fails-before c.args.lines.now (one_text c.args.self.now c.args.channel) _ _ (rw c.in_err-finish.ensures at c.finish.ensures.sends),
      c.finish.ensures.none_waits,
    )

pub returns : goal.returns
returns g c =
    let frames = c.args.self.now in
    let channel = c.args.channel in
    let there : slice_get frames.setup.now.config.channels (channel - 1) ≡ Some c.unwrap.result.now =
    ap₂ slice_get (sym c.channels-channels.ensures.value) (sym c.channel_index.ensures) ∙ sym c.get.ensures ∙ ap option_copied c.unwrap.ensures in
    let size_is = c.geometry-size.ensures.value ∙ sym (size_there frames channel c.unwrap.result.now c.requires.channel.0 there) in
    let picture_is = c.frame-picture.ensures.value in
    let sound_is = c.sound-sound.ensures.value in
    let picture = (frame_at channel frames.renderer.now).bytes in
    let sound = (frame_at channel frames.renderer.now).sound in
    let tick = frames.tick in
    let sends : Sends c.write_hex.result (one_text frames channel) (g.K.Sink.state c.finish.new.to) (g.K.Sink.state c.write_hex.new.to) =
    subst (λ text. Sends c.write_hex.result text (g.K.Sink.state c.finish.new.to) (g.K.Sink.state c.write_hex.new.to))
    ((λ i. frame_lines channel tick (size_is i) (picture_is i) (sound_is i))
    ∙ ap (λ (b : Bool). if b then digest_line channel tick picture sound else frame_lines channel tick (size (setup_of (playout_for frames)) channel) picture sound) (sym c.if-self.false))
    c.write_hex.ensures in
    subst (λ none. Adds c.write_hex.result (c.args.lines.now ++ one_text frames channel) none (g.K.Sink.state c.args.out.now) (g.K.Sink.state c.write_hex.new.to))
    (sym c.finish.ensures.none_waits)
    (Adds-sent c.write_hex.result c.args.lines.now (one_text frames channel) _ _ _ (rw c.in_ok-finish.ensures at c.finish.ensures.sends) sends)
