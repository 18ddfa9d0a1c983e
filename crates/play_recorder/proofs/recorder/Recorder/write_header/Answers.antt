use Rattle.std.proofs.Common.{◌≡◌, ◌-◌, sym, ap, ap₂, ◌∙◌, subst}
use Rattle.std.specs.Prelude.{Some, slice_get}
use Rattle.std.specs.Option.{option_copied}
use Rattle.play_types.specs.ClipFile.{header_bytes}
use Rattle.play_types.specs.declared.clip.TheConstants.{MULTIPLIED}
use Rattle.play_types.specs.declared.geometry.Geometry.{Geometry}
use Rattle.play_outside.specs.Sink.{Sends}
use Rattle.play_recorder.proofs.FrameReplays.{size_there}
use Rattle.play_recorder.proofs.recorder.Recorder.write_header.Goals as goal

pub returns : goal.returns
returns g c =
    let recorder = c.args.self.now in
    let film = recorder.film.now in
    let at = c.channel_index-at.ensures ∙ ap (λ span. span.channel - 1) c.film.view_is in
    let there : slice_get recorder.replay.config.now.channels (film.channel - 1) ≡ Some c.unwrap.result.now =
    ap₂ (λ list n. slice_get list n) (sym c.channels.ensures.value) (sym at) ∙ sym c.get.ensures ∙ ap option_copied c.unwrap.ensures in
    let size_is = c.geometry-size.ensures.value ∙ sym (size_there recorder.replay film.channel c.unwrap.result.now c.requires.0 there) in
    subst (λ text. Sends c.send_header.result text (g.K.Sink.state c.args.to.now) (g.K.Sink.state c.send_header.new.to))
    (ap₂ (λ (size : Geometry) frames. header_bytes MULTIPLIED size frames) size_is (ap (λ span. span.frames) c.film.view_is))
    c.send_header.ensures
