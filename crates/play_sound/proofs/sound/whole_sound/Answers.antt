use Rattle.std.proofs.Common.{◌+◌, ◌*◌, length, sym, ap, subst, ◌∙◌}
use Rattle.play_types.specs.Scene.{IsConfigured, ShowsConfigured}
use Rattle.play_types.specs.declared.drawn.Still.{Still}
use Rattle.history_model.specs.pictures.Media.{sample_of_bytes}
use Rattle.history_model.specs.pictures.Sound.{still_sample}
use Rattle.play_sound.specs.Sounds.{sounds_of}
use Rattle.play_sound.proofs.Stills.{channel_sounds}
use Rattle.play_sound.proofs.sound.whole_sound.Goals as goal

pub returns-in-Channel-clause-samples : goal.returns-in-Channel-clause-samples
returns-in-Channel-clause-samples c = λ pair side small.
    let channel = c.in-Channel.channel in
    let frames = c.args.prev.now in
    let entries = c.args.media.now in
    let sounds = sounds_of frames entries in
    let configured : IsConfigured (length frames) channel = subst (ShowsConfigured (length frames)) c.in-Channel.is c.requires.names in
    ap (λ sound. sample_of_bytes sound (4 * pair + 2 * side)) c.sound.ensures.value
    ∙ channel_sounds frames entries channel configured.0 c.sound.ensures.range.sound pair side small
    ∙ sym (ap (λ (still : Still). still_sample sounds.setup sounds.samples pair side still) c.in-Channel.is)
