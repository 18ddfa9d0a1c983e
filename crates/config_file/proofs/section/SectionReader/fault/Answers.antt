use Rattle.std.proofs.Common.{◌≡◌, sym, ap, ◌∙◌}
use Rattle.config_file.specs.Section.{name_in}
use Rattle.config_file.proofs.section.SectionReader.fault.Goals as goal

pub returns-in-Ok : goal.returns-in-Ok
returns-in-Ok c =
    let name : c.as_str.result.now ≡ name_in c.args.self.now.section c.args.key.now =
    c.as_str.ensures.value ∙ c.in-Ok.ensures.ok ∙ ap (λ section. name_in section c.args.key.now) (sym c.in-Channel.is) in
    rw (← name) c.at-in-Ok.ensures
