use Rattle.std.proofs.Common.{◌∙◌, ap, sym, Some, rules}
use Rattle.play_outside.proofs.Finding.{config_at-files_of}
use Rattle.play_outside.proofs.memory.media.MemMediaMediaDir.config.Goals as goal

pub returns-in_ok-from_slice-in-Some : goal.returns-in_ok-from_slice-in-Some
returns-in_ok-from_slice-in-Some c = (
  config_at-files_of c.args.path.now c.args.self.now.configs.items c.args.self.now.files.items
      ∙ rw (← c.as_slice.ensures.value, ← c.in-Some.ensures) (ap Some (sym (c.in_ok-from_slice-in-Some.ensures.items ∙ c.as_slice-in-Some.ensures.value))),
  search rules,
)
