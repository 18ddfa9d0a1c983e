use Rattle.std.proofs.Common.{◌∙◌, ap, sym, Some, rules}
use Rattle.play_outside.proofs.Finding.{names_in-files_of}
use Rattle.play_outside.proofs.memory.media.MemMediaMediaDir.names.Goals as goal

pub returns : goal.returns
returns c = (
  names_in-files_of c.args.folder.now c.args.self.now.configs.items c.args.self.now.files.items
      ∙ rw (← c.as_slice.ensures.value) (ap Some (sym c.in_ok-names_of.ensures)),
  search rules,
)
