use Rattle.std.proofs.Common.{◌≡◌}
use Rattle.toml.specs.View.{table_view}
use Rattle.config_file.specs.Section.{unknown_of}
use Rattle.config_file.proofs.Unknown.{first_unknown}
use Rattle.config_file.proofs.section.SectionReader.unknown_key.Given as goal

-- the least unknown key is the first unknown one among the keys that are left
abbrev pub invariant-loop-key : goal.invariant-loop-key
invariant-loop-key l = unknown_of l.self.section (table_view l.self.table.now) ≡ first_unknown l.self.section l.key-iterator
