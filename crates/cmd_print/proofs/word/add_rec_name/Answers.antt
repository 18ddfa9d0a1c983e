use Rattle.std.proofs.Common.{◌≡◌, true}
use Rattle.play_types.specs.RecNames.{is_rec_word}
use Rattle.play_types.proofs.RecNames.{is_rec_word-name}
use Rattle.cmd_print.specs.inner.Bytes.{spaced}
use Rattle.cmd_print.proofs.word.add_rec_name.Goals as goal

pub returns : goal.returns
unfolding spaced
returns g c =
    let is : is_rec_word c.args.name ≡ true = is_rec_word-name c.args.name c.as_bytes.ensures.reads_back in
    rw is (rw c.as_bytes.ensures.value at c.add_parts.ensures)
