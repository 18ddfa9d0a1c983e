use Rattle.std.proofs.Common.{◌-◌, ◌++◌, length, map, replicate, ap, ◌∙◌}
use Rattle.std.specs.Char.{to_ascii_uppercase}
use Rattle.std.proofs.lemmas.List.{map-append}
use Rattle.play_types.specs.declared.rec_name.TheConstants.{MAX_REC_NAME_BYTES}
use Rattle.play_types.proofs.RecNames.{zeros_stay}
use Rattle.play_types.proofs.rec_name.in_capitals.Goals as goal

pub returns : goal.returns
returns c =
    let word = c.args.word.now in
    let count = MAX_REC_NAME_BYTES - length word in
    rw (c.make_ascii_uppercase.ensures.after, c.padded-bytes.ensures)
    (map-append to_ascii_uppercase word (replicate count 0)
    ∙ ap (λ rest. map to_ascii_uppercase word ++ rest) (zeros_stay count))
