use Rattle.std.proofs.Common.{◌≡◌, drop, ◌∙◌, sym, ap, subst}
use Rattle.std.proofs.lemmas.Result.{err_from_is_err_and}
use Rattle.play_types.specs.ClipFile.{ClipView}
use Rattle.clip_format.specs.Decoding.{clip_of}
use Rattle.clip_format.specs.Preparing.{AreBytes}
use Rattle.clip_format.proofs.Files.{clip_of-file}
use Rattle.clip_format.proofs.Prepared.{AreBytes-drop}
use Rattle.clip_format.proofs.decoding.decode.Goals as goal

pub returns-in_err-header-clause-each_file : goal.returns-in_err-header-clause-each_file
returns-in_err-header-clause-each_file c = λ clip file.
    let p = err_from_is_err_and c.from_residual.result c.from_residual.ensures.1 in
    rw (p.1, p.2)
    (sym c.in_err-header.ensures.fault ∙ ap clip_of c.as_slice.ensures.value ∙ clip_of-file c.args.bytes.items clip file)

pub returns-clause-of_bytes : goal.returns-clause-of_bytes
returns-clause-of_bytes c =
    let made = rw c.unwrap.ensures at c.new.ensures.value in
    let bytes : c.unwrap.result.bytes ≡ drop 20 c.args.bytes.items = ap (λ (clip : ClipView). clip.bytes) made ∙ c.new-frames.ensures ∙ c.after_header.ensures in
    subst AreBytes (sym bytes) (AreBytes-drop 20 c.args.bytes.items (subst AreBytes c.as_slice.ensures.value c.in_ok-header.ensures.of_bytes))
