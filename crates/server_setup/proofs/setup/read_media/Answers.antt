use Rattle.std.proofs.Common.{refl, ◌∙◌, subst, List, ℕ, Ok, Err}
use Rattle.amcp_text.proofs.TextLaws.{bytes_of_chars}
use Rattle.clip_store.specs.Scan.{Answers, scanned}
use Rattle.server_setup.proofs.Setups.{handed_on}
use Rattle.server_setup.proofs.setup.read_media.Goals as goal

pub returns-in_err-media : goal.returns-in_err-media
returns-in_err-media g c =
    let before = g.M.MediaDir.state c.args.folder.now in
    let after = g.M.MediaDir.state c.scan.new.media in
    let folder = bytes_of_chars _ _ c.as_str.utf8 (c.as_str.ensures ∙ c.media.ensures.value) in
    let scans = subst (λ (f : List ℕ). Answers (scanned f) (Err c.in_err-media.field-0.0) before after) folder c.in_err-media.ensures in
    handed_on c.args.config c.in_err-media.field-0.0 c.from_residual.result before after scans c.from_residual.ensures.1

pub returns : goal.returns
returns g c =
    let before = g.M.MediaDir.state c.args.folder.now in
    let after = g.M.MediaDir.state c.scan.new.media in
    let folder = bytes_of_chars _ _ c.as_str.utf8 (c.as_str.ensures ∙ c.media.ensures.value) in
    let scans = subst (λ (f : List ℕ). Answers (scanned f) (Ok c.in_ok-media.media) before after) folder c.in_ok-media.ensures in
    (refl, scans, c.in_ok-names.ensures)
