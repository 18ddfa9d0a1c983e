use Rattle.std.proofs.Common.{◌∙◌, None, Some, sym, ap, codes}
use Rattle.std.specs.Str.{bytes_eq}
use Rattle.std.proofs.lemmas.Bool.Decides.{Decides-eqb}
use Rattle.std.proofs.lemmas.Slice.Eq.{strip_suffix_is}
use Rattle.play_server.proofs.IsLogOf.{with_ending, without_ending}
use Rattle.play_server.proofs.words.is_log_of.Goals as goal

pub returns-in-Some : goal.returns-in-Some
returns-in-Some c =
    let cut = strip_suffix_is Decides-eqb c.as_bytes.result.now (codes ".log") (Some c.in-Some.front) c.in-Some.ensures.cases in
    c.eq.ensures ∙ ap (bytes_eq c.in-Some.front.now) c.as_bytes-in-Some.ensures.value
    ∙ with_ending c.args.path.now c.in-Some.front.now c.args.journal.now (codes ".log") (sym c.as_bytes.ensures.value ∙ cut)

pub returns-in-None : goal.returns-in-None
returns-in-None c =
    let other = strip_suffix_is Decides-eqb c.as_bytes.result.now (codes ".log") None c.in-None.ensures.cases in
    without_ending c.args.path.now c.args.journal.now (codes ".log") (λ front is. other front (c.as_bytes.ensures.value ∙ is))
