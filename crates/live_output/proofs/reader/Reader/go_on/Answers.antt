use Rattle.std.proofs.Common.{List, ℕ, take, drop, subst, refl, ap, ◌∙◌}
use Rattle.std.specs.Io.KnownBytes.{Appends}
use Rattle.std.proofs.lemmas.List.{take_rest}
use Rattle.live_output.proofs.Frames.{got_part}
use Rattle.live_output.proofs.reader.Reader.go_on.Goals as goal

pub returns-in-Ok-clause-got : goal.returns-in-Ok-clause-got
returns-in-Ok-clause-got g c =
    λ frames got. let bytes : List ℕ = c.as_slice.result.now in let at = c.args.self.now.at in
    got_part g.W.Write.contents frames c.in-Some.frame c.in-Ok.count c.args.self.now _ got c.in-Some.is
    (subst (λ (l : List ℕ). Appends (g.W.Write.contents c.args.self.now.to) (g.W.Write.contents c.write.new.self) (take c.in-Ok.count l))
    (take_rest bytes at ∙ ap (drop at) c.as_slice.ensures) c.in-Ok.ensures.bytes) refl refl refl refl refl refl
