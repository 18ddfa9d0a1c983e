use Rattle.std.proofs.Common.{◌≡◌, ℕ, List, ◌∷◌, [], ◌++◌, append_assoc, refl, sym, ◌∙◌, subst}
use Rattle.std.specs.Prelude.{None, Some}
use Rattle.history_model.specs.commands.Channels.{AreAimed}
use Rattle.history_model.specs.scripts.History.{stream_of}
use Rattle.play_session.specs.Session.{Represents, Gives, after_bytes}
use Rattle.play_session.specs.Step.{ends}
use Rattle.script_player.specs.Clients.{IsServed, progress_of, session_batch}
use Rattle.script_player.proofs.Connections.{kept_aimed}
use Rattle.script_player.proofs.Speaking.{passed_over, spoken}
use Rattle.script_player.proofs.client_lines.take_client_line.Goals as goal

pub returns-in_default-clause-takes : goal.returns-in_default-clause-takes
returns-in_default-clause-takes c = λ playout played no_memory same_config same_names none serves.
    let over : c.args.client.now.session ≡ None = sym c.take.ensures.value ∙ c.in_default.is in
    passed_over (record { playout = playout; played = played; tag = c.args.client.now.tag; text = c.args.text.now; no_memory = no_memory }) c.args.client.now _ refl refl none serves over c.take.ensures.after

pub returns-clause-takes : goal.returns-clause-takes
returns-clause-takes c = λ playout played no_memory same_config same_names none serves.
    let old = c.args.client.now in
    let text = c.args.text.now in
    let stream = stream_of old.tag played in
    let progress = progress_of old.tag played in
    let has : old.session ≡ Some c.in-Some.session = sym c.take.ensures.value ∙ c.in-Some.is in
    let served = subst (λ s. IsServed playout old.tag s played) has serves.served in
    let found = c.take_line-step.result in
    let new = c.take_line-step.new.self in
    let represents =
    subst (λ m. Represents c.args.config.now m c.in-Some.session progress) (sym same_names)
    (subst (λ k. Represents k playout.names c.in-Some.session progress) (sym same_config) served.0) in
    let gives =
    subst (λ (s : List ℕ). Gives playout.config playout.names found new (record progress { stream = s })) (sym (append_assoc stream text (13 ∷ 10 ∷ [])))
    (subst (λ m. Gives playout.config m found new (after_bytes progress (text ++ 13 ∷ 10 ∷ []))) same_names
    (subst (λ k. Gives k c.args.media.now found new (after_bytes progress (text ++ 13 ∷ 10 ∷ []))) same_config
    (c.take_line-step.ensures.gives served.1 none progress represents))) in
    spoken (record { playout = playout; played = played; tag = old.tag; text = text; no_memory = no_memory }) old _ found new serves none gives
    c.take_line-step.ensures.between c.take_line-step.ensures.ended refl refl c.kept.ensures

pub returns-clause-aimed : goal.returns-clause-aimed
returns-clause-aimed c = λ aimed.
    let has : c.args.client.now.session ≡ Some c.in-Some.session = sym c.take.ensures.value ∙ c.in-Some.is in
    subst (λ s. AreAimed c.args.config.now (session_batch s)) (sym c.kept.ensures)
    (kept_aimed c.args.config.now (ends c.take_line-step.result) c.take_line-step.new.self
    (c.take_line-step.ensures.aimed (subst (λ s. AreAimed c.args.config.now (session_batch s)) has aimed)))
