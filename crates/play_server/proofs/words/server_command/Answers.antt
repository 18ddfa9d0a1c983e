use Rattle.std.proofs.Common.{rules, ap₂, ◌≡◌, ◌∙◌, refl, arith, subst, List, [], ◌∷◌, ℕ, codes, is_some, true, false, zero, suc}
use Rattle.std.specs.List.{All}
use Rattle.std.proofs.lemmas.Result.{IfOk-weaker}
use Rattle.clap.specs.Words.{app_of, with_rule, first_value, found_of}
use Rattle.clap.specs.Built.{AddsArg, FitsChain, HasDistinctIds, IsParsedFrom, TakesValue}
use Rattle.clap.specs.Facts.{args_of, groups_of}
use Rattle.clap.specs.declared.builder.arg.Arg.{Arg}
use Rattle.clap.specs.declared.builder.command.Command.{Command}
use Rattle.clap.specs.declared.builder.command.Command.TheViews.{out-Command}
use Rattle.clap.specs.declared.parser.matches.ArgMatches.{ArgMatches}
use Rattle.clap.proofs.CallerLemmas.{required_in_chain}
use Rattle.play_server.specs.ServerWords.{bare_app, config_rule, journal_rule, workers_rule}
use Rattle.play_server.proofs.words.server_command.Goals as goal

-- four arguments that fit a chain
all_fit : (a b d f : Arg) → FitsChain a → FitsChain b → FitsChain d → FitsChain f → All FitsChain (a ∷ b ∷ d ∷ f ∷ [])
all_fit a b d f fa fb fd ff zero e lt = fa
all_fit a b d f fa fb fd ff (suc zero) e lt = fb
all_fit a b d f fa fb fd ff (suc (suc zero)) e lt = fd
all_fit a b d f fa fb fd ff (suc (suc (suc zero))) e lt = ff
all_fit a b d f fa fb fd ff (suc (suc (suc (suc k)))) e lt = absurd (omega arith)

-- the arguments of `playd` have distinct ids
ids_differ : (a b d f : Arg) → a.id.now ≡ codes "config" → b.id.now ≡ codes "workers" → d.id.now ≡ codes "journal" → f.id.now ≡ codes "resume"
    → HasDistinctIds (a ∷ b ∷ d ∷ f ∷ [])
ids_differ a b d f ea eb ed ef zero zero e g lj lk same = refl
ids_differ a b d f ea eb ed ef (suc zero) (suc zero) e g lj lk same = refl
ids_differ a b d f ea eb ed ef (suc (suc zero)) (suc (suc zero)) e g lj lk same = refl
ids_differ a b d f ea eb ed ef (suc (suc (suc zero))) (suc (suc (suc zero))) e g lj lk same = refl
ids_differ a b d f ea eb ed ef zero (suc zero) e g lj lk same =
    let bad = rw (ea, eb) at same in
    cc
ids_differ a b d f ea eb ed ef zero (suc (suc zero)) e g lj lk same =
    let bad = rw (ea, ed) at same in
    cc
ids_differ a b d f ea eb ed ef zero (suc (suc (suc zero))) e g lj lk same =
    let bad = rw (ea, ef) at same in
    cc
ids_differ a b d f ea eb ed ef (suc zero) zero e g lj lk same =
    let bad = rw (eb, ea) at same in
    cc
ids_differ a b d f ea eb ed ef (suc zero) (suc (suc zero)) e g lj lk same =
    let bad = rw (eb, ed) at same in
    cc
ids_differ a b d f ea eb ed ef (suc zero) (suc (suc (suc zero))) e g lj lk same =
    let bad = rw (eb, ef) at same in
    cc
ids_differ a b d f ea eb ed ef (suc (suc zero)) zero e g lj lk same =
    let bad = rw (ed, ea) at same in
    cc
ids_differ a b d f ea eb ed ef (suc (suc zero)) (suc zero) e g lj lk same =
    let bad = rw (ed, eb) at same in
    cc
ids_differ a b d f ea eb ed ef (suc (suc zero)) (suc (suc (suc zero))) e g lj lk same =
    let bad = rw (ed, ef) at same in
    cc
ids_differ a b d f ea eb ed ef (suc (suc (suc zero))) zero e g lj lk same =
    let bad = rw (ef, ea) at same in
    cc
ids_differ a b d f ea eb ed ef (suc (suc (suc zero))) (suc zero) e g lj lk same =
    let bad = rw (ef, eb) at same in
    cc
ids_differ a b d f ea eb ed ef (suc (suc (suc zero))) (suc (suc zero)) e g lj lk same =
    let bad = rw (ef, ed) at same in
    cc
ids_differ a b d f ea eb ed ef (suc (suc (suc (suc j)))) k e g lj lk same = absurd (omega arith)
ids_differ a b d f ea eb ed ef j (suc (suc (suc (suc k)))) e g lj lk same = absurd (omega arith)

-- the arguments fit a chain, and have the ids of `playd`
record AreChained (a b d f : Arg) : Type 0 where
  fits_a : FitsChain a
  fits_b : FitsChain b
  fits_d : FitsChain d
  fits_f : FitsChain f
  id_a : a.id.now ≡ codes "config"
  id_b : b.id.now ≡ codes "workers"
  id_d : d.id.now ≡ codes "journal"
  id_f : f.id.now ≡ codes "resume"

-- a parse of a command with these four arguments gives the first one its value
first_given : (bare one two three all : Command) (a b d f : Arg) (m : ArgMatches) → AddsArg bare a one → AddsArg one b two → AddsArg two d three → AddsArg three f all
    → args_of bare ≡ [] → groups_of bare ≡ [] → (out-Command bare).has_globals ≡ false → (out-Command bare).subcommand_negates_reqs ≡ false
    → AreChained a b d f → TakesValue a → IsParsedFrom all m → is_some (first_value (found_of m) (codes "config")) ≡ true
first_given bare one two three all a b d f m x y z w args groups globals negates are takes p =
    let has : is_some (first_value (found_of m) a.id.now) ≡ true =
    required_in_chain bare all (a ∷ b ∷ d ∷ f ∷ []) 0 a m (one, x, (two, y, (three, z, (all, w, refl)))) args groups globals negates
    (all_fit a b d f are.fits_a are.fits_b are.fits_d are.fits_f) (ids_differ a b d f are.id_a are.id_b are.id_d are.id_f) (omega arith) takes p in
    subst (λ (id : List ℕ). is_some (first_value (found_of m) id) ≡ true) are.id_a has

pub returns : goal.returns
returns c =
    let bare = c.disable_version_flag-bare.result in
    let bare_is : app_of bare ≡ bare_app = search rules in
    let config = c.config_arg-config in
    let workers = c.workers_arg-workers in
    let journal = c.journal_arg-journal in
    let resume = c.resume_arg-resume in
    let one_is : app_of c.in_ok-one.one ≡ with_rule bare_app config_rule =
    c.in_ok-one.ensures.shape config.ensures.fits.1 ∙ ap₂ with_rule bare_is config.ensures.rule in
    let two_is : app_of c.in_ok-two.two ≡ with_rule (with_rule bare_app config_rule) workers_rule =
    c.in_ok-two.ensures.shape workers.ensures.fits.1 ∙ ap₂ with_rule one_is workers.ensures.rule in
    let three_is : app_of c.in_ok-three.three ≡ with_rule (with_rule (with_rule bare_app config_rule) workers_rule) journal_rule =
    c.in_ok-three.ensures.shape journal.ensures.fits.1 ∙ ap₂ with_rule two_is journal.ensures.rule in
    let args : args_of bare ≡ [] = search rules in
    let groups : groups_of bare ≡ [] = search rules in
    let globals : (out-Command bare).has_globals ≡ false = search rules in
    let negates : (out-Command bare).subcommand_negates_reqs ≡ false = search rules in
    let are : AreChained config.result workers.result journal.result resume.result = record {
      fits_a = config.ensures.fits;
      fits_b = workers.ensures.fits;
      fits_d = journal.ensures.fits;
      fits_f = resume.ensures.fits;
      id_a = config.ensures.id;
      id_b = workers.ensures.id;
      id_d = journal.ensures.id;
      id_f = resume.ensures.id;
    } in
    IfOk-weaker c.arg-4.result _ _ (λ all h. record {
      shape = h.shape resume.ensures.fits.1 ∙ ap₂ with_rule three_is resume.ensures.rule;
      config_given = λ m p. first_given bare c.in_ok-one.one c.in_ok-two.two c.in_ok-three.three all config.result workers.result journal.result resume.result m
          c.in_ok-one.ensures c.in_ok-two.ensures c.in_ok-three.ensures h args groups globals negates are config.ensures.value p;
    }) c.arg-4.ensures
