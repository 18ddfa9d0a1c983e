use Rattle.std.proofs.Common.{rules, ap₂, ◌≡◌, ◌∙◌, refl, arith, subst, List, [], ◌∷◌, ℕ, ◌<◌, codes, is_some, true, false, zero, suc}
use Rattle.std.specs.List.{All}
use Rattle.std.specs.Prelude.{slice_index_or}
use Rattle.std.proofs.lemmas.Result.{IfOk-weaker}
use Rattle.clap.specs.Words.{app_of, with_rule, first_value, found_of}
use Rattle.clap.specs.Built.{AddsArg, FitsChain, HasDistinctIds, IsParsedFrom, TakesValue}
use Rattle.clap.specs.Facts.{args_of, groups_of}
use Rattle.clap.specs.declared.builder.arg.Arg.{Arg}
use Rattle.clap.specs.declared.builder.command.Command.{Command}
use Rattle.clap.specs.declared.builder.command.Command.TheViews.{out-Command}
use Rattle.clap.specs.declared.parser.matches.ArgMatches.{ArgMatches}
use Rattle.clap.proofs.CallerLemmas.{required_in_chain}
use Rattle.play_viewer.specs.ViewerWords.{bare_app, config_rule, listen_rule, log_rule, no_pictures_rule, workers_rule}
use Rattle.play_viewer.proofs.words.viewer_command.Goals as goal

-- the arguments fit a chain, and have the ids of `playview`
record AreChained (a b d e f g : Arg) : Type 0 where
  fits_a : FitsChain a
  fits_b : FitsChain b
  fits_d : FitsChain d
  fits_e : FitsChain e
  fits_f : FitsChain f
  fits_g : FitsChain g
  id_a : a.id.now ≡ codes "config"
  id_b : b.id.now ≡ codes "log"
  id_d : d.id.now ≡ codes "listen"
  id_e : e.id.now ≡ codes "workers"
  id_f : f.id.now ≡ codes "no-pictures"
  id_g : g.id.now ≡ codes "osc"

module _ (a b d e f g : Arg) (are : AreChained a b d e f g) where
  -- they fit a chain
  all_fit : All FitsChain (a ∷ b ∷ d ∷ e ∷ f ∷ g ∷ [])
  all_fit zero x lt = are.fits_a
  all_fit (suc zero) x lt = are.fits_b
  all_fit (suc (suc zero)) x lt = are.fits_d
  all_fit (suc (suc (suc zero))) x lt = are.fits_e
  all_fit (suc (suc (suc (suc zero)))) x lt = are.fits_f
  all_fit (suc (suc (suc (suc (suc zero))))) x lt = are.fits_g
  all_fit (suc (suc (suc (suc (suc (suc k)))))) x lt = absurd (omega arith)

  -- they have distinct ids
  ids_differ : HasDistinctIds (a ∷ b ∷ d ∷ e ∷ f ∷ g ∷ [])
  ids_differ zero zero x y lj lk same = refl
  ids_differ (suc zero) (suc zero) x y lj lk same = refl
  ids_differ (suc (suc zero)) (suc (suc zero)) x y lj lk same = refl
  ids_differ (suc (suc (suc zero))) (suc (suc (suc zero))) x y lj lk same = refl
  ids_differ (suc (suc (suc (suc zero)))) (suc (suc (suc (suc zero)))) x y lj lk same = refl
  ids_differ (suc (suc (suc (suc (suc zero))))) (suc (suc (suc (suc (suc zero))))) x y lj lk same = refl
  ids_differ zero (suc zero) x y lj lk same =
      let bad = rw (are.id_a, are.id_b) at same in
      cc
  ids_differ zero (suc (suc zero)) x y lj lk same =
      let bad = rw (are.id_a, are.id_d) at same in
      cc
  ids_differ zero (suc (suc (suc zero))) x y lj lk same =
      let bad = rw (are.id_a, are.id_e) at same in
      cc
  ids_differ zero (suc (suc (suc (suc zero)))) x y lj lk same =
      let bad = rw (are.id_a, are.id_f) at same in
      cc
  ids_differ zero (suc (suc (suc (suc (suc zero))))) x y lj lk same =
      let bad = rw (are.id_a, are.id_g) at same in
      cc
  ids_differ (suc zero) zero x y lj lk same =
      let bad = rw (are.id_b, are.id_a) at same in
      cc
  ids_differ (suc zero) (suc (suc zero)) x y lj lk same =
      let bad = rw (are.id_b, are.id_d) at same in
      cc
  ids_differ (suc zero) (suc (suc (suc zero))) x y lj lk same =
      let bad = rw (are.id_b, are.id_e) at same in
      cc
  ids_differ (suc zero) (suc (suc (suc (suc zero)))) x y lj lk same =
      let bad = rw (are.id_b, are.id_f) at same in
      cc
  ids_differ (suc zero) (suc (suc (suc (suc (suc zero))))) x y lj lk same =
      let bad = rw (are.id_b, are.id_g) at same in
      cc
  ids_differ (suc (suc zero)) zero x y lj lk same =
      let bad = rw (are.id_d, are.id_a) at same in
      cc
  ids_differ (suc (suc zero)) (suc zero) x y lj lk same =
      let bad = rw (are.id_d, are.id_b) at same in
      cc
  ids_differ (suc (suc zero)) (suc (suc (suc zero))) x y lj lk same =
      let bad = rw (are.id_d, are.id_e) at same in
      cc
  ids_differ (suc (suc zero)) (suc (suc (suc (suc zero)))) x y lj lk same =
      let bad = rw (are.id_d, are.id_f) at same in
      cc
  ids_differ (suc (suc zero)) (suc (suc (suc (suc (suc zero))))) x y lj lk same =
      let bad = rw (are.id_d, are.id_g) at same in
      cc
  ids_differ (suc (suc (suc zero))) zero x y lj lk same =
      let bad = rw (are.id_e, are.id_a) at same in
      cc
  ids_differ (suc (suc (suc zero))) (suc zero) x y lj lk same =
      let bad = rw (are.id_e, are.id_b) at same in
      cc
  ids_differ (suc (suc (suc zero))) (suc (suc zero)) x y lj lk same =
      let bad = rw (are.id_e, are.id_d) at same in
      cc
  ids_differ (suc (suc (suc zero))) (suc (suc (suc (suc zero)))) x y lj lk same =
      let bad = rw (are.id_e, are.id_f) at same in
      cc
  ids_differ (suc (suc (suc zero))) (suc (suc (suc (suc (suc zero))))) x y lj lk same =
      let bad = rw (are.id_e, are.id_g) at same in
      cc
  ids_differ (suc (suc (suc (suc zero)))) zero x y lj lk same =
      let bad = rw (are.id_f, are.id_a) at same in
      cc
  ids_differ (suc (suc (suc (suc zero)))) (suc zero) x y lj lk same =
      let bad = rw (are.id_f, are.id_b) at same in
      cc
  ids_differ (suc (suc (suc (suc zero)))) (suc (suc zero)) x y lj lk same =
      let bad = rw (are.id_f, are.id_d) at same in
      cc
  ids_differ (suc (suc (suc (suc zero)))) (suc (suc (suc zero))) x y lj lk same =
      let bad = rw (are.id_f, are.id_e) at same in
      cc
  ids_differ (suc (suc (suc (suc zero)))) (suc (suc (suc (suc (suc zero))))) x y lj lk same =
      let bad = rw (are.id_f, are.id_g) at same in
      cc
  ids_differ (suc (suc (suc (suc (suc zero))))) zero x y lj lk same =
      let bad = rw (are.id_g, are.id_a) at same in
      cc
  ids_differ (suc (suc (suc (suc (suc zero))))) (suc zero) x y lj lk same =
      let bad = rw (are.id_g, are.id_b) at same in
      cc
  ids_differ (suc (suc (suc (suc (suc zero))))) (suc (suc zero)) x y lj lk same =
      let bad = rw (are.id_g, are.id_d) at same in
      cc
  ids_differ (suc (suc (suc (suc (suc zero))))) (suc (suc (suc zero))) x y lj lk same =
      let bad = rw (are.id_g, are.id_e) at same in
      cc
  ids_differ (suc (suc (suc (suc (suc zero))))) (suc (suc (suc (suc zero)))) x y lj lk same =
      let bad = rw (are.id_g, are.id_f) at same in
      cc
  ids_differ (suc (suc (suc (suc (suc (suc j)))))) k x y lj lk same = absurd (omega arith)
  ids_differ j (suc (suc (suc (suc (suc (suc k)))))) x y lj lk same = absurd (omega arith)

  -- a parse of a command with these arguments gives a required one its value
  given_at : (bare one two three four five all : Command) (m : ArgMatches) (k : ℕ) → AddsArg bare a one → AddsArg one b two → AddsArg two d three → AddsArg three e four → AddsArg four f five → AddsArg five g all
      → args_of bare ≡ [] → groups_of bare ≡ [] → (out-Command bare).has_globals ≡ false → (out-Command bare).subcommand_negates_reqs ≡ false
      → k < 6 → TakesValue (slice_index_or (a ∷ b ∷ d ∷ e ∷ f ∷ g ∷ []) k a) → IsParsedFrom all m
      → is_some (first_value (found_of m) (slice_index_or (a ∷ b ∷ d ∷ e ∷ f ∷ g ∷ []) k a).id.now) ≡ true
  given_at bare one two three four five all m k x1 x2 x3 x4 x5 x6 args groups globals negates lt takes p =
      required_in_chain bare all (a ∷ b ∷ d ∷ e ∷ f ∷ g ∷ []) k a m (one, x1, (two, x2, (three, x3, (four, x4, (five, x5, (all, x6, refl)))))) args groups globals negates all_fit ids_differ lt takes p

pub returns : goal.returns
returns c =
    let bare = c.disable_version_flag-bare.result in
    let bare_is : app_of bare ≡ bare_app = search rules in
    let config = c.config_arg-config in
    let log = c.log_arg-log in
    let listen = c.listen_arg-listen in
    let workers = c.workers_arg-workers in
    let no_pictures = c.no_pictures_arg-no_pictures in
    let osc = c.osc_arg-osc in
    let one_is : app_of c.in_ok-one.one ≡ with_rule bare_app config_rule =
    c.in_ok-one.ensures.shape config.ensures.fits.1 ∙ ap₂ with_rule bare_is config.ensures.rule in
    let two_is : app_of c.in_ok-two.two ≡ with_rule (with_rule bare_app config_rule) log_rule =
    c.in_ok-two.ensures.shape log.ensures.fits.1 ∙ ap₂ with_rule one_is log.ensures.rule in
    let three_is : app_of c.in_ok-three.three ≡ with_rule (with_rule (with_rule bare_app config_rule) log_rule) listen_rule =
    c.in_ok-three.ensures.shape listen.ensures.fits.1 ∙ ap₂ with_rule two_is listen.ensures.rule in
    let four_is : app_of c.in_ok-four.four ≡ with_rule (with_rule (with_rule (with_rule bare_app config_rule) log_rule) listen_rule) workers_rule =
    c.in_ok-four.ensures.shape workers.ensures.fits.1 ∙ ap₂ with_rule three_is workers.ensures.rule in
    let five_is : app_of c.in_ok-five.five ≡ with_rule (with_rule (with_rule (with_rule (with_rule bare_app config_rule) log_rule) listen_rule) workers_rule) no_pictures_rule =
    c.in_ok-five.ensures.shape no_pictures.ensures.fits.1 ∙ ap₂ with_rule four_is no_pictures.ensures.rule in
    let args : args_of bare ≡ [] = search rules in
    let groups : groups_of bare ≡ [] = search rules in
    let globals : (out-Command bare).has_globals ≡ false = search rules in
    let negates : (out-Command bare).subcommand_negates_reqs ≡ false = search rules in
    let are : AreChained config.result log.result listen.result workers.result no_pictures.result osc.result = record {
      fits_a = config.ensures.fits;
      fits_b = log.ensures.fits;
      fits_d = listen.ensures.fits;
      fits_e = workers.ensures.fits;
      fits_f = no_pictures.ensures.fits;
      fits_g = osc.ensures.fits;
      id_a = config.ensures.id;
      id_b = log.ensures.id;
      id_d = listen.ensures.id;
      id_e = workers.ensures.id;
      id_f = no_pictures.ensures.id;
      id_g = osc.ensures.id;
    } in
    IfOk-weaker c.arg-6.result _ _ (λ all h. record {
      shape = h.shape osc.ensures.fits.1 ∙ ap₂ with_rule five_is osc.ensures.rule;
      given = λ m p. record {
        config = subst (λ (id : List ℕ). is_some (first_value (found_of m) id) ≡ true) config.ensures.id
            (given_at config.result log.result listen.result workers.result no_pictures.result osc.result are bare c.in_ok-one.one c.in_ok-two.two c.in_ok-three.three c.in_ok-four.four c.in_ok-five.five all m 0 c.in_ok-one.ensures c.in_ok-two.ensures c.in_ok-three.ensures c.in_ok-four.ensures c.in_ok-five.ensures h args groups globals negates (omega arith) config.ensures.value p);
        log = subst (λ (id : List ℕ). is_some (first_value (found_of m) id) ≡ true) log.ensures.id
            (given_at config.result log.result listen.result workers.result no_pictures.result osc.result are bare c.in_ok-one.one c.in_ok-two.two c.in_ok-three.three c.in_ok-four.four c.in_ok-five.five all m 1 c.in_ok-one.ensures c.in_ok-two.ensures c.in_ok-three.ensures c.in_ok-four.ensures c.in_ok-five.ensures h args groups globals negates (omega arith) log.ensures.value p);
      };
    }) c.arg-6.ensures
