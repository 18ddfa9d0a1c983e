use Rattle.std.proofs.Common.{◌≡◌, ℕ, ◌<◌, ◌≤◌, [], get_or, set, length, ap, ◌∙◌, arith, length-set}
use Rattle.std.proofs.lemmas.List.{ext_get_or, get_or_default}
use Rattle.std.proofs.lemmas.List.Edits.{fill_by_more}
use Rattle.history_model.specs.stage.Places.{Places}
use Rattle.stage_core.specs.LiveState.{Channels}
use Rattle.stage_core.proofs.channels.LivePlaces.copy_from.Goals as goal

-- one channel more is copied
pub loop-at-preserved : goal.loop-at-preserved
loop-at-preserved c =
    let at : ℕ = c.loop-at.at in
    let mine : Channels = c.loop-at.self-inside.channels.items in
    let theirs : Channels = c.args.other.now in
    let same_list : c.other.inside.channels.items ≡ theirs = c.other.view_is in
    let all : c.count-at-end.result ≡ length theirs = c.count-at-end.ensures in
    let within : at < length mine = omega (arith, all, c.loop-at-test.true, c.loop-at.invariant.count) in
    let copied : c.copy_from.new.self ≡ get_or theirs at [] =
    c.copy_from.ensures ∙ c.index.ensures ∙ ap (λ (xs : Channels). get_or xs at c.index.result.now) same_list
    ∙ get_or_default theirs at c.index.result.now [] (omega (arith, within, c.loop-at.invariant.count)) in
    record {
      same = λ k below.
          ap (λ (one : Places). get_or (set mine at one) k []) copied
          ∙ fill_by_more (λ n. get_or theirs n []) mine at [] within c.loop-at.invariant.same k below;
      count = length-set mine at c.copy_from.new.self ∙ c.loop-at.invariant.count;
    }

pub returns : goal.returns
returns c =
    let mine : Channels = c.loop-at.self-inside.channels.items in
    let count : c.count-at-end.result ≡ length c.args.other.now = c.count-at-end.ensures in
    let all : length mine ≤ c.loop-at.at = omega (arith, count, c.loop-at-test.false, c.loop-at.invariant.count) in
    ext_get_or [] mine c.args.other.now c.loop-at.invariant.count (λ k within. c.loop-at.invariant.same k (omega (arith, all, within)))
