use Rattle.std.proofs.Common.{◌≡◌, ℕ, ◌+◌, ◌-◌, ◌<◌, ◌≤◌, List, [], ◌++◌, get_or, set, length, map, filter_map, replicate, take, sym, ap, ap₂, ◌∙◌, arith, length-set}
use Rattle.std.proofs.lemmas.List.{get_or-map, length-map}
use Rattle.std.proofs.lemmas.List.Edits.{fill_by_more}
use Rattle.play_types.specs.Answer.{status_list_of}
use Rattle.play_types.specs.declared.place.TheConstants.{MAX_CHANNELS}
use Rattle.play_types.specs.declared.answer.Status.{Status}
use Rattle.play_types.specs.declared.answer.Status.TheVariants.{Empty}
use Rattle.history_model.specs.stage.Answer.{status_of}
use Rattle.history_model.specs.stage.Places.{Places}
use Rattle.history_model.specs.stage.StageHistory.{foreground_of}
use Rattle.stage_core.specs.LiveState.{Channels}
use Rattle.stage_core.proofs.Statuses.{some_is, take-same}
use Rattle.stage_core.proofs.status.statuses.Goals as goal

-- one channel more has its status
pub loop-at-preserved : goal.loop-at-preserved
loop-at-preserved c =
    let one : Places → Status = λ ps. status_of (filter_map foreground_of ps) in
    let xs : Channels = c.args.places.now in
    let at : ℕ = c.loop-at.at in
    let same : c.from.result ≡ at = c.from.ensures in
    let count : c.count-count.result ≡ length xs = c.count-count.ensures in
    let within : at < length xs = omega (arith, count, c.loop-at-test.true) in
    let room : at < length c.loop-at.channels = omega (arith, within, c.loop-at.invariant.count, c.requires) in
    let here : (at + 1) - 1 ≡ at = omega arith in
    let told : c.status.result ≡ get_or (map one xs) at Empty =
    c.status.ensures ∙ ap one (c.channel.ensures ∙ ap (λ (k : ℕ). get_or xs k []) here) ∙ sym (get_or-map one xs at [] Empty within) in
    record {
      same = λ k below.
          ap₂ (λ (n : ℕ) (status : Status). get_or (set c.loop-at.channels n status) k Empty) same told
          ∙ fill_by_more (λ n. get_or (map one xs) n Empty) c.loop-at.channels at Empty room c.loop-at.invariant.same k below;
      count = length-set c.loop-at.channels c.from.result c.status.result ∙ c.loop-at.invariant.count;
    }

pub returns : goal.returns
returns c =
    let one : Places → Status = λ ps. status_of (filter_map foreground_of ps) in
    let xs : Channels = c.args.places.now in
    let count : c.count-count.result ≡ length xs = c.count-count.ensures in
    let all : length xs ≤ c.loop-at.at = omega (arith, count, c.loop-at-test.false) in
    let listed : take (length xs) c.loop-at.channels ≡ take (length xs) (map one xs) =
    take-same (length xs) c.loop-at.channels (map one xs) (omega (arith, c.loop-at.invariant.count, c.requires)) (omega (arith, length-map xs one))
    (λ k below. c.loop-at.invariant.same k (omega (arith, below, all))) in
    some_is c.new.result c.unwrap.result (status_list_of c.loop-at.channels c.count-count.result) c.unwrap.ensures c.new.ensures.value
    ∙ ap (status_list_of c.loop-at.channels) count
    ∙ ap (λ (statuses : List Status). record { channels = statuses ++ replicate (MAX_CHANNELS - length xs) Empty; count = length xs }) listed
