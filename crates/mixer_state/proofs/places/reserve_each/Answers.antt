use Rattle.std.proofs.Common.{ℕ, ◌<◌, ◌≤◌, List, get_or, set, length, inl, inr, sym, ◌∙◌, subst, arith, length-set}
use Rattle.std.proofs.Math.Seq.{map-set_same}
use Rattle.std.proofs.lemmas.Bool.{cases_eq}
use Rattle.std.proofs.lemmas.List.{get_or-set_other, get_or-set_same}
use Rattle.mixer_state.specs.Found.{HaveRoom, LayersView}
use Rattle.mixer_state.proofs.Tables.{HaveRoom-at, HaveRoom-set, no_layers}
use Rattle.mixer_state.proofs.places.reserve_each.Goals as goal

pub returns-in_err-reserve-clause-entries : goal.returns-in_err-reserve-clause-entries
returns-in_err-reserve-clause-entries c =
    map-set_same (λ (layers : LayersView). layers.entries) c.loop-at.channels c.loop-at.at c.reserve.new.self c.index-channels-at.result
    c.reserve.ensures.same
    ∙ c.loop-at.invariant.entries

pub returns-in_err-reserve-clause-room : goal.returns-in_err-reserve-clause-room
returns-in_err-reserve-clause-room c spare room =
    let channels : List LayersView = c.loop-at.channels in
    let held : HaveRoom spare channels = c.loop-at.invariant.room spare room in
    let within : c.loop-at.at < length channels = omega arith in
    let had : spare ≤ (get_or channels c.loop-at.at c.index-channels-at.result).room =
    HaveRoom-at spare channels c.loop-at.at c.index-channels-at.result within held in
    let same : spare ≤ spare = omega arith in
    HaveRoom-set spare spare channels c.loop-at.at c.reserve.new.self same (omega (arith, had, c.reserve.ensures.room)) held

-- one channel more has room
pub loop-at-preserved : goal.loop-at-preserved
loop-at-preserved c =
    let channels : List LayersView = c.loop-at.channels in
    let at : ℕ = c.loop-at.at in
    let layers : LayersView = c.reserve.new.self in
    let within : at < length channels = omega arith in
    record {
      entries = map-set_same (λ (l : LayersView). l.entries) channels at layers c.index-channels-at.result
          c.reserve.ensures.same
          ∙ c.loop-at.invariant.entries;
      len = length-set channels at layers ∙ c.loop-at.invariant.len;
      done = λ k below.
          elim (cases_eq k at) [
            | inl e ↦
                subst (λ (n : ℕ). c.args.count ≤ (get_or (set channels at layers) n no_layers).room) (sym e)
                (subst (λ (l : LayersView). c.args.count ≤ l.room) (sym (get_or-set_same channels at layers no_layers within)) c.in_ok-reserve.ensures.ok)
            | inr n ↦
                subst (λ (l : LayersView). c.args.count ≤ l.room) (sym (get_or-set_other channels at k layers no_layers n))
                (c.loop-at.invariant.done k (omega (arith, below, n)))
          ];
      room = λ spare room.
          let held : HaveRoom spare channels = c.loop-at.invariant.room spare room in
          let had : spare ≤ (get_or channels at c.index-channels-at.result).room =
          HaveRoom-at spare channels at c.index-channels-at.result within held in
          let same : spare ≤ spare = omega arith in
          HaveRoom-set spare spare channels at layers same (omega (arith, had, c.reserve.ensures.room)) held;
    }
