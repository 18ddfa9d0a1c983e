-- How a door goes on.
use Rattle.std.proofs.Common.{◌≡◌, ◌≤◌, List, [], ◌∷◌, ◌++◌, refl, sym, ap, subst, arith, append-nil}
use Rattle.std.specs.Prelude.{Option, Some, None, option_map}
use Rattle.play_outside.specs.ListenerState.{ListenerState, ListenerTold, after_came, after_give_back, after_none_came}

module _ {L : Type 0} where
  -- what is recorded after links were given back
  abbrev pub more_returned : List L → ListenerTold L → ListenerTold L
  more_returned lines told = record told { returned = told.returned ++ lines }

  -- a door was given back these links, and did not fail
  pub record DoorOn (lines : List L) (before after : ListenerState L) : Type 0 where
    pub told : after.told ≡ option_map (more_returned lines) before.told
    pub away : after.away ≡ before.away
    pub faults : after.faults ≡ before.faults
    pub mark : after.mark ≡ before.mark
    pub idle : before.idle ≤ after.idle

  told_none : (told : Option (ListenerTold L)) → told ≡ option_map (more_returned []) told
  told_none None = refl
  told_none (Some told) = ap (λ (lines : List L). Some (record told { returned = lines })) (sym (append-nil told.returned))

  -- a door had no link yet
  pub door_waited : (before after : ListenerState L) → after ≡ after_none_came before → DoorOn [] before after
  door_waited before after waited = subst (DoorOn [] before) (sym waited) (record {
    told = told_none before.told;
    away = refl;
    faults = refl;
    mark = refl;
    idle = omega arith;
  })

  -- a link came, and was given back
  pub door_served : (line : L) (before after : ListenerState L) → after ≡ after_give_back (after_came before) line → DoorOn (line ∷ []) before after
  door_served line before after served = subst (DoorOn (line ∷ []) before) (sym served) (record {
    told = refl;
    away = omega arith;
    faults = refl;
    mark = refl;
    idle = omega arith;
  })
