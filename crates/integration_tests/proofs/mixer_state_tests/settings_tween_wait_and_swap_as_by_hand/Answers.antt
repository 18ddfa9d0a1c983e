use Rattle.integration_tests.proofs.mixer_state_tests.settings_tween_wait_and_swap_as_by_hand.Goals as goal

-- a new mixer represents no acts after no ticks, so its latest setting is not later
pub set-requires-clause-time : goal.set-requires-clause-time
set-requires-clause-time c = (c.in_ok-mixer.ensures.acts 0).latest
