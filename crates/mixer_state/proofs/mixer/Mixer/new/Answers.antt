use Rattle.std.proofs.Common.{◌≡◌, ◌+◌, ◌<◌, ◌-◌, [], List, length, get_or, map, sym, ap, ◌∙◌, subst, arith, reverse}
use Rattle.std.specs.Prelude.{Option}
use Rattle.std.proofs.lemmas.List.{get_or-replicate, length-replicate}
use Rattle.play_types.specs.Setting.{SettingView}
use Rattle.mixer_state.specs.declared.courses.Courses.{Courses}
use Rattle.mixer_state.specs.Entries.{course_of, courses_or, deferred_setting}
use Rattle.mixer_state.specs.Kept.{AreOn}
use Rattle.mixer_state.specs.Ranges.{IsCourse}
use Rattle.mixer_state.proofs.Kept.{AreOn-none}
use Rattle.mixer_state.proofs.Ways.{AreCourses-standing}
use Rattle.mixer_state.proofs.Pasts.{represents_none, waiting-at}
use Rattle.mixer_state.proofs.mixer.Mixer.new.Goals as goal

pub invariant_of-result : goal.invariant_of-result
invariant_of-result c =
    let lists : List (List SettingView) = c.loop-channel.waiting.items in
    let count : length lists ≡ c.loop-channel._channel = ap (λ (xs : List (List SettingView)). length xs) c.loop-channel.invariant ∙ length-replicate c.loop-channel._channel [] in
    record {
      counted = omega (arith, count, c.in_ok-places.ensures.channels, c.loop-channel-test.false, c.loop-channel.auto._channel-end);
      running = λ place prop.
          subst (λ (entry : Option Courses). IsCourse prop 0 (course_of (courses_or entry) prop)) (sym (c.in_ok-places.ensures.entries place))
          (AreCourses-standing 0 prop);
      on_channels = λ i.
          subst (λ (xs : List (List SettingView)). AreOn (i + 1) (get_or xs i [])) (sym c.loop-channel.invariant)
          (AreOn-none (i + 1) c.loop-channel._channel i);
    }

pub returns-clause-acts : goal.returns-clause-acts
returns-clause-acts c ticks =
    let lists : List (List SettingView) = c.loop-channel.waiting.items in
    represents_none _ ticks c.in_ok-places.ensures.entries (omega arith)
    (λ channel of_channel.
    let within : channel - 1 < length lists = omega (arith, of_channel.0, of_channel.1) in
    let count : length lists ≡ c.loop-channel._channel = ap (λ (xs : List (List SettingView)). length xs) c.loop-channel.invariant ∙ length-replicate c.loop-channel._channel [] in
    waiting-at lists channel of_channel
    ∙ ap (λ (xs : List (List SettingView)). map deferred_setting (reverse (get_or xs (channel - 1) []))) c.loop-channel.invariant
    ∙ ap (λ (xs : List SettingView). map deferred_setting (reverse xs)) (get_or-replicate c.loop-channel._channel (channel - 1) [] [] (omega (arith, within, count))))
