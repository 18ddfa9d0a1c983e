use Rattle.std.proofs.Common.{◌≡◌, ℤ, List, length, sym, ap, ◌∙◌, subst, arith}
use Rattle.std.specs.Prelude.{IfSome, Option}
use Rattle.play_types.specs.Answer.{MicrosView, micros_of}
use Rattle.history_model.specs.stage.Answer.{number_count}
use Rattle.mixer_state.specs.declared.course.Course.{Course}
use Rattle.mixer_state.specs.Course.{numbers_at}
use Rattle.mixer_state.specs.Entries.{course_at, table_of}
use Rattle.mixer_state.specs.Mixer.{MixerView, values_of}
use Rattle.mixer_state.proofs.Pasts.{values_of-course}
use Rattle.mixer_state.proofs.mixer.Mixer.value.Goals as goal

-- the numbers are those of the course of the property
numbers : (c : goal.After-unwrap) → c.value-values.result ≡ values_of c.args.self.now c.args.place c.args.prop c.args.ticks
numbers c =
    c.value-values.ensures.value
    ∙ ap (λ (course : Course). numbers_at course c.args.ticks) c.course.ensures
    ∙ ap (λ (mixer : MixerView). numbers_at (course_at (table_of mixer.tuned) c.args.place c.args.prop) c.args.ticks) c.self.view_is
    ∙ sym (values_of-course c.args.self.now c.args.place c.args.prop c.args.ticks)

pub returns-clause-value : goal.returns-clause-value
returns-clause-value c =
    let kept : c.unwrap.result ≡ micros_of c.value-values.result c.number_count.result =
    subst (λ (found : Option MicrosView). IfSome found (λ m. m ≡ micros_of c.value-values.result c.number_count.result)) c.unwrap.ensures c.new.ensures.value in
    kept ∙ ap (micros_of c.value-values.result) c.number_count.ensures
    ∙ ap (λ (xs : List ℤ). micros_of xs (number_count c.args.prop)) (numbers c)

pub returns-clause-acts : goal.returns-clause-acts
returns-clause-acts c acts represents =
    returns-clause-value c
    ∙ ap (λ (xs : List ℤ). micros_of xs (number_count c.args.prop))
    (represents.values c.args.place c.args.prop c.args.ticks c.requires.channel (omega arith))

pub returns-clause-four : goal.returns-clause-four
returns-clause-four c = ap (λ (xs : List ℤ). length xs) (sym (numbers c)) ∙ c.value-values.ensures.range.four
