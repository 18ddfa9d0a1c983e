use Rattle.std.proofs.Common.{◌≤◌, sym, ap, ◌∙◌, arith}
use Rattle.history_model.specs.scripts.Generator.{Made}
use Rattle.made_script.proofs.Drawing.{line_drawn, query_drawn, sends_line}
use Rattle.made_script.proofs.generator.Generator.send_line.Goals as goal

pub returns-in-0-clause-line : goal.returns-in-0-clause-line
returns-in-0-clause-line g c = sends_line c.send.result _ _ _ _ (line_drawn 0 c.draw_step-step.result c.draw_step-step.new.self.state c.args.self.now.state c.draw_step-step.ensures c.in-0.is) c.send.ensures

pub returns-in-0-clause-state : goal.returns-in-0-clause-state
returns-in-0-clause-state g c = sym (ap (λ (made : Made). made.state) (line_drawn 0 c.draw_step-step.result c.draw_step-step.new.self.state c.args.self.now.state c.draw_step-step.ensures c.in-0.is))

pub returns-in-1-clause-line : goal.returns-in-1-clause-line
returns-in-1-clause-line g c = sends_line c.send_play.result _ _ _ _ (line_drawn 1 c.draw_step-step.result c.draw_step-step.new.self.state c.args.self.now.state c.draw_step-step.ensures c.in-1.is) c.send_play.ensures.line

pub returns-in-1-clause-state : goal.returns-in-1-clause-state
returns-in-1-clause-state g c = c.send_play.ensures.state ∙ sym (ap (λ (made : Made). made.state) (line_drawn 1 c.draw_step-step.result c.draw_step-step.new.self.state c.args.self.now.state c.draw_step-step.ensures c.in-1.is))

pub returns-in-2-clause-line : goal.returns-in-2-clause-line
returns-in-2-clause-line g c = sends_line c.send_opacity.result _ _ _ _ (line_drawn 2 c.draw_step-step.result c.draw_step-step.new.self.state c.args.self.now.state c.draw_step-step.ensures c.in-2.is) c.send_opacity.ensures.line

pub returns-in-2-clause-state : goal.returns-in-2-clause-state
returns-in-2-clause-state g c = c.send_opacity.ensures.state ∙ sym (ap (λ (made : Made). made.state) (line_drawn 2 c.draw_step-step.result c.draw_step-step.new.self.state c.args.self.now.state c.draw_step-step.ensures c.in-2.is))

pub returns-in-3-clause-line : goal.returns-in-3-clause-line
returns-in-3-clause-line g c = sends_line c.send_fill.result _ _ _ _ (line_drawn 3 c.draw_step-step.result c.draw_step-step.new.self.state c.args.self.now.state c.draw_step-step.ensures c.in-3.is) c.send_fill.ensures.line

pub returns-in-3-clause-state : goal.returns-in-3-clause-state
returns-in-3-clause-state g c = c.send_fill.ensures.state ∙ sym (ap (λ (made : Made). made.state) (line_drawn 3 c.draw_step-step.result c.draw_step-step.new.self.state c.args.self.now.state c.draw_step-step.ensures c.in-3.is))

pub returns-in-4-clause-line : goal.returns-in-4-clause-line
returns-in-4-clause-line g c = sends_line c.send_commit.result _ _ _ _ (line_drawn 4 c.draw_step-step.result c.draw_step-step.new.self.state c.args.self.now.state c.draw_step-step.ensures c.in-4.is) c.send_commit.ensures

pub returns-in-4-clause-state : goal.returns-in-4-clause-state
returns-in-4-clause-state g c = sym (ap (λ (made : Made). made.state) (line_drawn 4 c.draw_step-step.result c.draw_step-step.new.self.state c.args.self.now.state c.draw_step-step.ensures c.in-4.is))

pub returns-in-5-clause-line : goal.returns-in-5-clause-line
returns-in-5-clause-line g c = sends_line c.send_swap.result _ _ _ _ (line_drawn 5 c.draw_step-step.result c.draw_step-step.new.self.state c.args.self.now.state c.draw_step-step.ensures c.in-5.is) c.send_swap.ensures.line

pub returns-in-5-clause-state : goal.returns-in-5-clause-state
returns-in-5-clause-state g c = c.send_swap.ensures.state ∙ sym (ap (λ (made : Made). made.state) (line_drawn 5 c.draw_step-step.result c.draw_step-step.new.self.state c.args.self.now.state c.draw_step-step.ensures c.in-5.is))

pub returns-in-6-clause-line : goal.returns-in-6-clause-line
returns-in-6-clause-line g c = sends_line c.send_load.result _ _ _ _ (line_drawn 6 c.draw_step-step.result c.draw_step-step.new.self.state c.args.self.now.state c.draw_step-step.ensures c.in-6.is) c.send_load.ensures.line

pub returns-in-6-clause-state : goal.returns-in-6-clause-state
returns-in-6-clause-state g c = c.send_load.ensures.state ∙ sym (ap (λ (made : Made). made.state) (line_drawn 6 c.draw_step-step.result c.draw_step-step.new.self.state c.args.self.now.state c.draw_step-step.ensures c.in-6.is))

pub returns-in_default-clause-line : goal.returns-in_default-clause-line
returns-in_default-clause-line g c =
    let high : 7 ≤ c.draw_step-step.result.kind = omega arith in
    sends_line c.send_query.result _ _ _ _ (query_drawn c.draw_step-step.result c.draw_step-step.new.self.state c.args.self.now.state c.draw_step-step.ensures high) c.send_query.ensures

pub returns-in_default-clause-state : goal.returns-in_default-clause-state
returns-in_default-clause-state g c =
    let high : 7 ≤ c.draw_step-step.result.kind = omega arith in
    sym (ap (λ (made : Made). made.state) (query_drawn c.draw_step-step.result c.draw_step-step.new.self.state c.args.self.now.state c.draw_step-step.ensures high))
