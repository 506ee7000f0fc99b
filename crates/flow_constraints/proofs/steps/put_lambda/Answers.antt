use Rattle.std.proofs.Common.{◌≡◌, ◌+◌, OnOk, ap, ◌∙◌, subst}
use Rattle.flow_constraints.specs.Table.{reached}
use Rattle.flow_constraints.specs.Walk.{counts}
use Rattle.flow_constraints.proofs.Endings.{body_then_value}
use Rattle.flow_constraints.proofs.steps.put_lambda.Goals as goal

pub returns-clause-rules : goal.returns-clause-rules
returns-clause-rules c =
    subst (λ rs. OnOk c.put_value.result (c.put_value.new.rules ≡ rs))
    (body_then_value c.args.flow.now c.args.lits.now (counts c.args.before.now) c.args.proc.now c.args.rules.now c.put_body.new.rules
    c.reached.result c.in_ok-result.result c.in_ok-put_body.ensures.rules (c.reached.ensures ∙ ap reached c.reach-reach.ensures)
    (c.in_ok-result.ensures ∙ ap (λ n. n + 1) c.reach-reach.ensures))
    c.put_value.ensures
