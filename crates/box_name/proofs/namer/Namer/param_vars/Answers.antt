use Rattle.std.proofs.Common.{◌≡◌, length, ap, rules, arith}
use Rattle.box_name.proofs.Numbering.{taking_begins, taking_on, taking_ends}
use Rattle.box_name.proofs.namer.Namer.param_vars.Goals as goal

pub loop-others-init : goal.loop-others-init
loop-others-init c =
    let same : c.as_slice-left.result.now ≡ c.args.params.now = search rules in
    taking_begins c.args.self.now (length c.args.params.now) _ _ (ap length same) c.new-vars.ensures

pub loop-others-preserved : goal.loop-others-preserved
loop-others-preserved c =
    taking_on c.args.self.now c.loop-others.self c.fresh.new.self (length c.args.params.now) (length c.loop-others.left.now)
    (length c.in-Some.others.now) c.in_ok-fresh.field-0 c.loop-others.vars c.push.new.self c.loop-others.invariant (omega (arith, c.in-Some.ensures.cases.1))
    c.in_ok-fresh.ensures (search rules)

pub returns : goal.returns
returns c =
    taking_ends c.args.self.now c.loop-others.self (length c.args.params.now) (length c.loop-others.left.now) c.loop-others.vars
    c.loop-others.invariant c.in_default.ensures.cases
