use Rattle.std.proofs.Common.{sym, subst}
use Rattle.flow_form.specs.Shape.{HoldsLeast}
use Rattle.image_build.proofs.Plans.{flat_planned}
use Rattle.image_build.proofs.back.flat_of.Goals as goal

pub returns : goal.returns
returns c =
    let named = c.args.analysis.now.named in
    let constraints = c.args.analysis.now.constraints in
    flat_planned c.flatten.result named constraints c.rows.result.now c.in_ok-plan.plan c.requires.ruled
    (subst (HoldsLeast constraints) (sym c.rows.ensures.value) c.requires.solved.least) c.in_ok-plan.ensures c.flatten.ensures
