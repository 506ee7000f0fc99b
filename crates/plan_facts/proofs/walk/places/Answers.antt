use Rattle.flow_constraints.specs.Walk.{counts}
use Rattle.plan_facts.proofs.Listed.{all_walked}
use Rattle.plan_facts.proofs.walk.places.Goals as goal

pub returns-clause-steps : goal.returns-clause-steps
returns-clause-steps c =
    all_walked c.args.named.now c.as_slice-procs.result.now c.loop-number.number c.in_ok-first_sites.field-0 (counts c.loop-number.before) c.loop-number.steps
    c.as_slice-procs.ensures c.loop-number-test.false c.in_ok-first_sites.ensures c.loop-number.invariant.listed
