use Rattle.scheme_expand.proofs.Definitions.{no_values_put, last_value_put, values_put}
use Rattle.scheme_expand.proofs.Due.{none_left}
use Rattle.scheme_expand.proofs.MadeBodies.{none_defined_put, last_defined_put, defined_put}
use Rattle.scheme_expand.proofs.expander.Expander.values.Goals as goal

pub loop-last-init : goal.loop-last-init
loop-last-init c = (
  λ ds h. no_values_put c.args.self.now c.args.definitions.now ds h,
  λ ds h r. none_defined_put c.args.self.now c.args.definitions.now ds h r,
)

pub loop-last-preserved : goal.loop-last-preserved
loop-last-preserved c =
    let a = c.args.self.now in
    let b = c.loop-last.self in
    let rest = c.loop-last.rest.now in
    let split = c.in-Some.ensures.cases.0 in (
      λ ds h.
          last_value_put a b c.value.new.self rest c.in-Some.others.now c.in-Some.last.now ds (c.loop-last.invariant.0 ds h) split
          c.in_ok-value.ensures.fault,
      λ ds h r.
          last_defined_put a b c.value.new.self rest c.in-Some.others.now c.args.definitions.now c.in-Some.last.now ds
          (c.loop-last.invariant.1 ds h r) split c.in_ok-value.ensures.core,
    )

pub returns-clause-fault : goal.returns-clause-fault
returns-clause-fault c = λ ds h.
    values_put c.args.self.now c.loop-last.self c.loop-last.rest.now ds (c.loop-last.invariant.0 ds h)
    (none_left c.loop-last.rest.now c.in_default.ensures.cases)

pub returns-clause-core : goal.returns-clause-core
returns-clause-core c = λ ds h r.
    defined_put c.args.self.now c.loop-last.self c.loop-last.rest.now c.args.definitions.now ds (c.loop-last.invariant.1 ds h r)
    (none_left c.loop-last.rest.now c.in_default.ensures.cases)
