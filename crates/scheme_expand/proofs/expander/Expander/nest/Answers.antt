use Rattle.std.proofs.Common.{None, refl, sym, arith}
use Rattle.scheme_expand.proofs.Backwards.{none_put, first_put, all_put}
use Rattle.scheme_expand.proofs.Due.{of, none_left}
use Rattle.scheme_expand.proofs.Least.{earlier_none}
use Rattle.scheme_expand.proofs.MadeLets.{no_value_put, value_put, nest_put}
use Rattle.scheme_expand.proofs.expander.Expander.nest.Goals as goal

pub loop-value-init : goal.loop-value-init
loop-value-init c = record {
  fault = λ ds h. none_put c.args.self.now c.args.values.now ds h;
  core = no_value_put c.args.self.now c.args.pos c.args.level c.args.variables.now c.args.values.now;
}

pub loop-value-preserved : goal.loop-value-preserved
loop-value-preserved c =
    let a = c.args.self.now in
    let b = c.loop-value.self in
    let value = c.in-Some.value.now in
    let rest = c.loop-value.rest.now in
    let others = c.in-Some.others.now in
    record {
      fault =
          λ ds h. first_put a b c.wait.new.self rest others value ds (c.loop-value.invariant.fault ds h) c.in-Some.ensures.cases.0
          (λ d k.
          let due = of d in
          c.in_ok-wait.ensures.fault due
          (None, due, refl, (due, None, (d, k, refl), (None, None, refl, refl, refl), sym (earlier_none due)), refl));
      core =
          value_put a b c.wait.new.self c.args.pos c.args.level c.args.variables.now c.args.values.now c.loop-value.next _
          c.loop-value.later.now c.in-Some-split_first.inner.now rest others c.in-Some-split_first.variable.now value
          c.loop-value.invariant.core c.in-Some.ensures.cases.0 c.in-Some-split_first.ensures.cases.0
          (omega (arith, c.in_ok-next.ensures)) c.in_ok-wait.ensures.core;
    }

pub returns-clause-fault : goal.returns-clause-fault
returns-clause-fault c = λ ds h.
    all_put c.args.self.now c.loop-value.self c.loop-value.rest.now ds (c.loop-value.invariant.fault ds h)
    (none_left c.loop-value.rest.now c.in_default.ensures.cases)

pub returns-clause-core : goal.returns-clause-core
returns-clause-core c =
    nest_put c.args.self.now c.loop-value.self c.args.pos c.args.level c.args.variables.now c.args.values.now _ _ c.loop-value.rest.now
    c.loop-value.invariant.core (none_left c.loop-value.rest.now c.in_default.ensures.cases)
