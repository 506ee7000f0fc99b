use Rattle.std.proofs.Common.{refl}
use Rattle.scheme_expand.specs.declared.step.Step.TheVariants as step
use Rattle.scheme_expand.proofs.Adding.{one_waits}
use Rattle.scheme_expand.proofs.Backwards.{none_put, last_put, all_put}
use Rattle.scheme_expand.proofs.Due.{of, none_left}
use Rattle.scheme_expand.proofs.MadeLets.{no_expr_put, expr_put, exprs_put}
use Rattle.scheme_expand.proofs.expander.Expander.push_exprs.Goals as goal

pub loop-last-init : goal.loop-last-init
loop-last-init c = record {
  fault = λ ds h. none_put c.args.self.now c.args.exprs.now ds h;
  core = no_expr_put c.args.self.now c.args.exprs.now;
}

pub loop-last-preserved : goal.loop-last-preserved
loop-last-preserved c =
    let a = c.args.self.now in
    let b = c.loop-last.self in
    let last = c.in-Some.last.now in
    let rest = c.loop-last.rest.now in
    let others = c.in-Some.others.now in
    record {
      fault =
          λ ds h. last_put a b c.wait.new.self rest others last ds (c.loop-last.invariant.fault ds h) c.in-Some.ensures.cases.0
          (λ d k. c.in_ok-wait.ensures.fault (of d) (one_waits b.source (step.Expr last) (of d) (d, k, refl)));
      core =
          expr_put a b c.wait.new.self c.args.exprs.now rest others last c.loop-last.invariant.core c.in-Some.ensures.cases.0
          c.in_ok-wait.ensures.core;
    }

pub returns-clause-fault : goal.returns-clause-fault
returns-clause-fault c = λ ds h.
    all_put c.args.self.now c.loop-last.self c.loop-last.rest.now ds (c.loop-last.invariant.fault ds h)
    (none_left c.loop-last.rest.now c.in_default.ensures.cases)

pub returns-clause-core : goal.returns-clause-core
returns-clause-core c =
    exprs_put c.args.self.now c.loop-last.self c.args.exprs.now c.loop-last.rest.now c.loop-last.invariant.core
    (none_left c.loop-last.rest.now c.in_default.ensures.cases)
