use Rattle.scheme_expand.proofs.CondParts.{weaker}
use Rattle.scheme_expand.proofs.HeldCalls.{no_more}
use Rattle.scheme_expand.proofs.HeldTests.{none_held, next_held, all_held}
use Rattle.scheme_expand.proofs.clause.hold_tests.Goals as goal

pub loop-first-init : goal.loop-first-init
loop-first-init c = λ ds h may. none_held c.args.source c.args.clauses.now ds c.args.scope.now h may

pub loop-first-preserved : goal.loop-first-preserved
loop-first-preserved c = λ ds h may.
    next_held c.args.source c.loop-first.rest.now c.in-Some.others.now c.in-Some.first.now c.loop-first.ends _ ds c.args.scope.now
    c.loop-first.scope c.hold_test.new.scope (c.loop-first.invariant ds h may) c.in-Some.ensures.cases.0 c.in_ok-ends.ensures weaker

pub returns : goal.returns
returns c = λ ds h may.
    all_held c.args.source c.loop-first.rest.now c.loop-first.ends ds c.args.scope.now c.loop-first.scope
    (c.loop-first.invariant ds h may) (no_more c.loop-first.rest.now c.in_default.ensures.cases)
