use Rattle.scheme_expand.proofs.Due.{none_left}
use Rattle.scheme_expand.proofs.MadeLets.{none_looked, lambda_looked, other_looked, all_looked}
use Rattle.scheme_expand.proofs.expander.Expander.are_lambdas.Goals as goal

pub loop-first-init : goal.loop-first-init
loop-first-init c = λ ds h r. none_looked c.args.self.now.source c.args.exprs.now ds h r

pub loop-first-preserved : goal.loop-first-preserved
loop-first-preserved c = λ ds h r.
    lambda_looked c.args.self.now.source ds c.loop-first.rest.now c.in-Some.others.now c.in-Some.first.now
    (c.loop-first.invariant ds h r) c.in-Some.ensures.cases.0
    (λ d k i. let e = c.is_lambda.ensures d k i in let f = c.if-not-is_lambda.false in cc)

pub returns-then-not-is_lambda : goal.returns-then-not-is_lambda
returns-then-not-is_lambda c = λ bs ds h e r.
    other_looked c.args.self.now.source ds c.loop-first.rest.now c.in-Some.others.now c.in-Some.first.now bs
    (c.loop-first.invariant ds h r) c.in-Some.ensures.cases.0 e
    (λ d k i. let g = c.is_lambda.ensures d k i in let f = c.if-not-is_lambda.true in cc)

pub returns : goal.returns
returns c = λ bs ds h e r.
    all_looked c.args.self.now.source ds c.loop-first.rest.now bs (c.loop-first.invariant ds h r)
    (none_left c.loop-first.rest.now c.in_default.ensures.cases) e
