use Rattle.std.proofs.Common.{true, false, sym, ◌∙◌}
use Rattle.scheme_expand.proofs.Due.{none_left}
use Rattle.scheme_expand.proofs.MadeBodies.{none_asked, first_asked, lambda_asked, other_asked, all_asked, asked, not_good, good_alone}
use Rattle.scheme_expand.proofs.body.define_lambdas.Goals as goal

pub loop-first-init : goal.loop-first-init
loop-first-init c = λ ds h r. none_asked c.args.source c.args.definitions.now ds h r

pub loop-first-preserved : goal.loop-first-preserved
loop-first-preserved c = λ ds h r.
    let f =
    first_asked c.args.source c.loop-first.rest.now c.in-Some.others.now c.in-Some.first.now ds (c.loop-first.invariant ds h r)
    c.in-Some.ensures.cases.0
    in
    absurd (not_good f.datum _ _ (c.in_default-read_definition.ensures f.datum f.read f.define) (good_alone f.datum f.good))

pub returns-then-not-is_lambda : goal.returns-then-not-is_lambda
returns-then-not-is_lambda c = λ ds h r.
    let f =
    first_asked c.args.source c.loop-first.rest.now c.in-Some.others.now c.in-Some.first.now ds (c.loop-first.invariant ds h r)
    c.in-Some.ensures.cases.0
    in
    sym
    (other_asked c.args.source c.in-Some.others.now c.in-Some.first.now ds f
    (asked c.args.source c.in-Ok.definition f.datum f.good false (c.in-Ok.ensures f.datum f.read f.define) (λ p e v k. sym c.if-not-is_lambda.true ∙ c.is_lambda.ensures p e v k)))

pub loop-first-preserved-else-not-is_lambda : goal.loop-first-preserved-else-not-is_lambda
loop-first-preserved-else-not-is_lambda c = λ ds h r.
    let f =
    first_asked c.args.source c.loop-first.rest.now c.in-Some.others.now c.in-Some.first.now ds (c.loop-first.invariant ds h r)
    c.in-Some.ensures.cases.0
    in
    lambda_asked c.args.source c.in-Some.others.now c.in-Some.first.now ds f
    (asked c.args.source c.in-Ok.definition f.datum f.good true (c.in-Ok.ensures f.datum f.read f.define) (λ p e v k. sym c.if-not-is_lambda.false ∙ c.is_lambda.ensures p e v k))

pub returns : goal.returns
returns c = λ ds h r.
    all_asked c.args.source c.loop-first.rest.now ds (c.loop-first.invariant ds h r)
    (none_left c.loop-first.rest.now c.in_default.ensures.cases)
