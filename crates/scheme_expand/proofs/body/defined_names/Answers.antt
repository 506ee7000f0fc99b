use Rattle.scheme_expand.proofs.Due.{none_left}
use Rattle.scheme_expand.proofs.Heading.{none_found, good_found, bad_found, all_found}
use Rattle.scheme_expand.proofs.body.defined_names.Goals as goal

pub loop-first-init : goal.loop-first-init
loop-first-init c = λ ds h. none_found c.args.source c.args.definitions.now _ ds h c.new-names.ensures.items

pub returns : goal.returns
returns c = λ ds h.
    all_found c.args.source ds _ _ (c.loop-first.invariant ds h) (none_left c.loop-first.rest.now c.in_default.ensures.cases)

pub loop-first-preserved-in_ok-push-in-Ok : goal.loop-first-preserved-in_ok-push-in-Ok
loop-first-preserved-in_ok-push-in-Ok c = λ ds h.
    good_found c.args.source ds _ _ c.loop-first.rest.now c.in-Some.others.now c.in-Some.first.now c.in-Ok.definition
    (c.loop-first.invariant ds h) c.in-Some.ensures.cases.0 c.in_ok-push-in-Ok.ensures.items c.in-Ok.ensures

pub loop-first-preserved : goal.loop-first-preserved
loop-first-preserved c = λ ds h.
    bad_found c.args.source ds _ c.loop-first.rest.now c.in-Some.others.now c.in-Some.first.now c.in-Err._rule
    (c.loop-first.invariant ds h) c.in-Some.ensures.cases.0 c.in-Err.ensures
