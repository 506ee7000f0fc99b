use Rattle.scheme_expand.proofs.Due.{none_left}
use Rattle.scheme_expand.proofs.Heading.{none_headed, more_headed, collects_as, ends_headed, all_headed}
use Rattle.scheme_expand.proofs.body.after_definitions.Goals as goal

pub loop-first-init : goal.loop-first-init
loop-first-init c = λ ds h. none_headed c.args.source c.args.items.now ds _ h

pub returns-then-not-branch : goal.returns-then-not-branch
returns-then-not-branch c = λ ds h.
    ends_headed c.args.source ds _ _ _ c.loop-first.rest.now c.in-Some.others.now c.in-Some.first.now (c.loop-first.invariant ds h)
    c.in-Some.ensures.cases.0
    (λ d k. collects_as c.args.source d _ _ _ _ c.if-not-branch.true (c.in_ok-collect_definitions.ensures d k))

pub loop-first-preserved : goal.loop-first-preserved
loop-first-preserved c = λ ds h.
    more_headed c.args.source ds _ _ _ c.loop-first.rest.now c.in-Some.others.now c.in-Some.first.now (c.loop-first.invariant ds h)
    c.in-Some.ensures.cases.0
    (λ d k. collects_as c.args.source d _ _ _ _ c.if-not-branch.false (c.in_ok-collect_definitions.ensures d k))

pub returns : goal.returns
returns c = λ ds h.
    all_headed c.args.source ds _ _ _ (c.loop-first.invariant ds h) (none_left c.loop-first.rest.now c.in_default.ensures.cases)
