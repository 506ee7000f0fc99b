use Rattle.scheme_expand.proofs.Due.{none_left}
use Rattle.scheme_expand.proofs.Twice.{none_differing, one_differing, found_twice, all_differing}
use Rattle.scheme_expand.proofs.formals.twice.Goals as goal

pub loop-last-init : goal.loop-last-init
loop-last-init c = λ ws h. none_differing c.args.source c.args.names.now _ ws h c.new-seen.ensures.empty

pub returns : goal.returns
returns c = λ ws h.
    all_differing c.args.source h.named ws _ _ (c.loop-last.invariant ws h) (none_left c.loop-last.left.now c.in_default.ensures.cases)

pub returns-then-not-is_new : goal.returns-then-not-is_new
returns-then-not-is_new c = λ ws h.
    found_twice c.args.source h.named ws _ _ _ c.in-Some.last.now _ _ _ (c.loop-last.invariant ws h) c.in-Some.ensures.cases.0
    c.word.ensures c.in-Some-word.is c.in_ok-is_new.ensures.added c.if-not-is_new.true

pub loop-last-preserved : goal.loop-last-preserved
loop-last-preserved c = λ ws h.
    one_differing c.args.source h.named ws _ _ _ _ c.in-Some.last.now _ _ _ (c.loop-last.invariant ws h) c.in-Some.ensures.cases.0
    c.word.ensures c.in-Some-word.is c.in_ok-is_new.ensures.added c.if-not-is_new.false c.in_ok-is_new.ensures.keys
