use Rattle.scheme_expand.proofs.Due.{none_left}
use Rattle.scheme_expand.proofs.Targets.{no_list, nothing_after, target_read}
use Rattle.scheme_expand.proofs.body.read_definition.Goals as goal

pub returns-in_default : goal.returns-in_default
returns-in_default c = λ d h t bs. no_list d bs t (c.in_default.ensures d h)

pub returns-in_default-split_first-2 : goal.returns-in_default-split_first-2
returns-in_default-split_first-2 c = λ d h t bs.
    nothing_after c.args.source d _ _ _ bs (c.in-Some.ensures d h) t c.in-Some-split_first.ensures.cases.0
    (none_left _ c.in_default-split_first-2.ensures.cases)

pub returns : goal.returns
returns c = λ d h t.
    target_read c.args.source d _ _ _ _ _ c.read_target.result (c.in-Some.ensures d h) t c.in-Some-split_first.ensures.cases.0
    c.in-Some-split_first-2.ensures.cases.0 c.read_target.ensures
