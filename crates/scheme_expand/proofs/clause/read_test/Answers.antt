use Rattle.std.proofs.Common.{sym, ◌∙◌}
use Rattle.scheme_expand.proofs.CondParts.{only_test, test_and_more, test_and_receiver}
use Rattle.scheme_expand.proofs.Due.{none_left, one_number}
use Rattle.scheme_expand.proofs.clause.read_test.Goals as goal

pub returns-in_default : goal.returns-in_default
returns-in_default c = λ p t ds h k w.
    only_test c.args.source c.args.test c.args.exprs.now p t ds h k w (none_left _ c.in_default.ensures.cases)

pub returns-then-not-is_keyword : goal.returns-then-not-is_keyword
returns-then-not-is_keyword c = λ p t ds h k w.
    test_and_more c.args.source c.args.test c.args.exprs _ _ p t ds h k w c.in-Some.ensures.cases.0
    (λ e l. sym (c.is_keyword.ensures e l) ∙ c.if-not-is_keyword.true)

pub returns-in-len1 : goal.returns-in-len1
returns-in-len1 c = λ p t ds h k w.
    test_and_receiver c.args.source c.args.test _ c.in-Some.second.now c.args.exprs.now c.in-Some.others.now p t ds h k w
    c.in-Some.ensures.cases.0 (one_number _ c.in-len1.len_at_least c.in-len1.len_below)
    (λ e l. sym (c.is_keyword.ensures e l) ∙ c.if-not-is_keyword.false)
