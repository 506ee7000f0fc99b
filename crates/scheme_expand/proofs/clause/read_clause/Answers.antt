use Rattle.std.proofs.Common.{sym, ◌∙◌}
use Rattle.scheme_expand.proofs.CondParts.{no_list_clause, no_first, of_list}
use Rattle.scheme_expand.proofs.Due.{none_left}
use Rattle.scheme_expand.proofs.clause.read_clause.Goals as goal

pub returns-in_default : goal.returns-in_default
returns-in_default c = λ d h. no_list_clause d (c.in_default.ensures d h)

pub returns-in_default-split_first : goal.returns-in_default-split_first
returns-in_default-split_first c = λ d h.
    no_first c.args.source _ d (c.in-Some.ensures d h) (none_left _ c.in_default-split_first.ensures.cases)

pub returns-then-is_keyword : goal.returns-then-is_keyword
returns-then-is_keyword c = λ d h.
    of_list c.args.source _ _ _ d c.read_else.result (c.in-Some.ensures d h) c.in-Some-split_first.ensures.cases.0
    (λ p t ds k l. c.read_else.ensures c.args.source p t ds l (sym (c.is_keyword.ensures t k) ∙ c.if-is_keyword.true))

pub returns : goal.returns
returns c = λ d h.
    of_list c.args.source _ _ _ d c.read_test.result (c.in-Some.ensures d h) c.in-Some-split_first.ensures.cases.0
    (λ p t ds k l. c.read_test.ensures p t ds k l (sym (c.is_keyword.ensures t k) ∙ c.if-is_keyword.false))
