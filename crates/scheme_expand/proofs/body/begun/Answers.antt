use Rattle.std.proofs.Common.{sym, ◌∙◌}
use Rattle.scheme_expand.proofs.Collecting.{begun_read, not_begun, no_begin, empty_begin}
use Rattle.scheme_expand.proofs.Due.{none_left}
use Rattle.scheme_expand.proofs.body.begun.Goals as goal

pub returns-in_default : goal.returns-in_default
returns-in_default c = λ d h. no_begin d (c.in_default.ensures d h)

pub returns-in_default-split_first : goal.returns-in_default-split_first
returns-in_default-split_first c = λ d h.
    empty_begin c.args.source _ d (c.in-Some.ensures d h) (none_left _ c.in_default-split_first.ensures.cases)

pub returns-then-is_keyword : goal.returns-then-is_keyword
returns-then-is_keyword c = λ d h.
    begun_read c.args.source _ _ _ d (c.in-Some.ensures d h) c.in-Some-split_first.ensures.cases.0
    (λ e k. sym (c.is_keyword.ensures e k) ∙ c.if-is_keyword.true)

pub returns-else-is_keyword : goal.returns-else-is_keyword
returns-else-is_keyword c = λ d h.
    not_begun c.args.source _ _ _ d (c.in-Some.ensures d h) c.in-Some-split_first.ensures.cases.0
    (λ e k. sym (c.is_keyword.ensures e k) ∙ c.if-is_keyword.false)
