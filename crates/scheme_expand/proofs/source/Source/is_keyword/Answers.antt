use Rattle.std.proofs.Common.{sym, ◌∙◌}
use Rattle.scheme_expand.proofs.Named.{is_this, no_keyword}
use Rattle.scheme_expand.proofs.source.Source.is_keyword.Goals as goal

pub returns-in-Some : goal.returns-in-Some
returns-in-Some c = λ d h.
    is_this d c.in-Some.found c.args.keyword c.eq.result (sym (c.keyword.ensures d h) ∙ c.in-Some.is) (sym c.eq.ensures)

pub returns-in-None : goal.returns-in-None
returns-in-None c = λ d h. no_keyword d c.args.keyword (sym (c.keyword.ensures d h) ∙ c.in-None.is)
