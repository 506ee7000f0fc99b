use Rattle.std.proofs.Common.{sym, ◌∙◌}
use Rattle.scheme_expand.proofs.Heads.{begins_define, begins_no_define}
use Rattle.scheme_expand.proofs.source.Source.defines.Goals as goal

pub returns-in-Some : goal.returns-in-Some
returns-in-Some c = λ d h.
    c.is_define.ensures ∙ sym (begins_define d c.in-Some.keyword (sym (c.head.ensures d h) ∙ c.in-Some.is))

pub returns-in-None : goal.returns-in-None
returns-in-None c = λ d h. sym (begins_no_define d (sym (c.head.ensures d h) ∙ c.in-None.is))
