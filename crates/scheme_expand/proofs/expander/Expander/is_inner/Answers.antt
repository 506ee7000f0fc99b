use Rattle.scheme_expand.proofs.CondParts.{none_inner}
use Rattle.scheme_expand.proofs.expander.Expander.is_inner.Goals as goal

pub returns-in-None : goal.returns-in-None
returns-in-None c = λ d h. none_inner d (c.in-None.ensures d h)
