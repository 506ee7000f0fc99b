use Rattle.scheme_expand.proofs.Lists.{list_parts}
use Rattle.scheme_expand.proofs.source.Source.listed.Goals as goal

pub returns-in-List : goal.returns-in-List
returns-in-List c = λ d h.
    list_parts c.args.self c.args.id d _ _ _ _ h (c.in_ok-items.ensures d h) c.in-List.is c.as_slice.ensures
