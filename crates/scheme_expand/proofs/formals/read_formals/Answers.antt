use Rattle.std.proofs.Common.{refl}
use Rattle.scheme_expand.proofs.Parameters.{name_formals, list_formals}
use Rattle.scheme_expand.proofs.formals.read_formals.Goals as goal

pub returns-in-Name : goal.returns-in-Name
returns-in-Name c = λ d h.
    name_formals c.args.source c.args.id d c.in_ok-items.field-0.now c.in-Name.field-0 _ h (c.in_ok-items.ensures d h)
    c.in-Name.is refl refl

pub returns-in-List : goal.returns-in-List
returns-in-List c = λ d h.
    list_formals c.args.source c.args.id d c.in_ok-items.field-0.now c.as_slice.result.now c.in-List.items c.in-List.tail
    c.read_params.result h (c.in_ok-items.ensures d h) c.in-List.is c.as_slice.ensures c.read_params.ensures
