use Rattle.closure_conv.proofs.Homes.{static_is}
use Rattle.closure_conv.proofs.act.is_static.Goals as goal

pub returns-in-empty : goal.returns-in-empty
returns-in-empty c =
    static_is c.args.plan.now c.args.tables.now c.args.proc c.keeps.result.now _ c.requires c.keeps.ensures c.in-empty.len_below
    c.contains.ensures
