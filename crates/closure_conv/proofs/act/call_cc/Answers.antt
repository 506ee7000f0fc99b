use Rattle.std.proofs.Common.{◌∙◌}
use Rattle.closure_conv.proofs.Acts.{call_cc_is}
use Rattle.closure_conv.proofs.Homes.{mode_is}
use Rattle.closure_conv.proofs.act.call_cc.Goals as goal

pub returns : goal.returns
returns c =
    call_cc_is c.in_ok-place_of.field-0 _ c.mode_of.result _ c.in_ok-place_of.ensures
    (c.mode_of.ensures ∙ mode_is c.args.plan.now c.args.tables.now c.args.tail c.args.var c.requires)
