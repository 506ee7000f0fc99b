use Rattle.std.proofs.Common.{refl, rules}
use Rattle.const_data.proofs.Named.{knows_none}
use Rattle.const_data.proofs.Placed.{item_is}
use Rattle.const_data.proofs.names.Names.of.Goals as goal

pub loop-lit-init : goal.loop-lit-init
loop-lit-init c =
    knows_none c.args.first c.as_slice-lit-items.result.now (record { words = c.new.result; next = c.args.first }) refl
    (λ q. search rules)

pub loop-lit-preserved : goal.loop-lit-preserved
loop-lit-preserved c =
    let items = c.as_slice-lit-items.result.now in
    let i = c.loop-lit.lit-index in
    c.in_ok-note.ensures c.args.first items i (item_is items items i i c.lit-item.result refl refl c.loop-lit-test.true c.lit-item.is)
    c.loop-lit.invariant
