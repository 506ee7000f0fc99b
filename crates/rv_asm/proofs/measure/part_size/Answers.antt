use Rattle.std.proofs.Common.{rules}
use Rattle.rv_asm.proofs.Items.{size_measured}
use Rattle.rv_asm.proofs.measure.part_size.Goals as goal

pub returns : goal.returns
returns c =
    size_measured c.args.items.now c.loop-item.item-index c.loop-item.size (search rules) c.loop-item.invariant.small c.loop-item.invariant.whole
