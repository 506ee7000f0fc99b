use Rattle.rv_emulator.proofs.EitherOrder.{each_lays_out, loadable}
use Rattle.rv_emulator.proofs.loading.lay.Goals as goal

pub lay_in_order-requires : goal.lay_in_order-requires
lay_in_order-requires c = loadable c.rise.result c.args.segments.now c.requires

pub returns : goal.returns
returns c =
    each_lays_out c.rise.result c.args.segments.now c.lay_in_order.result c.requires c.rise.ensures c.lay_in_order.ensures.regions
    c.lay_in_order.ensures.bytes
