use Rattle.std.proofs.Common.{◌+◌, ap, length}
use Rattle.indexmap.specs.IndexMap.{get}
use Rattle.rv_asm.specs.Layout.{text_start, items_of, pool_of, data_start, heap_start, same_label, found}
use Rattle.rv_asm.proofs.Placed.{same_placing}
use Rattle.rv_asm.proofs.image.image_of.Goals as goal

pub placed_image-requires-clause-placed : goal.placed_image-requires-clause-placed
placed_image-requires-clause-placed c =
    let items = items_of c.args.parts.now in
    let words = length c.args.words.now in
    same_placing (get same_label c.in_ok-places_of.field-0) (λ l. found l text_start items) c.args.pool.keys (pool_of items)
    c.len.result words c.args.data_start (data_start items) c.args.heap_start (heap_start items words)
    (c.args.heap_start + c.args.heap) (heap_start items words + c.args.heap)
    c.in_ok-places_of.ensures c.requires.pool c.len.ensures c.requires.start c.requires.end (ap (λ n. n + c.args.heap) c.requires.end)
