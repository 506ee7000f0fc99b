use Rattle.std.proofs.Common.{rules}
use Rattle.std.specs.Mem.Slots.{slots_items}
use Rattle.type_table.proofs.Closing.{take_copied}
use Rattle.type_table.proofs.closed.copy_words.Goals as goal

pub loop-at-preserved : goal.loop-at-preserved
loop-at-preserved c =
    take_copied c.loop-at.room (slots_items c.args.table.now.words) c.loop-at.at c.word.result (search rules)
    c.word.ensures c.loop-at.invariant
