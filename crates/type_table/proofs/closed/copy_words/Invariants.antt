use Rattle.std.proofs.Common.{take, ◌≡◌}
use Rattle.std.specs.Mem.Slots.{slots_items}
use Rattle.type_table.proofs.closed.copy_words.Given as goal

-- the words before `at` are copied
abbrev pub invariant-loop-at : goal.invariant-loop-at
invariant-loop-at l = take l.at l.room ≡ take l.at (slots_items l.table.words)
