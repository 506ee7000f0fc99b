use Rattle.std.proofs.Common.{◌≡◌, ◌++◌, take}
use Rattle.std.specs.List.{filter}
use Rattle.closure_conv.specs.Tables.{has_slot}
use Rattle.closure_conv.proofs.tables.put_slotted.Given as goal

abbrev pub invariant-loop-var : goal.invariant-loop-var
invariant-loop-var l = l.vars ≡ l.initial.vars ++ filter (has_slot l.tables) (take l.var-index l.from)
