use Rattle.std.proofs.Common.{take}
use Rattle.scheme_expand.specs.Naming.{Adds, operation_names, name_list}
use Rattle.scheme_expand.proofs.words.Words.add_operations.Given as goal

-- the operations before this one are added
abbrev pub invariant-loop-op : goal.invariant-loop-op
invariant-loop-op l = Adds (name_list l.initial.self) (take l.op-index operation_names) (name_list l.self)
