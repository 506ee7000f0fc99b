use Rattle.std.proofs.Common.{map, take}
use Rattle.scheme_expand.specs.Naming.{Adds, call_name, name_list}
use Rattle.scheme_expand.proofs.words.Words.add_calls.Given as goal

-- the names before this one are added
abbrev pub invariant-loop-name : goal.invariant-loop-name
invariant-loop-name l = Adds (name_list l.initial.self) (take l.name-index (map call_name l.known)) (name_list l.self)
