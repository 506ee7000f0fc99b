use Rattle.std.proofs.Common.{take}
use Rattle.scheme_expand.specs.Naming.{Adds, keyword_names, name_list}
use Rattle.scheme_expand.proofs.words.Words.add_keywords.Given as goal

-- the keywords before this one are added
abbrev pub invariant-loop-keyword : goal.invariant-loop-keyword
invariant-loop-keyword l = Adds (name_list l.initial.self) (take l.keyword-index keyword_names) (name_list l.self)
