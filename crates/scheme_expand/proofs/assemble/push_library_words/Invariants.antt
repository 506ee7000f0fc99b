-- The words of the variables so far are behind the others.
use Rattle.std.proofs.Common.{◌≡◌, ◌++◌, take}
use Rattle.scheme_expand.specs.ByWord.{library_words}
use Rattle.scheme_expand.proofs.assemble.push_library_words.Given as goal

abbrev pub invariant-loop-variable : goal.invariant-loop-variable
invariant-loop-variable l = l.words.items ≡ l.initial.words.items ++ library_words (take l.variable-index l.variables)
