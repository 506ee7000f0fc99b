-- The names of the variables so far are taken.
use Rattle.std.proofs.Common.{List, ℕ, take}
use Rattle.std.specs.Prelude.{map}
use Rattle.draft_form.specs.Drawn.{word_name, Names}
use Rattle.scheme_expand.specs.ByWord.{top_words, AreTaken, HaveOneWord, Marks}
use Rattle.scheme_expand.proofs.assemble.Whole.own_names.Given as goal

abbrev pub invariant-loop-variable : goal.invariant-loop-variable
invariant-loop-variable l =
    (names : Names) (own : List (List ℕ)) → HaveOneWord names own → Marks names own l.self.own.now
    → AreTaken names own (map (word_name names) (top_words (take l.variable-index l.variables))) l.firsts
