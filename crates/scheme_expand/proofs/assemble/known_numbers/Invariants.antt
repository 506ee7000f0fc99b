-- The numbers of the names so far.
use Rattle.std.proofs.Common.{◌≡◌, ◌≤◌, ℕ, List, length, take}
use Rattle.std.specs.Prelude.{map}
use Rattle.prelude_text.specs.Closure.{AreNumbers}
use Rattle.draft_form.specs.Drawn.{word_name, Names}
use Rattle.scheme_expand.specs.ByWord.{IsIndex}
use Rattle.scheme_expand.specs.Programs.{numbers_of}
use Rattle.scheme_expand.proofs.assemble.known_numbers.Given as goal

abbrev pub invariant-loop-word : goal.invariant-loop-word
invariant-loop-word l =
    record {
      within : AreNumbers l.count l.ids;
      exact : (names : Names) (defined : List (List ℕ)) → IsIndex names defined l.numbers → length defined ≤ l.count
          → l.ids ≡ numbers_of defined (map (word_name names) (take l.word-index l.words));
    }
