-- The definitions so far have numbers.
use Rattle.std.proofs.Common.{◌≡◌, take}
use Rattle.std.specs.Prelude.{map}
use Rattle.draft_form.specs.Drawn.{word_name, Names}
use Rattle.scheme_expand.specs.ByWord.{HaveOneWord, IsIndex}
use Rattle.scheme_expand.proofs.assemble.Whole.numbers.Given as goal

abbrev pub invariant-loop-name : goal.invariant-loop-name
invariant-loop-name l =
    record {
      count : l.number ≡ l.name-index;
      index : (names : Names) → HaveOneWord names (map (word_name names) l.self.defined.now)
          → IsIndex names (map (word_name names) (take l.name-index l.self.defined.now)) l.numbers.items;
    }
