-- A list of numbers for each definition so far.
use Rattle.std.proofs.Common.{◌≡◌, ◌≤◌, ℕ, List, length, take}
use Rattle.prelude_text.specs.Closure.{AreUses}
use Rattle.draft_form.specs.Drawn.{Names, Data}
use Rattle.scheme_expand.specs.ByWord.{IsIndex}
use Rattle.scheme_expand.proofs.UsesInOrder.{AreUsesOf}
use Rattle.scheme_expand.proofs.assemble.Whole.uses.Given as goal

abbrev pub invariant-loop-form : goal.invariant-loop-form
invariant-loop-form l =
    record {
      count : length l.uses ≡ l.form-index;
      within : AreUses l.count l.uses;
      exact : (names : Names) (nodes : Data) (defined : List (List ℕ)) → IsIndex names defined l.numbers → length defined ≤ l.count
          → AreUsesOf names nodes l.self.library.drafts.now defined (take l.form-index l.self.library.forms.now) l.uses;
    }
