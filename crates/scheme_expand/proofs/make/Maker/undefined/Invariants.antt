use Rattle.std.proofs.Common.{◌≡◌, ℕ, List, length}
use Rattle.draft_form.specs.Drawn.{AllDrawn, Data, Names}
use Rattle.scheme_expand.specs.Rewriting.{undefined}
use Rattle.scheme_expand.specs.Stacks.{Draws}
use Rattle.scheme_expand.proofs.make.Maker.undefined.Given as goal

-- so many constants are drawn
abbrev pub invariant-loop-value : goal.invariant-loop-value
invariant-loop-value l = record {
  kept : Draws l.initial.self l.self;
  drawn :
      (names : Names) (nodes : Data) (xs : List (List ℕ)) → length xs ≡ l._value
      → AllDrawn names nodes l.self.drafts l.values (undefined l.pos xs);
}
