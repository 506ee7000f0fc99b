use Rattle.std.proofs.Common.{◌≡◌, ℕ, List, length}
use Rattle.std.specs.Prelude.{map}
use Rattle.draft_form.specs.Drawn.{name_of, Data, Names}
use Rattle.scheme_expand.specs.Rewriting.{variables}
use Rattle.scheme_expand.specs.Stacks.{Draws}
use Rattle.scheme_expand.proofs.MadeLetrecs.{Assigned}
use Rattle.scheme_expand.proofs.make.Maker.assign_all.Given as goal

-- the variables before those that are left are assigned
abbrev pub invariant-loop-first : goal.invariant-loop-first
invariant-loop-first l = record {
  kept : Draws l.initial.self l.self;
  assigned :
      (names : Names) (nodes : Data) (to : ℕ) (xs : List (List ℕ)) → map (name_of names) l.fn.variables ≡ variables to xs
      → Assigned names nodes l.self.drafts l.pos to l.level l.next l.items l.rest xs;
}

abbrev pub decreases-loop-first : goal.decreases-loop-first
decreases-loop-first l = length l.rest
