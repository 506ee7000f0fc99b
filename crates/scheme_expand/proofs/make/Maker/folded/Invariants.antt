use Rattle.std.proofs.Common.{length}
use Rattle.draft_form.specs.Drafts.{Draft}
use Rattle.draft_form.specs.Drawn.{Names, Data, Drawn}
use Rattle.scheme_expand.specs.Calls.{folded}
use Rattle.scheme_expand.specs.Rewritten.{refs}
use Rattle.scheme_expand.specs.Stacks.{Draws}
use Rattle.scheme_expand.proofs.HeldCalls.{Folds}
use Rattle.scheme_expand.proofs.make.Maker.folded.Given as goal

-- the operations with the variables that are left come to the whole
abbrev pub invariant-loop-next : goal.invariant-loop-next
invariant-loop-next l = record {
  adds : Draws l.fn.self l.self;
  folds : (names : Names) (nodes : Data) (e : Draft) → Drawn names nodes l.fn.self.drafts l.fn.first e
      → Folds names nodes l.self.drafts l.fn.pos l.fn.op l.rest l.value (folded l.fn.pos l.fn.op e (refs names l.fn.pos l.fn.held));
}

abbrev pub decreases-loop-next : goal.decreases-loop-next
decreases-loop-next l = length l.rest
