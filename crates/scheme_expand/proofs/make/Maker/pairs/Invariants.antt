use Rattle.std.proofs.Common.{length}
use Rattle.draft_form.specs.Drawn.{Names, Data}
use Rattle.scheme_expand.specs.Stacks.{Draws}
use Rattle.scheme_expand.proofs.HeldCalls.{ListsBehind}
use Rattle.scheme_expand.proofs.make.Maker.pairs.Given as goal

-- the list of the variables behind those that are left is made
abbrev pub invariant-loop-last : goal.invariant-loop-last
invariant-loop-last l = record {
  adds : Draws l.fn.self l.self;
  lists : (names : Names) (nodes : Data) → ListsBehind names nodes l.self.drafts l.fn.pos l.rest l.list l.fn.held;
}

abbrev pub decreases-loop-last : goal.decreases-loop-last
decreases-loop-last l = length l.rest
