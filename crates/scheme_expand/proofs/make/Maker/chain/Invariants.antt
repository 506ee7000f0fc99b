use Rattle.std.proofs.Common.{length}
use Rattle.draft_form.specs.Drawn.{Names, Data}
use Rattle.scheme_expand.specs.Making.{comparing}
use Rattle.scheme_expand.specs.Stacks.{Draws}
use Rattle.scheme_expand.proofs.HeldCalls.{Chains}
use Rattle.scheme_expand.proofs.make.Maker.chain.Given as goal

-- the comparisons from the next variable on are made
abbrev pub invariant-loop-last : goal.invariant-loop-last
invariant-loop-last l = record {
  adds : Draws l.fn.self l.self;
  chains : (names : Names) (nodes : Data)
      → Chains names nodes l.self.drafts l.fn.pos (comparing l.fn.comparison) l.rest l.next l.all l.fn.held;
}

abbrev pub decreases-loop-last : goal.decreases-loop-last
decreases-loop-last l = length l.rest
