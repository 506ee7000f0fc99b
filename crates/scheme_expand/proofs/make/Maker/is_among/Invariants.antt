use Rattle.std.proofs.Common.{◌≡◌, suc, List, length}
use Rattle.scheme_base.specs.Constants.{Constant}
use Rattle.draft_form.specs.Drawn.{Data, Names}
use Rattle.scheme_expand.specs.Rewriting.{level, Scope}
use Rattle.scheme_expand.specs.Stacks.{Draws}
use Rattle.scheme_expand.proofs.MadeTests.{AreHeld, Tested}
use Rattle.scheme_expand.proofs.make.Maker.is_among.Given as goal

-- the comparisons with the data behind those that are left are made
abbrev pub invariant-loop-id : goal.invariant-loop-id
invariant-loop-id l = record {
  kept : Draws l.fn.self l.self;
  tested :
      (names : Names) (nodes : Data) (s : Scope) (qs : List Constant) → AreHeld nodes l.fn.ids qs → level s ≡ suc l.level
      → Tested names nodes l.self.drafts l.pos l.level s qs l.rest l.test;
}

abbrev pub decreases-loop-id : goal.decreases-loop-id
decreases-loop-id l = length l.rest
