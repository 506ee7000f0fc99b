use Rattle.std.proofs.Common.{◌≡◌, map}
use Rattle.draft_form.specs.Drawn.{Names, name_of}
use Rattle.scheme_expand.proofs.HeldCalls.{fresh_many}
use Rattle.scheme_expand.proofs.make.Maker.held.Given as goal

-- there are as many fresh variables as turns
abbrev pub invariant-loop-index : goal.invariant-loop-index
invariant-loop-index l = (names : Names) → map (name_of names) l.held ≡ fresh_many l.first l.index
