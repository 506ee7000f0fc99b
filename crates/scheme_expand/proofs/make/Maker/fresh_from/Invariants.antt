use Rattle.std.proofs.Common.{◌≡◌}
use Rattle.std.specs.Prelude.{map}
use Rattle.draft_form.specs.Drawn.{name_of, Names}
use Rattle.scheme_expand.specs.Rewriting.{unnamed, variables}
use Rattle.scheme_expand.proofs.make.Maker.fresh_from.Given as goal

-- so many are there
abbrev pub invariant-loop-index : goal.invariant-loop-index
invariant-loop-index l = (names : Names) → map (name_of names) l.fresh ≡ variables l.level (unnamed l.index)
