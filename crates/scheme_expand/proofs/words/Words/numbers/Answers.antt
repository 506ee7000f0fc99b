use Rattle.std.proofs.Common.{refl, ◌∙◌}
use Rattle.scheme_expand.specs.Naming.{name_list}
use Rattle.scheme_expand.proofs.Numbering.{none_named, one_named, all_named, no_nodes}
use Rattle.scheme_expand.proofs.words.Words.numbers.Goals as goal

pub loop-first-init : goal.loop-first-init
loop-first-init c = (none_named (name_list c.args.self.now) _ c.args.nodes.now c.new-numbers.ensures.items, refl)

pub loop-first-preserved : goal.loop-first-preserved
loop-first-preserved c = (
  one_named _ _ _ _ _ _ _ _ _ c.in-Some.first.now c.loop-first.invariant.0 c.in-Some.ensures.cases.0 c.in_ok-push.ensures.items
      c.in_ok-number.ensures.grows c.in_ok-number.ensures.word,
  c.in_ok-number.ensures.helpers ∙ c.loop-first.invariant.1,
)

pub returns-clause-names : goal.returns-clause-names
returns-clause-names c = all_named _ _ _ _ _ c.loop-first.invariant.0 (no_nodes _ c.in_default.ensures.cases)

pub returns-clause-helpers : goal.returns-clause-helpers
returns-clause-helpers c = c.loop-first.invariant.1
