use Rattle.std.proofs.Common.{is_some, sym, ap, ◌∙◌}
use Rattle.scheme_expand.specs.Making.{known_draft}
use Rattle.scheme_expand.proofs.KnownCalls.{compare_takes}
use Rattle.scheme_expand.proofs.words.Known.takes.Goals as goal

pub returns-in-Compare : goal.returns-in-Compare
returns-in-Compare c = λ p k es n.
    compare_takes p k c.in-Compare.field-0 es c.args.count n ∙ ap (λ x. is_some (known_draft p k x es)) (sym c.in-Compare.is)
