use Rattle.std.proofs.Common.{◌∙◌}
use Rattle.stalin_outside.proofs.Counting.{list_any-lists}
use Rattle.stalin_outside.proofs.calls.Calls.count.Goals as goal

pub returns-clause-answer : goal.returns-clause-answer
returns-clause-answer c =
    c.contains.ensures.value
    ∙ list_any-lists c.as_slice.result.now c.saturating_add-self.result
    ∙ cc
