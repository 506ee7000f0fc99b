use Rattle.std.proofs.Common.{sym, subst}
use Rattle.least_set.specs.Search.{IsNext}
use Rattle.least_set.specs.Least.{has}
use Rattle.least_set.proofs.Linking.{least_linked}
use Rattle.least_set.proofs.Nexts.{all_targets_below}
use Rattle.least_set.proofs.links.least_closed.Goals as goal

pub least_led-requires-clause-graph : goal.least_led-requires-clause-graph
least_led-requires-clause-graph c =
    let next = subst (λ xs. IsNext c.args.many c.args.links.now xs) (sym c.as_slice.ensures.value) c.in_ok-next.ensures in
    all_targets_below c.args.many c.args.links.now c.as_slice.result.now c.requires.links next

pub returns-clause-least : goal.returns-clause-least
returns-clause-least c =
    let next = subst (λ xs. IsNext c.args.many c.args.links.now xs) (sym c.as_slice.ensures.value) c.in_ok-next.ensures in
    least_linked c.args.many c.args.starts.now c.args.links.now c.as_slice.result.now (has c.in_ok-set.set) c.requires.links next
    c.in_ok-set.ensures.least
