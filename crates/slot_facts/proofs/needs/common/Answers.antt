use Rattle.std.proofs.Common.{sym, subst}
use Rattle.std.proofs.lemmas.List.Sorted.{IsNonDecreasingBy-from_sort}
use Rattle.std.specs.List.Sorted.{IsNonDecreasingBy}
use Rattle.slot_facts.proofs.Searching.{all_common}
use Rattle.slot_facts.proofs.needs.common.Goals as goal

pub is_among-requires : goal.is_among-requires
is_among-requires c =
    subst (IsNonDecreasingBy (λ y. y)) (sym c.as_slice.ensures.value)
    (IsNonDecreasingBy-from_sort (λ y. y) c.sort.new.self.items c.in_ok-sort.ensures.sorted)

pub returns : goal.returns
returns c =
    all_common c.args.variables.now c.loop-var.both c.sort.new.self.items c.args.wanted.items c.loop-var.var-index
    c.loop-var-test.false c.in_ok-sort.ensures.permutation c.loop-var.invariant
