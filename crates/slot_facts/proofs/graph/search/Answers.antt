use Rattle.std.proofs.Common.{◌≡◌, true, length, sym, subst, ◌∙◌}
use Rattle.least_set.specs.Least.{IsClosed, IsLeast, all_below, has, links_below}
use Rattle.slot_facts.specs.Graph.{all_links, all_starts, value_at}
use Rattle.slot_facts.specs.Marks.{MarksOf, is_marked}
use Rattle.slot_facts.proofs.Bounded.{links_are_below, starts_below}
use Rattle.slot_facts.proofs.graph.search.Goals as goal

pub least_closed-requires-clause-starts : goal.least_closed-requires-clause-starts
least_closed-requires-clause-starts c =
    let n = c.args.procs in
    let values = c.args.values.now in
    let starts = all_starts n (length values) c.args.compared.now (value_at values) in
    subst (λ xs. all_below c.in_ok-many.many xs ≡ true) (sym (c.as_slice.ensures ∙ c.in_ok-starts.ensures))
    (subst (λ m. all_below m starts ≡ true) (sym c.in_ok-many.ensures) (starts_below n c.args.compared.now values c.requires.compared))

pub least_closed-requires-clause-links : goal.least_closed-requires-clause-links
least_closed-requires-clause-links c =
    let n = c.args.procs in
    let values = c.args.values.now in
    let own = is_marked c.args.own.now in
    let links = all_links n (length values) (value_at values) own c.args.needed.now in
    subst (λ xs. links_below c.in_ok-many.many xs ≡ true) (sym (c.as_slice-2.ensures ∙ c.in_ok-links.ensures))
    (subst (λ m. links_below m links ≡ true) (sym c.in_ok-many.ensures)
    (links_are_below n values own c.args.needed.now c.requires.closures c.requires.needed))

pub returns : goal.returns
returns c =
    let n = c.args.procs in
    let values = c.args.values.now in
    let own = is_marked c.args.own.now in
    let found = c.in_ok-found.found in
    record {
      nodes = found;
      least =
          subst (λ xs. IsLeast (IsClosed xs (all_links n (length values) (value_at values) own c.args.needed.now)) (has found))
          (c.as_slice.ensures ∙ c.in_ok-starts.ensures)
          (subst (λ ls. IsLeast (IsClosed c.as_slice.result.now ls) (has found)) (c.as_slice-2.ensures ∙ c.in_ok-links.ensures)
          c.in_ok-found.ensures.least);
      marked =
          subst (λ m. MarksOf m found c.in_ok-marks.marks.items) c.in_ok-many.ensures
          (subst (λ xs. MarksOf c.in_ok-many.many xs c.in_ok-marks.marks.items) c.as_slice-3.ensures c.in_ok-marks.ensures);
      below = subst (λ m. all_below m found ≡ true) c.in_ok-many.ensures c.in_ok-found.ensures.rises.below;
    }
