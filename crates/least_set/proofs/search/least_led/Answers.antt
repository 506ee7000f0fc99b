use Rattle.std.proofs.Common.{sym, subst, ap, ◌∙◌, arith}
use Rattle.least_set.specs.Least.{IsSet, all_below}
use Rattle.least_set.specs.Search.{Grows, trues}
use Rattle.least_set.proofs.Marked.{is_set}
use Rattle.least_set.proofs.Spreading.{least_led}
use Rattle.least_set.proofs.search.least_led.Goals as goal

pub returns-clause-least : goal.returns-clause-least
returns-clause-least g c =
    let grows = subst (λ xs. Grows c.args.starts.now xs c.mark_all.new.found) c.new-found.ensures c.in_ok-mark_all.ensures.grows in
    least_led (g.G.Graph.leads c.args.graph.now) c.args.starts.now c.spread.new.marks.items c.mark_all.new.found c.spread.new.found
    c.in_ok-set.set grows c.in_ok-spread.ensures.spread c.in_ok-spread.ensures.tells
    (c.in_ok-set.ensures ∙ ap (trues 0) c.as_slice.ensures.value)

pub returns-clause-rises : goal.returns-clause-rises
returns-clause-rises g c =
    let same = c.in_ok-set.ensures ∙ ap (trues 0) c.as_slice.ensures.value in
    subst (λ xs. IsSet c.args.many xs) (sym same)
    (is_set c.args.many c.spread.new.marks.items
    (omega (arith, c.in_ok-spread.ensures.size, c.in_ok-mark_all.ensures.size, c.in_ok-marks.ensures.len, c.spread.new.marks.ok.0)))
