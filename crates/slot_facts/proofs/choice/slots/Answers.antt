use Rattle.std.proofs.Common.{◌≡◌, true, length, map, sym, subst, ap, ◌∙◌}
use Rattle.least_set.specs.Least.{all_below}
use Rattle.named_form.specs.Valid.{WellFormed}
use Rattle.named_form.specs.Written.{form, procedure}
use Rattle.slot_facts.specs.Choice.{own_vars}
use Rattle.slot_facts.specs.Graph.{AllClose}
use Rattle.slot_facts.proofs.Gathering.{Gathered, below_procs, chosen_of, close_procs, slots_exact, slots_fit}
use Rattle.slot_facts.proofs.choice.slots.Goals as goal

pub choose-requires-clause-compared : goal.choose-requires-clause-compared
choose-requires-clause-compared c =
    let procs = c.as_slice-procs.result.now in
    subst (λ xs. all_below (length procs) xs ≡ true) (sym c.as_slice-2.ensures)
    (below_procs c.args.named.now c.args.rows.now procs c.in_ok-flow.flow c.as_slice-steps.result.now c.in_ok-compared.compared c.as_slice-procs.ensures
    c.in_ok-flow.ensures (c.as_slice-steps.ensures ∙ c.in_ok-listed.ensures.steps) c.in_ok-compared.ensures)

pub choose-requires-clause-closures : goal.choose-requires-clause-closures
choose-requires-clause-closures c =
    let procs = c.as_slice-procs.result.now in
    subst (AllClose (length procs)) (sym c.as_slice-3.ensures)
    (close_procs c.args.named.now c.args.rows.now procs c.in_ok-flow.flow c.in_ok-values.values c.as_slice-procs.ensures c.in_ok-flow.ensures
    c.in_ok-values.ensures)

pub choose-requires-clause-needed : goal.choose-requires-clause-needed
choose-requires-clause-needed c =
    ap (λ xs. length xs) c.as_slice-4.ensures.value ∙ (c.in_ok-needed.ensures.many ∙ ap (λ ps. length ps) (sym c.as_slice-procs.ensures))

pub returns : goal.returns
returns c =
    let n = c.args.named.now in
    let rows = c.args.rows.now in
    let capturing = c.args.capturing.now in
    let procs = c.as_slice-procs.result.now in
    let slots = c.in_ok-slots.slots in
    let chosen =
    chosen_of (length procs) (own_vars (map procedure procs) capturing) (own_vars (map procedure procs) c.as_slice.result.now)
    c.in_ok-compared.compared c.as_slice-2.result.now c.in_ok-values.values c.as_slice-3.result.now c.in_ok-needed.needed.items c.as_slice-4.result.now
    slots (ap (own_vars (map procedure procs)) c.as_slice.ensures) c.as_slice-2.ensures c.as_slice-3.ensures c.as_slice-4.ensures.value
    c.in_ok-slots.ensures in
    let gathered : WellFormed (form n) → Gathered n rows capturing slots =
    λ w. record {
      procs = procs;
      flow = c.in_ok-flow.flow;
      steps = c.as_slice-steps.result.now;
      needed = c.in_ok-needed.needed.items;
      compared = c.in_ok-compared.compared;
      values = c.in_ok-values.values;
      same_procs = c.as_slice-procs.ensures;
      same_flow = c.in_ok-flow.ensures;
      same_steps = c.as_slice-steps.ensures ∙ c.in_ok-listed.ensures.steps;
      need = c.in_ok-needed.ensures.need w;
      compared_are = c.in_ok-compared.ensures;
      values_are = c.in_ok-values.ensures;
      chosen = chosen;
    } in
    record {
      exact = λ w. slots_exact n rows capturing slots (gathered w);
      fits = λ w. slots_fit n rows capturing slots (gathered w);
    }
