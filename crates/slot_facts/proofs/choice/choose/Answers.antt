use Rattle.std.proofs.Common.{length, subst, ap, ◌∙◌}
use Rattle.slot_facts.specs.Choice.{placed_by}
use Rattle.slot_facts.specs.Graph.{Found}
use Rattle.slot_facts.proofs.Gathering.{chosen_same}
use Rattle.slot_facts.proofs.choice.choose.Goals as goal

pub returns : goal.returns
returns c =
    let n = length c.args.procs.now in
    let compared = c.args.compared.now in
    let values = c.args.values.now in
    let needed = c.args.needed.now in
    let own = c.in_ok-own.own.items in
    let marks = c.in_ok-marks.marks.items in
    let met = c.in_ok-met.met.items in
    record {
      own = own;
      marks = marks;
      met = met;
      owned = c.in_ok-own.ensures;
      found = subst (λ xs. Found n compared values needed xs marks) c.as_slice.ensures.value c.in_ok-marks.ensures;
      met_are = c.in_ok-met.ensures;
      chosen =
          chosen_same c.in_ok-slots.slots n needed values own c.as_slice-3.result.now (placed_by n (length values) marks) c.as_slice-4.result.now
          met c.as_slice-5.result.now c.in_ok-slots.ensures c.as_slice-3.ensures.value
          (c.as_slice-4.ensures.value ∙ (c.in_ok-placed.ensures ∙ ap (placed_by n (length values)) c.as_slice-2.ensures.value))
          c.as_slice-5.ensures.value c.in_ok-met.ensures.long;
    }
