use Rattle.std.proofs.Common.{length, sym, subst, ap, ◌∙◌}
use Rattle.flow_constraints.specs.Layout.{flow_of}
use Rattle.least_set.specs.Search.{IsNext}
use Rattle.named_form.specs.Written.{form}
use Rattle.plan_facts.specs.Places.{places_of}
use Rattle.slot_facts.specs.Needs.{makings, references}
use Rattle.slot_facts.proofs.Gathering.{ends_same, makings_same, many_procs, references_same}
use Rattle.slot_facts.proofs.Knowing.{needs_known}
use Rattle.slot_facts.proofs.choice.needs_of.Goals as goal

pub returns-clause-many : goal.returns-clause-many
returns-clause-many c = c.in_ok-lists.ensures.long ∙ ap (λ ps. length ps) c.as_slice-procs.ensures

pub returns-clause-need : goal.returns-clause-need
returns-clause-need c =
    let n = c.args.named.now in
    let f = form n in
    let rows = c.args.rows.now in
    let procs = c.as_slice-procs.result.now in
    let ends = c.in_ok-ends.ends in
    let refs =
    subst (IsNext (length procs) (references (flow_of f) rows (places_of f) ends)) (sym c.as_slice-5.ensures.value)
    (subst (λ ls. IsNext (length procs) ls c.in_ok-referred.referred.items)
    (c.as_slice-2.ensures
    ∙ references_same f rows c.args.flow.now c.args.steps.now ends c.as_slice.result.now c.in_ok-references.references c.requires.flow c.requires.steps
    c.as_slice.ensures c.in_ok-references.ensures)
    c.in_ok-referred.ensures) in
    let makes =
    subst (IsNext (length procs) (makings (flow_of f) rows (places_of f))) (sym c.as_slice-6.ensures.value)
    (subst (λ ls. IsNext (length procs) ls c.in_ok-made.made.items)
    (c.as_slice-3.ensures
    ∙ makings_same f rows c.args.flow.now c.args.steps.now c.in_ok-makings.makings c.requires.flow c.requires.steps c.in_ok-makings.ensures)
    c.in_ok-made.ensures) in
    λ w. needs_known f rows ends c.as_slice-4.result.now c.as_slice-5.result.now c.as_slice-6.result.now c.in_ok-lists.lists.items (length procs) w
    (c.as_slice-4.ensures ∙ c.in_ok-free.ensures w) (ends_same n procs ends c.as_slice-procs.ensures c.in_ok-ends.ensures)
    (many_procs n procs c.as_slice-procs.ensures) refs makes c.in_ok-lists.ensures
