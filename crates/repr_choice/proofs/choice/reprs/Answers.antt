use Rattle.std.proofs.Common.{ap, ◌∙◌, length, map}
use Rattle.flow_constraints.specs.Layout.{flow_of}
use Rattle.named_form.specs.Valid.{numbers_from}
use Rattle.named_form.specs.Written.{form, procedure}
use Rattle.plan_facts.specs.Calls.{is_reached}
use Rattle.plan_facts.specs.Represented.{repr_of, use_in}
use Rattle.repr_choice.proofs.Whole.{are_reprs}
use Rattle.repr_choice.proofs.choice.reprs.Goals as goal

pub returns : goal.returns
returns c =
    let f = form c.args.named.now in
    let rows = c.args.rows.now in
    let flow = c.in_ok-flow.ensures in
    let many = c.in_ok-found.found.totals.blocks in
    are_reprs f rows c.args.slots.now c.in_ok-vars.vars c.in_ok-blocks.blocks c.in_ok-steps.steps many
    (c.in_ok-vars.ensures
    ∙ (ap (λ g. map (repr_of g rows c.as_slice.result.now) (numbers_from 0 (length g.vars))) flow
    ∙ ap (λ xs. map (repr_of (flow_of f) rows xs) (numbers_from 0 (length (flow_of f).vars))) c.as_slice.ensures))
    (ap (λ n. n.blocks) c.in_ok-found.ensures.totals)
    (c.in_ok-blocks.ensures ∙ ap (λ g. map (is_reached g rows) (numbers_from 0 many)) flow)
    (c.in_ok-steps.ensures
    ∙ (ap (λ ps. map (use_in (map procedure ps) c.in_ok-flow.flow rows) c.as_slice-3.result.now) c.as_slice-2.ensures
    ∙ (ap (λ g. map (use_in f.procs g rows) c.as_slice-3.result.now) flow
    ∙ ap (λ ps. map (use_in f.procs (flow_of f) rows) ps) (c.as_slice-3.ensures ∙ c.in_ok-found.ensures.steps))))
