use Rattle.std.proofs.Common.{rules, true, ap, ◌∙◌}
use Rattle.named_form.specs.Code.{labelled}
use Rattle.named_form.specs.Written.{code, procedure}
use Rattle.closure_conv.specs.FlatOf.{flat_code, part, parts}
use Rattle.closure_conv.specs.Tables.{counts, scene}
use Rattle.closure_conv.proofs.Programs.{proc_is}
use Rattle.closure_conv.proofs.program.running.Goals as goal

pub returns-clause-flat : goal.returns-clause-flat
returns-clause-flat c =
    let σ = scene c.args.plan.now c.args.tables.now in
    let p = c.args.proc.now in
    proc_is c.args.plan.now c.args.tables.now (counts c.args.at.now) c.args.list_site (procedure p) _ c.requires
    c.is_block_reached-reached.ensures c.contains.ensures c.in_ok-frame_slots.ensures (search rules) c.greatest.ensures
    (c.in_ok-parts.ensures.parts
    ∙ ap (λ at. parts c.is_block_reached-reached.result (part σ p.params p.rest c.args.list_site (flat_code σ (labelled at true (code p.body)))))
    c.in_ok-at.ensures)
