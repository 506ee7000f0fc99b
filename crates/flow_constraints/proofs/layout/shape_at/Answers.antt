use Rattle.std.proofs.Common.{◌+◌, ◌<◌, ◌^◌, length, drop, ap, ◌∙◌, rules}
use Rattle.flow_constraints.specs.Census.{cut}
use Rattle.flow_constraints.specs.Quoted.{coming_past, with_coming}
use Rattle.flow_constraints.proofs.CensusTold.{coming_more}
use Rattle.flow_constraints.proofs.layout.shape_at.Goals as goal

pub loop-lit-preserved : goal.loop-lit-preserved
loop-lit-preserved c =
    let lits = c.args.lits.now in
    let lit = c.lit-item.result in
    let before = c.loop-lit.coming in
    let long : length lits < 2 ^ 64 = search rules in
    let others = drop (c.loop-lit.lit-index + 1) lits in
    ap (λ n. with_coming n c.with-shape.result others) c.coming_past-coming.ensures
    ∙ (ap (λ s. with_coming (cut (coming_past before lit)) s others) c.with-shape.ensures
    ∙ (coming_more before c.loop-lit.lit-index c.loop-lit.shape lit lits long c.loop-lit-test.true c.lit-item.is c.if-coming-eq0.false
    ∙ c.loop-lit.invariant))
