use Rattle.std.proofs.Common.{◌≡◌, ◌<◌, ◌^◌, length, ap, ◌∙◌, rules, inl, inr, ◌⊎◌}
use Rattle.flow_constraints.specs.Census.{counted_object}
use Rattle.flow_constraints.specs.Quoted.{shape_of}
use Rattle.flow_constraints.proofs.CensusTold.{lits_on}
use Rattle.flow_constraints.proofs.census.Census.lits.Goals as goal
use Rattle.flow_constraints.proofs.census.Census.lits.Goals.{then-coming-eq0, else-coming-eq0}

pub loop-lit-preserved : goal.loop-lit-preserved
loop-lit-preserved c =
    let left = c.loop-lit.left.now in
    let census = c.loop-lit.census in
    let few : length c.in-Some.others.now < 2 ^ 64 = search rules in
    let cases :
    ((c.loop-lit.coming ≡ 0) × (c.if-coming-eq0.coming ≡ 1) × (c.if-coming-eq0.census ≡ counted_object (shape_of left) census))
    ⊎ ((c.loop-lit.coming ≡ 0 → ⊥) × (c.if-coming-eq0.coming ≡ c.loop-lit.coming) × (c.if-coming-eq0.census ≡ census)) =
    elim c.if-coming-eq0.branch [
      | then-coming-eq0 w ↦
          inl (w.if-coming-eq0.true, w.coming-is, w.census-is ∙ (w.object-census.ensures ∙ ap (λ s. counted_object s census) w.shape_at.ensures))
      | else-coming-eq0 w ↦ inr (w.if-coming-eq0.false, w.coming-is, w.census-is)
    ]
    in
    lits_on c.in-Some.lit.now c.in-Some.others.now left c.loop-lit.coming c.if-coming-eq0.coming c.coming_past-coming.result census
    c.if-coming-eq0.census _ c.in-Some.ensures.cases.0 few c.coming_past-coming.ensures c.loop-lit.invariant cases
