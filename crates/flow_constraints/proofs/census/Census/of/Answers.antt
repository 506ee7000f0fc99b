use Rattle.std.proofs.Common.{◌≡◌, ◌<◌, ◌^◌, map, ap, ◌∙◌, rules, arith}
use Rattle.named_form.specs.Written.{form, procedure}
use Rattle.flow_constraints.specs.declared.census.Census.{Census}
use Rattle.flow_constraints.specs.Census.{counted_lits, counted_procs}
use Rattle.flow_constraints.proofs.CensusTold.{census_is}
use Rattle.flow_constraints.proofs.census.Census.of.Goals as goal

pub returns : goal.returns
returns c =
    let n = c.args.named.now in
    let small : n.tops < 2 ^ 32 = search rules in
    let begun : Census = record { rows = c.from.result; atoms = c.from-2.result } in
    let fixed : Census = record { rows = n.tops; atoms = 10 } in
    let same : begun ≡ fixed = λ i. record { rows = c.from.ensures i; atoms = c.from-2.ensures i } in
    let whole =
    census_is (form n) (omega (arith, small)) c.lits.result
    (c.lits.ensures
    ∙ (ap (λ ls. counted_lits ls 0 c.procs.result) c.as_slice-2.ensures
    ∙ ap (counted_lits n.lits 0)
    (c.procs.ensures
    ∙ (ap (λ ps. counted_procs (map procedure ps) begun) c.as_slice.ensures ∙ ap (counted_procs (map procedure n.procs)) same))))
    in
    record { rows = whole.0; atoms = whole.1 }
