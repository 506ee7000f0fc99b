use Rattle.std.proofs.Common.{◌≡◌, ◌-◌, length, map, ap, ◌∙◌, arith}
use Rattle.std.proofs.lemmas.Grind.{common_steps}
use Rattle.std.proofs.lemmas.Result.{IfOk-weaker}
use Rattle.named_form.specs.Written.{form, procedure}
use Rattle.flow_constraints.specs.Layout.{flow_of, joined, laid_all}
use Rattle.flow_constraints.specs.Quoted.{quoted_all}
use Rattle.flow_constraints.proofs.LaidOut.{flow_is}
use Rattle.flow_constraints.proofs.layout.flow_of.Goals as goal

pub returns : goal.returns
returns c =
    let n = c.args.named.now in
    let closures = c.in_ok-closures.closures in
    let laid = c.lay_all.new.layout in
    let kinds = c.in_ok-kinds.kinds in
    let literals = c.lay_all-2.new.self in
    let many : closures ≡ length n.procs - 1 = grind (arith, common_steps) in
    let begun = c.in_ok-layout.layout in
    let lays = c.in_ok-lay_all.ensures ∙ ap (λ ps. laid_all (map procedure ps) begun) c.as_slice-procs.ensures in
    let quotes =
    c.in_ok-lay_all-2.ensures
    ∙ (ap (λ ls. quoted_all ls c.new-quoted.result) c.as_slice.ensures ∙ ap (quoted_all n.lits) c.new-quoted.ensures) in
    IfOk-weaker c.joined.result (λ flow. flow ≡ joined laid literals) (λ flow. flow ≡ flow_of (form n))
    (λ flow. flow_is n closures begun laid kinds literals flow many c.in_ok-layout.ensures lays c.in_ok-kinds.ensures quotes)
    c.joined.ensures
