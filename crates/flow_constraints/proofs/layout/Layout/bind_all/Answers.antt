use Rattle.std.proofs.Common.{◌≡◌, ◌+◌, ◌<◌, ℕ, List, length, drop, sym, ap, ◌∙◌, arith}
use Rattle.std.proofs.lemmas.List.{at_drop_more}
use Rattle.flow_constraints.specs.declared.layout.Layout.{Layout}
use Rattle.flow_constraints.specs.Layout.{bound, bound_all}
use Rattle.flow_constraints.proofs.layout.Layout.bind_all.Goals as goal

bound_more : (vars : List ℕ) (n : ℕ) (t : Layout) → n < length vars
    → bound_all (drop (n + 1) vars) (bound t) ≡ bound_all (drop n vars) t
bound_more vars n t h = sym (at_drop_more (λ xs. bound_all xs t) vars n 0 h)

pub loop-preserved : goal.loop-preserved
loop-preserved c =
    let vars = c.args.vars.now in
    let within : c.loop.index < length vars = omega arith in
    ap (bound_all (drop (c.loop.index + 1) vars)) c.in_ok-bind.ensures
    ∙ (bound_more vars c.loop.index c.loop.self within ∙ c.loop.invariant)
