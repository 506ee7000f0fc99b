use Rattle.std.proofs.Common.{◌≡◌, ◌+◌, suc, List, sym, ◌∙◌, ap, subst, arith}
use Rattle.scheme_expand.specs.Rewriting.{unnamed}
use Rattle.scheme_expand.specs.Viewed.{IsScope}
use Rattle.scheme_expand.specs.Views.{Bound, put_inside}
use Rattle.scheme_expand.proofs.Scopes.{one_fresh_more}
use Rattle.scheme_expand.proofs.scope.Scope.bind_all_fresh.Goals as goal

pub loop-variable-preserved : goal.loop-variable-preserved
loop-variable-preserved c = λ names bs words h.
    let n = c.loop-variable._variable in
    let next : suc n ≡ n + 1 = omega arith in
    let P : List Bound → Type 0 = λ l. IsScope names c.bind_fresh.new.self l in
    subst P (sym (one_fresh_more n bs) ∙ ap (λ m. put_inside (unnamed m) bs) next)
    (c.in_ok-bind_fresh.ensures names (put_inside (unnamed n) bs) words (c.loop-variable.invariant names bs words h))
