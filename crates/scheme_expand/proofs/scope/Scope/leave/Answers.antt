use Rattle.std.proofs.Common.{◌≡◌, ◌-◌, List, drop, length, sym, ◌∙◌, ap, subst, arith}
use Rattle.scheme_expand.specs.Viewed.{IsScope}
use Rattle.scheme_expand.specs.Views.{Bound}
use Rattle.scheme_expand.proofs.Scopes.{drop_one_more, is_high, lowered_is}
use Rattle.scheme_expand.proofs.scope.Scope.leave.Goals as goal

pub loop-variable-preserved : goal.loop-variable-preserved
loop-variable-preserved c = λ names bs words h.
    let n = c.loop-variable._variable in
    let P : List Bound → Type 0 = λ l. IsScope names c.leave_one.new.self l in
    subst P (drop_one_more bs n) (c.leave_one.ensures names (drop n bs) words (c.loop-variable.invariant names bs words h))

pub returns : goal.returns
returns c = λ names bs words h.
    let high : length c.args.self.now.bound.items ≡ length bs = is_high names c.args.self.now bs h in
    let count : c.loop-variable._variable ≡ length bs - c.args.level =
    omega (arith, c.saturating_sub-count.ensures, c.len.ensures, c.args.self.now.bound.ok.0) in
    let P : List Bound → Type 0 = λ l. IsScope names c.loop-variable.self l in
    subst P (ap (λ m. drop m bs) count ∙ sym (lowered_is c.args.level bs)) (c.loop-variable.invariant names bs words h)
