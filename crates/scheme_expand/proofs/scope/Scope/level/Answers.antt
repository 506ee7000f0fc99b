use Rattle.std.proofs.Common.{◌≡◌, length, arith}
use Rattle.scheme_expand.proofs.Scopes.{is_high}
use Rattle.scheme_expand.proofs.scope.Scope.level.Goals as goal

pub returns : goal.returns
returns c = λ names bs h.
    let high : length c.args.self.now.bound.items ≡ length bs = is_high names c.args.self.now bs h in
    omega (arith, c.in-Ok.ensures, c.len.ensures, c.args.self.now.bound.ok.0)
