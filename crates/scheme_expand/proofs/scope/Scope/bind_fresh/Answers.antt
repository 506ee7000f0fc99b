use Rattle.std.proofs.Common.{refl}
use Rattle.scheme_expand.proofs.Scopes.{fresh_bound}
use Rattle.scheme_expand.proofs.scope.Scope.bind_fresh.Goals as goal

pub returns : goal.returns
returns c = λ names bs words h. fresh_bound names c.args.self.now _ bs words h c.in_ok-push.ensures.items refl
