use Rattle.alpha_core.proofs.Scopes.{bound}
use Rattle.alpha_core.proofs.scope.Scope.bind.Goals as goal

pub returns : goal.returns
returns c =
    λ ρ h.
    bound c.args.self.now (record { bindings = c.push.new.self; innermost = c.insert.new.self })
    (record { var = c.args.var; number = c.args.number; outer = c.find-outer.result }) c.of.result ρ h c.in_ok-push.ensures.items
    c.of.ensures c.in_ok-insert.ensures.updates.0 (c.find-outer.ensures ρ h)
