use Rattle.std.proofs.Common.{rules, arith}
use Rattle.alpha_core.proofs.Scopes.{emptied, left_one}
use Rattle.alpha_core.proofs.scope.Scope.leave.Goals as goal

pub loop-self-preserved : goal.loop-self-preserved
loop-self-preserved c =
    λ inner ρ h size.
    let inv = c.loop-self.invariant inner ρ h size in
    left_one c.loop-self.self (record { bindings = c.pop.new.self; innermost = c.insert.new.self }) c.in-Some.last c.of.result
    inv.0 ρ inv.1 (omega (arith, size, c.loop-self-test.true, c.len.ensures, c.loop-self.self.bindings.ok.0)) (search rules) c.of.ensures c.in_ok-insert.ensures.updates.0

pub returns-after-loop-self : goal.returns-after-loop-self
returns-after-loop-self c =
    λ inner ρ h size.
    let inv = c.loop-self.invariant inner ρ h size in
    emptied c.loop-self.self inv.0 ρ inv.1 (omega (arith, size, c.loop-self-test.false, c.len.ensures, c.loop-self.self.bindings.ok.0))
