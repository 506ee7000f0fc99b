use Rattle.std.proofs.Common.{ap, sym, subst, ◌∙◌}
use Rattle.rv_emulator.specs.States.{IsCached}
use Rattle.rv_emulator.proofs.StopsAtTraps.{stopped_plays, whole_plays}
use Rattle.rv_emulator.proofs.machine.Machine.run.Goals as goal

pub returns-in-Some-clause-plays : goal.returns-in-Some-clause-plays
returns-in-Some-clause-plays g c =
    stopped_plays c.args.self.now c.in-Some.end c.args.steps _ (ap (λ held. held.end) (sym c.self.view_is) ∙ c.in-Some.is)

pub go_on-gone-requires : goal.go_on-gone-requires
go_on-gone-requires g c =
    subst (IsCached c.self.inside.memory c.self.inside.code.base) (sym c.deref.ensures.value) c.self.invariant

pub invariant_of-self : goal.invariant_of-self
invariant_of-self g c =
    subst (IsCached c.go_on-gone.new.memory c.self.inside.code.base) c.deref.ensures.value c.go_on-gone.ensures.cached

pub returns-clause-plays : goal.returns-clause-plays
returns-clause-plays g c =
    whole_plays c.args.self.now c.args.steps c.self.inside.pc c.go_on-gone.result.pc c.self.inside.registers c.go_on-gone.new.registers
    c.self.inside.memory c.go_on-gone.new.memory c.self.inside.end c.go_on-gone.result.end _ _ c.in_default.is c.self.view_is
    c.go_on-gone.ensures.plays
