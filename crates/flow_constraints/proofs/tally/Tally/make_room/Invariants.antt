use Rattle.std.proofs.Common.{◌≡◌, suc, ◌-◌, vec_len}
use Rattle.flow_constraints.specs.declared.flow.Flow.{Flow as Facts}
use Rattle.flow_constraints.specs.Counting.{Remembers}
use Rattle.flow_constraints.proofs.tally.Tally.make_room.Given as goal

abbrev pub invariant-loop-self : goal.invariant-loop-self
invariant-loop-self l =
    record {
      rules : l.self.rules ≡ l.initial.self.rules;
      remembers : (flow : Facts) → Remembers flow l.initial.self → Remembers flow l.self;
    }

abbrev pub decreases-loop-self : goal.decreases-loop-self
decreases-loop-self l = suc l.operands - vec_len l.self.entering
