use Rattle.std.proofs.Common.{◌≡◌, ◌++◌, drop, map}
use Rattle.std.specs.Prelude.{slice_get}
use Rattle.flow_constraints.specs.Rows.{continuing, number_at}
use Rattle.flow_constraints.specs.Table.{calling, within}
use Rattle.flow_constraints.proofs.calls.put_resume.Given as goal

abbrev pub invariant-loop-atom : goal.invariant-loop-atom
invariant-loop-atom l =
    l.rules ++ map (λ a. within (calling l.site a) l.operand (number_at l.flow.vars (continuing (slice_get l.flow.kinds a)))) (drop l.atom-index l.atom-items)
    ≡ l.initial.rules ++ map (λ a. within (calling l.site a) l.operand (number_at l.flow.vars (continuing (slice_get l.flow.kinds a)))) l.atom-items
