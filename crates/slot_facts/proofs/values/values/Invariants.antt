use Rattle.std.proofs.Common.{◌≡◌, ◌++◌, ◌-◌, length, map}
use Rattle.named_form.specs.Valid.{numbers_from}
use Rattle.slot_facts.specs.Values.{stated_of}
use Rattle.slot_facts.proofs.values.values.Given as goal

abbrev pub invariant-loop-var : goal.invariant-loop-var
invariant-loop-var l =
    l.values ++ map (stated_of l.procs l.flow l.rows) (numbers_from l.var (length l.flow.vars - l.var))
    ≡ map (stated_of l.procs l.flow l.rows) (numbers_from 0 (length l.flow.vars))
