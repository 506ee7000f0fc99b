use Rattle.std.proofs.Common.{◌≡◌, ◌++◌, ◌-◌, length, map}
use Rattle.named_form.specs.Valid.{numbers_from}
use Rattle.plan_facts.specs.Represented.{repr_of}
use Rattle.repr_choice.proofs.choice.vars_of.Given as goal

abbrev pub invariant-loop-var : goal.invariant-loop-var
invariant-loop-var l =
    l.vars ++ map (repr_of l.flow l.rows l.fictions) (numbers_from l.var (length l.flow.vars - l.var))
    ≡ map (repr_of l.flow l.rows l.fictions) (numbers_from 0 (length l.flow.vars))
