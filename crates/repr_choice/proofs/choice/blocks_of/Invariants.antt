use Rattle.std.proofs.Common.{◌≡◌, ◌++◌, ◌-◌, map}
use Rattle.named_form.specs.Valid.{numbers_from}
use Rattle.plan_facts.specs.Calls.{is_reached}
use Rattle.repr_choice.proofs.choice.blocks_of.Given as goal

abbrev pub invariant-loop-block : goal.invariant-loop-block
invariant-loop-block l =
    l.flags ++ map (is_reached l.flow l.rows) (numbers_from l.block (l.many - l.block))
    ≡ map (is_reached l.flow l.rows) (numbers_from 0 l.many)
