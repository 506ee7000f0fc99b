use Rattle.std.proofs.Common.{◌≡◌, ◌+◌, ◌++◌, ◌-◌, ◌*◌}
use Rattle.std.specs.List.{filter}
use Rattle.named_form.specs.Valid.{numbers_from}
use Rattle.plan_facts.specs.Pairs.{holds}
use Rattle.plan_facts.proofs.pairs.put_word.Given as goal

abbrev pub invariant-loop-atom : goal.invariant-loop-atom
invariant-loop-atom l =
    l.atoms ++ filter (holds l.rows l.row) (numbers_from l.atom (l.at * 64 + 64 - l.atom))
    ≡ l.initial.atoms ++ filter (holds l.rows l.row) (numbers_from (l.at * 64) 64)
