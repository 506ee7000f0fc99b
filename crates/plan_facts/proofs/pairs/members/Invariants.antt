use Rattle.std.proofs.Common.{◌≡◌, ◌++◌, ◌-◌, ◌*◌}
use Rattle.std.specs.List.{filter}
use Rattle.named_form.specs.Valid.{numbers_from}
use Rattle.plan_facts.specs.Pairs.{holds, members_of}
use Rattle.plan_facts.proofs.pairs.members.Given as goal

abbrev pub invariant-loop-at : goal.invariant-loop-at
invariant-loop-at l =
    l.atoms ++ filter (holds l.rows l.row) (numbers_from (l.at * 64) (l.rows.stride * 64 - l.at * 64)) ≡ members_of l.rows l.row
