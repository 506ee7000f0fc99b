use Rattle.std.proofs.Common.{◌≡◌, ◌-◌, ◌++◌}
use Rattle.named_form.specs.Valid.{numbers_from}
use Rattle.named_form.proofs.plain.numbers.Given as goal

abbrev pub invariant-loop-number : goal.invariant-loop-number
invariant-loop-number l =
    l.numbers ++ numbers_from l.number (l.past - l.number) ≡ numbers_from l.first (l.past - l.first)
