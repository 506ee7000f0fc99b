use Rattle.std.proofs.Common.{◌≡◌, vec_len}
use Rattle.named_form.proofs.free.no_variables.Given as goal

abbrev pub invariant-loop : goal.invariant-loop
invariant-loop l = vec_len l.lists ≡ l.counter
