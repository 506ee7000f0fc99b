use Rattle.std.proofs.Common.{◌≡◌, replicate}
use Rattle.flow_form.specs.Race.{new_worker}
use Rattle.flow_plain.proofs.race.Race.start.Given as goal

-- the seats so far have nothing
abbrev pub invariant-loop : goal.invariant-loop
invariant-loop l = l.seats.items ≡ replicate l.counter (new_worker l.c)
