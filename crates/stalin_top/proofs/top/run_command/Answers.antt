use Rattle.std.proofs.Common.{refl}
use Rattle.stalin_top.proofs.Emulations.{emulates}
use Rattle.stalin_top.proofs.NumbersTold.{no_fault, prints_numbers}
use Rattle.stalin_top.proofs.Outcomes.{compiles, runs_so}
use Rattle.stalin_top.proofs.TablesPrinted.{prints_facts}
use Rattle.stalin_top.proofs.top.run_command.Goals as goal

pub returns-in-Compile-clause-does : goal.returns-in-Compile-clause-does
returns-in-Compile-clause-does g c =
    rw c.in-Compile.is (compiles _ _ _ _ _ _ c.compile.ensures.outcome c.compile.ensures.asks refl)

pub returns-in-Run-clause-does : goal.returns-in-Run-clause-does
returns-in-Run-clause-does g c =
    rw c.in-Run.is (runs_so _ _ _ _ _ _ c.run.ensures.files c.run.ensures.outcome c.run.ensures.asks)

pub returns-in-Emulate-clause-does : goal.returns-in-Emulate-clause-does
returns-in-Emulate-clause-does g c =
    rw c.in-Emulate.is (emulates _ _ _ _ _ c.emulate.ensures.files c.emulate.ensures.run c.emulate.ensures.asks)

pub returns-in-Facts-clause-does : goal.returns-in-Facts-clause-does
returns-in-Facts-clause-does g c =
    rw c.in-Facts.is (prints_facts _ _ _ _ c.facts.ensures.files c.facts.ensures.outcome c.facts.ensures.asks)

pub returns-in-Make-clause-does : goal.returns-in-Make-clause-does
returns-in-Make-clause-does g c = rw c.in-Make.is (prints_numbers _ _ _ _ _ c.make.ensures refl)

pub returns-in-Make-clause-fault : goal.returns-in-Make-clause-fault
returns-in-Make-clause-fault g c = no_fault _ _ _ _ _ _ c.make.ensures
