use Rattle.std.proofs.Common.{arith, refl}
use Rattle.stalin_top.proofs.Outcomes.{done, faulted, same_then, stopped}
use Rattle.stalin_top.proofs.compile.compile.Goals as goal

pub returns-in-Done-clause-outcome : goal.returns-in-Done-clause-outcome
returns-in-Done-clause-outcome g c =
    done _ _ _ _ _ _ _ _ c.in-Ok.ensures.content c.build_source.ensures.files c.as_slice.ensures.value c.in-Done.ensures.files

pub returns-in-Fault-clause-outcome : goal.returns-in-Fault-clause-outcome
returns-in-Fault-clause-outcome g c =
    faulted _ _ _ _ _ _ _ _ c.in-Ok.ensures.content c.build_source.ensures.files c.as_slice.ensures.value c.in-Fault.ensures.files

pub returns-in-Err-clause-outcome : goal.returns-in-Err-clause-outcome
returns-in-Err-clause-outcome g c = stopped _ _ _ _ _ _ c.in-Err.ensures.content c.build_source.ensures.files

pub returns-in-Fault-clause-cause : goal.returns-in-Fault-clause-cause
returns-in-Fault-clause-cause g c =
    let built = c.build_source.ensures.cause in
    let written = c.in-Fault.ensures.cause in
    record { later = omega (arith, built.later, written.later); rose = λ is. omega (arith, built.later, written.rose refl) }

pub returns-clause-outcome : goal.returns-clause-outcome
returns-clause-outcome g c = (tt, same_then _ _ _ c.build_source.ensures.files c.in-NoMemory.ensures.files)

pub returns-clause-cause : goal.returns-clause-cause
returns-clause-cause g c =
    let built = c.build_source.ensures.cause in
    let written = c.write_file.ensures.cause in
    record { later = omega (arith, built.later, written.later); rose = λ is. absurd (cc) }
