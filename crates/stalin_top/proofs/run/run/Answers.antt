use Rattle.stalin_top.proofs.Emulations.{no_fault}
use Rattle.stalin_top.proofs.Outcomes.{asked, ran, run_stopped}
use Rattle.stalin_top.proofs.run.run.Goals as goal

pub returns-in-Ok-clause-outcome : goal.returns-in-Ok-clause-outcome
returns-in-Ok-clause-outcome g c =
    ran _ _ _ _ _ _ _ _ _ c.in-Ok.ensures.content c.from_vec.ensures c.emulate_file.ensures

pub returns-in-Ok-clause-asks : goal.returns-in-Ok-clause-asks
returns-in-Ok-clause-asks g c = asked _ c.emulate_file.result _ _ c.in-Ok.ensures.asks

pub returns-in-Ok-clause-cause : goal.returns-in-Ok-clause-cause
returns-in-Ok-clause-cause g c =
    record {
      later = c.in-Ok.ensures.cause.later;
      rose = λ is. absurd (no_fault _ _ c.emulate_file.result _ _ c.emulate_file.ensures is);
    }

pub returns-in-Err-clause-outcome : goal.returns-in-Err-clause-outcome
returns-in-Err-clause-outcome g c = run_stopped _ _ _ _ _ _ c.in-Err.ensures.content
