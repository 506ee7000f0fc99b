use Rattle.flow_form.specs.Race.{start}
use Rattle.flow_form.proofs.Race.{sound_start, sound_run}
use Rattle.flow_form.proofs.laws.any_schedule.Goals as goal

pub returns : goal.returns
returns c = λ constraints base workers moves s run.
    sound_run constraints base (start constraints base workers) moves s (sound_start constraints base workers) run
