use Rattle.scheme_base.proofs.RunsInHeaps.{lawful_in, without_a_stop, with_a_stop, in_step}
use Rattle.scheme_base.proofs.law.heaps.Goals as goal

pub returns-clause-lawful : goal.returns-clause-lawful
returns-clause-lawful g c = lawful_in

pub returns-clause-room : goal.returns-clause-room
returns-clause-room g c = without_a_stop

pub returns-clause-full : goal.returns-clause-full
returns-clause-full g c = with_a_stop

pub returns-clause-steps : goal.returns-clause-steps
returns-clause-steps g c = in_step
