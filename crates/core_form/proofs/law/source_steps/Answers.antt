use Rattle.core_form.proofs.LawfulSource.{lawful, keeps}
use Rattle.core_form.proofs.law.source_steps.Goals as goal

pub returns-clause-lawful : goal.returns-clause-lawful
returns-clause-lawful g c = lawful

pub returns-clause-keeps : goal.returns-clause-keeps
returns-clause-keeps g c = keeps
