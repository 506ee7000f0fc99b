use Rattle.scheme_expand.proofs.Expansions.{one_core, one_fault, core_or_fault, some_expansion}
use Rattle.scheme_expand.proofs.law.one_expansion.Goals as goal

pub returns-clause-core : goal.returns-clause-core
returns-clause-core c = one_core

pub returns-clause-fault : goal.returns-clause-fault
returns-clause-fault c = one_fault

pub returns-clause-apart : goal.returns-clause-apart
returns-clause-apart c = core_or_fault

pub returns-clause-some : goal.returns-clause-some
returns-clause-some c = some_expansion
