use Rattle.scheme_expand.proofs.LibraryData.{library, reads}
use Rattle.scheme_expand.proofs.LibraryFacts.{each_library}
use Rattle.scheme_expand.proofs.law.library_reads.Goals as goal

pub returns-clause-text : goal.returns-clause-text
returns-clause-text c = (library, reads)

pub returns-clause-library : goal.returns-clause-library
returns-clause-library c = each_library
