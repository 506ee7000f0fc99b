use Rattle.std.proofs.Common.{refl}
use Rattle.scheme_expand.proofs.Noting.{noting_swap}
use Rattle.scheme_expand.proofs.Expanding.{right_parts}
use Rattle.scheme_expand.proofs.Coming.{puts_nothing}
use Rattle.scheme_expand.proofs.expander.Expander.note.Goals as goal

pub returns-in_default-clause-core : goal.returns-in_default-clause-core
returns-in_default-clause-core c = puts_nothing c.args.self.now _ (record { source = refl; library = refl; changed = refl; maker = refl }) refl
