use Rattle.bit_rows.proofs.Members.{inserted_members}
use Rattle.bit_rows.proofs.insert.Goals as goal

pub returns : goal.returns
returns c = inserted_members c.args.row.now c.args.atom c.requires
