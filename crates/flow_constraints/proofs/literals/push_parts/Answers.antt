use Rattle.std.proofs.Common.{◌≡◌, ◌++◌, OnOk}
use Rattle.flow_constraints.proofs.Parts.{no_parts, own_parts}
use Rattle.flow_constraints.proofs.literals.push_parts.Goals as goal

pub returns-in-None : goal.returns-in-None
returns-in-None c = no_parts c.args.flow.now c.args.lits.now c.args.lit c.args.coming.now.items c.in-None.ensures.lookup.3

pub returns-in-Some : goal.returns-in-Some
returns-in-Some c =
    own_parts c.args.flow.now c.args.lits.now c.args.lit c.at.result c.in-Some.whole.now
    (λ ps. OnOk c.push_parts_in.result (c.push_parts_in.new.coming.items ≡ c.args.coming.now.items ++ ps)) c.at.ensures
    c.in-Some.ensures.lookup.3.0 c.in-Some.ensures.lookup.1 c.push_parts_in.ensures
