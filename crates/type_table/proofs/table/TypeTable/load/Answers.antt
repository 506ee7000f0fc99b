use Rattle.std.proofs.Common.{◌<◌, arith, rules}
use Rattle.flow_form.specs.Shape.{size_of}
use Rattle.type_table.proofs.StepsAreMoves.{load_allowed}
use Rattle.type_table.proofs.table.TypeTable.load.Goals as goal

pub load-requires : goal.load-requires
load-requires c =
    let there : c.args.word < size_of c.self.inside.table.shared.key.constraints.value = search rules in
    (search rules, omega (arith, c.self.invariant.words), load_allowed _ _ _ _ _ _ there c.pass.invariant.live)
