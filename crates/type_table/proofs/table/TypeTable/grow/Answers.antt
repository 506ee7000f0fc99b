use Rattle.std.proofs.Common.{◌<◌, arith, rules, subst, sym}
use Rattle.flow_form.specs.Least.{Given}
use Rattle.flow_form.specs.Race.{MaskWithin}
use Rattle.flow_form.specs.Shape.{In, size_of}
use Rattle.type_table.specs.Tables.{Held, Opened}
use Rattle.type_table.proofs.StepsAreMoves.{grow_allowed}
use Rattle.type_table.proofs.table.TypeTable.grow.Goals as goal

pub fetch_or-requires : goal.fetch_or-requires
fetch_or-requires c =
    let there : c.args.word < size_of c.self.inside.table.shared.key.constraints.value = search rules in
    let Follows : Opened → Held → Type 0 =
    λ opened pass.
    MaskWithin opened.constraints c.args.word c.args.mask
    (Given opened.constraints.rules (In opened.constraints pass.view.worker.loaded)) in
    let Table : Opened → Type 0 = λ opened. Follows opened c.args.pass.now in
    let opened : Opened =
    record {
      table = c.self.inside.table.shared.table_id;
      constraints = c.self.inside.table.shared.key.constraints.value;
      base = c.self.inside.table.shared.key.base.value;
      rounds = c.self.inside.rounds;
    } in
    let follows = subst (Follows opened) (sym c.pass.view_is) (subst Table (sym c.self.view_is) c.requires.follows) in (
      search rules,
      omega (arith, c.self.invariant.words),
      grow_allowed _ _ _ _ _ _ _ there c.pass.invariant.live follows,
    )
