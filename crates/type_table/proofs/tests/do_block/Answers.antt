use Rattle.std.proofs.Common.{subst, sym}
use Rattle.flow_form.specs.Least.{GivenByBlock, Within}
use Rattle.flow_form.specs.Race.{Seen}
use Rattle.flow_form.specs.Shape.{In}
use Rattle.type_table.specs.Tables.{Held}
use Rattle.type_table.proofs.OneRule.{bit_5_grown, grows_69, seen_69}
use Rattle.type_table.proofs.tests.do_block.Goals as goal

pub grow-found-requires-clause-follows : goal.grow-found-requires-clause-follows
grow-found-requires-clause-follows c =
    grows_69 c.args.table.now.constraints (In c.args.table.now.constraints c.args.pass.now.view.worker.loaded) c.requires.made

pub finish-requires-clause-seen : goal.finish-requires-clause-seen
finish-requires-clause-seen c =
    let system = c.args.table.now.constraints in
    let base = In system c.args.table.now.base in
    let Sees : Held → Type 0 = λ pass. Within (GivenByBlock system.rules 0 base) (Seen system pass.view.worker) in
    subst Sees (sym c.grow-found.ensures.knows)
    (seen_69 system base c.args.pass.now.view.worker _ c.requires.made c.requires.of.own.grown_size
    (bit_5_grown c.grow-found.result))
