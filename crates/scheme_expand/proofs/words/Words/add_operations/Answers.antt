use Rattle.std.proofs.Common.{refl, ◌∙◌}
use Rattle.scheme_base.specs.declared.op.Op.TheVariants as op
use Rattle.scheme_base.specs.Operands.{name_of}
use Rattle.scheme_expand.specs.Calls.{operations}
use Rattle.scheme_expand.specs.Naming.{operation_names, name_list}
use Rattle.scheme_expand.proofs.NumberedNames.{no_names, one_more, all_added}
use Rattle.scheme_expand.proofs.words.Words.add_operations.Goals as goal

pub loop-op-init : goal.loop-op-init
loop-op-init c = no_names (name_list c.args.self.now)

pub loop-op-preserved : goal.loop-op-preserved
loop-op-preserved c =
    one_more name_of operation_names operations _ op.Eqv _ _ _ _ refl c.loop-op-test.true c.loop-op.invariant
    c.in_ok-add.ensures (c.as_bytes.ensures.value ∙ c.name.ensures)

pub returns : goal.returns
returns c = all_added operation_names _ _ _ c.loop-op-test.false c.loop-op.invariant
