use Rattle.std.proofs.Common.{None, ap, rules, ◌∙◌}
use Rattle.named_form.specs.declared.program.Act.{Act}
use Rattle.named_form.specs.declared.program.Block.{Block, Block-F, out-roll-Block, roll-Block}
use Rattle.named_form.specs.declared.program.Step.{Step}
use Rattle.box_name.specs.Told.{all_told}
use Rattle.box_name.proofs.Forming.{make_program}
use Rattle.box_name.proofs.namer.Namer.name_program.Goals as goal

pub returns : goal.returns
returns c =
    λ forms holds knows none_noted at proc_at.
    let layer : Block-F Act Block Step = record { steps = c.from_vec.result; value = None } in
    make_program (all_told c.args.core.now.lits forms) c.name_forms.new.self c.name_forms.new.steps.items c.new.result (roll-Block layer)
    (c.in_ok-name_forms.ensures forms holds knows none_noted at proc_at c.new-steps.ensures.items) c.new.ensures
    (ap (λ l. l.steps) (out-roll-Block layer) ∙ c.from_vec.ensures) (ap (λ l. l.value) (out-roll-Block layer))
