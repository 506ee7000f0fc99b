use Rattle.std.proofs.Common.{ap, ◌∙◌, sym}
use Rattle.std.specs.Option.{option_copied}
use Rattle.datum_form.proofs.PrintedByParts.{is_there}
use Rattle.datum_form.proofs.text.write_node.Goals as goal

pub returns-in_default : goal.returns-in_default
returns-in_default c = λ d rest h k.
    absurd
    (is_there c.args.nodes.now c.args.id d h (sym c.get.ensures.value ∙ ap option_copied c.in_default.is))
