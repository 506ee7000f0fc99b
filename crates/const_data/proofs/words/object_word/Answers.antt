use Rattle.flat_form.specs.FlatWritten.{form}
use Rattle.const_data.proofs.Placed.{object_is}
use Rattle.const_data.proofs.words.object_word.Goals as goal

pub returns : goal.returns
returns c =
    object_is (form c.args.flat.now) c.args.offsets.now c.args.number c.args.tag c.args.lit.now c.in_ok-label.label
    c.requires.offsets c.requires.literal c.requires.tag c.in_ok-label.ensures
