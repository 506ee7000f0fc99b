use Rattle.std.proofs.Common.{◌∙◌}
use Rattle.flat_form.specs.FlatWritten.{form}
use Rattle.const_data.proofs.Placed.{first_put, later_put}
use Rattle.const_data.proofs.words.put_if_first.Goals as goal

pub returns-in_ok-put_symbol : goal.returns-in_ok-put_symbol
returns-in_ok-put_symbol c =
    first_put (form c.args.flat.now) c.args.offsets.now c.args.number c.in_ok-here.here c.in_ok-object.field-0 c.args.lit.now
    c.in-Symbol.name c.as_slice.result.now c.args.words.now c.put_symbol.new.words c.requires.offsets c.requires.literal
    c.in-Symbol.is c.requires.place (c.in_ok-here.ensures ∙ c.len.ensures) c.in_ok-object.ensures c.if-branch-here.true
    c.as_slice.ensures c.in_ok-put_symbol.ensures

pub returns-else-branch-here : goal.returns-else-branch-here
returns-else-branch-here c =
    later_put (form c.args.flat.now) c.args.offsets.now c.args.number c.in_ok-here.here c.in_ok-object.field-0 c.args.lit.now
    c.in-Symbol.name c.args.words.now c.requires.offsets c.requires.literal c.in-Symbol.is c.requires.place
    (c.in_ok-here.ensures ∙ c.len.ensures) c.in_ok-object.ensures c.if-branch-here.false
