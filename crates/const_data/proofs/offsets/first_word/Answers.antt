use Rattle.const_data.proofs.Placed.{symbol_place}
use Rattle.const_data.proofs.offsets.first_word.Goals as goal

pub returns-in-Symbol : goal.returns-in-Symbol
returns-in-Symbol c =
    symbol_place c.args.names.now c.in-Symbol.name c.as_slice.result.now c.args.lit.now c.args.next c.word.result c.as_slice.ensures
    c.in-Symbol.is c.word.ensures
