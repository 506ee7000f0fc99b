use Rattle.scheme_expand.proofs.SymbolsInOrder.{constant_waits}
use Rattle.scheme_expand.specs.Programs.{symbols}
use Rattle.scheme_expand.proofs.symbol.take_in_constant.Goals as goal

pub returns : goal.returns
returns c = λ names found spelled quoted.
    c.in_ok-take_in_data.ensures names (symbols found) spelled
    (constant_waits c.args.source.nodes.now c.args.constant found c.new-waiting.result.items c.push_data.new.to.items quoted
    c.new-waiting.ensures.items c.in_ok-push_data.ensures)
