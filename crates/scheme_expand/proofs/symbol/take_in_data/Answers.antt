use Rattle.std.proofs.Common.{◌≡◌, [], arith}
use Rattle.std.proofs.lemmas.Grind.{common_steps}
use Rattle.scheme_expand.proofs.SymbolsInOrder.{some_begun, some_more, some_ended}
use Rattle.scheme_expand.proofs.symbol.take_in_data.Goals as goal

pub loop-turn-init : goal.loop-turn-init
loop-turn-init c = λ names xs spelled wait.
    some_begun names c.args.source.nodes.now c.args.waiting.now.items xs c.args.firsts.now wait

pub loop-turn-preserved : goal.loop-turn-preserved
loop-turn-preserved c = λ names xs spelled wait.
    some_more names c.args.source.nodes.now c.loop-turn.waiting.items c.pop.new.self.items c.take_in_datum.new.waiting.items c.in-Some.id xs
    c.args.firsts.now c.loop-turn.firsts c.take_in_datum.new.firsts (c.loop-turn.invariant names xs spelled wait) c.in-Some.ensures.items
    (λ ys waits. c.in_ok-take_in_datum.ensures names ys spelled waits)

pub returns-in_default : goal.returns-in_default
returns-in_default c = λ names xs spelled wait.
    let empty : c.loop-turn.waiting.items ≡ [] = grind (arith, common_steps, c.in_default.ensures.cases) in
    some_ended names c.args.source.nodes.now c.loop-turn.waiting.items xs c.args.firsts.now c.loop-turn.firsts
    (c.loop-turn.invariant names xs spelled wait) empty
