use Rattle.std.proofs.Common.{sym, ◌∙◌}
use Rattle.draft_form.proofs.LiteralsAdded.{on_ok}
use Rattle.scheme_expand.proofs.SymbolsInOrder.{datum_word, datum_parts}
use Rattle.scheme_expand.proofs.symbol.take_in_datum.Goals as goal

pub returns-in-Some : goal.returns-in-Some
returns-in-Some c =
    on_ok c.take.result
    (λ takes names xs spelled wait.
    datum_word names c.args.source.nodes.now c.args.source.words.now c.args.waiting.now.items c.args.id c.in-Some.word xs c.args.firsts.now
    c.take.new.self spelled wait (sym c.word.ensures ∙ c.in-Some.is) (λ listed text one taken. takes names listed text one taken))
    c.take.ensures

pub returns-in-None : goal.returns-in-None
returns-in-None c =
    on_ok c.push_items.result
    (λ pushed names xs spelled wait.
    datum_parts names c.args.source.nodes.now c.args.source.words.now c.args.waiting.now.items c.push_items.new.to.items c.args.id xs
    c.args.firsts.now spelled wait (sym c.word.ensures ∙ c.in-None.is) pushed)
    c.push_items.ensures
