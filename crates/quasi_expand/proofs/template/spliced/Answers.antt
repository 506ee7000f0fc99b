use Rattle.quasi_expand.proofs.TemplateEnds.{two_of, is_spliced}
use Rattle.quasi_expand.proofs.template.spliced.Goals as goal

pub returns-then-is_word : goal.returns-then-is_word
returns-then-is_word c = λ d h.
    let ids = c.in_ok-list_items.field-0.now in
    is_spliced c.args.nodes.now d ids _ _ c.args.item c.is_word.result (c.in_ok-list_items.ensures d h)
    (two_of ids c.in-len2.len_at_least c.in-len2.len_below) c.is_word.ensures c.if-is_word.true h
