use Rattle.scheme_expand.proofs.Pairs.{no_list_binding, pair_read}
use Rattle.scheme_expand.proofs.binding.read_binding.Goals as goal

pub returns-in_default : goal.returns-in_default
returns-in_default c = λ d h. no_list_binding d (c.in_default.ensures d h)

pub returns : goal.returns
returns c = λ d h.
    pair_read c.args.source c.in-Some.items.now d _ _ (c.in-Some.ensures d h) c.in-len2.len_at_least c.in-len2.len_below
    c.word.ensures c.in_ok-word.was
