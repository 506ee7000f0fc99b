use Rattle.std.proofs.Common.{inl, inr}
use Rattle.flow_form.proofs.Count.{pairs_few, pairs_grow}
use Rattle.flow_form.proofs.laws.chain_is_bounded.Goals as goal

pub returns-clause-grows : goal.returns-clause-grows
returns-clause-grows c = λ constraints words more size_words size_more step unclosed.
    pairs_grow constraints words more size_words size_more
    (λ row atom h. (step row atom).1 (inl h))
    (λ within. unclosed (λ row atom given. within row atom ((step row atom).1 (inr given))))

pub returns-clause-few : goal.returns-clause-few
returns-clause-few c = pairs_few
