use Rattle.scheme_expand.proofs.words.Words.add_known.Goals as goal

pub returns : goal.returns
returns c = c.add_calls.ensures
