use Rattle.datum_reader.proofs.TokensFoundAreSpelled.{tokens_lexed, lexed_tokens}
use Rattle.datum_reader.proofs.law.same_texts.Goals as goal

pub returns : goal.returns
returns c =
    λ text ts. (tokens_lexed (record { line = 1; col = 1 }) text ts, lexed_tokens (record { line = 1; col = 1 }) text ts)
