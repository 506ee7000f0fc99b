use Rattle.std.proofs.Common.{sym, ◌∙◌}
use Rattle.scheme_expand.proofs.LambdaHeads.{lambda_begins, no_lambda_begins}
use Rattle.scheme_expand.proofs.source.Source.is_lambda.Goals as goal

pub returns-in-Some : goal.returns-in-Some
returns-in-Some c = λ d h r.
    c.is_lambda.ensures ∙ sym (lambda_begins d c.in-Some.keyword (sym (c.head.ensures d h) ∙ c.in-Some.is) r)

pub returns-in-None : goal.returns-in-None
returns-in-None c = λ d h r. sym (no_lambda_begins d (sym (c.head.ensures d h) ∙ c.in-None.is))
