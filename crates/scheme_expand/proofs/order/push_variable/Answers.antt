use Rattle.std.proofs.Common.{◌++◌, sym, ap, ◌∙◌, append-nil}
use Rattle.scheme_expand.specs.ByWord.{at_most_one}
use Rattle.scheme_expand.proofs.order.push_variable.Goals as goal

pub returns-in_ok-push-in-Some : goal.returns-in_ok-push-in-Some
returns-in_ok-push-in-Some c =
    c.in_ok-push-in-Some.ensures.items ∙ ap (λ found. c.args.variables.now.items ++ at_most_one found) (sym c.in-Some.is ∙ c.variable_of.ensures)

pub returns-in-None : goal.returns-in-None
returns-in-None c =
    sym (append-nil c.args.variables.now.items)
    ∙ ap (λ found. c.args.variables.now.items ++ at_most_one found) (sym c.in-None.is ∙ c.variable_of.ensures)
