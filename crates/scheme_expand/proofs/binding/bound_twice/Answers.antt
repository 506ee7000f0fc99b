use Rattle.std.proofs.Common.{sym, ap, ◌∙◌}
use Rattle.scheme_expand.specs.Grammar.{twice, bound_words}
use Rattle.scheme_expand.specs.Shapes.{together_words}
use Rattle.scheme_expand.proofs.Due.{if_ok}
use Rattle.scheme_expand.proofs.Parts.{read_at}
use Rattle.scheme_expand.proofs.binding.bound_twice.Goals as goal

pub returns-then-together : goal.returns-then-together
returns-then-together c =
    if_ok c.twice.result
    (λ found w bs i.
    w (bound_words bs) (read_at c.args.source _ _ _ c.deref.ensures.value i.names)
    ∙ ap (λ b. twice (together_words b bs)) (sym c.if-together.true))
    c.twice.ensures

pub returns-else-together : goal.returns-else-together
returns-else-together c = λ bs i. ap (λ b. twice (together_words b bs)) (sym c.if-together.false)
