use Rattle.std.proofs.Common.{ℕ, Option, subst}
use Rattle.scheme_expand.specs.Viewed.{IsCalled}
use Rattle.scheme_expand.proofs.Scopes.{called_variable}
use Rattle.scheme_expand.proofs.scope.Bound.variable.Goals as goal

pub returns-in-Some : goal.returns-in-Some
returns-in-Some c = λ names x words h.
    let P : Option ℕ → Type 0 = λ o. IsCalled names o x in
    called_variable names c.in-Some.word c.args.level x words (subst P c.in-Some.is h)
