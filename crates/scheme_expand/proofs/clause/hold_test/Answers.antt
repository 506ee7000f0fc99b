use Rattle.std.proofs.Common.{◌≡◌, true, false, refl, sym, ◌∙◌}
use Rattle.scheme_expand.specs.declared.clause.Clause.TheVariants as which
use Rattle.scheme_expand.proofs.CondParts.{found_as}
use Rattle.scheme_expand.proofs.HeldTests.{one_held}
use Rattle.scheme_expand.proofs.clause.hold_test.Goals as goal

pub returns-in_default : goal.returns-in_default
returns-in_default c = λ d h is.
    absurd (let not : true ≡ false = sym is ∙ c.in_default.ensures d h in cc)

pub returns-in-Then : goal.returns-in-Then
returns-in-Then c = λ d h is.
    let s = c.args.source in
    one_held s (which.Then c.in-Then.field-0 c.in-Then.field-1) d c.args.scope.now c.args.scope.now
    (found_as s d _ (which.Then c.in-Then.field-0 c.in-Then.field-1) c.in-Then.is (c.in-Some.ensures d h)) refl

pub returns-in-Else : goal.returns-in-Else
returns-in-Else c = λ d h is.
    let s = c.args.source in
    one_held s (which.Else c.in-Else.field-0) d c.args.scope.now c.args.scope.now
    (found_as s d _ (which.Else c.in-Else.field-0) c.in-Else.is (c.in-Some.ensures d h)) refl
