use Rattle.std.proofs.Common.{◌≡◌, ◌≤◌, None, Bool, true, false, length, drop, sym, ap, ◌∙◌, rules, arith}
use Rattle.std.specs.List.{list_any}
use Rattle.std.proofs.lemmas.Grind.{common_steps}
use Rattle.std.proofs.lemmas.List.Folds.{list_any_at}
use Rattle.draft_form.proofs.LiteralsAdded.{taken_all}
use Rattle.scheme_expand.specs.declared.scope.Bound.{Bound}
use Rattle.scheme_expand.proofs.Scopes.{drop_past, flags_from}
use Rattle.scheme_expand.proofs.scope.Scope.assigns_from.Goals as goal

pub returns-in_default : goal.returns-in_default
returns-in_default c = λ names bs h.
    let kept = c.args.self.now.bound.items in
    let past : length kept ≤ c.args.level = omega (arith, c.in_default.ensures.lookup, ap length c.deref.ensures.value) in
    sym (ap (list_any (λ b. b.assigned)) (drop_past kept c.args.level past)) ∙ flags_from names kept bs c.args.level h.bound

pub returns-then-variable : goal.returns-then-variable
returns-then-variable c = λ names bs h.
    let kept = c.args.self.now.bound.items in
    let p : Bound → Bool = λ b. b.assigned in
    let part : c.in-Some.bound.now ≡ drop c.args.level kept = first_of (search rules, grind (arith, common_steps)) in
    let found : list_any p c.in-Some.bound.now ≡ true =
    list_any_at p c.in-Some.bound.now c.loop-variable.variable-index (record { word = None; hidden = None; assigned = false })
    c.loop-variable-test.true c.if-variable.true in
    sym found ∙ (ap (list_any p) part ∙ flags_from names kept bs c.args.level h.bound)

pub returns : goal.returns
returns c = λ names bs h.
    let kept = c.args.self.now.bound.items in
    let part : c.in-Some.bound.now ≡ drop c.args.level kept = first_of (search rules, grind (arith, common_steps)) in
    let all : length c.in-Some.bound.now ≤ c.loop-variable.variable-index = omega arith in
    sym c.loop-variable.invariant
    ∙ (ap (list_any (λ b. b.assigned)) (taken_all c.in-Some.bound.now c.loop-variable.variable-index all ∙ part)
    ∙ flags_from names kept bs c.args.level h.bound)
