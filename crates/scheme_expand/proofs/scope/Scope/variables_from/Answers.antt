use Rattle.std.proofs.Common.{◌≡◌, ◌≤◌, List, [], length, drop, sym, ap, subst, ◌∙◌, rules, arith}
use Rattle.std.specs.Prelude.{map}
use Rattle.std.proofs.lemmas.Grind.{common_steps}
use Rattle.draft_form.specs.declared.draft.Variable.{Variable}
use Rattle.draft_form.specs.Drawn.{name_of}
use Rattle.scheme_expand.specs.declared.scope.Bound.{Bound}
use Rattle.scheme_expand.specs.Making.{from_level}
use Rattle.scheme_expand.specs.Rewriting.{variables}
use Rattle.scheme_expand.proofs.Scopes.{none_listed, one_listed, all_listed, called_at, called_from, AreCalled, drop_past, Listed}
use Rattle.scheme_expand.proofs.scope.Scope.variables_from.Goals as goal

pub returns-in_default : goal.returns-in_default
returns-in_default c = λ names bs words h.
    let kept = c.args.self.now.bound.items in
    let past : length kept ≤ c.args.level = omega (arith, c.in_default.ensures.lookup, ap length c.deref.ensures.value) in
    let P : List Bound → Type 0 = λ l. AreCalled names l (from_level c.args.level bs) in
    let none : from_level c.args.level bs ≡ [] = subst P (drop_past kept c.args.level past) (called_from names kept bs c.args.level h.bound) in
    ap (map (name_of names)) c.new-variables.ensures.items ∙ ap (variables c.args.level) (sym none)

pub loop-first-init : goal.loop-first-init
loop-first-init c = λ names bs words h.
    let kept = c.args.self.now.bound.items in
    let xs = from_level c.args.level bs in
    let part : c.in-Some.bound.now ≡ drop c.args.level kept = first_of (search rules, grind (arith, common_steps)) in
    let P : List Variable → Type 0 = λ vs. Listed names c.args.level c.args.level c.in-Some.bound.now vs xs in
    subst P (sym c.new-variables.ensures.items)
    (none_listed names c.args.level c.in-Some.bound.now xs
    (called_at names (drop c.args.level kept) c.in-Some.bound.now xs part (called_from names kept bs c.args.level h.bound)))

pub loop-first-preserved : goal.loop-first-preserved
loop-first-preserved c = λ names bs words h.
    one_listed names c.args.level c.loop-first.next c.in_ok-next.next c.loop-first.rest.now c.in-Some-split_first.others.now
    c.in-Some-split_first.first.now c.loop-first.variables.items c.push.new.self.items c.variable.result (from_level c.args.level bs)
    (c.loop-first.invariant names bs words h) c.in-Some-split_first.ensures.cases.0 (λ x. c.variable.ensures names x words) c.in_ok-push.ensures.items
    c.in_ok-next.ensures

pub returns : goal.returns
returns c = λ names bs words h.
    let none : c.loop-first.rest.now ≡ [] = first_of (search rules, grind (arith, common_steps)) in
    all_listed names c.args.level c.loop-first.next c.loop-first.rest.now c.loop-first.variables.items (from_level c.args.level bs)
    (c.loop-first.invariant names bs words h) none
