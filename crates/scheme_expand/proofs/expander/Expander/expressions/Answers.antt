use Rattle.std.proofs.Common.{◌≡◌, [], ◌∷◌, None, length, refl, sym, ap, ◌∙◌, arith}
use Rattle.std.proofs.lemmas.Grind.{common_steps}
use Rattle.scheme_expand.proofs.Adding.{due}
use Rattle.scheme_expand.proofs.Due.{of, of_all, of_one, on_ok, none_left}
use Rattle.scheme_expand.proofs.Least.{earlier_none}
use Rattle.scheme_expand.proofs.MadeBodies.{not_alone, only_first, only_turns, several_turn}
use Rattle.scheme_expand.proofs.expander.Expander.expressions.Goals as goal

pub returns-then-is_empty-clause-fault : goal.returns-then-is_empty-clause-fault
returns-then-is_empty-clause-fault c =
    let a = c.args.self.now in
    let empty : c.in-Some.others.now ≡ [] = grind (arith, common_steps, c.if-is_empty.ensures) in
    on_ok c.wait.result
    (λ w ds h.
    let t = only_first a.source c.args.exprs.now c.in-Some.others.now c.in-Some.first.now ds c.in-Some.ensures.cases.0 empty h in
    let x = of t.only in
    due a c.wait.new.self x (of_all ds) (sym (of_one t.only) ∙ ap of_all (sym t.are))
    (w x (x, None, (t.only, t.read, refl), refl, sym (earlier_none x))))
    c.wait.ensures.fault

pub returns-then-is_empty-clause-core : goal.returns-then-is_empty-clause-core
returns-then-is_empty-clause-core c =
    let empty : c.in-Some.others.now ≡ [] = grind (arith, common_steps, c.if-is_empty.ensures) in
    on_ok c.wait.result
    (λ p κ v ds i h k.
    let t = only_first κ.source c.args.exprs.now c.in-Some.others.now c.in-Some.first.now ds c.in-Some.ensures.cases.0 empty h in
    only_turns κ c.args.self.now c.wait.new.self c.args.pos c.in-Some.first.now t.only ds v i t.are t.read k p)
    c.wait.ensures.core

pub returns-in_default-clause-core : goal.returns-in_default-clause-core
returns-in_default-clause-core c =
    let ids = c.args.exprs.now in
    let none : ids ≡ [] = none_left ids c.in_default.ensures.cases in
    let not_one : length ids ≡ 1 → ⊥ = λ one. let few : 0 ≡ 1 = sym (ap (λ l. length l) none) ∙ one in omega (arith, few) in
    on_ok c.sequence.result
    (λ t κ v ds i h k. several_turn κ c.args.self.now c.sequence.new.self c.args.pos ids ds v h not_one (t κ v ds i h k))
    c.sequence.ensures.core

pub returns-clause-core : goal.returns-clause-core
returns-clause-core c =
    let ids = c.args.exprs.now in
    let others = c.in-Some.others.now in
    let some : others ≡ [] → ⊥ = λ e. grind (arith, common_steps, c.if-is_empty.ensures, e) in
    on_ok c.sequence-2.result
    (λ t κ v ds i h k.
    several_turn κ c.args.self.now c.sequence-2.new.self c.args.pos ids ds v h
    (not_alone ids others c.in-Some.first.now c.in-Some.ensures.cases.0 some) (t κ v ds i h k))
    c.sequence-2.ensures.core
