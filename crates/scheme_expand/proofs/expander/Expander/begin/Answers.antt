use Rattle.std.proofs.Common.{◌≡◌, [], arith}
use Rattle.std.proofs.lemmas.Grind.{common_steps}
use Rattle.scheme_expand.proofs.Due.{on_ok, any_ok}
use Rattle.scheme_expand.proofs.MadeForms.{begin_turns, begin_not_right}
use Rattle.scheme_expand.proofs.expander.Expander.begin.Goals as goal

pub returns-then-is_empty-clause-core : goal.returns-then-is_empty-clause-core
returns-then-is_empty-clause-core c =
    any_ok c.broken.result
    (λ κ v ds i h r.
    let empty : c.args.exprs.now ≡ [] = grind (arith, common_steps, c.if-is_empty.ensures) in
    absurd (begin_not_right κ c.args.pos c.args.exprs.now ds empty h r))

pub returns-clause-core : goal.returns-clause-core
returns-clause-core c =
    let some : c.args.exprs.now ≡ [] → ⊥ = grind (arith, common_steps, c.if-is_empty.ensures) in
    on_ok c.sequence.result
    (λ w κ v ds i h r.
    begin_turns κ c.args.self.now c.sequence.new.self c.args.pos c.args.exprs.now ds v some h r (λ q. w κ v ds i h q))
    c.sequence.ensures.core
