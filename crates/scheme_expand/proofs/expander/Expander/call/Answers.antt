use Rattle.std.proofs.Common.{◌∷◌, [], refl, sym, ap}
use Rattle.scheme_expand.specs.Waiting.{earlier}
use Rattle.scheme_expand.specs.declared.step.Step.TheVariants as step
use Rattle.scheme_expand.proofs.Adding.{due, one_waits}
use Rattle.scheme_expand.proofs.CallsMade.{known_turn, call_turn}
use Rattle.scheme_expand.proofs.Due.{of, on_ok, idle, more_wait}
use Rattle.scheme_expand.proofs.Least.{earlier_comm}
use Rattle.scheme_expand.proofs.expander.Expander.call.Goals as goal

pub returns-in-Some-clause-fault : goal.returns-in-Some-clause-fault
returns-in-Some-clause-fault c =
    let a = c.args.self.now in
    let s = a.source in
    on_ok c.wait.result
    (λ w d x h k.
    due a c.wait.new.self x (earlier (of d) x) (ap (λ y. earlier y x) (sym (c.in-Some.ensures.fault d h)))
    (w x
    (idle s (step.Known c.args.pos c.in-Some.call c.args.count) (c.args.operands ∷ []) x refl
    (one_waits s c.args.operands x k))))
    c.wait.ensures.fault

pub returns-in-None-clause-fault : goal.returns-in-None-clause-fault
returns-in-None-clause-fault c =
    let a = c.args.self.now in
    let s = a.source in
    let head = step.Expr c.args.head in
    on_ok c.wait-in-None.result
    (λ w d x h k.
    due a c.wait-in-None.new.self (earlier x (of d)) (earlier (of d) x) (earlier_comm x (of d))
    (w (earlier x (of d))
    (idle s (step.Call c.args.pos c.args.count) (c.args.operands ∷ head ∷ []) (earlier x (of d)) refl
    (more_wait s c.args.operands (head ∷ []) x (of d) k (one_waits s head (of d) (d, h, refl))))))
    c.wait-in-None.ensures.fault

pub returns-in-Some-clause-core : goal.returns-in-Some-clause-core
returns-in-Some-clause-core c =
    on_ok c.wait.result
    (λ put κ v d es i read right many operands.
    known_turn κ c.args.self.now c.wait.new.self c.args.pos c.in-Some.call c.args.count c.args.operands d v es i many operands put
    (c.in-Some.ensures.core κ v d es c.args.pos _ i read right many))
    c.wait.ensures.core

pub returns-in-None-clause-core : goal.returns-in-None-clause-core
returns-in-None-clause-core c =
    on_ok c.wait-in-None.result
    (λ put κ v d es i read right many operands.
    call_turn κ c.args.self.now c.wait-in-None.new.self c.args.pos c.args.count c.args.head c.args.operands d v es i read right many
    operands put (c.in-None.ensures.core κ v d es c.args.pos _ i read right many))
    c.wait-in-None.ensures.core
