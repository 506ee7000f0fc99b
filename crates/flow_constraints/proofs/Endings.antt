-- The values of blocks, and the rules of what has one.
use Rattle.std.proofs.Common.{◌≡◌, ℕ, List, [], ◌∷◌, ◌++◌, Option, refl, sym, ap, ◌∙◌, subst, append_assoc}
use Rattle.std.specs.Prelude.{map}
use Rattle.scheme_base.specs.declared.lit.Lit.{Lit}
use Rattle.scheme_base.specs.declared.pos.Pos.{Pos}
use Rattle.flow_form.specs.declared.rule.Rule.{Rule}
use Rattle.named_form.specs.declared.program.Act.TheOpen as open_act
use Rattle.named_form.specs.declared.program.Act.TheVariants as made_act
use Rattle.named_form.specs.declared.program.Act as act_type
use Rattle.named_form.specs.declared.program.Act.{fold-roll-Act}
use Rattle.named_form.specs.declared.program.Block.{Block, out-Block}
use Rattle.named_form.specs.declared.program.Proc.{Proc}
use Rattle.named_form.specs.declared.program.Step.{Step}
use Rattle.named_form.specs.Code as named
use Rattle.named_form.specs.Code.{Act, Code, Ends, If}
use Rattle.named_form.specs.Written.{Onto, act_layer, act_of, all_onto, block_layer, code, onto, procedure, step_layer}
use Rattle.named_form.proofs.Folds.{code_out, step_out}
use Rattle.flow_constraints.specs.declared.flow.Flow.{Flow}
use Rattle.flow_constraints.specs.declared.put.Guard.{Guard}
use Rattle.flow_constraints.specs.declared.steps.Spot.{Spot}
use Rattle.flow_constraints.specs.Listed.{reached_block}
use Rattle.flow_constraints.specs.Rows.{row, Result}
use Rattle.flow_constraints.specs.Table.{choice_rules, ending, own_rules, value_rules}
use Rattle.flow_constraints.specs.Walk.{inside, put_code, put_lambda}

ending_steps : (ss : List Step) (value : Option ℕ) → ending {L = Pos} (all_onto (map onto ss) (Ends value)) ≡ value
ending_steps [] value = refl
ending_steps (s ∷ ss) value = ap ending (step_out s (all_onto (map onto ss) (Ends value))) ∙ ending_steps ss value

pub ending_code : (b : Block) → ending (code b) ≡ (out-Block b).value
ending_code b = ap ending (code_out b) ∙ ending_steps (out-Block b).steps (out-Block b).value

choice_of : (test : ℕ) (this that : Block) → act_of (made_act.If test this that) ≡ If test (code this) (code that)
unfolding act_type.roll-Act denote.Hole.Carrier.roll
choice_of test this that = fold-roll-Act (Act Pos) (Code Pos) Onto act_layer block_layer step_layer (open_act.If test this that)

-- what holds of the rules of a choice with the values of its arms
pub arms_end : (f : Flow) (lits : List Lit) (s : Spot) (vars : List ℕ) (test : ℕ) (this that : Block) (P : List Rule → Type 0)
    → P (choice_rules f s test (out-Block this).value (out-Block that).value)
    → P (own_rules f lits s vars (act_of (made_act.If test this that)))
arms_end f lits s vars test this that P h =
    subst (λ act. P (own_rules f lits s vars act)) (sym (choice_of test this that))
    (subst (λ o. P (choice_rules f s test (ending (code this)) o)) (sym (ending_code that))
    (subst (λ o. P (choice_rules f s test o (out-Block that).value)) (sym (ending_code this)) h))

-- a procedure's rules are those of its body, then that of its result
pub body_then_value : (f : Flow) (lits : List Lit) (at : named.Counts) (p : Proc) (old more : List Rule) (g : Guard) (to : ℕ)
    → more ≡ old ++ put_code f lits (inside at) at.blocks (code p.body) → g ≡ reached_block f at.blocks
    → to ≡ row f (Result at.blocks)
    → more ++ value_rules f g (out-Block p.body).value to ≡ old ++ put_lambda f lits at (procedure p)
body_then_value f lits at p old more g to puts guard place =
    let body = put_code f lits (inside at) at.blocks (code p.body) in
    let value = (out-Block p.body).value in
    ap (λ rs. rs ++ value_rules f g value to) puts
    ∙ (append_assoc old body (value_rules f g value to)
    ∙ (ap (λ w. old ++ (body ++ value_rules f w value to)) guard
    ∙ (ap (λ r. old ++ (body ++ value_rules f (reached_block f at.blocks) value r)) place
    ∙ ap (λ o. old ++ (body ++ value_rules f (reached_block f at.blocks) o (row f (Result at.blocks)))) (sym (ending_code p.body)))))
