-- The walk over the text lists the rules of the program that runs.
use Rattle.std.proofs.Common.{◌≡◌, ℕ, suc, ◌+◌, Bool, true, List, [], ◌∷◌, ◌++◌, length, Option, refl, sym, ap, ◌∙◌}
use Rattle.std.specs.List.{flat_map}
use Rattle.scheme_base.specs.declared.lit.Lit.{Lit}
use Rattle.scheme_base.specs.declared.pos.Pos.{Pos}
use Rattle.named_form.specs.Code as named
use Rattle.named_form.specs.Code.{Code, Ends, Then, Act, If, Written, Lambda, labelled, labelled_act, past, past_arms, past_code, procedures, program, first_sites, in_tail, option_list}
use Rattle.named_form.specs.Valid.{Form}
use Rattle.flow_constraints.specs.declared.flow.Flow.{Flow}
use Rattle.flow_constraints.specs.declared.steps.Spot.{Spot}
use Rattle.flow_constraints.specs.Layout.{flow_of}
use Rattle.flow_constraints.specs.Rows.{row, Reach, Result}
use Rattle.flow_constraints.specs.Table.{always, atom_in, choice_rules, ending, own_rules, spot_of, value_rules}
use Rattle.flow_constraints.specs.Listed.{reached_block, code_rules, arm_rules, lambda_rules, procs_rules, rules_of}
use Rattle.flow_constraints.specs.Walk.{inside, put_code, put_arms, put_lambda, put_lambdas, put_procs}

pub ending_labelled : (at : named.Counts) (tail : Bool) (c : Code Pos) → ending (labelled at tail c) ≡ ending c
ending_labelled at tail (Ends value) = refl
ending_labelled at tail (Then pos vars act rest) = ending_labelled (past_arms (past at act) act) tail rest

-- labels change no rule of a step
own_labelled : (f : Flow) (lits : List Lit) (s : Spot) (vars : List ℕ) (at : named.Counts) (tail : Bool) (act : Act Pos)
    → own_rules f lits s vars (labelled_act at tail act) ≡ own_rules f lits s vars act
own_labelled f lits s vars at tail (If v this that) =
    ap (λ o. choice_rules f s v o (ending (labelled (past_code at this) tail that))) (ending_labelled at tail this)
    ∙ ap (choice_rules f s v (ending this)) (ending_labelled (past_code at this) tail that)
own_labelled f lits s vars at tail act = refl

mutual
  code_walk : (f : Flow) (lits : List Lit) (at : named.Counts) (b : ℕ) (tail : Bool) (c : Code Pos)
      → code_rules f lits b (labelled at tail c) ≡ put_code f lits at b c
  code_walk f lits at b tail (Ends value) = refl
  code_walk f lits at b tail (Then pos vars act rest) =
      let last = in_tail tail rest vars in
      let s = spot_of f (reached_block f b) at.sites at.blocks vars in
      let others = code_rules f lits b (labelled (past_arms (past at act) act) tail rest) in
      ap (λ rs. rs ++ (arm_rules f lits at.blocks (labelled_act (past at act) last act) ++ others))
      (own_labelled f lits s vars (past at act) last act)
      ∙ ap (λ rs. own_rules f lits s vars act ++ (rs ++ others)) (arms_walk f lits (past at act) at.blocks last act)
      ∙ ap (λ rs. own_rules f lits s vars act ++ (put_arms f lits (past at act) at.blocks act ++ rs))
      (code_walk f lits (past_arms (past at act) act) b tail rest)

  arms_walk : (f : Flow) (lits : List Lit) (at : named.Counts) (arm : ℕ) (tail : Bool) (act : Act Pos)
      → arm_rules f lits arm (labelled_act at tail act) ≡ put_arms f lits at arm act
  arms_walk f lits at arm tail (If v this that) =
      ap (λ rs. rs ++ code_rules f lits (arm + 1) (labelled (past_code at this) tail that)) (code_walk f lits at arm tail this)
      ∙ ap (λ rs. put_code f lits at arm this ++ rs) (code_walk f lits (past_code at this) (arm + 1) tail that)
  arms_walk f lits at arm tail act = refl

lambdas_walk : (f : Flow) (lits : List Lit) (all : List Written) (q site : ℕ) (at : named.Counts) (ps : List Written)
    → flat_map (lambda_rules f lits) (procedures all q site at ps) ≡ put_lambdas f lits at ps
lambdas_walk f lits all q site at [] = refl
lambdas_walk f lits all q site at (p ∷ ps) =
    let others = flat_map (lambda_rules f lits) (procedures all (suc q) (site + length (option_list p.rest)) (past_code (inside at) p.body) ps) in
    let result = λ (o : Option ℕ). value_rules f (reached_block f at.blocks) o (row f (Result at.blocks)) in
    ap (λ rs. (rs ++ result (ending (labelled (inside at) true p.body))) ++ others) (code_walk f lits (inside at) at.blocks true p.body)
    ∙ ap (λ o. (put_code f lits (inside at) at.blocks p.body ++ result o) ++ others) (ending_labelled (inside at) true p.body)
    ∙ ap (λ rs. put_lambda f lits at p ++ rs)
    (lambdas_walk f lits all (suc q) (site + length (option_list p.rest)) (past_code (inside at) p.body) ps)

procs_walk : (f : Flow) (lits : List Lit) (all : List Written) (site n : ℕ) (ps : List Written)
    → procs_rules f lits (procedures all 0 site (record { steps = 0; sites = n; blocks = 0 }) ps) ≡ put_procs f lits n ps
procs_walk f lits all site n [] = refl
procs_walk f lits all site n (p ∷ ps) =
    let at : named.Counts = record { steps = 0; sites = n; blocks = 0 } in
    let others = flat_map (lambda_rules f lits) (procedures all 1 (site + length (option_list p.rest)) (past_code (inside at) p.body) ps) in
    ap (λ rs. atom_in always 0 (row f (Reach 0)) ∷ (rs ++ others)) (code_walk f lits (inside at) 0 true p.body)
    ∙ ap (λ rs. atom_in always 0 (row f (Reach 0)) ∷ (put_code f lits (inside at) 0 p.body ++ rs))
    (lambdas_walk f lits all 1 (site + length (option_list p.rest)) (past_code (inside at) p.body) ps)

pub rules_walk : (f : Form) → put_procs (flow_of f) f.lits (first_sites f.procs) f.procs ≡ rules_of f
rules_walk f = sym (procs_walk (flow_of f) f.lits f.procs _ (first_sites f.procs) f.procs)
