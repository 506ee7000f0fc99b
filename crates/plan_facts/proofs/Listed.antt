-- The walk over the text lists the steps of the program that runs.
use Rattle.std.proofs.Common.{◌≡◌, ℕ, suc, ◌+◌, ◌≤◌, Bool, true, List, [], ◌∷◌, ◌++◌, length, drop, refl, sym, ap, ◌∙◌, append-nil}
use Rattle.std.specs.Prelude.{map}
use Rattle.std.proofs.lemmas.List.{drop_all}
use Rattle.named_form.specs.declared.program.Named.{Named}
use Rattle.named_form.specs.declared.program.Proc.{Proc}
use Rattle.named_form.specs.Written.{form, procedure}
use Rattle.scheme_base.specs.declared.pos.Pos.{Pos}
use Rattle.flow_constraints.specs.Walk.{inside}
use Rattle.named_form.specs.Code.{Act, Code, Ends, Then, If, Counts, Written, first_sites, in_tail, labelled, labelled_act, option_list, past, past_arms, past_code, procedures}
use Rattle.named_form.specs.Valid.{Form}
use Rattle.plan_facts.specs.declared.place.Place.{Place}
use Rattle.plan_facts.specs.Places.{action_of, arm_steps, places_of, steps_from, steps_in}
use Rattle.plan_facts.specs.Walk.{placed, spot, walk_arms, walk_code, walk_from}

-- labels change nothing of what a step does
action_labelled : (at : Counts) (tail : Bool) (act : Act Pos) → action_of (labelled_act at tail act) ≡ action_of act
action_labelled at tail (If test this that) = refl
action_labelled at tail act = refl

mutual
  code_listed : (q b : ℕ) (at : Counts) (tail : Bool) (c : Code Pos)
      → steps_in q b (labelled at tail c) ≡ walk_code (spot q b tail) at c
  code_listed q b at tail (Ends value) = refl
  code_listed q b at tail (Then pos vars act rest) =
      let last = in_tail tail rest vars in
      let others = steps_in q b (labelled (past_arms (past at act) act) tail rest) in
      let arms = arm_steps q at.blocks (labelled_act (past at act) last act) in
      let here : Place = placed (spot q b tail) at last vars act in
      ap (λ d. (record here { action = d }) ∷ (arms ++ others)) (action_labelled (past at act) last act)
      ∙ (ap (λ xs. here ∷ (xs ++ others)) (arms_listed q at.blocks (past at act) last act)
      ∙ ap (λ xs. here ∷ (walk_arms q last at.blocks (past at act) act ++ xs)) (code_listed q b (past_arms (past at act) act) tail rest))

  arms_listed : (q arm : ℕ) (at : Counts) (tail : Bool) (act : Act Pos)
      → arm_steps q arm (labelled_act at tail act) ≡ walk_arms q tail arm at act
  arms_listed q arm at tail (If test this that) =
      ap (λ xs. xs ++ steps_in q (arm + 1) (labelled (past_code at this) tail that)) (code_listed q arm at tail this)
      ∙ ap (λ xs. walk_code (spot q arm tail) at this ++ xs) (code_listed q (arm + 1) (past_code at this) tail that)
  arms_listed q arm at tail act = refl

procs_listed : (all : List Written) (q site : ℕ) (at : Counts) (ps : List Written)
    → steps_from q (procedures all q site at ps) ≡ walk_from q at ps
procs_listed all q site at [] = refl
procs_listed all q site at (p ∷ ps) =
    ap (λ xs. xs ++ steps_from (suc q) (procedures all (suc q) (site + length (option_list p.rest)) (past_code (inside at) p.body) ps))
    (code_listed q at.blocks (inside at) true p.body)
    ∙ ap (λ xs. walk_code (spot q at.blocks true) (inside at) p.body ++ xs)
    (procs_listed all (suc q) (site + length (option_list p.rest)) (past_code (inside at) p.body) ps)

pub all_listed : (f : Form) → walk_from 0 (record { steps = 0; sites = first_sites f.procs; blocks = 0 }) f.procs ≡ places_of f
all_listed f = sym (procs_listed f.procs 0 _ (record { steps = 0; sites = first_sites f.procs; blocks = 0 }) f.procs)

-- all procedures have been gone over
pub all_walked : (n : Named) (procs : List Proc) (k sites : ℕ) (last : Counts) (steps : List Place) → procs ≡ n.procs → length procs ≤ k
    → sites ≡ first_sites (map procedure procs)
    → steps ++ walk_from k last (map procedure (drop k procs)) ≡ walk_from 0 (record { steps = 0; sites = sites; blocks = 0 }) (map procedure procs)
    → steps ≡ places_of (form n)
all_walked n procs k sites last steps same done begun was =
    let none = ap (λ ps. steps ++ walk_from k last (map procedure ps)) (drop_all k procs done) in
    sym (append-nil steps)
    ∙ (sym none
    ∙ (was
    ∙ (ap (λ s. walk_from 0 (record { steps = 0; sites = s; blocks = 0 }) (map procedure procs)) begun
    ∙ (ap (λ ps. walk_from 0 (record { steps = 0; sites = first_sites (map procedure ps); blocks = 0 }) (map procedure ps)) same
    ∙ all_listed (form n)))))
