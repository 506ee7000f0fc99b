-- The walk over the text lists the ends of the blocks of the program that runs.
use Rattle.std.proofs.Common.{◌≡◌, ℕ, suc, ◌+◌, Bool, true, List, [], ◌∷◌, ◌++◌, length, refl, ap, ◌∙◌}
use Rattle.std.specs.Prelude.{map}
use Rattle.scheme_base.specs.declared.pos.Pos.{Pos}
use Rattle.flow_constraints.specs.Walk.{inside}
use Rattle.named_form.specs.Code.{Act, Code, Ends, Then, If, Counts, Written, first_sites, in_tail, labelled, labelled_act, option_list, past, past_arms, past_code, procedures}
use Rattle.named_form.specs.Valid.{Form}
use Rattle.plan_facts.specs.Places.{arm_endings, endings_from, endings_in, endings_of}
use Rattle.slot_facts.specs.declared.ends.End.{End}
use Rattle.slot_facts.specs.Ends.{arm_ends, code_ends, ending, ends_from}

joined : (xs ys : List End) → map ending (xs ++ ys) ≡ map ending xs ++ map ending ys
joined [] ys = refl
joined (x ∷ xs) ys = ap (λ zs. ending x ∷ zs) (joined xs ys)

mutual
  code_ended : (q b : ℕ) (at : Counts) (tail : Bool) (c : Code Pos) → map ending (code_ends q b at c) ≡ endings_in q b (labelled at tail c)
  code_ended q b at tail (Ends value) = refl
  code_ended q b at tail (Then pos vars act rest) =
      let last = in_tail tail rest vars in
      let middle = past_arms (past at act) act in
      joined (arm_ends q at.blocks (past at act) act) (code_ends q b middle rest)
      ∙ (ap (λ xs. xs ++ map ending (code_ends q b middle rest)) (arms_ended q at.blocks (past at act) last act)
      ∙ ap (λ xs. arm_endings q at.blocks (labelled_act (past at act) last act) ++ xs) (code_ended q b middle tail rest))

  arms_ended : (q arm : ℕ) (at : Counts) (tail : Bool) (act : Act Pos)
      → map ending (arm_ends q arm at act) ≡ arm_endings q arm (labelled_act at tail act)
  arms_ended q arm at tail (If test this that) =
      joined (code_ends q arm at this) (code_ends q (arm + 1) (past_code at this) that)
      ∙ (ap (λ xs. xs ++ map ending (code_ends q (arm + 1) (past_code at this) that)) (code_ended q arm at tail this)
      ∙ ap (λ xs. endings_in q arm (labelled at tail this) ++ xs) (code_ended q (arm + 1) (past_code at this) tail that))
  arms_ended q arm at tail act = refl

-- steps and sites change no blocks' numbers
procs_ended : (all : List Written) (q site : ℕ) (at : Counts) (ps : List Written)
    → map ending (ends_from q at ps) ≡ endings_from q (procedures all q site at ps)
procs_ended all q site at [] = refl
procs_ended all q site at (p ∷ ps) =
    let next = past_code (inside at) p.body in
    joined (code_ends q at.blocks (inside at) p.body) (ends_from (suc q) next ps)
    ∙ (ap (λ xs. xs ++ map ending (ends_from (suc q) next ps)) (code_ended q at.blocks (inside at) true p.body)
    ∙ ap (λ xs. endings_in q at.blocks (labelled (inside at) true p.body) ++ xs)
    (procs_ended all (suc q) (site + length (option_list p.rest)) next ps))

pub all_ended : (f : Form) → map ending (ends_from 0 (record { steps = 0; sites = first_sites f.procs; blocks = 0 }) f.procs) ≡ endings_of f
all_ended f = procs_ended f.procs 0 _ (record { steps = 0; sites = first_sites f.procs; blocks = 0 }) f.procs
