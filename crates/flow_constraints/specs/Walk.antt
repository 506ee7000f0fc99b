-- The same list, by a walk over the text that counts steps, sites and blocks as it goes.
use Rattle.std.specs.Prelude.{ℕ, suc, ◌+◌, List, [], ◌∷◌, ◌++◌}
use Rattle.scheme_base.specs.declared.lit.Lit.{Lit}
use Rattle.flow_form.specs.declared.rule.Rule.{Rule}
use Rattle.named_form.specs.Code as named
use Rattle.named_form.specs.Code.{Code, Ends, Then, Act, If, Written, past, past_arms, past_code, first_sites}
use Rattle.flow_constraints.specs.declared.counts.Counts.{Counts}
use Rattle.flow_constraints.specs.declared.flow.Flow.{Flow}
use Rattle.flow_constraints.specs.Listed.{reached_block}
use Rattle.flow_constraints.specs.Rows.{row, Reach, Result}
use Rattle.flow_constraints.specs.Table.{always, atom_in, ending, own_rules, spot_of, value_rules}

abbrev pub counts : Counts → named.Counts
counts c = record { steps = c.steps; sites = c.sites; blocks = c.blocks }

-- past the number of a block that begins
abbrev pub inside : named.Counts → named.Counts
inside c = record { steps = c.steps; sites = c.sites; blocks = suc c.blocks }

abbrev mutual
  pub put_code : {L : Type 0} → Flow → List Lit → named.Counts → (block : ℕ) → Code L → List Rule
  put_code f lits at b (Ends value) = []
  put_code f lits at b (Then l vars act rest) =
      own_rules f lits (spot_of f (reached_block f b) at.sites at.blocks vars) vars act
      ++ (put_arms f lits (past at act) at.blocks act ++ put_code f lits (past_arms (past at act) act) b rest)

  pub put_arms : {L : Type 0} → Flow → List Lit → named.Counts → (arm : ℕ) → Act L → List Rule
  put_arms f lits at arm (If test this that) =
      put_code f lits at arm this ++ put_code f lits (past_code at this) (arm + 1) that
  put_arms f lits at arm act = []

abbrev pub put_lambda : Flow → List Lit → named.Counts → Written → List Rule
put_lambda f lits at p =
    put_code f lits (inside at) at.blocks p.body
    ++ value_rules f (reached_block f at.blocks) (ending p.body) (row f (Result at.blocks))

abbrev pub put_lambdas : Flow → List Lit → named.Counts → List Written → List Rule
put_lambdas f lits at [] = []
put_lambdas f lits at (p ∷ ps) =
    put_lambda f lits at p ++ put_lambdas f lits (past_code (inside at) p.body) ps

abbrev pub put_procs : Flow → List Lit → (sites : ℕ) → List Written → List Rule
put_procs f lits n [] = []
put_procs f lits n (p ∷ ps) =
    let at : named.Counts = record { steps = 0; sites = n; blocks = 0 } in
    atom_in always 0 (row f (Reach 0))
    ∷ (put_code f lits (inside at) 0 p.body ++ put_lambdas f lits (past_code (inside at) p.body) ps)
