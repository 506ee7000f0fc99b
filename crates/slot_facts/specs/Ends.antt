-- The ends of blocks, by a walk over the text that counts blocks as it goes.
use Rattle.std.specs.Prelude.{ℕ, suc, ◌+◌, List, [], ◌∷◌, ◌++◌, Option}
use Rattle.flow_constraints.specs.Walk.{inside}
use Rattle.named_form.specs.Code.{Act, Code, Ends, Then, If, Counts, Written, past, past_arms, past_code}
use Rattle.plan_facts.specs.Places.{Ending}
use Rattle.slot_facts.specs.declared.ends.End.{End}

abbrev pub end : (proc block : ℕ) → (value : Option ℕ) → End
end q b value = record { proc = q; block = b; value = value }

abbrev pub ending : End → Ending
ending e = record { proc = e.proc; block = e.block; value = e.value }

abbrev mutual
  pub code_ends : {L : Type 0} → (proc block : ℕ) → Counts → Code L → List End
  code_ends q b at (Ends value) = end q b value ∷ []
  code_ends q b at (Then l vars act rest) =
      arm_ends q at.blocks (past at act) act ++ code_ends q b (past_arms (past at act) act) rest

  pub arm_ends : {L : Type 0} → (proc arm : ℕ) → Counts → Act L → List End
  arm_ends q arm at (If test this that) = code_ends q arm at this ++ code_ends q (arm + 1) (past_code at this) that
  arm_ends q arm at act = []

-- procedures that are numbered from this one on
abbrev pub ends_from : (proc : ℕ) → Counts → List Written → List End
ends_from q at [] = []
ends_from q at (p ∷ ps) =
    code_ends q at.blocks (inside at) p.body ++ ends_from (suc q) (past_code (inside at) p.body) ps
