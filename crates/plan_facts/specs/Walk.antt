-- The same list, by a walk over the text that counts steps, sites and blocks as it goes.
use Rattle.std.specs.Prelude.{ℕ, suc, ◌+◌, List, [], ◌∷◌, ◌++◌, Bool, true}
use Rattle.flow_constraints.specs.Walk.{inside}
use Rattle.named_form.specs.Code.{Act, Code, Ends, Then, If, Counts, Written, in_tail, past, past_arms, past_code, single}
use Rattle.plan_facts.specs.declared.place.Place.{Place}
use Rattle.plan_facts.specs.declared.walk.Spot.{Spot}
use Rattle.plan_facts.specs.Places.{action_of}

abbrev pub spot : (proc block : ℕ) → (tail : Bool) → Spot
spot q b tail = record { proc = q; block = b; tail = tail }

-- a step that stands here, before which so many steps, sites and blocks stand
abbrev pub placed : {L : Type 0} → Spot → Counts → (tail : Bool) → (vars : List ℕ) → Act L → Place
placed s at tail vars act =
    record { proc = s.proc; block = s.block; step = at.steps; site = at.sites; tail = tail; var = single vars; action = action_of act }

abbrev mutual
  pub walk_code : {L : Type 0} → Spot → Counts → Code L → List Place
  walk_code s at (Ends value) = []
  walk_code s at (Then l vars act rest) =
      placed s at (in_tail s.tail rest vars) vars act
      ∷ (walk_arms s.proc (in_tail s.tail rest vars) at.blocks (past at act) act ++ walk_code s (past_arms (past at act) act) rest)

  pub walk_arms : {L : Type 0} → (proc : ℕ) → (tail : Bool) → (arm : ℕ) → Counts → Act L → List Place
  walk_arms q tail arm at (If test this that) =
      walk_code (spot q arm tail) at this ++ walk_code (spot q (arm + 1) tail) (past_code at this) that
  walk_arms q tail arm at act = []

-- procedures that are numbered from this one on
abbrev pub walk_from : (proc : ℕ) → Counts → List Written → List Place
walk_from q at [] = []
walk_from q at (p ∷ ps) =
    walk_code (spot q at.blocks true) (inside at) p.body ++ walk_from (suc q) (past_code (inside at) p.body) ps
