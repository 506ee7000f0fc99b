-- A step makes closures of later procedures alone.
use Rattle.std.proofs.Common.{◌≡◌, ℕ, zero, suc, ◌+◌, ◌<◌, Bool, true, List, [], ◌∷◌, ◌++◌, Some, refl, subst}
use Rattle.std.specs.Prelude.{nat_lt, slice_get}
use Rattle.std.specs.List.{AllByRecursion, list_all}
use Rattle.std.proofs.lemmas.Bool.{lt-ltb, ltb-true}
use Rattle.scheme_base.specs.declared.pos.Pos.{Pos}
use Rattle.flow_constraints.specs.Walk.{inside}
use Rattle.least_set.specs.Least.{has}
use Rattle.least_set.proofs.Has.{and_cases, both, one_of}
use Rattle.named_form.specs.Code.{Act, Code, Ends, Then, If, Counts, Written, arms_close, closes_in, first_sites, in_tail, past, past_arms, past_code}
use Rattle.named_form.specs.Code as code
use Rattle.named_form.specs.Valid.{Form, LaterOnes}
use Rattle.plan_facts.specs.declared.place.Place.{Place}
use Rattle.plan_facts.specs.Escaping.{closes}
use Rattle.plan_facts.specs.Places.{action_of, places_of}
use Rattle.plan_facts.specs.Walk.{placed, spot, walk_arms, walk_code, walk_from}
use Rattle.plan_facts.proofs.Listed.{all_listed}
use Rattle.slot_facts.proofs.Lists.{both_lists, of_both_lists}

abbrev all_later : (proc : ℕ) → List ℕ → Bool
all_later q rs = list_all (λ r. nat_lt q r) rs

abbrev makes_later : Place → Bool
makes_later p = all_later p.proc (closes p.action)

own_later : (q : ℕ) (act : Act Pos) → all_later q (code.closes act) ≡ true → all_later q (closes (action_of act)) ≡ true
own_later q (code.Closure r) h = h
own_later q (code.Fix rs) h = h
own_later q act h = refl

mutual
  code_later : (q b : ℕ) (tail : Bool) (at : Counts) (c : Code Pos) → all_later q (closes_in c) ≡ true
      → list_all makes_later (walk_code (spot q b tail) at c) ≡ true
  code_later q b tail at (Ends value) h = refl
  code_later q b tail at (Then pos vars act rest) h =
      let last = in_tail tail rest vars in
      let middle = past_arms (past at act) act in
      let arms = walk_arms q last at.blocks (past at act) act in
      let others = walk_code (spot q b tail) middle rest in
      let first = of_both_lists (λ r. nat_lt q r) (code.closes act) (arms_close act ++ closes_in rest) h in
      let second = of_both_lists (λ r. nat_lt q r) (arms_close act) (closes_in rest) first.1 in
      both (makes_later (placed (spot q b tail) at last vars act)) (list_all makes_later (arms ++ others)) (own_later q act first.0)
      (both_lists makes_later arms others (arms_later q last at.blocks (past at act) act second.0) (code_later q b tail middle rest second.1))

  arms_later : (q : ℕ) (tail : Bool) (arm : ℕ) (at : Counts) (act : Act Pos) → all_later q (arms_close act) ≡ true
      → list_all makes_later (walk_arms q tail arm at act) ≡ true
  arms_later q tail arm at (If test this that) h =
      let parts = of_both_lists (λ r. nat_lt q r) (closes_in this) (closes_in that) h in
      both_lists makes_later (walk_code (spot q arm tail) at this) (walk_code (spot q (arm + 1) tail) (past_code at this) that)
      (code_later q arm tail at this parts.0) (code_later q (arm + 1) tail (past_code at this) that parts.1)
  arms_later q tail arm at act h = refl

all_by_test : (q : ℕ) (rs : List ℕ) → AllByRecursion (λ r. q < r) rs → all_later q rs ≡ true
all_by_test q [] h = refl
all_by_test q (r ∷ rs) h = both (nat_lt q r) (all_later q rs) (lt-ltb q r h.0) (all_by_test q rs h.1)

procs_later : (q : ℕ) (at : Counts) (ps : List Written) → LaterOnes q ps → list_all makes_later (walk_from q at ps) ≡ true
procs_later q at [] h = refl
procs_later q at (p ∷ ps) h =
    let middle = past_code (inside at) p.body in
    both_lists makes_later (walk_code (spot q at.blocks true) (inside at) p.body) (walk_from (suc q) middle ps)
    (code_later q at.blocks true (inside at) p.body (all_by_test q (closes_in p.body) h.0)) (procs_later (suc q) middle ps h.1)

program_later : (f : Form) → LaterOnes 0 f.procs → list_all makes_later (places_of f) ≡ true
program_later f h =
    subst (λ ps. list_all makes_later ps ≡ true) (all_listed f)
    (procs_later 0 (record { steps = 0; sites = first_sites f.procs; blocks = 0 }) f.procs h)

at_item : (t : Place → Bool) (ps : List Place) (i : ℕ) (p : Place) → list_all t ps ≡ true → slice_get ps i ≡ Some p → t p ≡ true
at_item t [] i p h there = absurd (cc)
at_item t (x ∷ xs) zero p h there = let same : x ≡ p = cc in subst (λ y. t y ≡ true) same (and_cases (t x) (list_all t xs) h).0
at_item t (x ∷ xs) (suc i) p h there = at_item t xs i p (and_cases (t x) (list_all t xs) h).1 there

pub later_ones : (f : Form) → LaterOnes 0 f.procs → (i : ℕ) (p : Place) (r : ℕ) → slice_get (places_of f) i ≡ Some p
    → has (closes p.action) r ≡ true → p.proc < r
later_ones f h i p r there makes =
    ltb-true p.proc r
    (one_of (λ s. nat_lt p.proc s) (closes p.action) r (at_item makes_later (places_of f) i p (program_later f h) there) makes)
