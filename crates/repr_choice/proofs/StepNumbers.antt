-- The steps of a program stand in a list in the order of their numbers, and as many as are counted.
use Rattle.std.proofs.Common.{◌≡◌, ℕ, zero, suc, ◌+◌, Bool, true, List, [], ◌∷◌, ◌++◌, length, Some, refl, sym, ap, ◌∙◌, subst, arith, length-append}
use Rattle.std.specs.Prelude.{slice_get}
use Rattle.scheme_base.specs.declared.pos.Pos.{Pos}
use Rattle.flow_constraints.specs.Walk.{inside}
use Rattle.named_form.specs.Code.{Act, Code, Ends, Then, If, Counts, Written, first_sites, in_tail, past, past_all, past_arms, past_code, totals}
use Rattle.named_form.specs.Valid.{Form}
use Rattle.plan_facts.specs.declared.place.Place.{Place}
use Rattle.plan_facts.specs.Places.{places_of}
use Rattle.plan_facts.specs.Walk.{spot, walk_arms, walk_code, walk_from}
use Rattle.plan_facts.proofs.Listed.{all_listed}

abbrev InOrder : (from : ℕ) → List Place → Type 0
InOrder from [] = Unit {0}
InOrder from (p ∷ ps) = (p.step ≡ from) × InOrder (suc from) ps

join : (from : ℕ) (xs ys : List Place) → InOrder from xs → InOrder (from + length xs) ys → InOrder from (xs ++ ys)
join from [] ys h k = let same : from + 0 ≡ from = omega arith in subst (λ n. InOrder n ys) same k
join from (x ∷ xs) ys h k =
    let next : from + suc (length xs) ≡ suc from + length xs = omega arith in
    (h.0, join (suc from) xs ys h.1 (subst (λ n. InOrder n ys) next k))

number_of : (from : ℕ) (ps : List Place) (i : ℕ) (p : Place) → InOrder from ps → slice_get ps i ≡ Some p → p.step ≡ from + i
number_of from [] i p h there = absurd (cc)
number_of from (x ∷ xs) zero p h there =
    let same : x ≡ p = cc in
    let first : x.step ≡ from = h.0 in
    let none : from ≡ from + 0 = omega arith in
    ap (λ (y : Place). y.step) (sym same) ∙ (first ∙ none)
number_of from (x ∷ xs) (suc i) p h there =
    let next : suc from + i ≡ from + suc i = omega arith in
    number_of (suc from) xs i p h.1 there ∙ next

-- the steps of what is walked over come in order from the count of those before, and are counted
record Counted (from to : ℕ) (ps : List Place) : Type 0 where
  order : InOrder from ps
  many : to ≡ from + length ps

both : (from middle to : ℕ) (xs ys : List Place) → Counted from middle xs → Counted middle to ys → Counted from to (xs ++ ys)
both from middle to xs ys h k =
    let first = h.many in
    let second = k.many in
    let all = length-append xs ys in
    record { order = join from xs ys h.order (subst (λ n. InOrder n ys) first k.order); many = omega (arith, first, second, all) }

none : (from : ℕ) → Counted from from []
none from = record { order = tt; many = omega arith }

one : (from to : ℕ) (p : Place) (ps : List Place) → p.step ≡ from → Counted (suc from) to ps → Counted from to (p ∷ ps)
one from to p ps is h = let rest = h.many in record { order = (is, h.order); many = omega (arith, rest) }

mutual
  code_counted : (q b : ℕ) (t : Bool) (at : Counts) (c : Code Pos) → Counted at.steps (past_code at c).steps (walk_code (spot q b t) at c)
  code_counted q b t at (Ends value) = none at.steps
  code_counted q b t at (Then pos vars act rest) =
      let tail = in_tail t rest vars in
      let middle = past_arms (past at act) act in
      one at.steps (past_code middle rest).steps _ (walk_arms q tail at.blocks (past at act) act ++ walk_code (spot q b t) middle rest) refl
      (both (suc at.steps) middle.steps (past_code middle rest).steps (walk_arms q tail at.blocks (past at act) act) (walk_code (spot q b t) middle rest)
      (arms_counted q tail at.blocks (past at act) act) (code_counted q b t middle rest))

  arms_counted : (q : ℕ) (tail : Bool) (arm : ℕ) (at : Counts) (act : Act Pos)
      → Counted at.steps (past_arms at act).steps (walk_arms q tail arm at act)
  arms_counted q tail arm at (If test this that) =
      let middle = past_code at this in
      both at.steps middle.steps (past_code middle that).steps (walk_code (spot q arm tail) at this) (walk_code (spot q (arm + 1) tail) middle that)
      (code_counted q arm tail at this) (code_counted q (arm + 1) tail middle that)
  arms_counted q tail arm at act = none at.steps

all_counted : (q : ℕ) (at : Counts) (ps : List Written) → Counted at.steps (past_all at ps).steps (walk_from q at ps)
all_counted q at [] = none at.steps
all_counted q at (p ∷ ps) =
    let middle = past_code (inside at) p.body in
    both at.steps middle.steps (past_all middle ps).steps (walk_code (spot q at.blocks true) (inside at) p.body) (walk_from (suc q) middle ps)
    (code_counted q at.blocks true (inside at) p.body) (all_counted (suc q) middle ps)

program_counted : (f : Form) → Counted 0 (totals f.procs).steps (places_of f)
program_counted f =
    subst (λ ps. Counted 0 (totals f.procs).steps ps) (all_listed f)
    (all_counted 0 (record { steps = 0; sites = first_sites f.procs; blocks = 0 }) f.procs)

pub step_number : (f : Form) (n : ℕ) (p : Place) → slice_get (places_of f) n ≡ Some p → p.step ≡ n
step_number f n p there = number_of 0 (places_of f) n p (program_counted f).order there ∙ zero_first
  where
    zero_first : 0 + n ≡ n
    zero_first = omega arith

pub many_steps : (f : Form) → length (places_of f) ≡ (totals f.procs).steps
many_steps f = let all = (program_counted f).many in omega (arith, all)
