-- How many rows and atoms there are, step by step, each count as 64 bits hold it.
use Rattle.std.specs.Prelude.{ℕ, ◌+◌, ◌-◌, ◌*◌, ◌^◌, List, [], ◌∷◌, length, min, Option, Some, None, Bool, nat_eq, if◌then◌else◌}
use Rattle.scheme_base.specs.declared.lit.Lit.{Lit}
use Rattle.named_form.specs.Code.{Code, Ends, Then, Act, If, Written, sites_of}
use Rattle.flow_constraints.specs.declared.census.Census.{Census}
use Rattle.flow_constraints.specs.declared.layout.Shape.{Shape}
use Rattle.flow_constraints.specs.Layout.{own_rows}
use Rattle.flow_constraints.specs.Quoted.{coming_past, shape_of}

-- a count as 64 bits hold it
abbrev pub cut : ℕ → ℕ
cut n = min n (2 ^ 64 - 1)

-- so many more
abbrev pub more : (rows atoms : ℕ) → Census → Census
more r a c = record { rows = cut (c.rows + r); atoms = cut (c.atoms + a) }

-- a step, its arms aside
abbrev pub counted_step : {L : Type 0} → (vars : List ℕ) → Act L → Census → Census
counted_step vars act c = more (own_rows act) (sites_of act) (more (length vars) 0 c)

abbrev mutual
  pub counted_code : {L : Type 0} → Code L → Census → Census
  counted_code (Ends value) c = c
  counted_code (Then l vars act rest) c = counted_code rest (counted_arms act (counted_step vars act c))

  pub counted_arms : {L : Type 0} → Act L → Census → Census
  counted_arms (If test this that) c = counted_code that (counted_code this c)
  counted_arms act c = c

-- a rest parameter, with the car and the cdr of its lists, and their atom
abbrev pub counted_rest : Option ℕ → Census → Census
counted_rest None c = c
counted_rest (Some x) c = more 3 1 c

abbrev pub counted_body : Written → Census → Census
counted_body p c = counted_code p.body (counted_rest p.rest (more (length p.params) 0 c))

abbrev pub counted_main : Written → Census → Census
counted_main p c = counted_body p (more 1 0 c)

-- a procedure from 1 on, whose closures have an atom
abbrev pub counted_lambda : Written → Census → Census
counted_lambda p c = counted_body p (more 2 1 c)

abbrev pub counted_lambdas : List Written → Census → Census
counted_lambdas [] c = c
counted_lambdas (p ∷ ps) c = counted_lambdas ps (counted_lambda p c)

abbrev pub counted_procs : List Written → Census → Census
counted_procs [] c = c
counted_procs (p ∷ ps) c = counted_lambdas ps (counted_main p c)

abbrev pub one_if : Bool → ℕ
one_if there = if there then 1 else 0

-- a quoted object of this shape
abbrev pub counted_object : Shape → Census → Census
counted_object s c =
    more 0 (one_if s.texts) (more (one_if s.vectors) (one_if s.vectors) (more (2 * one_if s.pairs) (one_if s.pairs) c))

-- literals, of which so many parts of the last quoted object are to come
abbrev pub counted_lits : List Lit → (coming : ℕ) → Census → Census
counted_lits [] n c = c
counted_lits (l ∷ ls) n c =
    if nat_eq n 0 then counted_lits ls (coming_past 1 l) (counted_object (shape_of (l ∷ ls)) c)
    else counted_lits ls (coming_past n l) c
