-- What a look at an expression finds in it.
use Rattle.std.specs.Prelude.{ℕ, suc, ◌≡◌, nat_eq, List, [], ◌∷◌, ◌++◌, map, Some, ◌||◌}
use Rattle.indexmap.specs.IndexMap.{IndexMap, get}
use Rattle.indexmap.specs.IndexSet.{contains}
use Rattle.core_form.specs.declared.program.Var.{Var}
use Rattle.core_form.specs.declared.program.VarRef.{VarRef}
use Rattle.core_form.specs.declared.program.VarRef.TheVariants as ref
use Rattle.core_form.specs.declared.program.Program.{Program}
use Rattle.core_form.specs.Trees.{Tree, Stands}
use Rattle.alpha_core.specs.Names.{var_of}
use Rattle.box_name.specs.declared.survey.Origin.{Origin}
use Rattle.box_name.specs.declared.survey.Survey.{Survey}
use Rattle.box_name.specs.Told.{Expr, Exprs, told}
use Rattle.box_name.specs.Counts.{procs_in, lambdas, all_lambdas}
use Rattle.box_name.specs.Whole.{placed_lambdas, assigned, all_assigned, holes, all_holes, tops, all_tops, has, seen, tops_of}

-- a variable, if it is a local one, or if it is a top-level one
abbrev pub local_of : VarRef → List ℕ
local_of (ref.Local n) = n ∷ []
local_of (ref.Top x) = []

abbrev pub top_of : VarRef → List Var
top_of (ref.Local n) = []
top_of (ref.Top x) = x ∷ []

-- these are the lambda expressions, each with its form
abbrev pub ArePlaced : Program VarRef → List Origin → List (ℕ × Expr) → Type 0
ArePlaced core [] [] = Unit {0}
ArePlaced core (o ∷ os) (l ∷ ls) =
    (o.form ≡ l.0) × (e : Tree VarRef) × Stands core.exprs o.expr e × (told core.lits e ≡ l.1) × ArePlaced core os ls
ArePlaced core os ls = ⊥

-- how many procedures there are is noted of lambda expressions alone, and rightly
abbrev pub IsInside : {S : Type 0} → Program VarRef → IndexMap ℕ ℕ S → Type 0
IsInside core m =
    (l c : ℕ) → get nat_eq m l ≡ Some c → (e : Tree VarRef) → Stands core.exprs l e → procs_in (told core.lits e) ≡ suc c

-- lambda expressions, assigned variables, variables without a value and top-level ones were found
pub record Sees (core : Program VarRef) (a b : Survey) (ls : List (ℕ × Expr)) (xs ys : List ℕ) (zs : List Var) : Type 0 where
  pub more : List Origin
  pub items : b.procs.items ≡ a.procs.items ++ more
  pub origins : ArePlaced core more ls
  pub assigned : (x : ℕ) → contains nat_eq b.assigned x ≡ (contains nat_eq a.assigned x || has xs x)
  pub holes : (x : ℕ) → contains nat_eq b.holes x ≡ (contains nat_eq a.holes x || has ys x)
  pub tops : map var_of b.tops.keys ≡ seen (map var_of a.tops.keys) zs
  pub inside : IsInside core a.inside → IsInside core b.inside

-- the same where the lambda expressions stand in one form
abbrev pub Finds : Program VarRef → (form : ℕ) → (a b : Survey) → List Expr → (xs ys : List ℕ) → List Var → Type 0
Finds core form a b ls xs ys zs = Sees core a b (map (λ l. (form, l)) ls) xs ys zs

abbrev pub FindsIn : Program VarRef → (form : ℕ) → (a b : Survey) → Expr → Type 0
FindsIn core form a b e = Finds core form a b (lambdas e) (assigned e) (holes e) (tops e)

abbrev pub FindsInAll : Program VarRef → (form : ℕ) → (a b : Survey) → Exprs → Type 0
FindsInAll core form a b es = Finds core form a b (all_lambdas es) (all_assigned es) (all_holes es) (all_tops es)

-- the same of the forms of a program, from form f on
abbrev pub SeesForms : Program VarRef → (f : ℕ) → (a b : Survey) → Exprs → Type 0
SeesForms core f a b es = Sees core a b (placed_lambdas f es) (all_assigned es) (all_holes es) (all_tops es)

-- all that is found in a program
pub record IsSurvey (core : Program VarRef) (survey : Survey) (all : Exprs) : Type 0 where
  pub procs : ArePlaced core survey.procs.items (placed_lambdas 0 all)
  pub assigned : (x : ℕ) → contains nat_eq survey.assigned x ≡ has (all_assigned all) x
  pub holes : (x : ℕ) → contains nat_eq survey.holes x ≡ has (all_holes all) x
  pub tops : map var_of survey.tops.keys ≡ tops_of all
  pub inside : IsInside core survey.inside
