-- What the naming of whole procedures notes and makes.
use Rattle.std.specs.Prelude.{ℕ, suc, ◌≡◌, ◌<◌, ◌^◌, ◌+◌, List, [], ◌∷◌, ◌++◌, length, map, Option, None}
use Rattle.scheme_base.specs.declared.pos.Pos.{Pos}
use Rattle.core_form.specs.declared.program.Program.{Program}
use Rattle.core_form.specs.declared.program.VarRef.{VarRef}
use Rattle.core_form.specs.Trees.{Trees}
use Rattle.named_form.specs.declared.program.Named.{Named}
use Rattle.named_form.specs.declared.program.Proc.{Proc}
use Rattle.named_form.specs.declared.program.Step.{Step}
use Rattle.named_form.specs.Code.{Code, Ends, option_list}
use Rattle.named_form.specs.Valid.{Counted, numbers_from}
use Rattle.named_form.specs.Written.{form, procedure}
use Rattle.box_name.specs.declared.namer.Namer.{Namer}
use Rattle.box_name.specs.Told.{Expr, Exprs}
use Rattle.box_name.specs.Cores.{form_of}
use Rattle.box_name.specs.Counts.{all_places, all_after, after_boxes, box_places, after_lambda, lambda_places}
use Rattle.box_name.specs.Naming.{Setting, make_boxes, rest_var, written}
use Rattle.box_name.specs.Whole.{after_lambdas, all_written, form_code, is_boxed, lambdas_places, named, setting}
use Rattle.box_name.specs.NamingSteps.{linked, Agrees, Emits, Notes}

-- the next variables were taken
pub record TakesVars (a b : Namer) (many : ℕ) (vs : List ℕ) : Type 0 where
  pub notes : Notes a b [] (a.next_var + many) a.next_proc
  pub vars : vs ≡ numbers_from a.next_var many

pub record TakesRest (a b : Namer) (x v : Option ℕ) : Type 0 where
  pub notes : Notes a b [] (a.next_var + length (option_list x)) a.next_proc
  pub var : (s : Setting) → v ≡ rest_var s x a.next_var

-- the boxes of parameters were made, which have the variables from v on
abbrev pub SettlesAll : Setting → (n p : ℕ) → (a b : Namer) → (before behind : List Step) → Pos → (xs : List ℕ) → (v : ℕ) → Type 0
SettlesAll s n p a b before behind q xs v =
    a.next_var ≡ n → a.next_proc ≡ p
    → Emits s a b before behind (box_places s.boxed v n xs) (after_boxes s.boxed n xs) p (make_boxes s q xs v n)

-- a lambda expression was named, as procedure p
abbrev pub NamesProc : Setting → (n p : ℕ) → (a b : Namer) → Expr → Proc → Type 0
NamesProc s n p a b e proc =
    a.next_var ≡ n → a.next_proc ≡ suc p
    → (b.vars.entries ≡ a.vars.entries ++ lambda_places s.boxed n e) × (b.next_var ≡ after_lambda s.boxed n e)
    × (Agrees b s → procedure proc ≡ written s n p e)

-- lambda expressions were named, as the procedures from 1 on
abbrev pub NamesProcs : (a b : Namer) → (before behind : List Proc) → (all : Exprs) → List (ℕ × Expr) → Type 0
NamesProcs a b before behind all ls =
    (n : ℕ) → a.next_var ≡ n
    → (b.vars.entries ≡ a.vars.entries ++ lambdas_places (is_boxed all) n ls)
    × (Agrees b (setting all 0) → map procedure behind ≡ map procedure before ++ all_written all n 1 ls)

-- lambda expressions that bind the variables from n on, as the procedures from 1 on, have numbers of 32 bits
pub record NumbersFit (all : Exprs) (n : ℕ) (ls : List (ℕ × Expr)) : Type 0 where
  pub procs : suc (length ls) < 2 ^ 32
  pub vars : after_lambdas (is_boxed all) n ls < 2 ^ 32

-- the forms of a program were named, where nothing was before
abbrev pub NamesForms : (a b : Namer) → (before behind : List Step) → (all : Exprs) → Type 0
NamesForms a b before behind all =
    a.vars.entries ≡ [] → a.next_var ≡ 0 → a.next_proc ≡ 1 → before ≡ []
    → (b.vars.entries ≡ all_places (is_boxed all) 0 all) × (b.next_var ≡ all_after (is_boxed all) 0 all)
    × (Agrees b (setting all 0) → linked behind (Ends None) ≡ form_code all 0 0 1 all)

-- the forms of a program were named, as procedure 0
abbrev pub NamesProgram : (a b : Namer) → (all : Exprs) → Proc → Type 0
NamesProgram a b all proc =
    a.vars.entries ≡ [] → a.next_var ≡ 0 → a.next_proc ≡ 1
    → (b.vars.entries ≡ all_places (is_boxed all) 0 all) × (b.next_var ≡ all_after (is_boxed all) 0 all)
    × (Agrees b (setting all 0)
    → procedure proc ≡ record { params = []; rest = None; body = form_code all 0 0 1 all; pos = record { line = 0; col = 0 } })

-- these are the procedures of a program, procedure 0 first
abbrev pub AreNamed : List Proc → (all : Exprs) → Type 0
AreNamed procs all = map procedure procs ≡ (named all []).procs

-- the named form of a core with these forms was made, and its procedures and variables have numbers of 32 bits
pub record MakesForm (core : Program VarRef) (forms : Trees VarRef) (made : Named) : Type 0 where
  pub is : form made ≡ form_of core forms
  pub counted : Counted (form made).procs
