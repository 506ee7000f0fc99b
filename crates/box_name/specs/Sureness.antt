-- From which form on each top-level variable is sure, as it is noted.
use Rattle.std.specs.Prelude.{ℕ, ◌≡◌, nat_lt, Option, None, Some, Bool, true, false}
use Rattle.indexmap.specs.IndexMap.{get}
use Rattle.core_form.specs.declared.program.Var.{Var}
use Rattle.core_form.specs.declared.program.VarRef.{VarRef}
use Rattle.core_form.specs.declared.program.What.{What}
use Rattle.core_form.specs.declared.program.What.TheVariants as form
use Rattle.core_form.specs.Variables.{same_var}
use Rattle.alpha_core.specs.declared.name.Name.{Name}
use Rattle.alpha_core.specs.Names.{var_of, same_name}
use Rattle.box_name.specs.declared.sure.Sure.{Sure}
use Rattle.box_name.specs.Told.{Expr}
use Rattle.box_name.specs.Whole.{defines}

-- whether a form's number is below the one from which on a variable is sure
abbrev pub before : Option ℕ → (form : ℕ) → Bool
before None form = true
before (Some since) form = nat_lt form since

abbrev pub is_checked : Sure → (form : ℕ) → Name → Bool
is_checked sure form k = before (get same_name sure.from k) form

-- whether a lambda expression or a literal has this form
abbrev pub plain_form : What VarRef → Bool
plain_form (form.Const l) = true
plain_form (form.Lambda xs r body) = true
plain_form w = false

-- a form defines the variable of this name, or none
abbrev pub IsDefined : Option Name → Expr → Type 0
IsDefined (Some k) e = (x : Var) → defines e x ≡ same_var (var_of k) x
IsDefined None e = (x : Var) → defines e x ≡ false

-- what was noted first stays
abbrev pub or_since : Option ℕ → (defined : Bool) → (since : ℕ) → Option ℕ
or_since (Some n) defined since = Some n
or_since None true since = Some since
or_since None false since = None
