-- When two variables are one, and programs whose variables are names, or names and numbers.
use Rattle.std.specs.Prelude.{nat_eq, ◌&&◌, List, Bool, true, false}
use Rattle.std.specs.Str.{bytes_eq}
use Rattle.scheme_base.specs.declared.lit.Lit.{Lit}
use Rattle.core_form.specs.declared.program.Var.{Var}
use Rattle.core_form.specs.declared.program.VarRef.{VarRef}
use Rattle.core_form.specs.declared.program.VarRef.TheVariants.{Local, Top}
use Rattle.core_form.specs.Trees.{Trees}
use Rattle.core_form.specs.Source.{Source}

abbrev pub same_flag : Bool → Bool → Bool
same_flag true b = b
same_flag false true = false
same_flag false false = true

abbrev pub same_var : Var → Var → Bool
same_var x y = bytes_eq x.name y.name && same_flag x.lib y.lib

abbrev pub same_ref : VarRef → VarRef → Bool
same_ref (Local m) (Local n) = nat_eq m n
same_ref (Top x) (Top y) = same_var x y
same_ref x y = false

-- the program of a core, and that of a renamed one
abbrev pub named : Trees Var → List Lit → Source Var
named forms lits = record { forms = forms; lits = lits; same = same_var }

abbrev pub numbered : Trees VarRef → List Lit → Source VarRef
numbered forms lits = record { forms = forms; lits = lits; same = same_ref }
