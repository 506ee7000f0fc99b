-- What is known of a variable's value without a run.
use Rattle.std.specs.Prelude.{ℕ, List, [], ◌∷◌, Option, Some, None, nat_eq, slice_get, if◌then◌else◌}
use Rattle.scheme_base.specs.declared.place.Stated.{Stated}
use Rattle.scheme_base.specs.declared.place.Stated.TheVariants as stated
use Rattle.flow_constraints.specs.declared.flow.Flow.{Flow}
use Rattle.flow_constraints.specs.declared.flow.Kind.{Kind}
use Rattle.flow_constraints.specs.Rows.{row, Var}
use Rattle.flow_form.specs.declared.rows.Rows.{Rows}
use Rattle.plan_facts.specs.Pairs.{members_of}
use Rattle.plan_facts.specs.Slotted.{closed_by}

-- the one value of an atom, if it stands for one value alone, or for the closures of a procedure
abbrev pub value_by : (closure : Option ℕ) → (atom : ℕ) → Option Stated
value_by (Some q) a = Some (stated.Closure q)
value_by None a =
    if nat_eq a 3 then Some stated.False
    else (if nat_eq a 4 then Some stated.True
    else (if nat_eq a 5 then Some stated.Nil
    else (if nat_eq a 6 then Some stated.Unspecified
    else (if nat_eq a 7 then Some stated.Eof
    else None))))

-- the one value of a variable that has these atoms
abbrev pub stated_by : (procs : ℕ) → List Kind → (atoms : List ℕ) → Option Stated
stated_by n kinds [] = Some stated.Unspecified
stated_by n kinds (a ∷ []) = value_by (closed_by n (slice_get kinds a)) a
stated_by n kinds (a ∷ b ∷ more) = None

abbrev pub stated_of : (procs : ℕ) → Flow → Rows → (var : ℕ) → Option Stated
stated_of n f rows x = stated_by n f.kinds (members_of rows (row f (Var x)))
