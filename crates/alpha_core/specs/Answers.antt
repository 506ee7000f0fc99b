-- What `rename` answers.
use Rattle.std.specs.Prelude.{ℕ, ◌≡◌, ◌≤◌, ◌<◌, ◌^◌, [], length}
use Rattle.scheme_base.specs.declared.error.LimitErr.{LimitErr}
use Rattle.scheme_base.specs.declared.error.LimitErr.TheVariants.{Limit, NoMemory}
use Rattle.scheme_base.specs.declared.limit.LimitKind.TheVariants as kind
use Rattle.core_form.specs.declared.program.Var.{Var}
use Rattle.core_form.specs.declared.program.VarRef.{VarRef}
use Rattle.core_form.specs.declared.program.Program.{Program}
use Rattle.core_form.specs.Trees.{Trees, Holds}
use Rattle.core_form.specs.Valid.{all_bound}
use Rattle.alpha_core.specs.Depth.{deepest}
use Rattle.alpha_core.specs.Renaming.{all_renamed}

-- the greatest depth that a core may have
abbrev pub most : ℕ
most = 4000

-- the forms are renamed ones, the literals stay, the core is not too deep, and each number that it binds has 32 bits
pub record Answers (core : Program Var) (renamed : Program VarRef) : Type 0 where
  pub forms : (forms : Trees Var) → Holds core forms → Holds renamed (all_renamed [] 0 forms)
  pub lits : renamed.lits ≡ core.lits
  pub within : (forms : Trees Var) → Holds core forms → deepest forms ≤ most
  pub few : (forms : Trees Var) → Holds core forms → length (all_bound forms) < 2 ^ 32

-- the core is too deep, and the count is its depth
abbrev pub Refuses : Program Var → LimitErr → Type 0
Refuses core (Limit l) =
    (l.which ≡ kind.Depth) × ((forms : Trees Var) → Holds core forms → (l.count ≡ deepest forms) × (most < deepest forms))
Refuses core NoMemory = Unit {0}
