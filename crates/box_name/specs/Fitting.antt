-- What is known of a core fits a setting.
use Rattle.std.specs.Prelude.{ℕ, suc, ◌≡◌, nat_eq, position, Some, ◌||◌}
use Rattle.indexmap.specs.IndexMap.{get}
use Rattle.indexmap.specs.IndexSet.{contains}
use Rattle.core_form.specs.declared.program.Program.{Program}
use Rattle.core_form.specs.declared.program.VarRef.{VarRef}
use Rattle.core_form.specs.Trees.{Tree, Stands}
use Rattle.alpha_core.specs.declared.name.Name.{Name}
use Rattle.alpha_core.specs.Names.{var_of, same_name}
use Rattle.box_name.specs.declared.facts.Facts.{Facts}
use Rattle.box_name.specs.declared.facts.Stand.{Stand}
use Rattle.box_name.specs.Told.{Exprs, told}
use Rattle.box_name.specs.Counts.{procs_in}
use Rattle.box_name.specs.Naming.{Setting, found}
use Rattle.box_name.specs.Whole.{setting}
use Rattle.box_name.specs.Sureness.{is_checked}
use Rattle.box_name.specs.Finding.{IsSurvey}

-- what is known of a core is what the setting of a form says
pub record Knows (core : Program VarRef) (facts : Facts) (form : ℕ) (s : Setting) : Type 0 where
  pub boxed : (x : ℕ) → (contains nat_eq facts.survey.assigned x || contains nat_eq facts.survey.holes x) ≡ s.boxed x
  pub hole : (x : ℕ) → contains nat_eq facts.survey.holes x ≡ s.hole x
  pub top : (k : Name) → found (position (same_name k) facts.survey.tops.keys) ≡ s.top (var_of k)
  pub checked : (k : Name) → is_checked facts.sure form k ≡ s.checked (var_of k)
  pub inside :
      (l c : ℕ) → get nat_eq facts.survey.inside l ≡ Some c → (e : Tree VarRef) → Stands core.exprs l e
      → procs_in (told core.lits e) ≡ suc c

-- the same where an expression stands
abbrev pub Fits : Stand → Setting → Type 0
Fits t s = Knows t.core.now t.facts.now t.form s

-- the same of each form of a program
abbrev pub KnowsAll : Program VarRef → Facts → Exprs → Type 0
KnowsAll core facts all = (f : ℕ) → Knows core facts f (setting all f)

-- the same, and all that is found in a program is noted
pub record KnowsProgram (core : Program VarRef) (facts : Facts) (all : Exprs) : Type 0 where
  pub survey : IsSurvey core facts.survey all
  pub knows : KnowsAll core facts all
