-- A core that is being made of drafts: its forms are the drafts, numbered.
use Rattle.std.specs.Prelude.{◌≡◌, []}
use Rattle.scheme_base.specs.Constants.{Constant}
use Rattle.core_form.specs.declared.program.Var.{Var}
use Rattle.core_form.specs.Trees.{Trees, StandAll}
use Rattle.draft_form.specs.declared.growing.Growing.{Growing}
use Rattle.draft_form.specs.declared.level.Levels.{Levels}
use Rattle.draft_form.specs.Drafts.{Drafts, all_parts}
use Rattle.draft_form.specs.Numbers.{At, constants, laid_list, all_bound_fresh, all_numbered}
use Rattle.draft_form.specs.Numbering.{Gives}

abbrev pub start : At
start = record { literals = 0; fresh = 0 }

-- the forms of a core, where nothing stands before them and this is the list of its symbols
abbrev pub trees_with : Constant → Drafts → Trees Var
trees_with symbols es = all_numbered symbols (λ level. 0) start es

-- the core has these forms and their literals so far, and nothing else is done
pub record HasNumbered (symbols : Constant) (es : Drafts) (levels : Levels) (growing : Growing) : Type 0 where
  pub forms : StandAll growing.exprs growing.forms (trees_with symbols es)
  pub literals : growing.lits.items ≡ laid_list 0 (constants symbols (all_parts es))
  pub fresh : levels.fresh ≡ all_bound_fresh es
  pub numbers : Gives levels.numbers.items (λ level. 0)
  pub done : growing.done.items ≡ []
