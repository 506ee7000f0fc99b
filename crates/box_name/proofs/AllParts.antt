-- The named form of a valid renamed core is well formed, part by part, where its numbers have 32 bits.
use Rattle.std.proofs.Common.{sym, subst}
use Rattle.core_form.specs.declared.program.Program.{Program}
use Rattle.core_form.specs.declared.program.VarRef.{VarRef}
use Rattle.core_form.specs.Trees.{Trees}
use Rattle.core_form.specs.Valid.{IsRenamed}
use Rattle.named_form.specs.declared.program.Named.{Named}
use Rattle.named_form.specs.Valid.{Counted, WellFormed}
use Rattle.named_form.specs.Written.{form}
use Rattle.box_name.specs.Cores.{form_of}
use Rattle.box_name.specs.Procedures.{MakesForm}
use Rattle.box_name.proofs.BoxesWell.{each_box}
use Rattle.box_name.proofs.LiteralsNamed.{literals_are}
use Rattle.box_name.proofs.MadeOnce.{all_made_once}
use Rattle.box_name.proofs.NumbersInOrder.{all_numbered}
use Rattle.box_name.proofs.NumbersNamed.{each_names}
use Rattle.box_name.proofs.ScopesWell.{each_scope}
use Rattle.box_name.proofs.StepsWell.{bodies_are, each_binds, each_placed, each_takes}

pub all_parts : (core : Program VarRef) (forms : Trees VarRef) → IsRenamed core forms → Counted (form_of core forms).procs
    → WellFormed (form_of core forms)
all_parts core forms h counted =
    record {
      names = each_names core forms h;
      binds = each_binds core forms h;
      takes = each_takes core forms h;
      placed = each_placed core forms h;
      counted = counted;
      bodies = bodies_are core forms h;
      made = all_made_once core forms h;
      numbered = all_numbered core forms;
      scoped = each_scope core forms h;
      boxes = each_box core forms h;
      literals = literals_are core forms h;
    }

-- what is made is the named form, so it is well formed
pub made_well : (core : Program VarRef) (forms : Trees VarRef) (made : Named) → MakesForm core forms made → IsRenamed core forms
    → WellFormed (form made)
made_well core forms made h renamed =
    subst WellFormed (sym h.is) (all_parts core forms renamed (subst (λ f. Counted f.procs) h.is h.counted))
