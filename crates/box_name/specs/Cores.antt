-- The program that a renamed core becomes.
use Rattle.core_form.specs.declared.program.Program.{Program}
use Rattle.core_form.specs.declared.program.VarRef.{VarRef}
use Rattle.core_form.specs.Trees.{Trees}
use Rattle.named_form.specs.Valid.{Form}
use Rattle.box_name.specs.Told.{all_told}
use Rattle.box_name.specs.Whole.{named}

-- the named form of a renamed core with these forms
abbrev pub form_of : Program VarRef → Trees VarRef → Form
form_of core forms = named (all_told core.lits forms) core.lits
