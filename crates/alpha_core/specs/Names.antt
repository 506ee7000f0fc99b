-- The variable that a key of a map names, and when two keys are one.
use Rattle.std.specs.Prelude.{Bool, ◌&&◌}
use Rattle.std.specs.Bool.{beq}
use Rattle.std.specs.Str.{bytes_eq}
use Rattle.core_form.specs.declared.program.Var.{Var}
use Rattle.alpha_core.specs.declared.name.Name.{Name}

abbrev pub var_of : Name → Var
var_of k = record { name = k.bytes.now; lib = k.lib }

abbrev pub same_name : Name → Name → Bool
same_name j k = bytes_eq j.bytes.now k.bytes.now && beq j.lib k.lib
