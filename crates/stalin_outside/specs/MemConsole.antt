-- A console in memory, whose calls do exactly this.
use Rattle.std.specs.Prelude.{ℕ, Bool, true, false, List, [], ◌∷◌, drop}
use Rattle.stalin_outside.specs.declared.console.In.{In}
use Rattle.stalin_outside.specs.declared.console.In.TheVariants as inputs
use Rattle.stalin_outside.specs.declared.mem_console.MemConsole.{MemConsole}

abbrev pub input_left : MemConsole → List ℕ
input_left console = drop console.place console.text

abbrev pub in_answer : (fails : Bool) → (left : List ℕ) → In
in_answer true left = inputs.Failed
in_answer false [] = inputs.End
in_answer false (byte ∷ left) = inputs.Byte byte
