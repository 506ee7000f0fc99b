-- The variables so far are named.
use Rattle.std.proofs.Common.{◌≡◌, take}
use Rattle.std.specs.Prelude.{map}
use Rattle.draft_form.specs.Numbering.{number_in, var_of}
use Rattle.draft_form.proofs.number.Text.vars.Given as goal

abbrev pub invariant-loop-variable : goal.invariant-loop-variable
invariant-loop-variable l =
    l.vars ≡ map (var_of l.self.words.now (number_in l.levels.numbers.items)) (take l.variable-index l.variables)
