-- What the public types of steps stand for, one by one.
use Rattle.std.specs.Prelude.{Bool}
use Rattle.scheme_base.specs.declared.pos.Pos.{Pos}
use Rattle.named_form.specs.declared.program.Act.{Act as ActType, fold-Act}
use Rattle.named_form.specs.declared.program.Step.{Step, fold-Step}
use Rattle.named_form.specs.Code.{Code, Act, Counts, Label}
use Rattle.named_form.specs.Written.{Onto, act_layer, block_layer, step_layer}

-- what a step does
abbrev pub act_of : ActType → Act Pos
act_of a = fold-Act (Act Pos) (Code Pos) Onto act_layer block_layer step_layer a

-- a step, before the block after it
abbrev pub step_of : Step → Onto
step_of s = fold-Step (Act Pos) (Code Pos) Onto act_layer block_layer step_layer s

-- the label of a step with so much before it
abbrev pub label : Counts → Pos → (tail : Bool) → Label
label c place tail =
    record { place = place; step = c.steps; site = c.sites; arm = c.blocks; tail = tail }
