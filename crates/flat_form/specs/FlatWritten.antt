-- Which flat program the public types stand for.
use Rattle.std.specs.Prelude.{List, [], ◌∷◌, map, Option, None, Some}
use Rattle.flat_form.specs.declared.program.FlatAct.TheOpen as open_act
use Rattle.flat_form.specs.declared.program.FlatAct.{FlatAct, fold-FlatAct}
use Rattle.flat_form.specs.declared.program.FlatStep.{FlatStep, fold-FlatStep}
use Rattle.flat_form.specs.declared.program.FlatBlock.{FlatBlock, FlatBlock-F, fold-FlatBlock}
use Rattle.flat_form.specs.declared.program.FlatPart.{FlatPart}
use Rattle.flat_form.specs.declared.program.FlatProc.{FlatProc}
use Rattle.flat_form.specs.declared.program.Flat.{Flat}
use Rattle.flat_form.specs.FlatCode.{Code, Ends, Then, Act, Const, Copy, Prim, Call, Apply, CallCC, If, Closure, Fix, MakeBox, MakeHole, Unbox, SetBox, TopGet, TopSet, TopDefine, Arm, Absent, Present, Part, Procedure, Program}

-- what a step makes of the block after it
abbrev pub Onto : Type 0
Onto = Code → Code

abbrev pub arm : Option Code → Arm
arm None = Absent
arm (Some block) = Present block

abbrev pub act_layer : open_act.FlatAct-F Act Code Onto → Act
act_layer (open_act.Const lit) = Const lit
act_layer (open_act.Copy from) = Copy from
act_layer (open_act.Prim o operands mark) = Prim o operands mark
act_layer (open_act.Call operator operands mode) = Call operator operands mode
act_layer (open_act.Apply operator list mode) = Apply operator list mode
act_layer (open_act.CallCC operator mode) = CallCC operator mode
act_layer (open_act.If test tail this that) = If test tail (arm this) (arm that)
act_layer (open_act.Closure made) = Closure made
act_layer (open_act.Fix made) = Fix made
act_layer (open_act.MakeBox from mark) = MakeBox from mark
act_layer (open_act.MakeHole mark) = MakeHole mark
act_layer (open_act.Unbox boxed checked) = Unbox boxed checked
act_layer (open_act.SetBox boxed from) = SetBox boxed from
act_layer (open_act.TopGet top checked) = TopGet top checked
act_layer (open_act.TopSet top from checked) = TopSet top from checked
act_layer (open_act.TopDefine top from) = TopDefine top from

abbrev pub step_layer : open_act.FlatStep-F Act Code Onto → Onto
step_layer s = λ rest. Then (record { pos = s.pos; reached = s.reached; checked = s.checked }) s.to s.act rest

abbrev pub all_onto : List Onto → Onto
all_onto [] rest = rest
all_onto (s ∷ ss) rest = s (all_onto ss rest)

abbrev pub block_layer : FlatBlock-F Act Code Onto → Code
block_layer b = all_onto b.steps (Ends b.value)

-- the steps of a block, linked
abbrev pub code : FlatBlock → Code
code b = fold-FlatBlock Act Code Onto act_layer block_layer step_layer b

-- what a step does
abbrev pub act : FlatAct → Act
act a = fold-FlatAct Act Code Onto act_layer block_layer step_layer a

-- a step, before the block after it
abbrev pub step : FlatStep → Onto
step s = fold-FlatStep Act Code Onto act_layer block_layer step_layer s

abbrev pub part : FlatPart → Part
part p = record { params = p.params; rest = p.rest; rest_mark = p.rest_mark; body = code p.body }

abbrev pub procedure : FlatProc → Procedure
procedure p =
    record {
      reached = p.reached;
      capturing = p.capturing;
      slots = p.slots;
      least = p.least;
      greatest = p.greatest;
      parts = map part p.parts;
    }

-- the program that a flat form is
abbrev pub form : Flat → Program
form f = record { procs = map procedure f.procs; cells = f.cells; lits = f.lits }
