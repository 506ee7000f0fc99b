-- Which program the public types stand for.
use Rattle.std.specs.Prelude.{List, [], ◌∷◌, map}
use Rattle.scheme_base.specs.declared.pos.Pos.{Pos}
use Rattle.named_form.specs.declared.program.Act.TheOpen as open_act
use Rattle.named_form.specs.declared.program.Act.{Act as ActType, fold-Act}
use Rattle.named_form.specs.declared.program.Block.{Block, Block-F, fold-Block}
use Rattle.named_form.specs.declared.program.Step.{Step, fold-Step}
use Rattle.named_form.specs.declared.program.Proc.{Proc}
use Rattle.named_form.specs.declared.program.Named.{Named}
use Rattle.named_form.specs.Code.{Code, Ends, Then, Act, Const, Copy, Prim, Call, Apply, CallCC, If, Closure, Fix, MakeBox, MakeHole, Unbox, SetBox, TopGet, TopSet, TopDefine, Written}
use Rattle.named_form.specs.Valid.{Form}

-- what a step makes of the block after it
abbrev pub Onto : Type 0
Onto = Code Pos → Code Pos

abbrev pub act_layer : open_act.Act-F (Act Pos) (Code Pos) Onto → Act Pos
act_layer (open_act.Const lit) = Const lit
act_layer (open_act.Copy from) = Copy from
act_layer (open_act.Prim o operands) = Prim o operands
act_layer (open_act.Call operator operands) = Call operator operands
act_layer (open_act.Apply operator list) = Apply operator list
act_layer (open_act.CallCC operator) = CallCC operator
act_layer (open_act.If test this that) = If test this that
act_layer (open_act.Closure proc) = Closure proc
act_layer (open_act.Fix procs) = Fix procs
act_layer (open_act.MakeBox from) = MakeBox from
act_layer open_act.MakeHole = MakeHole
act_layer (open_act.Unbox boxed checked) = Unbox boxed checked
act_layer (open_act.SetBox boxed from) = SetBox boxed from
act_layer (open_act.TopGet top checked) = TopGet top checked
act_layer (open_act.TopSet top from checked) = TopSet top from checked
act_layer (open_act.TopDefine top from) = TopDefine top from

abbrev pub step_layer : open_act.Step-F (Act Pos) (Code Pos) Onto → Onto
step_layer s = λ rest. Then s.pos s.vars s.act rest

abbrev pub all_onto : List Onto → Onto
all_onto [] rest = rest
all_onto (s ∷ ss) rest = s (all_onto ss rest)

abbrev pub block_layer : Block-F (Act Pos) (Code Pos) Onto → Code Pos
block_layer b = all_onto b.steps (Ends b.value)

-- the steps of a block, linked
abbrev pub code : Block → Code Pos
code b = fold-Block (Act Pos) (Code Pos) Onto act_layer block_layer step_layer b

-- what a step does
abbrev pub act_of : ActType → Act Pos
act_of a = fold-Act (Act Pos) (Code Pos) Onto act_layer block_layer step_layer a

-- a step, with what it makes of the block after it
abbrev pub onto : Step → Onto
onto s = fold-Step (Act Pos) (Code Pos) Onto act_layer block_layer step_layer s

abbrev pub procedure : Proc → Written
procedure p = record { params = p.params; rest = p.rest; body = code p.body; pos = p.pos }

-- the program that a named form is
abbrev pub form : Named → Form
form n = record { procs = map procedure n.procs; tops = n.tops; lits = n.lits }
