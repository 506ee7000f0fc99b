-- What the steps that are made do, and what they put at the end of a block.
use Rattle.std.proofs.Common.{◌≡◌, ℕ, List, [], ◌∷◌, ◌++◌, Option, Bool, refl, sym, ap, subst, ◌∙◌}
use Rattle.scheme_base.specs.declared.pos.Pos.{Pos}
use Rattle.scheme_base.specs.declared.op.Op.{Op}
use Rattle.named_form.specs.declared.program.Act.{Act as ActType, fold-roll-Act}
use Rattle.named_form.specs.declared.program.Act.TheVariants as made
use Rattle.named_form.specs.declared.program.Act.TheOpen as layer
use Rattle.named_form.specs.declared.program.Block.{Block, out-Block}
use Rattle.named_form.specs.declared.program.Step.{Step, out-Step}
use Rattle.named_form.specs.Code.{Code, Act, Then, Ends}
use Rattle.named_form.specs.Code as act
use Rattle.named_form.specs.Written.{Onto, act_layer, act_of, block_layer, code, onto, step_layer}
use Rattle.named_form.proofs.Folds.{step_out, code_out}
use Rattle.box_name.specs.declared.namer.Namer.{Namer}
use Rattle.box_name.specs.NamingSteps.{last_of, linked, PutsStep, Binds}

pub const_is : (l : ℕ) → act_of (made.Const l) ≡ act.Const l
const_is l = ap act_of (sym (made.rolls-Const l)) ∙ fold-roll-Act (Act Pos) (Code Pos) Onto act_layer block_layer step_layer (layer.Const l)

pub copy_is : (v : ℕ) → act_of (made.Copy v) ≡ act.Copy v
copy_is v = ap act_of (sym (made.rolls-Copy v)) ∙ fold-roll-Act (Act Pos) (Code Pos) Onto act_layer block_layer step_layer (layer.Copy v)

pub prim_is : (o : Op) (vs : List ℕ) → act_of (made.Prim o vs) ≡ act.Prim o vs
prim_is o vs = ap act_of (sym (made.rolls-Prim o vs)) ∙ fold-roll-Act (Act Pos) (Code Pos) Onto act_layer block_layer step_layer (layer.Prim o vs)

pub call_is : (f : ℕ) (vs : List ℕ) → act_of (made.Call f vs) ≡ act.Call f vs
call_is f vs = ap act_of (sym (made.rolls-Call f vs)) ∙ fold-roll-Act (Act Pos) (Code Pos) Onto act_layer block_layer step_layer (layer.Call f vs)

pub apply_is : (f l : ℕ) → act_of (made.Apply f l) ≡ act.Apply f l
apply_is f l = ap act_of (sym (made.rolls-Apply f l)) ∙ fold-roll-Act (Act Pos) (Code Pos) Onto act_layer block_layer step_layer (layer.Apply f l)

pub call_cc_is : (f : ℕ) → act_of (made.CallCC f) ≡ act.CallCC f
call_cc_is f = ap act_of (sym (made.rolls-CallCC f)) ∙ fold-roll-Act (Act Pos) (Code Pos) Onto act_layer block_layer step_layer (layer.CallCC f)

pub if_is : (v : ℕ) (this that : Block) → act_of (made.If v this that) ≡ act.If v (code this) (code that)
if_is v this that = ap act_of (sym (made.rolls-If v this that)) ∙ fold-roll-Act (Act Pos) (Code Pos) Onto act_layer block_layer step_layer (layer.If v this that)

pub closure_is : (p : ℕ) → act_of (made.Closure p) ≡ act.Closure p
closure_is p = ap act_of (sym (made.rolls-Closure p)) ∙ fold-roll-Act (Act Pos) (Code Pos) Onto act_layer block_layer step_layer (layer.Closure p)

pub fix_is : (ps : List ℕ) → act_of (made.Fix ps) ≡ act.Fix ps
fix_is ps = ap act_of (sym (made.rolls-Fix ps)) ∙ fold-roll-Act (Act Pos) (Code Pos) Onto act_layer block_layer step_layer (layer.Fix ps)

pub make_box_is : (v : ℕ) → act_of (made.MakeBox v) ≡ act.MakeBox v
make_box_is v = ap act_of (sym (made.rolls-MakeBox v)) ∙ fold-roll-Act (Act Pos) (Code Pos) Onto act_layer block_layer step_layer (layer.MakeBox v)

pub make_hole_is : act_of made.MakeHole ≡ act.MakeHole
make_hole_is = ap act_of (sym made.rolls-MakeHole) ∙ fold-roll-Act (Act Pos) (Code Pos) Onto act_layer block_layer step_layer layer.MakeHole

pub unbox_is : (v : ℕ) (b : Bool) → act_of (made.Unbox v b) ≡ act.Unbox v b
unbox_is v b = ap act_of (sym (made.rolls-Unbox v b)) ∙ fold-roll-Act (Act Pos) (Code Pos) Onto act_layer block_layer step_layer (layer.Unbox v b)

pub set_box_is : (v w : ℕ) → act_of (made.SetBox v w) ≡ act.SetBox v w
set_box_is v w = ap act_of (sym (made.rolls-SetBox v w)) ∙ fold-roll-Act (Act Pos) (Code Pos) Onto act_layer block_layer step_layer (layer.SetBox v w)

pub top_get_is : (g : ℕ) (b : Bool) → act_of (made.TopGet g b) ≡ act.TopGet g b
top_get_is g b = ap act_of (sym (made.rolls-TopGet g b)) ∙ fold-roll-Act (Act Pos) (Code Pos) Onto act_layer block_layer step_layer (layer.TopGet g b)

pub top_set_is : (g v : ℕ) (b : Bool) → act_of (made.TopSet g v b) ≡ act.TopSet g v b
top_set_is g v b = ap act_of (sym (made.rolls-TopSet g v b)) ∙ fold-roll-Act (Act Pos) (Code Pos) Onto act_layer block_layer step_layer (layer.TopSet g v b)

pub top_define_is : (g v : ℕ) → act_of (made.TopDefine g v) ≡ act.TopDefine g v
top_define_is g v = ap act_of (sym (made.rolls-TopDefine g v)) ∙ fold-roll-Act (Act Pos) (Code Pos) Onto act_layer block_layer step_layer (layer.TopDefine g v)

-- a step that does the same was put
pub binds_as : (a b : Namer) (x y : List Step) (q : Pos) (done wanted : Act Pos) (v : ℕ) → done ≡ wanted → Binds a b x y q done v
    → Binds a b x y q wanted v
binds_as a b x y q done wanted v same h = subst (λ t. Binds a b x y q t v) same h

linked_append : (x y : List Step) (rest : Code Pos) → linked (x ++ y) rest ≡ linked x (linked y rest)
linked_append [] y rest = refl
linked_append (s ∷ x) y rest = ap (onto s) (linked_append x y rest)

-- a step that was pushed is put at the end
pub puts_step : (x y : List Step) (s : Step) (q : Pos) (vars : List ℕ) (act : Act Pos) → y ≡ x ++ s ∷ [] → (out-Step s).pos ≡ q
    → (out-Step s).vars ≡ vars → act_of (out-Step s).act ≡ act → PutsStep x y q vars act
puts_step x y s q vars act pushed at bound does =
    λ rest.
    ap (λ ss. linked ss rest) pushed
    ∙ (linked_append x (s ∷ []) rest
    ∙ ap (linked x)
    (step_out s rest
    ∙ (ap (λ u. Then u (out-Step s).vars (act_of (out-Step s).act) rest) at
    ∙ (ap (λ u. Then q u (act_of (out-Step s).act) rest) bound ∙ ap (λ u. Then q vars u rest) does))))

-- a block of these steps
pub block_is : (b : Block) (steps : List Step) (value : Option ℕ) → (out-Block b).steps ≡ steps → (out-Block b).value ≡ value
    → code b ≡ linked steps (Ends value)
block_is b steps value same is =
    code_out b ∙ (ap (λ u. linked u (Ends (out-Block b).value)) same ∙ ap (λ u. linked steps (Ends u)) is)

pub last_pushed : (other : ℕ) (xs : List ℕ) (x : ℕ) → last_of other (xs ++ x ∷ []) ≡ x
last_pushed other [] x = refl
last_pushed other (y ∷ xs) x = last_pushed y xs x
