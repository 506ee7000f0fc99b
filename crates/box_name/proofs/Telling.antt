-- Direct calls and their operands, as they are told from the tree of a core.
use Rattle.std.proofs.Common.{◌≡◌, ℕ, suc, ◌+◌, nat_eq, List, [], ◌∷◌, ◌++◌, map, length, Option, None, Some, is_some, Bool, true, false, if◌then◌else◌, refl, sym, ap, subst, ◌∙◌, eq-eqb, arith}
use Rattle.scheme_base.specs.declared.lit.Lit.{Lit}
use Rattle.scheme_base.specs.declared.pos.Pos.{Pos}
use Rattle.core_form.specs.declared.program.Node.{Node}
use Rattle.core_form.specs.declared.program.VarRef.{VarRef}
use Rattle.core_form.specs.declared.program.VarRef.TheVariants as ref
use Rattle.core_form.specs.Trees.{Tree, Trees, Stands, StandAll, count}
use Rattle.core_form.specs.Trees as tree
use Rattle.core_form.specs.Valid.{is_hole}
use Rattle.named_form.specs.declared.program.Step.{Step}
use Rattle.box_name.specs.declared.namer.Namer.{Namer}
use Rattle.box_name.specs.Told.{Expr, Hole, Const, Local, Top, Lambda, If, SetLocal, SetTop, Call, Direct, Prim, Seq, Fix, Define, Exprs, none, item, told, told_operand, told_operands, all_told, numbers, reference, assignment, is_direct, direct_params, told_body}
use Rattle.box_name.specs.Counts.{has_value}
use Rattle.box_name.specs.Whole.{unvalued}
use Rattle.box_name.specs.Naming.{Setting, value, valued}
use Rattle.box_name.specs.NamingSteps.{IsDirect, EmitsExpr, EmitsOperand}
use Rattle.box_name.proofs.Putting.{notes_none, emits_none, emits_as}

count_is : (exprs : List (Node VarRef)) (ids : List ℕ) (es : Trees VarRef) → StandAll exprs ids es → count es ≡ length ids
count_is exprs ids tree.none h = sym (ap length h)
count_is exprs ids (tree.item e es) h = ap suc (count_is exprs h.1 es h.4) ∙ sym (ap length h.2)

-- a call whose operator is bound in place
pub direct_told : (lits : List Lit) (exprs : List (Node VarRef)) (pos : Pos) (params : List VarRef) (body many : ℕ)
    (ids : List ℕ) (f : Tree VarRef) (es : Trees VarRef) (P : Expr → Type 0) → IsDirect exprs params body many f
    → StandAll exprs ids es → many ≡ length ids
    → ((q : Pos) (b : Tree VarRef) → f ≡ tree.Lambda q params None b → Stands exprs body b → P (Direct pos (numbers params) (told lits b) (told_operands lits es)))
    → P (told lits (tree.Call pos f es))
direct_told lits exprs pos params body many ids f es P d all same holds =
    subst (λ g. P (told lits (tree.Call pos g es))) (sym d.2)
    (subst (λ t. P (if t then Direct pos (numbers params) (told lits d.1) (told_operands lits es) else Call pos (told lits (tree.Lambda d.0 params None d.1)) (all_told lits es)))
    (sym (eq-eqb (length params) (count es) (d.4 ∙ (same ∙ sym (count_is exprs ids es all)))))
    (holds d.0 d.1 d.2 d.3))

-- any other call
pub call_told : (lits : List Lit) (exprs : List (Node VarRef)) (pos : Pos) (many : ℕ) (ids : List ℕ) (f : Tree VarRef)
    (es : Trees VarRef) (P : Expr → Type 0) → is_direct f many ≡ false → StandAll exprs ids es → many ≡ length ids
    → P (Call pos (told lits f) (all_told lits es)) → P (told lits (tree.Call pos f es))
call_told lits exprs pos many ids f es P other all same holds =
    subst (λ t. P (if t then Direct pos (direct_params f) (told_body lits f) (told_operands lits es) else Call pos (told lits f) (all_told lits es)))
    (sym (ap (λ c. is_direct f c) (count_is exprs ids es all ∙ sym same) ∙ other)) holds

-- Operands

abbrev pub IsValue : Expr → Type 0
IsValue Hole = ⊥
IsValue e = Unit {0}

either : (t : Bool) (e f : Expr) → IsValue e → IsValue f → IsValue (if t then e else f)
either true e f h k = h
either false e f h k = k

refers : (p : Pos) (x : VarRef) → IsValue (reference p x)
refers p (ref.Local n) = tt
refers p (ref.Top x) = tt

assigns : (p : Pos) (x : VarRef) (e : Expr) → IsValue (assignment p x e)
assigns p (ref.Local n) e = tt
assigns p (ref.Top x) e = tt

pub is_value : (lits : List Lit) (e : Tree VarRef) → IsValue (told lits e)
is_value lits (tree.Const p l) = tt
is_value lits (tree.Ref p x) = refers p x
is_value lits (tree.Lambda p xs r body) = tt
is_value lits (tree.If p test this that) = tt
is_value lits (tree.Set p x e) = assigns p x (told lits e)
is_value lits (tree.Call p f es) =
    either (is_direct f (count es)) (Direct p (direct_params f) (told_body lits f) (told_operands lits es))
    (Call p (told lits f) (all_told lits es)) tt tt
is_value lits (tree.Prim p o es) = tt
is_value lits (tree.Seq p es) = tt
is_value lits (tree.Fix p xs ls body) = tt
is_value lits (tree.Define p x e) = tt

valued_is : (s : Setting) (e : Expr) (n : ℕ) → IsValue e → (true ≡ has_value e) × (Some (value s e n) ≡ valued s e n)
valued_is s Hole n h = absurd h
valued_is s (Const p l) n h = (refl, refl)
valued_is s (Local p x) n h = (refl, refl)
valued_is s (Top p x) n h = (refl, refl)
valued_is s (Lambda p xs r body) n h = (refl, refl)
valued_is s (If p test this that) n h = (refl, refl)
valued_is s (SetLocal p x e) n h = (refl, refl)
valued_is s (SetTop p x e) n h = (refl, refl)
valued_is s (Call p f es) n h = (refl, refl)
valued_is s (Direct p xs body es) n h = (refl, refl)
valued_is s (Prim p o es) n h = (refl, refl)
valued_is s (Seq p es) n h = (refl, refl)
valued_is s (Fix p xs ls body) n h = (refl, refl)
valued_is s (Define p x e) n h = (refl, refl)

-- a parameter that is bound to a value is none without
pub value_stays : (e : Expr) → IsValue e → (x : ℕ) (xs : List ℕ) (es : Exprs) → unvalued (x ∷ xs) (item e es) ≡ unvalued xs es
value_stays Hole h x xs es = absurd h
value_stays (Const p l) h x xs es = refl
value_stays (Local p y) h x xs es = refl
value_stays (Top p y) h x xs es = refl
value_stays (Lambda p ys r body) h x xs es = refl
value_stays (If p test this that) h x xs es = refl
value_stays (SetLocal p y e) h x xs es = refl
value_stays (SetTop p y e) h x xs es = refl
value_stays (Call p f fs) h x xs es = refl
value_stays (Direct p ys body fs) h x xs es = refl
value_stays (Prim p o fs) h x xs es = refl
value_stays (Seq p fs) h x xs es = refl
value_stays (Fix p ys ls body) h x xs es = refl
value_stays (Define p y e) h x xs es = refl

-- the undefined value has no step
pub operand_hole : (s : Setting) (n p : ℕ) (a : Namer) (x : List Step) (lits : List Lit) (e : Tree VarRef) → is_hole lits e ≡ true
    → EmitsOperand s n p a a x x (told_operand lits e) None
operand_hole s n p a x lits e hole =
    subst (λ t. EmitsOperand s n p a a x x (if t then Hole else told lits e) None) (sym hole)
    (λ h k. (emits_none s a a x x [] n (p + 0) refl (notes_none a a n (p + 0) refl h (more k)), refl, λ agrees. refl))
  where
    more : a.next_proc ≡ p → a.next_proc ≡ p + 0
    more k = omega (arith, k)

pub operand_value : (s : Setting) (n p : ℕ) (a b : Namer) (x y : List Step) (lits : List Lit) (e : Tree VarRef) (v : ℕ)
    → is_hole lits e ≡ false → EmitsExpr s n p a b x y (told lits e) v
    → EmitsOperand s n p a b x y (told_operand lits e) (Some v)
operand_value s n p a b x y lits e v filled does =
    subst (λ t. EmitsOperand s n p a b x y (if t then Hole else told lits e) (Some v)) (sym filled)
    (λ h k.
    let r = does h k in
    let there = valued_is s (told lits e) n (is_value lits e) in
    (r.0, there.0, λ agrees. ap Some (r.1 agrees) ∙ there.1))
