-- Plain definitions, by the nodes of their forms.
use Rattle.std.proofs.Common.{◌≡◌, ℕ, List, Option, None, Some, Bool, true, false, if◌then◌else◌, refl, sym, ap, ◌∙◌}
use Rattle.std.specs.Prelude.{slice_get}
use Rattle.scheme_base.specs.declared.lit.Lit.{Lit}
use Rattle.scheme_base.specs.declared.pos.Pos.{Pos}
use Rattle.core_form.specs.declared.program.Node.{Node}
use Rattle.core_form.specs.declared.program.Var.{Var}
use Rattle.core_form.specs.declared.program.VarRef.{VarRef}
use Rattle.core_form.specs.declared.program.VarRef.TheVariants as ref
use Rattle.core_form.specs.declared.program.What.{What}
use Rattle.core_form.specs.declared.program.What.TheVariants as form
use Rattle.core_form.specs.Trees.{Tree, Trees, Stands, count}
use Rattle.core_form.specs.Trees as tree
use Rattle.alpha_core.proofs.Shapes.{Shape}
use Rattle.box_name.specs.Told.{Expr, Exprs, Call, Direct, told, all_told, told_operands, told_body, direct_params, is_direct, reference, assignment}
use Rattle.box_name.specs.Whole.{defines, is_plain, is_plain_definition}
use Rattle.box_name.specs.Sureness.{plain_form}

ref_plain : (p : Pos) (x : VarRef) → is_plain (reference p x) ≡ false
ref_plain p (ref.Local n) = refl
ref_plain p (ref.Top x) = refl

set_plain : (p : Pos) (x : VarRef) (e : Expr) → is_plain (assignment p x e) ≡ false
set_plain p (ref.Local n) e = refl
set_plain p (ref.Top x) e = refl

call_plain : (lits : List Lit) (p : Pos) (f : Tree VarRef) (es : Trees VarRef) → is_plain (told lits (tree.Call p f es)) ≡ false
call_plain lits p f es = by (is_direct f (count es))
  where
    by : (t : Bool)
        → is_plain (if t then Direct p (direct_params f) (told_body lits f) (told_operands lits es) else Call p (told lits f) (all_told lits es)) ≡ false
    by true = refl
    by false = refl

pub plain_by : (lits : List Lit) (exprs : List (Node VarRef)) (w : What VarRef) (p : Pos) (e : Tree VarRef) → Shape exprs w p e
    → is_plain (told lits e) ≡ plain_form w
plain_by lits exprs (form.Const l) p e h = ap (λ t. is_plain (told lits t)) h
plain_by lits exprs (form.Ref x) p e h = ap (λ t. is_plain (told lits t)) h ∙ ref_plain p x
plain_by lits exprs (form.Lambda xs r body) p e h = ap (λ t. is_plain (told lits t)) h.1
plain_by lits exprs (form.If test this that) p e h = ap (λ t. is_plain (told lits t)) h.3
plain_by lits exprs (form.Set x value) p e h = ap (λ t. is_plain (told lits t)) h.1 ∙ set_plain p x (told lits h.0)
plain_by lits exprs (form.Call operator ids) p e h = ap (λ t. is_plain (told lits t)) h.2 ∙ call_plain lits p h.0 h.1
plain_by lits exprs (form.Prim o ids) p e h = ap (λ t. is_plain (told lits t)) h.1
plain_by lits exprs (form.Seq ids) p e h = ap (λ t. is_plain (told lits t)) h.1
plain_by lits exprs (form.Fix xs ids body) p e h = ap (λ t. is_plain (told lits t)) h.2
plain_by lits exprs (form.Define x value) p e h = ap (λ t. is_plain (told lits t)) h.1

-- a form that is no definition
module _ (lits : List Lit) (exprs : List (Node VarRef)) where
  ref_defines : (p : Pos) (x : VarRef) (y : Var) → defines (reference p x) y ≡ false
  ref_defines p (ref.Local n) y = refl
  ref_defines p (ref.Top x) y = refl

  set_defines : (p : Pos) (x : VarRef) (e : Expr) (y : Var) → defines (assignment p x e) y ≡ false
  set_defines p (ref.Local n) e y = refl
  set_defines p (ref.Top x) e y = refl

  call_defines : (p : Pos) (f : Tree VarRef) (es : Trees VarRef) (y : Var) → defines (told lits (tree.Call p f es)) y ≡ false
  call_defines p f es y = by (is_direct f (count es))
    where
      by : (t : Bool)
          → defines (if t then Direct p (direct_params f) (told_body lits f) (told_operands lits es) else Call p (told lits f) (all_told lits es)) y ≡ false
      by true = refl
      by false = refl

  pub none_defined : (w : What VarRef) (p : Pos) (e : Tree VarRef) → Shape exprs w p e → ((x : VarRef) (v : ℕ) → w ≡ form.Define x v → ⊥)
      → (y : Var) → defines (told lits e) y ≡ false
  none_defined (form.Const l) p e h other y = ap (λ t. defines (told lits t) y) h
  none_defined (form.Ref x) p e h other y = ap (λ t. defines (told lits t) y) h ∙ ref_defines p x y
  none_defined (form.Lambda xs r body) p e h other y = ap (λ t. defines (told lits t) y) h.1
  none_defined (form.If test this that) p e h other y = ap (λ t. defines (told lits t) y) h.3
  none_defined (form.Set x value) p e h other y = ap (λ t. defines (told lits t) y) h.1 ∙ set_defines p x (told lits h.0) y
  none_defined (form.Call operator ids) p e h other y = ap (λ t. defines (told lits t) y) h.2 ∙ call_defines p h.0 h.1 y
  none_defined (form.Prim o ids) p e h other y = ap (λ t. defines (told lits t) y) h.1
  none_defined (form.Seq ids) p e h other y = ap (λ t. defines (told lits t) y) h.1
  none_defined (form.Fix xs ids body) p e h other y = ap (λ t. defines (told lits t) y) h.2
  none_defined (form.Define x value) p e h other y = absurd (other x value refl)

  ref_no_plain : (p : Pos) (x : VarRef) → is_plain_definition (reference p x) ≡ false
  ref_no_plain p (ref.Local n) = refl
  ref_no_plain p (ref.Top x) = refl

  set_no_plain : (p : Pos) (x : VarRef) (e : Expr) → is_plain_definition (assignment p x e) ≡ false
  set_no_plain p (ref.Local n) e = refl
  set_no_plain p (ref.Top x) e = refl

  call_no_plain : (p : Pos) (f : Tree VarRef) (es : Trees VarRef) → is_plain_definition (told lits (tree.Call p f es)) ≡ false
  call_no_plain p f es = by (is_direct f (count es))
    where
      by : (t : Bool)
          → is_plain_definition (if t then Direct p (direct_params f) (told_body lits f) (told_operands lits es) else Call p (told lits f) (all_told lits es)) ≡ false
      by true = refl
      by false = refl

  pub no_plain : (w : What VarRef) (p : Pos) (e : Tree VarRef) → Shape exprs w p e → ((x : VarRef) (v : ℕ) → w ≡ form.Define x v → ⊥)
      → is_plain_definition (told lits e) ≡ false
  no_plain (form.Const l) p e h other = ap (λ t. is_plain_definition (told lits t)) h
  no_plain (form.Ref x) p e h other = ap (λ t. is_plain_definition (told lits t)) h ∙ ref_no_plain p x
  no_plain (form.Lambda xs r body) p e h other = ap (λ t. is_plain_definition (told lits t)) h.1
  no_plain (form.If test this that) p e h other = ap (λ t. is_plain_definition (told lits t)) h.3
  no_plain (form.Set x value) p e h other = ap (λ t. is_plain_definition (told lits t)) h.1 ∙ set_no_plain p x (told lits h.0)
  no_plain (form.Call operator ids) p e h other = ap (λ t. is_plain_definition (told lits t)) h.2 ∙ call_no_plain p h.0 h.1
  no_plain (form.Prim o ids) p e h other = ap (λ t. is_plain_definition (told lits t)) h.1
  no_plain (form.Seq ids) p e h other = ap (λ t. is_plain_definition (told lits t)) h.1
  no_plain (form.Fix xs ids body) p e h other = ap (λ t. is_plain_definition (told lits t)) h.2
  no_plain (form.Define x value) p e h other = absurd (other x value refl)

-- a number that stands for a tree names an expression
pub not_absent : (exprs : List (Node VarRef)) (id : ℕ) (e : Tree VarRef) → Stands exprs id e → None ≡ slice_get exprs id → ⊥
not_absent exprs id (tree.Const p l) s h = cc (s, h)
not_absent exprs id (tree.Ref p x) s h = cc (s, h)
not_absent exprs id (tree.Lambda p xs r body) s h = cc (s.1, h)
not_absent exprs id (tree.If p test this that) s h = cc (s.3, h)
not_absent exprs id (tree.Set p x e) s h = cc (s.1, h)
not_absent exprs id (tree.Call p f es) s h = cc (s.2, h)
not_absent exprs id (tree.Prim p o es) s h = cc (s.1, h)
not_absent exprs id (tree.Seq p es) s h = cc (s.1, h)
not_absent exprs id (tree.Fix p xs ls body) s h = cc (s.2, h)
not_absent exprs id (tree.Define p x e) s h = cc (s.1, h)
