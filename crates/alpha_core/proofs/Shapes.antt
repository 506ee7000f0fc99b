-- The tree that a number stands for has the form of its node.
use Rattle.std.proofs.Common.{◌≡◌, ℕ, List, Option, Some, refl, sym, ap, subst, ◌∙◌}
use Rattle.std.specs.Prelude.{slice_get}
use Rattle.scheme_base.specs.declared.pos.Pos.{Pos}
use Rattle.core_form.specs.declared.program.Node.{Node}
use Rattle.scheme_base.specs.declared.op.Op.{Op}
use Rattle.core_form.specs.declared.program.What.{What}
use Rattle.core_form.specs.declared.program.What.TheVariants as form
use Rattle.core_form.specs.Trees.{Tree, Const, Ref, Lambda, If, Set, Call, Prim, Seq, Fix, Define, Trees, IsNode, Stands, StandAll}

-- a tree by the node that its number names
abbrev pub Shape : {V : Type 0} → List (Node V) → What V → Pos → Tree V → Type 0
Shape exprs (form.Const l) p e = e ≡ Const p l
Shape exprs (form.Ref x) p e = e ≡ Ref p x
Shape {V = V} exprs (form.Lambda xs r body) p e = (b : Tree V) × (e ≡ Lambda p xs r b) × Stands exprs body b
Shape {V = V} exprs (form.If test this that) p e =
    (a b c : Tree V) × (e ≡ If p a b c) × Stands exprs test a × Stands exprs this b × Stands exprs that c
Shape {V = V} exprs (form.Set x value) p e = (b : Tree V) × (e ≡ Set p x b) × Stands exprs value b
Shape {V = V} exprs (form.Call operator ids) p e =
    (f : Tree V) × (es : Trees V) × (e ≡ Call p f es) × Stands exprs operator f × StandAll exprs ids es
Shape {V = V} exprs (form.Prim o ids) p e = (es : Trees V) × (e ≡ Prim p o es) × StandAll exprs ids es
Shape {V = V} exprs (form.Seq ids) p e = (es : Trees V) × (e ≡ Seq p es) × StandAll exprs ids es
Shape {V = V} exprs (form.Fix xs ids body) p e =
    (ls : Trees V) × (b : Tree V) × (e ≡ Fix p xs ls b) × StandAll exprs ids ls × Stands exprs body b
Shape {V = V} exprs (form.Define x value) p e = (b : Tree V) × (e ≡ Define p x b) × Stands exprs value b

same_some : {A : Type 0} (o : Option A) (x y : A) → o ≡ Some x → o ≡ Some y → x ≡ y
same_some o x y h k = cc

pub shape : {V : Type 0} (exprs : List (Node V)) (id : ℕ) (what : What V) (p : Pos) (e : Tree V) → IsNode exprs id what p
    → Stands exprs id e → Shape exprs what p e
shape exprs id what p (Const q l) n s =
    subst (λ m. Shape exprs m.what m.pos (Const q l)) (same_some (slice_get exprs id) _ _ s n) refl
shape exprs id what p (Ref q x) n s =
    subst (λ m. Shape exprs m.what m.pos (Ref q x)) (same_some (slice_get exprs id) _ _ s n) refl
shape exprs id what p (Lambda q xs r b) n s =
    subst (λ m. Shape exprs m.what m.pos (Lambda q xs r b)) (same_some (slice_get exprs id) _ _ s.1 n) (b, refl, s.2)
shape exprs id what p (If q a b c) n s =
    subst (λ m. Shape exprs m.what m.pos (If q a b c)) (same_some (slice_get exprs id) _ _ s.3 n)
    (a, b, c, refl, s.4, s.5, s.6)
shape exprs id what p (Set q x b) n s =
    subst (λ m. Shape exprs m.what m.pos (Set q x b)) (same_some (slice_get exprs id) _ _ s.1 n) (b, refl, s.2)
shape exprs id what p (Call q f es) n s =
    subst (λ m. Shape exprs m.what m.pos (Call q f es)) (same_some (slice_get exprs id) _ _ s.2 n)
    (f, es, refl, s.3, s.4)
shape exprs id what p (Prim q o es) n s =
    subst (λ m. Shape exprs m.what m.pos (Prim q o es)) (same_some (slice_get exprs id) _ _ s.1 n) (es, refl, s.2)
shape exprs id what p (Seq q es) n s =
    subst (λ m. Shape exprs m.what m.pos (Seq q es)) (same_some (slice_get exprs id) _ _ s.1 n) (es, refl, s.2)
shape exprs id what p (Fix q xs ls b) n s =
    subst (λ m. Shape exprs m.what m.pos (Fix q xs ls b)) (same_some (slice_get exprs id) _ _ s.2 n)
    (ls, b, refl, s.3, s.4)
shape exprs id what p (Define q x b) n s =
    subst (λ m. Shape exprs m.what m.pos (Define q x b)) (same_some (slice_get exprs id) _ _ s.1 n) (b, refl, s.2)

pub node_of : {V : Type 0} (exprs : List (Node V)) (id : ℕ) (node : Node V) (what : What V) → Some node ≡ slice_get exprs id
    → node.what ≡ what → IsNode exprs id what node.pos
node_of exprs id node what at w = sym at ∙ ap Some (λ i. record { what = w i; pos = node.pos })

-- What holds of each tree of this form holds of the tree of a number whose node has the form.
module _ {V : Type 0} (exprs : List (Node V)) (id : ℕ) (p : Pos) (e : Tree V) (Q : Tree V → Type 0) where
  pub const_tree : (l : ℕ) → IsNode exprs id (form.Const l) p → Q (Const p l) → Stands exprs id e → Q e
  const_tree l n q s = subst Q (sym (shape exprs id (form.Const l) p e n s)) q

  pub ref_tree : (x : V) → IsNode exprs id (form.Ref x) p → Q (Ref p x) → Stands exprs id e → Q e
  ref_tree x n q s = subst Q (sym (shape exprs id (form.Ref x) p e n s)) q

  pub lambda_tree : (xs : List V) (r : Option V) (body : ℕ) → IsNode exprs id (form.Lambda xs r body) p
      → ((b : Tree V) → Stands exprs body b → Q (Lambda p xs r b)) → Stands exprs id e → Q e
  lambda_tree xs r body n q s =
      let g = shape exprs id (form.Lambda xs r body) p e n s in subst Q (sym g.1) (q g.0 g.2)

  pub if_tree : (test this that : ℕ) → IsNode exprs id (form.If test this that) p
      → ((a b c : Tree V) → Stands exprs test a → Stands exprs this b → Stands exprs that c → Q (If p a b c))
      → Stands exprs id e → Q e
  if_tree test this that n q s =
      let g = shape exprs id (form.If test this that) p e n s in subst Q (sym g.3) (q g.0 g.1 g.2 g.4 g.5 g.6)

  pub set_tree : (x : V) (value : ℕ) → IsNode exprs id (form.Set x value) p
      → ((b : Tree V) → Stands exprs value b → Q (Set p x b)) → Stands exprs id e → Q e
  set_tree x value n q s = let g = shape exprs id (form.Set x value) p e n s in subst Q (sym g.1) (q g.0 g.2)

  pub call_tree : (operator : ℕ) (ids : List ℕ) → IsNode exprs id (form.Call operator ids) p
      → ((f : Tree V) (es : Trees V) → Stands exprs operator f → StandAll exprs ids es → Q (Call p f es))
      → Stands exprs id e → Q e
  call_tree operator ids n q s =
      let g = shape exprs id (form.Call operator ids) p e n s in subst Q (sym g.2) (q g.0 g.1 g.3 g.4)

  pub prim_tree : (o : Op) (ids : List ℕ) → IsNode exprs id (form.Prim o ids) p
      → ((es : Trees V) → StandAll exprs ids es → Q (Prim p o es)) → Stands exprs id e → Q e
  prim_tree o ids n q s = let g = shape exprs id (form.Prim o ids) p e n s in subst Q (sym g.1) (q g.0 g.2)

  pub seq_tree : (ids : List ℕ) → IsNode exprs id (form.Seq ids) p
      → ((es : Trees V) → StandAll exprs ids es → Q (Seq p es)) → Stands exprs id e → Q e
  seq_tree ids n q s = let g = shape exprs id (form.Seq ids) p e n s in subst Q (sym g.1) (q g.0 g.2)

  pub fix_tree : (xs : List V) (ids : List ℕ) (body : ℕ) → IsNode exprs id (form.Fix xs ids body) p
      → ((ls : Trees V) (b : Tree V) → StandAll exprs ids ls → Stands exprs body b → Q (Fix p xs ls b))
      → Stands exprs id e → Q e
  fix_tree xs ids body n q s =
      let g = shape exprs id (form.Fix xs ids body) p e n s in subst Q (sym g.2) (q g.0 g.1 g.3 g.4)

  pub define_tree : (x : V) (value : ℕ) → IsNode exprs id (form.Define x value) p
      → ((b : Tree V) → Stands exprs value b → Q (Define p x b)) → Stands exprs id e → Q e
  define_tree x value n q s = let g = shape exprs id (form.Define x value) p e n s in subst Q (sym g.1) (q g.0 g.2)
