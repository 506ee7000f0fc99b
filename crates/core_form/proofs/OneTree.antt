-- A number stands for one tree at most.
use Rattle.std.proofs.Common.{◌≡◌, ℕ, List, refl, sym, ap, subst, ◌∙◌}
use Rattle.std.specs.Prelude.{slice_get}
use Rattle.scheme_base.specs.declared.pos.Pos.{Pos}
use Rattle.scheme_base.proofs.Lists.{same_item, nil-cons, same_head, same_tail}
use Rattle.core_form.specs.declared.program.Node.{Node}
use Rattle.core_form.specs.declared.program.What.{What}
use Rattle.core_form.specs.declared.program.What.TheVariants as expr
use Rattle.core_form.specs.Trees.{Tree, Const, Ref, Lambda, If, Set, Call, Prim, Seq, Fix, Define, Trees, none, item, IsNode, Stands, StandAll}

-- a tree by the node that its number names
abbrev Shape : {V : Type 0} → List (Node V) → What V → Pos → Tree V → Type 0
Shape exprs (expr.Const l) p e = e ≡ Const p l
Shape exprs (expr.Ref x) p e = e ≡ Ref p x
Shape {V = V} exprs (expr.Lambda xs r body) p e = (b : Tree V) × (e ≡ Lambda p xs r b) × Stands exprs body b
Shape {V = V} exprs (expr.If test this that) p e =
    (a b c : Tree V) × (e ≡ If p a b c) × Stands exprs test a × Stands exprs this b × Stands exprs that c
Shape {V = V} exprs (expr.Set x value) p e = (b : Tree V) × (e ≡ Set p x b) × Stands exprs value b
Shape {V = V} exprs (expr.Call operator ids) p e =
    (f : Tree V) × (es : Trees V) × (e ≡ Call p f es) × Stands exprs operator f × StandAll exprs ids es
Shape {V = V} exprs (expr.Prim o ids) p e = (es : Trees V) × (e ≡ Prim p o es) × StandAll exprs ids es
Shape {V = V} exprs (expr.Seq ids) p e = (es : Trees V) × (e ≡ Seq p es) × StandAll exprs ids es
Shape {V = V} exprs (expr.Fix xs ids body) p e =
    (ls : Trees V) × (b : Tree V) × (e ≡ Fix p xs ls b) × StandAll exprs ids ls × Stands exprs body b
Shape {V = V} exprs (expr.Define x value) p e = (b : Tree V) × (e ≡ Define p x b) × Stands exprs value b

shape : {V : Type 0} (exprs : List (Node V)) (id : ℕ) (what : What V) (p : Pos) (e : Tree V) → IsNode exprs id what p
    → Stands exprs id e → Shape exprs what p e
shape exprs id what p (Const q l) n s =
    subst (λ m. Shape exprs m.what m.pos (Const q l)) (same_item (slice_get exprs id) _ _ s n) refl
shape exprs id what p (Ref q x) n s =
    subst (λ m. Shape exprs m.what m.pos (Ref q x)) (same_item (slice_get exprs id) _ _ s n) refl
shape exprs id what p (Lambda q xs r b) n s =
    subst (λ m. Shape exprs m.what m.pos (Lambda q xs r b)) (same_item (slice_get exprs id) _ _ s.1 n) (b, refl, s.2)
shape exprs id what p (If q a b c) n s =
    subst (λ m. Shape exprs m.what m.pos (If q a b c)) (same_item (slice_get exprs id) _ _ s.3 n)
    (a, b, c, refl, s.4, s.5, s.6)
shape exprs id what p (Set q x b) n s =
    subst (λ m. Shape exprs m.what m.pos (Set q x b)) (same_item (slice_get exprs id) _ _ s.1 n) (b, refl, s.2)
shape exprs id what p (Call q f es) n s =
    subst (λ m. Shape exprs m.what m.pos (Call q f es)) (same_item (slice_get exprs id) _ _ s.2 n)
    (f, es, refl, s.3, s.4)
shape exprs id what p (Prim q o es) n s =
    subst (λ m. Shape exprs m.what m.pos (Prim q o es)) (same_item (slice_get exprs id) _ _ s.1 n) (es, refl, s.2)
shape exprs id what p (Seq q es) n s =
    subst (λ m. Shape exprs m.what m.pos (Seq q es)) (same_item (slice_get exprs id) _ _ s.1 n) (es, refl, s.2)
shape exprs id what p (Fix q xs ls b) n s =
    subst (λ m. Shape exprs m.what m.pos (Fix q xs ls b)) (same_item (slice_get exprs id) _ _ s.2 n)
    (ls, b, refl, s.3, s.4)
shape exprs id what p (Define q x b) n s =
    subst (λ m. Shape exprs m.what m.pos (Define q x b)) (same_item (slice_get exprs id) _ _ s.1 n) (b, refl, s.2)

mutual
  pub one_tree : {V : Type 0} (exprs : List (Node V)) (id : ℕ) (e f : Tree V) → Stands exprs id e → Stands exprs id f → e ≡ f
  one_tree exprs id (Const p l) f s t = sym (shape exprs id (expr.Const l) p f s t)
  one_tree exprs id (Ref p x) f s t = sym (shape exprs id (expr.Ref x) p f s t)
  one_tree exprs id (Lambda p xs r b) f s t =
      let g = shape exprs id (expr.Lambda xs r s.0) p f s.1 t in
      ap (λ y. Lambda p xs r y) (one_tree exprs s.0 b g.0 s.2 g.2) ∙ sym g.1
  one_tree exprs id (If p a b c) f s t =
      let g = shape exprs id (expr.If s.0 s.1 s.2) p f s.3 t in
      ap (λ y. If p y b c) (one_tree exprs s.0 a g.0 s.4 g.4)
      ∙ (ap (λ y. If p g.0 y c) (one_tree exprs s.1 b g.1 s.5 g.5)
      ∙ (ap (λ y. If p g.0 g.1 y) (one_tree exprs s.2 c g.2 s.6 g.6) ∙ sym g.3))
  one_tree exprs id (Set p x b) f s t =
      let g = shape exprs id (expr.Set x s.0) p f s.1 t in
      ap (λ y. Set p x y) (one_tree exprs s.0 b g.0 s.2 g.2) ∙ sym g.1
  one_tree exprs id (Call p h es) f s t =
      let g = shape exprs id (expr.Call s.0 s.1) p f s.2 t in
      ap (λ y. Call p y es) (one_tree exprs s.0 h g.0 s.3 g.3)
      ∙ (ap (λ ys. Call p g.0 ys) (one_list exprs s.1 es g.1 s.4 g.4) ∙ sym g.2)
  one_tree exprs id (Prim p o es) f s t =
      let g = shape exprs id (expr.Prim o s.0) p f s.1 t in
      ap (λ ys. Prim p o ys) (one_list exprs s.0 es g.0 s.2 g.2) ∙ sym g.1
  one_tree exprs id (Seq p es) f s t =
      let g = shape exprs id (expr.Seq s.0) p f s.1 t in
      ap (λ ys. Seq p ys) (one_list exprs s.0 es g.0 s.2 g.2) ∙ sym g.1
  one_tree exprs id (Fix p xs ls b) f s t =
      let g = shape exprs id (expr.Fix xs s.0 s.1) p f s.2 t in
      ap (λ ys. Fix p xs ys b) (one_list exprs s.0 ls g.0 s.3 g.3)
      ∙ (ap (λ y. Fix p xs g.0 y) (one_tree exprs s.1 b g.1 s.4 g.4) ∙ sym g.2)
  one_tree exprs id (Define p x b) f s t =
      let g = shape exprs id (expr.Define x s.0) p f s.1 t in
      ap (λ y. Define p x y) (one_tree exprs s.0 b g.0 s.2 g.2) ∙ sym g.1

  pub one_list : {V : Type 0} (exprs : List (Node V)) (ids : List ℕ) (es fs : Trees V) → StandAll exprs ids es
      → StandAll exprs ids fs → es ≡ fs
  one_list exprs ids none none s t = refl
  one_list exprs ids none (item f fs) s t = absurd (nil-cons t.0 t.1 (sym s ∙ t.2))
  one_list exprs ids (item e es) none s t = absurd (nil-cons s.0 s.1 (sym t ∙ s.2))
  one_list exprs ids (item e es) (item f fs) s t =
      let same = sym s.2 ∙ t.2 in
      ap (λ y. item y es)
      (one_tree exprs s.0 e f s.3 (subst (λ i. Stands exprs i f) (sym (same_head s.0 t.0 s.1 t.1 same)) t.3))
      ∙ ap (λ ys. item f ys)
      (one_list exprs s.1 es fs s.4 (subst (λ is. StandAll exprs is fs) (sym (same_tail s.0 t.0 s.1 t.1 same)) t.4))
