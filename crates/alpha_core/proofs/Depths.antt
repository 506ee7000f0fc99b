-- How deep an expression reaches, by its parts.
use Rattle.std.proofs.Common.{◌≡◌, ℕ, ◌+◌, suc, max, List, [], ◌∷◌, ◌++◌, Option, map, refl, sym, ap, subst, ◌∙◌, append-nil, append_assoc, arith}
use Rattle.core_form.specs.declared.program.Var.{Var}
use Rattle.core_form.specs.declared.program.Node.{Node}
use Rattle.core_form.specs.declared.program.What.TheVariants as form
use Rattle.scheme_base.specs.declared.op.Op.{Op}
use Rattle.scheme_base.specs.declared.pos.Pos.{Pos}
use Rattle.core_form.specs.Trees.{Tree, Trees, none, item, IsNode, Stands, StandAll}
use Rattle.alpha_core.proofs.Shapes.{shape}
use Rattle.alpha_core.specs.declared.deep.Level.{Level}
use Rattle.alpha_core.specs.Depth.{depth, deepest}
use Rattle.alpha_core.specs.Levels.{Reach, Leaves}

abbrev pub level : ℕ → ℕ → Level
level a i = record { expr = i; around = a }

pub one : (exprs : List (Node Var)) (a i : ℕ) (e : Tree Var) → Stands exprs i e → Reach exprs (level a i ∷ []) (a + depth e)
one exprs a i e s = (e, 0, s, refl, omega arith)

pub some : (exprs : List (Node Var)) (a : ℕ) (ids : List ℕ) (es : Trees Var) → StandAll exprs ids es
    → (m : ℕ) × Reach exprs (map (level a) ids) m × (max a m ≡ a + deepest es)
some exprs a ids none s = (0, subst (λ is. Reach exprs (map (level a) is) 0) (sym s) refl, omega arith)
some exprs a ids (item e es) s =
    let r = some exprs a s.1 es s.4 in (
      max (a + depth e) r.0,
      subst (λ is. Reach exprs (map (level a) is) (max (a + depth e) r.0)) (sym s.2) (e, r.0, s.3, r.1, refl),
      joined a (depth e) (deepest es) r.0 r.2,
    )
  where
    joined : (a d k m : ℕ) → max a m ≡ a + k → max a (max (a + d) m) ≡ a + max d k
    joined a d k m h = omega (arith, h)

pub join : (exprs : List (Node Var)) (ls ms : List Level) (a b : ℕ) → Reach exprs ls a → Reach exprs ms b → Reach exprs (ls ++ ms) (max a b)
join exprs [] ms a b r s = subst (λ k. Reach exprs ms k) (right a b r) s
  where
    right : (a b : ℕ) → a ≡ 0 → b ≡ max a b
    right a b h = omega (arith, h)
join exprs (l ∷ ls) ms a b r s =
    (r.0, max r.1 b, r.2, join exprs ls ms r.1 b r.3 s, moved (l.around + depth r.0) r.1 a b r.4)
  where
    moved : (d k a b : ℕ) → a ≡ max d k → max a b ≡ max d (max k b)
    moved d k a b h = omega (arith, h)

pub split : (exprs : List (Node Var)) (ls ms : List Level) (m : ℕ) → Reach exprs (ls ++ ms) m
    → (a b : ℕ) × Reach exprs ls a × Reach exprs ms b × (m ≡ max a b)
split exprs [] ms m r = (0, m, refl, r, omega arith)
split exprs (l ∷ ls) ms m r =
    let s = split exprs ls ms r.1 r.3 in
    (max (l.around + depth r.0) s.0, s.1, (r.0, s.0, r.2, s.2, refl), s.3, moved (l.around + depth r.0) s.0 s.1 r.1 m s.4 r.4)
  where
    moved : (d a b k m : ℕ) → k ≡ max a b → m ≡ max d k → m ≡ max (max d a) b
    moved d a b k m h j = omega (arith, h, j)

-- What is left of an expression, by its form

module _ (exprs : List (Node Var)) (id inner : ℕ) (p : Pos) (before after : List Level) (e : Tree Var) where
  leaves_nothing : depth e ≡ 1 → after ≡ before → Leaves exprs inner e before after
  leaves_nothing d same = record {
    more = [];
    deep = 0;
    items = same ∙ sym (append-nil before);
    reach = refl;
    whole = omega (arith, d);
  }

  pub const_leaves : (l : ℕ) → IsNode exprs id (form.Const l) p → Stands exprs id e → after ≡ before → Leaves exprs inner e before after
  const_leaves l n s same = leaves_nothing (ap depth (shape exprs id (form.Const l) p e n s)) same

  pub ref_leaves : (x : Var) → IsNode exprs id (form.Ref x) p → Stands exprs id e → after ≡ before → Leaves exprs inner e before after
  ref_leaves x n s same = leaves_nothing (ap depth (shape exprs id (form.Ref x) p e n s)) same

  leaves_one : (i : ℕ) (b : Tree Var) → depth e ≡ suc (depth b) → Stands exprs i b → after ≡ before ++ level inner i ∷ []
      → Leaves exprs inner e before after
  leaves_one i b d s items = record {
    more = level inner i ∷ [];
    deep = inner + depth b;
    items = items;
    reach = one exprs inner i b s;
    whole = omega (arith, d);
  }

  pub lambda_leaves : (xs : List Var) (r : Option Var) (body : ℕ) → IsNode exprs id (form.Lambda xs r body) p → Stands exprs id e
      → after ≡ before ++ level inner body ∷ [] → Leaves exprs inner e before after
  lambda_leaves xs r body n s items =
      let g = shape exprs id (form.Lambda xs r body) p e n s in leaves_one body g.0 (ap depth g.1) g.2 items

  pub set_leaves : (x : Var) (value : ℕ) → IsNode exprs id (form.Set x value) p → Stands exprs id e
      → after ≡ before ++ level inner value ∷ [] → Leaves exprs inner e before after
  set_leaves x value n s items =
      let g = shape exprs id (form.Set x value) p e n s in leaves_one value g.0 (ap depth g.1) g.2 items

  pub define_leaves : (x : Var) (value : ℕ) → IsNode exprs id (form.Define x value) p → Stands exprs id e
      → after ≡ before ++ level inner value ∷ [] → Leaves exprs inner e before after
  define_leaves x value n s items =
      let g = shape exprs id (form.Define x value) p e n s in leaves_one value g.0 (ap depth g.1) g.2 items

  leaves_some : (ids : List ℕ) (es : Trees Var) → depth e ≡ suc (deepest es) → StandAll exprs ids es
      → after ≡ before ++ map (level inner) ids → Leaves exprs inner e before after
  leaves_some ids es d s items =
      let r = some exprs inner ids es s in
      record { more = map (level inner) ids; deep = r.0; items = items; reach = r.1; whole = omega (arith, d, r.2) }

  pub prim_leaves : (o : Op) (ids : List ℕ) → IsNode exprs id (form.Prim o ids) p → Stands exprs id e
      → after ≡ before ++ map (level inner) ids → Leaves exprs inner e before after
  prim_leaves o ids n s items =
      let g = shape exprs id (form.Prim o ids) p e n s in leaves_some ids g.0 (ap depth g.1) g.2 items

  pub seq_leaves : (ids : List ℕ) → IsNode exprs id (form.Seq ids) p → Stands exprs id e
      → after ≡ before ++ map (level inner) ids → Leaves exprs inner e before after
  seq_leaves ids n s items =
      let g = shape exprs id (form.Seq ids) p e n s in leaves_some ids g.0 (ap depth g.1) g.2 items

  pub if_leaves : (a b c : ℕ) (m n : List Level) → IsNode exprs id (form.If a b c) p → Stands exprs id e
      → m ≡ before ++ level inner a ∷ [] → n ≡ m ++ level inner b ∷ [] → after ≡ n ++ level inner c ∷ []
      → Leaves exprs inner e before after
  if_leaves a b c m n h s first second third =
      let g = shape exprs id (form.If a b c) p e h s in
      record {
        more = level inner a ∷ level inner b ∷ level inner c ∷ [];
        deep = max (inner + depth g.0) (max (inner + depth g.1) (inner + depth g.2));
        items =
            third
            ∙ (ap (λ k. k ++ level inner c ∷ []) second
            ∙ (ap (λ k. (k ++ level inner b ∷ []) ++ level inner c ∷ []) first
            ∙ grind (arith, append_assoc)));
        reach = (
          g.0,
          max (inner + depth g.1) (inner + depth g.2),
          g.4,
          (g.1, inner + depth g.2, g.5, one exprs inner c g.2 g.6, refl),
          refl,
        );
        whole = whole_if inner (depth g.0) (depth g.1) (depth g.2) (depth e) (ap depth g.3);
      }
    where
      whole_if : (k a b c d : ℕ) → d ≡ suc (max a (max b c)) → suc (max k (max (k + a) (max (k + b) (k + c)))) ≡ k + d
      whole_if k a b c d h = omega (arith, h)

  pub call_leaves : (f : ℕ) (ids : List ℕ) (m : List Level) → IsNode exprs id (form.Call f ids) p → Stands exprs id e
      → m ≡ before ++ level inner f ∷ [] → after ≡ m ++ map (level inner) ids → Leaves exprs inner e before after
  call_leaves f ids m n s first items =
      let g = shape exprs id (form.Call f ids) p e n s in
      let r = some exprs inner ids g.1 g.4 in
      record {
        more = level inner f ∷ map (level inner) ids;
        deep = max (inner + depth g.0) r.0;
        items = items ∙ (ap (λ k. k ++ map (level inner) ids) first ∙ append_assoc before (level inner f ∷ []) (map (level inner) ids));
        reach = (g.0, r.0, g.3, r.1, refl);
        whole = whole_call inner (depth g.0) (deepest g.1) r.0 (depth e) (ap depth g.2) r.2;
      }
    where
      whole_call : (k a b m d : ℕ) → d ≡ suc (max a b) → max k m ≡ k + b → suc (max k (max (k + a) m)) ≡ k + d
      whole_call k a b m d h j = omega (arith, h, j)

  pub fix_leaves : (xs : List Var) (ids : List ℕ) (body : ℕ) (m : List Level) → IsNode exprs id (form.Fix xs ids body) p
      → Stands exprs id e → m ≡ before ++ map (level inner) ids → after ≡ m ++ level inner body ∷ []
      → Leaves exprs inner e before after
  fix_leaves xs ids body m n s first items =
      let g = shape exprs id (form.Fix xs ids body) p e n s in
      let r = some exprs inner ids g.0 g.3 in
      record {
        more = map (level inner) ids ++ level inner body ∷ [];
        deep = max r.0 (inner + depth g.1);
        items =
            items
            ∙ (ap (λ k. k ++ level inner body ∷ []) first
            ∙ append_assoc before (map (level inner) ids) (level inner body ∷ []));
        reach = join exprs (map (level inner) ids) (level inner body ∷ []) r.0 (inner + depth g.1) r.1 (one exprs inner body g.1 g.4);
        whole = whole_fix inner (depth g.1) (deepest g.0) r.0 (depth e) (ap depth g.2) r.2;
      }
    where
      whole_fix : (k a b m d : ℕ) → d ≡ suc (max b a) → max k m ≡ k + b → suc (max k (max m (k + a))) ≡ k + d
      whole_fix k a b m d h j = omega (arith, h, j)

-- the last of some levels was looked at
pub looked : (exprs : List (Node Var)) (items rest after : List Level) (l : Level) (inner best next m whole : ℕ)
    → items ≡ rest ++ l ∷ [] → inner ≡ l.around + 1 → next ≡ max best inner → Reach exprs items m → max best m ≡ whole
    → ((e : Tree Var) → Stands exprs l.expr e → Leaves exprs inner e rest after)
    → (k : ℕ) × Reach exprs after k × (max next k ≡ whole)
looked exprs items rest after l inner best next m whole pop up more r h left =
    let s = split exprs rest (l ∷ []) m (subst (λ ls. Reach exprs ls m) pop r) in
    let t = s.3 in
    let f = left t.0 t.2 in (
      max s.0 f.deep,
      subst (λ ls. Reach exprs ls (max s.0 f.deep)) (sym f.items) (join exprs rest f.more s.0 f.deep s.2 f.reach),
      total best next inner l.around (depth t.0) s.0 s.1 t.1 f.deep m whole up more h s.4 t.4 t.3 f.whole,
    )
  where
    total : (best next inner around d a b k deep m whole : ℕ) → inner ≡ around + 1 → next ≡ max best inner → max best m ≡ whole
        → m ≡ max a b → b ≡ max (around + d) k → k ≡ 0 → suc (max inner deep) ≡ inner + d → max next (max a deep) ≡ whole
    total best next inner around d a b k deep m whole up more h p q z w = omega (arith, up, more, h, p, q, z, w)

pub forms_reach : (exprs : List (Node Var)) (ids : List ℕ) (items : List Level) (forms : Trees Var) → items ≡ [] ++ map (level 0) ids
    → StandAll exprs ids forms → (m : ℕ) × Reach exprs items m × (max 0 m ≡ deepest forms)
forms_reach exprs ids items forms same s =
    let r = some exprs 0 ids forms s in
    (r.0, subst (λ ls. Reach exprs ls r.0) (sym same) r.1, r.2 ∙ plain (deepest forms))
  where
    plain : (d : ℕ) → 0 + d ≡ d
    plain d = omega arith
