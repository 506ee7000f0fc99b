-- What is found in an expression, from what is found in its parts.
use Rattle.std.proofs.Common.{◌≡◌, ℕ, suc, ◌+◌, nat_eq, cond, List, [], ◌∷◌, ◌++◌, map, length, Option, None, Some, Bool, true, false, ◌||◌, if◌then◌else◌, refl, sym, ap, subst, ◌∙◌, append_assoc, append-nil, length-append, arith}
use Rattle.std.specs.List.{list_any}
use Rattle.std.specs.Map.{lookup}
use Rattle.std.proofs.lemmas.Bool.{eqb-true}
use Rattle.indexmap.specs.IndexMap.{get}
use Rattle.indexmap.specs.IndexSet.{contains}
use Rattle.scheme_base.specs.declared.lit.Lit.{Lit}
use Rattle.scheme_base.specs.declared.pos.Pos.{Pos}
use Rattle.core_form.specs.declared.program.Var.{Var}
use Rattle.core_form.specs.declared.program.VarRef.{VarRef}
use Rattle.core_form.specs.declared.program.VarRef.TheVariants as ref
use Rattle.core_form.specs.declared.program.Program.{Program}
use Rattle.core_form.specs.Trees.{Tree, Trees, Stands, StandAll}
use Rattle.core_form.specs.Trees as tree
use Rattle.core_form.specs.Valid.{is_hole}
use Rattle.core_form.specs.Variables.{same_var}
use Rattle.core_form.proofs.OneTree.{one_tree}
use Rattle.alpha_core.specs.Names.{var_of}
use Rattle.box_name.specs.declared.survey.Origin.{Origin}
use Rattle.box_name.specs.declared.survey.Survey.{Survey}
use Rattle.box_name.specs.Told.{Expr, Hole, Const, Local, Top, Lambda, If, SetLocal, SetTop, Call, Direct, Prim, Seq, Fix, Define, Exprs, none, item, told, all_told, told_operand, told_operands, reference, assignment, number, numbers}
use Rattle.box_name.specs.Counts.{procs_in, all_procs_in, lambdas, all_lambdas}
use Rattle.box_name.specs.Whole.{assigned, all_assigned, holes, all_holes, unvalued, tops, all_tops, has, seen, placed_lambdas}
use Rattle.box_name.proofs.Telling.{is_value, value_stays}
use Rattle.box_name.specs.Finding.{ArePlaced, IsInside, IsSurvey, local_of, top_of, Sees, Finds, FindsIn, FindsInAll, SeesForms}

or_assoc : (a b c : Bool) → (a || b) || c ≡ a || (b || c)
or_assoc true b c = refl
or_assoc false b c = refl

or_none : (a : Bool) → a ≡ a || false
or_none true = refl
or_none false = refl

pub has_append : (xs ys : List ℕ) (x : ℕ) → has (xs ++ ys) x ≡ has xs x || has ys x
has_append [] ys x = refl
has_append (y ∷ xs) ys x =
    ap (λ t. nat_eq x y || t) (has_append xs ys x) ∙ sym (or_assoc (nat_eq x y) (has xs x) (has ys x))

pub seen_append : (ys xs zs : List Var) → seen ys (xs ++ zs) ≡ seen (seen ys xs) zs
seen_append ys [] zs = refl
seen_append ys (x ∷ xs) zs = seen_append (if list_any (same_var x) ys then ys else ys ++ x ∷ []) xs zs

origins_append : (core : Program VarRef) (os ps : List Origin) (ls ms : List (ℕ × Expr)) → ArePlaced core os ls
    → ArePlaced core ps ms → ArePlaced core (os ++ ps) (ls ++ ms)
origins_append core [] ps [] ms h k = k
origins_append core (o ∷ os) ps (l ∷ ls) ms h k = (h.0, h.1, h.2, h.3, origins_append core os ps ls ms h.4 k)
origins_append core [] ps (l ∷ ls) ms h k = absurd h
origins_append core (o ∷ os) ps [] ms h k = absurd h

origins_length : (core : Program VarRef) (os : List Origin) (ls : List (ℕ × Expr)) → ArePlaced core os ls → length os ≡ length ls
origins_length core [] [] h = refl
origins_length core (o ∷ os) (l ∷ ls) h = ap suc (origins_length core os ls h.4)
origins_length core [] (l ∷ ls) h = absurd h
origins_length core (o ∷ os) [] h = absurd h

map_append : (form : ℕ) (ls ms : List Expr) → map {B = ℕ × Expr} (λ l. (form, l)) (ls ++ ms) ≡ map (λ l. (form, l)) ls ++ map (λ l. (form, l)) ms
map_append form [] ms = refl
map_append form (l ∷ ls) ms = ap (λ u. (form, l) ∷ u) (map_append form ls ms)

map_length : (form : ℕ) (ls : List Expr) → length (map {B = ℕ × Expr} (λ l. (form, l)) ls) ≡ length ls
map_length form [] = refl
map_length form (l ∷ ls) = ap suc (map_length form ls)

pub sees_then : (core : Program VarRef) (a b c : Survey) (ls ms : List (ℕ × Expr)) (xs xs' ys ys' : List ℕ) (zs zs' : List Var) → Sees core a b ls xs ys zs
    → Sees core b c ms xs' ys' zs' → Sees core a c (ls ++ ms) (xs ++ xs') (ys ++ ys') (zs ++ zs')
sees_then core a b c ls ms xs xs' ys ys' zs zs' h k = record {
  more = h.more ++ k.more;
  items = k.items ∙ (ap (λ u. u ++ k.more) h.items ∙ append_assoc a.procs.items h.more k.more);
  origins = origins_append core h.more k.more ls ms h.origins k.origins;
  assigned =
      λ x.
      k.assigned x
      ∙ (ap (λ t. t || has xs' x) (h.assigned x)
      ∙ (or_assoc (contains nat_eq a.assigned x) (has xs x) (has xs' x)
      ∙ ap (λ t. contains nat_eq a.assigned x || t) (sym (has_append xs xs' x))));
  holes =
      λ x.
      k.holes x
      ∙ (ap (λ t. t || has ys' x) (h.holes x)
      ∙ (or_assoc (contains nat_eq a.holes x) (has ys x) (has ys' x)
      ∙ ap (λ t. contains nat_eq a.holes x || t) (sym (has_append ys ys' x))));
  tops = k.tops ∙ (ap (λ u. seen u zs') h.tops ∙ sym (seen_append (map var_of a.tops.keys) zs zs'));
  inside = λ g. k.inside (h.inside g);
}

module _ (core : Program VarRef) (form : ℕ) where
  pub finds_none : (a : Survey) → Finds core form a a [] [] [] []
  finds_none a = record {
    more = [];
    items = sym (append-nil a.procs.items);
    origins = tt;
    assigned = λ x. or_none (contains nat_eq a.assigned x);
    holes = λ x. or_none (contains nat_eq a.holes x);
    tops = refl;
    inside = λ h. h;
  }

  pub finds_then : (a b c : Survey) (ls ms : List Expr) (xs xs' ys ys' : List ℕ) (zs zs' : List Var) → Finds core form a b ls xs ys zs
      → Finds core form b c ms xs' ys' zs' → Finds core form a c (ls ++ ms) (xs ++ xs') (ys ++ ys') (zs ++ zs')
  finds_then a b c ls ms xs xs' ys ys' zs zs' h k =
      subst (λ u. Sees core a c u (xs ++ xs') (ys ++ ys') (zs ++ zs')) (sym (map_append form ls ms))
      (sees_then core a b c (map (λ l. (form, l)) ls) (map (λ l. (form, l)) ms) xs xs' ys ys' zs zs' h k)

  -- the parts of an expression, one after another
  pub finds_two : (a b c : Survey) (e f : Expr) → FindsIn core form a b e → FindsIn core form b c f
      → Finds core form a c (lambdas e ++ lambdas f) (assigned e ++ assigned f) (holes e ++ holes f) (tops e ++ tops f)
  finds_two a b c e f h k =
      finds_then a b c (lambdas e) (lambdas f) (assigned e) (assigned f) (holes e) (holes f) (tops e) (tops f) h k

  pub finds_if : (a b c d : Survey) (p : Pos) (e f g : Expr) → FindsIn core form a b e → FindsIn core form b c f
      → FindsIn core form c d g → FindsIn core form a d (If p e f g)
  finds_if a b c d p e f g h k l =
      finds_then a b d (lambdas e) (lambdas f ++ lambdas g) (assigned e) (assigned f ++ assigned g) (holes e) (holes f ++ holes g)
      (tops e) (tops f ++ tops g) h (finds_two b c d f g k l)

  pub finds_call : (a b c : Survey) (p : Pos) (f : Expr) (es : Exprs) → FindsIn core form a b f → FindsInAll core form b c es
      → FindsIn core form a c (Call p f es)
  finds_call a b c p f es h k =
      finds_then a b c (lambdas f) (all_lambdas es) (assigned f) (all_assigned es) (holes f) (all_holes es) (tops f)
      (all_tops es) h k

  pub finds_fix : (a b c : Survey) (p : Pos) (xs : List ℕ) (ls : Exprs) (e : Expr) → FindsInAll core form a b ls
      → FindsIn core form b c e → FindsIn core form a c (Fix p xs ls e)
  finds_fix a b c p xs ls e h k =
      finds_then a b c (all_lambdas ls) (lambdas e) (all_assigned ls) (assigned e) (all_holes ls) (holes e) (all_tops ls)
      (tops e) h k

  pub finds_item : (a b c : Survey) (e : Expr) (es : Exprs) → FindsIn core form a b e → FindsInAll core form b c es
      → FindsInAll core form a c (item e es)
  finds_item a b c e es h k =
      finds_then a b c (lambdas e) (all_lambdas es) (assigned e) (all_assigned es) (holes e) (all_holes es) (tops e)
      (all_tops es) h k

  -- the parameters without a value, the body and the operands of a direct call
  pub finds_direct : (a b c d : Survey) (p : Pos) (xs : List ℕ) (e : Expr) (es : Exprs)
      → Finds core form a b [] [] (unvalued xs es) [] → FindsIn core form b c e → FindsInAll core form c d es
      → FindsIn core form a d (Direct p xs e es)
  finds_direct a b c d p xs e es h k l =
      finds_then a b d [] (lambdas e ++ all_lambdas es) [] (assigned e ++ all_assigned es) (unvalued xs es)
      (holes e ++ all_holes es) [] (tops e ++ all_tops es) h
      (finds_then b c d (lambdas e) (all_lambdas es) (assigned e) (all_assigned es) (holes e) (all_holes es) (tops e)
      (all_tops es) k l)

-- The operands of a direct call: the undefined value has nothing that is looked for.
module _ {A : Type 0} (F : Expr → List A) (all : Exprs → List A) (hole : F Hole ≡ []) (const : (p : Pos) (l : ℕ) → F (Const p l) ≡ [])
    (nothing : all none ≡ []) (more : (e : Expr) (es : Exprs) → all (item e es) ≡ F e ++ all es) where
  one_same : (lits : List Lit) (e : Tree VarRef) → F (told_operand lits e) ≡ F (told lits e)
  one_same lits (tree.Const p l) = by (is_hole {V = VarRef} lits (tree.Const p l))
    where
      by : (t : Bool) → F (if t then Hole else Const p l) ≡ F (Const p l)
      by true = hole ∙ sym (const p l)
      by false = refl
  one_same lits (tree.Ref p x) = refl
  one_same lits (tree.Lambda p xs r body) = refl
  one_same lits (tree.If p test this that) = refl
  one_same lits (tree.Set p x e) = refl
  one_same lits (tree.Call p f es) = refl
  one_same lits (tree.Prim p o es) = refl
  one_same lits (tree.Seq p es) = refl
  one_same lits (tree.Fix p xs ls body) = refl
  one_same lits (tree.Define p x e) = refl

  all_same : (lits : List Lit) (es : Trees VarRef) → all (told_operands lits es) ≡ all (all_told lits es)
  all_same lits tree.none = refl
  all_same lits (tree.item e es) =
      more (told_operand lits e) (told_operands lits es)
      ∙ (ap (λ u. u ++ all (told_operands lits es)) (one_same lits e)
      ∙ (ap (λ u. F (told lits e) ++ u) (all_same lits es) ∙ sym (more (told lits e) (all_told lits es))))

pub finds_operands : (core : Program VarRef) (form : ℕ) (a b : Survey) (lits : List Lit) (es : Trees VarRef)
    → FindsInAll core form a b (all_told lits es) → FindsInAll core form a b (told_operands lits es)
finds_operands core form a b lits es h =
    subst (λ u. Finds core form a b u (all_assigned (told_operands lits es)) (all_holes (told_operands lits es)) (all_tops (told_operands lits es)))
    (sym (all_same lambdas all_lambdas refl (λ p l. refl) refl (λ e es. refl) lits es))
    (subst (λ u. Finds core form a b (all_lambdas (all_told lits es)) u (all_holes (told_operands lits es)) (all_tops (told_operands lits es)))
    (sym (all_same assigned all_assigned refl (λ p l. refl) refl (λ e es. refl) lits es))
    (subst (λ u. Finds core form a b (all_lambdas (all_told lits es)) (all_assigned (all_told lits es)) u (all_tops (told_operands lits es)))
    (sym (all_same holes all_holes refl (λ p l. refl) refl (λ e es. refl) lits es))
    (subst (λ u. Finds core form a b (all_lambdas (all_told lits es)) (all_assigned (all_told lits es)) (all_holes (all_told lits es)) u)
    (sym (all_same tops all_tops refl (λ p l. refl) refl (λ e es. refl) lits es)) h)))

two : (a b c d : ℕ) → a ≡ c → b ≡ d → a + b ≡ c + d
two a b c d h k = omega (arith, h, k)

three : (a b c d e f : ℕ) → a ≡ d → b ≡ e → c ≡ f → a + (b + c) ≡ d + e + f
three a b c d e f h k l = omega (arith, h, k, l)

mutual
  -- each procedure has a lambda expression
  count_is : (e : Expr) → length (lambdas e) ≡ procs_in e
  count_is Hole = refl
  count_is (Const p l) = refl
  count_is (Local p x) = refl
  count_is (Top p x) = refl
  count_is (Lambda p xs r body) = ap suc (count_is body)
  count_is (If p e f g) =
      length-append (lambdas e) (lambdas f ++ lambdas g)
      ∙ (ap (λ u. length (lambdas e) + u) (length-append (lambdas f) (lambdas g)) ∙ three (length (lambdas e)) (length (lambdas f)) (length (lambdas g)) (procs_in e) (procs_in f) (procs_in g) (count_is e) (count_is f) (count_is g))
  count_is (SetLocal p x e) = count_is e
  count_is (SetTop p x e) = count_is e
  count_is (Call p f es) = length-append (lambdas f) (all_lambdas es) ∙ two (length (lambdas f)) (length (all_lambdas es)) (procs_in f) (all_procs_in es) (count_is f) (counts_are es)
  count_is (Direct p xs body es) = length-append (lambdas body) (all_lambdas es) ∙ two (length (lambdas body)) (length (all_lambdas es)) (procs_in body) (all_procs_in es) (count_is body) (counts_are es)
  count_is (Prim p o es) = counts_are es
  count_is (Seq p es) = counts_are es
  count_is (Fix p xs ls body) = length-append (all_lambdas ls) (lambdas body) ∙ two (length (all_lambdas ls)) (length (lambdas body)) (all_procs_in ls) (procs_in body) (counts_are ls) (count_is body)
  count_is (Define p x e) = count_is e

  counts_are : (es : Exprs) → length (all_lambdas es) ≡ all_procs_in es
  counts_are none = refl
  counts_are (item e es) = length-append (lambdas e) (all_lambdas es) ∙ two (length (lambdas e)) (length (all_lambdas es)) (procs_in e) (all_procs_in es) (count_is e) (counts_are es)

-- how many procedures an expression has, by how many were found
pub found_many : (core : Program VarRef) (form : ℕ) (a b : Survey) (e : Expr) → FindsIn core form a b e
    → length b.procs.items ≡ length a.procs.items + procs_in e
found_many core form a b e h =
    ap length h.items
    ∙ (length-append a.procs.items h.more
    ∙ ap (λ u. length a.procs.items + u) (origins_length core h.more (map (λ l. (form, l)) (lambdas e)) h.origins ∙ (map_length form (lambdas e) ∙ count_is e)))

-- Expressions of one variable
module _ (core : Program VarRef) (form : ℕ) where
  pub finds_ref : (a b : Survey) (p : Pos) (x : VarRef) → Finds core form a b [] [] [] (top_of x)
      → FindsIn core form a b (reference p x)
  finds_ref a b p (ref.Local n) h = h
  finds_ref a b p (ref.Top x) h = h

  pub finds_set : (a b c : Survey) (p : Pos) (x : VarRef) (e : Expr) → Finds core form a b [] (local_of x) [] (top_of x)
      → FindsIn core form b c e → FindsIn core form a c (assignment p x e)
  finds_set a b c p (ref.Local n) e h k =
      finds_then core form a b c [] (lambdas e) (n ∷ []) (assigned e) [] (holes e) [] (tops e) h k
  finds_set a b c p (ref.Top x) e h k =
      finds_then core form a b c [] (lambdas e) [] (assigned e) [] (holes e) (x ∷ []) (tops e) h k

  pub finds_define : (a b c : Survey) (p : Pos) (x : Var) (e : Expr) → Finds core form a b [] [] [] (x ∷ [])
      → FindsIn core form b c e → FindsIn core form a c (Define p x e)
  finds_define a b c p x e h k =
      finds_then core form a b c [] (lambdas e) [] (assigned e) [] (holes e) (x ∷ []) (tops e) h k

  -- a lambda expression that becomes a procedure, then its body
  pub finds_lambda : (a b c : Survey) (o : Origin) (t : Tree VarRef) (p : Pos) (xs : List ℕ) (r : Option ℕ) (body : Expr)
      → b.procs.items ≡ a.procs.items ++ o ∷ [] → b.assigned ≡ a.assigned → b.holes ≡ a.holes → b.tops ≡ a.tops
      → b.inside ≡ a.inside → o.form ≡ form → Stands core.exprs o.expr t → told core.lits t ≡ Lambda p xs r body
      → FindsIn core form b c body → FindsIn core form a c (Lambda p xs r body)
  finds_lambda a b c o t p xs r body pushed assigned_same holes_same tops_same inside_same in_form stands is k =
      finds_then core form a b c (Lambda p xs r body ∷ []) (lambdas body) [] (assigned body) [] (holes body) [] (tops body)
      (record {
        more = o ∷ [];
        items = pushed;
        origins = (in_form, t, stands, is, tt);
        assigned = λ x. ap (λ m. contains nat_eq m x) assigned_same ∙ or_none (contains nat_eq a.assigned x);
        holes = λ x. ap (λ m. contains nat_eq m x) holes_same ∙ or_none (contains nat_eq a.holes x);
        tops = ap (λ m. map var_of m.keys) tops_same;
        inside = λ h. subst (λ m. IsInside core m) (sym inside_same) h;
      })
      k

  -- how many procedures the body has is noted with the lambda expression
  pub finds_body : (a b c : Survey) (lambda inside : ℕ) (q : Pos) (xs : List VarRef) (r : Option VarRef) (body : Tree VarRef)
      → FindsIn core form a b (told core.lits body) → c.procs ≡ b.procs → c.assigned ≡ b.assigned → c.holes ≡ b.holes
      → c.tops ≡ b.tops
      → ((l : ℕ) → get nat_eq c.inside l ≡ cond (nat_eq lambda l) (Some inside) (get nat_eq b.inside l))
      → inside ≡ procs_in (told core.lits body) → Stands core.exprs lambda (tree.Lambda q xs r body)
      → FindsIn core form a c (told core.lits body)
  finds_body a b c lambda inside q xs r body h procs_same assigned_same holes_same tops_same updates many stands = record {
    more = h.more;
    items = ap (λ m. m.items) procs_same ∙ h.items;
    origins = h.origins;
    assigned = λ x. ap (λ m. contains nat_eq m x) assigned_same ∙ h.assigned x;
    holes = λ x. ap (λ m. contains nat_eq m x) holes_same ∙ h.holes x;
    tops = ap (λ m. map var_of m.keys) tops_same ∙ h.tops;
    inside = λ before l n at e s. by (nat_eq lambda l) l n refl (sym (updates l) ∙ at) e s (h.inside before);
  }
    where
      by : (t : Bool) (l n : ℕ) → nat_eq lambda l ≡ t → cond t (Some inside) (get nat_eq b.inside l) ≡ Some n → (e : Tree VarRef)
          → Stands core.exprs l e → IsInside core b.inside → procs_in (told core.lits e) ≡ suc n
      by false l n test at e s known = known l n at e s
      by true l n test at e s known =
          let same : lambda ≡ l = eqb-true lambda l test in
          let one : e ≡ tree.Lambda q xs r body =
          one_tree core.exprs l e (tree.Lambda q xs r body) s (subst (λ i. Stands core.exprs i (tree.Lambda q xs r body)) same stands) in
          let count : inside ≡ n = cc at in
          ap (λ u. procs_in (told core.lits u)) one ∙ ap suc (sym many ∙ count)

-- Expressions: those that are left are looked at next.
pub record Left (core : Program VarRef) (form : ℕ) (a b : Survey) (es : Trees VarRef) (left : List ℕ) : Type 0 where
  pub others : Trees VarRef
  pub stand : StandAll core.exprs left others
  pub goes : (c : Survey) → FindsInAll core form b c (all_told core.lits others) → FindsInAll core form a c (all_told core.lits es)

pub left_begins : (core : Program VarRef) (form : ℕ) (a : Survey) (es : Trees VarRef) (ids left : List ℕ) → StandAll core.exprs ids es
    → left ≡ ids → Left core form a a es left
left_begins core form a es ids left stand is =
    record { others = es; stand = subst (λ u. StandAll core.exprs u es) (sym is) stand; goes = λ c h. h }

pub left_on : (core : Program VarRef) (form : ℕ) (a b c : Survey) (es : Trees VarRef) (id : ℕ) (left others : List ℕ)
    → Left core form a b es left → left ≡ id ∷ others
    → ((e : Tree VarRef) → Stands core.exprs id e → FindsIn core form b c (told core.lits e)) → Left core form a c es others
left_on core form a b c es id left others g is one = by g.others refl
  where
    by : (t : Trees VarRef) → g.others ≡ t → Left core form a c es others
    by tree.none e =
        let none_left : left ≡ [] = subst (λ u. StandAll core.exprs left u) e g.stand in
        absurd (cc (none_left, is))
    by (tree.item d ds) e =
        let st = subst (λ u. StandAll core.exprs left u) e g.stand in
        let same : st.0 ∷ st.1 ≡ id ∷ others = sym st.2 ∙ is in
        let here : st.0 ≡ id = cc same in
        let rest_is : st.1 ≡ others = cc same in
        record {
          others = ds;
          stand = subst (λ u. StandAll core.exprs u ds) rest_is st.4;
          goes =
              λ s h.
              g.goes s
              (subst (λ u. FindsInAll core form b s (all_told core.lits u)) (sym e)
              (finds_item core form b c s (told core.lits d) (all_told core.lits ds)
              (one d (subst (λ u. Stands core.exprs u d) here st.3)) h));
        }

pub left_ends : (core : Program VarRef) (form : ℕ) (a b : Survey) (es : Trees VarRef) (left : List ℕ) → Left core form a b es left
    → left ≡ [] → FindsInAll core form a b (all_told core.lits es)
left_ends core form a b es left g is = by g.others refl
  where
    by : (t : Trees VarRef) → g.others ≡ t → FindsInAll core form a b (all_told core.lits es)
    by (tree.item d ds) e =
        let st = subst (λ u. StandAll core.exprs left u) e g.stand in
        absurd (cc (st.2, is))
    by tree.none e =
        g.goes b (subst (λ u. FindsInAll core form b b (all_told core.lits u)) (sym e) (finds_none core form b))

-- Forms: those that are left, from form f on, are looked at next.
pub record Ahead (core : Program VarRef) (a b : Survey) (es : Trees VarRef) (f : ℕ) (left : List ℕ) : Type 0 where
  pub others : Trees VarRef
  pub stand : StandAll core.exprs left others
  pub goes : (c : Survey) → SeesForms core f b c (all_told core.lits others) → SeesForms core 0 a c (all_told core.lits es)

pub ahead_begins : (core : Program VarRef) (a : Survey) (es : Trees VarRef) (ids left : List ℕ) → StandAll core.exprs ids es
    → left ≡ ids → Ahead core a a es 0 left
ahead_begins core a es ids left stand is =
    record { others = es; stand = subst (λ u. StandAll core.exprs u es) (sym is) stand; goes = λ c h. h }

pub ahead_on : (core : Program VarRef) (a b c : Survey) (es : Trees VarRef) (f f' id : ℕ) (left others : List ℕ)
    → Ahead core a b es f left → left ≡ id ∷ others → f' ≡ suc f
    → ((e : Tree VarRef) → Stands core.exprs id e → FindsIn core f b c (told core.lits e)) → Ahead core a c es f' others
ahead_on core a b c es f f' id left others g is next one = by g.others refl
  where
    by : (t : Trees VarRef) → g.others ≡ t → Ahead core a c es f' others
    by tree.none e =
        let none_left : left ≡ [] = subst (λ u. StandAll core.exprs left u) e g.stand in
        absurd (cc (none_left, is))
    by (tree.item d ds) e =
        let st = subst (λ u. StandAll core.exprs left u) e g.stand in
        let same : st.0 ∷ st.1 ≡ id ∷ others = sym st.2 ∙ is in
        let here : st.0 ≡ id = cc same in
        let rest_is : st.1 ≡ others = cc same in
        let h = told core.lits d in
        let hs = all_told core.lits ds in
        record {
          others = ds;
          stand = subst (λ u. StandAll core.exprs u ds) rest_is st.4;
          goes =
              λ s k.
              g.goes s
              (subst (λ u. SeesForms core f b s (all_told core.lits u)) (sym e)
              (sees_then core b c s (map (λ l. (f, l)) (lambdas h)) (placed_lambdas (suc f) hs) (assigned h) (all_assigned hs)
              (holes h) (all_holes hs) (tops h) (all_tops hs) (one d (subst (λ u. Stands core.exprs u d) here st.3))
              (subst (λ n. SeesForms core n c s hs) next k)));
        }

pub ahead_ends : (core : Program VarRef) (a b : Survey) (es : Trees VarRef) (f : ℕ) (left : List ℕ) → Ahead core a b es f left
    → left ≡ [] → SeesForms core 0 a b (all_told core.lits es)
ahead_ends core a b es f left g is = by g.others refl
  where
    by : (t : Trees VarRef) → g.others ≡ t → SeesForms core 0 a b (all_told core.lits es)
    by (tree.item d ds) e =
        let st = subst (λ u. StandAll core.exprs left u) e g.stand in
        absurd (cc (st.2, is))
    by tree.none e =
        g.goes b (subst (λ u. SeesForms core f b b (all_told core.lits u)) (sym e) (finds_none core f b))

-- The parameters of a direct call and its operands: those that are left are looked at next.
pub record Pairing (core : Program VarRef) (form : ℕ) (a b : Survey) (params : List VarRef) (es : Trees VarRef) (left : List VarRef) (ids : List ℕ) : Type 0 where
  pub others : Trees VarRef
  pub stand : StandAll core.exprs ids others
  pub goes :
      (c : Survey) → Finds core form b c [] [] (unvalued (numbers left) (told_operands core.lits others)) []
      → Finds core form a c [] [] (unvalued (numbers params) (told_operands core.lits es)) []

pub pairing_begins : (core : Program VarRef) (form : ℕ) (a : Survey) (params xs : List VarRef) (es : Trees VarRef) (ids left : List ℕ)
    → StandAll core.exprs ids es → xs ≡ params → left ≡ ids → Pairing core form a a params es xs left
pairing_begins core form a params xs es ids left stand same is =
    record {
      others = es;
      stand = subst (λ u. StandAll core.exprs u es) (sym is) stand;
      goes = λ c h. subst (λ u. Finds core form a c [] [] (unvalued (numbers u) (told_operands core.lits es)) []) same h;
    }

told_hole : (core : Program VarRef) (d : Tree VarRef) (x : ℕ) (xs : List ℕ) (hs : Exprs) (t : Bool) → t ≡ is_hole core.lits d
    → unvalued (x ∷ xs) (item (told_operand core.lits d) hs) ≡ (if t then x ∷ unvalued xs hs else unvalued xs hs)
told_hole core d x xs hs t h =
    ap (λ u. unvalued (x ∷ xs) (item (if u then Hole else told core.lits d) hs)) (sym h) ∙ by t
  where
    by : (t : Bool)
        → unvalued (x ∷ xs) (item (if t then Hole else told core.lits d) hs) ≡ (if t then x ∷ unvalued xs hs else unvalued xs hs)
    by true = refl
    by false = value_stays (told core.lits d) (is_value core.lits d) x xs hs

pairing_next : (core : Program VarRef) (form : ℕ) (a b c : Survey) (params : List VarRef) (es : Trees VarRef) (x : VarRef)
    (left : List VarRef) (id : ℕ) (ids others : List ℕ) (t : Bool) → Pairing core form a b params es (x ∷ left) ids → ids ≡ id ∷ others
    → ((e : Tree VarRef) → Stands core.exprs id e → t ≡ is_hole core.lits e)
    → Finds core form b c [] [] (if t then number x ∷ [] else []) [] → Pairing core form a c params es left others
pairing_next core form a b c params es x left id ids others t g is test found = by g.others refl
  where
    both : (u : Bool) (xs : List ℕ) → (if u then number x ∷ [] else []) ++ xs ≡ (if u then number x ∷ xs else xs)
    both true xs = refl
    both false xs = refl

    by : (ts : Trees VarRef) → g.others ≡ ts → Pairing core form a c params es left others
    by tree.none e =
        let none_left : ids ≡ [] = subst (λ u. StandAll core.exprs ids u) e g.stand in
        absurd (cc (none_left, is))
    by (tree.item d ds) e =
        let st = subst (λ u. StandAll core.exprs ids u) e g.stand in
        let same : st.0 ∷ st.1 ≡ id ∷ others = sym st.2 ∙ is in
        let here : st.0 ≡ id = cc same in
        let rest_is : st.1 ≡ others = cc same in
        let hs = told_operands core.lits ds in
        let ys = unvalued (numbers left) hs in
        record {
          others = ds;
          stand = subst (λ u. StandAll core.exprs u ds) rest_is st.4;
          goes =
              λ s k.
              g.goes s
              (subst (λ u. Finds core form b s [] [] (unvalued (number x ∷ numbers left) (told_operands core.lits u)) []) (sym e)
              (subst (λ u. Finds core form b s [] [] u [])
              (both t ys ∙ sym (told_hole core d (number x) (numbers left) hs t (test d (subst (λ u. Stands core.exprs u d) here st.3))))
              (finds_then core form b c s [] [] [] [] (if t then number x ∷ [] else []) ys [] [] found k)));
        }

pub pairing_on : (core : Program VarRef) (form : ℕ) (a b c : Survey) (params all : List VarRef) (es : Trees VarRef) (x : VarRef)
    (left : List VarRef) (id : ℕ) (ids others : List ℕ) (t : Bool) → Pairing core form a b params es all ids → all ≡ x ∷ left
    → ids ≡ id ∷ others → ((e : Tree VarRef) → Stands core.exprs id e → t ≡ is_hole core.lits e)
    → Finds core form b c [] [] (if t then number x ∷ [] else []) [] → Pairing core form a c params es left others
pairing_on core form a b c params all es x left id ids others t g more is test found =
    pairing_next core form a b c params es x left id ids others t (subst (λ u. Pairing core form a b params es u ids) more g) is test found

-- no parameter or no operand is left
pub pairing_ends : (core : Program VarRef) (form : ℕ) (a b : Survey) (params left : List VarRef) (es : Trees VarRef) (ids : List ℕ)
    → Pairing core form a b params es left ids → left ≡ []
    → Finds core form a b [] [] (unvalued (numbers params) (told_operands core.lits es)) []
pairing_ends core form a b params left es ids g is =
    (subst (λ u. Pairing core form a b params es u ids) is g).goes b (finds_none core form b)

pub pairing_breaks : (core : Program VarRef) (form : ℕ) (a b : Survey) (params all : List VarRef) (es : Trees VarRef) (x : VarRef)
    (left : List VarRef) (ids : List ℕ) → Pairing core form a b params es all ids → all ≡ x ∷ left → ids ≡ []
    → Finds core form a b [] [] (unvalued (numbers params) (told_operands core.lits es)) []
pairing_breaks core form a b params all es x left ids h more is = by g.others refl
  where
    g : Pairing core form a b params es (x ∷ left) ids
    g = subst (λ u. Pairing core form a b params es u ids) more h

    by : (ts : Trees VarRef) → g.others ≡ ts → Finds core form a b [] [] (unvalued (numbers params) (told_operands core.lits es)) []
    by (tree.item d ds) e =
        let st = subst (λ u. StandAll core.exprs ids u) e g.stand in
        absurd (cc (st.2, is))
    by tree.none e =
        g.goes b
        (subst (λ u. Finds core form b b [] [] (unvalued (number x ∷ numbers left) (told_operands core.lits u)) []) (sym e)
        (finds_none core form b))

-- all that is found in a program, from nothing
pub found_all : (core : Program VarRef) (a b : Survey) (all : Exprs) → SeesForms core 0 a b all → a.procs.items ≡ [] → a.assigned.keys ≡ []
    → a.holes.keys ≡ [] → a.tops.keys ≡ [] → a.inside.entries ≡ [] → IsSurvey core b all
found_all core a b all h procs_none assigned_none holes_none tops_none inside_none = record {
  procs = subst (λ u. ArePlaced core u (placed_lambdas 0 all)) (sym (h.items ∙ ap (λ u. u ++ h.more) procs_none)) h.origins;
  assigned = λ x. h.assigned x ∙ ap (λ ks. list_any (nat_eq x) ks || has (all_assigned all) x) assigned_none;
  holes = λ x. h.holes x ∙ ap (λ ks. list_any (nat_eq x) ks || has (all_holes all) x) holes_none;
  tops = h.tops ∙ ap (λ ks. seen (map var_of ks) (all_tops all)) tops_none;
  inside = h.inside (λ l n at. absurd (nothing l n at));
}
  where
    nothing : (l n : ℕ) → get nat_eq a.inside l ≡ Some n → ⊥
    nothing l n at =
        let none_there : lookup (nat_eq l) a.inside.entries ≡ None = ap (λ es. lookup (nat_eq l) es) inside_none in
        cc (at, none_there)
