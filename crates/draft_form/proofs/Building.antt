-- Each list of forms is held by some program.
use Rattle.std.proofs.Common.{◌≡◌, ℕ, zero, suc, List, [], ◌∷◌, ◌++◌, length, Some, None, refl, sym, ap, subst, ◌∙◌, append_assoc, append-nil}
use Rattle.std.specs.Prelude.{slice_get}
use Rattle.scheme_base.specs.declared.pos.Pos.{Pos}
use Rattle.scheme_base.specs.declared.lit.Lit.{Lit}
use Rattle.core_form.specs.declared.program.Node.{Node}
use Rattle.core_form.specs.declared.program.Program.{Program}
use Rattle.core_form.specs.declared.program.What.{What}
use Rattle.core_form.specs.declared.program.What.TheVariants as form
use Rattle.core_form.specs.Trees.{Tree, Const, Ref, Lambda, If, Set, Call, Prim, Seq, Fix, Define, Trees, none, item, IsNode, Stands, StandAll, Holds}

-- Nodes stay when others are added

pub get_append : {A : Type 0} (xs ys : List A) (i : ℕ) (x : A) → slice_get xs i ≡ Some x → slice_get (xs ++ ys) i ≡ Some x
get_append [] ys i x h = absurd (none_some x h)
  where
    none_some : {A : Type 0} (x : A) → None ≡ Some x → ⊥
    none_some x h = cc
get_append (y ∷ xs) ys zero x h = h
get_append (y ∷ xs) ys (suc i) x h = get_append xs ys i x h

mutual
  pub stays : {V : Type 0} (nodes more : List (Node V)) (id : ℕ) (e : Tree V) → Stands nodes id e → Stands (nodes ++ more) id e
  stays nodes more id (Const p l) h = get_append nodes more id _ h
  stays nodes more id (Ref p x) h = get_append nodes more id _ h
  stays nodes more id (Lambda p xs r e) h = (h.0, get_append nodes more id _ h.1, stays nodes more h.0 e h.2)
  stays nodes more id (If p a b c) h =
      (h.0, h.1, h.2, get_append nodes more id _ h.3, stays nodes more h.0 a h.4, stays nodes more h.1 b h.5, stays nodes more h.2 c h.6)
  stays nodes more id (Set p x e) h = (h.0, get_append nodes more id _ h.1, stays nodes more h.0 e h.2)
  stays nodes more id (Call p f es) h =
      (h.0, h.1, get_append nodes more id _ h.2, stays nodes more h.0 f h.3, all_stay nodes more h.1 es h.4)
  stays nodes more id (Prim p o es) h = (h.0, get_append nodes more id _ h.1, all_stay nodes more h.0 es h.2)
  stays nodes more id (Seq p es) h = (h.0, get_append nodes more id _ h.1, all_stay nodes more h.0 es h.2)
  stays nodes more id (Fix p xs es e) h =
      (h.0, h.1, get_append nodes more id _ h.2, all_stay nodes more h.0 es h.3, stays nodes more h.1 e h.4)
  stays nodes more id (Define p x e) h = (h.0, get_append nodes more id _ h.1, stays nodes more h.0 e h.2)

  pub all_stay : {V : Type 0} (nodes more : List (Node V)) (ids : List ℕ) (es : Trees V) → StandAll nodes ids es
      → StandAll (nodes ++ more) ids es
  all_stay nodes more ids none h = h
  all_stay nodes more ids (item e es) h = (h.0, h.1, h.2, stays nodes more h.0 e h.3, all_stay nodes more h.1 es h.4)

-- Nodes for a tree, after some others

record Grows {V : Type 0} (nodes after : List (Node V)) : Type 0 where
  more : List (Node V)
  is : after ≡ nodes ++ more

record Built {V : Type 0} (nodes : List (Node V)) (e : Tree V) : Type 0 where
  after : List (Node V)
  grows : Grows nodes after
  id : ℕ
  stands : Stands after id e

record BuiltAll {V : Type 0} (nodes : List (Node V)) (es : Trees V) : Type 0 where
  after : List (Node V)
  grows : Grows nodes after
  ids : List ℕ
  stand : StandAll after ids es

same : {V : Type 0} (nodes : List (Node V)) → Grows nodes nodes
same nodes = record { more = []; is = sym (append-nil nodes) }

then : {V : Type 0} (a b c : List (Node V)) → Grows a b → Grows b c → Grows a c
then a b c g h = record { more = g.more ++ h.more; is = h.is ∙ (ap (λ l. l ++ h.more) g.is ∙ append_assoc a g.more h.more) }

kept : {V : Type 0} (a b : List (Node V)) (id : ℕ) (e : Tree V) → Grows a b → Stands a id e → Stands b id e
kept a b id e g h = let P : List (Node _) → Type 0 = λ l. Stands l id e in subst P (sym g.is) (stays a g.more id e h)

all_kept : {V : Type 0} (a b : List (Node V)) (ids : List ℕ) (es : Trees V) → Grows a b → StandAll a ids es → StandAll b ids es
all_kept a b ids es g h = let P : List (Node _) → Type 0 = λ l. StandAll l ids es in subst P (sym g.is) (all_stay a g.more ids es h)

-- the nodes with one more
abbrev with_node : {V : Type 0} → List (Node V) → What V → Pos → List (Node V)
with_node nodes what p = nodes ++ record { what = what; pos = p } ∷ []

one_more : {V : Type 0} (nodes : List (Node V)) (what : What V) (p : Pos) → Grows nodes (with_node nodes what p)
one_more nodes what p = record { more = record { what = what; pos = p } ∷ []; is = refl }

is_last : {V : Type 0} (nodes : List (Node V)) (what : What V) (p : Pos) → IsNode (with_node nodes what p) (length nodes) what p
is_last [] what p = refl
is_last (n ∷ nodes) what p = is_last nodes what p

mutual
  build : {V : Type 0} (e : Tree V) (nodes : List (Node V)) → Built nodes e
  build (Const p l) nodes =
      record { after = with_node nodes (form.Const l) p; grows = one_more nodes (form.Const l) p; id = length nodes; stands = is_last nodes (form.Const l) p }
  build (Ref p x) nodes =
      record { after = with_node nodes (form.Ref x) p; grows = one_more nodes (form.Ref x) p; id = length nodes; stands = is_last nodes (form.Ref x) p }
  build (Lambda p xs r e) nodes =
      let b = build e nodes in
      let what = form.Lambda xs r b.id in
      record {
        after = with_node b.after what p;
        grows = then nodes b.after _ b.grows (one_more b.after what p);
        id = length b.after;
        stands = (b.id, is_last b.after what p, kept b.after _ b.id e (one_more b.after what p) b.stands);
      }
  build (If p test this that) nodes =
      let a = build test nodes in
      let b = build this a.after in
      let c = build that b.after in
      let what = form.If a.id b.id c.id in
      let last = one_more c.after what p in
      let second = then b.after c.after _ c.grows last in
      let first = then a.after b.after _ b.grows second in
      record {
        after = with_node c.after what p;
        grows = then nodes a.after _ a.grows first;
        id = length c.after;
        stands = (
          a.id,
          b.id,
          c.id,
          is_last c.after what p,
          kept a.after _ a.id test first a.stands,
          kept b.after _ b.id this second b.stands,
          kept c.after _ c.id that last c.stands,
        );
      }
  build (Set p x e) nodes =
      let b = build e nodes in
      let what = form.Set x b.id in
      record {
        after = with_node b.after what p;
        grows = then nodes b.after _ b.grows (one_more b.after what p);
        id = length b.after;
        stands = (b.id, is_last b.after what p, kept b.after _ b.id e (one_more b.after what p) b.stands);
      }
  build (Call p f es) nodes =
      let a = build f nodes in
      let b = build_all es a.after in
      let what = form.Call a.id b.ids in
      let last = one_more b.after what p in
      let first = then a.after b.after _ b.grows last in
      record {
        after = with_node b.after what p;
        grows = then nodes a.after _ a.grows first;
        id = length b.after;
        stands = (a.id, b.ids, is_last b.after what p, kept a.after _ a.id f first a.stands, all_kept b.after _ b.ids es last b.stand);
      }
  build (Prim p o es) nodes =
      let b = build_all es nodes in
      let what = form.Prim o b.ids in
      record {
        after = with_node b.after what p;
        grows = then nodes b.after _ b.grows (one_more b.after what p);
        id = length b.after;
        stands = (b.ids, is_last b.after what p, all_kept b.after _ b.ids es (one_more b.after what p) b.stand);
      }
  build (Seq p es) nodes =
      let b = build_all es nodes in
      let what = form.Seq b.ids in
      record {
        after = with_node b.after what p;
        grows = then nodes b.after _ b.grows (one_more b.after what p);
        id = length b.after;
        stands = (b.ids, is_last b.after what p, all_kept b.after _ b.ids es (one_more b.after what p) b.stand);
      }
  build (Fix p xs es e) nodes =
      let a = build_all es nodes in
      let b = build e a.after in
      let what = form.Fix xs a.ids b.id in
      let last = one_more b.after what p in
      let first = then a.after b.after _ b.grows last in
      record {
        after = with_node b.after what p;
        grows = then nodes a.after _ a.grows first;
        id = length b.after;
        stands = (a.ids, b.id, is_last b.after what p, all_kept a.after _ a.ids es first a.stand, kept b.after _ b.id e last b.stands);
      }
  build (Define p x e) nodes =
      let b = build e nodes in
      let what = form.Define x b.id in
      record {
        after = with_node b.after what p;
        grows = then nodes b.after _ b.grows (one_more b.after what p);
        id = length b.after;
        stands = (b.id, is_last b.after what p, kept b.after _ b.id e (one_more b.after what p) b.stands);
      }

  build_all : {V : Type 0} (es : Trees V) (nodes : List (Node V)) → BuiltAll nodes es
  build_all none nodes = record { after = nodes; grows = same nodes; ids = []; stand = refl }
  build_all (item e es) nodes =
      let a = build e nodes in
      let b = build_all es a.after in
      record {
        after = b.after;
        grows = then nodes a.after b.after a.grows b.grows;
        ids = a.id ∷ b.ids;
        stand = (a.id, b.ids, refl, kept a.after b.after a.id e b.grows a.stands, b.stand);
      }

-- a program with these forms and literals
pub record Program_of {V : Type 0} (es : Trees V) (lits : List Lit) : Type 0 where
  pub program : Program V
  pub holds : Holds program es
  pub literals : program.lits ≡ lits

pub program_of : {V : Type 0} (es : Trees V) (lits : List Lit) → Program_of es lits
program_of es lits =
    let b = build_all es [] in
    record { program = record { exprs = b.after; forms = b.ids; lits = lits }; holds = b.stand; literals = refl }
