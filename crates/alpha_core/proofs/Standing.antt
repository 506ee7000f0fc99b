-- What stands among some nodes stands among more.
use Rattle.std.proofs.Common.{◌≡◌, ℕ, List, [], ◌∷◌, ◌++◌, length, Some, ap, ◌∙◌, arith}
use Rattle.std.specs.Prelude.{slice_get}
use Rattle.std.proofs.lemmas.List.{length-append, get_or_append_left}
use Rattle.std.proofs.lemmas.Option.{slice_get_within, slice_get-get_or, get_or_from_slice_get}
use Rattle.std.proofs.Math.Seq.{get_or-append_seam}
use Rattle.core_form.specs.declared.program.Node.{Node}
use Rattle.core_form.specs.Trees.{Tree, Const, Ref, Lambda, If, Set, Call, Prim, Seq, Fix, Define, Trees, none, item, Stands, StandAll}

get_more : {A : Type 0} (xs ys : List A) (i : ℕ) (x : A) → slice_get xs i ≡ Some x → slice_get (xs ++ ys) i ≡ Some x
get_more xs ys i x h =
    let within = slice_get_within xs i x h in
    slice_get-get_or (xs ++ ys) i x (omega (arith, within, length-append xs ys))
    ∙ ap Some (get_or_append_left xs ys x i within ∙ get_or_from_slice_get xs i x x h)

pub get_last : {A : Type 0} (xs : List A) (x : A) → slice_get (xs ++ x ∷ []) (length xs) ≡ Some x
get_last xs x =
    slice_get-get_or (xs ++ x ∷ []) (length xs) x (omega (arith, length-append xs (x ∷ [])))
    ∙ ap Some (get_or-append_seam xs x [] x)

mutual
  pub stands_more : {V : Type 0} (xs ys : List (Node V)) (i : ℕ) (e : Tree V) → Stands xs i e → Stands (xs ++ ys) i e
  stands_more xs ys i (Const p l) s = get_more xs ys i _ s
  stands_more xs ys i (Ref p x) s = get_more xs ys i _ s
  stands_more xs ys i (Lambda p vs r b) s = (s.0, get_more xs ys i _ s.1, stands_more xs ys s.0 b s.2)
  stands_more xs ys i (If p a b c) s =
      (s.0, s.1, s.2, get_more xs ys i _ s.3, stands_more xs ys s.0 a s.4, stands_more xs ys s.1 b s.5, stands_more xs ys s.2 c s.6)
  stands_more xs ys i (Set p x b) s = (s.0, get_more xs ys i _ s.1, stands_more xs ys s.0 b s.2)
  stands_more xs ys i (Call p f es) s =
      (s.0, s.1, get_more xs ys i _ s.2, stands_more xs ys s.0 f s.3, stand_more xs ys s.1 es s.4)
  stands_more xs ys i (Prim p o es) s = (s.0, get_more xs ys i _ s.1, stand_more xs ys s.0 es s.2)
  stands_more xs ys i (Seq p es) s = (s.0, get_more xs ys i _ s.1, stand_more xs ys s.0 es s.2)
  stands_more xs ys i (Fix p vs ls b) s =
      (s.0, s.1, get_more xs ys i _ s.2, stand_more xs ys s.0 ls s.3, stands_more xs ys s.1 b s.4)
  stands_more xs ys i (Define p x b) s = (s.0, get_more xs ys i _ s.1, stands_more xs ys s.0 b s.2)

  pub stand_more : {V : Type 0} (xs ys : List (Node V)) (ids : List ℕ) (es : Trees V) → StandAll xs ids es → StandAll (xs ++ ys) ids es
  stand_more xs ys ids none s = s
  stand_more xs ys ids (item e es) s = (s.0, s.1, s.2, stands_more xs ys s.0 e s.3, stand_more xs ys s.1 es s.4)
