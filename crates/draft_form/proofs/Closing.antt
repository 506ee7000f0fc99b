-- An expression that is added when its parts are done stands for the tree.
use Rattle.std.proofs.Common.{◌≡◌, ℕ, List, [], ◌∷◌, ◌++◌, length, reverse, Some, refl, sym, ap, subst, ◌∙◌, arith, append_assoc, append-nil}
use Rattle.std.proofs.lemmas.List.{reverse-reverse}
use Rattle.scheme_base.specs.declared.pos.Pos.{Pos}
use Rattle.scheme_base.proofs.Lists.{same_head, same_tail}
use Rattle.core_form.specs.declared.program.Node.{Node}
use Rattle.core_form.specs.declared.program.Var.{Var}
use Rattle.core_form.specs.declared.program.What.{What}
use Rattle.core_form.specs.declared.program.What.TheVariants as form
use Rattle.core_form.specs.Trees.{Tree, Trees, IsNode, Stands, StandAll, count}
use Rattle.core_form.specs.Trees as tree
use Rattle.draft_form.specs.declared.draft.Variable.{Variable}
use Rattle.draft_form.specs.Numbering.{done_then, parts_then, AreDone, HasHead, IsClosed}
use Rattle.draft_form.proofs.Building.{stays, all_stay}
use Rattle.draft_form.proofs.Ends.{got_last}
use Rattle.draft_form.proofs.Reversed.{reversed_last}

pub last_same : (xs ys : List ℕ) (x y : ℕ) → xs ++ x ∷ [] ≡ ys ++ y ∷ [] → (xs ≡ ys) × (x ≡ y)
last_same xs ys x y e =
    let r : x ∷ reverse xs ≡ y ∷ reverse ys = sym (reversed_last xs x) ∙ (ap reverse e ∙ reversed_last ys y) in
    (sym (reverse-reverse xs) ∙ (ap reverse (same_tail x y (reverse xs) (reverse ys) r) ∙ reverse-reverse ys), same_head x y (reverse xs) (reverse ys) r)

pub one_done : (exprs : List (Node Var)) (ids others : List ℕ) (id : ℕ) (d : Tree Var) (ds : List (Tree Var)) → AreDone exprs ids (d ∷ ds)
    → ids ≡ others ++ id ∷ [] → Stands exprs id d × AreDone exprs others ds
one_done exprs ids others id d ds h e =
    let same = last_same h.0 others h.1 id (sym h.2 ∙ e) in
    let P : ℕ → Type 0 = λ i. Stands exprs i d in
    let Q : List ℕ → Type 0 = λ is. AreDone exprs is ds in
    (subst P same.1 h.3, subst Q same.0 h.4)

all_done : (exprs : List (Node Var)) (es : Trees Var) (ids others whole : List ℕ) (ds : List (Tree Var)) → AreDone exprs whole (done_then es ds)
    → whole ≡ others ++ ids → length ids ≡ count es → StandAll exprs ids es × AreDone exprs others ds
all_done exprs tree.none [] others whole ds h e n =
    let Q : List ℕ → Type 0 = λ is. AreDone exprs is ds in (refl, subst Q (e ∙ append-nil others) h)
all_done exprs tree.none (id ∷ ids) others whole ds h e n = absurd (omega (arith, n))
all_done exprs (tree.item d es) [] others whole ds h e n = absurd (omega (arith, n))
all_done exprs (tree.item d es) (id ∷ ids) others whole ds h e n =
    let r = all_done exprs es ids (others ++ id ∷ []) whole (d ∷ ds) h (e ∙ sym (append_assoc others (id ∷ []) ids)) (omega (arith, n)) in
    let q = one_done exprs (others ++ id ∷ []) others id d ds r.1 refl in
    ((id, ids, refl, q.0, r.0), q.1)

-- the expression that is added
abbrev pub with_one : List (Node Var) → What Var → Pos → List (Node Var)
with_one exprs what p = exprs ++ record { what = what; pos = p } ∷ []

pub is_added : (exprs : List (Node Var)) (what other : What Var) (p : Pos) → what ≡ other → IsNode (with_one exprs what p) (length exprs) other p
is_added exprs what other p e =
    got_last exprs (record { what = what; pos = p }) [] ∙ ap (λ x. Some (record { what = x; pos = p })) e

abbrev pub Closed : List (Node Var) → What Var → Pos → (others : List ℕ) → Tree Var → List (Tree Var) → Type 0
Closed exprs what p others t below = Stands (with_one exprs what p) (length exprs) t × AreDone exprs others below

pub closed : (f : Variable → Var) (exprs : List (Node Var)) (w : What Variable) (p : Pos) (t : Tree Var) (below : List (Tree Var)) (ids others whole : List ℕ) (what : What Var)
    → HasHead f w p t → IsClosed f w ids what → whole ≡ others ++ ids → AreDone exprs whole (parts_then t below)
    → Closed exprs what p others t below
closed f exprs (form.Const l) p t below ids others whole what h k e done = absurd h
closed f exprs (form.Ref v) p t below ids others whole what h k e done = absurd h
closed f exprs (form.Lambda vs r b) p t below ids others whole what h k e done =
    let R : Tree Var → Type 0 = λ x. AreDone exprs whole (parts_then x below) in
    let S : Tree Var → Type 0 = λ x. Closed exprs what p others x below in
    let q = one_done exprs whole others k.0 h.0 below (subst R h.1 done) (e ∙ ap (λ is. others ++ is) k.1) in
    subst S (sym h.1) ((k.0, is_added exprs what _ p k.2, stays exprs _ k.0 h.0 q.0), q.1)
closed f exprs (form.If a b c) p t below ids others whole what h k e done =
    let R : Tree Var → Type 0 = λ x. AreDone exprs whole (parts_then x below) in
    let S : Tree Var → Type 0 = λ x. Closed exprs what p others x below in
    let ends : whole ≡ (others ++ k.0 ∷ k.1 ∷ []) ++ k.2 ∷ [] =
    e ∙ (ap (λ is. others ++ is) k.3 ∙ sym (append_assoc others (k.0 ∷ k.1 ∷ []) (k.2 ∷ []))) in
    let third = one_done exprs whole (others ++ k.0 ∷ k.1 ∷ []) k.2 h.2 (h.1 ∷ h.0 ∷ below) (subst R h.3 done) ends in
    let second = one_done exprs (others ++ k.0 ∷ k.1 ∷ []) (others ++ k.0 ∷ []) k.1 h.1 (h.0 ∷ below) third.1
    (sym (append_assoc others (k.0 ∷ []) (k.1 ∷ []))) in
    let first = one_done exprs (others ++ k.0 ∷ []) others k.0 h.0 below second.1 refl in
    subst S (sym h.3) (
      (
        k.0,
        k.1,
        k.2,
        is_added exprs what _ p k.4,
        stays exprs _ k.0 h.0 first.0,
        stays exprs _ k.1 h.1 second.0,
        stays exprs _ k.2 h.2 third.0,
      ),
      first.1,
    )
closed f exprs (form.Set v b) p t below ids others whole what h k e done =
    let R : Tree Var → Type 0 = λ x. AreDone exprs whole (parts_then x below) in
    let S : Tree Var → Type 0 = λ x. Closed exprs what p others x below in
    let q = one_done exprs whole others k.0 h.0 below (subst R h.1 done) (e ∙ ap (λ is. others ++ is) k.1) in
    subst S (sym h.1) ((k.0, is_added exprs what _ p k.2, stays exprs _ k.0 h.0 q.0), q.1)
closed f exprs (form.Call b bs) p t below ids others whole what h k e done =
    let R : Tree Var → Type 0 = λ x. AreDone exprs whole (parts_then x below) in
    let S : Tree Var → Type 0 = λ x. Closed exprs what p others x below in
    let ends : whole ≡ (others ++ k.0 ∷ []) ++ k.1 = e ∙ (ap (λ is. others ++ is) k.2 ∙ sym (append_assoc others (k.0 ∷ []) k.1)) in
    let q = all_done exprs h.1 k.1 (others ++ k.0 ∷ []) whole (h.0 ∷ below) (subst R h.3 done) ends (k.3 ∙ h.2) in
    let r = one_done exprs (others ++ k.0 ∷ []) others k.0 h.0 below q.1 refl in
    subst S (sym h.3)
    ((k.0, k.1, is_added exprs what _ p k.4, stays exprs _ k.0 h.0 r.0, all_stay exprs _ k.1 h.1 q.0), r.1)
closed f exprs (form.Prim o bs) p t below ids others whole what h k e done =
    let R : Tree Var → Type 0 = λ x. AreDone exprs whole (parts_then x below) in
    let S : Tree Var → Type 0 = λ x. Closed exprs what p others x below in
    let q = all_done exprs h.0 ids others whole below (subst R h.2 done) e (k.0 ∙ h.1) in
    subst S (sym h.2) ((ids, is_added exprs what _ p k.1, all_stay exprs _ ids h.0 q.0), q.1)
closed f exprs (form.Seq bs) p t below ids others whole what h k e done =
    let R : Tree Var → Type 0 = λ x. AreDone exprs whole (parts_then x below) in
    let S : Tree Var → Type 0 = λ x. Closed exprs what p others x below in
    let q = all_done exprs h.0 ids others whole below (subst R h.2 done) e (k.0 ∙ h.1) in
    subst S (sym h.2) ((ids, is_added exprs what _ p k.1, all_stay exprs _ ids h.0 q.0), q.1)
closed f exprs (form.Fix vs bs b) p t below ids others whole what h k e done =
    let R : Tree Var → Type 0 = λ x. AreDone exprs whole (parts_then x below) in
    let S : Tree Var → Type 0 = λ x. Closed exprs what p others x below in
    let ends : whole ≡ (others ++ k.0) ++ k.1 ∷ [] = e ∙ (ap (λ is. others ++ is) k.2 ∙ sym (append_assoc others k.0 (k.1 ∷ []))) in
    let r = one_done exprs whole (others ++ k.0) k.1 h.1 (done_then h.0 below) (subst R h.3 done) ends in
    let q = all_done exprs h.0 k.0 others (others ++ k.0) below r.1 refl (k.3 ∙ h.2) in
    subst S (sym h.3)
    ((k.0, k.1, is_added exprs what _ p k.4, all_stay exprs _ k.0 h.0 q.0, stays exprs _ k.1 h.1 r.0), q.1)
closed f exprs (form.Define v b) p t below ids others whole what h k e done =
    let R : Tree Var → Type 0 = λ x. AreDone exprs whole (parts_then x below) in
    let S : Tree Var → Type 0 = λ x. Closed exprs what p others x below in
    let q = one_done exprs whole others k.0 h.0 below (subst R h.1 done) (e ∙ ap (λ is. others ++ is) k.1) in
    subst S (sym h.1) ((k.0, is_added exprs what _ p k.2, stays exprs _ k.0 h.0 q.0), q.1)
