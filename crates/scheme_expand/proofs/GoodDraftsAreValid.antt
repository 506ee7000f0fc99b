-- A draft that is good is a valid core once it is numbered.
use Rattle.std.proofs.Common.{◌≡◌, ℕ, zero, suc, ◌+◌, ◌<◌, ◌≤◌, ◌^◌, List, [], ◌∷◌, ◌++◌, length, Some, None, true, false, ◌||◌, ◌⊎◌, inl, inr, refl, sym, ap, ap₂, subst, ◌∙◌, bytes_eq, arith, decimal, eq-eqb}
use Rattle.std.specs.Prelude.{nat_eq, if◌then◌else◌}
use Rattle.std.specs.List.{IsDistinct, AllByRecursion}
use Rattle.scheme_base.specs.declared.pos.Pos.{Pos}
use Rattle.scheme_base.specs.declared.lit.Lit.{Lit}
use Rattle.scheme_base.specs.Constants.{Constant, Constant as constant}
use Rattle.scheme_expand.proofs.OfData.{IsOfData, not_undefined}
use Rattle.core_form.specs.declared.program.Var.{Var}
use Rattle.core_form.specs.Trees.{Tree, Trees}
use Rattle.core_form.specs.Trees as tree
use Rattle.core_form.specs.Valid.{assigns, is_hole, is_undefined, IsFine, AllFine, FineOperands, NoneAssigned, HasItem, AreLambdas as AreLambdaTrees}
use Rattle.core_form.specs.Variables.{same_var}
use Rattle.draft_form.specs.Drafts.{Name, Draft, Drafts, Local, Fresh, Top, Library, Const, Symbols, Ref, Lambda, If, Set, Call, Prim, Seq, Fix, Define, none, item, parts, all_parts, changes}
use Rattle.scheme_expand.specs.Calls.{count}
use Rattle.draft_form.specs.Numbers.{Given, At, give_all, named, all_named, literals_in, bound_fresh, all_bound_fresh, after, after_all, after_names, numbered, all_numbered}
use Rattle.scheme_expand.specs.Rewriting.{found, variables, unnamed, inside}
use Rattle.scheme_expand.proofs.GoodDrafts.{AreSources, binds, AreLambdas, IsAssigned, IsHole, HolesFor, Holes, AreFixed, HasDraft, Good, AllGood}
use Rattle.draft_form.proofs.Laying.{Numbered, numbered_split}
use Rattle.scheme_expand.proofs.Assigning.{begins_decimal, assigned_same, one_assigned_same}
use Rattle.scheme_expand.proofs.Scoping.{changes_split, bytes_same, fixed_are, found_inside, found_unnamed, unassigned, all_unassigned, never, all_never}
use Rattle.scheme_expand.proofs.Distinct.{vars, words_named, bound_distinct}

-- Operands

fine_operands : (lits : List Lit) (xs : List Var) (body : Tree Var) (es : Trees Var) → AllFine lits same_var es
    → FineOperands lits same_var xs body es
fine_operands lits xs body tree.none h = tt
fine_operands lits [] body (tree.item e es) h = h
fine_operands lits (x ∷ xs) body (tree.item e es) h = (inl h.0, fine_operands lits xs body es h.1)

-- a call whose parts are fine
called : (lits : List Lit) (p : Pos) (f : Tree Var) (es : Trees Var) → IsFine lits same_var f → AllFine lits same_var es
    → IsFine lits same_var (tree.Call p f es)
called lits p (tree.Lambda q xs None body) es h k =
    (h.0, h.1, fine_operands lits (if nat_eq (length xs) (tree.count es) then xs else []) body es k)
called lits p (tree.Lambda q xs (Some r) body) es h k = (h, k)
called lits p (tree.Const q l) es h k = (h, k)
called lits p (tree.Ref q x) es h k = (h, k)
called lits p (tree.If q a b c) es h k = (h, k)
called lits p (tree.Set q x e) es h k = (h, k)
called lits p (tree.Call q e fs) es h k = (h, k)
called lits p (tree.Prim q o fs) es h k = (h, k)
called lits p (tree.Seq q fs) es h k = (h, k)
called lits p (tree.Fix q xs fs e) es h k = (h, k)
called lits p (tree.Define q x e) es h k = absurd h

count_same : (symbols : Constant) (g : Given) (es : Drafts) (at : At) → tree.count (all_numbered symbols g at es) ≡ count es
count_same symbols g none at = refl
count_same symbols g (item e es) at = ap suc (count_same symbols g es _)

has_tree : (symbols : Constant) (g : Given) (at : At) (es : Drafts) → HasDraft es → HasItem (all_numbered symbols g at es)
has_tree symbols g at none h = absurd h
has_tree symbols g at (item e es) h = tt

length_same : (g : Given) (xs : List Name) → length (all_named g xs) ≡ length xs
length_same g [] = refl
length_same g (x ∷ xs) = ap suc (length_same g xs)

-- Holes

holes_count : (xs : List Name) (e : Draft) (es : Drafts) → HolesFor xs e es → length xs ≡ count es
holes_count [] e none h = refl
holes_count [] e (item d ds) h = absurd h
holes_count (x ∷ xs) e none h = absurd h
holes_count (x ∷ xs) e (item d ds) h = ap suc (holes_count xs e ds h.2)

hole : (lits : List Lit) (symbols : Constant) (g : Given) (at : At) (d : Draft) (j : ℕ) → IsHole d
    → Numbered lits symbols at.literals (parts d) j → is_hole lits (numbered symbols g at d) ≡ true
hole lits symbols g at (Const p constant.Undefined) j h n = ap is_undefined n.1.0
hole lits symbols g at d j h n = absurd h

-- a hole is an operand for a parameter that the body assigns
hole_assigned : (symbols : Constant) (g h : Given) (next : At) (x : Name) (e : Draft) → IsAssigned x e
    → assigns same_var (named g x) (numbered symbols h next e) ≡ true
hole_assigned symbols g h next (Local k x) e a = assigned_same x symbols h next e a.0 ∙ a.1
hole_assigned symbols g h next (Fresh k) e a = absurd a
hole_assigned symbols g h next (Top x) e a = absurd a
hole_assigned symbols g h next (Library x) e a = absurd a

fine_holes : (lits : List Lit) (symbols : Constant) (f g h : Given) (next : At) (xs : List Name) (e : Draft) (es : Drafts)
    (at : At) (j : ℕ) → HolesFor xs e es → Numbered lits symbols at.literals (all_parts es) j
    → FineOperands lits same_var (all_named g xs) (numbered symbols h next e) (all_numbered symbols f at es)
fine_holes lits symbols f g h next [] e none at j a n = tt
fine_holes lits symbols f g h next [] e (item d ds) at j a n = absurd a
fine_holes lits symbols f g h next (x ∷ xs) e none at j a n = absurd a
fine_holes lits symbols f g h next (x ∷ xs) e (item d ds) at j a n =
    let both = numbered_split lits symbols at.literals (parts d) (all_parts ds) j n in (
      inr (hole lits symbols f at d _ a.1 both.0, hole_assigned symbols g h next x e a.0),
      fine_holes lits symbols f g h next xs e ds (after symbols at d) j a.2 both.1,
    )

-- Variables of a `Fix`

lambda_trees : (symbols : Constant) (g : Given) (es : Drafts) (at : At) → AreLambdas es → AreLambdaTrees (all_numbered symbols g at es)
lambda_trees symbols g none at h = tt
lambda_trees symbols g (item (Lambda p xs r e) es) at h = (tt, lambda_trees symbols g es _ h.1)
lambda_trees symbols g (item e es) at h = absurd h.0

pub differs_binds : (x : List ℕ) (k : ℕ) (ns : List (List ℕ)) → AllByRecursion (λ y. bytes_eq x y ≡ false) ns
    → binds x (variables k ns) ≡ false
differs_binds x k [] h = refl
differs_binds x k ([] ∷ ns) h = differs_binds x (suc k) ns h.1
differs_binds x k ((b ∷ y) ∷ ns) h = ap₂ (λ a c. a || c) h.0 (differs_binds x (suc k) ns h.1)

-- no part changes the variables of these names, which are bound one after another
words_unassigned : (level n : ℕ) (symbols : Constant) (g h : Given) (es : Drafts) (e : Draft) (at next : At) (m : ℕ)
    (ns bound : List (List ℕ)) → level ≤ length bound → length bound + length ns ≤ level + n → AreSources ns
    → IsDistinct bytes_eq ns → AllGood (inside bound ns) es → Good (inside (inside bound ns) (unnamed m)) e
    → changes level n (all_parts es) ≡ false → changes level n (parts e) ≡ false
    → NoneAssigned same_var (vars ns) (all_numbered symbols g at es) (numbered symbols h next e)
unfolding IsDistinct
words_unassigned level n symbols g h es e at next m [] bound low high s d a b ca cb = tt
words_unassigned level n symbols g h es e at next m (x ∷ ns) bound low high s d a b ca cb =
    let here : found (inside (x ∷ bound) ns) x ≡ Some (length bound) =
    found_inside x (suc (length bound)) ns (x ∷ bound) s.0 (differs_binds x (suc (length bound)) ns d.0)
    ∙ ap (λ c. if c then Some (length bound) else found bound x) (bytes_same x) in
    let below : length bound < level + n = omega arith in (
      one_assigned_same x symbols g at es s.0
          ∙ all_unassigned level n x (length bound) (inside (x ∷ bound) ns) es s.0 low below a here ca,
      assigned_same x symbols h next e s.0
          ∙ unassigned level n x (length bound) (inside (inside (x ∷ bound) ns) (unnamed m)) e s.0 low below b
          (found_unnamed x m (inside (x ∷ bound) ns) s.0 ∙ here) cb,
      words_unassigned level n symbols g h es e at next m ns (x ∷ bound) (omega arith) (omega arith) s.1 d.1 a b ca cb,
    )

fresh_unassigned : (symbols : Constant) (f g h : Given) (es : Drafts) (e : Draft) (at next : At) (k m : ℕ)
    (around within : List (List ℕ)) → AllGood around es → Good within e
    → NoneAssigned same_var (all_named f (variables k (unnamed m))) (all_numbered symbols g at es) (numbered symbols h next e)
fresh_unassigned symbols f g h es e at next k zero around within a b = tt
fresh_unassigned symbols f g h es e at next k (suc m) around within a b = (
  all_never (decimal (f k)) (begins_decimal (f k)) symbols g at around es a,
  never (decimal (f k)) (begins_decimal (f k)) symbols h next within e b,
  fresh_unassigned symbols f g h es e at next (suc k) m around within a b,
)

none_assigned : (symbols : Constant) (f g h : Given) (es : Drafts) (e : Draft) (at next : At) (xs : List Name)
    (ns bound : List (List ℕ)) → AreFixed (length bound) xs ns (all_parts es ++ parts e) → AllGood (inside bound ns) es
    → Good (inside (inside bound ns) (unnamed (length ns))) e
    → NoneAssigned same_var (all_named f xs) (all_numbered symbols g at es) (numbered symbols h next e)
none_assigned symbols f g h es e at next xs ns bound (inl (words, c)) a b =
    let both = changes_split (length bound) (length ns) (all_parts es) (parts e) c in
    subst (λ vs. NoneAssigned same_var vs (all_numbered symbols g at es) (numbered symbols h next e))
    (sym (ap (all_named f) words.are ∙ words_named f (length bound) ns words.sources))
    (words_unassigned (length bound) (length ns) symbols g h es e at next (length ns) ns bound (omega arith) (omega arith)
    words.sources words.distinct a b both.0 both.1)
none_assigned symbols f g h es e at next xs ns bound (inr fresh) a b =
    subst (λ ys. NoneAssigned same_var (all_named f ys) (all_numbered symbols g at es) (numbered symbols h next e))
    (sym (fresh.are ∙ ap (variables (length bound)) fresh.fresh))
    (fresh_unassigned symbols f g h es e at next (length bound) (length ns) (inside bound ns)
    (inside (inside bound ns) (unnamed (length ns))) a b)

-- Drafts

fine_call : (lits : List Lit) (symbols : Constant) (g : Given) (at : At) (bound : List (List ℕ)) (p : Pos) (e : Draft) (es : Drafts)
    (j : ℕ) → Numbered lits symbols (after symbols at e).literals (all_parts es) j
    → IsFine lits same_var (numbered symbols g at e)
    → (AllGood bound es → AllFine lits same_var (all_numbered symbols g (after symbols at e) es))
    → AllGood bound es ⊎ Holes e es → IsFine lits same_var (numbered symbols g at (Call p e es))
fine_call lits symbols g at bound p e es j n f all (inl a) = called lits p _ _ f (all a)
fine_call lits symbols g at bound p (Lambda q xs None e) es j n f all (inr a) =
    let h : Given = give_all g at.fresh xs in
    let same : nat_eq (length (all_named h xs)) (tree.count (all_numbered symbols g (after symbols at (Lambda q xs None e)) es)) ≡ true =
    eq-eqb _ _ (length_same h xs ∙ (holes_count xs e es a ∙ sym (count_same symbols g es _))) in (
      f.0,
      f.1,
      subst
          (λ c. FineOperands lits same_var (if c then all_named h xs else []) (numbered symbols h (after_names at xs) e)
          (all_numbered symbols g (after symbols at (Lambda q xs None e)) es))
          (sym same)
          (fine_holes lits symbols g h h (after_names at xs) xs e es _ j a n),
    )
fine_call lits symbols g at bound p e es j n f all (inr a) = absurd a

mutual
  pub fine : (lits : List Lit) (symbols : Constant) (g : Given) (at : At) (bound : List (List ℕ)) (e : Draft) (j : ℕ)
      → IsOfData symbols → Good bound e → Numbered lits symbols at.literals (parts e) j → at.fresh + bound_fresh e < 2 ^ 64
      → IsFine lits same_var (numbered symbols g at e)
  fine lits symbols g at bound (Const p c) j s h n m = not_undefined lits at.literals c _ h n.1
  fine lits symbols g at bound (Symbols p) j s h n m = not_undefined lits at.literals symbols _ s n.1
  fine lits symbols g at bound (Ref p x) j s h n m = tt
  fine lits symbols g at bound (Lambda p xs r e) j s h n m = (
    bound_distinct g at.fresh (length bound) xs r h.0 h.1 (omega arith),
    fine lits symbols _ (after_names at xs) (inside bound h.0) e j s h.2 n (omega arith),
  )
  fine lits symbols g at bound (If p test this that) j s h n m =
      let first = numbered_split lits symbols at.literals (parts test) (parts this ++ parts that) j n in
      let second = numbered_split lits symbols (at.literals + literals_in symbols (parts test)) (parts this) (parts that) j first.1 in
      let next : At = after symbols at test in (
        fine lits symbols g at bound test _ s h.0 first.0 (omega arith),
        fine lits symbols g next bound this _ s h.1 second.0 (omega arith),
        fine lits symbols g (after symbols next this) bound that j s h.2 second.1 (omega arith),
      )
  fine lits symbols g at bound (Set p x e) j s h n m = fine lits symbols g at bound e j s h.1 n m
  fine lits symbols g at bound (Call p e es) j s h n m =
      let both = numbered_split lits symbols at.literals (parts e) (all_parts es) j n in
      fine_call lits symbols g at bound p e es j both.1 (fine lits symbols g at bound e _ s h.0 both.0 (omega arith))
      (λ a. all_fine lits symbols g (after symbols at e) bound es j s a both.1 (omega arith)) h.1
  fine lits symbols g at bound (Prim p o es) j s h n m =
      (count_same symbols g es at ∙ h.0, all_fine lits symbols g at bound es j s h.1 n m)
  fine lits symbols g at bound (Seq p es) j s h n m =
      (has_tree symbols g at es h.0, all_fine lits symbols g at bound es j s h.1 n m)
  fine lits symbols g at bound (Fix p xs es e) j s h n m =
      let both = numbered_split lits symbols at.literals (all_parts es) (parts e) j n in
      let next : At = after_names at xs in
      let f : Given = give_all g at.fresh xs in (
        bound_distinct g at.fresh (length bound) xs None h.0 (fixed_are xs (length bound) h.0 (all_parts es ++ parts e) h.1) (omega arith),
        count_same symbols f es next ∙ (h.2 ∙ sym (length_same f xs)),
        lambda_trees symbols f es next h.3,
        none_assigned symbols f f f es e next (after_all symbols next es) xs h.0 bound h.1 h.4 h.5,
        all_fine lits symbols f next (inside bound h.0) es _ s h.4 both.0 (omega arith),
        fine lits symbols f (after_all symbols next es) (inside (inside bound h.0) (unnamed (length h.0))) e j s h.5 both.1 (omega arith),
      )
  fine lits symbols g at bound (Define p x e) j s h n m = absurd h

  pub all_fine : (lits : List Lit) (symbols : Constant) (g : Given) (at : At) (bound : List (List ℕ)) (es : Drafts) (j : ℕ)
      → IsOfData symbols → AllGood bound es → Numbered lits symbols at.literals (all_parts es) j
      → at.fresh + all_bound_fresh es < 2 ^ 64 → AllFine lits same_var (all_numbered symbols g at es)
  all_fine lits symbols g at bound none j s h n m = tt
  all_fine lits symbols g at bound (item e es) j s h n m =
      let both = numbered_split lits symbols at.literals (parts e) (all_parts es) j n in (
        fine lits symbols g at bound e _ s h.0 both.0 (omega arith),
        all_fine lits symbols g (after symbols at e) bound es j s h.1 both.1 (omega arith),
      )
