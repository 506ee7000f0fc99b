-- A renamed core is fine where the core is: what its variables are assigned, and what they are bound to, is kept.
--
-- `Points`, `Misses`: which variable a number stands for in a scope, if any. `not_assigned`, `assigned_as`: what an
-- expression assigns by numbers is what it assigns by names. `forms_fine`: the forms.
use Rattle.std.proofs.Common.{◌≡◌, ℕ, suc, ◌+◌, ◌<◌, ◌≤◌, Bool, true, false, not, ◌&&◌, ◌||◌, List, [], ◌∷◌, ◌++◌, length, Option, Some, None, inl, inr, ◌⊎◌, refl, sym, ap, ap₂, subst, ◌∙◌, arith, eq-eqb, ne_eqb}
use Rattle.std.specs.List.{list_any, AllByRecursion, IsDistinct}
use Rattle.std.specs.Map.{lookup}
use Rattle.std.specs.Prelude.{IsTrue, if◌then◌else◌, nat_eq}
use Rattle.scheme_base.specs.declared.lit.Lit.{Lit}
use Rattle.scheme_base.specs.declared.pos.Pos.{Pos}
use Rattle.scheme_base.specs.Operands.{operands_of}
use Rattle.core_form.specs.declared.program.Var.{Var}
use Rattle.core_form.specs.declared.program.VarRef.{VarRef}
use Rattle.core_form.specs.declared.program.VarRef.TheVariants.{Local, Top}
use Rattle.core_form.specs.Source.{Scope, scope_with}
use Rattle.core_form.specs.Trees.{Tree, Const, Ref, Lambda, If, Set, Call, Prim, Seq, Fix, Define, Trees, none, item, count}
use Rattle.core_form.specs.Valid.{and_rest, has, assigns, one_assigns, is_hole, AreLambdas, HasItem, NoneAssigned, IsFine, AllFine, FineOperands, FineForm, FineForms}
use Rattle.core_form.specs.Variables.{same_ref, same_var}
use Rattle.alpha_core.specs.Renaming.{past_rest, past, past_all, locals, local_rest, found, refer, with_rest, renamed, all_renamed}
use Rattle.alpha_core.proofs.BoundOnce.{body_is, locals_rest, locals_span, span_distinct, past_bound, all_past_bound}
use Rattle.alpha_core.proofs.Names.{same_decides}

-- Names

same_back : (x y : Var) → same_var x y ≡ true → same_var y x ≡ true
same_back x y h = (same_decides y x).1 (sym ((same_decides x y).0 h))

-- what is the same as a variable is the same as what that is
same_as : (x y z : Var) → same_var x y ≡ true → same_var z y ≡ same_var z x
same_as x y z h = ap (same_var z) (sym ((same_decides x y).0 h))

same_either : (x y : Var) → same_var x y ≡ same_var y x
same_either x y = by_test (same_var x y) (same_var y x) refl refl
  where
    by_test : (a b : Bool) → same_var x y ≡ a → same_var y x ≡ b → same_var x y ≡ same_var y x
    by_test true b p q = p ∙ sym (same_back x y p)
    by_test false true p q = same_back y x q ∙ sym q
    by_test false false p q = p ∙ sym q

-- Scopes

-- the number stands for this variable, and for no other
abbrev pub Points : Scope Var → (number : ℕ) → Var → Type 0
Points ρ k x = (y : Var) → same_ref (Local k) (refer ρ y) ≡ same_var x y

-- the number stands for no variable
abbrev pub Misses : Scope Var → (number : ℕ) → Type 0
Misses ρ k = (y : Var) → same_ref (Local k) (refer ρ y) ≡ false

-- the numbers of a scope are below this
abbrev pub Below : Scope Var → ℕ → Type 0
Below ρ n = (y : Var) (k : ℕ) → lookup (same_var y) ρ ≡ Some k → k < n

less_not : (k n : ℕ) → k < n → nat_eq k n ≡ false
less_not k n h = ne_eqb k n (λ e. let less : k < n = h in absurd (omega (arith, e, less)))

more_not : (k n : ℕ) → k < n → nat_eq n k ≡ false
more_not k n h = ne_eqb n k (λ e. let less : k < n = h in absurd (omega (arith, e, less)))

-- what a variable is where another is bound inside
inner_is : (ρ : Scope Var) (n : ℕ) (x y : Var) (b : Bool) → same_var y x ≡ b
    → refer ((x, n) ∷ ρ) y ≡ (if b then Local n else refer ρ y)
inner_is ρ n x y true h = ap (λ c. found (if c then Some n else lookup (same_var y) ρ) y) h
inner_is ρ n x y false h = ap (λ c. found (if c then Some n else lookup (same_var y) ρ) y) h

below_one : (ρ : Scope Var) (n : ℕ) (x : Var) → Below ρ n → Below ((x, n) ∷ ρ) (suc n)
below_one ρ n x h y k e = by_test (same_var y x) refl
  where
    by_test : (b : Bool) → same_var y x ≡ b → k < suc n
    by_test true i =
        let at : Some n ≡ Some k = sym (ap (λ c. if c then Some n else lookup (same_var y) ρ) i) ∙ e in
        let same : n ≡ k = cc in
        omega (arith, same)
    by_test false i =
        let less : k < n = h y k (sym (ap (λ c. if c then Some n else lookup (same_var y) ρ) i) ∙ e) in
        omega (arith, less)

below_all : (xs : List Var) (n : ℕ) (ρ : Scope Var) → Below ρ n → Below (scope_with xs n ρ) (n + length xs)
below_all [] n ρ h y k e = let less : k < n = h y k e in omega (arith, less)
below_all (x ∷ xs) n ρ h y k e =
    let less : k < suc n + length xs = below_all xs (suc n) ((x, n) ∷ ρ) (below_one ρ n x h) y k e in omega (arith, less)

below_more : (ρ : Scope Var) (n m : ℕ) → n ≤ m → Below ρ n → Below ρ m
below_more ρ n m l h y k e = let less : k < n = h y k e in omega (arith, l, less)

below_past : (ρ : Scope Var) (n : ℕ) (e : Tree Var) → Below ρ n → Below ρ (past n e)
below_past ρ n e h = let over : n ≤ past n e = omega (arith, past_bound n e) in below_more ρ n (past n e) over h

miss_one : (ρ : Scope Var) (n k : ℕ) (x : Var) → k < n → Misses ρ k → Misses ((x, n) ∷ ρ) k
miss_one ρ n k x l h y = by_test (same_var y x) refl
  where
    by_test : (b : Bool) → same_var y x ≡ b → same_ref (Local k) (refer ((x, n) ∷ ρ) y) ≡ false
    by_test true e = ap (same_ref (Local k)) (inner_is ρ n x y true e) ∙ less_not k n l
    by_test false e = ap (same_ref (Local k)) (inner_is ρ n x y false e) ∙ h y

-- what is hidden
hide_one : (ρ : Scope Var) (n k : ℕ) (x z : Var) → k < n → Points ρ k z → same_var z x ≡ true → Misses ((x, n) ∷ ρ) k
hide_one ρ n k x z l h hides y = by_test (same_var y x) refl
  where
    by_test : (b : Bool) → same_var y x ≡ b → same_ref (Local k) (refer ((x, n) ∷ ρ) y) ≡ false
    by_test true e = ap (same_ref (Local k)) (inner_is ρ n x y true e) ∙ less_not k n l
    by_test false e =
        ap (same_ref (Local k)) (inner_is ρ n x y false e)
        ∙ (h y ∙ (same_either z y ∙ (sym (same_as z x y hides) ∙ e)))

point_one : (ρ : Scope Var) (n k : ℕ) (x z : Var) → k < n → Points ρ k z → same_var z x ≡ false → Points ((x, n) ∷ ρ) k z
point_one ρ n k x z l h differs y = by_test (same_var y x) refl
  where
    by_test : (b : Bool) → same_var y x ≡ b → same_ref (Local k) (refer ((x, n) ∷ ρ) y) ≡ same_var z y
    by_test true e =
        ap (same_ref (Local k)) (inner_is ρ n x y true e)
        ∙ (less_not k n l ∙ sym (sym (same_as y x z e) ∙ differs))
    by_test false e = ap (same_ref (Local k)) (inner_is ρ n x y false e) ∙ h y

miss_all : (xs : List Var) (ρ : Scope Var) (n k : ℕ) → k < n → Misses ρ k → Misses (scope_with xs n ρ) k
miss_all [] ρ n k l h = h
miss_all (x ∷ xs) ρ n k l h =
    let less : k < suc n = omega (arith, l) in miss_all xs ((x, n) ∷ ρ) (suc n) k less (miss_one ρ n k x l h)

hide_all : (xs : List Var) (ρ : Scope Var) (n k : ℕ) (z : Var) → k < n → Points ρ k z → has same_var xs z ≡ true
    → Misses (scope_with xs n ρ) k
hide_all [] ρ n k z l h i = absurd (let falls : false ≡ true = i in cc)
hide_all (x ∷ xs) ρ n k z l h i =
    let less : k < suc n = omega (arith, l) in
    by_test (same_var z x) refl (λ p j. hide_all xs ((x, n) ∷ ρ) (suc n) k z less p j)
    (λ p. miss_all xs ((x, n) ∷ ρ) (suc n) k less p) i
  where
    by_test : (b : Bool) → same_var z x ≡ b
        → (Points ((x, n) ∷ ρ) k z → has same_var xs z ≡ true → Misses (scope_with xs (suc n) ((x, n) ∷ ρ)) k)
        → (Misses ((x, n) ∷ ρ) k → Misses (scope_with xs (suc n) ((x, n) ∷ ρ)) k) → (same_var z x || has same_var xs z) ≡ true
        → Misses (scope_with xs (suc n) ((x, n) ∷ ρ)) k
    by_test true e rest all j = all (hide_one ρ n k x z l h e)
    by_test false e rest all j = rest (point_one ρ n k x z l h e) (sym (ap (λ b. b || has same_var xs z) e) ∙ j)

or_false : (a b : Bool) → (a || b) ≡ false → (a ≡ false) × (b ≡ false)
or_false true b h = absurd (let rises : true ≡ false = h in cc)
or_false false b h = (refl, h)

point_all : (xs : List Var) (ρ : Scope Var) (n k : ℕ) (z : Var) → k < n → Points ρ k z → has same_var xs z ≡ false
    → Points (scope_with xs n ρ) k z
point_all [] ρ n k z l h i = h
point_all (x ∷ xs) ρ n k z l h i =
    let less : k < suc n = omega (arith, l) in
    let q = or_false (same_var z x) (has same_var xs z) i in
    point_all xs ((x, n) ∷ ρ) (suc n) k z less (point_one ρ n k x z l h q.0) q.1

-- the number of a variable that is bound
own_one : (ρ : Scope Var) (n : ℕ) (x : Var) → Below ρ n → Points ((x, n) ∷ ρ) n x
own_one ρ n x below y = by_test (same_var y x) refl
  where
    outside : (o : Option ℕ) → lookup (same_var y) ρ ≡ o → same_ref (Local n) (found o y) ≡ false
    outside None e = refl
    outside (Some k) e = more_not k n (below y k e)

    by_test : (b : Bool) → same_var y x ≡ b → same_ref (Local n) (refer ((x, n) ∷ ρ) y) ≡ same_var x y
    by_test true e =
        ap (same_ref (Local n)) (inner_is ρ n x y true e) ∙ (eq-eqb n n refl ∙ sym (same_back y x e))
    by_test false e =
        ap (same_ref (Local n)) (inner_is ρ n x y false e)
        ∙ (outside (lookup (same_var y) ρ) refl ∙ sym (same_either x y ∙ e))

-- numbers of a binder are no earlier ones
not_bound : (n k : ℕ) (xs : List Var) → k < n → has same_ref (locals n xs) (Local k) ≡ false
not_bound n k [] l = refl
not_bound n k (x ∷ xs) l =
    let less : k < suc n = omega (arith, l) in ap₂ (λ a b. a || b) (less_not k n l) (not_bound (suc n) k xs less)

-- What is assigned

and_false : (b c : Bool) → c ≡ false → (not b && c) ≡ false
and_false true c h = refl
and_false false c h = h

past_over : (n k : ℕ) (e : Tree Var) → k < n → k < past n e
past_over n k e l = omega (arith, l, past_bound n e)

past_all_over : (n k : ℕ) (es : Trees Var) → k < n → k < past_all n es
past_all_over n k es l = omega (arith, l, all_past_bound n es)

inside_over : (n k : ℕ) (xs : List Var) → k < n → k < n + length xs
inside_over n k xs l = omega (arith, l)

or_both : (a b c d : Bool) → a ≡ c → b ≡ d → (a || b) ≡ (c || d)
or_both a b c d p q = ap₂ (λ x y. x || y) p q

mutual
  pub not_assigned : (ρ : Scope Var) (n k : ℕ) (e : Tree Var) → k < n → Misses ρ k
      → assigns same_ref (Local k) (renamed ρ n e) ≡ false
  not_assigned ρ n k (Const p l) less h = refl
  not_assigned ρ n k (Ref p x) less h = refl
  not_assigned ρ n k (Lambda p xs r body) less h =
      let all : List Var = and_rest xs r in
      and_false (has same_ref (and_rest (locals n xs) (local_rest (n + length xs) r)) (Local k))
      (assigns same_ref (Local k) (renamed (with_rest r (n + length xs) (scope_with xs n ρ)) (past_rest (n + length xs) r) body))
      (ap (assigns same_ref (Local k)) (body_is ρ n xs r body)
      ∙ not_assigned (scope_with all n ρ) (n + length all) k body (inside_over n k all less) (miss_all all ρ n k less h))
  not_assigned ρ n k (If p test this that) less h =
      let m : ℕ = past n test in
      or_both _ _ false false
      (or_both _ _ false false (not_assigned ρ n k test less h) (not_assigned ρ m k this (past_over n k test less) h))
      (not_assigned ρ (past m this) k that (past_over m k this (past_over n k test less)) h)
  not_assigned ρ n k (Set p x e) less h = or_both _ _ false false (h x) (not_assigned ρ n k e less h)
  not_assigned ρ n k (Call p f es) less h =
      or_both _ _ false false (not_assigned ρ n k f less h) (none_assigns ρ (past n f) k es (past_over n k f less) h)
  not_assigned ρ n k (Prim p o es) less h = none_assigns ρ n k es less h
  not_assigned ρ n k (Seq p es) less h = none_assigns ρ n k es less h
  not_assigned ρ n k (Fix p xs ls body) less h =
      let m : ℕ = n + length xs in
      let inner : Scope Var = scope_with xs n ρ in
      let misses : Misses inner k = miss_all xs ρ n k less h in
      let over : k < m = inside_over n k xs less in
      and_false (has same_ref (locals n xs) (Local k))
      (one_assigns same_ref (Local k) (all_renamed inner m ls) || assigns same_ref (Local k) (renamed inner (past_all m ls) body))
      (or_both _ _ false false (none_assigns inner m k ls over misses)
      (not_assigned inner (past_all m ls) k body (past_all_over m k ls over) misses))
  not_assigned ρ n k (Define p x e) less h = not_assigned ρ n k e less h

  pub none_assigns : (ρ : Scope Var) (n k : ℕ) (es : Trees Var) → k < n → Misses ρ k
      → one_assigns same_ref (Local k) (all_renamed ρ n es) ≡ false
  none_assigns ρ n k none less h = refl
  none_assigns ρ n k (item e es) less h =
      or_both _ _ false false (not_assigned ρ n k e less h) (none_assigns ρ (past n e) k es (past_over n k e less) h)

-- inside of a binder, where one that hides the variable leaves nothing to assign
binder_as : (b c d e : Bool) → e ≡ false → (b ≡ true → c ≡ false) → (b ≡ false → c ≡ d) → (not e && c) ≡ (not b && d)
binder_as true c d e out hidden seen = ap (λ a. not a && c) out ∙ hidden refl
binder_as false c d e out hidden seen = ap (λ a. not a && c) out ∙ seen refl

mutual
  pub assigned_as : (ρ : Scope Var) (n k : ℕ) (z : Var) (e : Tree Var) → k < n → Points ρ k z
      → assigns same_ref (Local k) (renamed ρ n e) ≡ assigns same_var z e
  assigned_as ρ n k z (Const p l) less h = refl
  assigned_as ρ n k z (Ref p x) less h = refl
  assigned_as ρ n k z (Lambda p xs r body) less h =
      let all : List Var = and_rest xs r in
      let over : k < n + length all = inside_over n k all less in
      let is = ap (assigns same_ref (Local k)) (body_is ρ n xs r body) in
      binder_as (has same_var all z)
      (assigns same_ref (Local k) (renamed (with_rest r (n + length xs) (scope_with xs n ρ)) (past_rest (n + length xs) r) body))
      (assigns same_var z body) (has same_ref (and_rest (locals n xs) (local_rest (n + length xs) r)) (Local k))
      (ap (λ l. has same_ref l (Local k)) (locals_rest n xs r) ∙ not_bound n k all less)
      (λ i. is ∙ not_assigned (scope_with all n ρ) (n + length all) k body over (hide_all all ρ n k z less h i))
      (λ i. is ∙ assigned_as (scope_with all n ρ) (n + length all) k z body over (point_all all ρ n k z less h i))
  assigned_as ρ n k z (If p test this that) less h =
      let m : ℕ = past n test in
      or_both _ _ (assigns same_var z test || assigns same_var z this) (assigns same_var z that)
      (or_both _ _ (assigns same_var z test) (assigns same_var z this) (assigned_as ρ n k z test less h)
      (assigned_as ρ m k z this (past_over n k test less) h))
      (assigned_as ρ (past m this) k z that (past_over m k this (past_over n k test less)) h)
  assigned_as ρ n k z (Set p x e) less h =
      or_both _ _ (same_var z x) (assigns same_var z e) (h x) (assigned_as ρ n k z e less h)
  assigned_as ρ n k z (Call p f es) less h =
      or_both _ _ (assigns same_var z f) (one_assigns same_var z es) (assigned_as ρ n k z f less h)
      (one_assigned_as ρ (past n f) k z es (past_over n k f less) h)
  assigned_as ρ n k z (Prim p o es) less h = one_assigned_as ρ n k z es less h
  assigned_as ρ n k z (Seq p es) less h = one_assigned_as ρ n k z es less h
  assigned_as ρ n k z (Fix p xs ls body) less h =
      let m : ℕ = n + length xs in
      let inner : Scope Var = scope_with xs n ρ in
      let over : k < m = inside_over n k xs less in
      let after : k < past_all m ls = past_all_over m k ls over in
      binder_as (has same_var xs z)
      (one_assigns same_ref (Local k) (all_renamed inner m ls) || assigns same_ref (Local k) (renamed inner (past_all m ls) body))
      (one_assigns same_var z ls || assigns same_var z body) (has same_ref (locals n xs) (Local k)) (not_bound n k xs less)
      (λ i.
      let misses : Misses inner k = hide_all xs ρ n k z less h i in
      or_both _ _ false false (none_assigns inner m k ls over misses) (not_assigned inner (past_all m ls) k body after misses))
      (λ i.
      let points : Points inner k z = point_all xs ρ n k z less h i in
      or_both _ _ (one_assigns same_var z ls) (assigns same_var z body) (one_assigned_as inner m k z ls over points)
      (assigned_as inner (past_all m ls) k z body after points))
  assigned_as ρ n k z (Define p x e) less h = assigned_as ρ n k z e less h

  pub one_assigned_as : (ρ : Scope Var) (n k : ℕ) (z : Var) (es : Trees Var) → k < n → Points ρ k z
      → one_assigns same_ref (Local k) (all_renamed ρ n es) ≡ one_assigns same_var z es
  one_assigned_as ρ n k z none less h = refl
  one_assigned_as ρ n k z (item e es) less h =
      or_both _ _ (assigns same_var z e) (one_assigns same_var z es) (assigned_as ρ n k z e less h)
      (one_assigned_as ρ (past n e) k z es (past_over n k e less) h)

-- Shapes that stay

count_kept : (ρ : Scope Var) (n : ℕ) (es : Trees Var) → count (all_renamed ρ n es) ≡ count es
count_kept ρ n none = refl
count_kept ρ n (item e es) = ap suc (count_kept ρ (past n e) es)

locals_count : (n : ℕ) (xs : List Var) → length (locals n xs) ≡ length xs
locals_count n [] = refl
locals_count n (x ∷ xs) = ap suc (locals_count (suc n) xs)

item_kept : (ρ : Scope Var) (n : ℕ) (es : Trees Var) → HasItem es → HasItem (all_renamed ρ n es)
item_kept ρ n none h = h
item_kept ρ n (item e es) h = tt

lambdas_kept : (ρ : Scope Var) (n : ℕ) (es : Trees Var) → AreLambdas es → AreLambdas (all_renamed ρ n es)
lambdas_kept ρ n none h = tt
lambdas_kept ρ n (item (Lambda p xs r body) es) h = (tt, lambdas_kept ρ (past n (Lambda p xs r body)) es h.1)
lambdas_kept ρ n (item (Const p l) es) h = absurd h.0
lambdas_kept ρ n (item (Ref p x) es) h = absurd h.0
lambdas_kept ρ n (item (If p test this that) es) h = absurd h.0
lambdas_kept ρ n (item (Set p x e) es) h = absurd h.0
lambdas_kept ρ n (item (Call p f fs) es) h = absurd h.0
lambdas_kept ρ n (item (Prim p o fs) es) h = absurd h.0
lambdas_kept ρ n (item (Seq p fs) es) h = absurd h.0
lambdas_kept ρ n (item (Fix p xs ls body) es) h = absurd h.0
lambdas_kept ρ n (item (Define p x e) es) h = absurd h.0

hole_kept : (lits : List Lit) (ρ : Scope Var) (n : ℕ) (e : Tree Var) → is_hole lits (renamed ρ n e) ≡ is_hole lits e
hole_kept lits ρ n (Const p l) = refl
hole_kept lits ρ n (Ref p x) = refl
hole_kept lits ρ n (Lambda p xs r body) = refl
hole_kept lits ρ n (If p test this that) = refl
hole_kept lits ρ n (Set p x e) = refl
hole_kept lits ρ n (Call p f es) = refl
hole_kept lits ρ n (Prim p o es) = refl
hole_kept lits ρ n (Seq p es) = refl
hole_kept lits ρ n (Fix p xs ls body) = refl
hole_kept lits ρ n (Define p x e) = refl

distinct_locals : (n : ℕ) (xs : List Var) → IsDistinct same_ref (locals n xs)
distinct_locals n xs = subst (IsDistinct same_ref) (sym (locals_span n xs)) (span_distinct n (length xs))

-- a variable is none of those that are bound after it
differs_after : (x : Var) (xs : List Var) → AllByRecursion (λ y. same_var x y ≡ false) xs → has same_var xs x ≡ false
differs_after x [] h = refl
differs_after x (y ∷ xs) h = ap₂ (λ a b. a || b) h.0 (differs_after x xs h.1)

record Distinct (x : Var) (xs : List Var) : Type 0 where
  after : has same_var xs x ≡ false
  others : IsDistinct same_var xs

distinct_parts : (x : Var) (xs : List Var) → IsDistinct same_var (x ∷ xs) → Distinct x xs
unfolding IsDistinct
distinct_parts x xs h = record { after = differs_after x xs h.0; others = h.1 }

-- the number of the first of these variables where all are bound
first_points : (x : Var) (xs : List Var) (ρ : Scope Var) (n : ℕ) → Below ρ n → has same_var xs x ≡ false
    → Points (scope_with (x ∷ xs) n ρ) n x
first_points x xs ρ n below h =
    let less : n < suc n = omega arith in point_all xs ((x, n) ∷ ρ) (suc n) n x less (own_one ρ n x below) h

none_assigned : (xs : List Var) (ρ : Scope Var) (n m : ℕ) (ls : Trees Var) (body : Tree Var) → Below ρ n → n + length xs ≤ m
    → IsDistinct same_var xs → NoneAssigned same_var xs ls body
    → NoneAssigned same_ref (locals n xs) (all_renamed (scope_with xs n ρ) m ls)
    (renamed (scope_with xs n ρ) (past_all m ls) body)
none_assigned [] ρ n m ls body below over distinct h = tt
none_assigned (x ∷ xs) ρ n m ls body below over distinct h =
    let d = distinct_parts x xs distinct in
    let points = first_points x xs ρ n below d.after in
    let less : n < m = omega (arith, over) in
    let rest : suc n + length xs ≤ m = omega (arith, over) in (
      one_assigned_as (scope_with (x ∷ xs) n ρ) m n x ls less points ∙ h.0,
      assigned_as (scope_with (x ∷ xs) n ρ) (past_all m ls) n x body (past_all_over m n ls less) points ∙ h.1,
      none_assigned xs ((x, n) ∷ ρ) (suc n) m ls body (below_one ρ n x below) rest d.others h.2,
    )

-- by numbers, a body assigns these variables where it does so by names
abbrev Own : List Var → (n : ℕ) → Tree VarRef → Tree Var → Type 0
Own [] n made body = Unit {0}
Own (x ∷ xs) n made body = (assigns same_ref (Local n) made ≡ assigns same_var x body) × Own xs (suc n) made body

own_assigned : (xs : List Var) (ρ : Scope Var) (n m : ℕ) (body : Tree Var) → Below ρ n → n + length xs ≤ m
    → IsDistinct same_var xs → Own xs n (renamed (scope_with xs n ρ) m body) body
own_assigned [] ρ n m body below over distinct = tt
own_assigned (x ∷ xs) ρ n m body below over distinct =
    let d = distinct_parts x xs distinct in
    let less : n < m = omega (arith, over) in
    let rest : suc n + length xs ≤ m = omega (arith, over) in (
      assigned_as (scope_with (x ∷ xs) n ρ) m n x body less (first_points x xs ρ n below d.after),
      own_assigned xs ((x, n) ∷ ρ) (suc n) m body (below_one ρ n x below) rest d.others,
    )

-- Expressions

lambda_fine : (lits : List Lit) (ρ : Scope Var) (n : ℕ) (xs : List Var) (r : Option Var) (body : Tree Var)
    → IsFine lits same_ref (renamed (scope_with (and_rest xs r) n ρ) (n + length (and_rest xs r)) body)
    → IsDistinct same_ref (and_rest (locals n xs) (local_rest (n + length xs) r))
    × IsFine lits same_ref (renamed (with_rest r (n + length xs) (scope_with xs n ρ)) (past_rest (n + length xs) r) body)
lambda_fine lits ρ n xs r body h = (
  subst (IsDistinct same_ref) (sym (locals_rest n xs r)) (distinct_locals n (and_rest xs r)),
  subst (IsFine lits same_ref) (sym (body_is ρ n xs r body)) h,
)

chosen_as : (a b : Bool) (xs : List Var) (n : ℕ) → a ≡ b → (if a then locals n xs else []) ≡ locals n (if b then xs else [])
chosen_as true true xs n e = refl
chosen_as true false xs n e = absurd (let rises : true ≡ false = e in cc)
chosen_as false true xs n e = absurd (let falls : false ≡ true = e in cc)
chosen_as false false xs n e = refl

own_chosen : (test : Bool) (xs : List Var) (n : ℕ) (made : Tree VarRef) (body : Tree Var) → Own xs n made body
    → Own (if test then xs else []) n made body
own_chosen true xs n made body h = h
own_chosen false xs n made body h = tt

-- a direct call, where its operands are fine for those of its variables that they are bound to
direct_fine : (lits : List Lit) (ρ : Scope Var) (n : ℕ) (xs : List Var) (body : Tree Var) (es : Trees Var)
    → Below ρ n → IsDistinct same_var xs → IsFine lits same_ref (renamed (scope_with xs n ρ) (n + length xs) body)
    → ((ws : List Var) → Own ws n (renamed (scope_with xs n ρ) (n + length xs) body) body → FineOperands lits same_var ws body es
    → FineOperands lits same_ref (locals n ws) (renamed (scope_with xs n ρ) (n + length xs) body)
    (all_renamed ρ (past (n + length xs) body) es))
    → FineOperands lits same_var (if nat_eq (length xs) (count es) then xs else []) body es
    → IsDistinct same_ref (locals n xs) × IsFine lits same_ref (renamed (scope_with xs n ρ) (n + length xs) body)
    × FineOperands lits same_ref
    (if nat_eq (length (locals n xs)) (count (all_renamed ρ (past (n + length xs) body) es)) then locals n xs else [])
    (renamed (scope_with xs n ρ) (n + length xs) body) (all_renamed ρ (past (n + length xs) body) es)
direct_fine lits ρ n xs body es b distinct inner operands h =
    let m : ℕ = n + length xs in
    let made : Tree VarRef = renamed (scope_with xs n ρ) m body in
    let others : Trees VarRef = all_renamed ρ (past m body) es in
    let test : Bool = nat_eq (length xs) (count es) in
    let tests : nat_eq (length (locals n xs)) (count others) ≡ test =
    ap₂ nat_eq (locals_count n xs) (count_kept ρ (past m body) es) in
    let same : n + length xs ≤ m = omega arith in
    let own : Own (if test then xs else []) n made body = own_chosen test xs n made body (own_assigned xs ρ n m body b same distinct) in
    let P : List VarRef → Type 0 = λ l. FineOperands lits same_ref l made others in (
      distinct_locals n xs,
      inner,
      subst P (sym (chosen_as (nat_eq (length (locals n xs)) (count others)) test xs n tests)) (operands (if test then xs else []) own h),
    )

-- an operand that is fine, or the hole of a variable that the body assigns
operand_fine : (lits : List Lit) (outside : Scope Var) (n k : ℕ) (x : Var) (made : Tree VarRef) (body e : Tree Var)
    → (IsFine lits same_var e → IsFine lits same_ref (renamed outside k e))
    → assigns same_ref (Local n) made ≡ assigns same_var x body
    → IsFine lits same_var e ⊎ (IsTrue (is_hole lits e) × IsTrue (assigns same_var x body))
    → IsFine lits same_ref (renamed outside k e)
    ⊎ (IsTrue (is_hole lits (renamed outside k e)) × IsTrue (assigns same_ref (Local n) made))
operand_fine lits outside n k x made body e keep own (inl fine) = inl (keep fine)
operand_fine lits outside n k x made body e keep own (inr hole) = inr (hole_kept lits outside k e ∙ hole.0, own ∙ hole.1)

mutual
  pub fine_kept : (lits : List Lit) (ρ : Scope Var) (n : ℕ) (e : Tree Var) → Below ρ n → IsFine lits same_var e
      → IsFine lits same_ref (renamed ρ n e)
  fine_kept lits ρ n (Const p l) b h = h
  fine_kept lits ρ n (Ref p x) b h = tt
  fine_kept lits ρ n (Lambda p xs r body) b h =
      lambda_fine lits ρ n xs r body
      (fine_kept lits (scope_with (and_rest xs r) n ρ) (n + length (and_rest xs r)) body (below_all (and_rest xs r) n ρ b) h.1)
  fine_kept lits ρ n (If p test this that) b h =
      let m : ℕ = past n test in
      let first : n ≤ m = omega (arith, past_bound n test) in
      let second : n ≤ past m this = omega (arith, past_bound n test, past_bound m this) in (
        fine_kept lits ρ n test b h.0,
        fine_kept lits ρ m this (below_more ρ n m first b) h.1,
        fine_kept lits ρ (past m this) that (below_more ρ n (past m this) second b) h.2,
      )
  fine_kept lits ρ n (Set p x e) b h = fine_kept lits ρ n e b h
  fine_kept lits ρ n (Call p (Lambda q xs None body) es) b h =
      let m : ℕ = n + length xs in
      let k : ℕ = past m body in
      let over : n ≤ k = omega (arith, past_bound m body) in
      let made : Tree VarRef = renamed (scope_with xs n ρ) m body in
      direct_fine lits ρ n xs body es b h.0 (fine_kept lits (scope_with xs n ρ) m body (below_all xs n ρ b) h.1)
      (λ ws own i. operands_fine lits ρ n k ws made body es (below_more ρ n k over b) own i) h.2
  fine_kept lits ρ n (Call p (Lambda q xs (Some x) body) es) b h =
      let f : Tree Var = Lambda q xs (Some x) body in
      let all : List Var = and_rest xs (Some x) in (
        lambda_fine lits ρ n xs (Some x) body
            (fine_kept lits (scope_with all n ρ) (n + length all) body (below_all all n ρ b) h.0.1),
        all_fine_kept lits ρ (past n f) es (below_past ρ n f b) h.1,
      )
  fine_kept lits ρ n (Call p (Const q l) es) b h = (h.0, all_fine_kept lits ρ n es b h.1)
  fine_kept lits ρ n (Call p (Ref q x) es) b h = (tt, all_fine_kept lits ρ n es b h.1)
  fine_kept lits ρ n (Call p (If q test this that) es) b h =
      let f : Tree Var = If q test this that in
      (fine_kept lits ρ n (If q test this that) b h.0, all_fine_kept lits ρ (past n f) es (below_past ρ n f b) h.1)
  fine_kept lits ρ n (Call p (Set q x e) es) b h =
      let f : Tree Var = Set q x e in
      (fine_kept lits ρ n (Set q x e) b h.0, all_fine_kept lits ρ (past n f) es (below_past ρ n f b) h.1)
  fine_kept lits ρ n (Call p (Call q g gs) es) b h =
      let f : Tree Var = Call q g gs in
      (fine_kept lits ρ n (Call q g gs) b h.0, all_fine_kept lits ρ (past n f) es (below_past ρ n f b) h.1)
  fine_kept lits ρ n (Call p (Prim q o gs) es) b h =
      let f : Tree Var = Prim q o gs in
      (fine_kept lits ρ n (Prim q o gs) b h.0, all_fine_kept lits ρ (past n f) es (below_past ρ n f b) h.1)
  fine_kept lits ρ n (Call p (Seq q gs) es) b h =
      let f : Tree Var = Seq q gs in
      (fine_kept lits ρ n (Seq q gs) b h.0, all_fine_kept lits ρ (past n f) es (below_past ρ n f b) h.1)
  fine_kept lits ρ n (Call p (Fix q xs ls body) es) b h =
      let f : Tree Var = Fix q xs ls body in
      (fine_kept lits ρ n (Fix q xs ls body) b h.0, all_fine_kept lits ρ (past n f) es (below_past ρ n f b) h.1)
  fine_kept lits ρ n (Call p (Define q x e) es) b h = absurd h.0
  fine_kept lits ρ n (Prim p o es) b h = (count_kept ρ n es ∙ h.0, all_fine_kept lits ρ n es b h.1)
  fine_kept lits ρ n (Seq p es) b h = (item_kept ρ n es h.0, all_fine_kept lits ρ n es b h.1)
  fine_kept lits ρ n (Fix p xs ls body) b h =
      let m : ℕ = n + length xs in
      let inner : Scope Var = scope_with xs n ρ in
      let below : Below inner m = below_all xs n ρ b in
      let same : n + length xs ≤ m = omega arith in
      let over : m ≤ past_all m ls = omega (arith, all_past_bound m ls) in (
        distinct_locals n xs,
        count_kept inner m ls ∙ (h.1 ∙ sym (locals_count n xs)),
        lambdas_kept inner m ls h.2,
        none_assigned xs ρ n m ls body b same h.0 h.3,
        all_fine_kept lits inner m ls below h.4,
        fine_kept lits inner (past_all m ls) body (below_more inner m (past_all m ls) over below) h.5,
      )
  fine_kept lits ρ n (Define p x e) b h = h

  operands_fine : (lits : List Lit) (outside : Scope Var) (n k : ℕ) (ws : List Var) (made : Tree VarRef) (body : Tree Var)
      (es : Trees Var) → Below outside k → Own ws n made body → FineOperands lits same_var ws body es
      → FineOperands lits same_ref (locals n ws) made (all_renamed outside k es)
  operands_fine lits outside n k ws made body none below own h = tt
  operands_fine lits outside n k [] made body (item e es) below own h =
      (fine_kept lits outside k e below h.0, all_fine_kept lits outside (past k e) es (below_past outside k e below) h.1)
  operands_fine lits outside n k (x ∷ ws) made body (item e es) below own h = (
    operand_fine lits outside n k x made body e (λ i. fine_kept lits outside k e below i) own.0 h.0,
    operands_fine lits outside (suc n) (past k e) ws made body es (below_past outside k e below) own.1 h.1,
  )

  pub all_fine_kept : (lits : List Lit) (ρ : Scope Var) (n : ℕ) (es : Trees Var) → Below ρ n → AllFine lits same_var es
      → AllFine lits same_ref (all_renamed ρ n es)
  all_fine_kept lits ρ n none b h = tt
  all_fine_kept lits ρ n (item e es) b h =
      (fine_kept lits ρ n e b h.0, all_fine_kept lits ρ (past n e) es (below_past ρ n e b) h.1)

-- Forms

form_fine : (lits : List Lit) (ρ : Scope Var) (n : ℕ) (e : Tree Var) → Below ρ n → FineForm lits same_var e
    → FineForm lits same_ref (renamed ρ n e)
form_fine lits ρ n (Define p x e) b h = fine_kept lits ρ n e b h
form_fine lits ρ n (Const p l) b h = h
form_fine lits ρ n (Ref p x) b h = tt
form_fine lits ρ n (Lambda p xs r body) b h = fine_kept lits ρ n (Lambda p xs r body) b h
form_fine lits ρ n (If p test this that) b h = fine_kept lits ρ n (If p test this that) b h
form_fine lits ρ n (Set p x e) b h = fine_kept lits ρ n (Set p x e) b h
form_fine lits ρ n (Call p f es) b h = fine_kept lits ρ n (Call p f es) b h
form_fine lits ρ n (Prim p o es) b h = fine_kept lits ρ n (Prim p o es) b h
form_fine lits ρ n (Seq p es) b h = fine_kept lits ρ n (Seq p es) b h
form_fine lits ρ n (Fix p xs ls body) b h = fine_kept lits ρ n (Fix p xs ls body) b h

pub forms_fine : (lits : List Lit) (ρ : Scope Var) (n : ℕ) (es : Trees Var) → Below ρ n → FineForms lits same_var es
    → FineForms lits same_ref (all_renamed ρ n es)
forms_fine lits ρ n none b h = tt
forms_fine lits ρ n (item e es) b h =
    (form_fine lits ρ n e b h.0, forms_fine lits ρ (past n e) es (below_past ρ n e b) h.1)
