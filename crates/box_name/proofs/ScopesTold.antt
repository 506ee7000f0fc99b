-- What stands of the variables of a valid renamed core, once direct calls are told apart.
use Rattle.std.proofs.Common.{◌≡◌, ℕ, Bool, true, false, List, [], ◌∷◌, ◌++◌, length, Option, Some, None, inl, inr, ◌⊎◌, refl, sym, ap, ◌∙◌, arith, eqb-true}
use Rattle.std.proofs.lemmas.Bool.{or_cases, or_left, or_right}
use Rattle.std.proofs.lemmas.List.{map-append}
use Rattle.std.proofs.lemmas.List.Folds.{list_any-append}
use Rattle.std.specs.Prelude.{IsTrue, if◌then◌else◌, nat_eq, not, ◌&&◌, ◌||◌}
use Rattle.std.specs.List.{AllByRecursion, IsDistinct, list_any}
use Rattle.scheme_base.specs.declared.lit.Lit.{Lit}
use Rattle.scheme_base.specs.declared.pos.Pos.{Pos}
use Rattle.core_form.specs.declared.program.VarRef.{VarRef}
use Rattle.core_form.specs.declared.program.VarRef.TheVariants as ref
use Rattle.core_form.specs.Trees.{Tree, Trees, count}
use Rattle.core_form.specs.Trees as tree
use Rattle.core_form.specs.Valid as valid
use Rattle.core_form.specs.Valid.{AllFine, AllInScope, AreLocal, FineForm, FineForms, FineOperands, InScope, IsFine, IsSeen, NoneAssigned, and_rest, assigns, is_hole, one_assigns}
use Rattle.core_form.specs.Variables.{same_ref}
use Rattle.named_form.specs.Code.{has}
use Rattle.box_name.specs.Told.{Expr, Hole, Const, Local, Lambda, If, SetLocal, SetTop, Call, Direct, Prim, Seq, Fix, Define, Exprs, none, item, all_told, assignment, is_direct, number, numbers, option_number, reference, told, told_body, told_operands}
use Rattle.box_name.specs.Counts.{all_params}
use Rattle.box_name.specs.Whole.{all_assigned, assigned}
use Rattle.box_name.proofs.BoxesRead.{HasItem}
use Rattle.box_name.proofs.Members.{back_each, front_each, has_back, has_front, has_neither, never, none_back, none_front, none_left, none_right}

-- the local variables that an expression binds
abbrev mutual
  pub bound : Expr → List ℕ
  bound (Lambda q xs r body) = all_params xs r ++ bound body
  bound (If q test this that) = bound test ++ (bound this ++ bound that)
  bound (SetLocal q x e) = bound e
  bound (SetTop q x e) = bound e
  bound (Call q f es) = bound f ++ all_bound es
  bound (Direct q xs body es) = (xs ++ bound body) ++ all_bound es
  bound (Prim q o es) = all_bound es
  bound (Seq q es) = all_bound es
  bound (Fix q xs ls body) = xs ++ (all_bound ls ++ bound body)
  bound (Define q x e) = bound e
  bound e = []

  pub all_bound : Exprs → List ℕ
  all_bound none = []
  all_bound (item e es) = bound e ++ all_bound es

-- Where these local variables are seen, each that stands in an expression is in its scope. Only the operand of a
-- direct call is no value, and no variable of a `Fix` is assigned in it.
abbrev mutual
  pub Scoped : (seen : List ℕ) → Expr → Type 0
  Scoped seen Hole = ⊥
  Scoped seen (Local q x) = has seen x ≡ true
  Scoped seen (Lambda q xs r body) = Scoped (all_params xs r ++ seen) body
  Scoped seen (If q test this that) = Scoped seen test × Scoped seen this × Scoped seen that
  Scoped seen (SetLocal q x e) = (has seen x ≡ true) × Scoped seen e
  Scoped seen (SetTop q x e) = Scoped seen e
  Scoped seen (Call q f es) = Scoped seen f × AllScoped seen es
  Scoped seen (Direct q xs body es) = OperandsScoped seen xs es × Scoped (xs ++ seen) body
  Scoped seen (Prim q o es) = AllScoped seen es
  Scoped seen (Seq q es) = HasItem es × AllScoped seen es
  Scoped seen (Fix q xs ls body) =
      AllByRecursion (λ x. has (all_assigned ls ++ assigned body) x ≡ false) xs × AllScoped (xs ++ seen) ls
      × Scoped (xs ++ seen) body
  Scoped seen (Define q x e) = Scoped seen e
  Scoped seen e = Unit {0}

  pub AllScoped : (seen : List ℕ) → Exprs → Type 0
  AllScoped seen none = Unit {0}
  AllScoped seen (item e es) = Scoped seen e × AllScoped seen es

  pub OperandsScoped : (seen : List ℕ) → List ℕ → Exprs → Type 0
  OperandsScoped seen (x ∷ xs) (item Hole es) = OperandsScoped seen xs es
  OperandsScoped seen (x ∷ xs) (item e es) = Scoped seen e × OperandsScoped seen xs es
  OperandsScoped seen [] none = Unit {0}
  OperandsScoped seen xs es = ⊥

-- What is bound

reference_bound : (p : Pos) (x : VarRef) → bound (reference p x) ≡ []
reference_bound p (ref.Local n) = refl
reference_bound p (ref.Top x) = refl

assignment_bound : (p : Pos) (x : VarRef) (e : Expr) → bound (assignment p x e) ≡ bound e
assignment_bound p (ref.Local n) e = refl
assignment_bound p (ref.Top x) e = refl

params_told : (xs : List VarRef) (r : Option VarRef) → all_params (numbers xs) (option_number r) ≡ numbers (and_rest xs r)
params_told xs None = refl
params_told xs (Some x) = sym (map-append number xs (x ∷ []))

either_bound : (b : Bool) (d e : Expr) (xs : List ℕ) → bound d ≡ xs → bound e ≡ xs → bound (if b then d else e) ≡ xs
either_bound true d e xs h k = h
either_bound false d e xs h k = k

two_bound : (xs ys : List ℕ) (vs ws : List VarRef) → xs ≡ numbers vs → ys ≡ numbers ws → xs ++ ys ≡ numbers (vs ++ ws)
two_bound xs ys vs ws h k = ap (λ zs. zs ++ ys) h ∙ (ap (λ zs. numbers vs ++ zs) k ∙ sym (map-append number vs ws))

call_bound : (lits : List Lit) (p : Pos) (f : Tree VarRef) (es : Trees VarRef) → bound (told lits f) ≡ numbers (valid.bound f)
    → all_bound (all_told lits es) ≡ numbers (valid.all_bound es)
    → all_bound (told_operands lits es) ≡ numbers (valid.all_bound es)
    → bound (told lits (tree.Call p f es)) ≡ numbers (valid.bound f ++ valid.all_bound es)
call_bound lits p (tree.Lambda q xs None body) es h k l =
    let f = tree.Lambda q xs None body in
    either_bound (is_direct f (count es)) _ _ (numbers (valid.bound f ++ valid.all_bound es))
    (two_bound (numbers xs ++ bound (told lits body)) (all_bound (told_operands lits es)) (valid.bound f) (valid.all_bound es) h l)
    (two_bound (bound (told lits f)) (all_bound (all_told lits es)) (valid.bound f) (valid.all_bound es) h k)
call_bound lits p (tree.Lambda q xs (Some r) body) es h k l =
    let f = tree.Lambda q xs (Some r) body in
    two_bound (bound (told lits f)) (all_bound (all_told lits es)) (valid.bound f) (valid.all_bound es) h k
call_bound lits p f es h k l =
    two_bound (bound (told lits f)) (all_bound (all_told lits es)) (valid.bound f) (valid.all_bound es) h k

operand_bound : (lits : List Lit) (e : Tree VarRef) → bound (told lits e) ≡ numbers (valid.bound e)
    → bound (if is_hole lits e then Hole else told lits e) ≡ numbers (valid.bound e)
operand_bound lits (tree.Const p l) h = either_bound _ Hole (Const p l) [] refl refl
operand_bound lits e h = h

mutual
  told_bound : (lits : List Lit) (e : Tree VarRef) → bound (told lits e) ≡ numbers (valid.bound e)
  told_bound lits (tree.Const p l) = refl
  told_bound lits (tree.Ref p x) = reference_bound p x
  told_bound lits (tree.Lambda p xs r body) =
      two_bound (all_params (numbers xs) (option_number r)) (bound (told lits body)) (and_rest xs r) (valid.bound body)
      (params_told xs r) (told_bound lits body)
  told_bound lits (tree.If p test this that) =
      two_bound (bound (told lits test)) _ (valid.bound test) (valid.bound this ++ valid.bound that) (told_bound lits test)
      (two_bound (bound (told lits this)) (bound (told lits that)) (valid.bound this) (valid.bound that) (told_bound lits this)
      (told_bound lits that))
  told_bound lits (tree.Set p x e) = assignment_bound p x (told lits e) ∙ told_bound lits e
  told_bound lits (tree.Call p f es) =
      call_bound lits p f es (told_bound lits f) (all_told_bound lits es) (operands_bound lits es)
  told_bound lits (tree.Prim p o es) = all_told_bound lits es
  told_bound lits (tree.Seq p es) = all_told_bound lits es
  told_bound lits (tree.Fix p xs ls body) =
      two_bound (numbers xs) _ xs (valid.all_bound ls ++ valid.bound body) refl
      (two_bound (all_bound (all_told lits ls)) (bound (told lits body)) (valid.all_bound ls) (valid.bound body)
      (all_told_bound lits ls) (told_bound lits body))
  told_bound lits (tree.Define p x e) = told_bound lits e

  pub all_told_bound : (lits : List Lit) (es : Trees VarRef) → all_bound (all_told lits es) ≡ numbers (valid.all_bound es)
  all_told_bound lits tree.none = refl
  all_told_bound lits (tree.item e es) =
      two_bound (bound (told lits e)) (all_bound (all_told lits es)) (valid.bound e) (valid.all_bound es) (told_bound lits e)
      (all_told_bound lits es)

  operands_bound : (lits : List Lit) (es : Trees VarRef) → all_bound (told_operands lits es) ≡ numbers (valid.all_bound es)
  operands_bound lits tree.none = refl
  operands_bound lits (tree.item e es) =
      two_bound (bound (if is_hole lits e then Hole else told lits e)) (all_bound (told_operands lits es)) (valid.bound e)
      (valid.all_bound es) (operand_bound lits e (told_bound lits e)) (operands_bound lits es)

both_local : (xs ys : List VarRef) → AreLocal xs → AreLocal ys → AreLocal (xs ++ ys)
both_local [] ys h k = k
both_local (ref.Local n ∷ xs) ys h k = both_local xs ys h k
both_local (ref.Top x ∷ xs) ys h k = h

mutual
  bound_local : (seen : List VarRef) (e : Tree VarRef) → InScope seen e → AreLocal (valid.bound e)
  bound_local seen (tree.Const p l) h = tt
  bound_local seen (tree.Ref p x) h = tt
  bound_local seen (tree.Lambda p xs r body) h =
      both_local (and_rest xs r) (valid.bound body) h.0 (bound_local (and_rest xs r ++ seen) body h.1)
  bound_local seen (tree.If p test this that) h =
      both_local (valid.bound test) (valid.bound this ++ valid.bound that) (bound_local seen test h.0)
      (both_local (valid.bound this) (valid.bound that) (bound_local seen this h.1) (bound_local seen that h.2))
  bound_local seen (tree.Set p x e) h = bound_local seen e h.1
  bound_local seen (tree.Call p f es) h =
      both_local (valid.bound f) (valid.all_bound es) (bound_local seen f h.0) (all_bound_local seen es h.1)
  bound_local seen (tree.Prim p o es) h = all_bound_local seen es h
  bound_local seen (tree.Seq p es) h = all_bound_local seen es h
  bound_local seen (tree.Fix p xs ls body) h =
      both_local xs (valid.all_bound ls ++ valid.bound body) h.0
      (both_local (valid.all_bound ls) (valid.bound body) (all_bound_local (xs ++ seen) ls h.1)
      (bound_local (xs ++ seen) body h.2))
  bound_local seen (tree.Define p x e) h = bound_local seen e h.1

  pub all_bound_local : (seen : List VarRef) (es : Trees VarRef) → AllInScope seen es → AreLocal (valid.all_bound es)
  all_bound_local seen tree.none h = tt
  all_bound_local seen (tree.item e es) h =
      both_local (valid.bound e) (valid.all_bound es) (bound_local seen e h.0) (all_bound_local seen es h.1)

numbers_differ : (n : ℕ) (xs : List VarRef) → AreLocal xs → AllByRecursion (λ y. same_ref (ref.Local n) y ≡ false) xs
    → AllByRecursion (λ m. nat_eq n m ≡ false) (numbers xs)
numbers_differ n [] h k = tt
numbers_differ n (ref.Local m ∷ xs) h k = (k.0, numbers_differ n xs h k.1)
numbers_differ n (ref.Top x ∷ xs) h k = absurd h

pub numbers_distinct : (xs : List VarRef) → AreLocal xs → IsDistinct same_ref xs → IsDistinct nat_eq (numbers xs)
unfolding IsDistinct
numbers_distinct [] h k = tt
numbers_distinct (ref.Local n ∷ xs) h k = (numbers_differ n xs h k.0, numbers_distinct xs h k.1)
numbers_distinct (ref.Top x ∷ xs) h k = absurd h

-- What is not assigned

hidden_not : (b c : Bool) → b ≡ false → not b && c ≡ false → c ≡ false
hidden_not true c h k = never (sym h)
hidden_not false c h k = k

assignment_unassigned : (n : ℕ) (p : Pos) (x : VarRef) (e : Expr) → same_ref (ref.Local n) x ≡ false
    → has (assigned e) n ≡ false → has (assigned (assignment p x e)) n ≡ false
assignment_unassigned n p (ref.Local m) e h k = ap (λ b. b || has (assigned e) n) h ∙ k
assignment_unassigned n p (ref.Top x) e h k = k

either_unassigned : (n : ℕ) (b : Bool) (d e : Expr) → has (assigned d) n ≡ false → has (assigned e) n ≡ false
    → has (assigned (if b then d else e)) n ≡ false
either_unassigned n true d e h k = h
either_unassigned n false d e h k = k

body_unassigned : (n : ℕ) (lits : List Lit) (f : Tree VarRef) → has (assigned (told lits f)) n ≡ false
    → has (assigned (told_body lits f)) n ≡ false
body_unassigned n lits (tree.Lambda q xs r body) h = h
body_unassigned n lits f h = refl

mutual
  unassigned : (lits : List Lit) (n : ℕ) (e : Tree VarRef) → assigns same_ref (ref.Local n) e ≡ false
      → list_any (same_ref (ref.Local n)) (valid.bound e) ≡ false → has (assigned (told lits e)) n ≡ false
  unassigned lits n (tree.Const p l) h k = refl
  unassigned lits n (tree.Ref p (ref.Local m)) h k = refl
  unassigned lits n (tree.Ref p (ref.Top x)) h k = refl
  unassigned lits n (tree.Lambda p xs r body) h k =
      let x = ref.Local n in
      let own = none_front (same_ref x) (and_rest xs r) (valid.bound body) k in
      unassigned lits n body
      (hidden_not (list_any (same_ref x) (and_rest xs r)) (assigns same_ref x body) own h)
      (none_back (same_ref x) (and_rest xs r) (valid.bound body) k)
  unassigned lits n (tree.If p test this that) h k =
      let x = ref.Local n in
      let a = assigns same_ref x test in
      let b = assigns same_ref x this in
      let c = assigns same_ref x that in
      let others = none_back (same_ref x) (valid.bound test) (valid.bound this ++ valid.bound that) k in
      has_neither (assigned (told lits test)) (assigned (told lits this) ++ assigned (told lits that)) n
      (unassigned lits n test (none_left a b (none_left (a || b) c h)) (none_front (same_ref x) (valid.bound test) _ k))
      (has_neither (assigned (told lits this)) (assigned (told lits that)) n
      (unassigned lits n this (none_right a b (none_left (a || b) c h))
      (none_front (same_ref x) (valid.bound this) (valid.bound that) others))
      (unassigned lits n that (none_right (a || b) c h)
      (none_back (same_ref x) (valid.bound this) (valid.bound that) others)))
  unassigned lits n (tree.Set p y e) h k =
      let x = ref.Local n in
      assignment_unassigned n p y (told lits e) (none_left (same_ref x y) (assigns same_ref x e) h)
      (unassigned lits n e (none_right (same_ref x y) (assigns same_ref x e) h) k)
  unassigned lits n (tree.Call p f es) h k =
      let x = ref.Local n in
      let inner =
      unassigned lits n f (none_left (assigns same_ref x f) (one_assigns same_ref x es) h)
      (none_front (same_ref x) (valid.bound f) (valid.all_bound es) k) in
      let rest = none_right (assigns same_ref x f) (one_assigns same_ref x es) h in
      let apart = none_back (same_ref x) (valid.bound f) (valid.all_bound es) k in
      either_unassigned n (is_direct f (count es)) _ _
      (has_neither (assigned (told_body lits f)) (all_assigned (told_operands lits es)) n (body_unassigned n lits f inner)
      (operands_unassigned lits n es rest apart))
      (has_neither (assigned (told lits f)) (all_assigned (all_told lits es)) n inner (all_unassigned lits n es rest apart))
  unassigned lits n (tree.Prim p o es) h k = all_unassigned lits n es h k
  unassigned lits n (tree.Seq p es) h k = all_unassigned lits n es h k
  unassigned lits n (tree.Fix p xs ls body) h k =
      let x = ref.Local n in
      let own = none_front (same_ref x) xs (valid.all_bound ls ++ valid.bound body) k in
      let others = none_back (same_ref x) xs (valid.all_bound ls ++ valid.bound body) k in
      let a = one_assigns same_ref x ls in
      let b = assigns same_ref x body in
      let seen = hidden_not (list_any (same_ref x) xs) (a || b) own h in
      has_neither (all_assigned (all_told lits ls)) (assigned (told lits body)) n
      (all_unassigned lits n ls (none_left a b seen) (none_front (same_ref x) (valid.all_bound ls) (valid.bound body) others))
      (unassigned lits n body (none_right a b seen) (none_back (same_ref x) (valid.all_bound ls) (valid.bound body) others))
  unassigned lits n (tree.Define p y e) h k = unassigned lits n e h k

  all_unassigned : (lits : List Lit) (n : ℕ) (es : Trees VarRef) → one_assigns same_ref (ref.Local n) es ≡ false
      → list_any (same_ref (ref.Local n)) (valid.all_bound es) ≡ false → has (all_assigned (all_told lits es)) n ≡ false
  all_unassigned lits n tree.none h k = refl
  all_unassigned lits n (tree.item e es) h k =
      let x = ref.Local n in
      has_neither (assigned (told lits e)) (all_assigned (all_told lits es)) n
      (unassigned lits n e (none_left (assigns same_ref x e) (one_assigns same_ref x es) h)
      (none_front (same_ref x) (valid.bound e) (valid.all_bound es) k))
      (all_unassigned lits n es (none_right (assigns same_ref x e) (one_assigns same_ref x es) h)
      (none_back (same_ref x) (valid.bound e) (valid.all_bound es) k))

  operands_unassigned : (lits : List Lit) (n : ℕ) (es : Trees VarRef) → one_assigns same_ref (ref.Local n) es ≡ false
      → list_any (same_ref (ref.Local n)) (valid.all_bound es) ≡ false → has (all_assigned (told_operands lits es)) n ≡ false
  operands_unassigned lits n tree.none h k = refl
  operands_unassigned lits n (tree.item e es) h k =
      let x = ref.Local n in
      has_neither (assigned (if is_hole lits e then Hole else told lits e)) (all_assigned (told_operands lits es)) n
      (either_unassigned n (is_hole lits e) Hole (told lits e) refl
      (unassigned lits n e (none_left (assigns same_ref x e) (one_assigns same_ref x es) h)
      (none_front (same_ref x) (valid.bound e) (valid.all_bound es) k)))
      (operands_unassigned lits n es (none_right (assigns same_ref x e) (one_assigns same_ref x es) h)
      (none_back (same_ref x) (valid.bound e) (valid.all_bound es) k))

-- Expressions are in their scopes

-- what is seen in the core is seen here
abbrev Covers : List VarRef → List ℕ → Type 0
Covers seen here = (n : ℕ) → list_any (same_ref (ref.Local n)) seen ≡ true → has here n ≡ true

covers_numbers : (xs : List VarRef) → Covers xs (numbers xs)
covers_numbers [] n h = h
covers_numbers (ref.Local m ∷ xs) n h =
    here (covers_numbers xs n) (or_cases (nat_eq n m) (list_any (same_ref (ref.Local n)) xs) h)
  where
    here : (list_any (same_ref (ref.Local n)) xs ≡ true → has (numbers xs) n ≡ true)
        → (nat_eq n m ≡ true) ⊎ (list_any (same_ref (ref.Local n)) xs ≡ true) → nat_eq n m || has (numbers xs) n ≡ true
    here others (inl e) = or_left (nat_eq n m) (has (numbers xs) n) e
    here others (inr e) = or_right (nat_eq n m) (has (numbers xs) n) (others e)
covers_numbers (ref.Top x ∷ xs) n h = or_right (nat_eq n 0) (has (numbers xs) n) (covers_numbers xs n h)

covers_both : (xs seen : List VarRef) (ys here : List ℕ) → Covers xs ys → Covers seen here → Covers (xs ++ seen) (ys ++ here)
covers_both xs seen ys own h k n e =
    one (or_cases (list_any (same_ref (ref.Local n)) xs) (list_any (same_ref (ref.Local n)) seen)
    (sym (list_any-append (same_ref (ref.Local n)) xs seen) ∙ e))
  where
    one : (list_any (same_ref (ref.Local n)) xs ≡ true) ⊎ (list_any (same_ref (ref.Local n)) seen ≡ true)
        → has (ys ++ own) n ≡ true
    one (inl e) = has_front ys own n (h n e)
    one (inr e) = has_back ys own n (k n e)

covers_params : (xs : List VarRef) (r : Option VarRef) → Covers (and_rest xs r) (all_params (numbers xs) (option_number r))
covers_params xs None = covers_numbers xs
covers_params xs (Some x) = covers_both xs (x ∷ []) (numbers xs) (number x ∷ []) (covers_numbers xs) (covers_numbers (x ∷ []))

front_distinct : (xs ys : List VarRef) → IsDistinct same_ref (xs ++ ys) → IsDistinct same_ref xs
unfolding IsDistinct
front_distinct [] ys h = tt
front_distinct (x ∷ xs) ys h = (front_each (λ y. same_ref x y ≡ false) xs ys h.0, front_distinct xs ys h.1)

back_distinct : (xs ys : List VarRef) → IsDistinct same_ref (xs ++ ys) → IsDistinct same_ref ys
unfolding IsDistinct
back_distinct [] ys h = h
back_distinct (x ∷ xs) ys h = back_distinct xs ys h.1

none_same : (x : VarRef) (ys : List VarRef) → AllByRecursion (λ y. same_ref x y ≡ false) ys → list_any (same_ref x) ys ≡ false
none_same x [] h = refl
none_same x (y ∷ ys) h = ap (λ b. b || list_any (same_ref x) ys) h.0 ∙ none_same x ys h.1

fix_unassigned : (lits : List Lit) (xs : List VarRef) (ls : Trees VarRef) (body : Tree VarRef) → AreLocal xs
    → NoneAssigned same_ref xs ls body → IsDistinct same_ref (xs ++ (valid.all_bound ls ++ valid.bound body))
    → AllByRecursion (λ n. has (all_assigned (all_told lits ls) ++ assigned (told lits body)) n ≡ false) (numbers xs)
unfolding IsDistinct
fix_unassigned lits [] ls body h k d = tt
fix_unassigned lits (ref.Top x ∷ xs) ls body h k d = absurd h
fix_unassigned lits (ref.Local n ∷ xs) ls body h k d =
    let x = ref.Local n in
    let inner = valid.all_bound ls ++ valid.bound body in
    let apart = none_same x inner (back_each (λ y. same_ref x y ≡ false) xs inner d.0) in (
      has_neither (all_assigned (all_told lits ls)) (assigned (told lits body)) n
          (all_unassigned lits n ls k.0 (none_front (same_ref x) (valid.all_bound ls) (valid.bound body) apart))
          (unassigned lits n body k.1 (none_back (same_ref x) (valid.all_bound ls) (valid.bound body) apart)),
      fix_unassigned lits xs ls body h k.2 d.1,
    )

reference_scoped : (seen : List VarRef) (here : List ℕ) → Covers seen here → (p : Pos) (x : VarRef) → IsSeen seen x
    → Scoped here (reference p x)
reference_scoped seen own c p (ref.Local n) h = c n h
reference_scoped seen own c p (ref.Top x) h = tt

assignment_scoped : (seen : List VarRef) (here : List ℕ) → Covers seen here → (p : Pos) (x : VarRef) (e : Expr)
    → IsSeen seen x → Scoped here e → Scoped here (assignment p x e)
assignment_scoped seen own c p (ref.Local n) e h k = (c n h, k)
assignment_scoped seen own c p (ref.Top x) e h k = k

as_operand : (here : List ℕ) (x : ℕ) (xs : List ℕ) (e : Expr) (es : Exprs) → Scoped here e → OperandsScoped here xs es
    → OperandsScoped here (x ∷ xs) (item e es)
as_operand own x xs Hole es h k = absurd h
as_operand own x xs e es h k = (h, k)

one_operand : (here : List ℕ) (x : ℕ) (xs : List ℕ) (b : Bool) (e : Expr) (es : Exprs) → (b ≡ false → Scoped here e)
    → OperandsScoped here xs es → OperandsScoped here (x ∷ xs) (item (if b then Hole else e) es)
one_operand own x xs true e es h k = k
one_operand own x xs false e es h k = as_operand own x xs e es (h refl) k

items_told : (lits : List Lit) (es : Trees VarRef) → valid.HasItem es → HasItem (all_told lits es)
items_told lits tree.none h = h
items_told lits (tree.item e es) h = tt

fine_or : (lits : List Lit) (x : VarRef) (body e : Tree VarRef)
    → IsFine lits same_ref e ⊎ (IsTrue (is_hole lits e) × IsTrue (assigns same_ref x body)) → is_hole lits e ≡ false
    → IsFine lits same_ref e
fine_or lits x body e (inl h) k = h
fine_or lits x body e (inr h) k = never (sym k ∙ h.0)

fine_direct : (lits : List Lit) (b : Bool) (xs : List VarRef) (body : Tree VarRef) (es : Trees VarRef) → b ≡ true
    → FineOperands lits same_ref (if b then xs else []) body es → FineOperands lits same_ref xs body es
fine_direct lits true xs body es e h = h
fine_direct lits false xs body es e h = never e

fine_plain : (lits : List Lit) (b : Bool) (xs : List VarRef) (body : Tree VarRef) (es : Trees VarRef) → b ≡ false
    → FineOperands lits same_ref (if b then xs else []) body es → AllFine lits same_ref es
fine_plain lits true xs body es e h = never (sym e)
fine_plain lits false xs body tree.none e h = tt
fine_plain lits false xs body (tree.item d es) e h = h

either_scoped : (here : List ℕ) (b : Bool) (d e : Expr) → (b ≡ true → Scoped here d) → (b ≡ false → Scoped here e)
    → Scoped here (if b then d else e)
either_scoped own true d e h k = h refl
either_scoped own false d e h k = k refl

mutual
  told_scoped : (lits : List Lit) (seen : List VarRef) (here : List ℕ) → Covers seen here → (e : Tree VarRef)
      → IsFine lits same_ref e → InScope seen e → IsDistinct same_ref (valid.bound e) → Scoped here (told lits e)
  told_scoped lits seen own c (tree.Const p l) h k d = tt
  told_scoped lits seen own c (tree.Ref p x) h k d = reference_scoped seen own c p x k
  told_scoped lits seen own c (tree.Lambda p xs r body) h k d =
      let ys = all_params (numbers xs) (option_number r) in
      told_scoped lits (and_rest xs r ++ seen) (ys ++ own) (covers_both (and_rest xs r) seen ys own (covers_params xs r) c)
      body h.1 k.1 (back_distinct (and_rest xs r) (valid.bound body) d)
  told_scoped lits seen own c (tree.If p test this that) h k d =
      let others = back_distinct (valid.bound test) (valid.bound this ++ valid.bound that) d in (
        told_scoped lits seen own c test h.0 k.0 (front_distinct (valid.bound test) _ d),
        told_scoped lits seen own c this h.1 k.1 (front_distinct (valid.bound this) (valid.bound that) others),
        told_scoped lits seen own c that h.2 k.2 (back_distinct (valid.bound this) (valid.bound that) others),
      )
  told_scoped lits seen own c (tree.Set p x e) h k d =
      assignment_scoped seen own c p x (told lits e) k.0 (told_scoped lits seen own c e h k.1 d)
  told_scoped lits seen own c (tree.Call p (tree.Lambda q xs None body) es) h k d =
      let f = tree.Lambda q xs None body in
      let front = front_distinct (xs ++ valid.bound body) (valid.all_bound es) d in
      let back = back_distinct (xs ++ valid.bound body) (valid.all_bound es) d in
      let b = nat_eq (length xs) (count es) in
      let inner =
      told_scoped lits (xs ++ seen) (numbers xs ++ own) (covers_both xs seen (numbers xs) own (covers_numbers xs) c) body
      h.1 k.0.1 (back_distinct xs (valid.bound body) front) in
      either_scoped own b _ _
      (λ e. (
        operands_scoped lits seen own c xs body es (fine_direct lits b xs body es e h.2) k.1 back (eqb-true (length xs) (count es) e),
        inner,
      ))
      (λ e. (inner, all_scoped lits seen own c es (fine_plain lits b xs body es e h.2) k.1 back))
  told_scoped lits seen own c (tree.Call p (tree.Lambda q xs (Some r) body) es) h k d =
      let zs = and_rest xs (Some r) in
      let ys = all_params (numbers xs) (Some (number r)) in
      let front = front_distinct (zs ++ valid.bound body) (valid.all_bound es) d in (
        told_scoped lits (zs ++ seen) (ys ++ own) (covers_both zs seen ys own (covers_params xs (Some r)) c) body h.0.1 k.0.1
            (back_distinct zs (valid.bound body) front),
        all_scoped lits seen own c es h.1 k.1 (back_distinct (zs ++ valid.bound body) (valid.all_bound es) d),
      )
  told_scoped lits seen own c (tree.Call p f es) h k d = (
    told_scoped lits seen own c f h.0 k.0 (front_distinct (valid.bound f) (valid.all_bound es) d),
    all_scoped lits seen own c es h.1 k.1 (back_distinct (valid.bound f) (valid.all_bound es) d),
  )
  told_scoped lits seen own c (tree.Prim p o es) h k d = all_scoped lits seen own c es h.1 k d
  told_scoped lits seen own c (tree.Seq p es) h k d = (items_told lits es h.0, all_scoped lits seen own c es h.1 k d)
  told_scoped lits seen own c (tree.Fix p xs ls body) h k d =
      let inner = covers_both xs seen (numbers xs) own (covers_numbers xs) c in
      let others = back_distinct xs (valid.all_bound ls ++ valid.bound body) d in (
        fix_unassigned lits xs ls body k.0 h.3 d,
        all_scoped lits (xs ++ seen) (numbers xs ++ own) inner ls h.4 k.1
            (front_distinct (valid.all_bound ls) (valid.bound body) others),
        told_scoped lits (xs ++ seen) (numbers xs ++ own) inner body h.5 k.2
            (back_distinct (valid.all_bound ls) (valid.bound body) others),
      )
  told_scoped lits seen own c (tree.Define p x e) h k d = absurd h

  all_scoped : (lits : List Lit) (seen : List VarRef) (here : List ℕ) → Covers seen here → (es : Trees VarRef)
      → AllFine lits same_ref es → AllInScope seen es → IsDistinct same_ref (valid.all_bound es)
      → AllScoped here (all_told lits es)
  all_scoped lits seen own c tree.none h k d = tt
  all_scoped lits seen own c (tree.item e es) h k d = (
    told_scoped lits seen own c e h.0 k.0 (front_distinct (valid.bound e) (valid.all_bound es) d),
    all_scoped lits seen own c es h.1 k.1 (back_distinct (valid.bound e) (valid.all_bound es) d),
  )

  operands_scoped : (lits : List Lit) (seen : List VarRef) (here : List ℕ) → Covers seen here → (xs : List VarRef)
      (body : Tree VarRef) (es : Trees VarRef) → FineOperands lits same_ref xs body es → AllInScope seen es
      → IsDistinct same_ref (valid.all_bound es) → length xs ≡ count es → OperandsScoped here (numbers xs) (told_operands lits es)
  operands_scoped lits seen own c [] body tree.none h k d e = tt
  operands_scoped lits seen own c (x ∷ xs) body tree.none h k d e = absurd (omega (arith, e))
  operands_scoped lits seen own c [] body (tree.item a es) h k d e = absurd (omega (arith, e))
  operands_scoped lits seen own c (x ∷ xs) body (tree.item a es) h k d e =
      one_operand own (number x) (numbers xs) (is_hole lits a) (told lits a) (told_operands lits es)
      (λ no.
      told_scoped lits seen own c a (fine_or lits x body a h.0 no) k.0
      (front_distinct (valid.bound a) (valid.all_bound es) d))
      (operands_scoped lits seen own c xs body es h.1 k.1 (back_distinct (valid.bound a) (valid.all_bound es) d) (omega (arith, e)))

form_scoped : (lits : List Lit) (e : Tree VarRef) → FineForm lits same_ref e → InScope [] e
    → IsDistinct same_ref (valid.bound e) → Scoped [] (told lits e)
form_scoped lits (tree.Define p x e) h k d = told_scoped lits [] [] (λ n e. e) e h k.1 d
form_scoped lits e h k d = told_scoped lits [] [] (λ n e. e) e h k d

pub forms_scoped : (lits : List Lit) (es : Trees VarRef) → FineForms lits same_ref es → AllInScope [] es
    → IsDistinct same_ref (valid.all_bound es) → AllScoped [] (all_told lits es)
forms_scoped lits tree.none h k d = tt
forms_scoped lits (tree.item e es) h k d = (
  form_scoped lits e h.0 k.0 (front_distinct (valid.bound e) (valid.all_bound es) d),
  forms_scoped lits es h.1 k.1 (back_distinct (valid.bound e) (valid.all_bound es) d),
)
