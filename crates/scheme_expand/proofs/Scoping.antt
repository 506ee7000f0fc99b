-- What is assigned in a scope, and which names are seen there.
use Rattle.std.proofs.Common.{◌≡◌, ℕ, zero, suc, ◌+◌, ◌<◌, ◌≤◌, List, [], ◌∷◌, ◌++◌, length, Option, Some, None, Bool, true, false, not, ◌&&◌, ◌||◌, ◌⊎◌, inl, inr, refl, sym, ap, ap₂, ◌∙◌, bytes_eq, arith}
use Rattle.std.specs.Prelude.{nat_le, nat_lt, if◌then◌else◌}
use Rattle.std.proofs.Math.Bool.{and-true, and-false}
use Rattle.std.proofs.lemmas.List.Folds.{list_any-append}
use Rattle.std.proofs.lemmas.Slice.Eq.{bytes_eq-Decides}
use Rattle.scheme_base.specs.Constants.{Constant, Constant as constant}
use Rattle.core_form.specs.Valid.{and_rest, assigns, one_assigns}
use Rattle.core_form.specs.Variables.{same_var}
use Rattle.draft_form.specs.Drafts.{Name, Draft, Drafts, Part, Local, Fresh, Top, Library, Const, Symbols, Ref, Lambda, If, Set, Call, Prim, Seq, Fix, Define, none, item, Changed, parts, all_parts, is_change, changes}
use Rattle.draft_form.specs.Numbers.{Given, At, var, named, numbered, all_numbered}
use Rattle.scheme_expand.specs.Rewriting.{found, variable, variables, unnamed, inside}
use Rattle.scheme_expand.proofs.GoodDrafts.{is_source, is_var, binds, assigned, one_assigned, IsTarget, HolesFor, Holes, AreBound, AreFixed, Good, AllGood}
use Rattle.scheme_expand.proofs.Assigning.{BeginsDigit, dot_not}

pub or_split : (a b : Bool) → (a || b) ≡ false → (a ≡ false) × (b ≡ false)
or_split true b h = absurd (apart h)
  where
    apart : true ≡ false → ⊥
    apart e = cc
or_split false b h = (refl, h)

pub and_split : (a b : Bool) → (a && b) ≡ true → (a ≡ true) × (b ≡ true)
and_split true b h = (refl, h)
and_split false b h = absurd (apart (sym h))
  where
    apart : true ≡ false → ⊥
    apart e = cc

pub apart : true ≡ false → ⊥
apart e = cc

pub some_none : {A : Type 0} (x : A) → Some x ≡ None → ⊥
some_none x e = cc

pub same_some : {A : Type 0} (o : Option A) (x y : A) → o ≡ Some x → o ≡ Some y → x ≡ y
same_some o x y h k = cc

pub changes_split : (k n : ℕ) (ps qs : List Part) → changes k n (ps ++ qs) ≡ false
    → (changes k n ps ≡ false) × (changes k n qs ≡ false)
changes_split k n ps qs h = or_split _ _ (sym (list_any-append (is_change k n) ps qs) ∙ h)

pub same_bytes : (a b : List ℕ) → bytes_eq a b ≡ true → a ≡ b
same_bytes a b e = (bytes_eq-Decides a b).0 e

pub bytes_same : (a : List ℕ) → bytes_eq a a ≡ true
bytes_same a = (bytes_eq-Decides a a).1 refl

pub source_not_empty : (x : List ℕ) → is_source x ≡ true → bytes_eq x [] ≡ false
source_not_empty [] h = absurd (apart (sym h))
source_not_empty (b ∷ x) h = refl

-- Names that are seen

pub bound_are : (xs : List Name) (r : Option Name) (k : ℕ) (ns : List (List ℕ)) → AreBound xs r k ns
    → and_rest xs r ≡ variables k ns
bound_are xs r k ns (inl words) = words.are
bound_are xs r k ns (inr fresh) = ap (and_rest xs) fresh.no_rest ∙ fresh.are

pub fixed_are : (xs : List Name) (k : ℕ) (ns : List (List ℕ)) (found : List Part) → AreFixed k xs ns found → AreBound xs None k ns
fixed_are xs k ns found (inl words) = inl words.0
fixed_are xs k ns found (inr fresh) = inr fresh

step_found : (x n : List ℕ) (bound : List (List ℕ)) → bytes_eq x n ≡ false → found (n ∷ bound) x ≡ found bound x
step_found x n bound h = ap (λ b. if b then Some (length bound) else found bound x) h

not_this : (x n : List ℕ) (k : ℕ) → is_source x ≡ true → is_var x (variable k n) ≡ false → bytes_eq x n ≡ false
not_this x [] k s h = source_not_empty x s
not_this x (b ∷ n) k s h = h

-- a name that is not bound inside means what it means outside
pub found_inside : (x : List ℕ) (k : ℕ) (ns bound : List (List ℕ)) → is_source x ≡ true
    → binds x (variables k ns) ≡ false → found (inside bound ns) x ≡ found bound x
found_inside x k [] bound s h = refl
found_inside x k (n ∷ ns) bound s h =
    let both = or_split _ _ h in
    found_inside x (suc k) ns (n ∷ bound) s both.1 ∙ step_found x n bound (not_this x n k s both.0)

pub binds_unnamed : (x : List ℕ) (k n : ℕ) → binds x (variables k (unnamed n)) ≡ false
binds_unnamed x k zero = refl
binds_unnamed x k (suc n) = binds_unnamed x (suc k) n

pub found_unnamed : (x : List ℕ) (n : ℕ) (bound : List (List ℕ)) → is_source x ≡ true
    → found (inside bound (unnamed n)) x ≡ found bound x
found_unnamed x n bound s = found_inside x 0 (unnamed n) bound s (binds_unnamed x 0 n)

pub length-inside : (bound ns : List (List ℕ)) → length (inside bound ns) ≡ length bound + length ns
length-inside bound [] = omega arith
length-inside bound (n ∷ ns) =
    let rest : length (inside (n ∷ bound) ns) ≡ suc (length bound) + length ns = length-inside (n ∷ bound) ns in
    omega arith

-- Assignments that are seen in the parts of a draft

hidden : (b c : Bool) → (b ≡ false → c ≡ false) → (not b && c) ≡ false
hidden true c f = refl
hidden false c f = f refl

holes_assign : (x : List ℕ) (xs : List Name) (e : Draft) (es : Drafts) → HolesFor xs e es → one_assigned x es ≡ false
holes_assign x [] e none h = refl
holes_assign x [] e (item d ds) h = absurd h
holes_assign x (y ∷ ys) e none h = absurd h
holes_assign x (y ∷ ys) e (item (Const p constant.Undefined) ds) h = holes_assign x ys e ds h.2
holes_assign x (y ∷ ys) e (item d ds) h = absurd h.1

any_holes_assign : (x : List ℕ) (e : Draft) (es : Drafts) → Holes e es → one_assigned x es ≡ false
any_holes_assign x (Lambda p xs None e) es h = holes_assign x xs e es h
any_holes_assign x e es h = absurd h

in_range : (j k level n : ℕ) → j ≡ k → level ≤ k → k < level + n → (nat_le level j && nat_lt j (level + n)) ≡ false → ⊥
in_range j k level n e low high h = grind arith

not_set : (bound : List (List ℕ)) (x : List ℕ) (k level n : ℕ) (y : Name) → IsTarget bound y → found bound x ≡ Some k
    → level ≤ k → k < level + n → is_change level n (Changed y) ≡ false → is_var x y ≡ false
not_set bound x k level n (Local j z) t f low high h = decided (bytes_eq x z) refl
  where
    decided : (b : Bool) → bytes_eq x z ≡ b → bytes_eq x z ≡ false
    decided false e = e
    decided true e =
        absurd
        (in_range j k level n
        (same_some (found bound x) j k (ap (found bound) (same_bytes x z e) ∙ t.0) f) low high h)
not_set bound x k level n (Fresh j) t f low high h = absurd t
not_set bound x k level n (Top z) t f low high h = decided (bytes_eq x z) refl
  where
    decided : (b : Bool) → bytes_eq x z ≡ b → bytes_eq x z ≡ false
    decided false e = e
    decided true e = absurd (some_none k (sym f ∙ (ap (found bound) (same_bytes x z e) ∙ t.0)))
not_set bound x k level n (Library z) t f low high h = refl

operands_unassigned : (bound : List (List ℕ)) (x : List ℕ) (e : Draft) (es : Drafts)
    → (AllGood bound es → one_assigned x es ≡ false) → AllGood bound es ⊎ Holes e es → one_assigned x es ≡ false
operands_unassigned bound x e es all (inl g) = all g
operands_unassigned bound x e es all (inr g) = any_holes_assign x e es g

mutual
  -- a variable whose level no part changes is not assigned
  pub unassigned : (level n : ℕ) (x : List ℕ) (k : ℕ) (bound : List (List ℕ)) (e : Draft) → is_source x ≡ true
      → level ≤ k → k < level + n → Good bound e → found bound x ≡ Some k → changes level n (parts e) ≡ false
      → assigned x e ≡ false
  unassigned level n x k bound (Const p c) s low high g f h = refl
  unassigned level n x k bound (Symbols p) s low high g f h = refl
  unassigned level n x k bound (Ref p y) s low high g f h = refl
  unassigned level n x k bound (Lambda p xs r e) s low high g f h =
      hidden (binds x (and_rest xs r)) (assigned x e)
      (λ b. unassigned level n x k (inside bound g.0) e s low high g.2
      (found_inside x (length bound) g.0 bound s (ap (binds x) (sym (bound_are xs r (length bound) g.0 g.1)) ∙ b) ∙ f) h)
  unassigned level n x k bound (If p test this that) s low high g f h =
      let first = changes_split level n (parts test) (parts this ++ parts that) h in
      let second = changes_split level n (parts this) (parts that) first.1 in
      ap₂ (λ a b. a || b)
      (ap₂ (λ a b. a || b) (unassigned level n x k bound test s low high g.0 f first.0)
      (unassigned level n x k bound this s low high g.1 f second.0))
      (unassigned level n x k bound that s low high g.2 f second.1)
  unassigned level n x k bound (Set p y e) s low high g f h =
      let both = or_split _ _ h in
      ap₂ (λ a b. a || b) (not_set bound x k level n y g.0 f low high both.0)
      (unassigned level n x k bound e s low high g.1 f both.1)
  unassigned level n x k bound (Call p e es) s low high g f h =
      let both = changes_split level n (parts e) (all_parts es) h in
      ap₂ (λ a b. a || b) (unassigned level n x k bound e s low high g.0 f both.0)
      (operands_unassigned bound x e es (λ a. all_unassigned level n x k bound es s low high a f both.1) g.1)
  unassigned level n x k bound (Prim p o es) s low high g f h = all_unassigned level n x k bound es s low high g.1 f h
  unassigned level n x k bound (Seq p es) s low high g f h = all_unassigned level n x k bound es s low high g.1 f h
  unassigned level n x k bound (Fix p xs es e) s low high g f h =
      let both = changes_split level n (all_parts es) (parts e) h in
      hidden (binds x xs) (one_assigned x es || assigned x e)
      (λ b.
      let here : found (inside bound g.0) x ≡ Some k =
      found_inside x (length bound) g.0 bound s (ap (binds x) (sym (bound_are xs None (length bound) g.0 (fixed_are xs (length bound) g.0 (all_parts es ++ parts e) g.1))) ∙ b) ∙ f in
      ap₂ (λ a b. a || b) (all_unassigned level n x k (inside bound g.0) es s low high g.4 here both.0)
      (unassigned level n x k (inside (inside bound g.0) (unnamed (length g.0))) e s low high g.5
      (found_unnamed x (length g.0) (inside bound g.0) s ∙ here) both.1))
  unassigned level n x k bound (Define p y e) s low high g f h = absurd g

  pub all_unassigned : (level n : ℕ) (x : List ℕ) (k : ℕ) (bound : List (List ℕ)) (es : Drafts) → is_source x ≡ true
      → level ≤ k → k < level + n → AllGood bound es → found bound x ≡ Some k
      → changes level n (all_parts es) ≡ false → one_assigned x es ≡ false
  all_unassigned level n x k bound none s low high g f h = refl
  all_unassigned level n x k bound (item e es) s low high g f h =
      let both = changes_split level n (parts e) (all_parts es) h in
      ap₂ (λ a b. a || b) (unassigned level n x k bound e s low high g.0 f both.0)
      (all_unassigned level n x k bound es s low high g.1 f both.1)

-- Fresh variables are never assigned

nothing_hidden : (a b : Bool) → b ≡ false → (a && b) ≡ false
nothing_hidden true b h = h
nothing_hidden false b h = refl

not_named : (t : List ℕ) (g : Given) (bound : List (List ℕ)) (y : Name) → BeginsDigit t → IsTarget bound y
    → same_var (var (46 ∷ t)) (named g y) ≡ false
not_named t g bound (Local k z) d h = and-true _ ∙ dot_not z t h.1 d
not_named t g bound (Fresh k) d h = absurd h
not_named t g bound (Top z) d h = and-true _ ∙ dot_not z t h.1 d
not_named t g bound (Library z) d h = and-false _

holes_numbered : (x : List ℕ) (symbols : Constant) (g : Given) (xs : List Name) (e : Draft) (es : Drafts) (at : At)
    → HolesFor xs e es → one_assigns same_var (var x) (all_numbered symbols g at es) ≡ false
holes_numbered x symbols g [] e none at h = refl
holes_numbered x symbols g [] e (item d ds) at h = absurd h
holes_numbered x symbols g (y ∷ ys) e none at h = absurd h
holes_numbered x symbols g (y ∷ ys) e (item (Const p constant.Undefined) ds) at h = holes_numbered x symbols g ys e ds _ h.2
holes_numbered x symbols g (y ∷ ys) e (item d ds) at h = absurd h.1

any_holes_numbered : (x : List ℕ) (symbols : Constant) (g : Given) (at : At) (e : Draft) (es : Drafts) → Holes e es
    → one_assigns same_var (var x) (all_numbered symbols g at es) ≡ false
any_holes_numbered x symbols g at (Lambda p xs None e) es h = holes_numbered x symbols g xs e es at h
any_holes_numbered x symbols g at e es h = absurd h

operands_never : (bound : List (List ℕ)) (t : List ℕ) (symbols : Constant) (g : Given) (at : At) (e : Draft) (es : Drafts)
    → (AllGood bound es → one_assigns same_var (var (46 ∷ t)) (all_numbered symbols g at es) ≡ false)
    → AllGood bound es ⊎ Holes e es → one_assigns same_var (var (46 ∷ t)) (all_numbered symbols g at es) ≡ false
operands_never bound t symbols g at e es all (inl h) = all h
operands_never bound t symbols g at e es all (inr h) = any_holes_numbered (46 ∷ t) symbols g at e es h

mutual
  pub never : (t : List ℕ) (d : BeginsDigit t) (symbols : Constant) (g : Given) (at : At) (bound : List (List ℕ)) (e : Draft) → Good bound e
      → assigns same_var (var (46 ∷ t)) (numbered symbols g at e) ≡ false
  never t d symbols g at bound (Const p c) h = refl
  never t d symbols g at bound (Symbols p) h = refl
  never t d symbols g at bound (Ref p y) h = refl
  never t d symbols g at bound (Lambda p xs r e) h =
      nothing_hidden _ _ (never t d symbols _ _ (inside bound h.0) e h.2)
  never t d symbols g at bound (If p test this that) h =
      ap₂ (λ a b. a || b)
      (ap₂ (λ a b. a || b) (never t d symbols _ _ bound test h.0) (never t d symbols _ _ bound this h.1))
      (never t d symbols _ _ bound that h.2)
  never t d symbols g at bound (Set p y e) h =
      ap₂ (λ a b. a || b) (not_named t g bound y d h.0) (never t d symbols _ _ bound e h.1)
  never t d symbols g at bound (Call p e es) h =
      ap₂ (λ a b. a || b) (never t d symbols _ _ bound e h.0) (operands_never bound t symbols _ _ e es (all_never t d symbols _ _ bound es) h.1)
  never t d symbols g at bound (Prim p o es) h = all_never t d symbols _ _ bound es h.1
  never t d symbols g at bound (Seq p es) h = all_never t d symbols _ _ bound es h.1
  never t d symbols g at bound (Fix p xs es e) h =
      nothing_hidden _ _
      (ap₂ (λ a b. a || b) (all_never t d symbols _ _ (inside bound h.0) es h.4)
      (never t d symbols _ _ (inside (inside bound h.0) (unnamed (length h.0))) e h.5))
  never t d symbols g at bound (Define p y e) h = absurd h

  pub all_never : (t : List ℕ) (d : BeginsDigit t) (symbols : Constant) (g : Given) (at : At) (bound : List (List ℕ)) (es : Drafts)
      → AllGood bound es → one_assigns same_var (var (46 ∷ t)) (all_numbered symbols g at es) ≡ false
  all_never t d symbols g at bound none h = refl
  all_never t d symbols g at bound (item e es) h =
      ap₂ (λ a b. a || b) (never t d symbols _ _ bound e h.0) (all_never t d symbols _ _ bound es h.1)
