-- The drafts of procedures and of a `letrec`, by the variables that they bind.
use Rattle.std.proofs.Common.{◌≡◌, ℕ, zero, suc, ◌+◌, ◌≤◌, ◌<◌, ◌⊎◌, inl, inr, List, [], ◌∷◌, ◌++◌, length, Some, None, Bool, true, false, not, ◌&&◌, if◌then◌else◌, refl, sym, ap, ap₂, subst, ◌∙◌, append-nil, append_assoc, arith}
use Rattle.std.specs.Prelude.{map, nat_lt}
use Rattle.std.proofs.lemmas.Bool.{lt-ltb, ltb-true, ltb-false}
use Rattle.std.proofs.lemmas.List.{length-append, length-map, map-append}
use Rattle.scheme_base.specs.declared.pos.Pos.{Pos}
use Rattle.scheme_base.specs.Constants.{Constant as constant}
use Rattle.draft_form.specs.declared.draft.Drafts.{Drafts as Table}
use Rattle.draft_form.specs.declared.draft.Variable.{Variable}
use Rattle.draft_form.specs.Drafts.{Name, Draft, Drafts, Fresh, Const, Ref, Lambda, Seq, Set, Call, none, item, ◌then◌}
use Rattle.draft_form.specs.Drawn.{name_of, Names, Data, Drawn, AllDrawn}
use Rattle.scheme_expand.specs.declared.make.Maker.{Maker}
use Rattle.scheme_expand.specs.Making.{all_but_last, from_level, lambda_made, last_of, left_of, letrec_made, letrec_of, one_assigned, taken}
use Rattle.scheme_expand.specs.Rewriting.{assignments, inside, letrec_by_set, level, undefined, unnamed, variable, variables, Scope}
use Rattle.scheme_expand.specs.Stacks.{Draws, Gives}
use Rattle.scheme_expand.specs.Views.{Bound, Context, View, leave, lowered, scope_of}
use Rattle.scheme_expand.proofs.AddedDrafts.{one_more_drawn}
use Rattle.scheme_expand.proofs.Scopes.{variables_behind}
use Rattle.scheme_expand.proofs.Stacks.{holding, is_given, One}

-- Parameters

before_last : {A : Type 0} (xs : List A) (x : A) → all_but_last (xs ++ x ∷ []) ≡ xs
before_last [] x = refl
before_last (y ∷ []) x = refl
before_last (y ∷ z ∷ xs) x = ap (λ l. y ∷ l) (before_last (z ∷ xs) x)

last_is_last : {A : Type 0} (xs : List A) (x : A) → last_of (xs ++ x ∷ []) ≡ Some x
last_is_last [] x = refl
last_is_last (y ∷ []) x = refl
last_is_last (y ∷ z ∷ xs) x = last_is_last (z ∷ xs) x

pub rest_made : (names : Names) (p : Pos) (e : Draft) (all params : List Variable) (last : Variable) → all ≡ params ++ last ∷ []
    → lambda_made p true (map (name_of names) all) e ≡ Lambda p (map (name_of names) params) (Some (name_of names last)) e
rest_made names p e all params last h =
    let f = name_of names in
    let whole : map f all ≡ map f params ++ f last ∷ [] = ap (map f) h ∙ map-append f params (last ∷ []) in
    ap₂ (λ xs r. Lambda p xs r e) (ap all_but_last whole ∙ before_last (map f params) (f last))
    (ap last_of whole ∙ last_is_last (map f params) (f last))

pub no_rest_made : (names : Names) (p : Pos) (e : Draft) (all params : List Variable) → all ≡ [] → params ≡ []
    → lambda_made p true (map (name_of names) all) e ≡ Lambda p (map (name_of names) params) None e
no_rest_made names p e all params h k =
    let f = name_of names in
    ap (λ vs. lambda_made p true (map f vs) e) h ∙ ap (λ vs. Lambda p (map f vs) None e) (sym k)

-- Fresh variables

unnamed_behind : (n : ℕ) → unnamed (suc n) ≡ unnamed n ++ [] ∷ []
unnamed_behind zero = refl
unnamed_behind (suc n) = ap (λ l. [] ∷ l) (unnamed_behind n)

pub many_unnamed : (n : ℕ) → length (unnamed n) ≡ n
many_unnamed zero = refl
many_unnamed (suc n) = ap suc (many_unnamed n)

pub one_fresh_behind : (names : Names) (level n high : ℕ) (vs more : List Variable) (v : Variable) → map (name_of names) vs ≡ variables level (unnamed n)
    → high ≡ level + n → name_of names v ≡ Fresh high → more ≡ vs ++ v ∷ []
    → map (name_of names) more ≡ variables level (unnamed (n + 1))
one_fresh_behind names level n high vs more v h at is e =
    let f = name_of names in
    let next : suc n ≡ n + 1 = omega arith in
    let there : high ≡ level + length (unnamed n) = at ∙ ap (λ m. level + m) (sym (many_unnamed n)) in
    ap (map f) e
    ∙ (map-append f vs (v ∷ [])
    ∙ (ap₂ (λ xs x. xs ++ x ∷ []) h (is ∙ ap Fresh there)
    ∙ (sym (variables_behind level (unnamed n) [])
    ∙ ap (variables level) (sym (unnamed_behind n) ∙ ap unnamed next))))

-- Assignments

assignments_behind : (p : Pos) (j k : ℕ) (xs : List (List ℕ)) (x : List ℕ)
    → assignments p j k (xs ++ x ∷ []) ≡ assignments p j k xs then item (Set p (variable (j + length xs) x) (Ref p (Fresh (k + length xs)))) none
assignments_behind p j k [] x =
    let first : j ≡ j + 0 = omega arith in
    let second : k ≡ k + 0 = omega arith in
    ap₂ (λ i l. item (Set p (variable i x) (Ref p (Fresh l))) none) first second
assignments_behind p j k (y ∷ xs) x =
    let first : suc j + length xs ≡ j + suc (length xs) = omega arith in
    let second : suc k + length xs ≡ k + suc (length xs) = omega arith in
    ap (item (Set p (variable j y) (Ref p (Fresh k))))
    (assignments_behind p (suc j) (suc k) xs x
    ∙ ap₂ (λ i l. assignments p (suc j) (suc k) xs then item (Set p (variable i x) (Ref p (Fresh l))) none) first second)

-- some of these variables are assigned, and others are left
pub record Assigned (names : Names) (nodes : Data) (t : Table) (p : Pos) (to from next : ℕ) (items : List ℕ) (rest : List Variable) (xs : List (List ℕ)) : Type 0 where
  pub done : List (List ℕ)
  pub left : List (List ℕ)
  pub are : xs ≡ done ++ left
  pub others : map (name_of names) rest ≡ variables (to + length done) left
  pub drawn : AllDrawn names nodes t items (assignments p to from done)
  pub high : next ≡ from + length done

pub none_assigned : (names : Names) (nodes : Data) (t : Table) (p : Pos) (to from : ℕ) (items : List ℕ) (rest : List Variable) (xs : List (List ℕ))
    → items ≡ [] → map (name_of names) rest ≡ variables to xs → Assigned names nodes t p to from from items rest xs
none_assigned names nodes t p to from items rest xs empty h =
    let low : to ≡ to + 0 = omega arith in
    record { done = []; left = xs; are = refl; others = h ∙ ap (λ k. variables k xs) low; drawn = empty; high = omega arith }

pub one_assigned_more : (names : Names) (nodes : Data) (s t : Table) (p : Pos) (to from next after id : ℕ) (items more : List ℕ) (rest others : List Variable)
    (v : Variable) (xs : List (List ℕ)) → Assigned names nodes s p to from next items rest xs
    → ((es : Drafts) → AllDrawn names nodes s items es → AllDrawn names nodes t items es) → rest ≡ v ∷ others
    → Drawn names nodes t id (Set p (name_of names v) (Ref p (Fresh next))) → more ≡ items ++ id ∷ [] → after ≡ next + 1
    → Assigned names nodes t p to from after more others xs
one_assigned_more names nodes s t p to from next after id items more rest others v xs h keeps e drawn m a =
    by_left h.left h.are (sym (ap (map (name_of names)) e) ∙ h.others)
  where
    by_left : (left : List (List ℕ)) → xs ≡ h.done ++ left → name_of names v ∷ map (name_of names) others ≡ variables (to + length h.done) left
        → Assigned names nodes t p to from after more others xs
    by_left [] are these = absurd (cc)
    by_left (x ∷ left) are these =
        let count : length (h.done ++ x ∷ []) ≡ length h.done + length (x ∷ []) = length-append h.done (x ∷ []) in
        let first : name_of names v ≡ variable (to + length h.done) x = cc in
        let tail : map (name_of names) others ≡ variables (suc (to + length h.done)) left = cc in
        let above : suc (to + length h.done) ≡ to + length (h.done ++ x ∷ []) = omega arith in
        let set : Draft = Set p (variable (to + length h.done) x) (Ref p (Fresh (from + length h.done))) in
        let here : Drawn names nodes t id set =
        subst (λ k. Drawn names nodes t id (Set p (variable (to + length h.done) x) (Ref p (Fresh k)))) h.high
        (subst (λ y. Drawn names nodes t id (Set p y (Ref p (Fresh next)))) first drawn) in
        let P : Drafts → Type 0 = λ es. AllDrawn names nodes t more es in
        record {
          done = h.done ++ x ∷ [];
          left = left;
          are = are ∙ sym (append_assoc h.done (x ∷ []) left);
          others = tail ∙ ap (λ k. variables k left) above;
          drawn =
              subst P (sym (assignments_behind p to from h.done x))
              (one_more_drawn names nodes t items more id (assignments p to from h.done) set m (keeps (assignments p to from h.done) h.drawn) here);
          high = omega (arith, h.high, a, count);
        }

pub all_assigned : (names : Names) (nodes : Data) (t : Table) (p : Pos) (to from next : ℕ) (items : List ℕ) (rest : List Variable) (xs : List (List ℕ))
    → Assigned names nodes t p to from next items rest xs → rest ≡ [] → AllDrawn names nodes t items (assignments p to from xs)
all_assigned names nodes t p to from next items rest xs h e = by_left h.left h.are (sym (ap (map (name_of names)) e) ∙ h.others)
  where
    by_left : (left : List (List ℕ)) → xs ≡ h.done ++ left → [] ≡ variables (to + length h.done) left
        → AllDrawn names nodes t items (assignments p to from xs)
    by_left [] are these =
        subst (λ ys. AllDrawn names nodes t items (assignments p to from ys)) (sym (are ∙ append-nil h.done)) h.drawn
    by_left (x ∷ left) are these = absurd (cc)

-- Values that are undefined

one_undefined : (p : Pos) (x : List ℕ) (xs : List (List ℕ))
    → undefined p (x ∷ xs) ≡ undefined p xs then item (Const p constant.Undefined) none
one_undefined p x [] = refl
one_undefined p x (y ∷ xs) = ap (item (Const p constant.Undefined)) (one_undefined p y xs)

pub undefined_more : (names : Names) (nodes : Data) (s t : Table) (p : Pos) (n id : ℕ) (items more : List ℕ)
    → ((xs : List (List ℕ)) → length xs ≡ n → AllDrawn names nodes s items (undefined p xs))
    → ((es : Drafts) → AllDrawn names nodes s items es → AllDrawn names nodes t items es) → Drawn names nodes t id (Const p constant.Undefined)
    → more ≡ items ++ id ∷ [] → (xs : List (List ℕ)) → length xs ≡ n + 1 → AllDrawn names nodes t more (undefined p xs)
undefined_more names nodes s t p n id items more h keeps drawn m [] e = absurd (omega (arith, e))
undefined_more names nodes s t p n id items more h keeps drawn m (x ∷ xs) e =
    let count : length xs ≡ n = omega (arith, e) in
    let P : Drafts → Type 0 = λ es. AllDrawn names nodes t more es in
    subst P (sym (one_undefined p x xs))
    (one_more_drawn names nodes t items more id (undefined p xs) (Const p constant.Undefined) m (keeps (undefined p xs) (h xs count)) drawn)

-- The scope outside

length_inside : (bound xs : List (List ℕ)) → length (inside bound xs) ≡ length bound + length xs
length_inside bound [] = omega arith
length_inside bound (x ∷ xs) =
    let rest : length (inside (x ∷ bound) xs) ≡ suc (length bound) + length xs = length_inside (x ∷ bound) xs in omega arith

-- what is inside so many variables of a scope
pub level_within : (s : Scope) (xs : List (List ℕ)) → length (inside s.bound xs) ≡ level s + length xs
level_within s xs = length_inside s.bound xs

height_lowered : (k : ℕ) (bs : List Bound) → k ≤ length bs → length (lowered k bs) ≡ k
height_lowered k [] h = omega (arith, h)
height_lowered k (b ∷ bs) h = by_test (height_lowered k bs) (nat_lt (length bs) k) refl
  where
    by_test : (k ≤ length bs → length (lowered k bs) ≡ k) → (t : Bool) → nat_lt (length bs) k ≡ t
        → length (if t then b ∷ bs else lowered k bs) ≡ k
    by_test others true e =
        let low : length bs < k = ltb-true (length bs) k e in omega (arith, low, h)
    by_test others false e = others (ltb-false (length bs) k e)

none_from : (k : ℕ) (bs : List Bound) → length bs < k → from_level k bs ≡ []
none_from k [] h = refl
none_from k (b ∷ bs) h =
    let low : length bs < k = omega (arith, h) in
    ap (λ t. if t then [] else from_level k bs ++ b.name ∷ []) (lt-ltb (length bs) k low)

-- the level at which variables are bound, if there are some
pub bound_at : (c : Context) (k : ℕ) (v : View) → (level (scope_of c (leave k v)) ≡ k) ⊎ (from_level k v.bound ≡ [])
bound_at c k v = by_test (nat_lt (length v.bound) k) refl
  where
    by_test : (t : Bool) → nat_lt (length v.bound) k ≡ t → (level (scope_of c (leave k v)) ≡ k) ⊎ (from_level k v.bound ≡ [])
    by_test true e = inr (none_from k v.bound (ltb-true (length v.bound) k e))
    by_test false e =
        inl
        (length-map (lowered k v.bound) (λ b. b.name) ∙ height_lowered k v.bound (ltb-false (length v.bound) k e))

-- A `letrec`

-- some scope of a level
abbrev at_level : (s : Scope) (k : ℕ) → Scope
at_level s k = record { side = s.side; bound = unnamed k }

pub levels_same : (s : Scope) (k : ℕ) (xs : List (List ℕ)) → (level s ≡ k) ⊎ (xs ≡ []) → variables (level s) xs ≡ variables k xs
levels_same s k xs (inl e) = ap (λ j. variables j xs) e
levels_same s k [] (inr e) = refl
levels_same s k (x ∷ xs) (inr e) = absurd (cc)

-- without variables the scope has no part in it
by_set_anywhere : (p : Pos) (s t : Scope) (xs : List (List ℕ)) (es : Drafts) (e : Draft) → xs ≡ []
    → letrec_by_set p s xs es e ≡ letrec_by_set p t xs es e
by_set_anywhere p s t [] es e h = refl
by_set_anywhere p s t (x ∷ xs) es e h = absurd (cc)

pub set_drawn : (names : Names) (nodes : Data) (t : Table) (id k : ℕ) (p : Pos) (s : Scope) (xs : List (List ℕ)) (es : Drafts) (e : Draft)
    → (level s ≡ k) ⊎ (xs ≡ []) → ((u : Scope) → level u ≡ k → Drawn names nodes t id (letrec_by_set p u xs es e))
    → Drawn names nodes t id (letrec_by_set p s xs es e)
set_drawn names nodes t id k p s xs es e (inl at) h = h s at
set_drawn names nodes t id k p s xs es e (inr empty) h =
    subst (Drawn names nodes t id) (by_set_anywhere p (at_level s k) s xs es e empty) (h (at_level s k) (many_unnamed k))

pub letrec_given : (c : Context) (m n : Maker) (id body many k : ℕ) (p : Pos) (lambdas is_fix : Bool) (v w : View)
    → One c m body (holding (leave k v) (left_of many v.made)) → many ≡ length (from_level k v.bound) → Draws m n
    → (lambdas && not (one_assigned k v.bound)) ≡ is_fix
    → ((d : Draft) → Drawn c.names c.source.nodes.now m.drafts body d → Drawn c.names c.source.nodes.now n.drafts id (letrec_made p is_fix (scope_of c (leave k v)) (from_level k v.bound) (taken many v.made) d))
    → w ≡ letrec_of p k (lambdas && not (one_assigned k v.bound)) (scope_of c (leave k v)) (from_level k v.bound) (taken (length (from_level k v.bound)) v.made) v (left_of (length (from_level k v.bound)) v.made)
    → Gives c n id w
letrec_given c m n id body many k p lambdas is_fix v w one count draws flag drawn e =
    let s : Scope = scope_of c (leave k v) in
    let xs : List (List ℕ) = from_level k v.bound in
    is_given c m n id (leave k v) w one.others (letrec_made p is_fix s xs (taken many v.made) one.draft) one.made draws (drawn one.draft one.drawn)
    (e
    ∙ (ap (λ b. letrec_of p k b s xs (taken (length xs) v.made) v (left_of (length xs) v.made)) flag
    ∙ (ap (λ q. letrec_of p k is_fix s xs (taken q v.made) v (left_of q v.made)) (sym count)
    ∙ ap (letrec_of p k is_fix s xs (taken many v.made) v) one.are)))

-- as many variables as names
pub many_variables : (names : Names) (k : ℕ) (vs : List Variable) (xs : List (List ℕ)) → map (name_of names) vs ≡ variables k xs → length vs ≡ length xs
many_variables names k vs xs h = sym (length-map vs (name_of names)) ∙ (ap length h ∙ many k xs)
  where
    many : (j : ℕ) (ys : List (List ℕ)) → length (variables j ys) ≡ length ys
    many j [] = refl
    many j (y ∷ ys) = ap suc (many (suc j) ys)

-- the variables of a `letrec` by assignments, and what is inside them
pub set_is_drawn : (names : Names) (nodes : Data) (t : Table) (id k high : ℕ) (p : Pos) (s : Scope) (xs : List (List ℕ)) (es : Drafts) (e : Draft)
    (vs fresh : List Variable) → level s ≡ k → high ≡ k + length xs → map (name_of names) vs ≡ variables k xs
    → map (name_of names) fresh ≡ variables high (unnamed (length xs))
    → Drawn names nodes t id (Call p (Lambda p (map (name_of names) vs) None (Call p (Lambda p (map (name_of names) fresh) None (Seq p (assignments p k high xs then item (Call p (Lambda p [] None e) none) none))) es)) (undefined p xs))
    → Drawn names nodes t id (letrec_by_set p s xs es e)
set_is_drawn names nodes t id k high p s xs es e vs fresh at above named freshly h =
    let inner : high ≡ length (inside s.bound xs) = above ∙ (ap (λ j. j + length xs) (sym at) ∙ sym (level_within s xs)) in
    let P : List Name → List Name → ℕ → ℕ → Type 0 =
    λ outside within low top. Drawn names nodes t id (Call p (Lambda p outside None (Call p (Lambda p within None (Seq p (assignments p low top xs then item (Call p (Lambda p [] None e) none) none))) es)) (undefined p xs)) in
    let one : P (variables k xs) (map (name_of names) fresh) k high = subst (λ ys. P ys (map (name_of names) fresh) k high) named h in
    let two : P (variables k xs) (variables high (unnamed (length xs))) k high = subst (λ ys. P (variables k xs) ys k high) freshly one in
    let three : P (variables k xs) (variables (length (inside s.bound xs)) (unnamed (length xs))) k (length (inside s.bound xs)) =
    subst (λ j. P (variables k xs) (variables j (unnamed (length xs))) k j) inner two in
    subst (λ j. P (variables j xs) (variables (length (inside s.bound xs)) (unnamed (length xs))) j (length (inside s.bound xs))) (sym at) three
