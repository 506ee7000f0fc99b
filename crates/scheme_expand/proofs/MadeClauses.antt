-- The clauses of a `cond` and of a `case` that are made from the last to the first are those of the definition.
use Rattle.std.proofs.Common.{ℕ, ◌≡◌, List, [], ◌∷◌, ◌++◌, false, None, refl, sym, ap, ◌∙◌, append_assoc, append-nil}
use Rattle.std.proofs.lemmas.List.{length-map}
use Rattle.scheme_base.specs.declared.pos.Pos.{Pos}
use Rattle.scheme_base.specs.Constants.{Constant, Constant as constant}
use Rattle.draft_form.specs.Drafts.{Name, Draft, Fresh, Const, Ref, Lambda, If, Call, Seq, none, item, Part, Held, Referred, parts}
use Rattle.scheme_expand.specs.declared.step.Step.TheVariants as step
use Rattle.scheme_expand.specs.Calls.{one}
use Rattle.scheme_expand.specs.Forms.{Exp, Clauses, Cases, no_clause, otherwise, value, clause, passing, no_case, others, one_of}
use Rattle.scheme_expand.specs.Holding.{before_clauses, before_cases}
use Rattle.scheme_expand.specs.Making.{makes, sequenced, received, clauses_made, cases_made}
use Rattle.scheme_expand.specs.Rewriting.{Scope, level, within, is_one_of, call, core, cores, clauses_core, cases_core}
use Rattle.scheme_expand.specs.Views.{Context, View, scope_of, height, pushed, visit, seen, bind, leave, below}
use Rattle.scheme_expand.proofs.Noting.{Alike, alike, alike_sym, alike_twice, alike_held, alike_referred, alike_swap, alike_both, noting_alike, noting_none, noting_both, visit_scope, length-raised, standing, sequence_standing, leave_bound, leave_visit}

-- Parts in another order

-- three parts from the last to the first
alike_backwards : (xs ys zs : List Part) → Alike (zs ++ (ys ++ (xs ++ []))) (xs ++ (ys ++ zs))
alike_backwards xs ys zs =
    alike_twice (zs ++ (ys ++ (xs ++ []))) ((ys ++ (xs ++ [])) ++ zs) (xs ++ (ys ++ zs))
    (alike_swap zs (ys ++ (xs ++ [])))
    (alike_twice ((ys ++ (xs ++ [])) ++ zs) ((xs ++ ys) ++ zs) (xs ++ (ys ++ zs))
    (alike_both (ys ++ (xs ++ [])) (xs ++ ys) zs zs
    (alike_twice (ys ++ (xs ++ [])) (ys ++ xs) (xs ++ ys) (alike (ys ++ (xs ++ [])) (ys ++ xs) (ap (λ l. ys ++ l) (append-nil xs)))
    (alike_swap ys xs))
    (alike zs zs refl))
    (alike ((xs ++ ys) ++ zs) (xs ++ (ys ++ zs)) (append_assoc xs ys zs)))

-- the first two exchanged, before others
alike_crossed : (xs ys zs : List Part) → Alike (xs ++ (ys ++ zs)) ((ys ++ xs) ++ zs)
alike_crossed xs ys zs =
    alike_twice (xs ++ (ys ++ zs)) ((xs ++ ys) ++ zs) ((ys ++ xs) ++ zs)
    (alike (xs ++ (ys ++ zs)) ((xs ++ ys) ++ zs) (sym (append_assoc xs ys zs)))
    (alike_both (xs ++ ys) (ys ++ xs) zs zs (alike_swap xs ys) (alike zs zs refl))

-- Drafts

-- a constant changes nothing
pub constant_made : (c : Context) (p : Pos) (a : Constant) (v : View) → pushed (Const p a) v ≡ visit c (Const p a) v
constant_made c p a v =
    ap (pushed (Const p a)) (sym (noting_alike c (Held a ∷ []) [] v (alike_held a []) ∙ noting_none c v))

-- a draft in the scope of another
pub seen_after : (c : Context) (e : Exp) (d : Draft) (v : View)
    → seen c e (visit c d v) ≡ visit c (core e (scope_of c v)) (visit c d v)
seen_after c e d v = ap (λ s. visit c (core e s) (visit c d v)) (visit_scope c d v)

-- the number of variables is the level of the scope
pub same_level : (c : Context) (v : View) → height v ≡ level (scope_of c v)
same_level c v = sym (length-map v.bound (λ b. b.name))

abbrev pub holding : Pos → ℕ → Draft → Draft → Draft
holding p k test body = Call p (Lambda p (Fresh k ∷ []) None body) (one test)

-- the value of a test is held by the last variable, which is left
abbrev left_one : View → View
left_one u = leave (below (height u)) u

-- an operand of an `or`, round what stands behind it
pub either_made : (c : Context) (p : Pos) (test : Exp) (x : Draft) (v : View)
    → makes c (step.Either p (below (height (visit c x (bind ([] ∷ []) v))))) (seen c test (left_one (visit c x (bind ([] ∷ []) v))))
    ≡ visit c (holding p (level (scope_of c v)) (core test (scope_of c v)) (If p (Ref p (Fresh (level (scope_of c v)))) (Ref p (Fresh (level (scope_of c v)))) x)) v
either_made c p test x v =
    let t : Draft = core test (scope_of c v) in
    let made : ℕ → Draft = λ k. holding p k t (If p (Ref p (Fresh k)) (Ref p (Fresh k)) x) in
    let inner : View = visit c x (bind ([] ∷ []) v) in
    let k : ℕ = height v in
    ap (λ j. makes c (step.Either p j) (seen c test (leave j inner))) (length-raised (parts x) v.bound)
    ∙ (ap (λ u. makes c (step.Either p k) (seen c test u)) (leave_visit c ([] ∷ []) x v)
    ∙ (ap (makes c (step.Either p k)) (seen_after c test x v)
    ∙ (standing c (item x (item t none)) (made k) v
    (alike_sym (parts (made k)) (parts x ++ (parts t ++ []))
    (alike_twice (parts (made k)) (Referred (Fresh k) ∷ (parts x ++ (parts t ++ []))) (parts x ++ (parts t ++ []))
    (alike_referred (Fresh k) (Referred (Fresh k) ∷ (parts x ++ (parts t ++ []))))
    (alike_referred (Fresh k) (parts x ++ (parts t ++ [])))))
    ∙ ap (λ j. visit c (made j) v) (same_level c v))))

-- a test between what stands in front and behind
branch_made : (c : Context) (p : Pos) (test : Exp) (y x : Draft) (v : View)
    → makes c (step.Branch p) (visit c (core test (scope_of c v)) (visit c y (visit c x v)))
    ≡ visit c (If p (core test (scope_of c v)) y x) v
branch_made c p test y x v =
    let t : Draft = core test (scope_of c v) in
    standing c (item x (item y (item t none))) (If p t y x) v (alike_backwards (parts t) (parts y) (parts x))

-- two drafts in the scope of variables that are left
leave_two : (c : Context) (xs : List (List ℕ)) (d e : Draft) (v : View)
    → leave (height v) (visit c e (visit c d (bind xs v))) ≡ visit c e (visit c d v)
leave_two c xs d e v =
    ap (λ u. pushed e (pushed d u))
    (ap (leave (height v)) (sym (noting_both c (parts d) (parts e) (bind xs v)))
    ∙ (leave_bound c xs (parts d ++ parts e) v ∙ noting_both c (parts d) (parts e) v))

receive_made : (c : Context) (p : Pos) (test : Exp) (x y : Draft) (v : View)
    → makes c (step.Receive p (height v)) (seen c test (leave (height v) (visit c y (visit c x (bind ([] ∷ []) v)))))
    ≡ visit c (holding p (height v) (core test (scope_of c v)) (If p (Ref p (Fresh (height v))) y x)) v
receive_made c p test x y v =
    let t : Draft = core test (scope_of c v) in
    let k : ℕ = height v in
    let made : Draft = holding p k t (If p (Ref p (Fresh k)) y x) in
    let rest : List Part = parts t ++ [] in
    ap (λ u. makes c (step.Receive p k) (seen c test u)) (leave_two c ([] ∷ []) x y v)
    ∙ (ap (makes c (step.Receive p k))
    (seen_after c test y (visit c x v) ∙ ap (λ s. visit c (core test s) (visit c y (visit c x v))) (visit_scope c x v))
    ∙ standing c (item x (item y (item t none))) made v
    (alike_sym (parts made) (parts x ++ (parts y ++ rest))
    (alike_twice (parts made) ((parts y ++ parts x) ++ rest) (parts x ++ (parts y ++ rest))
    (alike_referred (Fresh k) ((parts y ++ parts x) ++ rest))
    (alike_sym (parts x ++ (parts y ++ rest)) ((parts y ++ parts x) ++ rest) (alike_crossed (parts x) (parts y) rest)))))

-- Clauses of a `cond`

pub clauses_are : (c : Context) (p : Pos) (cs : Clauses) (v : View)
    → clauses_made c p cs (before_clauses p cs v) ≡ visit c (clauses_core cs p (scope_of c v)) v
clauses_are c p no_clause v = constant_made c p constant.Unspecified v
clauses_are c p (otherwise es) v = sequence_standing c p es v
clauses_are c p (value test cs) v =
    let w : View = bind ([] ∷ []) v in
    let x : Draft = clauses_core cs p (scope_of c w) in
    ap (λ u. makes c (step.Either p (below (height u))) (seen c test (left_one u))) (clauses_are c p cs w)
    ∙ either_made c p test x v
clauses_are c p (clause test es cs) v =
    let s : Scope = scope_of c v in
    let x : Draft = clauses_core cs p s in
    let y : Draft = Seq p (cores es s) in
    ap (λ u. makes c (step.Branch p) (seen c test (sequenced c p es u))) (clauses_are c p cs v)
    ∙ (ap (λ u. makes c (step.Branch p) (seen c test u))
    (sequence_standing c p es (visit c x v) ∙ ap (λ t. visit c (Seq p (cores es t)) (visit c x v)) (visit_scope c x v))
    ∙ (ap (makes c (step.Branch p))
    (seen_after c test y (visit c x v) ∙ ap (λ t. visit c (core test t) (visit c y (visit c x v))) (visit_scope c x v))
    ∙ branch_made c p test y x v))
clauses_are c p (passing test e cs) v =
    let w : View = bind ([] ∷ []) v in
    let s : Scope = scope_of c v in
    let t : Scope = scope_of c w in
    let x : Draft = clauses_core cs p t in
    let call_of : ℕ → Scope → Draft = λ k r. call p r e (core e r) (one (Ref p (Fresh k))) in
    let k : ℕ = height v in
    ap (λ u. makes c (step.Receive p (below (height u))) (seen c test (leave (below (height u)) (received c p e (below (height u)) u))))
    (clauses_are c p cs w)
    ∙ (ap (λ j. makes c (step.Receive p j) (seen c test (leave j (received c p e j (visit c x w))))) (length-raised (parts x) v.bound)
    ∙ (ap (λ r. makes c (step.Receive p k) (seen c test (leave k (visit c (call_of k r) (visit c x w))))) (visit_scope c x w)
    ∙ (receive_made c p test x (call_of k t) v
    ∙ ap (λ j. visit c (holding p j (core test s) (If p (Ref p (Fresh j)) (call_of j t) x)) v) (same_level c v))))

-- Clauses of a `case`

-- where a view is, a test of a fresh variable is a draft that changes nothing
pub among_made : (c : Context) (p : Pos) (k : ℕ) (xs : List Constant) (v : View)
    → pushed (is_one_of p (scope_of c v) (Fresh k) xs) v ≡ visit c (is_one_of p (scope_of c v) (Fresh k) xs) v
among_made c p k xs v =
    ap (pushed (is_one_of p (scope_of c v) (Fresh k) xs))
    (sym (noting_alike c (parts (is_one_of p (scope_of c v) (Fresh k) xs)) [] v (no_changes xs (scope_of c v)) ∙ noting_none c v))
  where
    no_changes : (bs : List Constant) (s : Scope) → Alike (parts (is_one_of p s (Fresh k) bs)) []
    no_changes [] s = alike_held (constant.Boolean false) []
    no_changes (b ∷ []) s =
        alike_twice (Referred (Fresh k) ∷ Held b ∷ []) (Held b ∷ []) [] (alike_referred (Fresh k) (Held b ∷ [])) (alike_held b [])
    no_changes (b ∷ d ∷ bs) s =
        let t : Scope = within s ([] ∷ []) in
        let rest : List Part = parts (is_one_of p t (Fresh k) (d ∷ bs)) in
        let test : List Part = Referred (Fresh k) ∷ Held b ∷ [] in
        let x : Name = Fresh (level s) in
        alike_twice (Referred x ∷ Referred x ∷ (rest ++ (test ++ []))) (Referred x ∷ (rest ++ (test ++ []))) []
        (alike_referred x (Referred x ∷ (rest ++ (test ++ []))))
        (alike_twice (Referred x ∷ (rest ++ (test ++ []))) (rest ++ (test ++ [])) []
        (alike_referred x (rest ++ (test ++ [])))
        (alike_both rest [] (test ++ []) [] (no_changes (d ∷ bs) t)
        (alike_twice (Referred (Fresh k) ∷ Held b ∷ []) (Held b ∷ []) [] (alike_referred (Fresh k) (Held b ∷ [])) (alike_held b []))))

pub cases_are : (c : Context) (p : Pos) (k : ℕ) (cs : Cases) (v : View)
    → cases_made c p k cs (before_cases p cs v) ≡ visit c (cases_core cs p (Fresh k) (scope_of c v)) v
cases_are c p k no_case v = constant_made c p constant.Unspecified v
cases_are c p k (others es) v = sequence_standing c p es v
cases_are c p k (one_of xs es cs) v =
    let s : Scope = scope_of c v in
    let x : Draft = cases_core cs p (Fresh k) s in
    let y : Draft = Seq p (cores es s) in
    let t : Draft = is_one_of p s (Fresh k) xs in
    let chosen : View → View = λ u. makes c (step.Branch p) (pushed (is_one_of p (scope_of c u) (Fresh k) xs) u) in
    ap (λ u. chosen (sequenced c p es u)) (cases_are c p k cs v)
    ∙ (ap chosen
    (sequence_standing c p es (visit c x v) ∙ ap (λ r. visit c (Seq p (cores es r)) (visit c x v)) (visit_scope c x v))
    ∙ (ap (makes c (step.Branch p))
    (among_made c p k xs (visit c y (visit c x v))
    ∙ ap (λ r. visit c (is_one_of p r (Fresh k) xs) (visit c y (visit c x v))) (visit_scope c y (visit c x v) ∙ visit_scope c x v))
    ∙ standing c (item x (item y (item t none))) (If p t y x) v (alike_backwards (parts t) (parts y) (parts x))))
