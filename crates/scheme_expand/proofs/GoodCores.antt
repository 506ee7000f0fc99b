-- What sound forms are rewritten to is good.
use Rattle.std.proofs.Common.{◌≡◌, ℕ, suc, ◌+◌, List, [], ◌∷◌, ◌++◌, length, Option, Some, None, Bool, true, false, not, ◌&&◌, ◌||◌, inl, inr, refl, sym, ap, ap₂, subst, ◌∙◌, bytes_eq, arith}
use Rattle.std.specs.Prelude.{if◌then◌else◌}
use Rattle.std.specs.List.{IsDistinct}
use Rattle.scheme_base.specs.declared.pos.Pos.{Pos}
use Rattle.scheme_base.specs.declared.op.Op.TheVariants as op
use Rattle.scheme_base.specs.Constants.{Constant}
use Rattle.core_form.specs.Valid.{and_rest as and_rest_name}
use Rattle.scheme_expand.specs.Forms.{Word, Exp, Exps, Bindings, Body, Clauses, Cases, Steps, Template, Forms, Wrong, Value, Variable, Application, Procedure, OneArmed, TwoArmed, Assignment, Cond, Case, And, Or, Let, LetStar, Letrec, Begin, Do, Named, Quasi, no_exp, exp, no_binding, binding, broken, Of, no_clause, otherwise, value, clause, passing, no_case, others, one_of, no_step, fixed, stepped, Plain, Unquoted, Spliced, Pair, Vector, no_form, evaluated, defining}
use Rattle.scheme_expand.specs.Grammar.{and_rest, bound_words, step_words}
use Rattle.draft_form.specs.Drafts.{Name, Draft, Drafts, Local, Fresh, Top, Library, Const, Symbols, Ref, Lambda, If, Set, Call, Prim, Seq, Fix, Define, none, item, ◌then◌, parts, all_parts, changes}
use Rattle.scheme_expand.specs.Calls.{count, one, two, integrated}
use Rattle.scheme_expand.specs.Rewriting.{Side, OfLibrary, OfProgram, Scope, level, has_name, found, free, local_or, meaning, inside, within, variable, variables, unnamed, names, let_names, let_fresh, either, sequence, undefined, assignments, fix, letrec_by_set, body_scope, letrec, call_or, call_of, call, is_one_of, is_lambda, are_lambdas, is_empty, rest_name, rest_variable, lambda, results_of, core, cores, values, body_core, let_star, and_core, or_core, clauses_core, cases_core, firsts, nexts, template_core, defines, form_cores}
use Rattle.scheme_expand.proofs.GoodDrafts.{is_source, AreSources, is_var, assigned, one_assigned, IsTarget, AreWords, AreBound, IsLambda, AreLambdas, HolesFor, HasDraft, Good, AllGood}
use Rattle.scheme_expand.proofs.GoodCalls.{GoodMaybe, good_integrated, length-unnamed}
use Rattle.scheme_expand.proofs.Scoping.{apart, and_split, bytes_same, found_inside, found_unnamed, binds_unnamed}
use Rattle.scheme_expand.proofs.GoodDraftsAreValid.{differs_binds}
use Rattle.scheme_expand.proofs.SoundForms.{EachOfData, Differ, HasExp, Sound, AllSound, SoundBindings, SoundBody, SoundClauses, SoundCases, SoundSteps, SoundTemplate, SoundForms}

good_then : (bound : List (List ℕ)) (ds es : Drafts) → AllGood bound ds → AllGood bound es → AllGood bound (ds then es)
good_then bound none es h k = k
good_then bound (item d ds) es h k = (h.0, good_then bound ds es h.1 k)

has_then : (ds es : Drafts) → HasDraft es → HasDraft (ds then es)
has_then none es h = h
has_then (item d ds) es h = tt

has_core : (es : Exps) (s : Scope) → HasExp es → HasDraft (cores es s)
has_core no_exp s h = absurd h
has_core (exp e es) s h = tt

good_sequence : (bound : List (List ℕ)) (p : Pos) (es : Drafts) → HasDraft es → AllGood bound es → Good bound (sequence p es)
good_sequence bound p none i h = absurd i
good_sequence bound p (item e none) i h = h.0
good_sequence bound p (item e (item f es)) i h = (tt, h)

good_results : (bound : List (List ℕ)) (p : Pos) (es : Drafts) → AllGood bound es → Good bound (results_of p es)
good_results bound p none h = tt
good_results bound p (item e es) h = (tt, h)

-- Variables

one_fresh : (k : ℕ) → AreBound (variables k ([] ∷ [])) None k ([] ∷ [])
one_fresh k = inr (record { are = refl; fresh = refl; no_rest = refl })

are_unnamed : (k n : ℕ) → AreBound (variables k (unnamed n)) None k (unnamed n)
are_unnamed k n = inr (record { are = refl; fresh = ap unnamed (sym (length-unnamed n)); no_rest = refl })

are_words : (k : ℕ) (xs : List (List ℕ)) → AreSources xs → IsDistinct bytes_eq xs → AreWords (variables k xs) k xs
are_words k xs s d = record { are = refl; sources = s; distinct = d }

good_let : (p : Pos) (s : Scope) (xs : List (List ℕ)) (body : Scope → Draft) (vs : Drafts)
    → AreBound (variables (level s) xs) None (level s) xs → Good (inside s.bound xs) (body (within s xs)) → AllGood s.bound vs
    → Good s.bound (let_names p s xs body vs)
good_let p s xs body vs a b v = ((xs, a, b), inl v)

good_fresh : (p : Pos) (s : Scope) (e : Draft) (body : Name → Scope → Draft) → Good s.bound e
    → Good ([] ∷ s.bound) (body (Fresh (level s)) (within s ([] ∷ []))) → Good s.bound (let_fresh p s e body)
good_fresh p s e body h k = good_let p s ([] ∷ []) (body (Fresh (level s))) (one e) (one_fresh (level s)) k (h, tt)

good_either : (p : Pos) (s : Scope) (e : Draft) (rest : Scope → Draft) → Good s.bound e
    → Good ([] ∷ s.bound) (rest (within s ([] ∷ []))) → Good s.bound (either p s e rest)
good_either p s e rest h k = good_fresh p s e (λ v t. If p (Ref p v) (Ref p v) (rest t)) h (tt, tt, k)

-- Procedures

variables-append : (k : ℕ) (xs : List (List ℕ)) (x : List ℕ)
    → variables k xs ++ variable (k + length xs) x ∷ [] ≡ variables k (xs ++ x ∷ [])
variables-append k [] x = ap (λ j. variable j x ∷ []) (at k)
  where
    at : (k : ℕ) → k + 0 ≡ k
    at k = omega arith
variables-append k (y ∷ ys) x =
    ap (λ vs. variable k y ∷ vs) (ap (λ j. variables (suc k) ys ++ variable j x ∷ []) (at k (length ys)) ∙ variables-append (suc k) ys x)
  where
    at : (k n : ℕ) → k + suc n ≡ suc k + n
    at k n = omega arith

rest_bound : (k : ℕ) (ws : List Word) (r : Option Word)
    → and_rest_name (variables k (names ws)) (rest_variable (k + length (names ws)) r) ≡ variables k (names (and_rest ws r))
rest_bound k ws None = ap (variables k) (no_rest ws)
  where
    no_rest : (ws : List Word) → names ws ≡ names (and_rest ws None)
    no_rest [] = refl
    no_rest (w ∷ ws) = ap (λ xs. w.name ∷ xs) (no_rest ws)
rest_bound k ws (Some w) = variables-append k (names ws) w.name ∙ ap (variables k) (with_rest ws w)
  where
    with_rest : (ws : List Word) (w : Word) → names ws ++ w.name ∷ [] ≡ names (and_rest ws (Some w))
    with_rest [] w = refl
    with_rest (v ∷ ws) w = ap (λ xs. v.name ∷ xs) (with_rest ws w)

rest_names : (ws : List Word) (r : Option Word) → names ws ++ rest_name r ≡ names (and_rest ws r)
rest_names [] None = refl
rest_names [] (Some w) = refl
rest_names (v ∷ ws) r = ap (λ xs. v.name ∷ xs) (rest_names ws r)

good_lambda : (p : Pos) (s : Scope) (ws : List Word) (r : Option Word) (body : Scope → Draft) → AreSources (names (and_rest ws r))
    → Differ (and_rest ws r) → ((t : Scope) → Good t.bound (body t)) → Good s.bound (lambda p s (names ws) r body)
good_lambda p s ws r body a d k = (
  names (and_rest ws r),
  inl (record { are = rest_bound (level s) ws r; sources = a; distinct = d }),
  subst (λ xs. Good (inside s.bound xs) (body (within s (names ws ++ rest_name r)))) (rest_names ws r)
      (k (within s (names ws ++ rest_name r))),
)

and_none : (ws : List Word) → names (and_rest ws None) ≡ names ws
and_none [] = refl
and_none (w ∷ ws) = ap (λ xs. w.name ∷ xs) (and_none ws)

-- a lambda expression without a rest parameter
good_plain : (p : Pos) (s : Scope) (ws : List Word) (body : Scope → Draft) → AreSources (names ws) → Differ ws
    → ((t : Scope) → Good t.bound (body t)) → Good s.bound (lambda p s (names ws) None body)
good_plain p s ws body a d k =
    good_lambda p s ws None body (subst (λ xs. AreSources xs) (sym (and_none ws)) a)
    (subst (λ xs. IsDistinct bytes_eq xs) (sym (and_none ws)) d) k

-- `letrec` by assignments

-- a name is seen where it is bound
seen : (x : List ℕ) (xs bound : List (List ℕ)) → is_source x ≡ true → IsDistinct bytes_eq (x ∷ xs)
    → found (inside (x ∷ bound) xs) x ≡ Some (length bound)
unfolding IsDistinct
seen x xs bound s d =
    found_inside x (suc (length bound)) xs (x ∷ bound) s (differs_binds x (suc (length bound)) xs d.0)
    ∙ ap (λ c. if c then Some (length bound) else found bound x) (bytes_same x)

tail_distinct : (x : List ℕ) (xs : List (List ℕ)) → IsDistinct bytes_eq (x ∷ xs) → IsDistinct bytes_eq xs
unfolding IsDistinct
tail_distinct x xs d = d.1

good_assignments : (p : Pos) (k m : ℕ) (xs bound : List (List ℕ)) → AreSources xs → IsDistinct bytes_eq xs
    → AllGood (inside (inside bound xs) (unnamed m)) (assignments p (length bound) k xs)
good_assignments p k m [] bound a d = tt
good_assignments p k m ([] ∷ xs) bound a d = absurd (apart (sym a.0))
good_assignments p k m ((b ∷ x) ∷ xs) bound a d = (
  ((found_unnamed (b ∷ x) m (inside ((b ∷ x) ∷ bound) xs) a.0 ∙ seen (b ∷ x) xs bound a.0 d, a.0), tt),
  good_assignments p (suc k) m xs ((b ∷ x) ∷ bound) a.1 (tail_distinct (b ∷ x) xs d),
)

is_var_same : (j : ℕ) (x : List ℕ) → is_source x ≡ true → is_var x (variable j x) ≡ true
is_var_same j [] s = absurd (apart (sym s))
is_var_same j (b ∷ x) s = bytes_same (b ∷ x)

or_first : (a b : Bool) → a ≡ true → (a || b) ≡ true
or_first true b h = refl
or_first false b h = absurd (apart (sym h))

or_second : (a b : Bool) → b ≡ true → (a || b) ≡ true
or_second true b h = refl
or_second false b h = h

-- each of the variables is assigned by the assignments
assignments_assign : (p : Pos) (x : List ℕ) (front back : List (List ℕ)) (j k : ℕ) (ds : Drafts) → is_source x ≡ true
    → one_assigned x (assignments p j k (front ++ x ∷ back) then ds) ≡ true
assignments_assign p x [] back j k ds s = or_first _ _ (or_first _ _ (is_var_same j x s))
assignments_assign p x (y ∷ front) back j k ds s = or_second _ _ (assignments_assign p x front back (suc j) (suc k) ds s)

good_holes : (p : Pos) (k : ℕ) (xs : List (List ℕ)) (e : Draft) → AreSources xs
    → ((front back : List (List ℕ)) (x : List ℕ) → xs ≡ front ++ x ∷ back → is_source x ≡ true → assigned x e ≡ true)
    → HolesFor (variables k xs) e (undefined p xs)
good_holes p k [] e a h = tt
good_holes p k ([] ∷ xs) e a h = absurd (apart (sym a.0))
good_holes p k ((b ∷ x) ∷ xs) e a h = (
  (a.0, h [] xs (b ∷ x) refl a.0),
  tt,
  good_holes p (suc k) xs e a.1 (λ front back y is s. h ((b ∷ x) ∷ front) back y (ap (λ ys. (b ∷ x) ∷ ys) is) s),
)

assigned_inside : (p q : Pos) (x : List ℕ) (k n : ℕ) (ds vs : Drafts) → one_assigned x ds ≡ true
    → assigned x (Call p (Lambda q (variables k (unnamed n)) None (Seq p ds)) vs) ≡ true
assigned_inside p q x k n ds vs h =
    or_first _ _ (ap₂ (λ a b. not a && b) (binds_unnamed x k n) h)

nothing_bound : (k : ℕ) → AreWords [] k []
unfolding IsDistinct
nothing_bound k = record { are = refl; sources = tt; distinct = tt }

good_by_set : (p : Pos) (s : Scope) (xs : List (List ℕ)) (vs : Drafts) (e : Draft) → AreSources xs → IsDistinct bytes_eq xs
    → AllGood (inside s.bound xs) vs → Good (inside (inside s.bound xs) (unnamed (length xs))) e
    → Good s.bound (letrec_by_set p s xs vs e)
good_by_set p s xs vs e a d v h =
    let n : ℕ = length xs in
    let t : Scope = within s xs in
    let last : Drafts = one (Call p (Lambda p [] None e) none) in
    let sets : Drafts = assignments p (level s) (level t) xs then last in
    let inner : List (List ℕ) = inside (inside s.bound xs) (unnamed n) in
    let all : AllGood inner sets =
    good_then inner (assignments p (level s) (level t) xs) last (good_assignments p (level t) n xs s.bound a d)
    (((([], inl (nothing_bound (length inner)), h), inl tt)), tt) in
    let whole : Draft = let_names p t (unnamed n) (λ u. Seq p sets) vs in (
      (xs, inl (are_words (level s) xs a d), ((unnamed n, are_unnamed (level t) n, (has_then (assignments p (level s) (level t) xs) last tt, all)), inl v)),
      inr
          (good_holes p (level s) xs whole a
          (λ front back x is src.
          assigned_inside p p x (level t) n sets vs
          (subst (λ ys. one_assigned x (assignments p (level s) (level t) ys then last) ≡ true) (sym is)
          (assignments_assign p x front back (level s) (level t) last src)))),
    )

not_true : (b : Bool) → not b ≡ true → b ≡ false
not_true true h = sym h
not_true false h = refl

length-variables : (k : ℕ) (xs : List (List ℕ)) → length (variables k xs) ≡ length xs
length-variables k [] = refl
length-variables k (x ∷ xs) = ap suc (length-variables (suc k) xs)

good_letrec : (p : Pos) (s : Scope) (xs : List (List ℕ)) (lambdas : Bool) (vs : Drafts) (e : Draft) → AreSources xs
    → IsDistinct bytes_eq xs → count vs ≡ length xs → (lambdas ≡ true → AreLambdas vs) → AllGood (inside s.bound xs) vs
    → Good (inside (inside s.bound xs) (unnamed (length xs))) e → Good s.bound (letrec p s xs lambdas vs e)
good_letrec p s xs lambdas vs e a d n l v h = made _ refl
  where
    made : (b : Bool) → (lambdas && not (changes (level s) (length xs) (all_parts vs ++ parts e))) ≡ b
        → Good s.bound (if b then fix p s xs vs e else letrec_by_set p s xs vs e)
    made true is =
        let both = and_split lambdas (not (changes (level s) (length xs) (all_parts vs ++ parts e))) is in
        (xs, inl (are_words (level s) xs a d, not_true _ both.1), n ∙ sym (length-variables (level s) xs), l both.0, v, h)
    made false is = good_by_set p s xs vs e a d v h

good_fix_fresh : (p : Pos) (s : Scope) (e f : Draft) → IsLambda e → Good ([] ∷ s.bound) e → Good ([] ∷ [] ∷ s.bound) f
    → Good s.bound (fix p s ([] ∷ []) (one e) f)
good_fix_fresh p s e f l h k =
    (([] ∷ []), inr (record { are = refl; fresh = refl; no_rest = refl }), refl, (l, tt), (h, tt), k)

-- Calls

good_call_of : (p : Pos) (bound : List (List ℕ)) (x : Name) (e : Draft) (es : Drafts) → Good bound e → AllGood bound es
    → Good bound (call_of p (length bound) x e es)
good_call_of p bound (Library x) e es h k = made (integrated p (length bound) x es) (good_integrated bound p x es k)
  where
    made : (d : Option Draft) → GoodMaybe bound d → Good bound (call_or (Call p e es) d)
    made None g = (h, inl k)
    made (Some d) g = g
good_call_of p bound (Local j x) e es h k = (h, inl k)
good_call_of p bound (Fresh j) e es h k = (h, inl k)
good_call_of p bound (Top x) e es h k = (h, inl k)

good_call : (p : Pos) (s : Scope) (operator : Exp) (e : Draft) (es : Drafts) → Good s.bound e → AllGood s.bound es
    → Good s.bound (call p s operator e es)
good_call p s (Variable w) e es h k = good_call_of p s.bound (meaning s w.name) e es h k
good_call p s operator e es h k = (h, inl k)

good_one_of : (p : Pos) (s : Scope) (v : Name) (cs : List Constant) → EachOfData cs → Good s.bound (is_one_of p s v cs)
good_one_of p s v [] h = tt
good_one_of p s v (c ∷ []) h = (refl, (tt, (h.0, tt)))
good_one_of p s v (c ∷ d ∷ cs) h =
    good_either p s (Prim p op.Eqv (two (Ref p v) (Const p c))) (λ t. is_one_of p t v (d ∷ cs)) (refl, (tt, (h.0, tt)))
    (good_one_of p (within s ([] ∷ [])) v (d ∷ cs) h.1)

-- Assignments of the program

local_found : (bound : List (List ℕ)) (x : List ℕ) (o : Option ℕ) (y : Name) → found bound x ≡ o → is_source x ≡ true
    → (o ≡ None → IsTarget bound y) → IsTarget bound (local_or o x y)
local_found bound x (Some k) y e s h = (e, s)
local_found bound x None y e s h = h refl

good_target : (s : Scope) (x : List ℕ) → is_source x ≡ true → IsTarget s.bound (meaning s x)
good_target s x h = local_found s.bound x (found s.bound x) (free s.side x) refl h (λ e. outside s.side e)
  where
    outside : (side : Side) → found s.bound x ≡ None → IsTarget s.bound (free side x)
    outside OfLibrary e = tt
    outside (OfProgram public own) e = either_one (has_name public x && not (has_name own x))
      where
        either_one : (b : Bool) → IsTarget s.bound (if b then Library x else Top x)
        either_one true = tt
        either_one false = (e, h)

-- Bindings

pub binding_sources : (bs : Bindings) → SoundBindings bs → AreSources (names (bound_words bs))
binding_sources no_binding h = tt
binding_sources (binding p w e bs) h = (h.0, binding_sources bs h.2)
binding_sources (broken p n bs) h = absurd h

step_sources : (ss : Steps) → SoundSteps ss → AreSources (names (step_words ss))
step_sources no_step h = tt
step_sources (fixed w e ss) h = (h.0, step_sources ss h.2)
step_sources (stepped w e f ss) h = (h.0, step_sources ss h.3)

count_values : (bs : Bindings) (s : Scope) → SoundBindings bs → count (values bs s) ≡ length (names (bound_words bs))
count_values no_binding s h = refl
count_values (binding p w e bs) s h = ap suc (count_values bs s h.2)
count_values (broken p n bs) s h = absurd h

lambda_core : (e : Exp) (s : Scope) → is_lambda e ≡ true → IsLambda (core e s)
lambda_core (Procedure p ws r b) s h = tt
lambda_core e s h = absurd (apart (sym h))

lambda_cores : (bs : Bindings) (s : Scope) → are_lambdas bs ≡ true → AreLambdas (values bs s)
lambda_cores no_binding s h = tt
lambda_cores (binding p w e bs) s h =
    let both = and_split (is_lambda e) (are_lambdas bs) h in
    (lambda_core e s both.0, lambda_cores bs s both.1)
lambda_cores (broken p n bs) s h = lambda_cores bs s h

one_name : (x : List ℕ) → is_source x ≡ true → AreSources (x ∷ [])
one_name x h = (h, tt)

one_distinct : (x : List ℕ) → IsDistinct bytes_eq (x ∷ [])
unfolding IsDistinct
one_distinct x = (tt, tt)

no_distinct : IsDistinct bytes_eq []
unfolding IsDistinct
no_distinct = tt

-- a `letrec` of bindings
good_bindings : (p : Pos) (s : Scope) (bs : Bindings) (e : Draft) → SoundBindings bs → Differ (bound_words bs)
    → AllGood (inside s.bound (names (bound_words bs))) (values bs (within s (names (bound_words bs))))
    → Good (inside (inside s.bound (names (bound_words bs))) (unnamed (length (names (bound_words bs))))) e
    → Good s.bound (letrec p s (names (bound_words bs)) (are_lambdas bs) (values bs (within s (names (bound_words bs)))) e)
good_bindings p s bs e h d v k =
    let xs : List (List ℕ) = names (bound_words bs) in
    good_letrec p s xs (are_lambdas bs) (values bs (within s xs)) e (binding_sources bs h) d (count_values bs (within s xs) h)
    (lambda_cores bs (within s xs)) v k

-- a word that may be a fresh variable's, or not: one name is bound, by a `letrec` of a procedure
good_named : (p : Pos) (s : Scope) (x : List ℕ) (e : Draft) (f : Draft) → is_source x ≡ true → IsLambda e
    → Good (x ∷ s.bound) e → Good ([] ∷ x ∷ s.bound) f → Good s.bound (letrec p s (x ∷ []) true (one e) f)
good_named p s x e f h l g k =
    good_letrec p s (x ∷ []) true (one e) f (one_name x h) (one_distinct x) refl (λ t. (l, tt)) (g, tt) k

step_next : (p : Pos) (s : Scope) (x : List ℕ) → Good s.bound (Ref p (meaning s x))
step_next p s x = tt

body_with : (p : Pos) (s : Scope) (b : Bool) (xs : List (List ℕ)) (e f : Draft) → Good s.bound e → Good s.bound f
    → Good s.bound (if b then e else f)
body_with p s true xs e f h k = h
body_with p s false xs e f h k = k

mutual
  pub good : (e : Exp) → Sound e → (s : Scope) → Good s.bound (core e s)
  good (Wrong p n) h s = absurd h
  good (Value p c) h s = h
  good (Variable w) h s = tt
  good (Application p e es) h s = good_call p s e (core e s) (cores es s) (good e h.0 s) (all_good es h.1 s)
  good (Procedure p ws r b) h s = good_lambda p s ws r (body_core b p) h.0 h.1 (body_good b h.2 p)
  good (OneArmed p test this) h s = (good test h.0 s, good this h.1 s, tt)
  good (TwoArmed p test this that) h s = (good test h.0 s, good this h.1 s, good that h.2 s)
  good (Assignment p w e) h s = (good_target s w.name h.0, good e h.1 s)
  good (Cond p cs) h s = clauses_good cs h p s
  good (Case p e cs) h s =
      good_fresh p s (core e s) (λ v t. cases_core cs p v t) (good e h.0 s)
      (cases_good cs h.1 p (Fresh (level s)) (within s ([] ∷ [])))
  good (And p es) h s = and_good es h p s
  good (Or p es) h s = or_good es h p s
  good (Let p bs b) h s =
      let xs : List (List ℕ) = names (bound_words bs) in
      good_let p s xs (body_core b p) (values bs s) (inl (are_words (level s) xs (binding_sources bs h.0) h.1))
      (body_good b h.2 p (within s xs)) (values_good bs h.0 s)
  good (LetStar p bs b) h s = let_star_good bs h.0 p (body_core b p) (body_good b h.1 p) s
  good (Letrec p bs b) h s =
      let xs : List (List ℕ) = names (bound_words bs) in
      good_bindings p s bs (body_core b p (body_scope s xs)) h.0 h.1 (values_good bs h.0 (within s xs))
      (body_good b h.2 p (body_scope s xs))
  good (Begin p es) h s = (has_core es s h.0, all_good es h.1 s)
  good (Do p ss test results commands) h s =
      let loop : Draft = Ref p (Fresh (level s)) in
      let round : Scope → Draft = λ t.
      If p (core test t) (results_of p (cores results t))
      (Seq p (cores commands t then one (Call p loop (nexts ss p t)))) in (
        good_fix_fresh p s (lambda p (within s ([] ∷ [])) (names (step_words ss)) None round) loop tt
            (good_plain p (within s ([] ∷ [])) (step_words ss) round (step_sources ss h.0) h.1
            (λ t. (
              good test h.2 t,
              good_results t.bound p (cores results t) (all_good results h.3 t),
              (
                has_then (cores commands t) (one (Call p loop (nexts ss p t))) tt,
                good_then t.bound (cores commands t) (one (Call p loop (nexts ss p t))) (all_good commands h.4 t)
                    ((tt, inl (nexts_good ss h.0 p t)), tt),
              ),
            )))
            tt,
        inl (firsts_good ss h.0 s),
      )
  good (Named p w bs b) h s =
      let here : List (List ℕ) = w.name ∷ [] in (
        good_named p s w.name (lambda p (within s here) (names (bound_words bs)) None (body_core b p))
            (Ref p (variable (level s) w.name)) h.0 tt
            (good_plain p (within s here) (bound_words bs) (body_core b p) (binding_sources bs h.1) h.2 (body_good b h.3 p)) tt,
        inl (values_good bs h.1 s),
      )
  good (Quasi p t) h s = template_good t h p s

  pub all_good : (es : Exps) → AllSound es → (s : Scope) → AllGood s.bound (cores es s)
  all_good no_exp h s = tt
  all_good (exp e es) h s = (good e h.0 s, all_good es h.1 s)

  pub values_good : (bs : Bindings) → SoundBindings bs → (s : Scope) → AllGood s.bound (values bs s)
  values_good no_binding h s = tt
  values_good (binding p w e bs) h s = (good e h.1 s, values_good bs h.2 s)
  values_good (broken p n bs) h s = absurd h

  body_good : (b : Body) → SoundBody b → (p : Pos) (s : Scope) → Good s.bound (body_core b p s)
  body_good (Of bs es) h p s =
      let xs : List (List ℕ) = names (bound_words bs) in
      body_with p s (is_empty bs) xs (sequence p (cores es s))
      (letrec p s xs (are_lambdas bs) (values bs (within s xs)) (sequence p (cores es (body_scope s xs))))
      (good_sequence s.bound p (cores es s) (has_core es s h.2) (all_good es h.3 s))
      (good_bindings p s bs (sequence p (cores es (body_scope s xs))) h.0 h.1 (values_good bs h.0 (within s xs))
      (good_sequence (body_scope s xs).bound p (cores es (body_scope s xs)) (has_core es (body_scope s xs) h.2)
      (all_good es h.3 (body_scope s xs))))

  let_star_good : (bs : Bindings) → SoundBindings bs → (p : Pos) (body : Scope → Draft)
      → ((t : Scope) → Good t.bound (body t)) → (s : Scope) → Good s.bound (let_star bs p body s)
  let_star_good no_binding h p body k s = good_let p s [] body none (inl (nothing_bound (level s))) (k s) tt
  let_star_good (binding q w e no_binding) h p body k s =
      good_let p s (w.name ∷ []) body (one (core e s)) (inl (are_words (level s) (w.name ∷ []) (one_name w.name h.0) (one_distinct w.name)))
      (k (within s (w.name ∷ []))) (good e h.1 s, tt)
  let_star_good (binding q w e (binding r v f bs)) h p body k s =
      good_let p s (w.name ∷ []) (let_star (binding r v f bs) p body) (one (core e s))
      (inl (are_words (level s) (w.name ∷ []) (one_name w.name h.0) (one_distinct w.name)))
      (let_star_good (binding r v f bs) h.2 p body k (within s (w.name ∷ []))) (good e h.1 s, tt)
  let_star_good (binding q w e (broken r n bs)) h p body k s = absurd h.2
  let_star_good (broken q n bs) h p body k s = absurd h

  and_good : (es : Exps) → AllSound es → (p : Pos) (s : Scope) → Good s.bound (and_core es p s)
  and_good no_exp h p s = tt
  and_good (exp e no_exp) h p s = good e h.0 s
  and_good (exp e (exp f es)) h p s = (good e h.0 s, and_good (exp f es) h.1 p s, tt)

  or_good : (es : Exps) → AllSound es → (p : Pos) (s : Scope) → Good s.bound (or_core es p s)
  or_good no_exp h p s = tt
  or_good (exp e no_exp) h p s = good e h.0 s
  or_good (exp e (exp f es)) h p s =
      good_either p s (core e s) (or_core (exp f es) p) (good e h.0 s) (or_good (exp f es) h.1 p (within s ([] ∷ [])))

  clauses_good : (cs : Clauses) → SoundClauses cs → (p : Pos) (s : Scope) → Good s.bound (clauses_core cs p s)
  clauses_good no_clause h p s = tt
  clauses_good (otherwise es) h p s = (has_core es s h.0, all_good es h.1 s)
  clauses_good (value test cs) h p s =
      good_either p s (core test s) (clauses_core cs p) (good test h.0 s) (clauses_good cs h.1 p (within s ([] ∷ [])))
  clauses_good (clause test es cs) h p s =
      (good test h.0 s, (has_core es s h.1, all_good es h.2 s), clauses_good cs h.3 p s)
  clauses_good (passing test e cs) h p s =
      let t : Scope = within s ([] ∷ []) in
      let v : Name = Fresh (level s) in
      good_fresh p s (core test s) (λ x u. If p (Ref p x) (call p u e (core e u) (one (Ref p x))) (clauses_core cs p u))
      (good test h.0 s)
      (tt, good_call p t e (core e t) (one (Ref p v)) (good e h.1 t) (tt, tt), clauses_good cs h.2 p t)

  cases_good : (cs : Cases) → SoundCases cs → (p : Pos) (v : Name) (s : Scope) → Good s.bound (cases_core cs p v s)
  cases_good no_case h p v s = tt
  cases_good (others es) h p v s = (has_core es s h.0, all_good es h.1 s)
  cases_good (one_of constants es cs) h p v s =
      (good_one_of p s v constants h.0, (has_core es s h.1, all_good es h.2 s), cases_good cs h.3 p v s)

  firsts_good : (ss : Steps) → SoundSteps ss → (s : Scope) → AllGood s.bound (firsts ss s)
  firsts_good no_step h s = tt
  firsts_good (fixed w e ss) h s = (good e h.1 s, firsts_good ss h.2 s)
  firsts_good (stepped w e f ss) h s = (good e h.1 s, firsts_good ss h.3 s)

  nexts_good : (ss : Steps) → SoundSteps ss → (p : Pos) (s : Scope) → AllGood s.bound (nexts ss p s)
  nexts_good no_step h p s = tt
  nexts_good (fixed w e ss) h p s = (tt, nexts_good ss h.2 p s)
  nexts_good (stepped w e f ss) h p s = (good f h.2 s, nexts_good ss h.3 p s)

  template_good : (t : Template) → SoundTemplate t → (p : Pos) (s : Scope) → Good s.bound (template_core t p s)
  template_good (Plain c) h p s = h
  template_good (Unquoted e) h p s = good e h s
  template_good (Spliced e rest) h p s = (tt, inl (good e h.0 s, (template_good rest h.1 p s, tt)))
  template_good (Pair t u) h p s = (refl, (template_good t h.0 p s, (template_good u h.1 p s, tt)))
  template_good (Vector t) h p s = (tt, inl (template_good t h p s, tt))

-- Forms of a program

-- a form of a program: a definition, or a good draft
abbrev pub GoodForm : Draft → Type 0
GoodForm (Define p x e) = Good [] e
GoodForm e = Good [] e

abbrev pub GoodForms : Drafts → Type 0
GoodForms none = Unit {0}
GoodForms (item e es) = GoodForm e × GoodForms es

good_form : (e : Draft) → Good [] e → GoodForm e
good_form (Const p c) h = h
good_form (Symbols p) h = h
good_form (Ref p x) h = h
good_form (Lambda p xs r e) h = h
good_form (If p test this that) h = h
good_form (Set p x e) h = h
good_form (Call p e es) h = h
good_form (Prim p o es) h = h
good_form (Seq p es) h = h
good_form (Fix p xs es e) h = h
good_form (Define p x e) h = absurd h

pub forms_then : (ds es : Drafts) → GoodForms ds → GoodForms es → GoodForms (ds then es)
forms_then none es h k = k
forms_then (item d ds) es h k = (h.0, forms_then ds es h.1 k)

good_defines : (bs : Bindings) → SoundBindings bs → (side : Side) → GoodForms (defines bs (record { side = side; bound = [] }))
good_defines no_binding h side = tt
good_defines (binding p w e bs) h side = (good e h.1 (record { side = side; bound = [] }), good_defines bs h.2 side)
good_defines (broken p n bs) h side = absurd h

pub good_forms : (fs : Forms) → SoundForms fs → (side : Side) → GoodForms (form_cores fs (record { side = side; bound = [] }))
good_forms no_form h side = tt
good_forms (evaluated e fs) h side = (
  good_form (core e (record { side = side; bound = [] })) (good e h.0 (record { side = side; bound = [] })),
  good_forms fs h.1 side,
)
good_forms (defining bs fs) h side =
    forms_then (defines bs (record { side = side; bound = [] })) (form_cores fs (record { side = side; bound = [] }))
    (good_defines bs h.0 side) (good_forms fs h.1 side)
