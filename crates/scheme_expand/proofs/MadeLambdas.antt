-- A procedure is made of its body, which was made with the parameters bound.
--
-- `lambda_comes`: the step `Lambda` after a body. `procedure_comes`: the same for parameters and a rest parameter.
use Rattle.std.proofs.Common.{ℕ, ◌≡◌, ◌+◌, Bool, true, false, Option, Some, None, List, [], ◌∷◌, ◌++◌, map, length, refl, sym, ap, ap₂, ◌∙◌, append-nil, arith, suc}
use Rattle.std.proofs.lemmas.List.{length-map}
use Rattle.scheme_base.specs.declared.pos.Pos.{Pos}
use Rattle.scheme_expand.specs.declared.step.Step.TheVariants as step
use Rattle.scheme_expand.specs.Forms.{Word}
use Rattle.scheme_expand.specs.Grammar.{and_rest, with_word}
use Rattle.scheme_expand.specs.Making.{makes, given, instead, all_but_last, last_of, lambda_made, names_from}
use Rattle.scheme_expand.specs.Rewriting.{Scope, lambda, level, names, rest_name, rest_variable, variable, variables, within}
use Rattle.scheme_expand.specs.Views.{Context, View, scope_of, height, visit, bind, leave}
use Rattle.scheme_expand.proofs.Noting.{alike, from_bound, leave_visit, scope_bound, standing_one}
use Rattle.draft_form.specs.Drafts.{Name, Draft, Lambda, parts}

-- One procedure

same_parts : (p : Pos) (has_rest : Bool) (xs : List Name) (d : Draft) → parts (lambda_made p has_rest xs d) ≡ parts d
same_parts p true xs d = refl
same_parts p false xs d = refl

pub lambda_comes : (c : Context) (p : Pos) (xs : List (List ℕ)) (has_rest : Bool) (d : Draft) (v : View)
    → makes c (step.Lambda p (height v) has_rest) (visit c d (bind xs v))
    ≡ visit c (lambda_made p has_rest (variables (height v) xs) d) v
lambda_comes c p xs has_rest d v =
    ap₂ (λ w ys. given w (d ∷ v.made) (λ e. lambda_made p has_rest (variables (height v) ys) e))
    (leave_visit c xs d v) (from_bound (parts d) xs v.bound)
    ∙ standing_one c d (lambda_made p has_rest (variables (height v) xs) d) v
    (alike _ _ (sym (same_parts p has_rest (variables (height v) xs) d)))

pub scope_height : (c : Context) (v : View) → level (scope_of c v) ≡ height v
scope_height c v = length-map v.bound (λ b. b.name)

-- The rest parameter

last_variable : (k : ℕ) (xs : List (List ℕ)) (x : List ℕ)
    → (all_but_last (variables k (xs ++ x ∷ [])) ≡ variables k xs)
    × (last_of (variables k (xs ++ x ∷ [])) ≡ Some (variable (k + length xs) x))
last_variable k [] x = (refl, ap (λ n. Some (variable n x)) (omega arith))
last_variable k (y ∷ []) x = (refl, ap (λ n. Some (variable n x)) (omega arith))
last_variable k (y ∷ z ∷ zs) x =
    let r = last_variable (suc k) (z ∷ zs) x in
    (ap (λ vs. variable k y ∷ vs) r.0, r.1 ∙ ap (λ n. Some (variable n x)) (omega arith))

abbrev pub has_word : Option Word → Bool
has_word None = false
has_word (Some w) = true

pub names_with_rest : (ws : List Word) (r : Option Word) → names (and_rest ws r) ≡ names ws ++ rest_name r
names_with_rest [] None = refl
names_with_rest [] (Some w) = refl
names_with_rest (w ∷ ws) r = ap (λ xs. w.name ∷ xs) (names_with_rest ws r)

pub with_rest : (p : Pos) (k : ℕ) (ws : List Word) (r : Option Word) (d : Draft)
    → lambda_made p (has_word r) (variables k (names ws ++ rest_name r)) d
    ≡ Lambda p (variables k (names ws)) (rest_variable (k + length (names ws)) r) d
with_rest p k ws None d = ap (λ xs. Lambda p (variables k xs) None d) (append-nil (names ws))
with_rest p k ws (Some w) d =
    let r = last_variable k (names ws) w.name in ap₂ (λ xs y. Lambda p xs y d) r.0 r.1

-- a lambda expression, whose body is made in the scope of its parameters
pub procedure_comes : (c : Context) (p : Pos) (ws : List Word) (r : Option Word) (body : Scope → Draft) (v : View)
    → makes c (step.Lambda p (height v) (has_word r))
    (visit c (body (scope_of c (bind (names (and_rest ws r)) v))) (bind (names (and_rest ws r)) v))
    ≡ visit c (lambda p (scope_of c v) (names ws) r body) v
procedure_comes c p ws r body v =
    let xs : List (List ℕ) = names ws ++ rest_name r in
    ap
    (λ ys. makes c (step.Lambda p (height v) (has_word r)) (visit c (body (scope_of c (bind ys v))) (bind ys v)))
    (names_with_rest ws r)
    ∙ (ap (λ s. makes c (step.Lambda p (height v) (has_word r)) (visit c (body s) (bind xs v))) (scope_bound c xs v)
    ∙ (lambda_comes c p xs (has_word r) (body (within (scope_of c v) xs)) v
    ∙ ap (λ d. visit c d v)
    (with_rest p (height v) ws r (body (within (scope_of c v) xs))
    ∙ ap
    (λ k. Lambda p (variables k (names ws)) (rest_variable (k + length (names ws)) r) (body (within (scope_of c v) xs)))
    (sym (scope_height c v)))))
