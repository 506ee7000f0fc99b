-- Steps of a `do` that loops put: the values for the next turn, and the results.
use Rattle.std.proofs.Common.{Bor, ℕ, ◌≡◌, List, [], ◌∷◌, ◌++◌, Option, suc, ◌≤◌, length, map, refl, sym, ap, subst, ◌∙◌, append-nil, append_assoc, arith}
use Rattle.std.proofs.lemmas.List.{length-map}
use Rattle.scheme_base.specs.declared.pos.Pos.{Pos}
use Rattle.scheme_expand.specs.declared.expander.Expander.{Expander}
use Rattle.scheme_expand.specs.declared.step.Step.{Step}
use Rattle.scheme_expand.specs.declared.step.Step.TheVariants as step
use Rattle.scheme_expand.specs.Putting.{next_step, next_steps, result_steps_of}
use Rattle.scheme_expand.specs.Rewriting.{variables}
use Rattle.scheme_expand.specs.Viewed.{Puts}
use Rattle.scheme_expand.proofs.Coming.{puts_nothing, puts_twice}
use Rattle.scheme_expand.proofs.MadeBodies.{same_self}
use Rattle.draft_form.specs.declared.draft.Variable.{Variable}
use Rattle.draft_form.specs.Drawn.{Names, name_of}

-- The values for the next turn, from the last to the first

pub record NextsPut (a b : Expander) (p : Pos) (steps rest : List (Option ℕ)) (vars later : List Variable) : Type 0 where
  pub done : List (Option ℕ)
  pub used : List Variable
  pub steps_are : steps ≡ rest ++ done
  pub vars_are : vars ≡ later ++ used
  pub same : length done ≡ length used
  pub puts : Puts a b (next_steps p done used)

pub no_nexts_put : (a : Expander) (p : Pos) (steps : List (Option ℕ)) (vars later : List Variable) → later ≡ vars
    → NextsPut a a p steps steps vars later
no_nexts_put a p steps vars later e = record {
  done = [];
  used = [];
  steps_are = sym (append-nil steps);
  vars_are = sym (append-nil later ∙ e);
  same = refl;
  puts = puts_nothing a a (same_self a) refl;
}

pub last_nexts_put : (a b d : Expander) (p : Pos) (steps rest others : List (Option ℕ)) (vars later before : List Variable)
    (o : Option ℕ) (x : Variable) → NextsPut a b p steps rest vars later → rest ≡ others ++ o ∷ [] → later ≡ before ++ x ∷ []
    → Puts b d (next_step p o x ∷ []) → NextsPut a d p steps others vars before
last_nexts_put a b d p steps rest others vars later before o x i split parted put = record {
  done = o ∷ i.done;
  used = x ∷ i.used;
  steps_are = i.steps_are ∙ (ap (λ l. l ++ i.done) split ∙ append_assoc others (o ∷ []) i.done);
  vars_are = i.vars_are ∙ (ap (λ l. l ++ i.used) parted ∙ append_assoc before (x ∷ []) i.used);
  same = ap suc i.same;
  puts = puts_twice a b d (next_steps p i.done i.used) (next_step p o x ∷ []) i.puts put;
}

none_later : (xs ys : List Variable) → length (xs ++ ys) ≡ length ys → xs ≡ []
none_later [] ys e = refl
none_later (x ∷ xs) ys e =
    let long : suc (length (xs ++ ys)) ≡ length ys = e in
    absurd (omega (arith, long, longer xs ys))
  where
    longer : (us vs : List Variable) → length vs ≤ length (us ++ vs)
    longer [] vs = omega arith
    longer (u ∷ us) vs = let rest = longer us vs in omega (arith, rest)

pub all_nexts_put : (a b : Expander) (p : Pos) (steps rest : List (Option ℕ)) (vars later : List Variable)
    → NextsPut a b p steps rest vars later → rest ≡ [] → length vars ≡ length steps → Puts a b (next_steps p steps vars)
all_nexts_put a b p steps rest vars later i e size =
    let all : steps ≡ i.done = i.steps_are ∙ ap (λ l. l ++ i.done) e in
    let same : length (later ++ i.used) ≡ length i.used =
    sym (ap (λ l. length l) i.vars_are) ∙ (size ∙ (ap (λ l. length l) all ∙ i.same))
    in
    let vars_all : vars ≡ i.used = i.vars_are ∙ ap (λ l. l ++ i.used) (none_later later i.used same) in
    let P : List (Option ℕ) → Type 0 = λ l. Puts a b (next_steps p l vars) in
    let Q : List Variable → Type 0 = λ l. Puts a b (next_steps p i.done l) in
    subst P (sym all) (subst Q (sym vars_all) i.puts)

length-variables : (k : ℕ) (xs : List (List ℕ)) → length (variables k xs) ≡ length xs
length-variables k [] = refl
length-variables k (x ∷ xs) = ap suc (length-variables (suc k) xs)

pub as_many : (names : Names) (vars : List Variable) (k : ℕ) (xs : List (List ℕ)) → map (name_of names) vars ≡ variables k xs
    → length vars ≡ length xs
as_many names vars k xs e = sym (length-map vars (name_of names)) ∙ (ap (λ l. length l) e ∙ length-variables k xs)

-- Results

pub some_results : (p : Pos) (ids : Bor (List ℕ)) (now : List ℕ) → (now ≡ [] → ⊥)
    → step.Sequence p (length now) ∷ step.Exprs ids ∷ [] ≡ result_steps_of p ids now
some_results p ids [] h = absurd (h refl)
some_results p ids (id ∷ now) h = refl
