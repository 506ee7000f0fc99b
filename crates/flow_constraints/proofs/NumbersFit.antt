-- The steps of a program have their rows and atoms, and so have the procedures that are called.
use Rattle.std.proofs.Common.{◌≡◌, ℕ, ◌+◌, ◌<◌, ◌≤◌, List, [], ◌∷◌, ◌++◌, length, Option, Some, None, sym, ap, ◌∙◌, subst, arith, length-append}
use Rattle.std.proofs.lemmas.Option.{slice_get_within}
use Rattle.std.specs.List.{AllByRecursion, flat_map}
use Rattle.std.specs.Prelude.{Bool, false, slice_get}
use Rattle.scheme_base.specs.declared.pos.Pos.{Pos}
use Rattle.named_form.specs.Code as named
use Rattle.named_form.specs.Code.{Code, Ends, Then, Act, If, Written, arms_bind, binds, bound_in, option_list, past, past_arms, past_code, single}
use Rattle.named_form.specs.Valid.{numbers_from}
use Rattle.named_form.proofs.Kept.{length_numbers, split_append}
use Rattle.named_form.proofs.Rising.{numbers_append}
use Rattle.flow_constraints.specs.declared.flow.Flow.{Flow}
use Rattle.flow_constraints.specs.declared.flow.Kind.{Kind}
use Rattle.flow_constraints.specs.declared.flow.Kind.TheVariants.{Pair}
use Rattle.flow_constraints.specs.declared.layout.Layout.{Layout}
use Rattle.flow_constraints.specs.Layout.{begins, bound_all, entry_of, laid_arms, laid_body, laid_code, laid_lambda, laid_lambdas, laid_main, laid_rest, laid_step, made_kinds, own_rows}
use Rattle.flow_constraints.specs.Rows.{contents_row, number_at}
use Rattle.flow_constraints.specs.Walk.{inside}
use Rattle.flow_constraints.proofs.EachOf.{of_both}
use Rattle.flow_constraints.proofs.LayoutGrows.{Grows, Stands, arms_grow, arms_stand, body_grows, bound_all_grows, bound_all_lists, bound_all_made, code_grows, code_stands, goes_on, lambda_entries, lambdas_grow, noted, params_stand, rest_grows, seam, step_grows, step_stands}
use Rattle.flow_constraints.proofs.RulesNamed.{EntryFits, HasList, IsRow}
use Rattle.flow_constraints.proofs.StepsNamed.{ArmsFit, CodeFits, LambdasFit, ProcsFit, started}

-- a program's numbers have what its whole layout has; so many sites stand before the first step
pub record Whole (u : Layout) (first : ℕ) (f : Flow) : Type 0 where
  pub rows : u.rows ≤ f.rows
  pub vars : (i r : ℕ) → slice_get u.vars i ≡ Some r → number_at f.vars i ≡ r
  pub blocks : (i r : ℕ) → slice_get u.blocks i ≡ Some r → number_at f.blocks i ≡ r
  pub made : (i : ℕ) (k : Kind) → slice_get u.made i ≡ Some k → slice_get f.kinds (10 + (first + i)) ≡ Some k
  pub lists : (i : ℕ) (k : Kind) → slice_get u.lists i ≡ Some k → slice_get f.kinds (u.first_list + i) ≡ Some k
  pub pair : (a r : ℕ) (literal : Bool) → slice_get f.kinds a ≡ Some (Pair r literal) → IsRow f (r + 1)

abbrev pub NumberedFrom : ℕ → List ℕ → Type 0
NumberedFrom n xs = xs ≡ numbers_from n (length xs)

pub numbers_split : (n : ℕ) (xs ys : List ℕ) → NumberedFrom n (xs ++ ys)
    → NumberedFrom n xs × NumberedFrom (n + length xs) ys
numbers_split n xs ys h =
    split_append xs (numbers_from n (length xs)) ys (numbers_from (n + length xs) (length ys))
    (sym (length_numbers n (length xs)))
    (h ∙ (ap (numbers_from n) (length-append xs ys) ∙ numbers_append n (length xs) (length ys)))

-- Steps

step_rows : (u : Layout) (first : ℕ) (f : Flow) → Whole u first f → (var : ℕ) (vars : List ℕ) (act : Act Pos) (t : Layout)
    → Grows (laid_step vars act t) u → var ≡ length t.vars → 1 ≤ t.rows → NumberedFrom var vars
    → (x : ℕ) → vars ≡ x ∷ [] → (1 ≤ number_at f.vars x) × IsRow f (number_at f.vars x + own_rows act)
step_rows u first f h var [] act t grows same some numbers x e = cc
step_rows u first f h var (y ∷ []) act t grows same some numbers x e =
    let is : y ≡ x = cc in
    let here : y ≡ var = cc in
    let place : x ≡ length t.vars = sym is ∙ (here ∙ same) in
    let there = h.vars (length t.vars) t.rows (grows.vars (length t.vars) t.rows (seam t.vars t.rows [])) in
    let row : number_at f.vars x ≡ t.rows = ap (number_at f.vars) place ∙ there in
    let less = grows.rows in
    let more = h.rows in
    (omega (arith, row, some), omega (arith, row, less, more))
step_rows u first f h var (y ∷ z ∷ zs) act t grows same some numbers x e = cc

step_makes : (u : Layout) (first : ℕ) (f : Flow) → Whole u first f → (sites : ℕ) (vars : List ℕ) (act : Act Pos) (t : Layout)
    → Grows (laid_step vars act t) u → sites ≡ first + length t.made
    → (k : Kind) → made_kinds act (single vars) (bound_all vars t).rows ≡ k ∷ [] → slice_get f.kinds (10 + sites) ≡ Some k
step_makes u first f h sites vars act t grows same k e =
    let before = bound_all vars t in
    let last =
    subst (λ ks. slice_get (before.made ++ ks) (length before.made) ≡ Some k) (sym e) (seam before.made k []) in
    let there = h.made (length before.made) k (grows.made (length before.made) k last) in
    let place : 10 + (first + length before.made) ≡ 10 + sites =
    ap (λ ks. 10 + (first + length ks)) (bound_all_made vars t) ∙ ap (λ n. 10 + n) (sym same) in
    subst (λ a. slice_get f.kinds a ≡ Some k) place there

mutual
  pub code_fits : (u : Layout) (first : ℕ) (f : Flow) → Whole u first f → (var : ℕ) (at : named.Counts) (c : Code Pos)
      (t : Layout) → Grows (laid_code c t) u → Stands first var at t → 1 ≤ t.rows → NumberedFrom var (binds c)
      → CodeFits f at c
  code_fits u first f h var at (Ends value) t grows stands some numbers = tt
  code_fits u first f h var at (Then pos vars act rest) t grows stands some numbers =
      let step = laid_step vars act t in
      let arms = laid_arms act step in
      let own = numbers_split var vars (arms_bind act ++ binds rest) numbers in
      let others = numbers_split (var + length vars) (arms_bind act) (binds rest) own.1 in
      let arms_grows = goes_on arms (laid_code rest arms) u (code_grows rest arms) grows in
      let step_grows_on = goes_on step arms u (arms_grow act step) arms_grows in
      let step_there = step_stands first var at vars act t stands in
      let more = (step_grows vars act t).rows in
      let still = (arms_grow act step).rows in (
        record {
          rows = step_rows u first f h var vars act t step_grows_on stands.vars some own.0;
          from = (bound_all vars t).rows;
          makes = step_makes u first f h at.sites vars act t step_grows_on stands.sites;
        },
        arms_fit u first f h (var + length vars) (past at act) act step arms_grows step_there (omega (arith, some, more)) others.0,
        code_fits u first f h (var + length vars + length (arms_bind act)) (past_arms (past at act) act) rest arms grows
            (arms_stand first (var + length vars) (past at act) act step step_there) (omega (arith, some, more, still)) others.1,
      )

  arms_fit : (u : Layout) (first : ℕ) (f : Flow) → Whole u first f → (var : ℕ) (at : named.Counts) (act : Act Pos)
      (t : Layout) → Grows (laid_arms act t) u → Stands first var at t → 1 ≤ t.rows → NumberedFrom var (arms_bind act)
      → ArmsFit f at act
  arms_fit u first f h var at (If v this that) t grows stands some numbers =
      let both = numbers_split var (binds this) (binds that) numbers in
      let between = laid_code this t in
      let more = (code_grows this t).rows in (
        code_fits u first f h var at this t (goes_on between (laid_code that between) u (code_grows that between) grows) stands
            some both.0,
        code_fits u first f h (var + length (binds this)) (past_code at this) that between grows
            (code_stands first var at this t stands) (omega (arith, some, more)) both.1,
      )
  arms_fit u first f h var at act t grows stands some numbers = tt

-- Procedures

body_fits : (u : Layout) (first : ℕ) (f : Flow) → Whole u first f → (var : ℕ) (at : named.Counts) (p : Written) (t : Layout)
    → Grows (laid_body p t) u → Stands first var at t → 1 ≤ t.rows → NumberedFrom var (bound_in p) → CodeFits f at p.body
body_fits u first f h var at p t grows stands some numbers =
    let params = bound_all p.params t in
    let own = numbers_split var p.params (option_list p.rest ++ binds p.body) numbers in
    let others = numbers_split (var + length p.params) (option_list p.rest) (binds p.body) own.1 in
    let more = (bound_all_grows p.params t).rows in
    let still = (rest_grows p.rest params).rows in
    code_fits u first f h (var + length p.params + length (option_list p.rest)) at p.body (laid_rest p.rest params) grows
    (params_stand first var at p t stands) (omega (arith, some, more, still)) others.1

body_stands : (first var : ℕ) (at : named.Counts) (p : Written) (t : Layout) → Stands first var at t
    → Stands first (var + length (bound_in p)) (past_code at p.body) (laid_body p t)
body_stands first var at p t h =
    let params = params_stand first var at p t h in
    let there =
    code_stands first (var + length p.params + length (option_list p.rest)) at p.body
    (laid_rest p.rest (bound_all p.params t)) params in
    let found = there.vars in
    let all = length-append p.params (option_list p.rest ++ binds p.body) in
    let both = length-append (option_list p.rest) (binds p.body) in
    record { vars = omega (arith, found, all, both); blocks = there.blocks; sites = there.sites }

-- a body's block has its number once it is begun
begun_stands : (first var n : ℕ) (at : named.Counts) (t : Layout) → Stands first var at t
    → Stands first var (inside at) (begins n t)
begun_stands first var n at t h =
    let same = h.blocks in
    let one = length-append t.blocks (t.rows ∷ []) in
    record { vars = h.vars; blocks = omega (arith, same, one); sites = h.sites }

result_there : (u : Layout) (first : ℕ) (f : Flow) → Whole u first f → (t : Layout) → Grows (begins 2 t) u
    → IsRow f (number_at f.blocks (length t.blocks) + 1)
result_there u first f h t grows =
    let there = h.blocks (length t.blocks) t.rows (grows.blocks (length t.blocks) t.rows (seam t.blocks t.rows [])) in
    let less = grows.rows in
    let more = h.rows in
    omega (arith, there, less, more)

lambdas_fit : (u : Layout) (first : ℕ) (f : Flow) → Whole u first f → (var : ℕ) (at : named.Counts) (ps : List Written)
    (t : Layout) → Grows (laid_lambdas ps t) u → Stands first var at t → NumberedFrom var (flat_map bound_in ps)
    → LambdasFit f at ps
lambdas_fit u first f h var at [] t grows stands numbers = tt
lambdas_fit u first f h var at (p ∷ ps) t grows stands numbers =
    let begun = begins 2 (noted p t) in
    let own = numbers_split var (bound_in p) (flat_map bound_in ps) numbers in
    let laid = goes_on (laid_lambda p t) (laid_lambdas ps (laid_lambda p t)) u (lambdas_grow ps (laid_lambda p t)) grows in
    let inner = begun_stands first var 2 at (noted p t) (record { vars = stands.vars; blocks = stands.blocks; sites = stands.sites }) in
    let result = result_there u first f h (noted p t) (goes_on begun (laid_lambda p t) u (body_grows p begun) laid) in (
      subst (λ b. IsRow f (number_at f.blocks b + 1)) (sym stands.blocks) result,
      body_fits u first f h var (inside at) p begun laid inner (omega arith) own.0,
      lambdas_fit u first f h (var + length (bound_in p)) (past_code (inside at) p.body) ps (laid_lambda p t) grows
          (body_stands first var (inside at) p begun inner) own.1,
    )

pub procs_fit : (u : Layout) (first : ℕ) (f : Flow) → Whole u first f → (p : Written) (ps : List Written) (t : Layout)
    → Grows (laid_lambdas ps (laid_main p t)) u → Stands first 0 (started first) t
    → NumberedFrom 0 (flat_map bound_in (p ∷ ps)) → ProcsFit f first (p ∷ ps)
procs_fit u first f h p ps t grows stands numbers =
    let own = numbers_split 0 (bound_in p) (flat_map bound_in ps) numbers in
    let main = laid_main p t in
    let laid = goes_on main (laid_lambdas ps main) u (lambdas_grow ps main) grows in
    let inner = begun_stands first 0 1 (started first) t stands in (
      body_fits u first f h 0 (inside (started first)) p (begins 1 t) laid inner (omega arith) own.0,
      lambdas_fit u first f h (0 + length (bound_in p)) (past_code (inside (started first)) p.body) ps main grows
          (body_stands first 0 (inside (started first)) p (begins 1 t) inner) own.1,
    )

-- Calls

list_there : (u : Layout) (first : ℕ) (f : Flow) → Whole u first f → (o : Option ℕ) (t : Layout) → Grows (laid_rest o t) u
    → HasList f o (t.first_list + length t.lists)
list_there u first f h None t grows = tt
list_there u first f h (Some x) t grows =
    let k = Pair (t.rows + 1) false in
    let there =
    subst (λ n. slice_get f.kinds (n + length t.lists) ≡ Some k) grows.first
    (h.lists (length t.lists) k (grows.lists (length t.lists) k (seam t.lists k []))) in
    record {
      atom = slice_get_within f.kinds (t.first_list + length t.lists) k there;
      parts =
          subst (λ o. IsRow f (contents_row o + 1)) (sym there)
          (h.pair (t.first_list + length t.lists) (t.rows + 1) false there);
    }

entry_fits : (u : Layout) (first : ℕ) (f : Flow) → Whole u first f → (p : Written) (t : Layout) → Grows (laid_lambda p t) u
    → 10 + length t.entries < length f.kinds → EntryFits f (entry_of p t)
entry_fits u first f h p t grows few =
    let begun = begins 2 (noted p t) in
    let params = bound_all p.params begun in
    let rest = laid_rest p.rest params in
    let place : params.first_list + length params.lists ≡ t.first_list + length t.lists =
    ap (λ n. n + length params.lists) (bound_all_grows p.params begun).first
    ∙ ap (λ ks. t.first_list + length ks) (bound_all_lists p.params begun) in
    record {
      atom = few;
      result = result_there u first f h (noted p t) (goes_on begun (laid_lambda p t) u (body_grows p begun) grows);
      list =
          subst (λ a. HasList f p.rest a) place
          (list_there u first f h p.rest params (goes_on rest (laid_lambda p t) u (code_grows p.body rest) grows));
    }

pub entries_fit : (u : Layout) (first : ℕ) (f : Flow) → Whole u first f → (ps : List Written) (t : Layout)
    → Grows (laid_lambdas ps t) u → 10 + (length t.entries + length ps) ≤ length f.kinds
    → AllByRecursion (EntryFits f) t.entries → AllByRecursion (EntryFits f) (laid_lambdas ps t).entries
entries_fit u first f h [] t grows few fit = fit
entries_fit u first f h (p ∷ ps) t grows few fit =
    let laid = goes_on (laid_lambda p t) (laid_lambdas ps (laid_lambda p t)) u (lambdas_grow ps (laid_lambda p t)) grows in
    let one = ap length (lambda_entries p t) in
    let longer = length-append t.entries (entry_of p t ∷ []) in
    entries_fit u first f h ps (laid_lambda p t) grows (omega (arith, few, one, longer))
    (subst (λ es. AllByRecursion (EntryFits f) es) (sym (lambda_entries p t))
    (of_both (EntryFits f) t.entries (entry_of p t ∷ []) fit
    (entry_fits u first f h p t laid (omega (arith, few)), tt)))
