-- A layout keeps what it has, and the rows that it has are below the number of its rows.
use Rattle.std.proofs.Common.{◌≡◌, ℕ, zero, suc, ◌+◌, ◌<◌, ◌≤◌, List, [], ◌∷◌, ◌++◌, length, Option, Some, None, refl, sym, ap, ◌∙◌, arith, length-append}
use Rattle.std.specs.List.{AllByRecursion}
use Rattle.std.specs.Prelude.{false, if◌then◌else◌, slice_get}
use Rattle.scheme_base.specs.declared.op.Op.{Op}
use Rattle.scheme_base.specs.declared.op.Op.TheVariants as op
use Rattle.scheme_base.specs.declared.pos.Pos.{Pos}
use Rattle.named_form.specs.Code as named
use Rattle.named_form.specs.Code.{Code, Ends, Then, Act, Prim, If, Apply, CallCC, MakeBox, MakeHole, Written, arms_bind, arms_of, binds, makes, option_list, past, past_arms, past_code, rest_lists, single, sites_of}
use Rattle.flow_constraints.specs.declared.flow.Kind.{Kind}
use Rattle.flow_constraints.specs.declared.flow.Kind.TheVariants.{Pair, Vector, Symbol}
use Rattle.flow_constraints.specs.declared.layout.Layout.{Layout}
use Rattle.flow_constraints.specs.Layout.{arm_rows, begins, bound, bound_all, entry_of, laid_arms, laid_body, laid_code, laid_lambda, laid_lambdas, laid_main, laid_own, laid_rest, laid_step, made_kinds, own_rows, prim_kinds, prim_rows}
use Rattle.flow_constraints.proofs.EachOf.{of_both}

pub front : {X : Type 0} (xs ys : List X) (i : ℕ) (x : X) → slice_get xs i ≡ Some x → slice_get (xs ++ ys) i ≡ Some x
front [] ys i x h = cc
front (z ∷ xs) ys zero x h = h
front (z ∷ xs) ys (suc i) x h = front xs ys i x h

pub seam : {X : Type 0} (xs : List X) (y : X) (ys : List X) → slice_get (xs ++ y ∷ ys) (length xs) ≡ Some y
seam [] y ys = refl
seam (x ∷ xs) y ys = seam xs y ys

-- the rows of an atom's objects are below this one
abbrev pub KindBelow : ℕ → Kind → Type 0
KindBelow most (Pair r literal) = r + 1 < most
KindBelow most (Vector r literal) = r < most
KindBelow most (Symbol r) = r < most
KindBelow most k = Unit {0}

pub record Below (most : ℕ) (t : Layout) : Type 0 where
  pub vars : AllByRecursion (λ r. r < most) t.vars
  pub blocks : AllByRecursion (λ r. r < most) t.blocks
  pub lists : AllByRecursion (KindBelow most) t.lists
  pub made : AllByRecursion (KindBelow most) t.made

-- one layout goes on from another
pub record Grows (t u : Layout) : Type 0 where
  pub rows : t.rows ≤ u.rows
  pub vars : (i r : ℕ) → slice_get t.vars i ≡ Some r → slice_get u.vars i ≡ Some r
  pub blocks : (i r : ℕ) → slice_get t.blocks i ≡ Some r → slice_get u.blocks i ≡ Some r
  pub lists : (i : ℕ) (k : Kind) → slice_get t.lists i ≡ Some k → slice_get u.lists i ≡ Some k
  pub made : (i : ℕ) (k : Kind) → slice_get t.made i ≡ Some k → slice_get u.made i ≡ Some k
  pub first : u.first_list ≡ t.first_list
  pub below : (most : ℕ) → u.rows ≤ most → Below most t → Below most u

pub stays : (t : Layout) → Grows t t
stays t =
    record {
      rows = omega arith;
      vars = λ i r h. h;
      blocks = λ i r h. h;
      lists = λ i k h. h;
      made = λ i k h. h;
      first = refl;
      below = λ most few h. h;
    }

pub goes_on : (t u v : Layout) → Grows t u → Grows u v → Grows t v
goes_on t u v g h =
    record {
      rows = let less = g.rows in let more = h.rows in omega (arith, less, more);
      vars = λ i r k. h.vars i r (g.vars i r k);
      blocks = λ i r k. h.blocks i r (g.blocks i r k);
      lists = λ i k e. h.lists i k (g.lists i k e);
      made = λ i k e. h.made i k (g.made i k e);
      first = h.first ∙ g.first;
      below = λ most few k. let more = h.rows in h.below most few (g.below most (omega (arith, few, more)) k);
    }

-- Steps

bound_grows : (t : Layout) → Grows t (bound t)
bound_grows t =
    record {
      rows = omega arith;
      vars = λ i r h. front t.vars (t.rows ∷ []) i r h;
      blocks = λ i r h. h;
      lists = λ i k h. h;
      made = λ i k h. h;
      first = refl;
      below = λ most few h.
          record {
            vars = of_both (λ r. r < most) t.vars (t.rows ∷ []) h.vars (omega (arith, few), tt);
            blocks = h.blocks;
            lists = h.lists;
            made = h.made;
          };
    }

pub bound_all_grows : (xs : List ℕ) (t : Layout) → Grows t (bound_all xs t)
bound_all_grows [] t = stays t
bound_all_grows (x ∷ xs) t = goes_on t (bound t) (bound_all xs (bound t)) (bound_grows t) (bound_all_grows xs (bound t))

arms_below : (most r : ℕ) (act : Act Pos) → r + own_rows act ≤ most → AllByRecursion (λ n. n < most) (arm_rows act r)
arms_below most r (If v this that) few = (omega (arith, few), (omega (arith, few), tt))
arms_below most r act few = tt

prim_below : (most r : ℕ) (o : Op) → r + prim_rows o ≤ most → AllByRecursion (KindBelow most) (prim_kinds o r)
prim_below most r op.Cons few = (omega (arith, few), tt)
prim_below most r op.MakeVector few = (omega (arith, few), tt)
prim_below most r op.MakeString few = (tt, tt)
prim_below most r op.MakeSymbol few = (omega (arith, few), tt)
prim_below most r o few = tt

made_below : (most x r : ℕ) (act : Act Pos) → r + own_rows act ≤ most
    → AllByRecursion (KindBelow most) (made_kinds act x r)
made_below most x r (Prim o ys) few = prim_below most r o few
made_below most x r (MakeBox y) few = (tt, tt)
made_below most x r MakeHole few = (tt, tt)
made_below most x r (CallCC g) few = (tt, tt)
made_below most x r act few = tt

own_grows : (x : ℕ) (act : Act Pos) (t : Layout) → Grows t (laid_own x act t)
own_grows x act t =
    record {
      rows = omega arith;
      vars = λ i r h. h;
      blocks = λ i r h. front t.blocks (arm_rows act t.rows) i r h;
      lists = λ i k h. h;
      made = λ i k h. front t.made (made_kinds act x t.rows) i k h;
      first = refl;
      below = λ most few h.
          record {
            vars = h.vars;
            blocks = of_both (λ r. r < most) t.blocks (arm_rows act t.rows) h.blocks (arms_below most t.rows act few);
            lists = h.lists;
            made = of_both (KindBelow most) t.made (made_kinds act x t.rows) h.made (made_below most x t.rows act few);
          };
    }

pub step_grows : (vars : List ℕ) (act : Act Pos) (t : Layout) → Grows t (laid_step vars act t)
step_grows vars act t =
    goes_on t (bound_all vars t) (laid_step vars act t) (bound_all_grows vars t) (own_grows (single vars) act (bound_all vars t))

mutual
  pub code_grows : (c : Code Pos) (t : Layout) → Grows t (laid_code c t)
  code_grows (Ends value) t = stays t
  code_grows (Then pos vars act rest) t =
      let step = laid_step vars act t in
      goes_on t step (laid_code rest (laid_arms act step)) (step_grows vars act t)
      (goes_on step (laid_arms act step) (laid_code rest (laid_arms act step)) (arms_grow act step)
      (code_grows rest (laid_arms act step)))

  pub arms_grow : (act : Act Pos) (t : Layout) → Grows t (laid_arms act t)
  arms_grow (If v this that) t =
      goes_on t (laid_code this t) (laid_code that (laid_code this t)) (code_grows this t)
      (code_grows that (laid_code this t))
  arms_grow act t = stays t

-- Procedures

pub rest_grows : (o : Option ℕ) (t : Layout) → Grows t (laid_rest o t)
rest_grows None t = stays t
rest_grows (Some x) t =
    record {
      rows = omega arith;
      vars = λ i r h. front t.vars (t.rows ∷ []) i r h;
      blocks = λ i r h. h;
      lists = λ i k h. front t.lists (Pair (t.rows + 1) false ∷ []) i k h;
      made = λ i k h. h;
      first = refl;
      below = λ most few h.
          record {
            vars = of_both (λ r. r < most) t.vars (t.rows ∷ []) h.vars (omega (arith, few), tt);
            blocks = h.blocks;
            lists = of_both (KindBelow most) t.lists (Pair (t.rows + 1) false ∷ []) h.lists (omega (arith, few), tt);
            made = h.made;
          };
    }

pub body_grows : (p : Written) (t : Layout) → Grows t (laid_body p t)
body_grows p t =
    let params = bound_all p.params t in
    goes_on t params (laid_body p t) (bound_all_grows p.params t)
    (goes_on params (laid_rest p.rest params) (laid_body p t) (rest_grows p.rest params)
    (code_grows p.body (laid_rest p.rest params)))

pub begins_grows : (n : ℕ) (t : Layout) → 1 ≤ n → Grows t (begins n t)
begins_grows n t some =
    record {
      rows = omega arith;
      vars = λ i r h. h;
      blocks = λ i r h. front t.blocks (t.rows ∷ []) i r h;
      lists = λ i k h. h;
      made = λ i k h. h;
      first = refl;
      below = λ most few h.
          record {
            vars = h.vars;
            blocks = of_both (λ r. r < most) t.blocks (t.rows ∷ []) h.blocks (omega (arith, few, some), tt);
            lists = h.lists;
            made = h.made;
          };
    }

pub main_grows : (p : Written) (t : Layout) → Grows t (laid_main p t)
main_grows p t =
    goes_on t (begins 1 t) (laid_main p t) (begins_grows 1 t (omega arith)) (body_grows p (begins 1 t))

-- with what a call of a procedure looks up
abbrev pub noted : Written → Layout → Layout
noted p t = record t { entries = t.entries ++ entry_of p t ∷ [] }

noted_grows : (p : Written) (t : Layout) → Grows t (noted p t)
noted_grows p t =
    record {
      rows = omega arith;
      vars = λ i r h. h;
      blocks = λ i r h. h;
      lists = λ i k h. h;
      made = λ i k h. h;
      first = refl;
      below = λ most few h. record { vars = h.vars; blocks = h.blocks; lists = h.lists; made = h.made };
    }

pub lambda_grows : (p : Written) (t : Layout) → Grows t (laid_lambda p t)
lambda_grows p t =
    goes_on t (noted p t) (laid_lambda p t) (noted_grows p t)
    (goes_on (noted p t) (begins 2 (noted p t)) (laid_lambda p t) (begins_grows 2 (noted p t) (omega arith))
    (body_grows p (begins 2 (noted p t))))

pub lambdas_grow : (ps : List Written) (t : Layout) → Grows t (laid_lambdas ps t)
lambdas_grow [] t = stays t
lambdas_grow (p ∷ ps) t =
    goes_on t (laid_lambda p t) (laid_lambdas ps (laid_lambda p t)) (lambda_grows p t) (lambdas_grow ps (laid_lambda p t))

-- What steps leave as it is

bound_all_same : {X : Type 0} (view : Layout → X) → ((t : Layout) → view (bound t) ≡ view t) → (xs : List ℕ) (t : Layout)
    → view (bound_all xs t) ≡ view t
bound_all_same view one [] t = refl
bound_all_same view one (x ∷ xs) t = bound_all_same view one xs (bound t) ∙ one t

mutual
  code_same : {X : Type 0} (view : Layout → X) → ((t : Layout) → view (bound t) ≡ view t)
      → ((x : ℕ) (act : Act Pos) (t : Layout) → view (laid_own x act t) ≡ view t)
      → (c : Code Pos) (t : Layout) → view (laid_code c t) ≡ view t
  code_same view one own (Ends value) t = refl
  code_same view one own (Then pos vars act rest) t =
      let step = laid_step vars act t in
      code_same view one own rest (laid_arms act step)
      ∙ (arms_same view one own act step
      ∙ (own (single vars) act (bound_all vars t) ∙ bound_all_same view one vars t))

  arms_same : {X : Type 0} (view : Layout → X) → ((t : Layout) → view (bound t) ≡ view t)
      → ((x : ℕ) (act : Act Pos) (t : Layout) → view (laid_own x act t) ≡ view t)
      → (act : Act Pos) (t : Layout) → view (laid_arms act t) ≡ view t
  arms_same view one own (If v this that) t =
      code_same view one own that (laid_code this t) ∙ code_same view one own this t
  arms_same view one own act t = refl

rest_entries : (o : Option ℕ) (t : Layout) → (laid_rest o t).entries ≡ t.entries
rest_entries None t = refl
rest_entries (Some x) t = refl

body_entries : (p : Written) (t : Layout) → (laid_body p t).entries ≡ t.entries
body_entries p t =
    let params = bound_all p.params t in
    code_same (λ w. w.entries) (λ w. refl) (λ x act w. refl) p.body (laid_rest p.rest params)
    ∙ (rest_entries p.rest params ∙ bound_all_same (λ w. w.entries) (λ w. refl) p.params t)

pub main_entries : (p : Written) (t : Layout) → (laid_main p t).entries ≡ t.entries
main_entries p t = body_entries p (begins 1 t)

pub lambda_entries : (p : Written) (t : Layout) → (laid_lambda p t).entries ≡ t.entries ++ entry_of p t ∷ []
lambda_entries p t = body_entries p (begins 2 (noted p t))

pub lambdas_entries : (ps : List Written) (t : Layout) → length (laid_lambdas ps t).entries ≡ length t.entries + length ps
lambdas_entries [] t = omega arith
lambdas_entries (p ∷ ps) t =
    let others = lambdas_entries ps (laid_lambda p t) in
    let one = ap length (lambda_entries p t) in
    let longer = length-append t.entries (entry_of p t ∷ []) in
    omega (arith, others, one, longer)

rest_lists_many : (o : Option ℕ) (t : Layout) → length (laid_rest o t).lists ≡ length t.lists + length (option_list o)
rest_lists_many None t = omega arith
rest_lists_many (Some x) t = length-append t.lists (Pair (t.rows + 1) false ∷ [])

pub body_lists : (p : Written) (t : Layout) → length (laid_body p t).lists ≡ length t.lists + length (option_list p.rest)
body_lists p t =
    let params = bound_all p.params t in
    let after = ap length (code_same (λ w. w.lists) (λ w. refl) (λ x act w. refl) p.body (laid_rest p.rest params)) in
    let own = rest_lists_many p.rest params in
    let before = ap length (bound_all_same (λ w. w.lists) (λ w. refl) p.params t) in
    omega (arith, after, own, before)

pub lambdas_lists : (ps : List Written) (t : Layout) → length (laid_lambdas ps t).lists ≡ length t.lists + rest_lists ps
lambdas_lists [] t = omega arith
lambdas_lists (p ∷ ps) t =
    let others = lambdas_lists ps (laid_lambda p t) in
    let one = body_lists p (begins 2 (noted p t)) in
    omega (arith, others, one)

-- How many variables, blocks and atoms there are

pub bound_all_vars : (xs : List ℕ) (t : Layout) → length (bound_all xs t).vars ≡ length t.vars + length xs
bound_all_vars [] t = omega arith
bound_all_vars (x ∷ xs) t =
    let more = bound_all_vars xs (bound t) in
    let one = length-append t.vars (t.rows ∷ []) in
    omega (arith, more, one)

bound_all_blocks : (xs : List ℕ) (t : Layout) → (bound_all xs t).blocks ≡ t.blocks
bound_all_blocks xs t = bound_all_same (λ w. w.blocks) (λ w. refl) xs t

pub bound_all_made : (xs : List ℕ) (t : Layout) → (bound_all xs t).made ≡ t.made
bound_all_made xs t = bound_all_same (λ w. w.made) (λ w. refl) xs t

pub bound_all_lists : (xs : List ℕ) (t : Layout) → (bound_all xs t).lists ≡ t.lists
bound_all_lists xs t = bound_all_same (λ w. w.lists) (λ w. refl) xs t

arms_many : (act : Act Pos) (r : ℕ) → length (arm_rows act r) ≡ arms_of act
arms_many (If v this that) r = refl
arms_many act r = refl

prim_many : (o : Op) (r : ℕ) → length (prim_kinds o r) ≡ (if makes o then 1 else 0)
prim_many op.Cons r = refl
prim_many o r = refl

pub made_many : (act : Act Pos) (x r : ℕ) → length (made_kinds act x r) ≡ sites_of act
made_many (Prim o ys) x r = prim_many o r
made_many act x r = refl

-- as many variables, blocks and sites are laid out as stand before a position
pub record Stands (first var : ℕ) (at : named.Counts) (t : Layout) : Type 0 where
  pub vars : var ≡ length t.vars
  pub blocks : at.blocks ≡ length t.blocks
  pub sites : at.sites ≡ first + length t.made

pub step_stands : (first var : ℕ) (at : named.Counts) (vars : List ℕ) (act : Act Pos) (t : Layout)
    → Stands first var at t → Stands first (var + length vars) (past at act) (laid_step vars act t)
step_stands first var at vars act t h =
    let before = bound_all vars t in
    let so_far = h.vars in
    let blocks_so_far = h.blocks in
    let sites_so_far = h.sites in
    let more = bound_all_vars vars t in
    let same_blocks = ap length (bound_all_blocks vars t) in
    let same_made = ap length (bound_all_made vars t) in
    let blocks = length-append before.blocks (arm_rows act before.rows) in
    let made = length-append before.made (made_kinds act (single vars) before.rows) in
    let arms = arms_many act before.rows in
    let sites = made_many act (single vars) before.rows in
    record {
      vars = omega (arith, so_far, more);
      blocks = omega (arith, blocks_so_far, same_blocks, blocks, arms);
      sites = omega (arith, sites_so_far, same_made, made, sites);
    }

mutual
  pub code_stands : (first var : ℕ) (at : named.Counts) (c : Code Pos) (t : Layout) → Stands first var at t
      → Stands first (var + length (binds c)) (past_code at c) (laid_code c t)
  code_stands first var at (Ends value) t h =
      record { vars = let same = h.vars in omega (arith, same); blocks = h.blocks; sites = h.sites }
  code_stands first var at (Then pos vars act rest) t h =
      let step = laid_step vars act t in
      let there =
      code_stands first (var + length vars + length (arms_bind act)) (past_arms (past at act) act) rest (laid_arms act step)
      (arms_stand first (var + length vars) (past at act) act step (step_stands first var at vars act t h)) in
      let all = length-append vars (arms_bind act ++ binds rest) in
      let both = length-append (arms_bind act) (binds rest) in
      let found = there.vars in
      record { vars = omega (arith, found, all, both); blocks = there.blocks; sites = there.sites }

  pub arms_stand : (first var : ℕ) (at : named.Counts) (act : Act Pos) (t : Layout) → Stands first var at t
      → Stands first (var + length (arms_bind act)) (past_arms at act) (laid_arms act t)
  arms_stand first var at (If v this that) t h =
      let there =
      code_stands first (var + length (binds this)) (past_code at this) that (laid_code this t)
      (code_stands first var at this t h) in
      let both = length-append (binds this) (binds that) in
      let found = there.vars in
      record { vars = omega (arith, found, both); blocks = there.blocks; sites = there.sites }
  arms_stand first var at act t h =
      record { vars = let same = h.vars in omega (arith, same); blocks = h.blocks; sites = h.sites }

rest_stands : (first var : ℕ) (at : named.Counts) (o : Option ℕ) (t : Layout) → Stands first var at t
    → Stands first (var + length (option_list o)) at (laid_rest o t)
rest_stands first var at None t h =
    record { vars = let same = h.vars in omega (arith, same); blocks = h.blocks; sites = h.sites }
rest_stands first var at (Some x) t h =
    let same = h.vars in
    let one = length-append t.vars (t.rows ∷ []) in
    record { vars = omega (arith, same, one); blocks = h.blocks; sites = h.sites }

-- a procedure's parameters are bound before its body
pub params_stand : (first var : ℕ) (at : named.Counts) (p : Written) (t : Layout) → Stands first var at t
    → Stands first (var + length p.params + length (option_list p.rest)) at (laid_rest p.rest (bound_all p.params t))
params_stand first var at p t h =
    let same = h.vars in
    let more = bound_all_vars p.params t in
    rest_stands first (var + length p.params) at p.rest (bound_all p.params t)
    (record {
      vars = omega (arith, same, more);
      blocks = h.blocks ∙ sym (ap length (bound_all_blocks p.params t));
      sites = h.sites ∙ sym (ap (λ ks. first + length ks) (bound_all_made p.params t));
    })
