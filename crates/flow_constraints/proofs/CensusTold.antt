-- What is counted of a program is how many rows and atoms it has.
use Rattle.std.proofs.Common.{◌≡◌, ℕ, suc, ◌+◌, ◌-◌, ◌*◌, ◌<◌, ◌≤◌, ◌^◌, Bool, true, false, List, [], ◌∷◌, ◌++◌, length, replicate, Option, Some, None, refl, sym, ap, subst, ◌∙◌, arith, length-append, nat_eq, drop, get_or, length-drop, inl, inr, ◌⊎◌}
use Rattle.std.specs.Prelude.{if◌then◌else◌}
use Rattle.std.proofs.Math.Seq.{drop-cons}
use Rattle.std.proofs.lemmas.Bool.{cases_lt, ne_eqb}
use Rattle.std.proofs.lemmas.List.{length-replicate}
use Rattle.scheme_base.specs.declared.lit.Lit.{Lit}
use Rattle.scheme_base.specs.declared.pos.Pos.{Pos}
use Rattle.named_form.specs.Code.{Code, Ends, Then, Act, If, Written, single, sites_of}
use Rattle.named_form.specs.Valid.{Form}
use Rattle.flow_constraints.specs.declared.census.Census.{Census}
use Rattle.flow_constraints.specs.declared.flow.Kind.{Kind}
use Rattle.flow_constraints.specs.declared.flow.Kind.TheVariants.{Fixed, Pair, Text, Vector}
use Rattle.flow_constraints.specs.declared.layout.Layout.{Layout}
use Rattle.flow_constraints.specs.declared.layout.Quoted.{Quoted}
use Rattle.flow_constraints.specs.declared.layout.Shape.{Shape}
use Rattle.flow_constraints.specs.Census.{counted_arms, counted_body, counted_code, counted_lambda, counted_lambdas, counted_lits, counted_main, counted_object, counted_procs, counted_rest, counted_step, cut, more, one_if}
use Rattle.flow_constraints.specs.Layout.{begins, bound, bound_all, closure_kinds, entry_of, kinds_of, laid_all, laid_arms, laid_body, laid_code, laid_lambda, laid_lambdas, laid_main, laid_own, laid_rest, laid_step, layout_of, made_kinds, own_rows, started}
use Rattle.flow_constraints.specs.Limits.{atom_count, row_count}
use Rattle.flow_constraints.specs.Quoted.{coming_past, literal_put, object_begun, pairs_added, quoted_all, shape_of, texts_added, unquoted, vectors_added, when, with_coming, with_one}
use Rattle.flow_constraints.proofs.LayoutGrows.{made_many, noted}
use Rattle.flow_constraints.proofs.ProgramFits.{closures_many}

-- a count that is held, with more
pub held_more : (held n r m : ℕ) → held ≡ cut n → m ≡ n + r → cut (held + r) ≡ cut m
held_more held n r m h k = omega (arith, h, k)

-- how many atoms there are so far
abbrev atoms : Layout → ℕ
atoms t = ((10 + length t.entries) + length t.lists) + length t.made

-- a layout has so many more rows and atoms than another
record Adds (r a : ℕ) (t u : Layout) : Type 0 where
  pub rows : u.rows ≡ t.rows + r
  pub many : atoms u ≡ atoms t + a

-- what is laid out so far is counted
record Told (c : Census) (t : Layout) : Type 0 where
  pub rows : c.rows ≡ cut t.rows
  pub atoms : c.atoms ≡ cut (atoms t)

more_told : (r a : ℕ) (c : Census) (t u : Layout) → Told c t → Adds r a t u → Told (more r a c) u
more_told r a c t u h adds =
    record {
      rows = held_more c.rows t.rows r u.rows h.rows adds.rows;
      atoms = held_more c.atoms (atoms t) a (atoms u) h.atoms adds.many;
    }

-- Steps

bound_adds : (xs : List ℕ) (t : Layout) → Adds (length xs) 0 t (bound_all xs t)
bound_adds [] t = record { rows = omega arith; many = omega arith }
bound_adds (x ∷ xs) t =
    let others = bound_adds xs (bound t) in
    let rows = others.rows in
    let many = others.many in
    record { rows = omega (arith, rows); many = omega (arith, many) }

own_adds : (x : ℕ) (act : Act Pos) (t : Layout) → Adds (own_rows act) (sites_of act) t (laid_own x act t)
own_adds x act t =
    let all = length-append t.made (made_kinds act x t.rows) in
    let many = made_many act x t.rows in
    record { rows = refl; many = omega (arith, all, many) }

step_told : (vars : List ℕ) (act : Act Pos) (c : Census) (t : Layout) → Told c t
    → Told (counted_step vars act c) (laid_step vars act t)
step_told vars act c t h =
    more_told (own_rows act) (sites_of act) (more (length vars) 0 c) (bound_all vars t) (laid_step vars act t)
    (more_told (length vars) 0 c t (bound_all vars t) h (bound_adds vars t)) (own_adds (single vars) act (bound_all vars t))

mutual
  code_told : (code : Code Pos) (c : Census) (t : Layout) → Told c t → Told (counted_code code c) (laid_code code t)
  code_told (Ends value) c t h = h
  code_told (Then pos vars act rest) c t h =
      let step = laid_step vars act t in
      let stepped = counted_step vars act c in
      code_told rest (counted_arms act stepped) (laid_arms act step)
      (arms_told act stepped step (step_told vars act c t h))

  arms_told : (act : Act Pos) (c : Census) (t : Layout) → Told c t → Told (counted_arms act c) (laid_arms act t)
  arms_told (If v this that) c t h =
      code_told that (counted_code this c) (laid_code this t) (code_told this c t h)
  arms_told act c t h = h

-- Procedures

rest_told : (o : Option ℕ) (c : Census) (t : Layout) → Told c t → Told (counted_rest o c) (laid_rest o t)
rest_told None c t h = h
rest_told (Some x) c t h =
    let all = length-append t.lists (Pair (t.rows + 1) false ∷ []) in
    more_told 3 1 c t (laid_rest (Some x) t) h (record { rows = omega arith; many = omega (arith, all) })

body_told : (p : Written) (c : Census) (t : Layout) → Told c t → Told (counted_body p c) (laid_body p t)
body_told p c t h =
    let params = more (length p.params) 0 c in
    code_told p.body (counted_rest p.rest params) (laid_rest p.rest (bound_all p.params t))
    (rest_told p.rest params (bound_all p.params t) (more_told (length p.params) 0 c t (bound_all p.params t) h (bound_adds p.params t)))

main_told : (p : Written) (c : Census) (t : Layout) → Told c t → Told (counted_main p c) (laid_main p t)
main_told p c t h =
    body_told p (more 1 0 c) (begins 1 t)
    (more_told 1 0 c t (begins 1 t) h (record { rows = refl; many = omega arith }))

lambda_told : (p : Written) (c : Census) (t : Layout) → Told c t → Told (counted_lambda p c) (laid_lambda p t)
lambda_told p c t h =
    let all = length-append t.entries (entry_of p t ∷ []) in
    body_told p (more 2 1 c) (begins 2 (noted p t))
    (more_told 2 1 c t (begins 2 (noted p t)) h (record { rows = refl; many = omega (arith, all) }))

lambdas_told : (ps : List Written) (c : Census) (t : Layout) → Told c t → Told (counted_lambdas ps c) (laid_lambdas ps t)
lambdas_told [] c t h = h
lambdas_told (p ∷ ps) c t h = lambdas_told ps (counted_lambda p c) (laid_lambda p t) (lambda_told p c t h)

procs_told : (ps : List Written) (c : Census) (t : Layout) → Told c t → Told (counted_procs ps c) (laid_all ps t)
procs_told [] c t h = h
procs_told (p ∷ ps) c t h = lambdas_told ps (counted_main p c) (laid_main p t) (main_told p c t h)

kinds_are : (t : Layout) → length (kinds_of t) ≡ atoms t
kinds_are t =
    let early = replicate 10 Fixed ++ closure_kinds 1 t.entries in
    let a = length-append (early ++ t.lists) t.made in
    let b = length-append early t.lists in
    let c = length-append (replicate 10 Fixed) (closure_kinds 1 t.entries) in
    let d = length-replicate 10 Fixed in
    let e = closures_many 1 t.entries in
    omega (arith, a, b, c, d, e)

-- Literals

record LitsTold (c : Census) (s : Quoted) : Type 0 where
  pub rows : c.rows ≡ cut s.rows
  pub atoms : c.atoms ≡ cut (length s.kinds)

-- one kind that is there has an atom and so many rows
kind_told : (b : Bool) (r : ℕ) (kind : Quoted → Kind) (change : Quoted → Quoted) (c : Census) (s : Quoted)
    → ((u : Quoted) → (change u).rows ≡ u.rows + r) → ((u : Quoted) → (change u).kinds ≡ u.kinds ++ kind u ∷ [])
    → LitsTold c s → LitsTold (more (r * one_if b) (one_if b) c) (when b change s)
kind_told true r kind change c s rows kinds h =
    let all = ap length (kinds s) ∙ length-append s.kinds (kind s ∷ []) in
    let more_rows = rows s in
    record {
      rows = held_more c.rows s.rows (r * 1) (change s).rows h.rows (omega (arith, more_rows));
      atoms = held_more c.atoms (length s.kinds) 1 (length (change s).kinds) h.atoms (omega (arith, all));
    }
kind_told false r kind change c s rows kinds h =
    record {
      rows = held_more c.rows s.rows (r * 0) s.rows h.rows (omega arith);
      atoms = held_more c.atoms (length s.kinds) 0 (length s.kinds) h.atoms (omega arith);
    }

no_rows : (b : Bool) → 0 * one_if b ≡ 0
no_rows true = refl
no_rows false = refl

one_row : (b : Bool) → 1 * one_if b ≡ one_if b
one_row true = refl
one_row false = refl

object_told : (shape : Shape) (c : Census) (s : Quoted) → LitsTold c s
    → LitsTold (counted_object shape c) (object_begun shape s)
object_told shape c s h =
    let pairs = when shape.pairs pairs_added s in
    let vectors = when shape.vectors vectors_added pairs in
    let one = more (2 * one_if shape.pairs) (one_if shape.pairs) c in
    let two = more (one_if shape.vectors) (one_if shape.vectors) one in
    let first = kind_told shape.pairs 2 (λ u. Pair u.rows true) pairs_added c s (λ u. refl) (λ u. refl) h in
    let second =
    subst (λ n. LitsTold (more n (one_if shape.vectors) one) vectors) (one_row shape.vectors)
    (kind_told shape.vectors 1 (λ u. Vector u.rows true) vectors_added one pairs (λ u. refl) (λ u. refl) first) in
    let third =
    subst (λ n. LitsTold (more n (one_if shape.texts) two) (when shape.texts texts_added vectors)) (no_rows shape.texts)
    (kind_told shape.texts 0 (λ u. Text true) texts_added two vectors (λ u. refl) (λ u. refl) second) in
    record { rows = third.rows; atoms = third.atoms }

lits_told : (ls : List Lit) (c : Census) (s : Quoted) → LitsTold c s → LitsTold (counted_lits ls s.coming c) (quoted_all ls s)
lits_told [] c s h = h
lits_told (l ∷ ls) c s h = by (λ d u. lits_told ls d u) (nat_eq s.coming 0)
  where
    shape : Shape
    shape = shape_of (l ∷ ls)

    by : ((d : Census) (u : Quoted) → LitsTold d u → LitsTold (counted_lits ls u.coming d) (quoted_all ls u)) → (b : Bool)
        → LitsTold (if b then counted_lits ls (coming_past 1 l) (counted_object shape c) else counted_lits ls (coming_past s.coming l) c)
        (quoted_all ls (literal_put l (when b (object_begun shape) s)))
    by others true =
        let begun = object_told shape c s h in
        others (counted_object shape c) (literal_put l (object_begun shape s))
        (record { rows = begun.rows; atoms = begun.atoms })
    by others false = others c (literal_put l s) (record { rows = h.rows; atoms = h.atoms })

-- The whole

pub census_is : (f : Form) → f.tops < 2 ^ 64
    → (c : Census) → c ≡ counted_lits f.lits 0 (counted_procs f.procs (record { rows = f.tops; atoms = 10 }))
    → (c.rows ≡ cut (row_count f)) × (c.atoms ≡ cut (atom_count f))
census_is f few c is =
    let t = layout_of f in
    let begun : Census = record { rows = f.tops; atoms = 10 } in
    let told = procs_told f.procs begun (started f.tops (length f.procs - 1)) (record { rows = omega (arith, few); atoms = refl }) in
    let s = unquoted t.rows (kinds_of t) in
    let whole =
    lits_told f.lits (counted_procs f.procs begun) s
    (record { rows = told.rows; atoms = told.atoms ∙ ap cut (sym (kinds_are t)) }) in
    (ap (λ c. c.rows) is ∙ whole.rows, ap (λ c. c.atoms) is ∙ whole.atoms)

-- Parts that are to come

-- where parts are to come, the next literal is one of them
going : (n : ℕ) (s : Shape) (l : Lit) (ls : List Lit) → (n ≡ 0 → ⊥)
    → with_coming n s (l ∷ ls) ≡ with_coming (coming_past n l) (with_one l s) ls
going n s l ls some = ap (λ b. if b then s else with_coming (coming_past n l) (with_one l s) ls) (ne_eqb n 0 some)

going_lits : (n : ℕ) (c : Census) (l : Lit) (ls : List Lit) → (n ≡ 0 → ⊥)
    → counted_lits (l ∷ ls) n c ≡ counted_lits ls (coming_past n l) c
going_lits n c l ls some =
    ap (λ b. if b then counted_lits ls (coming_past 1 l) (counted_object (shape_of (l ∷ ls)) c) else counted_lits ls (coming_past n l) c)
    (ne_eqb n 0 some)

-- where as many parts are to come as there are literals, or more, it does not matter how many
far : (m n : ℕ) (s : Shape) (ls : List Lit) → length ls ≤ m → length ls ≤ n → with_coming m s ls ≡ with_coming n s ls
far m n s [] h k = refl
far m n s (l ∷ ls) h k =
    going m s l ls (λ e. omega (arith, h, e))
    ∙ (far (coming_past m l) (coming_past n l) (with_one l s) ls (omega (arith, h)) (omega (arith, k))
    ∙ sym (going n s l ls (λ e. omega (arith, k, e))))

far_lits : (m n : ℕ) (c : Census) (ls : List Lit) → length ls ≤ m → length ls ≤ n → counted_lits ls m c ≡ counted_lits ls n c
far_lits m n c [] h k = refl
far_lits m n c (l ∷ ls) h k =
    going_lits m c l ls (λ e. omega (arith, h, e))
    ∙ (far_lits (coming_past m l) (coming_past n l) c ls (omega (arith, h)) (omega (arith, k))
    ∙ sym (going_lits n c l ls (λ e. omega (arith, k, e))))

-- a count is held as it is, or it and what is held are no less than any length
held_or_far : (n many : ℕ) → many < 2 ^ 64 → (cut n ≡ n) ⊎ ((many ≤ cut n) × (many ≤ n))
held_or_far n many few = by (cases_lt n (2 ^ 64))
  where
    by : (n < 2 ^ 64) ⊎ (2 ^ 64 ≤ n) → (cut n ≡ n) ⊎ ((many ≤ cut n) × (many ≤ n))
    by (inl small) = inl (omega (arith, small))
    by (inr large) = inr (omega (arith, few, large), omega (arith, few, large))

pub held_coming : (n : ℕ) (s : Shape) (ls : List Lit) → length ls < 2 ^ 64 → with_coming (cut n) s ls ≡ with_coming n s ls
held_coming n s ls few = by (held_or_far n (length ls) few)
  where
    by : (cut n ≡ n) ⊎ ((length ls ≤ cut n) × (length ls ≤ n)) → with_coming (cut n) s ls ≡ with_coming n s ls
    by (inl same) = ap (λ m. with_coming m s ls) same
    by (inr less) = far (cut n) n s ls less.0 less.1

pub held_lits : (n : ℕ) (c : Census) (ls : List Lit) → length ls < 2 ^ 64 → counted_lits ls (cut n) c ≡ counted_lits ls n c
held_lits n c ls few = by (held_or_far n (length ls) few)
  where
    by : (cut n ≡ n) ⊎ ((length ls ≤ cut n) × (length ls ≤ n)) → counted_lits ls (cut n) c ≡ counted_lits ls n c
    by (inl same) = ap (λ m. counted_lits ls m c) same
    by (inr less) = far_lits (cut n) n c ls less.0 less.1

-- one literal more is passed by, of a quoted object that is under way
pub coming_more : (n i : ℕ) (s : Shape) (l : Lit) (lits : List Lit) → length lits < 2 ^ 64 → i < length lits → l ≡ get_or lits i l
    → (n ≡ 0 → ⊥)
    → with_coming (cut (coming_past n l)) (with_one l s) (drop (i + 1) lits) ≡ with_coming n s (drop i lits)
coming_more n i s l lits long below is some =
    let next : suc i ≡ i + 1 = omega arith in
    let left = length-drop (i + 1) lits in
    let here =
    drop-cons lits i l below ∙ (ap (λ x. x ∷ drop (suc i) lits) (sym is) ∙ ap (λ k. l ∷ drop k lits) next) in
    held_coming (coming_past n l) (with_one l s) (drop (i + 1) lits) (omega (arith, left, long))
    ∙ sym (ap (with_coming n s) here ∙ going n s l (drop (i + 1) lits) some)

-- one literal more is counted, the first of a quoted object or one that is under way
pub lits_on : (l : Lit) (ls left : List Lit) (n m k : ℕ) (c d whole : Census) → left ≡ l ∷ ls → length ls < 2 ^ 64
    → k ≡ cut (coming_past m l) → counted_lits left n c ≡ whole
    → ((n ≡ 0) × (m ≡ 1) × (d ≡ counted_object (shape_of left) c)) ⊎ ((n ≡ 0 → ⊥) × (m ≡ n) × (d ≡ c))
    → counted_lits ls k d ≡ whole
lits_on l ls left n m k c d whole is few past so_far cases =
    ap (λ j. counted_lits ls j d) past
    ∙ (held_lits (coming_past m l) d ls few ∙ (by cases ∙ (ap (λ u. counted_lits u n c) (sym is) ∙ so_far)))
  where
    by : ((n ≡ 0) × (m ≡ 1) × (d ≡ counted_object (shape_of left) c)) ⊎ ((n ≡ 0 → ⊥) × (m ≡ n) × (d ≡ c))
        → counted_lits ls (coming_past m l) d ≡ counted_lits (l ∷ ls) n c
    by (inl first) =
        ap (λ j. counted_lits ls (coming_past j l) d) first.1
        ∙ (ap (counted_lits ls (coming_past 1 l)) (first.2 ∙ ap (λ u. counted_object (shape_of u) c) is)
        ∙ ap (λ j. counted_lits (l ∷ ls) j c) (sym first.0))
    by (inr other) =
        ap (λ j. counted_lits ls (coming_past j l) d) other.1
        ∙ (ap (counted_lits ls (coming_past n l)) other.2 ∙ sym (going_lits n c l ls other.0))
