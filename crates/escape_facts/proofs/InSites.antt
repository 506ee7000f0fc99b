-- Which sites rows have.
use Rattle.std.proofs.Common.{◌≡◌, ℕ, ◌+◌, ◌-◌, ◌⊎◌, inl, inr, true, false, List, [], ◌∷◌, ◌++◌, Option, sym, ◌∙◌, subst, arith, eqb-true, eq-eqb}
use Rattle.std.specs.Prelude.{nat_eq, nat_le, ◌&&◌}
use Rattle.std.proofs.lemmas.Bool.{le-leb, leb-true}
use Rattle.std.proofs.lemmas.List.Folds.{list_any-append}
use Rattle.flow_constraints.specs.declared.flow.Flow.{Flow}
use Rattle.flow_constraints.specs.Rows.{row, Var}
use Rattle.flow_form.specs.declared.rows.Rows.{Rows}
use Rattle.least_set.specs.Least.{has}
use Rattle.least_set.proofs.Has.{and_cases, both, or_cases, or_left, or_right}
use Rattle.plan_facts.specs.Pairs.{holds, members_of}
use Rattle.plan_facts.proofs.InRows.{has_members}
use Rattle.escape_facts.specs.Reached.{belongs, row_sites, rows_sites, site_at, var_sites, vars_sites}
use Rattle.escape_facts.proofs.Somewhere.{any_flat, any_number, any_when, number_of, when_any}

pub in_left : (xs ys : List ℕ) (x : ℕ) → has xs x ≡ true → has (xs ++ ys) x ≡ true
in_left xs ys x h = list_any-append (nat_eq x) xs ys ∙ or_left (has xs x) (has ys x) h

pub in_right : (xs ys : List ℕ) (x : ℕ) → has ys x ≡ true → has (xs ++ ys) x ≡ true
in_right xs ys x h = list_any-append (nat_eq x) xs ys ∙ or_right (has xs x) (has ys x) h

pub of_append : (xs ys : List ℕ) (x : ℕ) → has (xs ++ ys) x ≡ true → (has xs x ≡ true) ⊎ (has ys x ≡ true)
of_append xs ys x h = or_cases (has xs x) (has ys x) (sym (list_any-append (nat_eq x) xs ys) ∙ h)

of_atom : (owners : ℕ → List ℕ) (whose : Option ℕ) (a s : ℕ) → has (site_at owners whose a) s ≡ true
    → (a ≡ 10 + s) × (belongs owners whose s ≡ true)
of_atom owners whose a s h =
    let w = any_when (nat_eq s) (nat_le 10 a && belongs owners whose (a - 10)) ((a - 10) ∷ []) h in
    let tests = and_cases (nat_le 10 a) (belongs owners whose (a - 10)) w.0 in
    let high = leb-true 10 a tests.0 in
    elim (or_cases (nat_eq s (a - 10)) false w.1) [
      | inl e ↦
          let same = eqb-true s (a - 10) e in
          (omega (arith, high, same), subst (λ n. belongs owners whose n ≡ true) (sym same) tests.1)
      | inr e ↦ absurd (cc)
    ]

at_atom : (owners : ℕ → List ℕ) (whose : Option ℕ) (s : ℕ) → belongs owners whose s ≡ true → has (site_at owners whose (10 + s)) s ≡ true
at_atom owners whose s h =
    let same : s ≡ 10 + s - 10 = omega arith in
    when_any (nat_eq s) (nat_le 10 (10 + s) && belongs owners whose (10 + s - 10)) ((10 + s - 10) ∷ [])
    (both (nat_le 10 (10 + s)) (belongs owners whose (10 + s - 10)) (le-leb 10 (10 + s) (omega arith))
    (subst (λ n. belongs owners whose n ≡ true) same h))
    (or_left (nat_eq s (10 + s - 10)) false (eq-eqb s (10 + s - 10) same))

pub of_row : (owners : ℕ → List ℕ) (rows : Rows) (whose : Option ℕ) (r s : ℕ) → has (row_sites owners rows whose r) s ≡ true
    → (holds rows r (10 + s) ≡ true) × (belongs owners whose s ≡ true)
of_row owners rows whose r s h =
    let n = number_of (λ a. has (site_at owners whose a) s) (members_of rows r)
    (sym (any_flat (nat_eq s) (site_at owners whose) (members_of rows r)) ∙ h) in
    let e = of_atom owners whose n.number s n.passes in
    (sym (has_members rows r (10 + s)) ∙ subst (λ a. has (members_of rows r) a ≡ true) e.0 n.there, e.1)

pub at_row : (owners : ℕ → List ℕ) (rows : Rows) (whose : Option ℕ) (r s : ℕ) → holds rows r (10 + s) ≡ true
    → belongs owners whose s ≡ true → has (row_sites owners rows whose r) s ≡ true
at_row owners rows whose r s h k =
    any_flat (nat_eq s) (site_at owners whose) (members_of rows r)
    ∙ any_number (λ a. has (site_at owners whose a) s) (members_of rows r) (10 + s) (has_members rows r (10 + s) ∙ h)
    (at_atom owners whose s k)

-- a row, or the row of a variable, that has a site
pub record RowOf (owners : ℕ → List ℕ) (rows : Rows) (whose : Option ℕ) (number : ℕ → ℕ) (xs : List ℕ) (s : ℕ) : Type 0 where
  pub item : ℕ
  pub there : has xs item ≡ true
  pub in_row : holds rows (number item) (10 + s) ≡ true
  pub one : belongs owners whose s ≡ true

pub of_rows : (owners : ℕ → List ℕ) (rows : Rows) (whose : Option ℕ) (rs : List ℕ) (s : ℕ) → has (rows_sites owners rows whose rs) s ≡ true
    → RowOf owners rows whose (λ r. r) rs s
of_rows owners rows whose rs s h =
    let n = number_of (λ r. has (row_sites owners rows whose r) s) rs (sym (any_flat (nat_eq s) (row_sites owners rows whose) rs) ∙ h) in
    let e = of_row owners rows whose n.number s n.passes in
    record { item = n.number; there = n.there; in_row = e.0; one = e.1 }

pub at_rows : (owners : ℕ → List ℕ) (rows : Rows) (whose : Option ℕ) (rs : List ℕ) (r s : ℕ) → has rs r ≡ true
    → holds rows r (10 + s) ≡ true → belongs owners whose s ≡ true → has (rows_sites owners rows whose rs) s ≡ true
at_rows owners rows whose rs r s there h k =
    any_flat (nat_eq s) (row_sites owners rows whose) rs
    ∙ any_number (λ r. has (row_sites owners rows whose r) s) rs r there (at_row owners rows whose r s h k)

pub of_vars : (owners : ℕ → List ℕ) (f : Flow) (rows : Rows) (whose : Option ℕ) (xs : List ℕ) (s : ℕ)
    → has (vars_sites owners f rows whose xs) s ≡ true → RowOf owners rows whose (λ x. row f (Var x)) xs s
of_vars owners f rows whose xs s h =
    let n = number_of (λ x. has (var_sites owners f rows whose x) s) xs (sym (any_flat (nat_eq s) (var_sites owners f rows whose) xs) ∙ h) in
    let e = of_row owners rows whose (row f (Var n.number)) s n.passes in
    record { item = n.number; there = n.there; in_row = e.0; one = e.1 }

pub at_vars : (owners : ℕ → List ℕ) (f : Flow) (rows : Rows) (whose : Option ℕ) (xs : List ℕ) (x s : ℕ) → has xs x ≡ true
    → holds rows (row f (Var x)) (10 + s) ≡ true → belongs owners whose s ≡ true → has (vars_sites owners f rows whose xs) s ≡ true
at_vars owners f rows whose xs x s there h k =
    any_flat (nat_eq s) (var_sites owners f rows whose) xs
    ∙ any_number (λ x. has (var_sites owners f rows whose x) s) xs x there (at_row owners rows whose (row f (Var x)) s h k)
