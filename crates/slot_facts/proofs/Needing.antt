-- What a procedure needs: what it refers to, or what those need of which it makes closures.
use Rattle.std.proofs.Common.{◌≡◌, ℕ, zero, suc, ◌+◌, ◌<◌, ◌≤◌, inl, inr, true, false, List, length, sym, ap, ◌∙◌, arith}
use Rattle.std.specs.Prelude.{nat_eq}
use Rattle.std.specs.List.{flat_map}
use Rattle.std.proofs.lemmas.List.Folds.{list_any-append}
use Rattle.flow_form.specs.declared.rows.Rows.{Rows}
use Rattle.least_set.specs.Least.{Set, has}
use Rattle.least_set.proofs.Has.{and_cases, both, or_cases, or_left, or_right}
use Rattle.least_set.specs.Search.{listed}
use Rattle.named_form.specs.PlainPlan.{var_count}
use Rattle.named_form.specs.Valid.{Form}
use Rattle.named_form.proofs.Variables.{has_filter}
use Rattle.plan_facts.specs.Places.{facts_of}
use Rattle.plan_facts.specs.Slotted.{HasSlotted, IsKept, IsPlaced, Item, MakesOf, Refers, is_free, is_own}
use Rattle.slot_facts.specs.Known.{Known}
use Rattle.slot_facts.specs.Needs.{wanted}
use Rattle.slot_facts.proofs.Lists.{brings, brought, listed_within}

-- why a procedure needs a variable
pub data Needs (f : Form) (rows : Rows) (needed : List (List ℕ)) (q x : ℕ) : Type 0 where
  ByReference : Refers f (facts_of f rows) q x → Needs f rows needed q x
  ByMaking : (r : ℕ) → MakesOf (facts_of f rows) q r → q < r → has (listed needed r) x ≡ true → Needs f rows needed q x

parts : (f : Form) (rows : Rows) (free references makings needed : List (List ℕ)) → Known f rows free references makings needed
    → (q x : ℕ) → has (listed needed q) x ≡ true
    → (has (wanted (listed references q) (listed makings q) needed) x ≡ true) × (has (listed free q) x ≡ true)
parts f rows free references makings needed k q x h =
    let all = wanted (listed references q) (listed makings q) needed in
    let many = k.needed_many in
    let there = listed_within needed q x h in
    and_cases (has all x) (has (listed free q) x)
    (sym (has_filter (has all) (listed free q) x) ∙ (sym (ap (λ xs. has xs x) (k.needed_is q (omega (arith, many, there)))) ∙ h))

pub needed_free : (f : Form) (rows : Rows) (free references makings needed : List (List ℕ)) → Known f rows free references makings needed
    → (q x : ℕ) → has (listed needed q) x ≡ true → is_free f q x ≡ true
needed_free f rows free references makings needed k q x h = sym (k.free_is q x) ∙ (parts f rows free references makings needed k q x h).1

pub needed_below : (f : Form) (rows : Rows) (free references makings needed : List (List ℕ)) → Known f rows free references makings needed
    → (q x : ℕ) → has (listed needed q) x ≡ true → (x < var_count f.procs) × (q < length f.procs)
needed_below f rows free references makings needed k q x h =
    let many = k.needed_many in
    let all = k.free_many in
    let there = listed_within needed q x h in
    (k.free_below q x (parts f rows free references makings needed k q x h).1, omega (arith, many, all, there))

pub needs : (f : Form) (rows : Rows) (free references makings needed : List (List ℕ)) → Known f rows free references makings needed
    → (q x : ℕ) → has (listed needed q) x ≡ true → Needs f rows needed q x
needs f rows free references makings needed k q x h =
    let more = flat_map (listed needed) (listed makings q) in
    elim (or_cases (has (listed references q) x) (has more x)
    (sym (list_any-append (nat_eq x) (listed references q) more) ∙ (parts f rows free references makings needed k q x h).0)) [
      | inl e ↦ ByReference (k.refers q x e)
      | inr e ↦
          let one = brings (listed needed) (listed makings q) x e in
          ByMaking one.one (k.makes q one.one one.among) (k.later q one.one one.among) one.has_it
    ]

-- a free variable that is wanted is needed
in_needed : (f : Form) (rows : Rows) (free references makings needed : List (List ℕ)) → Known f rows free references makings needed
    → (q x : ℕ) → is_free f q x ≡ true → has (wanted (listed references q) (listed makings q) needed) x ≡ true → has (listed needed q) x ≡ true
in_needed f rows free references makings needed k q x is_free_one wants =
    let all = wanted (listed references q) (listed makings q) needed in
    let free_one = k.free_is q x ∙ is_free_one in
    ap (λ xs. has xs x) (k.needed_is q (listed_within free q x free_one))
    ∙ (has_filter (has all) (listed free q) x ∙ both (has all x) (has (listed free q) x) wants free_one)

free_proc : (f : Form) (rows : Rows) (free references makings needed : List (List ℕ)) → Known f rows free references makings needed
    → (q x : ℕ) → is_free f q x ≡ true → q < length f.procs
free_proc f rows free references makings needed k q x h =
    let many = k.free_many in
    let there = listed_within free q x (k.free_is q x ∙ h) in
    omega (arith, many, there)

pub needed_reference : (f : Form) (rows : Rows) (free references makings needed : List (List ℕ)) → Known f rows free references makings needed
    → (q x : ℕ) → is_free f q x ≡ true → Refers f (facts_of f rows) q x → has (listed needed q) x ≡ true
needed_reference f rows free references makings needed k q x free_one refers =
    let more = flat_map (listed needed) (listed makings q) in
    in_needed f rows free references makings needed k q x free_one
    (list_any-append (nat_eq x) (listed references q) more
    ∙ or_left (has (listed references q) x) (has more x)
    (k.referred q x (free_proc f rows free references makings needed k q x free_one) refers))

pub needed_making : (f : Form) (rows : Rows) (free references makings needed : List (List ℕ)) → Known f rows free references makings needed
    → (q r x : ℕ) → is_free f q x ≡ true → MakesOf (facts_of f rows) q r → has (listed needed r) x ≡ true → has (listed needed q) x ≡ true
needed_making f rows free references makings needed k q r x free_one makes there =
    let more = flat_map (listed needed) (listed makings q) in
    in_needed f rows free references makings needed k q x free_one
    (list_any-append (nat_eq x) (listed references q) more
    ∙ or_right (has (listed references q) x) (has more x)
    (brought (listed needed) (listed makings q) r x
    (k.made q r (free_proc f rows free references makings needed k q x free_one) makes) there))

-- what has a place and is needed is kept in each set that is closed
pub kept_in : (f : Form) (rows : Rows) (capturing : List ℕ) (free references makings needed : List (List ℕ)) → Known f rows free references makings needed
    → (items : Set Item) → HasSlotted f (facts_of f rows) capturing items
    → (x : ℕ) → is_own f capturing x ≡ false → items (IsPlaced x) ≡ true
    → (n q : ℕ) → length f.procs ≤ n + q → has (listed needed q) x ≡ true → items (IsKept q x) ≡ true
kept_in f rows capturing free references makings needed k items c x own placed zero q deep h =
    let less = (needed_below f rows free references makings needed k q x h).1 in absurd (omega (arith, less, deep))
kept_in f rows capturing free references makings needed k items c x own placed (suc n) q deep h =
    by_need (needs f rows free references makings needed k q x h)
    (λ r more there. kept_in f rows capturing free references makings needed k items c x own placed n r (omega (arith, more, deep)) there)
  where
    by_need : Needs f rows needed q x → ((r : ℕ) → q < r → has (listed needed r) x ≡ true → items (IsKept r x) ≡ true)
        → items (IsKept q x) ≡ true
    by_need (ByReference refers) rec = c.referred q x (needed_free f rows free references makings needed k q x h) refers own placed
    by_need (ByMaking r makes more there) rec =
        c.made q r x (needed_free f rows free references makings needed k q x h) makes (rec r more there)
