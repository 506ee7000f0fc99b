-- All sites and procedures of links are below the bound that is taken of them.
use Rattle.std.proofs.Common.{◌≡◌, ℕ, ◌+◌, ◌<◌, ◌≤◌, inl, inr, Bool, true, false, List, [], ◌∷◌, refl, sym, ap, ◌∙◌, subst, arith, ne_eqb}
use Rattle.std.specs.Prelude.{nat_eq, nat_lt, ◌&&◌, Option, Some, None, if◌then◌else◌}
use Rattle.std.proofs.lemmas.Bool.{cases_lt, lt-ltb, ltb-false, ltb-true}
use Rattle.std.proofs.lemmas.List.{get_or_past}
use Rattle.least_set.specs.declared.links.Link.{Link}
use Rattle.least_set.specs.Least.{has, links_below}
use Rattle.least_set.specs.Search.{IsNext, listed, targets}
use Rattle.least_set.proofs.Has.{and_cases, both}
use Rattle.escape_facts.specs.Owners.{bound_from, larger, turned}
use Rattle.escape_facts.specs.Reached.{belongs, has_some}

at_least : (a b : ℕ) → (a ≤ larger a b) × (b ≤ larger a b)
at_least a b = by_test (nat_lt a b) refl
  where
    by_test : (t : Bool) → nat_lt a b ≡ t → (a ≤ (if t then b else a)) × (b ≤ (if t then b else a))
    by_test true e = let less = ltb-true a b e in (omega (arith, less), omega arith)
    by_test false e = let more = ltb-false a b e in (omega arith, omega (arith, more))

bound_grows : (many : ℕ) (links : List Link) → many ≤ bound_from many links
bound_grows many [] = omega arith
bound_grows many (l ∷ ls) =
    let first = (at_least many (l.from + 1)).0 in
    let second = (at_least (larger many (l.from + 1)) (l.to + 1)).0 in
    let past = bound_grows (larger (larger many (l.from + 1)) (l.to + 1)) ls in
    omega (arith, first, second, past)

pub below_bound : (many : ℕ) (links : List Link) → links_below (bound_from many links) links ≡ true
below_bound many [] = refl
below_bound many (l ∷ ls) =
    let from = (at_least many (l.from + 1)).1 in
    let next = at_least (larger many (l.from + 1)) (l.to + 1) in
    let past = bound_grows (larger (larger many (l.from + 1)) (l.to + 1)) ls in
    let end = bound_from (larger (larger many (l.from + 1)) (l.to + 1)) ls in
    both (nat_lt l.from end && nat_lt l.to end) (links_below end ls)
    (both (nat_lt l.from end) (nat_lt l.to end) (lt-ltb l.from end (omega (arith, from, next.0, past)))
    (lt-ltb l.to end (omega (arith, next.1, past))))
    (below_bound (larger (larger many (l.from + 1)) (l.to + 1)) ls)

pub turned_below : (many : ℕ) (links : List Link) → links_below many links ≡ true → links_below many (turned links) ≡ true
turned_below many [] h = refl
turned_below many (l ∷ ls) h =
    let parts = and_cases (nat_lt l.from many && nat_lt l.to many) (links_below many ls) h in
    let one = and_cases (nat_lt l.from many) (nat_lt l.to many) parts.0 in
    both (nat_lt l.to many && nat_lt l.from many) (links_below many (turned ls)) (both (nat_lt l.to many) (nat_lt l.from many) one.1 one.0)
    (turned_below many ls parts.1)

none_from : (many : ℕ) (links : List Link) (k : ℕ) → links_below many links ≡ true → many ≤ k → targets links k ≡ []
none_from many [] k h past = refl
none_from many (l ∷ ls) k h past =
    let parts = and_cases (nat_lt l.from many && nat_lt l.to many) (links_below many ls) h in
    let less = ltb-true l.from many (and_cases (nat_lt l.from many) (nat_lt l.to many) parts.0).0 in
    let other : nat_eq k l.from ≡ false = ne_eqb k l.from (λ e. omega (arith, less, past, e)) in
    rw other (none_from many ls k parts.1 past)

pub listed_targets : (many : ℕ) (links : List Link) (next : List (List ℕ)) → links_below many links ≡ true → IsNext many links next
    → (k : ℕ) → listed next k ≡ targets links k
listed_targets many links next below n k =
    elim (cases_lt k many) [
      | inl less ↦ n.each k less
      | inr past ↦ get_or_past next k [] (subst (λ m. m ≤ k) (sym n.long) past) ∙ sym (none_from many links k below past)
    ]

none_belongs : (owners : ℕ → List ℕ) (whose : Option ℕ) (s : ℕ) → owners s ≡ [] → belongs owners whose s ≡ false
none_belongs owners None s e = ap has_some e
none_belongs owners (Some q) s e = ap (λ xs. has xs q) e

-- a site that is someone's is below the bound
pub belongs_below : (many : ℕ) (links : List Link) (next : List (List ℕ)) → IsNext many links next → (whose : Option ℕ) (s : ℕ)
    → belongs (listed next) whose s ≡ true → s < many
belongs_below many links next n whose s h =
    elim (cases_lt s many) [
      | inl less ↦ less
      | inr past ↦
          let none = none_belongs (listed next) whose s (get_or_past next s [] (subst (λ m. m ≤ s) (sym n.long) past)) in
          absurd (cc)
    ]
