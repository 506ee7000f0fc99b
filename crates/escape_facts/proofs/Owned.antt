-- The links from sites to procedures tell whose a site is.
use Rattle.std.proofs.Common.{◌≡◌, ℕ, ◌+◌, ◌-◌, ◌≤◌, inl, inr, Bool, true, false, List, [], ◌∷◌, refl, sym, ap, ◌∙◌, arith, eqb-true, eq-eqb}
use Rattle.std.specs.Prelude.{nat_eq, nat_le, ◌||◌, ◌&&◌, is_some, slice_get, Some}
use Rattle.std.specs.List.{flat_map, list_any}
use Rattle.std.proofs.lemmas.Bool.{le-leb, leb-true}
use Rattle.std.proofs.lemmas.List.Folds.{list_any-append}
use Rattle.least_set.specs.declared.links.Link.{Link}
use Rattle.least_set.specs.Least.{has}
use Rattle.least_set.specs.Search.{targets}
use Rattle.least_set.proofs.Has.{and_cases, both, or_cases, or_left, or_right}
use Rattle.named_form.specs.Code.{closure_site}
use Rattle.plan_facts.specs.declared.place.Place.{Place}
use Rattle.plan_facts.specs.Escaping.{Closes, Lists, Makes, SiteOf, closes, makes_object}
use Rattle.plan_facts.specs.Places.{Facts}
use Rattle.escape_facts.specs.Owners.{closure_owner, each_entry, link, list_owners, made_owners, owners_of, place_owners, turned}
use Rattle.escape_facts.proofs.Somewhere.{Item, any_flat, any_given, any_item, any_number, any_when, given_of, item_of, number_of, when_any}

abbrev is_link : (from to : ℕ) → Link → Bool
is_link s q l = nat_eq s l.from && nat_eq q l.to

has_targets : (links : List Link) (s q : ℕ) → has (targets links s) q ≡ list_any (is_link s q) links
has_targets [] s q = refl
has_targets (l ∷ ls) s q = by_from (nat_eq s l.from) refl (has_targets ls s q)
  where
    by_from : (b : Bool) → nat_eq s l.from ≡ b → has (targets ls s) q ≡ list_any (is_link s q) ls
        → has (targets (l ∷ ls) s) q ≡ (is_link s q l || list_any (is_link s q) ls)
    by_from true e past = rw e (ap (λ b. nat_eq q l.to || b) past)
    by_from false e past = rw e past

any_turned : (links : List Link) (s q : ℕ) → list_any (is_link q s) (turned links) ≡ list_any (is_link s q) links
any_turned [] s q = refl
any_turned (l ∷ ls) s q =
    ap (λ b. b || list_any (is_link q s) (turned ls)) (swapped (nat_eq q l.to) (nat_eq s l.from))
    ∙ ap (λ b. is_link s q l || b) (any_turned ls s q)
  where
    swapped : (a b : Bool) → (a && b) ≡ (b && a)
    swapped true true = refl
    swapped true false = refl
    swapped false true = refl
    swapped false false = refl

is_that : (s q from to : ℕ) → s ≡ from → q ≡ to → is_link s q (link from to) ≡ true
is_that s q from to a b = both (nat_eq s from) (nat_eq q to) (eq-eqb s from a) (eq-eqb q to b)

one_link : (s q from to : ℕ) → s ≡ from → q ≡ to → list_any (is_link s q) (link from to ∷ []) ≡ true
one_link s q from to a b = or_left (is_link s q (link from to)) false (is_that s q from to a b)

that_link : (s q from to : ℕ) → list_any (is_link s q) (link from to ∷ []) ≡ true → (s ≡ from) × (q ≡ to)
that_link s q from to h =
    elim (or_cases (is_link s q (link from to)) false h) [
      | inl e ↦ let parts = and_cases (nat_eq s from) (nat_eq q to) e in (eqb-true s from parts.0, eqb-true q to parts.1)
      | inr e ↦ absurd (cc)
    ]

abbrev linked : Facts → (proc site : ℕ) → Bool
linked k q s = list_any (is_link s q) (owners_of k.flow k.steps)

of_step : (k : Facts) (q s n : ℕ) (p : Place) → slice_get k.steps n ≡ Some p → list_any (is_link s q) (place_owners p) ≡ true
    → linked k q s ≡ true
of_step k q s n p there h =
    let t = is_link s q in
    list_any-append t (flat_map place_owners k.steps) (each_entry list_owners 1 k.flow.entries)
    ∙ or_left (list_any t (flat_map place_owners k.steps)) (list_any t (each_entry list_owners 1 k.flow.entries))
    (any_flat t place_owners k.steps ∙ any_item (λ x. list_any t (place_owners x)) k.steps n p there h)

linked_of : (k : Facts) (q s : ℕ) → SiteOf k q s → linked k q s ≡ true
linked_of k q s (Makes n p there home makes is) =
    let t = is_link s q in
    of_step k q s n p there
    (list_any-append t (made_owners p) (flat_map (closure_owner p.proc) (closes p.action))
    ∙ or_left (list_any t (made_owners p)) (list_any t (flat_map (closure_owner p.proc) (closes p.action)))
    (when_any t (makes_object p.action) (link p.site p.proc ∷ []) makes (one_link s q p.site p.proc is (sym home))))
linked_of k q s (Closes n p r there home has_r is) =
    let t = is_link s q in
    of_step k q s n p there
    (list_any-append t (made_owners p) (flat_map (closure_owner p.proc) (closes p.action))
    ∙ or_right (list_any t (made_owners p)) (list_any t (flat_map (closure_owner p.proc) (closes p.action)))
    (any_flat t (closure_owner p.proc) (closes p.action)
    ∙ any_number (λ x. list_any t (closure_owner p.proc x)) (closes p.action) r has_r (one_link s q (closure_site r) p.proc is (sym home))))
linked_of k q s (Lists n e there number rest list) =
    let t = is_link s q in
    let high : 10 ≤ e.list = omega (arith, list) in
    let site : s ≡ e.list - 10 = omega (arith, list) in
    let proc : q ≡ 1 + n = omega (arith, number) in
    list_any-append t (flat_map place_owners k.steps) (each_entry list_owners 1 k.flow.entries)
    ∙ or_right (list_any t (flat_map place_owners k.steps)) (list_any t (each_entry list_owners 1 k.flow.entries))
    (any_given t list_owners 1 k.flow.entries n e there
    (when_any t (is_some e.rest && nat_le 10 e.list) (link (e.list - 10) (1 + n) ∷ [])
    (both (is_some e.rest) (nat_le 10 e.list) rest (le-leb 10 e.list high)) (one_link s q (e.list - 10) (1 + n) site proc)))

of_steps : (k : Facts) (q s : ℕ) → Item (λ x. list_any (is_link s q) (place_owners x)) k.steps → SiteOf k q s
of_steps k q s i =
    let t = is_link s q in
    let p = i.item in
    let which =
    or_cases (list_any t (made_owners p)) (list_any t (flat_map (closure_owner p.proc) (closes p.action)))
    (sym (list_any-append t (made_owners p) (flat_map (closure_owner p.proc) (closes p.action))) ∙ i.passes) in
    elim which [
      | inl made ↦
          let w = any_when t (makes_object p.action) (link p.site p.proc ∷ []) made in
          let e = that_link s q p.site p.proc w.1 in
          Makes i.at p i.there (sym e.1) w.0 e.0
      | inr closed ↦
          let r = number_of (λ x. list_any t (closure_owner p.proc x)) (closes p.action)
          (sym (any_flat t (closure_owner p.proc) (closes p.action)) ∙ closed) in
          let e = that_link s q (closure_site r.number) p.proc r.passes in
          Closes i.at p r.number i.there (sym e.1) r.there e.0
    ]

of_linked : (k : Facts) (q s : ℕ) → linked k q s ≡ true → SiteOf k q s
of_linked k q s h =
    let t = is_link s q in
    let which =
    or_cases (list_any t (flat_map place_owners k.steps)) (list_any t (each_entry list_owners 1 k.flow.entries))
    (sym (list_any-append t (flat_map place_owners k.steps) (each_entry list_owners 1 k.flow.entries)) ∙ h) in
    elim which [
      | inl of_a_step ↦
          of_steps k q s (item_of (λ x. list_any t (place_owners x)) k.steps (sym (any_flat t place_owners k.steps) ∙ of_a_step))
      | inr of_a_list ↦
          let g = given_of t list_owners 1 k.flow.entries of_a_list in
          let w = any_when t (is_some g.entry.rest && nat_le 10 g.entry.list) (link (g.entry.list - 10) (1 + g.at) ∷ []) g.passes in
          let tests = and_cases (is_some g.entry.rest) (nat_le 10 g.entry.list) w.0 in
          let high = leb-true 10 g.entry.list tests.1 in
          let e = that_link s q (g.entry.list - 10) (1 + g.at) w.1 in
          Lists g.at g.entry g.there (omega (arith, e.1)) tests.0 (omega (arith, e.0, high))
    ]

-- whose a site is
pub record Owned (k : Facts) (owners own : ℕ → List ℕ) : Type 0 where
  pub owner : (s q : ℕ) → SiteOf k q s → has (owners s) q ≡ true
  pub owned : (s q : ℕ) → has (owners s) q ≡ true → SiteOf k q s
  pub own_one : (s q : ℕ) → SiteOf k q s → has (own q) s ≡ true
  pub one_own : (s q : ℕ) → has (own q) s ≡ true → SiteOf k q s

pub is_owned : (k : Facts) (owners own : ℕ → List ℕ) → ((s : ℕ) → owners s ≡ targets (owners_of k.flow k.steps) s)
    → ((q : ℕ) → own q ≡ targets (turned (owners_of k.flow k.steps)) q) → Owned k owners own
is_owned k owners own is_owners is_own =
    let links = owners_of k.flow k.steps in
    let by_site : (s q : ℕ) → has (owners s) q ≡ linked k q s =
    λ s q. ap (λ xs. has xs q) (is_owners s) ∙ has_targets links s q in
    let by_proc : (s q : ℕ) → has (own q) s ≡ linked k q s =
    λ s q. ap (λ xs. has xs s) (is_own q) ∙ (has_targets (turned links) q s ∙ any_turned links s q) in
    record {
      owner = λ s q h. by_site s q ∙ linked_of k q s h;
      owned = λ s q h. of_linked k q s (sym (by_site s q) ∙ h);
      own_one = λ s q h. by_proc s q ∙ linked_of k q s h;
      one_own = λ s q h. of_linked k q s (sym (by_proc s q) ∙ h);
    }
