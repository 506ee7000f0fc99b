-- What the links of a call say of a set that keeps them.
use Rattle.std.proofs.Common.{◌≡◌, ℕ, ◌<◌, inl, inr, Bool, true, false, List, [], ◌∷◌, ◌++◌, refl, sym, ◌∙◌, subst, eqb-true, eq-eqb}
use Rattle.std.specs.Prelude.{nat_eq, nat_lt, ◌&&◌, if◌then◌else◌}
use Rattle.std.specs.List.{flat_map, list_all}
use Rattle.std.proofs.lemmas.Bool.{lt-ltb}
use Rattle.std.proofs.lemmas.List.Folds.{list_all-append}
use Rattle.least_set.specs.declared.links.Link.{Link}
use Rattle.least_set.specs.Least.{has, keeps}
use Rattle.least_set.proofs.Has.{and_cases, both, or_cases, or_left, or_right}
use Rattle.least_set.proofs.Nexts.{implied, implies}
use Rattle.plan_facts.specs.declared.place.Place.{Place}
use Rattle.callcc_conv.specs.Graph.{callee_links, link, own_links, tail_links}

-- a set keeps the links of a call that has this number and may enter these procedures
pub record Linked (t : ℕ → Bool) (node : ℕ) (p : Place) (qs : List ℕ) : Type 0 where
  pub home : t node ≡ true → t p.proc ≡ true
  pub tail : p.tail ≡ true → t p.proc ≡ true → t node ≡ true
  pub into : (q : ℕ) → has qs q ≡ true → t q ≡ true → t node ≡ true
  pub out : (q : ℕ) → has qs q ≡ true → t node ≡ true → t q ≡ true

tail_kept : (t : ℕ → Bool) (n q : ℕ) (b : Bool) → list_all (keeps t) (if b then link q n ∷ [] else []) ≡ true → b ≡ true → t q ≡ true → t n ≡ true
tail_kept t n q true h e from = implied (t q) (t n) (and_cases (keeps t (link q n)) true h).0 from
tail_kept t n q false h e from = absurd (cc)

keep_tail : (t : ℕ → Bool) (n q : ℕ) (b : Bool) → (b ≡ true → t q ≡ true → t n ≡ true) → list_all (keeps t) (if b then link q n ∷ [] else []) ≡ true
keep_tail t n q true h = both (keeps t (link q n)) true (implies (t q) (t n) (h refl)) refl
keep_tail t n q false h = refl

callees_kept : (t : ℕ → Bool) (n : ℕ) (qs : List ℕ) (q : ℕ) → list_all (keeps t) (flat_map (callee_links n) qs) ≡ true → has qs q ≡ true
    → (keeps t (link q n) ≡ true) × (keeps t (link n q) ≡ true)
callees_kept t n [] q h there = absurd (cc)
callees_kept t n (y ∷ ys) q h there =
    let rest = list_all (keeps t) (flat_map (callee_links n) ys) in
    let first = and_cases (keeps t (link y n)) (keeps t (link n y) && rest) h in
    let second = and_cases (keeps t (link n y)) rest first.1 in
    elim (or_cases (nat_eq q y) (has ys q) there) [
      | inl e ↦
          let same = eqb-true q y e in
          (subst (λ z. keeps t (link z n) ≡ true) (sym same) first.0, subst (λ z. keeps t (link n z) ≡ true) (sym same) second.0)
      | inr past ↦ callees_kept t n ys q second.1 past
    ]

keep_callees : (t : ℕ → Bool) (n : ℕ) (qs : List ℕ) → ((q : ℕ) → has qs q ≡ true → t q ≡ true → t n ≡ true)
    → ((q : ℕ) → has qs q ≡ true → t n ≡ true → t q ≡ true) → list_all (keeps t) (flat_map (callee_links n) qs) ≡ true
keep_callees t n [] into out = refl
keep_callees t n (y ∷ ys) into out =
    let here : has (y ∷ ys) y ≡ true = or_left (nat_eq y y) (has ys y) (eq-eqb y y refl) in
    let rest = list_all (keeps t) (flat_map (callee_links n) ys) in
    both (keeps t (link y n)) (keeps t (link n y) && rest) (implies (t y) (t n) (into y here))
    (both (keeps t (link n y)) rest (implies (t n) (t y) (out y here))
    (keep_callees t n ys (λ q there. into q (or_right (nat_eq q y) (has ys q) there)) (λ q there. out q (or_right (nat_eq q y) (has ys q) there))))

pub linked_of : (t : ℕ → Bool) (n : ℕ) (p : Place) (qs : List ℕ) → list_all (keeps t) (own_links n p qs) ≡ true → Linked t n p qs
linked_of t n p qs h =
    let callees = flat_map (callee_links n) qs in
    let first = and_cases (keeps t (link n p.proc)) (list_all (keeps t) (tail_links n p ++ callees)) h in
    let parts = and_cases (list_all (keeps t) (tail_links n p)) (list_all (keeps t) callees) (sym (list_all-append (keeps t) (tail_links n p) callees) ∙ first.1) in
    record {
      home = implied (t n) (t p.proc) first.0;
      tail = tail_kept t n p.proc p.tail parts.0;
      into = λ q there. implied (t q) (t n) (callees_kept t n qs q parts.1 there).0;
      out = λ q there. implied (t n) (t q) (callees_kept t n qs q parts.1 there).1;
    }

pub of_linked : (t : ℕ → Bool) (n : ℕ) (p : Place) (qs : List ℕ) → Linked t n p qs → list_all (keeps t) (own_links n p qs) ≡ true
of_linked t n p qs h =
    let callees = flat_map (callee_links n) qs in
    both (keeps t (link n p.proc)) (list_all (keeps t) (tail_links n p ++ callees)) (implies (t n) (t p.proc) h.home)
    (list_all-append (keeps t) (tail_links n p) callees
    ∙ both (list_all (keeps t) (tail_links n p)) (list_all (keeps t) callees) (keep_tail t n p.proc p.tail h.tail)
    (keep_callees t n qs h.into h.out))

-- links name what is below a bound
abbrev named : (many : ℕ) → Link → Bool
named many l = nat_lt l.from many && nat_lt l.to many

name_both : (many a b : ℕ) → a < many → b < many → named many (link a b) ≡ true
name_both many a b h k = both (nat_lt a many) (nat_lt b many) (lt-ltb a many h) (lt-ltb b many k)

name_tail : (many n q : ℕ) (b : Bool) → n < many → q < many → list_all (named many) (if b then link q n ∷ [] else []) ≡ true
name_tail many n q true h k = both (named many (link q n)) true (name_both many q n k h) refl
name_tail many n q false h k = refl

name_callees : (many n : ℕ) (qs : List ℕ) → n < many → ((q : ℕ) → has qs q ≡ true → q < many) → list_all (named many) (flat_map (callee_links n) qs) ≡ true
name_callees many n [] h k = refl
name_callees many n (y ∷ ys) h k =
    let less = k y (or_left (nat_eq y y) (has ys y) (eq-eqb y y refl)) in
    let rest = list_all (named many) (flat_map (callee_links n) ys) in
    both (named many (link y n)) (named many (link n y) && rest) (name_both many y n less h)
    (both (named many (link n y)) rest (name_both many n y h less)
    (name_callees many n ys h (λ q there. k q (or_right (nat_eq q y) (has ys q) there))))

pub own_named : (many n : ℕ) (p : Place) (qs : List ℕ) → n < many → p.proc < many → ((q : ℕ) → has qs q ≡ true → q < many)
    → list_all (named many) (own_links n p qs) ≡ true
own_named many n p qs h home k =
    let callees = flat_map (callee_links n) qs in
    both (named many (link n p.proc)) (list_all (named many) (tail_links n p ++ callees)) (name_both many n p.proc h home)
    (list_all-append (named many) (tail_links n p) callees
    ∙ both (list_all (named many) (tail_links n p)) (list_all (named many) callees) (name_tail many n p.proc p.tail h home) (name_callees many n qs h k))
