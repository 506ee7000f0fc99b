-- The graph's numbers are below that of its nodes.
use Rattle.std.proofs.Common.{◌≡◌, ℕ, zero, suc, ◌+◌, ◌<◌, Bool, true, false, List, [], ◌∷◌, length, Option, Some, None, refl, arith}
use Rattle.std.specs.Prelude.{nat_lt, ◌&&◌, not, if◌then◌else◌}
use Rattle.std.specs.List.{flat_map, list_all}
use Rattle.std.proofs.lemmas.Bool.{lt-ltb, ltb-true}
use Rattle.scheme_base.specs.declared.place.Stated.{Stated}
use Rattle.scheme_base.specs.declared.place.Stated.TheVariants as stated
use Rattle.least_set.specs.declared.links.Link.{Link}
use Rattle.least_set.specs.Least.{all_below, links_below}
use Rattle.least_set.specs.Search.{listed}
use Rattle.least_set.proofs.Has.{all_of, and_cases, below_at, both}
use Rattle.named_form.specs.Valid.{numbers_from}
use Rattle.named_form.proofs.Kept.{has_less}
use Rattle.slot_facts.specs.Graph.{AllClose, all_links, all_starts, closes_below, link_by, need_link, need_links, start_by, value_at, value_links}
use Rattle.slot_facts.specs.Needs.{link}
use Rattle.slot_facts.proofs.Lists.{all_flat, both_lists}

pub close_at : (n : ℕ) (values : List (Option Stated)) (x : ℕ) → list_all (closes_below n) values ≡ true → closes_below n (value_at values x) ≡ true
close_at n [] x h = refl
close_at n (v ∷ vs) zero h = (and_cases (closes_below n v) (list_all (closes_below n) vs) h).0
close_at n (v ∷ vs) (suc x) h = close_at n vs x (and_cases (closes_below n v) (list_all (closes_below n) vs) h).1

pub starts_below : (p : ℕ) (compared : List ℕ) (values : List (Option Stated)) → all_below p compared ≡ true
    → all_below (p + length values) (all_starts p (length values) compared (value_at values)) ≡ true
starts_below p compared values h =
    let v = length values in
    both_lists (λ x. nat_lt x (p + v)) compared (flat_map (λ x. start_by (p + x) (value_at values x)) (numbers_from 0 v))
    (all_of (λ x. nat_lt x (p + v)) compared (λ q there. let less = below_at p compared q h there in lt-ltb q (p + v) (omega (arith, less))))
    (all_flat (λ x. start_by (p + x) (value_at values x)) (λ x. nat_lt x (p + v)) (numbers_from 0 v)
    (λ x there. start x (value_at values x) (has_less 0 v x there)))
  where
    start : (x : ℕ) (o : Option Stated) → x < 0 + length values → all_below (p + length values) (start_by (p + x) o) ≡ true
    start x None less = both (nat_lt (p + x) (p + length values)) true (lt-ltb (p + x) (p + length values) (omega (arith, less))) refl
    start x (Some w) less = refl

abbrev in_graph : (many : ℕ) → Link → Bool
in_graph many l = nat_lt l.from many && nat_lt l.to many

one_link : (many a b : ℕ) → a < many → b < many → list_all (in_graph many) (link a b ∷ []) ≡ true
one_link many a b h i =
    both (in_graph many (link a b)) true (both (nat_lt a many) (nat_lt b many) (lt-ltb a many h) (lt-ltb b many i)) refl

pub links_are_below : (p : ℕ) (values : List (Option Stated)) (own : ℕ → Bool) (needed : List (List ℕ)) → AllClose p values
    → length needed ≡ p → links_below (p + length values) (all_links p (length values) (value_at values) own needed) ≡ true
links_are_below p values own needed close sized =
    let v = length values in
    both_lists (in_graph (p + v)) (value_links p v (value_at values)) (need_links p v own needed)
    (all_flat (λ x. link_by (p + x) (value_at values x)) (in_graph (p + v)) (numbers_from 0 v)
    (λ x there. by_value x (value_at values x) (close_at p values x close.each) (has_less 0 v x there)))
    (all_flat (λ q. flat_map (need_link p v own q) (listed needed q)) (in_graph (p + v)) (numbers_from 0 (length needed))
    (λ q there.
    all_flat (need_link p v own q) (in_graph (p + v)) (listed needed q)
    (λ x needs. by_need q x (has_less 0 (length needed) q there) (nat_lt x v) refl (not (own x)))))
  where
    by_value : (x : ℕ) (o : Option Stated) → closes_below p o ≡ true → x < 0 + length values
        → list_all (in_graph (p + length values)) (link_by (p + x) o) ≡ true
    by_value x (Some (stated.Closure q)) low less =
        let below = ltb-true q p low in one_link (p + length values) q (p + x) (omega (arith, below)) (omega (arith, less))
    by_value x (Some stated.False) low less = refl
    by_value x (Some stated.True) low less = refl
    by_value x (Some stated.Nil) low less = refl
    by_value x (Some stated.Unspecified) low less = refl
    by_value x (Some stated.Eof) low less = refl
    by_value x None low less = refl

    by_need : (q x : ℕ) → q < 0 + length needed → (b : Bool) → nat_lt x (length values) ≡ b → (c : Bool)
        → list_all (in_graph (p + length values)) (if b && c then link (p + x) q ∷ [] else []) ≡ true
    by_need q x low true e true =
        let less = ltb-true x (length values) e in
        one_link (p + length values) (p + x) q (omega (arith, less)) (omega (arith, low, sized))
    by_need q x low true e false = refl
    by_need q x low false e c = refl
