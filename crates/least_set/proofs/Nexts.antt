-- What each number is linked to, link by link.
use Rattle.std.proofs.Common.{◌≡◌, ℕ, zero, suc, ◌+◌, ◌<◌, inl, inr, Bool, true, false, List, [], ◌∷◌, ◌++◌, length, get_or, set, take, Some, refl, sym, ap, ◌∙◌, subst, arith, append-nil, length-append, eqb-true, eq-eqb, ne_eqb, get_or-set_other, get_or-set_same}
use Rattle.std.specs.Prelude.{nat_eq, nat_lt, not, ◌||◌, ◌&&◌, slice_get, if◌then◌else◌}
use Rattle.std.specs.List.{list_all}
use Rattle.std.proofs.Math.Seq.{get_or-append_seam}
use Rattle.std.proofs.lemmas.Bool.{cases_eq, cases_lt, ltb-true}
use Rattle.std.proofs.lemmas.List.{get_or_append_left, length-set, take_more}
use Rattle.std.proofs.lemmas.Option.{get_or_from_slice_get, slice_get-get_or, slice_get_read}
use Rattle.least_set.specs.declared.links.Link.{Link}
use Rattle.least_set.specs.Least.{all_below, has, keeps, links_below}
use Rattle.least_set.specs.Search.{IsNext, listed, targets}
use Rattle.least_set.proofs.Has.{and_cases, both, or_true}

abbrev only : Bool → ℕ → List ℕ
only b x = if b then x ∷ [] else []

-- the links of a number, one more at the end
targets_last : (links : List Link) (link : Link) (k : ℕ)
    → targets (links ++ link ∷ []) k ≡ targets links k ++ only (nat_eq k link.from) link.to
targets_last [] link k = refl
targets_last (l ∷ ls) link k = more (nat_eq k l.from) (targets_last ls link k)
  where
    more : (b : Bool) → targets (ls ++ link ∷ []) k ≡ targets ls k ++ only (nat_eq k link.from) link.to
        → (if b then l.to ∷ targets (ls ++ link ∷ []) k else targets (ls ++ link ∷ []) k)
        ≡ (if b then l.to ∷ targets ls k else targets ls k) ++ only (nat_eq k link.from) link.to
    more true past = ap (λ xs. l.to ∷ xs) past
    more false past = past

-- one more link is put where it is from
pub put_link : (many : ℕ) (links : List Link) (link : Link) (next : List (List ℕ)) → link.from < many
    → IsNext many links next → IsNext many (links ++ link ∷ []) (set next link.from (listed next link.from ++ link.to ∷ []))
put_link many links link next within h =
    let new : List ℕ = listed next link.from ++ link.to ∷ [] in
    record {
      long = length-set next link.from new ∙ h.long;
      each = λ k below. elim (cases_eq k link.from) [
        | inl e ↦
            let long : link.from < length next = subst (λ n. link.from < n) (sym h.long) within in
            ap (λ j. listed (set next link.from new) j) e
            ∙ (get_or-set_same next link.from new [] long
            ∙ (ap (λ xs. xs ++ link.to ∷ []) (ap (λ j. listed next j) (sym e) ∙ h.each k below)
            ∙ (ap (λ b. targets links k ++ only b link.to) (sym (eq-eqb k link.from e)) ∙ sym (targets_last links link k))))
        | inr n ↦
            get_or-set_other next link.from k new [] n
            ∙ (h.each k below
            ∙ (sym (append-nil (targets links k))
            ∙ (ap (λ b. targets links k ++ only b link.to) (sym (ne_eqb k link.from n)) ∙ sym (targets_last links link k))))
      ];
    }

pub from_below : (many : ℕ) (links : List Link) (i : ℕ) (link : Link) → links_below many links ≡ true → slice_get links i ≡ Some link
    → link.from < many
from_below many [] i link h at = absurd (cc)
from_below many (l ∷ ls) zero link h at =
    let parts = and_cases (nat_lt l.from many && nat_lt l.to many) (links_below many ls) h in
    let less = ltb-true l.from many (and_cases (nat_lt l.from many) (nat_lt l.to many) parts.0).0 in
    let same : l.from ≡ link.from = cc in
    subst (λ n. n < many) same less
from_below many (l ∷ ls) (suc i) link h at =
    from_below many ls i link (and_cases (nat_lt l.from many && nat_lt l.to many) (links_below many ls) h).1 at

-- the next link, where its list was read
pub put_next : (many : ℕ) (links : List Link) (i : ℕ) (d : Link) (next : List (List ℕ)) (was new : List ℕ) → i < length links
    → links_below many links ≡ true → was ≡ get_or next (get_or links i d).from was → new ≡ was ++ (get_or links i d).to ∷ []
    → IsNext many (take i links) next → IsNext many (take (i + 1) links) (set next (get_or links i d).from new)
put_next many links i d next was new within below reads puts h =
    let link : Link = get_or links i d in
    let less : link.from < many = from_below many links i link below (slice_get-get_or links i d within) in
    let there : link.from < length next = subst (λ n. link.from < n) (sym h.long) less in
    let old : listed next link.from ≡ was =
    get_or_from_slice_get next link.from was [] (slice_get_read next (length next) link.from was refl there reads) in
    let one : take (i + 1) links ≡ take i links ++ link ∷ [] = take_more links i d within in
    subst (λ ls. IsNext many ls (set next link.from new)) (sym one)
    (subst (λ xs. IsNext many (take i links ++ link ∷ []) (set next link.from xs)) (ap (λ xs. xs ++ link.to ∷ []) old ∙ sym puts)
    (put_link many (take i links) link next less h))

pub none_put : (next : List (List ℕ)) (many : ℕ) → IsNext many [] next → IsNext (many + 1) [] (next ++ [] ∷ [])
none_put next many h =
    record {
      long = length-append next ([] ∷ []) ∙ ap (λ n. n + 1) h.long;
      each = λ k below. elim (cases_lt k many) [
        | inl less ↦ get_or_append_left next ([] ∷ []) [] k (subst (λ n. k < n) (sym h.long) less) ∙ h.each k less
        | inr past ↦
            let last : k ≡ length next = omega (arith, h.long) in
            ap (λ j. listed (next ++ [] ∷ []) j) last ∙ get_or-append_seam next [] [] []
      ];
    }

pub targets_below : (many : ℕ) (links : List Link) (k : ℕ) → links_below many links ≡ true → all_below many (targets links k) ≡ true
targets_below many [] k h = refl
targets_below many (l ∷ ls) k h =
    let parts = and_cases (nat_lt l.from many && nat_lt l.to many) (links_below many ls) h in
    by_from (nat_eq k l.from) refl (and_cases (nat_lt l.from many) (nat_lt l.to many) parts.0).1 (targets_below many ls k parts.1)
  where
    by_from : (b : Bool) → nat_eq k l.from ≡ b → nat_lt l.to many ≡ true → all_below many (targets ls k) ≡ true
        → all_below many (targets (l ∷ ls) k) ≡ true
    by_from true e to past = rw e (both (nat_lt l.to many) (all_below many (targets ls k)) to past)
    by_from false e to past = rw e past

pub all_targets_below : (many : ℕ) (links : List Link) (next : List (List ℕ)) → links_below many links ≡ true → IsNext many links next
    → (k : ℕ) → k < many → all_below many (listed next k) ≡ true
all_targets_below many links next below h k less = ap (all_below many) (h.each k less) ∙ targets_below many links k below

-- a link leads to one of the targets of what it is from
pub target_of : (links : List Link) (i : ℕ) (link : Link) → slice_get links i ≡ Some link → has (targets links link.from) link.to ≡ true
target_of [] i link at = absurd (cc)
target_of (l ∷ ls) zero link at =
    let from : link.from ≡ l.from = cc in
    let to : link.to ≡ l.to = cc in
    rw (eq-eqb link.from l.from from) (ap (λ b. b || has (targets ls link.from) link.to) (eq-eqb link.to l.to to))
target_of (l ∷ ls) (suc i) link at = by_from (nat_eq link.from l.from) refl (target_of ls i link at)
  where
    by_from : (b : Bool) → nat_eq link.from l.from ≡ b → has (targets ls link.from) link.to ≡ true
        → has (targets (l ∷ ls) link.from) link.to ≡ true
    by_from true e past = rw e (ap (λ b. nat_eq link.to l.to || b) past ∙ or_true (nat_eq link.to l.to))
    by_from false e past = rw e past

-- each target comes of a link
pub record LinkTo (links : List Link) (k x : ℕ) : Type 0 where
  pub at : ℕ
  pub link : Link
  pub there : slice_get links at ≡ Some link
  pub from : link.from ≡ k
  pub to : link.to ≡ x

later : {ls : List Link} {k x : ℕ} (l : Link) → LinkTo ls k x → LinkTo (l ∷ ls) k x
later l p = record { at = suc p.at; link = p.link; there = p.there; from = p.from; to = p.to }

pub link_of : (links : List Link) (k x : ℕ) → has (targets links k) x ≡ true → LinkTo links k x
link_of [] k x h = absurd (cc)
link_of (l ∷ ls) k x h = by_from (nat_eq k l.from) (nat_eq x l.to) refl refl (λ there. later l (link_of ls k x there))
  where
    by_from : (b c : Bool) → nat_eq k l.from ≡ b → nat_eq x l.to ≡ c → (has (targets ls k) x ≡ true → LinkTo (l ∷ ls) k x)
        → LinkTo (l ∷ ls) k x
    by_from true true e f past =
        record { at = 0; link = l; there = refl; from = sym (eqb-true k l.from e); to = sym (eqb-true x l.to f) }
    by_from true false e f past = past (sym (ap (λ b. b || has (targets ls k) x) f) ∙ (rw e at h))
    by_from false c e f past = past (rw e at h)

pub implied : (a b : Bool) → (not a || b) ≡ true → a ≡ true → b ≡ true
implied true b h k = h
implied false b h k = absurd (cc)

pub implies : (a b : Bool) → (a ≡ true → b ≡ true) → (not a || b) ≡ true
implies true b h = h refl
implies false b h = refl

pub links_kept : (t : ℕ → Bool) (links : List Link)
    → ((at : ℕ) (link : Link) → slice_get links at ≡ Some link → t link.from ≡ true → t link.to ≡ true) → list_all (keeps t) links ≡ true
links_kept t [] h = refl
links_kept t (l ∷ ls) h =
    both (keeps t l) (list_all (keeps t) ls) (implies (t l.from) (t l.to) (h 0 l refl)) (links_kept t ls (λ at link there. h (suc at) link there))

pub link_kept : (t : ℕ → Bool) (links : List Link) (at : ℕ) (link : Link) → list_all (keeps t) links ≡ true → slice_get links at ≡ Some link
    → t link.from ≡ true → t link.to ≡ true
link_kept t [] at link h there from = absurd (cc)
link_kept t (l ∷ ls) zero link h there from =
    let one = (and_cases (keeps t l) (list_all (keeps t) ls) h).0 in
    let same : link ≡ l = cc in
    implied (t link.from) (t link.to) (subst (λ k. keeps t k ≡ true) (sym same) one) from
link_kept t (l ∷ ls) (suc at) link h there from =
    link_kept t ls at link (and_cases (keeps t l) (list_all (keeps t) ls) h).1 there from
