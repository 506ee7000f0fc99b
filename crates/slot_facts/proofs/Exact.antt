-- The least set that keeps the graph's links is the least that has what needs a slot.
use Rattle.std.proofs.Common.{◌≡◌, ℕ, ◌+◌, ◌-◌, ◌<◌, inl, inr, Bool, true, false, List, [], ◌∷◌, length, Option, Some, None, refl, sym, ap, ◌∙◌, arith}
use Rattle.std.specs.Prelude.{nat_lt, ◌&&◌, not, slice_get, if◌then◌else◌}
use Rattle.std.specs.List.{flat_map, list_all}
use Rattle.std.proofs.lemmas.Bool.{le-ltb, lt-ltb, ltb-true}
use Rattle.scheme_base.specs.declared.place.Stated.{Stated}
use Rattle.scheme_base.specs.declared.place.Stated.TheVariants as stated
use Rattle.flow_constraints.specs.declared.flow.Kind.{Kind}
use Rattle.flow_constraints.specs.declared.flow.Kind.TheVariants.{Closure}
use Rattle.flow_form.specs.declared.rows.Rows.{Rows}
use Rattle.least_set.specs.declared.links.Link.{Link}
use Rattle.least_set.specs.Least.{IsClosed, IsLeast, Set, has, keeps}
use Rattle.least_set.proofs.Has.{all_of, and_cases, both, one_of}
use Rattle.least_set.proofs.Nexts.{implied, implies}
use Rattle.least_set.specs.Search.{listed}
use Rattle.named_form.specs.PlainPlan.{var_count}
use Rattle.named_form.specs.Valid.{Form, numbers_from}
use Rattle.named_form.proofs.Kept.{has_less, has_within}
use Rattle.plan_facts.specs.Places.{Facts, facts_of}
use Rattle.plan_facts.specs.Slotted.{HasSlots, HasSlotted, IsCompared, IsKept, IsPlaced, Item, closed_by, closing, is_own}
use Rattle.slot_facts.specs.Graph.{all_links, all_starts, link_by, need_link, need_links, start_by, value_links}
use Rattle.slot_facts.specs.Known.{Known}
use Rattle.slot_facts.specs.Needs.{link}
use Rattle.slot_facts.proofs.Lists.{all_flat, both_lists, of_both_lists, of_flat}
use Rattle.slot_facts.proofs.Needing.{kept_in, needed_below, needed_making, needed_reference}
use Rattle.slot_facts.proofs.Stating.{HasMany, Several, Two, closure_or_none, has_many, many_have_none, may_close, two_have_none, value_in}

-- the graph of a program: what is compared, and which variables have a cell for good
pub record IsGraph (f : Form) (rows : Rows) (capturing compared : List ℕ) (own : ℕ → Bool) (value : ℕ → Option Stated) : Type 0 where
  pub compares : (q : ℕ) → IsCompared (facts_of f rows) q → has compared q ≡ true
  pub is_compared : (q : ℕ) → has compared q ≡ true → IsCompared (facts_of f rows) q
  pub compared_below : (q : ℕ) → has compared q ≡ true → q < length f.procs
  pub own_is : (x : ℕ) → x < var_count f.procs → own x ≡ is_own f capturing x
  pub value_is : (x : ℕ) → x < var_count f.procs → value x ≡ value_in (facts_of f rows) x

-- what is found, item by item
abbrev pub items : Form → (needed : List (List ℕ)) → (own : ℕ → Bool) → Set ℕ → Set Item
items f needed own found (HasSlots q) = nat_lt q (length f.procs) && found q
items f needed own found (IsPlaced x) = nat_lt x (var_count f.procs) && found (length f.procs + x)
items f needed own found (IsKept q x) = has (listed needed q) x && (not (own x) && found (length f.procs + x))

abbrev starts : Form → (compared : List ℕ) → (value : ℕ → Option Stated) → List ℕ
starts f compared value = all_starts (length f.procs) (var_count f.procs) compared value

abbrev links : Form → (value : ℕ → Option Stated) → (own : ℕ → Bool) → (needed : List (List ℕ)) → List Link
links f value own needed = all_links (length f.procs) (var_count f.procs) value own needed

is_false : (b : Bool) → not b ≡ true → b ≡ false
is_false true h = absurd (cc)
is_false false h = refl

not_of : (b : Bool) → b ≡ false → not b ≡ true
not_of true h = absurd (cc)
not_of false h = refl

-- what a set that keeps the graph's links has

start_kept : (f : Form) (compared : List ℕ) (value : ℕ → Option Stated) (t : ℕ → Bool) (x : ℕ) → list_all t (starts f compared value) ≡ true
    → x < var_count f.procs → value x ≡ None → t (length f.procs + x) ≡ true
start_kept f compared value t x h below none =
    let all = (of_both_lists t compared (flat_map (λ y. start_by (length f.procs + y) (value y)) (numbers_from 0 (var_count f.procs))) h).1 in
    let one = of_flat (λ y. start_by (length f.procs + y) (value y)) t (numbers_from 0 (var_count f.procs)) x all
    (has_within 0 (var_count f.procs) x (omega arith) (omega (arith, below))) in
    (and_cases (t (length f.procs + x)) true (sym (ap (λ o. list_all t (start_by (length f.procs + x) o)) none) ∙ one)).0

value_kept : (f : Form) (value : ℕ → Option Stated) (own : ℕ → Bool) (needed : List (List ℕ)) (t : ℕ → Bool) (x q : ℕ)
    → list_all (keeps t) (links f value own needed) ≡ true → x < var_count f.procs → value x ≡ Some (stated.Closure q)
    → t q ≡ true → t (length f.procs + x) ≡ true
value_kept f value own needed t x q h below closure from =
    let n = length f.procs in
    let v = var_count f.procs in
    let all = (of_both_lists (keeps t) (value_links n v value) (need_links n v own needed) h).0 in
    let one = of_flat (λ y. link_by (n + y) (value y)) (keeps t) (numbers_from 0 v) x all (has_within 0 v x (omega arith) (omega (arith, below))) in
    let kept = (and_cases (keeps t (link q (n + x))) true (sym (ap (λ o. list_all (keeps t) (link_by (n + x) o)) closure) ∙ one)).0 in
    implied (t q) (t (n + x)) kept from

need_kept : (f : Form) (value : ℕ → Option Stated) (own : ℕ → Bool) (needed : List (List ℕ)) (t : ℕ → Bool) (q x : ℕ)
    → list_all (keeps t) (links f value own needed) ≡ true → x < var_count f.procs → q < length needed → has (listed needed q) x ≡ true
    → own x ≡ false → t (length f.procs + x) ≡ true → t q ≡ true
need_kept f value own needed t q x h below there needs other from =
    let n = length f.procs in
    let v = var_count f.procs in
    let all = (of_both_lists (keeps t) (value_links n v value) (need_links n v own needed) h).1 in
    let of_proc = of_flat (λ p. flat_map (need_link n v own p) (listed needed p)) (keeps t) (numbers_from 0 (length needed)) q all
    (has_within 0 (length needed) q (omega arith) (omega (arith, there))) in
    let one = of_flat (need_link n v own q) (keeps t) (listed needed q) x of_proc needs in
    let open_link : (nat_lt x v && not (own x)) ≡ true = both (nat_lt x v) (not (own x)) (lt-ltb x v below) (not_of (own x) other) in
    let kept = (and_cases (keeps t (link (n + x) q)) true (sym (ap (λ b. list_all (keeps t) (if b then link (n + x) q ∷ [] else [])) open_link) ∙ one)).0 in
    implied (t (n + x)) (t q) kept from

-- a set of items, as one of nodes
abbrev nodes : Form → Set Item → Set ℕ
nodes f t n = if nat_lt n (length f.procs) then t (HasSlots n) else t (IsPlaced (n - length f.procs))

low : (f : Form) (t : Set Item) (q : ℕ) → q < length f.procs → nodes f t q ≡ t (HasSlots q)
low f t q h = ap (λ b. if b then t (HasSlots q) else t (IsPlaced (q - length f.procs))) (lt-ltb q (length f.procs) h)

high : (f : Form) (t : Set Item) (x : ℕ) → nodes f t (length f.procs + x) ≡ t (IsPlaced x)
high f t x =
    let n = length f.procs in
    let past : nat_lt (n + x) n ≡ false = le-ltb (n + x) n (omega arith) in
    let same : n + x - n ≡ x = omega arith in
    ap (λ b. if b then t (HasSlots (n + x)) else t (IsPlaced (n + x - n))) past ∙ ap (λ y. t (IsPlaced y)) same

pub closing_below : (k : Facts) (a q : ℕ) → closing k a ≡ Some q → q < length k.procs
closing_below k a q h = by_kind (slice_get k.flow.kinds a) h
  where
    by_test : (r : ℕ) (b : Bool) → nat_lt r (length k.procs) ≡ b → (if b then Some r else None) ≡ Some q → q < length k.procs
    by_test r true e h = let same : r ≡ q = cc in let less = ltb-true r (length k.procs) e in omega (arith, same, less)
    by_test r false e h = absurd (cc)

    by_kind : (o : Option Kind) → closed_by (length k.procs) o ≡ Some q → q < length k.procs
    by_kind (Some (Closure r)) h = by_test r (nat_lt r (length k.procs)) refl h
    by_kind o h = cc

pub placed_many : (k : Facts) (f : Form) (capturing : List ℕ) (t : Set Item) (x : ℕ) → HasSlotted f k capturing t
    → nat_lt x (var_count k.procs) ≡ true → HasMany k x → t (IsPlaced x) ≡ true
placed_many k f capturing t x c var (Two a b h i apart) = c.two x a b var h i apart
placed_many k f capturing t x c var (Several a h kind single) = c.many x a var h kind single

-- a closed set of items gives one that keeps the links
nodes_closed : (f : Form) (rows : Rows) (capturing compared : List ℕ) (own : ℕ → Bool) (value : ℕ → Option Stated)
    → (free references makings needed : List (List ℕ)) → Known f rows free references makings needed
    → IsGraph f rows capturing compared own value → (t : Set Item) → HasSlotted f (facts_of f rows) capturing t
    → IsClosed (starts f compared value) (links f value own needed) (nodes f t)
nodes_closed f rows capturing compared own value free references makings needed k g t c =
    let n = length f.procs in
    let v = var_count f.procs in
    record {
      begun = both_lists (nodes f t) compared (flat_map (λ x. start_by (n + x) (value x)) (numbers_from 0 v))
          (all_of (nodes f t) compared (λ q there. low f t q (g.compared_below q there) ∙ c.compared q (g.is_compared q there)))
          (all_flat (λ x. start_by (n + x) (value x)) (nodes f t) (numbers_from 0 v) (λ x there. start x (value x) refl (has_less 0 v x there)));
      linked = both_lists (keeps (nodes f t)) (value_links n v value) (need_links n v own needed)
          (all_flat (λ x. link_by (n + x) (value x)) (keeps (nodes f t)) (numbers_from 0 v) (λ x there. by_value x (value x) refl (has_less 0 v x there)))
          (all_flat (λ q. flat_map (need_link n v own q) (listed needed q)) (keeps (nodes f t)) (numbers_from 0 (length needed))
          (λ q there. all_flat (need_link n v own q) (keeps (nodes f t)) (listed needed q) (λ x needs. by_need q x needs (nat_lt x v && not (own x)) refl)));
    }
  where
    start : (x : ℕ) (o : Option Stated) → value x ≡ o → x < 0 + var_count f.procs → list_all (nodes f t) (start_by (length f.procs + x) o) ≡ true
    start x (Some w) e below = refl
    start x None e below =
        both (nodes f t (length f.procs + x)) true
        (high f t x
        ∙ placed_many (facts_of f rows) f capturing t x c (lt-ltb x (var_count f.procs) (omega (arith, below)))
        (has_many (facts_of f rows) x (sym (g.value_is x (omega (arith, below))) ∙ e)))
        refl

    by_value : (x : ℕ) (o : Option Stated) → value x ≡ o → x < 0 + var_count f.procs
        → list_all (keeps (nodes f t)) (link_by (length f.procs + x) o) ≡ true
    by_value x None e below = refl
    by_value x (Some stated.False) e below = refl
    by_value x (Some stated.True) e below = refl
    by_value x (Some stated.Nil) e below = refl
    by_value x (Some stated.Unspecified) e below = refl
    by_value x (Some stated.Eof) e below = refl
    by_value x (Some (stated.Closure q)) e below =
        let may = may_close (facts_of f rows) x q (sym (g.value_is x (omega (arith, below))) ∙ e) in
        both (keeps (nodes f t) (link q (length f.procs + x))) true
        (implies (nodes f t q) (nodes f t (length f.procs + x))
        (λ h.
        high f t x
        ∙ c.slotted x q (lt-ltb x (var_count f.procs) (omega (arith, below))) may
        (sym (low f t q (closing_below (facts_of f rows) may.atom q may.kind)) ∙ h)))
        refl

    by_need : (q x : ℕ) → has (listed needed q) x ≡ true → (b : Bool) → (nat_lt x (var_count f.procs) && not (own x)) ≡ b
        → list_all (keeps (nodes f t)) (if b then link (length f.procs + x) q ∷ [] else []) ≡ true
    by_need q x needs false e = refl
    by_need q x needs true e =
        let bounds = needed_below f rows free references makings needed k q x needs in
        let other = is_false (own x) (and_cases (nat_lt x (var_count f.procs)) (not (own x)) e).1 in
        let apart = sym (g.own_is x bounds.0) ∙ other in
        both (keeps (nodes f t) (link (length f.procs + x) q)) true
        (implies (nodes f t (length f.procs + x)) (nodes f t q)
        (λ h.
        low f t q bounds.1
        ∙ c.keeping q x
        (kept_in f rows capturing free references makings needed k t c x apart (sym (high f t x) ∙ h) (length f.procs) q (omega arith) needs)))
        refl

pub least_slotted : (f : Form) (rows : Rows) (capturing compared : List ℕ) (own : ℕ → Bool) (value : ℕ → Option Stated)
    → (free references makings needed : List (List ℕ)) (found : Set ℕ) → Known f rows free references makings needed
    → IsGraph f rows capturing compared own value
    → IsLeast (IsClosed (starts f compared value) (links f value own needed)) found
    → IsLeast (HasSlotted f (facts_of f rows) capturing) (items f needed own found)
least_slotted f rows capturing compared own value free references makings needed found k g l =
    let n = length f.procs in
    let v = var_count f.procs in
    let it = items f needed own found in
    let begun = l.closed.begun in
    let linked = l.closed.linked in
    record {
      closed = record {
        compared = λ q h.
            let there = g.compares q h in
            both (nat_lt q n) (found q) (lt-ltb q n (g.compared_below q there))
            (one_of found compared q (of_both_lists found compared (flat_map (λ x. start_by (n + x) (value x)) (numbers_from 0 v)) begun).0 there);
        keeping = λ q x h.
            let first = and_cases (has (listed needed q) x) (not (own x) && found (n + x)) h in
            let second = and_cases (not (own x)) (found (n + x)) first.1 in
            let bounds = needed_below f rows free references makings needed k q x first.0 in
            let all = k.free_many in
            let many = k.needed_many in
            let low_proc = bounds.1 in
            both (nat_lt q n) (found q) (lt-ltb q n bounds.1)
            (need_kept f value own needed found q x linked bounds.0 (omega (arith, all, many, low_proc)) first.0 (is_false (own x) second.0) second.1);
        two = λ x a b var h i apart.
            both (nat_lt x v) (found (n + x)) var
            (start_kept f compared value found x begun (ltb-true x v var) (g.value_is x (ltb-true x v var) ∙ two_have_none (facts_of f rows) x a b h i apart));
        many = λ x a var h kind single.
            both (nat_lt x v) (found (n + x)) var
            (start_kept f compared value found x begun (ltb-true x v var) (g.value_is x (ltb-true x v var) ∙ many_have_none (facts_of f rows) x a h kind single));
        slotted = λ x q var may h.
            both (nat_lt x v) (found (n + x)) var
            (elim (closure_or_none (facts_of f rows) x q may) [
              | inl none ↦ start_kept f compared value found x begun (ltb-true x v var) (g.value_is x (ltb-true x v var) ∙ none)
              | inr one ↦
                  value_kept f value own needed found x q linked (ltb-true x v var) (g.value_is x (ltb-true x v var) ∙ one) (and_cases (nat_lt q n) (found q) h).1
            ]);
        referred = λ q x free_one refers other h.
            let needs = needed_reference f rows free references makings needed k q x free_one refers in
            let bounds = needed_below f rows free references makings needed k q x needs in
            both (has (listed needed q) x) (not (own x) && found (n + x)) needs
            (both (not (own x)) (found (n + x)) (not_of (own x) (g.own_is x bounds.0 ∙ other)) (and_cases (nat_lt x v) (found (n + x)) h).1);
        made = λ q r x free_one makes h.
            let first = and_cases (has (listed needed r) x) (not (own x) && found (n + x)) h in
            both (has (listed needed q) x) (not (own x) && found (n + x))
            (needed_making f rows free references makings needed k q r x free_one makes first.0) first.1;
      };
      within = λ t c item h.
          let all = l.within (nodes f t) (nodes_closed f rows capturing compared own value free references makings needed k g t c) in
          by_item t c all item h;
    }
  where
    by_item : (t : Set Item) → HasSlotted f (facts_of f rows) capturing t → ((x : ℕ) → found x ≡ true → nodes f t x ≡ true)
        → (item : Item) → items f needed own found item ≡ true → t item ≡ true
    by_item t c all (HasSlots q) h =
        let both_parts = and_cases (nat_lt q (length f.procs)) (found q) h in
        sym (low f t q (ltb-true q (length f.procs) both_parts.0)) ∙ all q both_parts.1
    by_item t c all (IsPlaced x) h =
        sym (high f t x) ∙ all (length f.procs + x) (and_cases (nat_lt x (var_count f.procs)) (found (length f.procs + x)) h).1
    by_item t c all (IsKept q x) h =
        let first = and_cases (has (listed needed q) x) (not (own x) && found (length f.procs + x)) h in
        let second = and_cases (not (own x)) (found (length f.procs + x)) first.1 in
        let bounds = needed_below f rows free references makings needed k q x first.0 in
        let apart = sym (g.own_is x bounds.0) ∙ is_false (own x) second.0 in
        kept_in f rows capturing free references makings needed k t c x apart (sym (high f t x) ∙ all (length f.procs + x) second.1)
        (length f.procs) q (omega arith) first.0
