-- The variables that a procedure's closures keep under the plain plan: those that are free in it, which are bound in
-- the procedures before it.
use Rattle.std.proofs.Common.{◌≡◌, ℕ, zero, suc, ◌+◌, ◌-◌, ◌<◌, ◌≤◌, Bool, true, false, List, [], ◌∷◌, ◌++◌, length, Option, Some, None, refl, sym, ap, subst, ◌∙◌, arith, ne_eqb, eqb-true, length-append}
use Rattle.std.proofs.lemmas.Bool.{eqb-false}
use Rattle.std.proofs.lemmas.Option.{slice_get_past, slice_get_within}
use Rattle.std.specs.Prelude.{nat_eq, ◌||◌, ◌&&◌, not, slice_get, IsTrue}
use Rattle.std.specs.List.{AllByRecursion, filter, flat_map}
use Rattle.scheme_base.specs.Operations.{item_or}
use Rattle.named_form.specs.Code.{Written, has, reads_in, closes_in, bound_in, free_in}
use Rattle.named_form.specs.Needs.{listed, needs_in, among}
use Rattle.named_form.specs.PlainPlan.{before, var_count, free_vars}
use Rattle.named_form.specs.Valid.{Numbered, Made, Scoped, LaterOnes, all_made, numbers_from}
use Rattle.named_form.proofs.Depth.{same_depth, none_free}
use Rattle.named_form.proofs.Labels.{makes_later}
use Rattle.named_form.proofs.Rising.{numbers_append, filter_same, filter_below}
use Rattle.named_form.proofs.Variables.{has_append, has_filter, has_needs, has_free, any_free}

before_zero : (ps : List Written) → before ps 0 ≡ 0
before_zero [] = refl
before_zero (p ∷ ps) = refl

pub before_next : (ps : List Written) (q : ℕ) (p : Written) → slice_get ps q ≡ Some p
    → before ps (suc q) ≡ before ps q + length (bound_in p)
before_next [] q p e = cc
before_next (r ∷ ps) zero p e =
    let same : r ≡ p = cc in
    let none = before_zero ps in
    let here = ap (λ (w : Written). length (bound_in w)) same in
    omega (arith, none, here)
before_next (r ∷ ps) (suc q) p e =
    let past = before_next ps q p e in
    omega (arith, past)

-- more are bound before a later procedure
before_step : (ps : List Written) (q : ℕ) → before ps q ≤ before ps (suc q)
before_step [] q = omega arith
before_step (p ∷ ps) zero = omega arith
before_step (p ∷ ps) (suc q) = let past = before_step ps q in omega (arith, past)

pub before_more : (ps : List Written) (j k : ℕ) → before ps j ≤ before ps (j + k)
before_more ps j zero = let e : j + 0 ≡ j = omega arith in let same = ap (before ps) e in omega (arith, same)
before_more ps j (suc k) =
    let e : j + suc k ≡ suc (j + k) = omega arith in
    let same = ap (before ps) e in
    let one = before_step ps (j + k) in
    let past = before_more ps j k in
    omega (arith, same, one, past)

pub before_later : (ps : List Written) (j q : ℕ) → j ≤ q → before ps j ≤ before ps q
before_later ps j q h =
    let e : j + (q - j) ≡ q = omega arith in
    let same = ap (before ps) e in
    let more = before_more ps j (q - j) in
    omega (arith, same, more)

pub before_all : (ps : List Written) (q : ℕ) → before ps q ≤ var_count ps
before_all [] q = omega arith
before_all (p ∷ ps) zero = omega arith
before_all (p ∷ ps) (suc q) =
    let past = before_all ps q in
    let long = length-append (bound_in p) (flat_map bound_in ps) in
    omega (arith, past, long)

-- Consecutive numbers

pub length_numbers : (lo n : ℕ) → length (numbers_from lo n) ≡ n
length_numbers lo zero = refl
length_numbers lo (suc n) = ap suc (length_numbers (suc lo) n)

pub has_early : (lo n x : ℕ) → x < lo → has (numbers_from lo n) x ≡ false
has_early lo zero x lt = refl
has_early lo (suc n) x lt =
    let other : nat_eq x lo ≡ false = ne_eqb x lo (λ e. omega (arith, e)) in
    ap (λ t. t || has (numbers_from (suc lo) n) x) other ∙ has_early (suc lo) n x (omega arith)

pub has_late : (lo n x : ℕ) → lo + n ≤ x → has (numbers_from lo n) x ≡ false
has_late lo zero x ge = refl
has_late lo (suc n) x ge =
    let other : nat_eq x lo ≡ false = ne_eqb x lo (λ e. omega (arith, e)) in
    ap (λ t. t || has (numbers_from (suc lo) n) x) other ∙ has_late (suc lo) n x (omega arith)

pub has_within : (lo n x : ℕ) → lo ≤ x → x < lo + n → has (numbers_from lo n) x ≡ true
has_within lo zero x ge lt = absurd (omega arith)
has_within lo (suc n) x ge lt = here (nat_eq x lo) refl (λ ge lt. has_within (suc lo) n x ge lt)
  where
    here : (t : Bool) → nat_eq x lo ≡ t → (suc lo ≤ x → x < suc lo + n → has (numbers_from (suc lo) n) x ≡ true)
        → nat_eq x lo || has (numbers_from (suc lo) n) x ≡ true
    here true e h = ap (λ t. t || has (numbers_from (suc lo) n) x) e
    here false e h =
        let other = eqb-false x lo e in
        ap (λ t. t || has (numbers_from (suc lo) n) x) e ∙ h (above other ge) (omega arith)
      where
        above : (x ≡ lo → ⊥) → lo ≤ x → suc lo ≤ x
        above other ge = omega arith

pub has_less : (lo n x : ℕ) → has (numbers_from lo n) x ≡ true → x < lo + n
has_less lo zero x h = cc
has_less lo (suc n) x h = here (nat_eq x lo) refl h (λ k. has_less (suc lo) n x k)
  where
    here : (t : Bool) → nat_eq x lo ≡ t → nat_eq x lo || has (numbers_from (suc lo) n) x ≡ true
        → (has (numbers_from (suc lo) n) x ≡ true → x < suc lo + n) → x < lo + suc n
    here true e h past = let same = eqb-true x lo e in omega (arith, same)
    here false e h past =
        let less = past (sym (ap (λ t. t || has (numbers_from (suc lo) n) x) e) ∙ h) in
        omega (arith, less)

pub all_numbers : (P : ℕ → Type 0) (lo n x : ℕ) → AllByRecursion P (numbers_from lo n) → lo ≤ x → x < lo + n → P x
all_numbers P lo zero x h ge lt = absurd (omega arith)
all_numbers P lo (suc n) x h ge lt = here (nat_eq x lo) refl (λ ge lt. all_numbers P (suc lo) n x h.1 ge lt)
  where
    here : (t : Bool) → nat_eq x lo ≡ t → (suc lo ≤ x → x < suc lo + n → P x) → P x
    here true e past = subst P (sym (eqb-true x lo e)) h.0
    here false e past = past (above (eqb-false x lo e) ge) (omega arith)
      where
        above : (x ≡ lo → ⊥) → lo ≤ x → suc lo ≤ x
        above other ge = omega arith

pub split_append : (a c b d : List ℕ) → length a ≡ length c → a ++ b ≡ c ++ d → (a ≡ c) × (b ≡ d)
split_append [] [] b d h e = (refl, e)
split_append [] (y ∷ c) b d h e = absurd (omega (arith, h))
split_append (x ∷ a) [] b d h e = absurd (omega (arith, h))
split_append (x ∷ a) (y ∷ c) b d h e =
    let tails : a ++ b ≡ c ++ d = cc in
    let heads : x ≡ y = cc in
    let rest = split_append a c b d (omega (arith, h)) tails in
    (ap (λ z. z ∷ a) heads ∙ ap (λ zs. y ∷ zs) rest.0, rest.1)

-- the variables of a procedure are numbered from those before it on
own_from : (n : ℕ) (ps : List Written) → flat_map bound_in ps ≡ numbers_from n (var_count ps)
    → (q : ℕ) (p : Written) → slice_get ps q ≡ Some p
    → bound_in p ≡ numbers_from (n + before ps q) (length (bound_in p))
own_from n [] h q p e = cc
own_from n (r ∷ ps) h q p e = at q e (λ q e. own_from (n + length (bound_in r)) ps halves.1 q p e)
  where
    halves : (bound_in r ≡ numbers_from n (length (bound_in r))) × (flat_map bound_in ps ≡ numbers_from (n + length (bound_in r)) (var_count ps))
    halves =
        split_append (bound_in r) (numbers_from n (length (bound_in r))) (flat_map bound_in ps) (numbers_from (n + length (bound_in r)) (var_count ps))
        (sym (length_numbers n (length (bound_in r))))
        (h
        ∙ (ap (numbers_from n) (length-append (bound_in r) (flat_map bound_in ps))
        ∙ numbers_append n (length (bound_in r)) (var_count ps)))

    at : (q : ℕ) → slice_get (r ∷ ps) q ≡ Some p
        → ((q : ℕ) → slice_get ps q ≡ Some p → bound_in p ≡ numbers_from (n + length (bound_in r) + before ps q) (length (bound_in p)))
        → bound_in p ≡ numbers_from (n + before (r ∷ ps) q) (length (bound_in p))
    at zero e past =
        let same : r ≡ p = cc in
        let here : n ≡ n + 0 = omega arith in
        subst (λ m. bound_in p ≡ numbers_from m (length (bound_in p))) here
        (subst (λ (w : Written). bound_in w ≡ numbers_from n (length (bound_in w))) same halves.0)
    at (suc q) e past =
        let here : n + length (bound_in r) + before ps q ≡ n + (length (bound_in r) + before ps q) = omega arith in
        subst (λ m. bound_in p ≡ numbers_from m (length (bound_in p))) here (past q e)

pub own : (ps : List Written) → Numbered ps → (q : ℕ) (p : Written) → slice_get ps q ≡ Some p
    → bound_in p ≡ numbers_from (before ps q) (length (bound_in p))
own ps h q p e =
    let here : 0 + before ps q ≡ before ps q = omega arith in
    subst (λ m. bound_in p ≡ numbers_from m (length (bound_in p))) here (own_from 0 ps h q p e)

-- Each procedure but 0 is made by one before it.

pub record Parent (ps : List Written) (q : ℕ) : Type 0 where
  pub number : ℕ
  pub proc : Written
  pub there : slice_get ps number ≡ Some proc
  pub makes : has (closes_in proc.body) q ≡ true

parent_in : (ps : List Written) (q : ℕ) → has (all_made ps) q ≡ true → Parent ps q
parent_in [] q h = cc
parent_in (p ∷ ps) q h =
    here (has (closes_in p.body) q) refl (sym (has_append (closes_in p.body) (all_made ps) q) ∙ h) (λ k. parent_in ps q k)
  where
    past : Parent ps q → Parent (p ∷ ps) q
    past f = record { number = suc f.number; proc = f.proc; there = f.there; makes = f.makes }

    here : (t : Bool) → has (closes_in p.body) q ≡ t → has (closes_in p.body) q || has (all_made ps) q ≡ true
        → (has (all_made ps) q ≡ true → Parent ps q) → Parent (p ∷ ps) q
    here true e h rec = record { number = 0; proc = p; there = refl; makes = e }
    here false e h rec = past (rec (sym (ap (λ t. t || has (all_made ps) q) e) ∙ h))

made : (ps : List Written) (q : ℕ) → Made ps → 1 ≤ q → q < length ps → has (all_made ps) q ≡ true
made [] q m ge lt = absurd (omega arith)
made (p ∷ ps) q m ge lt =
    all_numbers (λ r. IsTrue (has (all_made (p ∷ ps)) r)) 1 (length ps) q m.each ge (omega arith)

all_has : (P : ℕ → Type 0) (xs : List ℕ) (x : ℕ) → AllByRecursion P xs → has xs x ≡ true → P x
all_has P [] x h e = cc
all_has P (y ∷ ys) x h e = here (nat_eq x y) refl e (λ k. all_has P ys x h.1 k)
  where
    here : (t : Bool) → nat_eq x y ≡ t → nat_eq x y || has ys x ≡ true → (has ys x ≡ true → P x) → P x
    here true k e past = subst P (sym (eqb-true x y k)) h.0
    here false k e past = past (sym (ap (λ t. t || has ys x) k) ∙ e)

or_true : (t : Bool) → t || true ≡ true
or_true true = refl
or_true false = refl

any_has : (f : ℕ → List ℕ) (qs : List ℕ) (q y : ℕ) → has qs q ≡ true → has (f q) y ≡ true → any_free f qs y ≡ true
any_has f [] q y h e = cc
any_has f (r ∷ qs) q y h e = here (nat_eq q r) refl h (λ k. any_has f qs q y k e)
  where
    here : (t : Bool) → nat_eq q r ≡ t → nat_eq q r || has qs q ≡ true → (has qs q ≡ true → any_free f qs y ≡ true)
        → has (f r) y || any_free f qs y ≡ true
    here true k h past =
        let same : has (f r) y ≡ true = ap (λ n. has (f n) y) (sym (eqb-true q r k)) ∙ e in
        ap (λ t. t || any_free f qs y) same
    here false k h past =
        let rest = past (sym (ap (λ t. t || has qs q) k) ∙ h) in
        ap (λ t. has (f r) y || t) rest ∙ or_true (has (f r) y)

-- what is free in a procedure, by what is free in those that it makes
free_by : (ps : List Written) → LaterOnes 0 ps → (q y : ℕ) (p : Written) → slice_get ps q ≡ Some p
    → has (free_in (length ps) ps q) y
    ≡ not (has (bound_in p) y) && (has (reads_in p.body) y || any_free (free_in (length ps) ps) (closes_in p.body) y)
free_by ps w q y p e =
    ap (λ xs. has xs y) (same_depth ps w (length ps) (suc (length ps)) q (omega arith) (omega arith))
    ∙ has_free (length ps) ps q y p e

-- a variable that is free in a procedure is bound in one before it
pub bound_before : (ps : List Written) → Numbered ps → Made ps → Scoped ps → (n q x : ℕ) → q < n
    → has (free_in (length ps) ps q) x ≡ true → x < before ps q
bound_before ps numbered made_once scoped zero q x lt h = absurd (omega arith)
bound_before ps numbered made_once scoped (suc n) zero x lt h =
    let e = ap (λ xs. has xs x) scoped.closed in
    cc
bound_before ps numbered made_once scoped (suc n) (suc q) x lt h =
    there (slice_get ps (suc q)) refl (λ j k e. bound_before ps numbered made_once scoped n j x k e)
  where
    at_parent : (f : Parent ps (suc q)) → f.number < suc q
        → ((j : ℕ) → j < n → has (free_in (length ps) ps j) x ≡ true → x < before ps j)
        → (t : Bool) → has (bound_in f.proc) x ≡ t → x < before ps (suc q)
    at_parent f late rec true e =
        let own_ones = own ps numbered f.number f.proc f.there in
        let less = has_less (before ps f.number) (length (bound_in f.proc)) x (sym (ap (λ xs. has xs x) own_ones) ∙ e) in
        let next = before_next ps f.number f.proc f.there in
        let more = before_later ps (suc f.number) (suc q) (omega arith) in
        omega (arith, less, next, more)
    at_parent f late rec false e =
        let whole = free_by ps made_once.later f.number x f.proc f.there in
        let any = any_has (free_in (length ps) ps) (closes_in f.proc.body) (suc q) x f.makes h in
        let free = whole
        ∙ (ap (λ t. not t && (has (reads_in f.proc.body) x || any_free (free_in (length ps) ps) (closes_in f.proc.body) x)) e
        ∙ (ap (λ t. has (reads_in f.proc.body) x || t) any ∙ or_true (has (reads_in f.proc.body) x))) in
        let less = rec f.number (omega arith) free in
        let more = before_later ps f.number (suc q) (omega arith) in
        omega (arith, less, more)

    there : (o : Option Written) → slice_get ps (suc q) ≡ o
        → ((j : ℕ) → j < n → has (free_in (length ps) ps j) x ≡ true → x < before ps j) → x < before ps (suc q)
    there None e rec = let none = ap (λ xs. has xs x) (none_free (length ps) ps (suc q) e) in cc
    there (Some p) e rec =
        let f = parent_in ps (suc q) (made ps (suc q) made_once (omega arith) (slice_get_within ps (suc q) p e)) in
        let late = all_has (λ r. f.number < r) (closes_in f.proc.body) (suc q) (makes_later ps f.number f.proc made_once.later f.there) f.makes in
        at_parent f late rec (has (bound_in f.proc) x) refl

-- What a procedure needs, of what is bound before it, is what is free in it.

any_same : (f g : ℕ → List ℕ) (qs : List ℕ) (y : ℕ) → AllByRecursion (λ q. has (f q) y ≡ has (g q) y) qs
    → any_free f qs y ≡ any_free g qs y
any_same f g [] y h = refl
any_same f g (q ∷ qs) y h =
    let here = h.0 in
    let past = any_same f g qs y h.1 in
    cc

-- the lists of the procedures from q on are those of the plain plan
pub record Listed (ps : List Written) (q : ℕ) (lists : List (List ℕ)) : Type 0 where
  pub long : length lists ≡ length ps
  pub each : (r : ℕ) → q ≤ r → r < length ps → slice_get lists r ≡ Some (free_vars ps r)

has_among : (n : ℕ) (xs : List ℕ) (y : ℕ) → y < n → has (among n xs) y ≡ has xs y
has_among n xs y lt =
    has_filter (has xs) (numbers_from 0 n) y
    ∙ (ap (λ t. has xs y && t) (has_within 0 n y (omega arith) (omega arith)) ∙ and_true (has xs y))
  where
    and_true : (t : Bool) → t && true ≡ t
    and_true true = refl
    and_true false = refl

past_of : (ps : List Written) (r : ℕ) → slice_get ps r ≡ None → length ps ≤ r
past_of [] r e = omega arith
past_of (p ∷ ps) zero e = cc
past_of (p ∷ ps) (suc r) e = let past = past_of ps r e in omega (arith, past)

has_listed : (ps : List Written) (q : ℕ) (lists : List (List ℕ)) → Listed ps q lists → (r y : ℕ) → q ≤ r
    → y < var_count ps → has (listed lists r) y ≡ has (free_in (length ps) ps r) y
has_listed ps q lists l r y ge lt = there (slice_get ps r) refl
  where
    there : (o : Option Written) → slice_get ps r ≡ o → has (listed lists r) y ≡ has (free_in (length ps) ps r) y
    there (Some p) e =
        let within = slice_get_within ps r p e in
        ap (λ o. has (item_or [] o) y) (l.each r ge within) ∙ has_among (var_count ps) (free_in (length ps) ps r) y lt
    there None e =
        let past : length ps ≤ r = past_of ps r e in
        let none = slice_get_past lists r (omega (arith, l.long)) in
        ap (λ o. has (item_or [] o) y) none ∙ sym (ap (λ xs. has xs y) (none_free (length ps) ps r e))

all_free_alike : (ps : List Written) (q : ℕ) (lists : List (List ℕ)) → Listed ps (suc q) lists → (y : ℕ) → y < var_count ps
    → (rs : List ℕ) → AllByRecursion (λ r. q < r) rs
    → AllByRecursion (λ r. has (listed lists r) y ≡ has (free_in (length ps) ps r) y) rs
all_free_alike ps q lists l y lt [] h = tt
all_free_alike ps q lists l y lt (r ∷ rs) h =
    (has_listed ps (suc q) lists l r y (omega (arith, h.0)) lt, all_free_alike ps q lists l y lt rs h.1)

pub kept_exactly : (ps : List Written) → Numbered ps → Made ps → Scoped ps → (q : ℕ) (p : Written) → slice_get ps q ≡ Some p
    → (lists : List (List ℕ)) → Listed ps (suc q) lists
    → among (before ps q) (needs_in (listed lists) p.body) ≡ free_vars ps q
kept_exactly ps numbered made_once scoped q p e lists l =
    filter_same (has (needs_in (listed lists) p.body)) (has (free_in (length ps) ps q)) 0 (before ps q) alike
    ∙ (sym (filter_below (has (free_in (length ps) ps q)) (before ps q) (var_count ps - before ps q) nothing)
    ∙ ap (λ n. filter (has (free_in (length ps) ps q)) (numbers_from 0 n)) whole)
  where
    most : before ps q ≤ var_count ps
    most = before_all ps q

    whole : before ps q + (var_count ps - before ps q) ≡ var_count ps
    whole = omega (arith, most)

    nothing : (y : ℕ) → before ps q ≤ y → has (free_in (length ps) ps q) y ≡ false
    nothing y ge = by_case (has (free_in (length ps) ps q) y) refl
      where
        by_case : (t : Bool) → has (free_in (length ps) ps q) y ≡ t → t ≡ false
        by_case false k = refl
        by_case true k =
            let less = bound_before ps numbered made_once scoped (suc q) q y (omega arith) k in
            absurd (omega (arith, less))

    alike : (y : ℕ) → 0 ≤ y → y < 0 + before ps q
        → has (needs_in (listed lists) p.body) y ≡ has (free_in (length ps) ps q) y
    alike y ge lt =
        let early : has (bound_in p) y ≡ false =
        ap (λ xs. has xs y) (own ps numbered q p e) ∙ has_early (before ps q) (length (bound_in p)) y (omega arith) in
        let late = makes_later ps q p made_once.later e in
        let same = any_same (listed lists) (free_in (length ps) ps) (closes_in p.body) y
        (all_free_alike ps q lists l y (omega (arith, most)) (closes_in p.body) late) in
        has_needs (listed lists) p.body y
        ∙ (ap (λ t. has (reads_in p.body) y || t) same
        ∙ sym
        (free_by ps made_once.later q y p e
        ∙ ap (λ t. not t && (has (reads_in p.body) y || any_free (free_in (length ps) ps) (closes_in p.body) y)) early))
