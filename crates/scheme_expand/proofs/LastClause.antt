-- The last of some clauses, and those before it.
use Rattle.std.proofs.Common.{◌≡◌, Option, None, Bool, true, false, refl, sym, ap, ◌∙◌}
use Rattle.std.specs.Prelude.{◌&&◌}
use Rattle.datum_form.specs.Data.{Datum, Items}
use Rattle.datum_form.specs.Data.Items.{none, item}
use Rattle.quasi_expand.specs.Shapes.{all_items, are_clauses}
use Rattle.scheme_expand.specs.Faults.{Fault}
use Rattle.scheme_expand.specs.Waiting.{earlier, may_be_clauses}
use Rattle.scheme_expand.proofs.Least.{earlier_assoc}
use Rattle.scheme_expand.proofs.Parts.{joined}

pub and_split : (a b : Bool) → (a && b) ≡ true → (a ≡ true) × (b ≡ true)
and_split true b h = (refl, h)
and_split false b h = absurd (cc)

pub both_true : (a b : Bool) → a ≡ true → b ≡ true → (a && b) ≡ true
both_true true b p q = q
both_true false b p q = absurd (cc)

and_assoc : (a b c : Bool) → (a && (b && c)) ≡ ((a && b) && c)
and_assoc true b c = refl
and_assoc false b c = refl

-- Shapes

pub inner_and_last : (shape : Bool → Datum → Bool) (os : Items) (d : Datum)
    → are_clauses shape (joined os (item d none)) ≡ (all_items (shape false) os && shape true d)
inner_and_last shape none d = refl
inner_and_last shape (item c none) d = and_assoc (shape false c) true (shape true d)
inner_and_last shape (item c (item b os)) d =
    ap (λ x. shape false c && x) (inner_and_last shape (item b os) d)
    ∙ and_assoc (shape false c) (all_items (shape false) (item b os)) (shape true d)

pub they_are : (shape : Bool → Datum → Bool) (os : Items) (d : Datum) → may_be_clauses shape (joined os (item d none)) ≡ true
    → are_clauses shape (joined os (item d none)) ≡ true
they_are shape none d h = h
they_are shape (item c os) d h = h

pub last_is : (shape : Bool → Datum → Bool) (os : Items) (d : Datum) → are_clauses shape (joined os (item d none)) ≡ true
    → shape true d ≡ true
last_is shape os d h = (and_split (all_items (shape false) os) (shape true d) (sym (inner_and_last shape os d) ∙ h)).1

-- those before the last are clauses of a form, or there are none
pub others_are : (shape : Bool → Datum → Bool) → ((d : Datum) → shape false d ≡ true → shape true d ≡ true)
    → (os : Items) (d : Datum) → are_clauses shape (joined os (item d none)) ≡ true → may_be_clauses shape os ≡ true
others_are shape weaker none d h = refl
others_are shape weaker (item c none) d h = weaker c (and_split (shape false c) (shape true d) h).0
others_are shape weaker (item c (item b os)) d h =
    let t = and_split (shape false c) (are_clauses shape (joined (item b os) (item d none))) h in
    both_true (shape false c) (are_clauses shape (item b os)) t.0 (others_are shape weaker (item b os) d t.1)

-- Faults

-- what is due of clauses is due of the last and of those before it
pub last_apart : (shape : Bool → Datum → Bool) (f : Items → Option Fault) → f none ≡ None
    → ((d : Datum) (ds : Items) → shape false d ≡ true → f (item d ds) ≡ earlier (f (item d none)) (f ds))
    → (os : Items) (d : Datum) → are_clauses shape (joined os (item d none)) ≡ true
    → f (joined os (item d none)) ≡ earlier (f os) (f (item d none))
last_apart shape f empty more none d h = ap (λ x. earlier x (f (item d none))) (sym empty)
last_apart shape f empty more (item c none) d h = more c (item d none) (and_split (shape false c) (shape true d) h).0
last_apart shape f empty more (item c (item b os)) d h =
    let t = and_split (shape false c) (are_clauses shape (joined (item b os) (item d none))) h in
    more c (joined (item b os) (item d none)) t.0
    ∙ (ap (earlier (f (item c none))) (last_apart shape f empty more (item b os) d t.1)
    ∙ (sym (earlier_assoc (f (item c none)) (f (item b os)) (f (item d none)))
    ∙ ap (λ x. earlier x (f (item d none))) (sym (more c (item b os) t.0))))
