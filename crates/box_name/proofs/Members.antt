-- What lists of numbers have, and lists that have the same of some numbers.
use Rattle.std.proofs.Common.{◌≡◌, ℕ, Bool, true, false, List, [], ◌∷◌, ◌++◌, inl, inr, ◌⊎◌, refl, sym, ap, ◌∙◌, subst, eqb-true, eq-eqb}
use Rattle.std.proofs.lemmas.Bool.{or_cases, or_left, or_right}
use Rattle.std.proofs.lemmas.List.Folds.{list_any-append}
use Rattle.std.specs.Prelude.{nat_eq, ◌||◌}
use Rattle.std.specs.List.{AllByRecursion, IsDistinct, list_any}
use Rattle.named_form.specs.Code.{has}
use Rattle.named_form.proofs.Variables.{has_append}

pub never : {A : Type 0} → false ≡ true → A
never h = absurd (cc)

pub has_front : (xs ys : List ℕ) (v : ℕ) → has xs v ≡ true → has (xs ++ ys) v ≡ true
has_front xs ys v h = has_append xs ys v ∙ or_left (has xs v) (has ys v) h

pub has_back : (xs ys : List ℕ) (v : ℕ) → has ys v ≡ true → has (xs ++ ys) v ≡ true
has_back xs ys v h = has_append xs ys v ∙ or_right (has xs v) (has ys v) h

pub has_one : (xs ys : List ℕ) (v : ℕ) → has (xs ++ ys) v ≡ true → (has xs v ≡ true) ⊎ (has ys v ≡ true)
has_one xs ys v h = or_cases (has xs v) (has ys v) (sym (has_append xs ys v) ∙ h)

pub has_neither : (xs ys : List ℕ) (v : ℕ) → has xs v ≡ false → has ys v ≡ false → has (xs ++ ys) v ≡ false
has_neither xs ys v h k = has_append xs ys v ∙ (ap (λ b. b || has ys v) h ∙ k)

pub none_left : (a b : Bool) → a || b ≡ false → a ≡ false
none_left true b h = never (sym h)
none_left false b h = refl

pub none_right : (a b : Bool) → a || b ≡ false → b ≡ false
none_right true b h = never (sym h)
none_right false b h = h

pub none_front : {X : Type 0} (p : X → Bool) (xs ys : List X) → list_any p (xs ++ ys) ≡ false → list_any p xs ≡ false
none_front p xs ys h = none_left (list_any p xs) (list_any p ys) (sym (list_any-append p xs ys) ∙ h)

pub none_back : {X : Type 0} (p : X → Bool) (xs ys : List X) → list_any p (xs ++ ys) ≡ false → list_any p ys ≡ false
none_back p xs ys h = none_right (list_any p xs) (list_any p ys) (sym (list_any-append p xs ys) ∙ h)

-- Lists beside one another

abbrev pub Within : List ℕ → List ℕ → Type 0
Within xs ys = (v : ℕ) → has xs v ≡ true → has ys v ≡ true

abbrev pub Apart : List ℕ → List ℕ → Type 0
Apart xs ys = (v : ℕ) → has xs v ≡ true → has ys v ≡ false

pub within_both : (xs ys cs ds : List ℕ) → Within xs cs → Within ys ds → Within (xs ++ ys) (cs ++ ds)
within_both xs ys cs ds h k v e = here (has_one xs ys v e)
  where
    here : (has xs v ≡ true) ⊎ (has ys v ≡ true) → has (cs ++ ds) v ≡ true
    here (inl e) = has_front cs ds v (h v e)
    here (inr e) = has_back cs ds v (k v e)

pub apart_flip : (xs ys : List ℕ) → Apart xs ys → Apart ys xs
apart_flip xs ys h v e = here (has xs v) refl
  where
    here : (b : Bool) → has xs v ≡ b → has xs v ≡ false
    here true k = never (sym (h v k) ∙ e)
    here false k = k

-- what is apart from a list is apart from one in it
pub apart_within : (xs ys zs : List ℕ) → Apart xs ys → Within zs ys → Apart xs zs
apart_within xs ys zs h k v e = here (has zs v) refl
  where
    here : (b : Bool) → has zs v ≡ b → has zs v ≡ false
    here true j = never (sym (h v e) ∙ k v j)
    here false j = j

pub each : (P : ℕ → Type 0) (xs : List ℕ) → ((v : ℕ) → has xs v ≡ true → P v) → AllByRecursion P xs
each P [] h = tt
each P (x ∷ xs) h = (
  h x (or_left (nat_eq x x) (has xs x) (eq-eqb x x refl)),
  each P xs (λ v e. h v (or_right (nat_eq v x) (has xs v) e)),
)

pub of_each : (P : ℕ → Type 0) (xs : List ℕ) → AllByRecursion P xs → (v : ℕ) → has xs v ≡ true → P v
of_each P [] h v e = never e
of_each P (x ∷ xs) h v e = here (λ k. of_each P xs h.1 v k) (or_cases (nat_eq v x) (has xs v) e)
  where
    here : (has xs v ≡ true → P v) → (nat_eq v x ≡ true) ⊎ (has xs v ≡ true) → P v
    here others (inl k) = subst P (sym (eqb-true v x k)) h.0
    here others (inr k) = others k

pub front_each : {X : Type 0} (P : X → Type 0) (xs ys : List X) → AllByRecursion P (xs ++ ys) → AllByRecursion P xs
front_each P [] ys h = tt
front_each P (x ∷ xs) ys h = (h.0, front_each P xs ys h.1)

pub back_each : {X : Type 0} (P : X → Type 0) (xs ys : List X) → AllByRecursion P (xs ++ ys) → AllByRecursion P ys
back_each P [] ys h = h
back_each P (x ∷ xs) ys h = back_each P xs ys h.1

-- Lists without a number twice

pub record Parts (xs ys : List ℕ) : Type 0 where
  pub front : IsDistinct nat_eq xs
  pub back : IsDistinct nat_eq ys
  pub apart : Apart xs ys

missing : (x : ℕ) (ys : List ℕ) → AllByRecursion (λ y. nat_eq x y ≡ false) ys → has ys x ≡ false
missing x [] h = refl
missing x (y ∷ ys) h = ap (λ b. b || has ys x) h.0 ∙ missing x ys h.1

pub each_apart : (x : ℕ) (ys : List ℕ) → has ys x ≡ false → AllByRecursion (λ y. nat_eq x y ≡ false) ys
each_apart x [] h = tt
each_apart x (y ∷ ys) h = here (nat_eq x y) refl h (λ k. each_apart x ys k)
  where
    here : (b : Bool) → nat_eq x y ≡ b → b || has ys x ≡ false
        → (has ys x ≡ false → AllByRecursion (λ y. nat_eq x y ≡ false) ys)
        → AllByRecursion (λ y. nat_eq x y ≡ false) (y ∷ ys)
    here true e h others = never (sym h)
    here false e h others = (e, others h)

pub parts : (xs ys : List ℕ) → IsDistinct nat_eq (xs ++ ys) → Parts xs ys
unfolding IsDistinct
parts [] ys h = record { front = tt; back = h; apart = λ v e. never e }
parts (x ∷ xs) ys h =
    let others = parts xs ys h.1 in
    record {
      front = (front_each (λ y. nat_eq x y ≡ false) xs ys h.0, others.front);
      back = others.back;
      apart =
          λ v e. here v others.apart (missing x ys (back_each (λ y. nat_eq x y ≡ false) xs ys h.0))
          (or_cases (nat_eq v x) (has xs v) e);
    }
  where
    here : (v : ℕ) → Apart xs ys → has ys x ≡ false → (nat_eq v x ≡ true) ⊎ (has xs v ≡ true) → has ys v ≡ false
    here v apart none (inl e) = ap (has ys) (eqb-true v x e) ∙ none
    here v apart none (inr e) = apart v e

-- Of the numbers in `xs`, two lists have the same

abbrev pub Agrees : (all xs ys : List ℕ) → Type 0
Agrees all xs ys = (v : ℕ) → has xs v ≡ true → has all v ≡ has ys v

pub agrees_front : (all xs bs ys zs : List ℕ) → Agrees all (xs ++ bs) (ys ++ zs) → Apart xs zs → Agrees all xs ys
agrees_front all xs bs ys zs h apart v e =
    h v (has_front xs bs v e) ∙ (has_append ys zs v ∙ (ap (λ b. has ys v || b) (apart v e) ∙ or_none (has ys v)))
  where
    or_none : (b : Bool) → b || false ≡ b
    or_none true = refl
    or_none false = refl

pub agrees_back : (all cs xs ys zs : List ℕ) → Agrees all (cs ++ xs) (ys ++ zs) → Apart xs ys → Agrees all xs zs
agrees_back all cs xs ys zs h apart v e =
    h v (has_back cs xs v e) ∙ (has_append ys zs v ∙ ap (λ b. b || has zs v) (apart v e))
