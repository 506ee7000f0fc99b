-- What is known of a variable's value, by the atoms of its row.
use Rattle.std.proofs.Common.{◌≡◌, ◌≢◌, ℕ, zero, suc, ◌*◌, ◌≤◌, ◌⊎◌, inl, inr, Bool, true, false, List, [], ◌∷◌, length, Option, Some, None, refl, sym, ap, ◌∙◌, subst, arith, eqb-true, eq-eqb}
use Rattle.std.specs.Prelude.{nat_eq, nat_le, if◌then◌else◌}
use Rattle.std.specs.List.{filter}
use Rattle.std.proofs.lemmas.Bool.{leb-true}
use Rattle.scheme_base.specs.declared.place.Stated.{Stated}
use Rattle.scheme_base.specs.declared.place.Stated.TheVariants as stated
use Rattle.flow_constraints.specs.Rows.{row, Var}
use Rattle.least_set.specs.Least.{Set, has}
use Rattle.least_set.proofs.Has.{and_cases, or_cases, or_left, or_right}
use Rattle.named_form.specs.Valid.{numbers_from}
use Rattle.plan_facts.specs.Pairs.{holds, members_of}
use Rattle.plan_facts.specs.Places.{Facts}
use Rattle.plan_facts.specs.Slotted.{HasSlots, IsNothing, IsOnly, Item, MayClose, States, closing, is_single, may_be}
use Rattle.slot_facts.specs.Values.{stated_by, stated_of, value_by}
use Rattle.slot_facts.proofs.RowMembers.{in_members, of_members}

abbrev pub value_in : Facts → (var : ℕ) → Option Stated
value_in k x = stated_of (length k.procs) k.flow k.rows x

abbrev pub atoms_in : Facts → (var : ℕ) → List ℕ
atoms_in k x = members_of k.rows (row k.flow (Var x))

abbrev by_atoms : Facts → List ℕ → Option Stated
by_atoms k atoms = stated_by (length k.procs) k.flow.kinds atoms

-- the value of an atom that stands for one alone, where these say which it is
abbrev pub singled : (b c d e g : Bool) → Option Stated
singled b c d e g =
    if b then Some stated.False
    else (if c then Some stated.True
    else (if d then Some stated.Nil
    else (if e then Some stated.Unspecified
    else (if g then Some stated.Eof
    else None))))

first_of_one : (a b : ℕ) → has (b ∷ []) a ≡ true → a ≡ b
first_of_one a b h = elim (or_cases (nat_eq a b) false h) [
  | inl e ↦ eqb-true a b e
  | inr e ↦ absurd (cc)
]

-- a variable with two atoms has no one value
pub two_have_none : (k : Facts) (x a b : ℕ) → may_be k x a ≡ true → may_be k x b ≡ true → a ≢ b → value_in k x ≡ None
two_have_none k x a b h i apart =
    by_list (atoms_in k x) (in_members k.rows (row k.flow (Var x)) a h) (in_members k.rows (row k.flow (Var x)) b i)
  where
    by_list : (atoms : List ℕ) → has atoms a ≡ true → has atoms b ≡ true → by_atoms k atoms ≡ None
    by_list [] h i = absurd (cc)
    by_list (c ∷ []) h i = absurd (apart (first_of_one a c h ∙ sym (first_of_one b c i)))
    by_list (c ∷ d ∷ atoms) h i = refl

not_single : (a : ℕ) → is_single a ≡ false → value_by None a ≡ None
not_single a h =
    let low = between a h in
    other (nat_eq a 3) (nat_eq a 4) (nat_eq a 5) (nat_eq a 6) (nat_eq a 7) (low 3 refl) (low 4 refl) (low 5 refl) (low 6 refl) (low 7 refl)
  where
    between : (a : ℕ) → is_single a ≡ false → (n : ℕ) → is_single n ≡ true → nat_eq a n ≡ false
    between a h n s = by_test (nat_eq a n) refl
      where
        by_test : (b : Bool) → nat_eq a n ≡ b → b ≡ false
        by_test true e = absurd (let same = eqb-true a n e in let clash = sym h ∙ (ap is_single same ∙ s) in cc)
        by_test false e = refl

    other : (b c d e g : Bool) → b ≡ false → c ≡ false → d ≡ false → e ≡ false → g ≡ false
        → singled b c d e g ≡ None
    other true c d e g h1 h2 h3 h4 h5 = absurd (cc)
    other false true d e g h1 h2 h3 h4 h5 = absurd (cc)
    other false false true e g h1 h2 h3 h4 h5 = absurd (cc)
    other false false false true g h1 h2 h3 h4 h5 = absurd (cc)
    other false false false false true h1 h2 h3 h4 h5 = absurd (cc)
    other false false false false false h1 h2 h3 h4 h5 = refl

-- nor has one that may be one of several things
pub many_have_none : (k : Facts) (x a : ℕ) → may_be k x a ≡ true → closing k a ≡ None → is_single a ≡ false → value_in k x ≡ None
many_have_none k x a h open_kind single =
    by_list (atoms_in k x) (in_members k.rows (row k.flow (Var x)) a h)
  where
    by_list : (atoms : List ℕ) → has atoms a ≡ true → by_atoms k atoms ≡ None
    by_list [] h = absurd (cc)
    by_list (c ∷ []) h =
        subst (λ z. value_by (closing k z) z ≡ None) (first_of_one a c h) (ap (λ o. value_by o a) open_kind ∙ not_single a single)
    by_list (c ∷ d ∷ atoms) h = refl

-- a variable that may be a closure of a procedure has no one value, or that closure
pub closure_or_none : (k : Facts) (x q : ℕ) → MayClose k x q → (value_in k x ≡ None) ⊎ (value_in k x ≡ Some (stated.Closure q))
closure_or_none k x q may =
    by_list (atoms_in k x) (in_members k.rows (row k.flow (Var x)) may.atom may.there)
  where
    by_list : (atoms : List ℕ) → has atoms may.atom ≡ true → (by_atoms k atoms ≡ None) ⊎ (by_atoms k atoms ≡ Some (stated.Closure q))
    by_list [] h = absurd (cc)
    by_list (c ∷ []) h =
        inr (subst (λ z. value_by (closing k z) z ≡ Some (stated.Closure q)) (first_of_one may.atom c h) (ap (λ o. value_by o may.atom) may.kind))
    by_list (c ∷ d ∷ atoms) h = inl refl

-- The converse: what it means that a variable has a value, or none.

-- why a variable has no one value
pub data HasMany (k : Facts) (x : ℕ) : Type 0 where
  Two : (a b : ℕ) → may_be k x a ≡ true → may_be k x b ≡ true → a ≢ b → HasMany k x
  Several : (a : ℕ) → may_be k x a ≡ true → closing k a ≡ None → is_single a ≡ false → HasMany k x

-- what is found first among numbers, and after it
record FoundFirst (P : ℕ → Bool) (lo c : ℕ) (atoms : List ℕ) : Type 0 where
  many : ℕ
  above : lo ≤ c
  rest : atoms ≡ filter P (numbers_from (suc c) many)

found_first : (P : ℕ → Bool) (n lo c : ℕ) (atoms : List ℕ) → filter P (numbers_from lo n) ≡ c ∷ atoms → FoundFirst P lo c atoms
found_first P zero lo c atoms h = absurd (cc)
found_first P (suc n) lo c atoms h = by_test (P lo) h (found_first P n (suc lo) c atoms)
  where
    by_test : (b : Bool) → (if b then lo ∷ filter P (numbers_from (suc lo) n) else filter P (numbers_from (suc lo) n)) ≡ c ∷ atoms
        → (filter P (numbers_from (suc lo) n) ≡ c ∷ atoms → FoundFirst P (suc lo) c atoms) → FoundFirst P lo c atoms
    by_test true e rec =
        let same : lo ≡ c = cc in
        let past : filter P (numbers_from (suc lo) n) ≡ atoms = cc in
        record { many = n; above = omega (arith, same); rest = sym past ∙ ap (λ m. filter P (numbers_from (suc m) n)) same }
    by_test false e rec =
        let later = rec e in
        let low = later.above in
        record { many = later.many; above = omega (arith, low); rest = later.rest }

apart_members : (k : Facts) (x c d : ℕ) (atoms : List ℕ) → atoms_in k x ≡ c ∷ d ∷ atoms → c ≢ d
apart_members k x c d atoms h =
    let first = found_first (holds k.rows (row k.flow (Var x))) (k.rows.stride * 64) 0 c (d ∷ atoms) h in
    let second = found_first (holds k.rows (row k.flow (Var x))) first.many (suc c) d atoms (sym first.rest) in
    let low = second.above in
    λ same. omega (arith, same, low)

there_of : (k : Facts) (x : ℕ) (atoms : List ℕ) (a : ℕ) → atoms_in k x ≡ atoms → has atoms a ≡ true → may_be k x a ≡ true
there_of k x atoms a e h = of_members k.rows (row k.flow (Var x)) a (ap (λ ys. has ys a) e ∙ h)

has_first : (a : ℕ) (atoms : List ℕ) → has (a ∷ atoms) a ≡ true
has_first a atoms = or_left (nat_eq a a) (has atoms a) (eq-eqb a a refl)

none_of_single : (a : ℕ) → value_by None a ≡ None → is_single a ≡ false
none_of_single a h = by_test (is_single a) refl
  where
    by_test : (b : Bool) → is_single a ≡ b → b ≡ false
    by_test false e = refl
    by_test true e = absurd (named a e (leb-true a 7 (and_cases (nat_le 3 a) (nat_le a 7) e).1) h)
      where
        named : (a : ℕ) → is_single a ≡ true → a ≤ 7 → value_by None a ≡ None → ⊥
        named zero e low h = cc
        named (suc zero) e low h = cc
        named (suc (suc zero)) e low h = cc
        named (suc (suc (suc zero))) e low h = cc
        named (suc (suc (suc (suc zero)))) e low h = cc
        named (suc (suc (suc (suc (suc zero))))) e low h = cc
        named (suc (suc (suc (suc (suc (suc zero)))))) e low h = cc
        named (suc (suc (suc (suc (suc (suc (suc zero))))))) e low h = cc
        named (suc (suc (suc (suc (suc (suc (suc (suc a)))))))) e low h = omega (arith, low)

pub has_many : (k : Facts) (x : ℕ) → value_in k x ≡ None → HasMany k x
has_many k x h = by_list (atoms_in k x) refl h
  where
    by_kind : (a : ℕ) → atoms_in k x ≡ a ∷ [] → (o : Option ℕ) → closing k a ≡ o → value_by o a ≡ None → HasMany k x
    by_kind a e None is h = Several a (there_of k x (a ∷ []) a e (has_first a [])) is (none_of_single a h)
    by_kind a e (Some q) is h = absurd (cc)

    by_list : (atoms : List ℕ) → atoms_in k x ≡ atoms → by_atoms k atoms ≡ None → HasMany k x
    by_list [] e h = absurd (cc)
    by_list (a ∷ []) e h = by_kind a e (closing k a) refl h
    by_list (a ∷ b ∷ atoms) e h =
        Two a b (there_of k x (a ∷ b ∷ atoms) a e (has_first a (b ∷ atoms)))
        (there_of k x (a ∷ b ∷ atoms) b e (or_right (nat_eq b a) (has (b ∷ atoms) b) (has_first b atoms)))
        (apart_members k x a b atoms e)

only_one : (k : Facts) (x a : ℕ) → atoms_in k x ≡ a ∷ [] → IsOnly k x a
only_one k x a e =
    record {
      there = there_of k x (a ∷ []) a e (has_first a []);
      only = λ b h. first_of_one b a (sym (ap (λ ys. has ys b) e) ∙ in_members k.rows (row k.flow (Var x)) b h);
    }

has_nothing : (k : Facts) (x : ℕ) → atoms_in k x ≡ [] → IsNothing k x
has_nothing k x e a = by_test (may_be k x a) refl
  where
    by_test : (b : Bool) → may_be k x a ≡ b → b ≡ false
    by_test false h = refl
    by_test true h = absurd (let there = sym (ap (λ ys. has ys a) e) ∙ in_members k.rows (row k.flow (Var x)) a h in cc)

-- the value of a variable without a place is the one that it can have
pub states_value : (k : Facts) (items : Set Item) (x : ℕ) (v : Stated) → value_in k x ≡ Some v
    → ((q : ℕ) → MayClose k x q → items (HasSlots q) ≡ false) → States k items x v
states_value k items x v h no_slots = by_list (atoms_in k x) refl h
  where
    by_value : (a : ℕ) → IsOnly k x a → (c : ℕ) (w : Stated) → a ≡ c → Some w ≡ Some v → ((IsOnly k x c) → States k items x w) → States k items x v
    by_value a one c w same e give = subst (λ (u : Stated). States k items x u) (let s : w ≡ v = cc in s) (give (subst (IsOnly k x) same one))

    by_chain : (a : ℕ) → IsOnly k x a → (b c d e g : Bool) → nat_eq a 3 ≡ b → nat_eq a 4 ≡ c → nat_eq a 5 ≡ d → nat_eq a 6 ≡ e → nat_eq a 7 ≡ g
        → singled b c d e g ≡ Some v → States k items x v
    by_chain a one true c d e g h3 h4 h5 h6 h7 h = by_value a one 3 stated.False (eqb-true a 3 h3) h (λ o. o)
    by_chain a one false true d e g h3 h4 h5 h6 h7 h = by_value a one 4 stated.True (eqb-true a 4 h4) h (λ o. o)
    by_chain a one false false true e g h3 h4 h5 h6 h7 h = by_value a one 5 stated.Nil (eqb-true a 5 h5) h (λ o. o)
    by_chain a one false false false true g h3 h4 h5 h6 h7 h = by_value a one 6 stated.Unspecified (eqb-true a 6 h6) h (λ o. inl o)
    by_chain a one false false false false true h3 h4 h5 h6 h7 h = by_value a one 7 stated.Eof (eqb-true a 7 h7) h (λ o. o)
    by_chain a one false false false false false h3 h4 h5 h6 h7 h = absurd (cc)

    by_kind : (a : ℕ) → IsOnly k x a → (o : Option ℕ) → closing k a ≡ o → value_by o a ≡ Some v → States k items x v
    by_kind a one None is h = by_chain a one (nat_eq a 3) (nat_eq a 4) (nat_eq a 5) (nat_eq a 6) (nat_eq a 7) refl refl refl refl refl h
    by_kind a one (Some q) is h =
        by_value a one a (stated.Closure q) refl h
        (λ o. (a, o, is, no_slots q (record { atom = a; there = o.there; kind = is })))

    by_list : (atoms : List ℕ) → atoms_in k x ≡ atoms → by_atoms k atoms ≡ Some v → States k items x v
    by_list [] e h = subst (λ (u : Stated). States k items x u) (let s : stated.Unspecified ≡ v = cc in s) (inr (has_nothing k x e))
    by_list (a ∷ []) e h = by_kind a (only_one k x a e) (closing k a) refl h
    by_list (a ∷ b ∷ atoms) e h = absurd (cc)

pub may_close : (k : Facts) (x q : ℕ) → value_in k x ≡ Some (stated.Closure q) → MayClose k x q
may_close k x q h = by_list (atoms_in k x) refl h
  where
    by_chain : (b c d e g : Bool)
        → singled b c d e g ≡ Some (stated.Closure q) → ⊥
    by_chain true c d e g h = cc
    by_chain false true d e g h = cc
    by_chain false false true e g h = cc
    by_chain false false false true g h = cc
    by_chain false false false false true h = cc
    by_chain false false false false false h = cc

    by_kind : (a : ℕ) → atoms_in k x ≡ a ∷ [] → (o : Option ℕ) → closing k a ≡ o → value_by o a ≡ Some (stated.Closure q) → MayClose k x q
    by_kind a e None is h = absurd (by_chain (nat_eq a 3) (nat_eq a 4) (nat_eq a 5) (nat_eq a 6) (nat_eq a 7) h)
    by_kind a e (Some r) is h =
        let same : r ≡ q = cc in
        record { atom = a; there = (only_one k x a e).there; kind = is ∙ ap (λ p. Some p) same }

    by_list : (atoms : List ℕ) → atoms_in k x ≡ atoms → by_atoms k atoms ≡ Some (stated.Closure q) → MayClose k x q
    by_list [] e h = absurd (cc)
    by_list (a ∷ []) e h = by_kind a e (closing k a) refl h
    by_list (a ∷ b ∷ atoms) e h = absurd (cc)
