-- One site more is marked.
use Rattle.std.proofs.Common.{◌≡◌, ℕ, ◌+◌, ◌<◌, inl, inr, Bool, true, false, List, [], ◌∷◌, ◌++◌, length, get_or, replicate, set, take, refl, sym, ap, ◌∙◌, subst, arith, eq-eqb, ne_eqb, get_or-set_other, get_or-set_same}
use Rattle.std.specs.Prelude.{nat_eq, ◌||◌, if◌then◌else◌}
use Rattle.std.proofs.lemmas.Bool.{cases_eq}
use Rattle.std.proofs.lemmas.List.{get_or-replicate, length-replicate, length-set}
use Rattle.std.proofs.lemmas.List.Folds.{list_any_more}
use Rattle.named_form.specs.Code.{has}
use Rattle.scheme_base.specs.declared.place.Mark.{Mark}
use Rattle.scheme_base.specs.declared.place.Mark.TheVariants.{Local, Global}
use Rattle.region_infer.specs.Regions.{AreMarks}

pub none_marked : (sites : ℕ) → AreMarks [] (replicate sites Local)
none_marked sites =
    record { each = λ s below. get_or-replicate sites s Local Global (subst (λ n. s < n) (length-replicate sites Local) below) }

or_true : (a : Bool) → (a || true) ≡ true
or_true true = refl
or_true false = refl

or_false : (a : Bool) → (a || false) ≡ a
or_false true = refl
or_false false = refl

pub one_marked : (escaping : List ℕ) (i : ℕ) (marks : List Mark) → i < length escaping → AreMarks (take i escaping) marks
    → AreMarks (take (i + 1) escaping) (set marks (get_or escaping i 0) Global)
one_marked escaping i marks within h =
    let site = get_or escaping i 0 in
    let more : (s : ℕ) → has (take (i + 1) escaping) s ≡ (has (take i escaping) s || nat_eq s site) =
    λ s. list_any_more (nat_eq s) escaping i 0 within in
    record {
      each = λ s below.
          let there : s < length marks = subst (λ n. s < n) (length-set marks site Global) below in
          elim (cases_eq s site) [
            | inl e ↦
                let at : site < length marks = subst (λ n. n < length marks) e there in
                let marked : has (take (i + 1) escaping) s ≡ true =
                more s ∙ (ap (λ b. has (take i escaping) s || b) (eq-eqb s site e) ∙ or_true (has (take i escaping) s)) in
                ap (λ k. get_or (set marks site Global) k Global) e
                ∙ (get_or-set_same marks site Global Global at ∙ sym (ap (λ b. if b then Global else Local) marked))
            | inr n ↦
                let same : has (take (i + 1) escaping) s ≡ has (take i escaping) s =
                more s ∙ (ap (λ b. has (take i escaping) s || b) (ne_eqb s site n) ∙ or_false (has (take i escaping) s)) in
                get_or-set_other marks site s Global Global n
                ∙ (h.each s there ∙ sym (ap (λ b. if b then Global else Local) same))
          ];
    }
