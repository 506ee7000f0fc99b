-- One variable more is marked that needs no slot.
use Rattle.std.proofs.Common.{◌≡◌, ℕ, ◌+◌, ◌<◌, inl, inr, Bool, true, false, List, [], ◌∷◌, length, get_or, replicate, set, take, Some, refl, sym, ap, ◌∙◌, arith, eq-eqb, ne_eqb, get_or-set_other, get_or-set_same}
use Rattle.std.specs.Prelude.{nat_eq, ◌||◌, is_some, if◌then◌else◌}
use Rattle.std.specs.List.{list_any}
use Rattle.std.proofs.lemmas.Bool.{cases_eq}
use Rattle.std.proofs.lemmas.List.{get_or-replicate, length-replicate, length-set}
use Rattle.std.proofs.lemmas.List.Folds.{list_any_more}
use Rattle.named_form.specs.declared.plan.Fiction.{Fiction}
use Rattle.named_form.specs.ValidPlan.{fiction_of}
use Rattle.repr_choice.specs.Marks.{MarksFictions}

abbrev of_var : (var : ℕ) → Fiction → Bool
of_var x f = nat_eq x f.var

any_of_var : (fs : List Fiction) (x : ℕ) → is_some (fiction_of fs x) ≡ list_any (of_var x) fs
any_of_var [] x = refl
any_of_var (f ∷ fs) x = here (nat_eq x f.var) (any_of_var fs x)
  where
    here : (b : Bool) → is_some (fiction_of fs x) ≡ list_any (of_var x) fs → is_some (if b then Some f.value else fiction_of fs x) ≡ (b || list_any (of_var x) fs)
    here true past = refl
    here false past = past

or_true : (a : Bool) → (a || true) ≡ true
or_true true = refl
or_true false = refl

or_false : (a : Bool) → (a || false) ≡ a
or_false true = refl
or_false false = refl

-- whether it is a fiction's variable, of one fiction more
more_told : (fs : List Fiction) (i : ℕ) (d : Fiction) (x : ℕ) → i < length fs
    → is_some (fiction_of (take (i + 1) fs) x) ≡ (is_some (fiction_of (take i fs) x) || nat_eq x (get_or fs i d).var)
more_told fs i d x within =
    any_of_var (take (i + 1) fs) x
    ∙ (list_any_more (of_var x) fs i d within
    ∙ ap (λ b. b || nat_eq x (get_or fs i d).var) (sym (any_of_var (take i fs) x)))

other_told : (fs : List Fiction) (i : ℕ) (d : Fiction) (x : ℕ) → i < length fs → nat_eq x (get_or fs i d).var ≡ false
    → is_some (fiction_of (take (i + 1) fs) x) ≡ is_some (fiction_of (take i fs) x)
other_told fs i d x within other =
    more_told fs i d x within
    ∙ (ap (λ b. is_some (fiction_of (take i fs) x) || b) other ∙ or_false (is_some (fiction_of (take i fs) x)))

pub none_marked : (many : ℕ) → MarksFictions many [] (replicate many false)
none_marked many =
    record {
      long = length-replicate many false;
      same = λ x other below. get_or-replicate many x false other below;
    }

pub one_marked : (many : ℕ) (fs : List Fiction) (i : ℕ) (d : Fiction) (marks : List Bool) → i < length fs
    → MarksFictions many (take i fs) marks
    → MarksFictions many (take (i + 1) fs) (set marks (get_or fs i d).var true)
one_marked many fs i d marks within h =
    let var = (get_or fs i d).var in
    let long = h.long in
    record {
      long = length-set marks var true ∙ h.long;
      same = λ x other below.
          elim (cases_eq x var) [
            | inl e ↦
                let told : is_some (fiction_of (take (i + 1) fs) x) ≡ true =
                more_told fs i d x within
                ∙ (ap (λ b. is_some (fiction_of (take i fs) x) || b) (eq-eqb x var e) ∙ or_true (is_some (fiction_of (take i fs) x))) in
                ap (λ k. get_or (set marks var true) k other) e ∙ (get_or-set_same marks var true other (omega (arith, e, below, long)) ∙ sym told)
            | inr n ↦
                get_or-set_other marks var x true other n
                ∙ (h.same x other below ∙ sym (other_told fs i d x within (ne_eqb x var n)))
          ];
    }
