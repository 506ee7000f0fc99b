-- The lists of what each procedure needs, made from the last procedure on.
use Rattle.std.proofs.Common.{◌≡◌, ℕ, ◌-◌, ◌<◌, ◌≤◌, inl, inr, true, List, [], ◌∷◌, ◌++◌, length, set, refl, sym, ap, ◌∙◌, arith, eq-eqb, get_or-set_other, get_or-set_same}
use Rattle.std.specs.Prelude.{nat_eq}
use Rattle.std.specs.List.{filter, flat_map}
use Rattle.std.proofs.lemmas.Bool.{cases_eq}
use Rattle.std.proofs.lemmas.List.{length-set}
use Rattle.least_set.specs.Least.{has}
use Rattle.least_set.specs.Search.{listed}
use Rattle.least_set.proofs.Has.{or_left, or_right}
use Rattle.slot_facts.specs.Needs.{IsNeeded, MakesLater, wanted}

-- the lists of the procedures from this one on are made
pub record NeededFrom (many : ℕ) (free references makings : List (List ℕ)) (q : ℕ) (needed : List (List ℕ)) : Type 0 where
  pub low : q ≤ many
  pub long : length needed ≡ many
  pub each :
      MakesLater makings → (r : ℕ) → q ≤ r → r < many
      → listed needed r ≡ filter (has (wanted (listed references r) (listed makings r) needed)) (listed free r)

same_flat : (g h : ℕ → List ℕ) (qs : List ℕ) → ((y : ℕ) → has qs y ≡ true → g y ≡ h y) → flat_map g qs ≡ flat_map h qs
same_flat g h [] same = refl
same_flat g h (q ∷ qs) same =
    ap (λ xs. xs ++ flat_map g qs) (same q (or_left (nat_eq q q) (has qs q) (eq-eqb q q refl)))
    ∙ ap (λ xs. h q ++ xs) (same_flat g h qs (λ y there. same y (or_right (nat_eq y q) (has qs y) there)))

pub none_needed : (many : ℕ) (free references makings needed : List (List ℕ)) → length needed ≡ many
    → NeededFrom many free references makings many needed
none_needed many free references makings needed long =
    record { low = omega arith; long = long; each = λ later r above below. absurd (omega (arith, above, below)) }

pub one_needed : (many : ℕ) (free references makings needed : List (List ℕ)) (q : ℕ) (ids : List ℕ) → 0 < q
    → NeededFrom many free references makings q needed
    → ids ≡ filter (has (wanted (listed references (q - 1)) (listed makings (q - 1)) needed)) (listed free (q - 1))
    → NeededFrom many free references makings (q - 1) (set needed (q - 1) ids)
one_needed many free references makings needed q ids some h made =
    let low = h.low in
    let long = h.long in
    record {
      low = omega (arith, low);
      long = length-set needed (q - 1) ids ∙ h.long;
      each = λ later r above below.
          let same : wanted (listed references r) (listed makings r) (set needed (q - 1) ids) ≡ wanted (listed references r) (listed makings r) needed =
          ap (λ xs. listed references r ++ xs)
          (same_flat (listed (set needed (q - 1) ids)) (listed needed) (listed makings r)
          (λ y there. let more = later r y there in get_or-set_other needed (q - 1) y ids [] (λ e. omega (arith, e, more, above)))) in
          elim (cases_eq r (q - 1)) [
            | inl e ↦
                ap (λ k. listed (set needed (q - 1) ids) k) e
                ∙ (get_or-set_same needed (q - 1) ids [] (omega (arith, some, low, long))
                ∙ (made
                ∙ (ap (λ k. filter (has (wanted (listed references k) (listed makings k) needed)) (listed free k)) (sym e)
                ∙ ap (λ xs. filter (has xs) (listed free r)) (sym same))))
            | inr n ↦
                get_or-set_other needed (q - 1) r ids [] n
                ∙ (h.each later r (next n above some) below
                ∙ ap (λ xs. filter (has xs) (listed free r)) (sym same))
          ];
    }
  where
    next : {r : ℕ} → (r ≡ q - 1 → ⊥) → q - 1 ≤ r → 0 < q → q ≤ r
    next other above some = omega arith

-- what is made for a procedure, of what was read for it
pub made_of : (free references makings needed : List (List ℕ)) (q : ℕ) (ids wants variables procs : List ℕ) (lists : List (List ℕ))
    → variables ≡ listed references q → procs ≡ listed makings q → lists ≡ needed
    → wants ≡ variables ++ flat_map (listed lists) procs → ids ≡ filter (has wants) (listed free q)
    → ids ≡ filter (has (wanted (listed references q) (listed makings q) needed)) (listed free q)
made_of free references makings needed q ids wants variables procs lists same_variables same_procs same_lists wants_are made =
    let all =
    wants_are
    ∙ (ap (λ xs. xs ++ flat_map (listed lists) procs) same_variables
    ∙ (ap (λ ps. listed references q ++ flat_map (listed lists) ps) same_procs
    ∙ ap (λ ns. listed references q ++ flat_map (listed ns) (listed makings q)) same_lists)) in
    made ∙ ap (λ ws. filter (has ws) (listed free q)) all

pub all_needed : (many : ℕ) (free references makings needed : List (List ℕ)) → NeededFrom many free references makings 0 needed
    → IsNeeded many free references makings needed
all_needed many free references makings needed h =
    record { long = h.long; each = λ later q below. h.each later q (omega arith) below }
