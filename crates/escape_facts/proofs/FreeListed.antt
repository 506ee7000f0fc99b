-- What the plain plan keeps is what is free, in a well-formed program.
use Rattle.std.proofs.Common.{◌≡◌, ℕ, zero, suc, ◌+◌, ◌<◌, ◌≤◌, inl, inr, Bool, true, false, List, [], length, map, get_or, refl, sym, ap, ◌∙◌, subst, arith}
use Rattle.std.specs.Prelude.{◌&&◌}
use Rattle.std.proofs.lemmas.Bool.{cases_lt}
use Rattle.std.proofs.lemmas.List.{get_or_past, length-map}
use Rattle.std.proofs.lemmas.Option.{slice_get_past}
use Rattle.least_set.specs.Least.{has}
use Rattle.least_set.specs.Search.{listed}
use Rattle.named_form.specs.Code.{free_in}
use Rattle.named_form.specs.PlainPlan.{all_free, free_vars, var_count}
use Rattle.named_form.specs.Valid.{Form, WellFormed, numbers_from}
use Rattle.named_form.proofs.Depth.{none_free}
use Rattle.named_form.proofs.Kept.{before_all, bound_before, has_within, length_numbers}
use Rattle.named_form.proofs.Variables.{has_filter}

listed_at : (g : ℕ → List ℕ) (lo n q : ℕ) → q < n → get_or (map g (numbers_from lo n)) q [] ≡ g (lo + q)
listed_at g lo zero q h = absurd (omega (arith, h))
listed_at g lo (suc n) zero h = let e : lo ≡ lo + 0 = omega arith in ap g e
listed_at g lo (suc n) (suc q) h =
    let e : suc lo + q ≡ lo + suc q = omega arith in listed_at g (suc lo) n q (omega (arith, h)) ∙ ap g e

has_free_vars : (f : Form) → WellFormed f → (q x : ℕ) → has (free_vars f.procs q) x ≡ has (free_in (length f.procs) f.procs q) x
has_free_vars f w q x =
    let ps = f.procs in
    has_filter (has (free_in (length ps) ps q)) (numbers_from 0 (var_count ps)) x ∙ by_test (has (free_in (length ps) ps q) x) refl
  where
    by_test : (b : Bool) → has (free_in (length f.procs) f.procs q) x ≡ b → (b && has (numbers_from 0 (var_count f.procs)) x) ≡ b
    by_test true h =
        let before_it = bound_before f.procs w.numbered w.made w.scoped (suc q) q x (omega arith) h in
        let all = before_all f.procs q in
        has_within 0 (var_count f.procs) x (omega arith) (omega (arith, before_it, all))
    by_test false h = refl

free_at : (f : Form) → WellFormed f → (q x : ℕ)
    → has (listed (all_free f.procs) q) x ≡ has (free_in (length f.procs) f.procs q) x
free_at f w q x =
    let ps = f.procs in
    elim (cases_lt q (length ps)) [
      | inl less ↦
          let first : 0 + q ≡ q = omega arith in
          ap (λ xs. has xs x) (listed_at (free_vars ps) 0 (length ps) q less ∙ ap (free_vars ps) first) ∙ has_free_vars f w q x
      | inr past ↦
          let long : length (all_free ps) ≡ length ps = length-map (numbers_from 0 (length ps)) (free_vars ps) ∙ length_numbers 0 (length ps) in
          ap (λ xs. has xs x) (get_or_past (all_free ps) q [] (subst (λ n. n ≤ q) (sym long) past))
          ∙ sym (ap (λ xs. has xs x) (none_free (length ps) ps q (slice_get_past ps q past)))
    ]

pub free_listed : (f : Form) → WellFormed f → (lists : List (List ℕ)) → lists ≡ all_free f.procs
    → (q x : ℕ) → has (listed lists q) x ≡ has (free_in (length f.procs) f.procs q) x
free_listed f w lists is q x = ap (λ ls. has (listed ls q) x) is ∙ free_at f w q x
