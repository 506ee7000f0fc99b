-- What is found at last is the least set.
use Rattle.std.proofs.Common.{◌≡◌, ℕ, ◌+◌, ◌<◌, ◌≤◌, inl, inr, Bool, true, false, IsTrue, List, [], length, get_or, refl, sym, ap, ◌∙◌, subst, arith}
use Rattle.std.proofs.lemmas.Bool.{cases_lt, cases_eq}
use Rattle.std.proofs.lemmas.List.{get_or_append_left}
use Rattle.std.proofs.Common.{length-append}
use Rattle.least_set.specs.Least.{IsLeast, IsLed, Set, has}
use Rattle.least_set.specs.Search.{GoesOn, Grows, Spread, Tells, trues}
use Rattle.least_set.proofs.Has.{all_of, has_at, one_of, or_cases, or_left, or_right, place_of}
use Rattle.least_set.proofs.Marked.{has_marked}
use Rattle.least_set.proofs.Marks.{marked_below, sum_below}

pub found_below : (marks : List Bool) (found : List ℕ) (at : ℕ) → at < length found → Tells marks found → get_or found at 0 < length marks
found_below marks found at within h = marked_below marks found (get_or found at 0) h (has_at found at (get_or found at 0) within refl)

pub found_few : (marks : List Bool) (found : List ℕ) → Tells marks found → length found ≤ length marks
found_few marks found h = let few = sum_below marks in omega (arith, few, h.long)

-- how far the search has come: the numbers before this place have been gone on from
pub record Reaches (leads : ℕ → List ℕ) (at : ℕ) (old found : List ℕ) : Type 0 where
  pub after : at ≤ length found
  pub begun : (x : ℕ) → has old x ≡ true → has found x ≡ true
  pub gone : (k : ℕ) → k < at → (x : ℕ) → has (leads (get_or found k 0)) x ≡ true → has found x ≡ true
  pub within :
      (other : Set ℕ) → ((x : ℕ) → has old x ≡ true → other x ≡ true) → GoesOn leads other
      → (x : ℕ) → has found x ≡ true → other x ≡ true

pub at_first : (leads : ℕ → List ℕ) (old : List ℕ) → Reaches leads 0 old old
at_first leads old =
    record { after = omega arith; begun = λ x h. h; gone = λ k below. absurd (omega (arith, below)); within = λ other begun goes x h. begun x h }

-- one more number is gone on from
pub one_on : (leads : ℕ → List ℕ) (at : ℕ) (old found new : List ℕ) → at < length found
    → Grows (leads (get_or found at 0)) found new → Reaches leads at old found → Reaches leads (at + 1) old new
one_on leads at old found new within g h =
    let longer : length new ≡ length found + length g.more = ap length g.after ∙ length-append found g.more in
    let kept : (k : ℕ) → k < length found → get_or new k 0 ≡ get_or found k 0 =
    λ k below. ap (λ xs. get_or xs k 0) g.after ∙ get_or_append_left found g.more 0 k below in
    let old_one : (x : ℕ) → has found x ≡ true → has new x ≡ true =
    λ x there. g.same x ∙ or_left (has found x) (has (leads (get_or found at 0)) x) there in
    record {
      after = omega arith;
      begun = λ x there. old_one x (h.begun x there);
      gone = λ k below x there. elim (cases_eq k at) [
        | inl e ↦
            let same : get_or new k 0 ≡ get_or found at 0 = ap (λ j. get_or new j 0) e ∙ kept at within in
            let led : has (leads (get_or found at 0)) x ≡ true = ap (λ n. has (leads n) x) (sym same) ∙ there in
            g.same x ∙ or_right (has found x) (has (leads (get_or found at 0)) x) led
        | inr n ↦
            let below_at : k < at = omega arith in
            let in_found : k < length found = omega arith in
            let led : has (leads (get_or found k 0)) x ≡ true = ap (λ j. has (leads j) x) (sym (kept k in_found)) ∙ there in
            old_one x (h.gone k below_at x led)
      ];
      within = λ other begun goes x there.
          elim (or_cases (has found x) (has (leads (get_or found at 0)) x) (sym (g.same x) ∙ there)) [
            | inl was ↦ h.within other begun goes x was
            | inr led ↦ goes (get_or found at 0) x (h.within other begun goes (get_or found at 0) (has_at found at (get_or found at 0) within refl)) led
          ];
    }

-- all numbers are gone on from
pub all_on : (leads : ℕ → List ℕ) (at : ℕ) (old found : List ℕ) → length found ≤ at → Reaches leads at old found → Spread leads old found
all_on leads at old found done h =
    record {
      begun = h.begun;
      goes_on = λ k x there led.
          let p = place_of found k there in
          h.gone p.at (omega (arith, p.within)) x (ap (λ j. has (leads j) x) p.is ∙ led);
      within = h.within;
    }

pub least_led : (leads : ℕ → List ℕ) (starts : List ℕ) (marks : List Bool) (first last result : List ℕ)
    → Grows starts [] first → Spread leads first last → Tells marks last → result ≡ trues 0 marks → IsLeast (IsLed starts leads) (has result)
least_led leads starts marks first last result g s t is =
    let same : (x : ℕ) → has result x ≡ has last x =
    λ x. ap (λ xs. has xs x) is ∙ (has_marked marks x ∙ t.same x) in
    record {
      closed = record {
        begun = all_of (has result) starts (λ x there. same x ∙ s.begun x (g.same x ∙ there));
        led = λ k x from to. same x ∙ s.goes_on k x (sym (same k) ∙ from) to;
      };
      within = λ other c x there.
          s.within other (λ y begun. one_of other starts y c.begun (sym (g.same y) ∙ begun)) c.led x (sym (same x) ∙ there);
    }
