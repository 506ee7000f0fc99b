-- Plain plans of small programs: one is written out, and none breaks a part of a valid plan in its program's run.
use Rattle.std.proofs.Common.{◌≡◌, ℕ, List, [], ◌∷◌, Some, None, refl}
use Rattle.std.specs.Prelude.{true, false, replicate}
use Rattle.std.specs.List.{flat_map}
use Rattle.scheme_base.specs.declared.lit.Lit.{Lit}
use Rattle.scheme_base.specs.declared.pos.Pos.{Pos}
use Rattle.scheme_base.specs.declared.place.Mark.TheVariants.{Global}
use Rattle.scheme_base.proofs.Fixtures.{at}
use Rattle.named_form.specs.declared.plan.Repr.TheVariants.{Tagged}
use Rattle.named_form.specs.Code.{Code, Counts, Written, Ends, Then, CallCC, Call, Closure, Copy, If, TopGet, labelled}
use Rattle.named_form.specs.PlainPlan.{plain, used, waiting_in}
use Rattle.named_form.proofs.PlanParts.{fails}
use Rattle.named_form.proofs.Programs.{lambda, does, gives, defining, steps, choice}
use Rattle.named_form.proofs.RunsThatEnd.{loop_procs, loop_lits, reentered_procs, reentered_lits}
use Rattle.named_form.proofs.StorageHeld.{frames_procs, frames_lits, tail_procs, tail_lits, pair_procs, pair_lits, waiting_procs, rest_procs, rest_lits, box_procs, box_lits, closure_procs, closure_lits, record_procs, record_lits}

-- (define (f x) (lambda () (if x (f x) (lambda () x))))(f (%call/cc f)): the call of f in the arm is a tail call
abbrev nested_procs : List Written
nested_procs =
    defining ((at 1 1, 1) ∷ []) (
    does 1 2 ((55, TopGet 0 false) ∷ (66, TopGet 0 false) ∷ (57, CallCC 3) ∷ (54, Call 2 (4 ∷ [])) ∷ [])) ∷
    lambda (at 1 1) (6 ∷ []) (gives 1 7 ((15, Closure 2) ∷ [])) ∷
    lambda (at 1 15) [] (
    gives 1 8 (choice 26 6
    (gives 1 9 ((33, TopGet 0 false) ∷ (32, Call 9 (6 ∷ [])) ∷ []))
    (gives 1 11 ((38, Closure 3) ∷ [])) ∷ [])) ∷
    lambda (at 1 38) [] (Ends (Some 6)) ∷ []

nested : plain (record { procs = nested_procs; tops = 1; lits = [] })
    ≡ record {
      capturing = record { procs = 0 ∷ 1 ∷ 2 ∷ 3 ∷ []; recording = 4 ∷ 5 ∷ [] };
      slots =
          record {
            kept = [] ∷ [] ∷ (6 ∷ []) ∷ (6 ∷ []) ∷ [];
            fictitious = [];
            global = [];
            compared = 1 ∷ 2 ∷ 3 ∷ [];
          };
      marks = replicate 4 Global;
      reprs = record { vars = replicate 12 Tagged; blocks = replicate 6 true; steps = replicate 11 used };
    }
nested = refl

-- Which calls wait: those in arms of an `If` that gives the block's value do not, if they give their arm's

-- (if a (if b (f) (begin (g) a)) (h)), and (begin (if a (if b (f) (begin (g) a)) (h)) a)
abbrev arms : (rest : Code Pos) → Code Pos
arms rest =
    Then (at 1 1) (3 ∷ []) (If 0
    (Then (at 1 7) (4 ∷ []) (If 1
    (Then (at 1 13) (5 ∷ []) (Call 2 []) (Ends (Some 5)))
    (Then (at 1 24) (6 ∷ []) (Call 2 []) (Then (at 1 28) (7 ∷ []) (Copy 0) (Ends (Some 7)))))
    (Ends (Some 4)))
    (Then (at 1 32) (8 ∷ []) (Call 2 []) (Ends (Some 8)))) rest

abbrev none : Counts
none = record { steps = 0; sites = 0; blocks = 0 }

in_tail_position : waiting_in (labelled none true (arms (Ends (Some 3)))) ≡ 6 ∷ []
in_tail_position = refl

not_in_tail_position : waiting_in (labelled none false (arms (Ends (Some 3)))) ≡ 5 ∷ 6 ∷ 8 ∷ []
not_in_tail_position = refl

not_the_last : waiting_in (labelled none true (arms (Then (at 1 1) (9 ∷ []) (Copy 0) (Ends (Some 9))))) ≡ 5 ∷ 6 ∷ 8 ∷ []
not_the_last = refl

another_value : waiting_in (labelled none true (arms (Ends (Some 0)))) ≡ 5 ∷ 6 ∷ 8 ∷ []
another_value = refl

no_value : waiting_in (labelled none true (arms (Ends None))) ≡ 5 ∷ 6 ∷ 8 ∷ []
no_value = refl

-- Runs under plain plans

-- each a program with its literals and how many steps are looked at
abbrev runs : List (List Written × List Lit × ℕ)
runs =
    (frames_procs, frames_lits, 20) ∷ (tail_procs, tail_lits, 20) ∷ (pair_procs, pair_lits, 20)
    ∷ (waiting_procs, pair_lits, 20) ∷ (rest_procs, rest_lits, 20) ∷ (box_procs, box_lits, 20)
    ∷ (closure_procs, closure_lits, 20) ∷ (record_procs, record_lits, 40) ∷ (loop_procs, loop_lits, 60)
    ∷ (reentered_procs, reentered_lits, 80) ∷ []

none_broken : flat_map (λ r. fails (plain (record { procs = r.0; tops = 0; lits = r.1 })) r.0 r.1 r.2) runs ≡ []
none_broken = refl
