-- Each step of a program stands in one of its procedures, and a call enters only those that are there.
use Rattle.std.proofs.Common.{◌≡◌, ℕ, suc, ◌+◌, ◌<◌, ◌≤◌, Bool, true, false, List, [], ◌∷◌, ◌++◌, length, Some, None, Option, refl, ◌∙◌, arith}
use Rattle.std.specs.Prelude.{nat_lt, slice_get, if◌then◌else◌}
use Rattle.std.specs.List.{flat_map, list_all}
use Rattle.std.proofs.lemmas.Bool.{lt-ltb}
use Rattle.std.proofs.lemmas.List.Folds.{list_all-append}
use Rattle.std.proofs.lemmas.Option.{slice_get_within}
use Rattle.flow_constraints.specs.declared.flow.Flow.{Flow}
use Rattle.flow_constraints.specs.declared.flow.Kind.{Kind}
use Rattle.flow_constraints.specs.declared.flow.Kind.TheVariants.{Fixed, Closure, Pair, Vector, Text, Symbol, Boxed, Continuation}
use Rattle.flow_form.specs.declared.rows.Rows.{Rows}
use Rattle.least_set.specs.Least.{all_below}
use Rattle.least_set.proofs.Has.{both}
use Rattle.named_form.specs.Code.{Act, Code, Ends, Then, If, Counts, Label, Written, option_list, procedures}
use Rattle.named_form.specs.Valid.{Form}
use Rattle.plan_facts.specs.declared.place.Action.{Action}
use Rattle.plan_facts.specs.declared.place.Place.{Place}
use Rattle.plan_facts.specs.Calls.{entered, entered_at, entered_by, entered_with, operator_of, takes_of}
use Rattle.plan_facts.specs.Pairs.{members_of}
use Rattle.plan_facts.specs.Places.{AllStand, arm_steps, places_of, steps_from, steps_in}

abbrev in_procs : (procs : ℕ) → Place → Bool
in_procs many p = nat_lt p.proc many

append_all : {X : Type 0} (t : X → Bool) (xs ys : List X) → list_all t xs ≡ true → list_all t ys ≡ true → list_all t (xs ++ ys) ≡ true
append_all t xs ys h k = list_all-append t xs ys ∙ both (list_all t xs) (list_all t ys) h k

mutual
  code_stands : (many q b : ℕ) (c : Code Label) → nat_lt q many ≡ true → list_all (in_procs many) (steps_in q b c) ≡ true
  code_stands many q b (Ends value) h = refl
  code_stands many q b (Then l vars act rest) h =
      both (nat_lt q many) (list_all (in_procs many) (arm_steps q l.arm act ++ steps_in q b rest)) h
      (append_all (in_procs many) (arm_steps q l.arm act) (steps_in q b rest) (arms_stand many q l.arm act h) (code_stands many q b rest h))

  arms_stand : (many q arm : ℕ) (act : Act Label) → nat_lt q many ≡ true → list_all (in_procs many) (arm_steps q arm act) ≡ true
  arms_stand many q arm (If test this that) h =
      append_all (in_procs many) (steps_in q arm this) (steps_in q (arm + 1) that) (code_stands many q arm this h) (code_stands many q (arm + 1) that h)
  arms_stand many q arm act h = refl

procs_stand : (all : List Written) (many q site : ℕ) (at : Counts) (ps : List Written) → q + length ps ≤ many
    → list_all (in_procs many) (steps_from q (procedures all q site at ps)) ≡ true
procs_stand all many q site at [] h = refl
procs_stand all many q site at (p ∷ ps) h =
    append_all (in_procs many) (steps_in q _ _) (steps_from (suc q) (procedures all (suc q) _ _ ps))
    (code_stands many q _ _ (lt-ltb q many (omega arith)))
    (procs_stand all many (suc q) _ _ ps (omega arith))

pub all_stand : (f : Form) → AllStand (length f.procs) (places_of f)
all_stand f = record { each = procs_stand f.procs (length f.procs) 0 _ _ f.procs (omega arith) }

-- callees

there : (ps : List Written) (action : Action) (q : ℕ) (o : Option Written) → slice_get ps q ≡ o → takes_of o action ≡ true → q < length ps
there ps action q None is h = absurd (cc)
there ps action q (Some p) is h = slice_get_within ps q p is

by_kind : (ps : List Written) (action : Action) (kind : Option Kind) → all_below (length ps) (option_list (entered_by ps action kind)) ≡ true
by_kind ps action None = refl
by_kind ps action (Some Fixed) = refl
by_kind ps action (Some (Closure q)) = by_test (takes_of (slice_get ps q) action) refl
  where
    by_test : (b : Bool) → takes_of (slice_get ps q) action ≡ b → all_below (length ps) (option_list (if b then Some q else None)) ≡ true
    by_test true h = both (nat_lt q (length ps)) true (lt-ltb q (length ps) (there ps action q (slice_get ps q) refl h)) refl
    by_test false h = refl
by_kind ps action (Some (Pair r literal)) = refl
by_kind ps action (Some (Vector r literal)) = refl
by_kind ps action (Some (Text literal)) = refl
by_kind ps action (Some (Symbol r)) = refl
by_kind ps action (Some (Boxed x)) = refl
by_kind ps action (Some (Continuation x)) = refl

by_atoms : (ps : List Written) (f : Flow) (action : Action) (atoms : List ℕ)
    → all_below (length ps) (flat_map (λ a. option_list (entered_at ps f action a)) atoms) ≡ true
by_atoms ps f action [] = refl
by_atoms ps f action (a ∷ atoms) =
    append_all (λ x. nat_lt x (length ps)) (option_list (entered_at ps f action a)) (flat_map (λ a. option_list (entered_at ps f action a)) atoms)
    (by_kind ps action (slice_get f.kinds a)) (by_atoms ps f action atoms)

by_operator : (ps : List Written) (f : Flow) (rows : Rows) (action : Action) (o : Option ℕ) → all_below (length ps) (entered_with ps f rows action o) ≡ true
by_operator ps f rows action None = refl
by_operator ps f rows action (Some g) = by_atoms ps f action (members_of rows _)

pub entered_below : (ps : List Written) (f : Flow) (rows : Rows) (action : Action) → all_below (length ps) (entered ps f rows action) ≡ true
entered_below ps f rows action = by_operator ps f rows action (operator_of action)
