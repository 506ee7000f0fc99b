-- The lists that are made are the representations of the program.
use Rattle.std.proofs.Common.{◌≡◌, ℕ, zero, suc, ◌<◌, Bool, List, [], ◌∷◌, length, Some, map, ap, ◌∙◌, ◌+◌, arith}
use Rattle.std.specs.Prelude.{slice_get}
use Rattle.std.proofs.lemmas.List.{length-map}
use Rattle.flow_constraints.specs.Layout.{flow_of}
use Rattle.flow_form.specs.declared.rows.Rows.{Rows}
use Rattle.named_form.specs.declared.plan.Repr.{Repr}
use Rattle.named_form.specs.declared.plan.Slots.{Slots}
use Rattle.named_form.specs.declared.plan.StepUse.{StepUse}
use Rattle.named_form.specs.Code.{totals}
use Rattle.named_form.specs.PlainPlan.{var_count}
use Rattle.named_form.specs.Valid.{Form, numbers_from}
use Rattle.plan_facts.specs.Calls.{is_reached}
use Rattle.plan_facts.specs.Places.{places_of}
use Rattle.plan_facts.specs.Represented.{IsReprs, repr_of, use_in}
use Rattle.plan_facts.proofs.OneByOne.{told_at, told_many}
use Rattle.repr_choice.proofs.StepNumbers.{step_number, many_steps}
use Rattle.plan_facts.proofs.VariableRows.{row_each}

get_map : {X Y : Type 0} (g : X → Y) (xs : List X) (i : ℕ) (x : X) → slice_get xs i ≡ Some x → slice_get (map g xs) i ≡ Some (g x)
get_map g [] i x there = absurd (cc)
get_map g (y ∷ ys) zero x there = let same : y ≡ x = cc in ap (λ z. Some (g z)) same
get_map g (y ∷ ys) (suc i) x there = get_map g ys i x there

told_of : {X : Type 0} (g : ℕ → X) (many x : ℕ) → x < many → slice_get (map g (numbers_from 0 many)) x ≡ Some (g x)
told_of g many x below = let same : 0 + x ≡ x = omega arith in told_at g 0 many x below ∙ ap (λ n. Some (g n)) same

pub are_reprs : (f : Form) (rows : Rows) (slots : Slots) (vars : List Repr) (blocks : List Bool) (steps : List StepUse) (many : ℕ)
    → vars ≡ map (repr_of (flow_of f) rows slots.fictitious) (numbers_from 0 (length (flow_of f).vars))
    → many ≡ (totals f.procs).blocks → blocks ≡ map (is_reached (flow_of f) rows) (numbers_from 0 many)
    → steps ≡ map (use_in f.procs (flow_of f) rows) (places_of f)
    → IsReprs f rows slots (record { vars = vars; blocks = blocks; steps = steps })
are_reprs f rows slots vars blocks steps many vars_are counted blocks_are steps_are =
    let held = repr_of (flow_of f) rows slots.fictitious in
    let reached = is_reached (flow_of f) rows in
    let used = use_in f.procs (flow_of f) rows in
    let all_vars : vars ≡ map held (numbers_from 0 (var_count f.procs)) = vars_are ∙ ap (λ n. map held (numbers_from 0 n)) (row_each f) in
    let all_blocks : blocks ≡ map reached (numbers_from 0 (totals f.procs).blocks) = blocks_are ∙ ap (λ n. map reached (numbers_from 0 n)) counted in
    record {
      vars = λ x below. ap (λ xs. slice_get xs x) all_vars ∙ told_of held (var_count f.procs) x below;
      blocks = λ b below. ap (λ xs. slice_get xs b) all_blocks ∙ told_of reached (totals f.procs).blocks b below;
      steps = λ n p there.
          ap (λ xs. slice_get xs p.step) steps_are
          ∙ (ap (λ i. slice_get (map used (places_of f)) i) (step_number f n p there) ∙ get_map used (places_of f) n p there);
      many_vars = ap (λ xs. length xs) all_vars ∙ told_many held (var_count f.procs);
      many_blocks = ap (λ xs. length xs) all_blocks ∙ told_many reached (totals f.procs).blocks;
      many_steps = ap (λ xs. length xs) steps_are ∙ (length-map (places_of f) used ∙ many_steps f);
    }
