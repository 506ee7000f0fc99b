-- The plain plan of a program, which asks for no facts about its runs.
--
-- All is kept, global, checked and reached, and the closures of each procedure are told apart. A program without
-- `%call/cc` captures nothing; in any other every procedure captures, and every call that is no tail call leaves a
-- record.
use Rattle.std.specs.Prelude.{ℕ, zero, suc, ◌+◌, ◌||◌, ◌&&◌, ◌≡◌, List, [], ◌∷◌, ◌++◌, length, map, replicate, Bool, true, false, not, if◌then◌else◌}
use Rattle.std.specs.List.{list_any, flat_map}
use Rattle.scheme_base.specs.declared.place.Mark.TheVariants.{Global}
use Rattle.named_form.specs.declared.plan.Plan.{Plan}
use Rattle.named_form.specs.declared.plan.ProcSet.{ProcSet}
use Rattle.named_form.specs.declared.plan.Repr.TheVariants.{Tagged}
use Rattle.named_form.specs.declared.plan.StepUse.{StepUse}
use Rattle.named_form.specs.Code.{Code, Ends, Then, Act, If, Label, Program, Written, program, is_call, is_callcc, free_in, bound_in, totals, but_first}
use Rattle.named_form.specs.Needs.{among}
use Rattle.named_form.specs.Valid.{Form, Numbered, Made, Scoped, numbers_from}

abbrev mutual
  -- whether a block captures a continuation
  pub captures_in : {L : Type 0} → Code L → Bool
  captures_in (Ends value) = false
  captures_in (Then l vars act rest) = is_callcc act || (arms_capture act || captures_in rest)

  pub arms_capture : {L : Type 0} → Act L → Bool
  arms_capture (If test this that) = captures_in this || captures_in that
  arms_capture act = false

-- the variable of a step that is a call and no tail call
abbrev pub waits : {L : Type 0} → (tail : Bool) → (vars : List ℕ) → Act L → List ℕ
waits tail [] act = []
waits tail (x ∷ xs) act = if is_call act && not tail then x ∷ [] else []

abbrev mutual
  -- the variables of the calls of a block that are no tail calls
  pub waiting_in : Code Label → List ℕ
  waiting_in (Ends value) = []
  waiting_in (Then l vars act rest) = waits l.tail vars act ++ (arms_wait act ++ waiting_in rest)

  pub arms_wait : Act Label → List ℕ
  arms_wait (If test this that) = waiting_in this ++ waiting_in that
  arms_wait act = []

abbrev pub captures_any : List Written → Bool
captures_any ps = list_any (λ p. captures_in p.body) ps

abbrev pub all_waiting : Program → List ℕ
all_waiting p = flat_map (λ r. waiting_in r.body) p.procs

-- how many variables a program has
abbrev pub var_count : List Written → ℕ
var_count ps = length (flat_map bound_in ps)

-- how many variables are bound before procedure q
abbrev pub before : List Written → (q : ℕ) → ℕ
before [] q = 0
before (p ∷ ps) zero = 0
before (p ∷ ps) (suc q) = length (bound_in p) + before ps q

abbrev pub all_before : List Written → List ℕ
all_before ps = map (before ps) (numbers_from 0 (length ps))

-- Procedures whose variables are numbered one after another, from these on, which make closures of later ones alone,
-- and leave no variable free.
pub record Begins (ps : List Written) (firsts : List ℕ) : Type 0 where
  pub numbered : Numbered ps
  pub made : Made ps
  pub scoped : Scoped ps
  pub begins : firsts ≡ all_before ps

-- the free variables of a procedure, in order
abbrev pub free_vars : List Written → (proc : ℕ) → List ℕ
free_vars ps q = among (var_count ps) (free_in (length ps) ps q)

abbrev pub all_free : List Written → List (List ℕ)
all_free ps = map (free_vars ps) (numbers_from 0 (length ps))

abbrev pub capturing : (captures : Bool) → (procs : ℕ) → (recording : List ℕ) → ProcSet
capturing true n recording = record { procs = numbers_from 0 n; recording = recording }
capturing false n recording = record { procs = []; recording = [] }

abbrev pub used : StepUse
used = record { reached = true; checked = true }

abbrev pub plain : Form → Plan
plain f =
    let ps = f.procs in
    record {
      capturing = capturing (captures_any ps) (length ps) (all_waiting (program ps f.lits));
      slots =
          record {
            kept = all_free ps;
            fictitious = [];
            global = [];
            compared = numbers_from 1 (length (but_first ps));
          };
      marks = replicate (totals ps).sites Global;
      reprs =
          record {
            vars = replicate (var_count ps) Tagged;
            blocks = replicate (totals ps).blocks true;
            steps = replicate (totals ps).steps used;
          };
    }
