-- Steps that are put by a loop over the parts of a form.
use Rattle.std.specs.Prelude.{ℕ, suc, List, [], ◌∷◌, ◌++◌, length, Option, Some, None, false}
use Rattle.std.specs.Borrow.{Bor}
use Rattle.scheme_base.specs.declared.pos.Pos.{Pos}
use Rattle.quasi_expand.specs.declared.template.Part.{Part}
use Rattle.quasi_expand.specs.declared.template.Part.TheVariants as part
use Rattle.scheme_expand.specs.declared.step.Step.{Step}
use Rattle.scheme_expand.specs.declared.step.Step.TheVariants as step
use Rattle.draft_form.specs.declared.draft.Variable.{Variable}
use Rattle.draft_form.specs.declared.draft.Variable.TheVariants as local

-- expressions, of which the first is done first
abbrev pub expr_steps : List ℕ → List Step
expr_steps [] = []
expr_steps (id ∷ ids) = expr_steps ids ++ step.Expr id ∷ []

-- a procedure without variables and its call, where there are no names
abbrev pub no_name_steps : Pos → (names : List ℕ) → (level : ℕ) → List Step
no_name_steps p [] k = step.Call p 0 ∷ step.Lambda p k false ∷ []
no_name_steps p (x ∷ xs) k = []

-- variables from a level on are bound to values, one inside another
abbrev pub nest_steps : Pos → (level : ℕ) → List Variable → (values : List ℕ) → List Step
nest_steps p k (x ∷ xs) (id ∷ ids) =
    step.Bind p x ∷ step.Expr id ∷ step.Leave k ∷ nest_steps p (suc k) xs ids
nest_steps p k xs ids = []

-- the values of definitions, of which the first is done first
abbrev pub defined_steps : List ℕ → List Step
defined_steps [] = []
defined_steps (id ∷ ids) = defined_steps ids ++ step.Defined id ∷ []

-- the steps of a template, of which the first is done first
abbrev pub part_step : Pos → Part → Step
part_step p (part.Expr id) = step.Expr id
part_step p x = step.Template p x

abbrev pub part_steps : Pos → List Part → List Step
part_steps p [] = []
part_steps p (x ∷ xs) = part_steps p xs ++ part_step p x ∷ []

-- the value of a variable for the next turn of a `do`: that of its step, or itself where there is none
abbrev pub next_step : Pos → Option ℕ → Variable → Step
next_step p None x = step.Reference p x
next_step p (Some id) x = step.Expr id

-- the same of all variables, of which the first is done first
abbrev pub next_steps : Pos → List (Option ℕ) → List Variable → List Step
next_steps p [] xs = []
next_steps p (o ∷ os) [] = []
next_steps p (o ∷ os) (x ∷ xs) = next_steps p os xs ++ next_step p o x ∷ []

-- what a `do` comes to, if it has results
abbrev pub result_steps_of : Pos → Bor (List ℕ) → (now : List ℕ) → List Step
result_steps_of p ids [] = step.Unspecified p ∷ []
result_steps_of p ids (id ∷ now) = step.Sequence p (length (id ∷ now)) ∷ step.Exprs ids ∷ []

abbrev pub result_steps : Pos → Bor (List ℕ) → List Step
result_steps p ids = result_steps_of p ids ids.now

-- What a `do` puts, in the scope of its variables: its procedure is at one level, its variables at the next.
abbrev pub loop_steps : Pos → (inits : List ℕ) → (steps : List (Option ℕ)) → List Variable → (test : ℕ)
    → (results commands : Bor (List ℕ)) → (count together level inner : ℕ) → List Step
loop_steps p inits steps xs test results commands n m k inner =
    let again : Step = step.Reference p (local.Fresh k) in
    step.Call p n
    ∷ (expr_steps inits
    ++ ((step.Loop p k ∷ step.Lambda p inner false ∷ step.If p ∷ step.Sequence p m ∷ step.Call p n ∷ [])
    ++ (next_steps p steps xs
    ++ ((again ∷ step.Exprs commands ∷ []) ++ (result_steps p results ++ (step.Expr test ∷ again ∷ []))))))
