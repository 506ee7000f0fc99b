-- How many rules there are, step by step.
use Rattle.std.specs.Prelude.{ℕ, zero, suc, ◌+◌, ◌-◌, ◌≡◌, List, [], ◌∷◌, length, min, Option, Some, None, slice_get, nat_eq, if◌then◌else◌}
use Rattle.scheme_base.specs.declared.lit.Lit.{Lit}
use Rattle.scheme_base.specs.declared.op.Op.{Op}
use Rattle.scheme_base.specs.declared.op.Op.TheVariants as op
use Rattle.named_form.specs.Code.{Code, Ends, Then, Act, Const, Prim, Call, Apply, CallCC, If, Fix, MakeBox, SetBox, TopSet, TopDefine, Written}
use Rattle.flow_constraints.specs.declared.flow.Entry.{Entry}
use Rattle.flow_constraints.specs.declared.flow.Flow.{Flow}
use Rattle.flow_constraints.specs.declared.tally.Tally.{Tally}
use Rattle.flow_constraints.specs.Census.{cut}
use Rattle.flow_constraints.specs.Table.{ending, parts_of, parts_under, results, takes}

-- a list of so many operands past the parameters
abbrev pub list_count : (operands : ℕ) → ℕ
list_count zero = 1
list_count (suc zero) = 2
list_count (suc (suc n)) = 3

abbrev pub rest_count : Option ℕ → (operands : ℕ) → ℕ
rest_count None n = 0
rest_count (Some x) n = list_count n

-- a call of so many operands, for a procedure
abbrev pub enter_count : (operands : ℕ) → Entry → ℕ
enter_count n e = if takes e n then (n + 2) + rest_count e.rest (n - length e.params) else 0

abbrev pub entering_count : (operands : ℕ) → List Entry → ℕ
entering_count n [] = 0
entering_count n (e ∷ es) = enter_count n e + entering_count n es

abbrev pub any_list_count : Option ℕ → ℕ
any_list_count None = 0
any_list_count (Some x) = 5

-- an `Apply`, for a procedure
abbrev pub applied_count : Entry → ℕ
applied_count e = (length e.params + 2) + any_list_count e.rest

abbrev pub applying_count : List Entry → ℕ
applying_count [] = 0
applying_count (e ∷ es) = applied_count e + applying_count es

abbrev pub holding_count : Flow → Op → ℕ
holding_count f op.Cons = 3
holding_count f op.MakeVector = 2
holding_count f op.MakeSymbol = 2
holding_count f op.MakeString = 1
holding_count f op.Car = length f.pairs
holding_count f op.Cdr = length f.pairs
holding_count f op.VectorRef = length f.vectors
holding_count f op.SymbolName = length f.symbols + 1
holding_count f op.SetCar = length f.fresh_pairs
holding_count f op.SetCdr = length f.fresh_pairs
holding_count f op.VectorSet = length f.fresh_vectors
holding_count f o = 0

abbrev pub value_count : Option ℕ → ℕ
value_count None = 0
value_count (Some y) = 1

abbrev pub resume_count : Flow → (operands : ℕ) → ℕ
resume_count f n = if nat_eq n 1 then length f.continuations else 0

abbrev pub call_count : Flow → (operands : ℕ) → ℕ
call_count f n = entering_count n f.entries + resume_count f n

abbrev pub apply_count : Flow → ℕ
apply_count f = (((1 + length f.pairs) + length f.pairs) + applying_count f.entries) + length f.continuations

-- a step that binds so many variables, its arms' steps aside
abbrev pub own_count : {L : Type 0} → Flow → List Lit → (vars : ℕ) → Act L → ℕ
own_count f lits n (Const l) = 1 + length (parts_under f lits (length lits) (parts_of f lits l))
own_count f lits n (Prim o ys) = length (results o) + holding_count f o
own_count f lits n (Call g ys) = call_count f (length ys)
own_count f lits n (Apply g y) = apply_count f
own_count f lits n (CallCC g) = 1 + call_count f 1
own_count f lits n (If v this that) = (2 + value_count (ending this)) + value_count (ending that)
own_count f lits n (Fix qs) = min n (length qs)
own_count f lits n (MakeBox y) = 2
own_count f lits n (SetBox b y) = 2
own_count f lits n (TopSet g y checked) = 2
own_count f lits n (TopDefine g y) = 2
own_count f lits n act = 1

abbrev mutual
  pub code_count : {L : Type 0} → Flow → List Lit → Code L → ℕ
  code_count f lits (Ends value) = 0
  code_count f lits (Then l vars act rest) =
      own_count f lits (length vars) act + (arms_count f lits act + code_count f lits rest)

  pub arms_count : {L : Type 0} → Flow → List Lit → Act L → ℕ
  arms_count f lits (If test this that) = code_count f lits this + code_count f lits that
  arms_count f lits act = 0

abbrev pub lambdas_count : Flow → List Lit → List Written → ℕ
lambdas_count f lits [] = 0
lambdas_count f lits (p ∷ ps) = (code_count f lits p.body + value_count (ending p.body)) + lambdas_count f lits ps

abbrev pub procs_count : Flow → List Lit → List Written → ℕ
procs_count f lits [] = 0
procs_count f lits (p ∷ ps) = (1 + code_count f lits p.body) + lambdas_count f lits ps

-- what is remembered of a count of operands is how many rules enter the procedures that take it, as 64 bits hold it
abbrev pub Remembers : Flow → Tally → Type 0
Remembers f t = (n rules : ℕ) → slice_get t.entering.items n ≡ Some (Some rules) → rules ≡ cut (entering_count n f.entries)
