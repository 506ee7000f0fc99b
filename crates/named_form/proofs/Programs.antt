-- How the programs of computed runs are written, and what is seen of their runs.
use Rattle.std.proofs.Common.{ℕ, suc, ◌+◌, ◌-◌, ◌*◌, List, [], ◌∷◌, Some, None, length}
use Rattle.scheme_base.specs.declared.env.Env.{Env}
use Rattle.scheme_base.specs.declared.lit.Lit.{Lit}
use Rattle.scheme_base.specs.declared.pos.Pos.{Pos}
use Rattle.scheme_base.specs.Outside.{Event}
use Rattle.scheme_base.specs.Runs.{after}
use Rattle.scheme_base.proofs.Fixtures.{Seen, at, seen_after}
use Rattle.std.specs.Prelude.{false}
use Rattle.named_form.specs.Code.{Act, Code, Ends, Then, Call, Closure, Const, If, TopDefine, TopGet, Written, program}
use Rattle.named_form.specs.NamedRun.{State, machine, start, trace_of}
use Rattle.named_form.specs.Valid.{nowhere}

-- procedure 0
abbrev pub main : Code Pos → Written
main body = record { params = []; rest = None; body = body; pos = nowhere }

abbrev pub lambda : Pos → (params : List ℕ) → Code Pos → Written
lambda pos params body = record { params = params; rest = None; body = body; pos = pos }

abbrev pub lambda_rest : Pos → (params : List ℕ) → (rest : ℕ) → Code Pos → Written
lambda_rest pos params rest body = record { params = params; rest = Some rest; body = body; pos = pos }

-- the definition of a procedure, which binds two variables from this one on
abbrev pub define : Pos → (var proc top : ℕ) → Code Pos → Code Pos
define pos x q g rest = Then pos (x ∷ []) (Closure q) (Then pos (suc x ∷ []) (TopDefine g x) rest)

-- steps in one line of the text, each with its column; each binds a variable, and these are numbered from x on
abbrev pub steps : (line x : ℕ) → List (ℕ × Act Pos) → Code Pos → Code Pos
steps line x [] rest = rest
steps line x (s ∷ ss) rest = Then (at line s.0) (x ∷ []) s.1 (steps line (suc x) ss rest)

-- a block of such steps that has no value, and one that has that of its last step
abbrev pub does : (line x : ℕ) → List (ℕ × Act Pos) → Code Pos
does line x ss = steps line x ss (Ends None)

abbrev pub gives : (line x : ℕ) → List (ℕ × Act Pos) → Code Pos
gives line x ss = steps line x ss (Ends (Some (x + length ss - 1)))

-- a step that is an `If`
abbrev pub choice : (column test : ℕ) → (this that : Code Pos) → ℕ × Act Pos
choice column test this that = (column, If test this that)

-- procedure 0, which defines these procedures first, each with the position of its definition
abbrev pub defining : List (Pos × ℕ) → Code Pos → Written
defining ds rest = main (from 0 ds)
  where
    from : ℕ → List (Pos × ℕ) → Code Pos
    from g [] = rest
    from g (d ∷ more) = define d.0 (2 * g) d.1 g (from (suc g) more)

-- one that then calls the first of them with a literal, whose columns are those of operator, operand and call
abbrev pub calling : List (Pos × ℕ) → (lit operator operand call : ℕ) → Written
calling ds l f o c =
    let x = 2 * length ds in
    defining ds (does 1 x ((f, TopGet 0 false) ∷ (o, Const l) ∷ (c, Call x (suc x ∷ [])) ∷ []))

-- the state of a run after so many steps
abbrev pub state : List Written → List Lit → Env → ℕ → State
state procs lits env steps =
    after (machine (program procs lits) env) steps (start (program procs lits) env)

-- what is seen of a run after so many steps
abbrev pub seen : List Written → List Lit → Env → ℕ → Seen
seen procs lits env steps =
    let p = program procs lits in seen_after (machine p env) (λ s. s.stop) steps (start p env)

-- calls with their answers, the newest first
abbrev pub calls : List Written → List Lit → Env → ℕ → List Event
calls procs lits env steps = trace_of (state procs lits env steps)

-- how many return points a run has made
abbrev pub points_made : List Written → List Lit → Env → ℕ → ℕ
points_made procs lits env steps = length (state procs lits env steps).world.points
