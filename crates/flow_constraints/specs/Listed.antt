-- The list of all rules of a program.
use Rattle.std.specs.Prelude.{ℕ, ◌+◌, List, [], ◌∷◌, ◌++◌}
use Rattle.std.specs.List.{flat_map}
use Rattle.scheme_base.specs.declared.lit.Lit.{Lit}
use Rattle.flow_form.specs.declared.rule.Rule.{Rule}
use Rattle.named_form.specs.Code.{Code, Ends, Then, Act, If, Label, Lambda, program}
use Rattle.named_form.specs.Valid.{Form}
use Rattle.flow_constraints.specs.declared.flow.Flow.{Flow}
use Rattle.flow_constraints.specs.declared.put.Guard.{Guard}
use Rattle.flow_constraints.specs.Layout.{flow_of}
use Rattle.flow_constraints.specs.Rows.{row, Reach, Result}
use Rattle.flow_constraints.specs.Table.{always, reached, atom_in, ending, own_rules, spot_of, value_rules}

-- that the block of this number is reached
abbrev pub reached_block : Flow → (block : ℕ) → Guard
reached_block f b = reached (row f (Reach b))

abbrev mutual
  -- the rules of the steps of the block of this number; those of an `If` before those of its arms
  pub code_rules : Flow → List Lit → (block : ℕ) → Code Label → List Rule
  code_rules f lits b (Ends value) = []
  code_rules f lits b (Then l vars act rest) =
      own_rules f lits (spot_of f (reached_block f b) l.site l.arm vars) vars act
      ++ (arm_rules f lits l.arm act ++ code_rules f lits b rest)

  pub arm_rules : Flow → List Lit → (arm : ℕ) → Act Label → List Rule
  arm_rules f lits arm (If test this that) = code_rules f lits arm this ++ code_rules f lits (arm + 1) that
  arm_rules f lits arm act = []

-- a procedure from 1 on: its steps, then its result
abbrev pub lambda_rules : Flow → List Lit → Lambda → List Rule
lambda_rules f lits p =
    code_rules f lits p.block p.body
    ++ value_rules f (reached_block f p.block) (ending p.body) (row f (Result p.block))

abbrev pub procs_rules : Flow → List Lit → List Lambda → List Rule
procs_rules f lits [] = []
procs_rules f lits (p ∷ ps) =
    atom_in always 0 (row f (Reach p.block))
    ∷ (code_rules f lits p.block p.body ++ flat_map (lambda_rules f lits) ps)

-- The rules of a program: its own block is reached; then the procedures in order.
abbrev pub rules_of : Form → List Rule
rules_of f = procs_rules (flow_of f) f.lits (program f.procs f.lits).procs
