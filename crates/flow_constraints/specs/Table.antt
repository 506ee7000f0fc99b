-- The rules of each kind of step.
--
-- A rule has two tests at most, gives an atom or the atoms of a row, and names the row to which it gives. The first
-- test of each rule of a step is that its block is reached.
use Rattle.std.specs.Prelude.{ℕ, zero, suc, ◌+◌, List, [], ◌∷◌, ◌++◌, length, map, Option, Some, None, slice_get, Bool, nat_eq, nat_le, if◌then◌else◌}
use Rattle.std.specs.List.{flat_map}
use Rattle.scheme_base.specs.declared.lit.Lit.{Lit}
use Rattle.scheme_base.specs.declared.lit.Lit.TheVariants as lit
use Rattle.scheme_base.specs.declared.op.Op.{Op}
use Rattle.scheme_base.specs.declared.op.Op.TheVariants as op
use Rattle.flow_form.specs.declared.rule.Give.TheVariants as give
use Rattle.flow_form.specs.declared.rule.Rule.{Rule}
use Rattle.flow_form.specs.declared.rule.Test.{Test}
use Rattle.flow_form.specs.declared.rule.Test.TheVariants.{Has, Other}
use Rattle.named_form.specs.Code.{Code, Ends, Then, Act, Const, Copy, Prim, Call, Apply, CallCC, If, Closure, Fix, MakeBox, MakeHole, Unbox, SetBox, TopGet, TopSet, TopDefine, single}
use Rattle.flow_constraints.specs.declared.calls.Site.{Site}
use Rattle.flow_constraints.specs.declared.flow.Entry.{Entry}
use Rattle.flow_constraints.specs.declared.flow.Flow.{Flow}
use Rattle.flow_constraints.specs.declared.literals.Part.{Part}
use Rattle.flow_constraints.specs.declared.operations.Operation.{Operation}
use Rattle.flow_constraints.specs.declared.put.Guard.{Guard}
use Rattle.flow_constraints.specs.declared.steps.Spot.{Spot}
use Rattle.flow_constraints.specs.Rows.{row, Top, Reach, Result, Var, Part as PartOf, Inside, Spine, Items, Given, number_at, continuing}
use Rattle.scheme_base.specs.Operations.{item_or}

-- Tests

abbrev pub always : Guard
always = record { first = None; second = None }

-- that the block is reached whose row this is
abbrev pub reached : (reach : ℕ) → Guard
reached r = record { first = Some (Has r 0); second = None }

abbrev pub also : Test → Guard → Guard
also test g = record { first = g.first; second = Some test }

abbrev pub atom_in : Guard → (atom to : ℕ) → Rule
atom_in g a to = record { first = g.first; second = g.second; give = give.Atom a; to = to }

abbrev pub within : Guard → (from to : ℕ) → Rule
within g from to = record { first = g.first; second = g.second; give = give.Row from; to = to }

-- Literals: without any test, each part's atom is where the part stands.

abbrev pub items_in : (to : ℕ) → List ℕ → List Part
items_in to [] = []
items_in to (l ∷ ls) = (record { lit = l; to = to }) ∷ items_in to ls

abbrev pub parts_in : Flow → (atom : ℕ) → Option Lit → List Part
parts_in f a (Some (lit.Pair car cdr)) =
    (record { lit = car; to = row f (PartOf a 0) }) ∷ (record { lit = cdr; to = row f (PartOf a 1) }) ∷ []
parts_in f a (Some (lit.Vector items)) = items_in (row f (PartOf a 0)) items
parts_in f a l = []

-- a literal's own parts
abbrev pub parts_of : Flow → List Lit → (l : ℕ) → List Part
parts_of f lits l = parts_in f (number_at f.lits l) (slice_get lits l)

-- These parts, each before its own. A literal has fewer parts than there are literals.
abbrev pub parts_under : Flow → List Lit → (most : ℕ) → List Part → List Part
parts_under f lits zero ps = []
parts_under f lits (suc most) [] = []
parts_under f lits (suc most) (p ∷ ps) = p ∷ parts_under f lits most (parts_of f lits p.lit ++ ps)

abbrev pub part_rule : Flow → Part → Rule
part_rule f p = atom_in always (number_at f.lits p.lit) p.to

-- what a literal holds
abbrev pub held_rules : Flow → List Lit → (l : ℕ) → List Rule
held_rules f lits l = map (part_rule f) (parts_under f lits (length lits) (parts_of f lits l))

-- Operations

-- the atoms of the results that have no contents and come under no second test
abbrev pub results : Op → List ℕ
results op.Eqv = 3 ∷ 4 ∷ []
results op.IsPair = 3 ∷ 4 ∷ []
results op.IsSymbol = 3 ∷ 4 ∷ []
results op.IsString = 3 ∷ 4 ∷ []
results op.IsVector = 3 ∷ 4 ∷ []
results op.IsProcedure = 3 ∷ 4 ∷ []
results op.IsInteger = 3 ∷ 4 ∷ []
results op.IsChar = 3 ∷ 4 ∷ []
results op.IsBoolean = 3 ∷ 4 ∷ []
results op.IsNull = 3 ∷ 4 ∷ []
results op.IsEof = 3 ∷ 4 ∷ []
results op.Equals = 3 ∷ 4 ∷ []
results op.Less = 3 ∷ 4 ∷ []
results op.SetCar = 6 ∷ []
results op.SetCdr = 6 ∷ []
results op.StringSet = 6 ∷ []
results op.VectorSet = 6 ∷ []
results op.WriteChar = 6 ∷ []
results op.Add = 1 ∷ []
results op.Subtract = 1 ∷ []
results op.Multiply = 1 ∷ []
results op.Quotient = 1 ∷ []
results op.Remainder = 1 ∷ []
results op.Modulo = 1 ∷ []
results op.CharToInteger = 1 ∷ []
results op.StringLength = 1 ∷ []
results op.VectorLength = 1 ∷ []
results op.IntegerToChar = 2 ∷ []
results op.StringRef = 2 ∷ []
results op.ReadChar = 2 ∷ 7 ∷ []
results op.PeekChar = 2 ∷ 7 ∷ []
results o = []

-- the row of an operand
abbrev pub operand : Flow → List ℕ → (place : ℕ) → ℕ
operand f ys k = row f (Var (item_or 0 (slice_get ys k)))

abbrev pub result_rules : Operation → (atoms : List ℕ) → List Rule
result_rules d atoms = map (λ a. atom_in d.guard a d.value) atoms

-- an object that holds what stands in one row
abbrev pub one_rules : Flow → Operation → (from : ℕ) → List Rule
one_rules f d from = atom_in d.guard d.made d.value ∷ within d.guard from (row f (PartOf d.made 0)) ∷ []

abbrev pub making_rules : Flow → Operation → Op → List ℕ → List Rule
making_rules f d op.Cons ys =
    atom_in d.guard d.made d.value
    ∷ within d.guard (operand f ys 0) (row f (PartOf d.made 0))
    ∷ within d.guard (operand f ys 1) (row f (PartOf d.made 1))
    ∷ []
making_rules f d op.MakeVector ys = one_rules f d (operand f ys 1)
making_rules f d op.MakeSymbol ys = one_rules f d (operand f ys 0)
making_rules f d op.MakeString ys = atom_in d.guard d.made d.value ∷ []
making_rules f d o ys = []

-- for each of these atoms: where the row has it, what stands at a place of its objects is in the value
abbrev pub read_rules : Flow → Operation → (atoms : List ℕ) → (from place : ℕ) → List Rule
read_rules f d atoms from k = map (λ a. within (also (Has from a) d.guard) (row f (PartOf a k)) d.value) atoms

-- an operation that reads a part of what stands in a row; a literal symbol's name is no such part
abbrev pub reading_rules : Flow → Operation → Op → (from : ℕ) → List Rule
reading_rules f d op.Car from = read_rules f d f.pairs from 0
reading_rules f d op.Cdr from = read_rules f d f.pairs from 1
reading_rules f d op.VectorRef from = read_rules f d f.vectors from 0
reading_rules f d op.SymbolName from =
    atom_in (also (Has from 8) d.guard) 9 d.value ∷ read_rules f d f.symbols from 0
reading_rules f d o from = []

-- for each of these atoms: where the row has it, what is written is at a place of its objects
abbrev pub write_rules : Flow → Guard → (atoms : List ℕ) → (to from place : ℕ) → List Rule
write_rules f g atoms to from k = map (λ a. within (also (Has to a) g) from (row f (PartOf a k))) atoms

-- an operation that writes to its first operand, which no literal takes
abbrev pub writing_rules : Flow → Operation → Op → List ℕ → List Rule
writing_rules f d op.SetCar ys = write_rules f d.guard f.fresh_pairs (operand f ys 0) (operand f ys 1) 0
writing_rules f d op.SetCdr ys = write_rules f d.guard f.fresh_pairs (operand f ys 0) (operand f ys 1) 1
writing_rules f d op.VectorSet ys = write_rules f d.guard f.fresh_vectors (operand f ys 0) (operand f ys 2) 0
writing_rules f d o ys = []

abbrev pub prim_rules : Flow → Operation → Op → List ℕ → List Rule
prim_rules f d o ys =
    result_rules d (results o)
    ++ (making_rules f d o ys ++ (reading_rules f d o (operand f ys 0) ++ writing_rules f d o ys))

-- Calls: operands are given as rows.

abbrev pub takes_of : Option ℕ → (params operands : ℕ) → Bool
takes_of None m n = nat_eq m n
takes_of (Some x) m n = nat_le m n

-- whether a procedure takes so many operands
abbrev pub takes : Entry → (operands : ℕ) → Bool
takes e n = takes_of e.rest (length e.params) n

-- a rest list of so many operands
abbrev pub list_rules : Flow → Guard → Entry → (rest : ℕ) → (operands : ℕ) → List Rule
list_rules f g e x zero = atom_in g 5 (row f (Var x)) ∷ []
list_rules f g e x (suc zero) =
    atom_in g e.list (row f (Var x)) ∷ atom_in g 5 (row f (PartOf e.list 1)) ∷ []
list_rules f g e x (suc (suc n)) =
    atom_in g e.list (row f (Var x))
    ∷ atom_in g 5 (row f (PartOf e.list 1))
    ∷ atom_in g e.list (row f (PartOf e.list 1))
    ∷ []

abbrev pub rest_with : Flow → Guard → Entry → Option ℕ → (operands : List ℕ) → List Rule
rest_with f g e None ys = []
rest_with f g e (Some x) ys = map (λ y. within g y (row f (PartOf e.list 0))) ys ++ list_rules f g e x (length ys)

-- the operands past the parameters, and the list of them
abbrev pub rest_rules : Flow → Guard → Entry → (operands : List ℕ) → List Rule
rest_rules f g e ys = rest_with f g e e.rest ys

abbrev pub operand_rules : Flow → Guard → Entry → (params operands : List ℕ) → List Rule
operand_rules f g e [] ys = rest_rules f g e ys
operand_rules f g e (x ∷ xs) [] = []
operand_rules f g e (x ∷ xs) (y ∷ ys) = within g y (row f (Var x)) ∷ operand_rules f g e xs ys

-- a procedure that is entered is reached, and its result comes back
abbrev pub leave_rules : Flow → Guard → Entry → (value : ℕ) → List Rule
leave_rules f g e value =
    atom_in g 0 (row f (Reach e.block)) ∷ within g (row f (Result e.block)) value ∷ []

-- what stands where the operator's row has an atom
abbrev pub calling : Site → (atom : ℕ) → Guard
calling s a = also (Has s.operator a) s.guard

abbrev pub enter_rules : Flow → Site → (operands : List ℕ) → Entry → List Rule
enter_rules f s ys e =
    if takes e (length ys)
    then operand_rules f (calling s e.atom) e e.params ys ++ leave_rules f (calling s e.atom) e s.value
    else []

-- an operand is the value of the step whose continuation is called
abbrev pub resume_rules : Flow → Site → (operand : ℕ) → List Rule
resume_rules f s y = map (λ a. within (calling s a) y (row f (Var (continuing (slice_get f.kinds a))))) f.continuations

abbrev pub resume_one : Flow → Site → (operands : List ℕ) → List Rule
resume_one f s (y ∷ []) = resume_rules f s y
resume_one f s ys = []

abbrev pub call_rules : Flow → Site → (operands : List ℕ) → List Rule
call_rules f s ys = flat_map (enter_rules f s ys) f.entries ++ resume_one f s ys

-- a pair of which a list may be made
abbrev pub spine_pair : Flow → Guard → (spine items : ℕ) → (atom : ℕ) → List Rule
spine_pair f g spine items a =
    within (also (Has spine a) g) (row f (PartOf a 1)) spine
    ∷ within (also (Has spine a) g) (row f (PartOf a 0)) items
    ∷ []

abbrev pub spine_rules : Flow → Guard → (spine items : ℕ) → List Rule
spine_rules f g spine items = flat_map (spine_pair f g spine items) f.pairs

-- a rest list of any length
abbrev pub any_list_with : Flow → Guard → Entry → Option ℕ → (items : ℕ) → List Rule
any_list_with f g e None items = []
any_list_with f g e (Some x) items =
    within g items (row f (PartOf e.list 0))
    ∷ atom_in g e.list (row f (Var x))
    ∷ atom_in g 5 (row f (Var x))
    ∷ atom_in g 5 (row f (PartOf e.list 1))
    ∷ atom_in g e.list (row f (PartOf e.list 1))
    ∷ []

abbrev pub any_list_rules : Flow → Guard → Entry → (items : ℕ) → List Rule
any_list_rules f g e items = any_list_with f g e e.rest items

-- a procedure that is entered with any number of operands
abbrev pub applied : Flow → Site → (items : ℕ) → Entry → List Rule
applied f s items e =
    map (λ x. within (calling s e.atom) items (row f (Var x))) e.params
    ++ (any_list_rules f (calling s e.atom) e items ++ leave_rules f (calling s e.atom) e s.value)

abbrev pub apply_rules : Flow → Site → (items : ℕ) → List Rule
apply_rules f s items = flat_map (applied f s items) f.entries ++ resume_rules f s items

-- Steps

-- the variable whose value is the block's
abbrev pub ending : {L : Type 0} → Code L → Option ℕ
ending (Ends value) = value
ending (Then l vars act rest) = ending rest

-- a value that goes to a row, if there is one
abbrev pub value_rules : Flow → Guard → Option ℕ → (to : ℕ) → List Rule
value_rules f g None to = []
value_rules f g (Some y) to = within g (row f (Var y)) to ∷ []

-- the atom of a procedure's closures
abbrev pub closure_atom : (proc : ℕ) → ℕ
closure_atom q = 9 + q

abbrev pub fix_rules : Flow → Guard → (vars procs : List ℕ) → List Rule
fix_rules f g [] qs = []
fix_rules f g (x ∷ xs) [] = []
fix_rules f g (x ∷ xs) (q ∷ qs) = atom_in g (closure_atom q) (row f (Var x)) ∷ fix_rules f g xs qs

-- where a step stands, whose site and first arm have these numbers
abbrev pub spot_of : Flow → Guard → (site arm : ℕ) → (vars : List ℕ) → Spot
spot_of f g site arm vars =
    record { guard = g; made = 10 + site; arm = arm; var = single vars; row = row f (Var (single vars)) }

abbrev pub operation_of : Spot → Operation
operation_of s = record { guard = s.guard; made = s.made; value = s.row }

abbrev pub site_of : Flow → Spot → (operator : ℕ) → Site
site_of f s g = record { guard = s.guard; operator = row f (Var g); value = s.row }

-- an assignment
abbrev pub set_rules : Flow → Spot → (from to : ℕ) → List Rule
set_rules f s y to = within s.guard (row f (Var y)) to ∷ atom_in s.guard 6 s.row ∷ []

-- which arms are reached, and their values
abbrev pub choice_rules : Flow → Spot → (test : ℕ) → (this that : Option ℕ) → List Rule
choice_rules f s v this that =
    atom_in (also (Other (row f (Var v)) 3) s.guard) 0 (row f (Reach s.arm))
    ∷ atom_in (also (Has (row f (Var v)) 3) s.guard) 0 (row f (Reach (s.arm + 1)))
    ∷ (value_rules f (also (Has (row f (Reach s.arm)) 0) s.guard) this s.row
    ++ value_rules f (also (Has (row f (Reach (s.arm + 1))) 0) s.guard) that s.row)

abbrev pub const_rules : Flow → List Lit → Spot → (l : ℕ) → List Rule
const_rules f lits s l = atom_in s.guard (number_at f.lits l) s.row ∷ held_rules f lits l

abbrev pub call_step_rules : Flow → Spot → (operator : ℕ) → (operands : List ℕ) → List Rule
call_step_rules f s g ys = call_rules f (site_of f s g) (map (number_at f.vars) ys)

abbrev pub apply_step_rules : Flow → Spot → (operator list : ℕ) → List Rule
apply_step_rules f s g y =
    within s.guard (row f (Var y)) (row f (Spine s.var))
    ∷ (spine_rules f s.guard (row f (Spine s.var)) (row f (Items s.var))
    ++ apply_rules f (site_of f s g) (row f (Items s.var)))

abbrev pub callcc_step_rules : Flow → Spot → (operator : ℕ) → List Rule
callcc_step_rules f s g =
    atom_in s.guard s.made (row f (Given s.var)) ∷ call_rules f (site_of f s g) (row f (Given s.var) ∷ [])

abbrev pub box_rules : Flow → Spot → (from : ℕ) → List Rule
box_rules f s y = atom_in s.guard s.made s.row ∷ within s.guard (row f (Var y)) (row f (Inside s.var)) ∷ []

-- a step's rules, those of its arms' steps aside
abbrev pub own_rules : {L : Type 0} → Flow → List Lit → Spot → (vars : List ℕ) → Act L → List Rule
own_rules f lits s vars (Const l) = const_rules f lits s l
own_rules f lits s vars (Copy y) = within s.guard (row f (Var y)) s.row ∷ []
own_rules f lits s vars (Prim o ys) = prim_rules f (operation_of s) o ys
own_rules f lits s vars (Call g ys) = call_step_rules f s g ys
own_rules f lits s vars (Apply g y) = apply_step_rules f s g y
own_rules f lits s vars (CallCC g) = callcc_step_rules f s g
own_rules f lits s vars (If v this that) = choice_rules f s v (ending this) (ending that)
own_rules f lits s vars (Closure q) = atom_in s.guard (closure_atom q) s.row ∷ []
own_rules f lits s vars (Fix qs) = fix_rules f s.guard vars qs
own_rules f lits s vars (MakeBox y) = box_rules f s y
own_rules f lits s vars MakeHole = atom_in s.guard s.made s.row ∷ []
own_rules f lits s vars (Unbox b checked) = within s.guard (row f (Inside b)) s.row ∷ []
own_rules f lits s vars (SetBox b y) = set_rules f s y (row f (Inside b))
own_rules f lits s vars (TopGet g checked) = within s.guard (row f (Top g)) s.row ∷ []
own_rules f lits s vars (TopSet g y checked) = set_rules f s y (row f (Top g))
own_rules f lits s vars (TopDefine g y) = set_rules f s y (row f (Top g))
