-- Valid programs in named form, part by part.
--
-- What is asked of steps and blocks is asked of code with any labels: of the text of a program, and of its
-- procedures as they run. `proofs/Labels` shows that labelling keeps all of it.
use Rattle.std.specs.Prelude.{ℕ, zero, suc, ◌<◌, ◌^◌, ◌≡◌, ◌||◌, List, [], ◌∷◌, ◌++◌, length, slice_get, Option, Some, None, is_some, Bool, true, false, IsTrue, nat_eq}
use Rattle.std.specs.List.{AllByRecursion, IsDistinct, flat_map}
use Rattle.std.specs.Map.{lookup}
use Rattle.scheme_base.specs.declared.env.Env.{Env}
use Rattle.scheme_base.specs.declared.lit.Lit.{Lit}
use Rattle.scheme_base.specs.declared.lit.Lit.TheVariants as lit
use Rattle.scheme_base.specs.declared.op.Op.TheVariants as op
use Rattle.scheme_base.specs.declared.pos.Pos.{Pos}
use Rattle.scheme_base.specs.Constants.{Constant, IsConstant}
use Rattle.scheme_base.specs.Literals.{Laid}
use Rattle.scheme_base.specs.Operands.{operands_of}
use Rattle.scheme_base.specs.Positions.{IsPosition}
use Rattle.scheme_base.specs.Runs.{after}
use Rattle.scheme_base.specs.Values.{Value, Undefined}
use Rattle.named_form.specs.Code.{Code, Ends, Then, Act, Const, Prim, If, Closure, Fix, MakeBox, MakeHole, Unbox, SetBox, TopGet, TopSet, TopDefine, Label, Lambda, Written, bound_in, reads, option_list, closes, closes_in, free_in, but_first, has, program}
use Rattle.named_form.specs.NamedRun.{State, machine, start, content, box_at, value_of}

-- a program in named form: its procedures, how many top-level variables it has, and its literals
pub record Form : Type 0 where
  pub procs : List Written
  pub tops : ℕ
  pub lits : List Lit

-- what is asked of each step, with what stands beside it and the variables that it binds
abbrev pub OfSteps : Type 0 → Type 1
OfSteps L = L → (vars : List ℕ) → Act L → Type 0

-- what is asked of the value of each block
abbrev pub OfValues : Type 1
OfValues = Option ℕ → Type 0

abbrev mutual
  -- each step of a block, those of its arms among them, and the value of each of these blocks
  pub Throughout : {L : Type 0} → OfSteps L → OfValues → Code L → Type 0
  Throughout P Q (Ends value) = Q value
  Throughout P Q (Then l vars act rest) = P l vars act × ThroughoutArms P Q act × Throughout P Q rest

  pub ThroughoutArms : {L : Type 0} → OfSteps L → OfValues → Act L → Type 0
  ThroughoutArms P Q (If test this that) = Throughout P Q this × Throughout P Q that
  ThroughoutArms P Q act = Unit {0}

abbrev pub AnyStep : {L : Type 0} → OfSteps L
AnyStep l vars act = Unit {0}

abbrev pub AnyValue : OfValues
AnyValue value = Unit {0}

-- Numbers name what is there.

abbrev pub NamesIn : {L : Type 0} → Form → OfSteps L
NamesIn f l vars (Const n) = n < length f.lits
NamesIn f l vars (Closure q) = q < length f.procs
NamesIn f l vars (Fix qs) = AllByRecursion (λ q. q < length f.procs) qs
NamesIn f l vars (TopGet g checked) = g < f.tops
NamesIn f l vars (TopSet g y checked) = g < f.tops
NamesIn f l vars (TopDefine g y) = g < f.tops
NamesIn f l vars act = Unit {0}

-- A step binds one variable, a `Fix` one for each procedure. An operation has its number of operands.

abbrev pub Binds : {L : Type 0} → OfSteps L
Binds l vars (Fix qs) = length vars ≡ length qs
Binds l vars act = length vars ≡ 1

abbrev pub Takes : {L : Type 0} → OfSteps L
Takes l vars (Prim op.Apply ys) = ⊥
Takes l vars (Prim op.CallCC ys) = ⊥
Takes l vars (Prim o ys) = length ys ≡ length (operands_of o)
Takes l vars act = Unit {0}

-- Steps and procedures stand at positions.

abbrev pub StandsAt : OfSteps Pos
StandsAt pos vars act = IsPosition pos

abbrev pub RunsAt : OfSteps Label
RunsAt l vars act = IsPosition l.place

abbrev pub Placed : Written → Type 0
Placed p = IsPosition p.pos × Throughout StandsAt AnyValue p.body

-- Values of blocks

abbrev pub IsThere : OfValues
IsThere None = ⊥
IsThere (Some x) = Unit {0}

abbrev pub Defines : {L : Type 0} → Act L → Type 0
Defines (TopDefine g y) = Unit {0}
Defines act = ⊥

abbrev pub NoDefinition : {L : Type 0} → OfSteps L
NoDefinition l vars act = Defines act → ⊥

-- the program's own block: it has no value, while its arms have, and it alone has definitions
abbrev pub IsProgram : {L : Type 0} → Code L → Type 0
IsProgram (Ends value) = value ≡ None
IsProgram (Then l vars act rest) = ThroughoutArms NoDefinition IsThere act × IsProgram rest

-- the position of what stands nowhere in the text
abbrev pub nowhere : Pos
nowhere = record { line = 0; col = 0 }

-- procedure 0 is the program, takes nothing and stands nowhere; the bodies of the others have values and no
-- definitions
abbrev pub Bodies : List Written → Type 0
Bodies [] = ⊥
Bodies (p ∷ ps) =
    (p.params ≡ []) × (p.rest ≡ None) × (p.pos ≡ nowhere) × IsProgram p.body
    × AllByRecursion (λ q. Throughout NoDefinition IsThere q.body) ps

abbrev pub numbers_from : ℕ → (many : ℕ) → List ℕ
numbers_from n zero = []
numbers_from n (suc many) = n ∷ numbers_from (suc n) many

-- Each procedure but 0 is made by one step, of a procedure before it.

abbrev pub LaterOnes : (number : ℕ) → List Written → Type 0
LaterOnes n [] = Unit {0}
LaterOnes n (p ∷ ps) = AllByRecursion (λ q. n < q) (closes_in p.body) × LaterOnes (suc n) ps

abbrev pub all_made : List Written → List ℕ
all_made ps = flat_map (λ p. closes_in p.body) ps

pub record Made (ps : List Written) : Type 0 where
  pub once : IsDistinct nat_eq (all_made ps)
  pub each : AllByRecursion (λ q. IsTrue (has (all_made ps) q)) (numbers_from 1 (length (but_first ps)))
  pub later : LaterOnes 0 ps

-- Each local variable is bound once, and they are numbered in the order of the procedures and their steps.

abbrev pub Numbered : List Written → Type 0
Numbered ps = let xs = flat_map bound_in ps in xs ≡ numbers_from 0 (length xs)

-- Each variable that a procedure reads, or that is free in a procedure of which it makes a closure, is bound
-- before, where this procedure binds it. The program has no free variable.

abbrev pub scope_with : {L : Type 0} → Act L → (vars scope : List ℕ) → List ℕ
scope_with (Fix qs) vars xs = vars ++ xs
scope_with act vars xs = xs

abbrev pub BoundBefore : (own scope : List ℕ) → List ℕ → Type 0
BoundBefore own xs ys = AllByRecursion (λ y. IsTrue (has own y) → IsTrue (has xs y)) ys

abbrev mutual
  pub InScope : {L : Type 0} → List Written → (own scope : List ℕ) → Code L → Type 0
  InScope ps own xs (Ends value) = BoundBefore own xs (option_list value)
  InScope ps own xs (Then l vars act rest) =
      BoundBefore own xs (reads act)
      × BoundBefore own (scope_with act vars xs) (flat_map (free_in (length ps) ps) (closes act))
      × ArmsInScope ps own xs act
      × InScope ps own (vars ++ xs) rest

  pub ArmsInScope : {L : Type 0} → List Written → (own scope : List ℕ) → Act L → Type 0
  ArmsInScope ps own xs (If test this that) = InScope ps own xs this × InScope ps own xs that
  ArmsInScope ps own xs act = Unit {0}

pub record Scoped (ps : List Written) : Type 0 where
  pub closed : free_in (length ps) ps 0 ≡ []
  pub inside : AllByRecursion (λ p. InScope ps (bound_in p) (p.params ++ option_list p.rest) p.body) ps

-- Boxes: a variable that is bound to a box is read as one, and nothing else is.

abbrev pub makes_box : {L : Type 0} → Act L → (vars : List ℕ) → List ℕ
makes_box (MakeBox y) vars = vars
makes_box MakeHole vars = vars
makes_box act vars = []

abbrev mutual
  pub boxes_in : {L : Type 0} → Code L → List ℕ
  boxes_in (Ends value) = []
  boxes_in (Then l vars act rest) = makes_box act vars ++ (boxes_in_arms act ++ boxes_in rest)

  pub boxes_in_arms : {L : Type 0} → Act L → List ℕ
  boxes_in_arms (If test this that) = boxes_in this ++ boxes_in that
  boxes_in_arms act = []

abbrev pub NoneOf : List ℕ → List ℕ → Type 0
NoneOf boxes ys = AllByRecursion (λ y. has boxes y ≡ false) ys

abbrev pub ReadsBoxes : {L : Type 0} → (boxes : List ℕ) → OfSteps L
ReadsBoxes boxes l vars (Unbox b checked) = IsTrue (has boxes b)
ReadsBoxes boxes l vars (SetBox b y) = IsTrue (has boxes b) × NoneOf boxes (y ∷ [])
ReadsBoxes boxes l vars act = NoneOf boxes (reads act)

abbrev pub GivesNoBox : (boxes : List ℕ) → OfValues
GivesNoBox boxes value = NoneOf boxes (option_list value)

-- the variables of a program that are bound to boxes
abbrev pub all_boxes : List Written → List ℕ
all_boxes ps = flat_map (λ p. boxes_in p.body) ps

abbrev pub Boxes : List Written → Type 0
Boxes ps = AllByRecursion (λ p. Throughout (ReadsBoxes (all_boxes ps)) (GivesNoBox (all_boxes ps)) p.body) ps

-- Literals: they are constants, one after another; each constant is laid out by itself and is named by one step
-- alone. The undefined value stands alone, and no step names it.

-- the literals from i up to j, j excluded, are constants whose first literals are these
abbrev pub AreConstants : List Lit → (i : ℕ) → (firsts : List ℕ) → (j : ℕ) → Type 0
AreConstants lits i [] j = j ≡ i
AreConstants lits i (r ∷ rs) j =
    (m : ℕ) × (c : Constant) × (r ≡ i) × IsConstant c × Laid lits i c m × AreConstants lits m rs j

abbrev pub constant : {L : Type 0} → Act L → List ℕ
constant (Const l) = l ∷ []
constant act = []

abbrev mutual
  pub constants_in : {L : Type 0} → Code L → List ℕ
  constants_in (Ends value) = []
  constants_in (Then l vars act rest) = constant act ++ (constants_in_arms act ++ constants_in rest)

  pub constants_in_arms : {L : Type 0} → Act L → List ℕ
  constants_in_arms (If test this that) = constants_in this ++ constants_in that
  constants_in_arms act = []

abbrev pub all_constants : List Written → List ℕ
all_constants ps = flat_map (λ p. constants_in p.body) ps

abbrev pub is_hole : Option Lit → Bool
is_hole (Some lit.Undefined) = true
is_hole l = false

pub record Literals (f : Form) : Type 0 where
  pub firsts : List ℕ
  pub laid : AreConstants f.lits 0 firsts (length f.lits)
  pub named : AllByRecursion (λ l. IsTrue (has firsts l)) (all_constants f.procs)
  pub needed : AllByRecursion (λ l. IsTrue (is_hole (slice_get f.lits l) || has (all_constants f.procs) l)) firsts
  pub apart : IsDistinct nat_eq (all_constants f.procs)
  pub defined : AllByRecursion (λ l. is_hole (slice_get f.lits l) ≡ false) (all_constants f.procs)

-- Procedures and local variables have numbers of 32 bits.

pub record Counted (ps : List Written) : Type 0 where
  pub procs : length ps < 2 ^ 32
  pub vars : length (flat_map bound_in ps) < 2 ^ 32

-- all that is said of the text of a program
pub record WellFormed (f : Form) : Type 0 where
  pub names : AllByRecursion (λ p. Throughout (NamesIn f) AnyValue p.body) f.procs
  pub binds : AllByRecursion (λ p. Throughout Binds AnyValue p.body) f.procs
  pub takes : AllByRecursion (λ p. Throughout Takes AnyValue p.body) f.procs
  pub placed : AllByRecursion Placed f.procs
  pub counted : Counted f.procs
  pub bodies : Bodies f.procs
  pub made : Made f.procs
  pub numbered : Numbered f.procs
  pub scoped : Scoped f.procs
  pub boxes : Boxes f.procs
  pub literals : Literals f

-- The same of a procedure as it runs: number q of a well-formed program.

abbrev pub Valued : {L : Type 0} → (proc : ℕ) → Code L → Type 0
Valued zero c = IsProgram c
Valued (suc q) c = Throughout NoDefinition IsThere c

pub record RunsWell (f : Form) (q : ℕ) (p : Lambda) : Type 0 where
  pub free : p.free ≡ free_in (length f.procs) f.procs q
  pub names : Throughout (NamesIn f) AnyValue p.body
  pub binds : Throughout Binds AnyValue p.body
  pub takes : Throughout Takes AnyValue p.body
  pub placed : Throughout RunsAt AnyValue p.body
  pub values : Valued q p.body
  pub later : AllByRecursion (λ r. q < r) (closes_in p.body)
  pub scoped : InScope f.procs p.bound (p.params ++ option_list p.rest) p.body
  pub boxes : Throughout (ReadsBoxes (all_boxes f.procs)) (GivesNoBox (all_boxes f.procs)) p.body

-- What a step takes without a check is there.

abbrev pub is_defined : Value → Bool
is_defined Undefined = false
is_defined v = true

abbrev pub sure : State → Act Label → Bool
sure s (Unbox b false) = is_defined (content (box_at s.world (value_of s.now.activation.vars b)))
sure s (TopGet g false) = is_some (lookup (nat_eq g) s.world.tops)
sure s (TopSet g y false) = is_some (lookup (nat_eq g) s.world.tops)
sure s act = true

abbrev pub sure_of : State → Code Label → Bool
sure_of s (Ends value) = true
sure_of s (Then l vars act rest) = sure s act

-- the step that is next takes nothing without a check that is not there
abbrev pub sure_next : State → Bool
sure_next s = sure_of s s.now.block

pub record Valid (f : Form) : Type 0 where
  pub form : WellFormed f
  pub sure :
      (env : Env) (n : ℕ)
      → IsTrue (sure_next (after (machine (program f.procs f.lits) env) n (start (program f.procs f.lits) env)))
