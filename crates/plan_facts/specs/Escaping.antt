-- Sites whose objects may outlive the activation that makes them.
use Rattle.std.specs.Prelude.{ℕ, suc, ◌≡◌, ◌+◌, ◌<◌, List, [], ◌∷◌, length, map, Option, Some, None, is_some, Bool, true, false, IsTrue, slice_get}
use Rattle.scheme_base.specs.declared.op.Op.{Op}
use Rattle.scheme_base.specs.declared.op.Op.TheVariants as op
use Rattle.flow_constraints.specs.declared.flow.Entry.{Entry}
use Rattle.flow_constraints.specs.declared.flow.Flow.{Flow}
use Rattle.flow_constraints.specs.declared.flow.Kind.{Kind}
use Rattle.flow_constraints.specs.declared.flow.Kind.TheVariants.{Boxed, Closure, Pair, Symbol, Vector}
use Rattle.flow_constraints.specs.Rows.{Row, row, Inside, Result, Top, Var}
use Rattle.flow_form.specs.declared.rows.Rows.{Rows}
use Rattle.least_set.specs.Least.{IsLeast, Set, has}
use Rattle.named_form.specs.Code.{closure_site, free_in, makes}
use Rattle.named_form.specs.Valid.{Form}
use Rattle.plan_facts.specs.declared.place.Action.{Action}
use Rattle.plan_facts.specs.declared.place.Action.TheVariants.{Prim, Call, Apply, CallCC, Make, SetBox, NewBox}
use Rattle.plan_facts.specs.declared.place.Place.{Place}
use Rattle.plan_facts.specs.Calls.{is_reached}
use Rattle.plan_facts.specs.Pairs.{holds}
use Rattle.plan_facts.specs.Places.{Facts, facts_of}

-- a step that stands in a reached block
pub record IsReachedStep (k : Facts) (p : Place) : Type 0 where
  pub number : ℕ
  pub there : slice_get k.steps number ≡ Some p
  pub reached : IsTrue (is_reached k.flow k.rows p.block)

-- whether a step makes an object at its site
abbrev pub makes_object : Action → Bool
makes_object (Prim o ys) = makes o
makes_object (NewBox reads) = true
makes_object (CallCC g) = true
makes_object action = false

-- the procedures of which a step makes closures
abbrev pub closes : Action → List ℕ
closes (Make qs) = qs
closes action = []

-- which operand an operation stores in an object, if it stores one
abbrev pub stored_operand : Op → Option ℕ
stored_operand op.SetCar = Some 1
stored_operand op.SetCdr = Some 1
stored_operand op.VectorSet = Some 2
stored_operand o = None

abbrev pub operand_at : List ℕ → Option ℕ → Option ℕ
operand_at ys None = None
operand_at ys (Some n) = slice_get ys n

-- what a step stores in an object or a box, if it stores something
abbrev pub stored : Action → Option ℕ
stored (SetBox b y) = Some y
stored (Prim o ys) = operand_at ys (stored_operand o)
stored action = None

-- what a call hands on
abbrev pub passes_on : Action → List ℕ
passes_on (Call g ys) = g ∷ ys
passes_on (Apply g y) = g ∷ y ∷ []
passes_on (CallCC g) = g ∷ []
passes_on action = []

-- The sites of a procedure: of what its steps make, of the closures that they make, and of its own rest list. A site
-- has the atom `10 + site`.
pub data SiteOf (k : Facts) (proc site : ℕ) : Type 0 where
  Makes :
      (n : ℕ) (p : Place) → slice_get k.steps n ≡ Some p → p.proc ≡ proc → IsTrue (makes_object p.action) → site ≡ p.site
      → SiteOf k proc site
  Closes :
      (n : ℕ) (p : Place) (q : ℕ) → slice_get k.steps n ≡ Some p → p.proc ≡ proc → IsTrue (has (closes p.action) q)
      → site ≡ closure_site q → SiteOf k proc site
  Lists :
      (n : ℕ) (e : Entry) → slice_get k.flow.entries n ≡ Some e → suc n ≡ proc → IsTrue (is_some e.rest)
      → e.list ≡ 10 + site → SiteOf k proc site

pub record IsSite (k : Facts) (site : ℕ) : Type 0 where
  pub proc : ℕ
  pub site_of : SiteOf k proc site

-- a row has the objects of a site
abbrev pub has_site : Facts → Row → (site : ℕ) → Bool
has_site k r s = holds k.rows (row k.flow r) (10 + s)

-- the rows of what the objects of an atom hold, of closures those of the procedure's free variables, which are these
abbrev pub contents : Flow → (free : ℕ → List ℕ) → Option Kind → List ℕ
contents f free (Some (Pair r literal)) = r ∷ (r + 1) ∷ []
contents f free (Some (Vector r literal)) = r ∷ []
contents f free (Some (Symbol r)) = r ∷ []
contents f free (Some (Boxed x)) = row f (Inside x) ∷ []
contents f free (Some (Closure q)) = map (λ x. row f (Var x)) (free q)
contents f free kind = []

abbrev pub contents_of : Facts → Option Kind → List ℕ
contents_of k kind = contents k.flow (free_in (length k.procs) k.procs) kind

-- A set of sites has all that may outlive the activation that makes it, where these procedures are captured.
pub record HasEscaping (tops : ℕ) (k : Facts) (capturing : List ℕ) (sites : Set ℕ) : Type 0 where
  -- what a top-level variable may be
  pub named : (g s : ℕ) → g < tops → IsSite k s → IsTrue (has_site k (Top g) s) → IsTrue (sites s)
  -- what a step stores
  pub stored :
      (p : Place) (x s : ℕ) → IsReachedStep k p → stored p.action ≡ Some x → IsSite k s
      → IsTrue (has_site k (Var x) s) → IsTrue (sites s)
  -- what a tail call hands on, of those of its procedure
  pub passed :
      (p : Place) (x s : ℕ) → IsReachedStep k p → IsTrue p.tail → IsTrue (has (passes_on p.action) x)
      → SiteOf k p.proc s → IsTrue (has_site k (Var x) s) → IsTrue (sites s)
  -- what a procedure gives back, of its own
  pub given :
      (n s : ℕ) (e : Entry) → slice_get k.flow.entries n ≡ Some e → SiteOf k (suc n) s
      → IsTrue (has_site k (Result e.block) s) → IsTrue (sites s)
  pub captured : (q s : ℕ) → IsTrue (has capturing q) → SiteOf k q s → IsTrue (sites s)
  -- the program's own
  pub first : (s : ℕ) → SiteOf k 0 s → IsTrue (sites s)
  -- what the objects of an escaping site hold
  pub held :
      (s t r : ℕ) → IsTrue (sites s) → IsTrue (has (contents_of k (slice_get k.flow.kinds (10 + s))) r) → IsSite k t
      → IsTrue (holds k.rows r (10 + t)) → IsTrue (sites t)

abbrev pub IsEscaping : Form → Rows → (capturing sites : List ℕ) → Type 0
IsEscaping f rows capturing sites = IsLeast (HasEscaping f.tops (facts_of f rows) capturing) (has sites)
