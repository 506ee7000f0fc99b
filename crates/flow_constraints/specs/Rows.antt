-- The rows of a program, each by what it is of.
use Rattle.std.specs.Prelude.{ℕ, ◌+◌, List, Option, Some, slice_get}
use Rattle.scheme_base.specs.Operations.{item_or}
use Rattle.flow_constraints.specs.declared.flow.Flow.{Flow}
use Rattle.flow_constraints.specs.declared.flow.Kind.{Kind}
use Rattle.flow_constraints.specs.declared.flow.Kind.TheVariants.{Pair, Vector, Symbol, Continuation}

-- Local variables, top-level variables, blocks and atoms are named by their numbers. A step is named by the
-- variable that it binds.
pub data Row : Type 0 where
  -- the values of a top-level variable
  Top : (top : ℕ) → Row
  -- whether a block is reached
  Reach : (block : ℕ) → Row
  -- the results of the procedure whose body is this block
  Result : (block : ℕ) → Row
  -- the values of a local variable
  Var : (var : ℕ) → Row
  -- what stands at a place of the objects of an atom: of pairs the car at 0, the cdr at 1
  Part : (atom place : ℕ) → Row
  -- what is in the boxes that a variable is bound to
  Inside : (var : ℕ) → Row
  -- the list of an `Apply` with all its cdrs, and the items of that list
  Spine : (var : ℕ) → Row
  Items : (var : ℕ) → Row
  -- the continuation that a `CallCC` gives to what it calls
  Given : (var : ℕ) → Row

-- the number at a place of a list
abbrev pub number_at : List ℕ → (place : ℕ) → ℕ
number_at xs n = item_or 0 (slice_get xs n)

-- the first row of what the objects of an atom hold
abbrev pub contents_row : Option Kind → ℕ
contents_row (Some (Pair row literal)) = row
contents_row (Some (Vector row literal)) = row
contents_row (Some (Symbol row)) = row
contents_row kind = 0

-- the variable that the continuations of an atom give its value
abbrev pub continuing : Option Kind → ℕ
continuing (Some (Continuation var)) = var
continuing kind = 0

-- The number of a row. Rows that belong to a step stand behind the row of its variable, and the row of a
-- procedure's results behind that of its body.
abbrev pub row : Flow → Row → ℕ
row f (Top g) = g
row f (Reach b) = number_at f.blocks b
row f (Result b) = number_at f.blocks b + 1
row f (Var x) = number_at f.vars x
row f (Part a k) = contents_row (slice_get f.kinds a) + k
row f (Inside x) = number_at f.vars x + 1
row f (Spine x) = number_at f.vars x + 1
row f (Items x) = number_at f.vars x + 2
row f (Given x) = number_at f.vars x + 1
