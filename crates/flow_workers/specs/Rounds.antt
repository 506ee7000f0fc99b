-- What a round leaves, which blocks the next one may skip, and what the workers answer in the end.
use Rattle.std.specs.Prelude.{ℕ, List, Option, Some, None, ◌≡◌, ◌+◌, ◌*◌, ◌/◌, ◌≤◌, ◌<◌, ◌↔◌, length, slice_get}
use Rattle.std.specs.Int.{div_ceil}
use Rattle.bit_rows.specs.Members.{IsMember}
use Rattle.flow_form.specs.declared.constraints.Constraints.{Constraints}
use Rattle.flow_form.specs.declared.rule.Give.{Give}
use Rattle.flow_form.specs.declared.rule.Give.TheVariants.{Atom, Row}
use Rattle.flow_form.specs.declared.rule.Rule.{Rule}
use Rattle.flow_form.specs.declared.rule.Test.{Test}
use Rattle.flow_form.specs.declared.rule.Test.TheVariants.{Has, Other}
use Rattle.flow_form.specs.Least.{Closed, Given, GivenByBlock, IsChain, Nothing, Stage, Within}
use Rattle.flow_form.specs.Shape.{HoldsLeast, In, done_size_of, pairs_in, size_of}
use Rattle.type_table.specs.Tables.{Answer, IsAnswer}

-- ---- a round

-- what the rules of these blocks give in a set of words stands in it
abbrev pub AreSettled : Constraints → (words settled : List ℕ) → Type 0
AreSettled c words settled =
    (block : ℕ) → IsMember settled block → Within (GivenByBlock c.rules block (In c words)) (In c words)

-- a round from a base: the rows have the base, and all that the rules give in the base
pub record IsRound (c : Constraints) (base : List ℕ) (rounds : ℕ) (left : Answer) : Type 0 where
  pub same_constraints : left.constraints ≡ c
  pub same_rounds : left.rounds ≡ rounds
  pub above : Within (In c base) (In c left.rows.words)
  pub given : Within (Given c.rules (In c base)) (In c left.rows.words)

-- ---- the rows that grew, and what reads none of them

-- a bit for each row
abbrev pub HasRows : Constraints → List ℕ → Type 0
HasRows c grown = c.rows ≤ 64 * length grown

-- all pairs of a row in the one words are in the other
abbrev pub RowWithin : Constraints → (one other : List ℕ) → ℕ → Type 0
RowWithin c one other row = (atom : ℕ) → In c one row atom → In c other row atom

pub record AreGrown (c : Constraints) (before after grown : List ℕ) : Type 0 where
  pub size : HasRows c grown
  pub grew : (row : ℕ) → IsMember grown row → ¬ RowWithin c after before row
  pub rests : (row : ℕ) → ¬ IsMember grown row → RowWithin c after before row

-- a bit for each row: of those from one to before another these are set that have a pair which they had not before
pub record GrewBetween (c : Constraints) (before after : List ℕ) (first end : ℕ) (grown : List ℕ) : Type 0 where
  pub size : length grown ≡ div_ceil c.rows 64
  pub grew : (row : ℕ) → IsMember grown row → (first ≤ row) × (row < end) × ¬ RowWithin c after before row
  pub rests : (row : ℕ) → first ≤ row → row < end → ¬ IsMember grown row → RowWithin c after before row

-- a rule reads the rows of its tests and the row that it gives
abbrev pub TestRests : List ℕ → Option Test → Type 0
TestRests grown None = Unit {0}
TestRests grown (Some (Has row atom)) = ¬ IsMember grown row
TestRests grown (Some (Other row atom)) = ¬ IsMember grown row

abbrev pub GiveRests : List ℕ → Give → Type 0
GiveRests grown (Atom atom) = Unit {0}
GiveRests grown (Row row) = ¬ IsMember grown row

pub record RuleRests (grown : List ℕ) (rule : Rule) : Type 0 where
  pub first : TestRests grown rule.first
  pub second : TestRests grown rule.second
  pub give : GiveRests grown rule.give

-- no rule of the block reads a row that grew
abbrev pub BlockRests : Constraints → (grown : List ℕ) → (block : ℕ) → Type 0
BlockRests c grown block =
    (index : ℕ) (rule : Rule) → index / 1024 ≡ block → slice_get c.rules index ≡ Some rule → RuleRests grown rule

-- a bit for each block: those are set that read no row that grew, from one block to before another
pub record AreRests (c : Constraints) (grown : List ℕ) (first end : ℕ) (settled : List ℕ) : Type 0 where
  pub size : length settled ≡ done_size_of c
  pub exact : (block : ℕ) → IsMember settled block ↔ ((first ≤ block) × (block < end) × BlockRests c grown block)

-- ---- from round to round

-- rows of a round whose base is within them, and which of them grew in it
pub record Reaches (c : Constraints) (left : Answer) (grown : List ℕ) : Type 0 where
  pub base : List ℕ
  pub base_size : length base ≡ size_of c
  pub round : IsRound c base left.rounds left
  pub answer : IsAnswer c left.rows
  pub grows : AreGrown c base left.rows.words grown
  pub some_rounds : 1 ≤ left.rounds
  -- each round before added a pair, and reached a plain step more
  pub rounds_fit : left.rounds ≤ pairs_in base + 1
  pub stages : (steps : ℕ) → steps + 1 ≤ left.rounds → Within (Stage c.rules Nothing steps) (In c base)
  -- no round went on from the least solution
  pub not_late : (steps : ℕ) → Closed c.rules (Stage c.rules Nothing steps) → left.rounds ≤ steps + 1

-- ---- the end

-- the least solution, reached in at least one round and at most one more than the chain has steps
pub record IsSolved (c : Constraints) (left : Answer) : Type 0 where
  pub same_constraints : left.constraints ≡ c
  pub least : HoldsLeast c left.rows
  pub some_rounds : 1 ≤ left.rounds
  pub few_rounds : (steps : ℕ) → IsChain c.rules steps → left.rounds ≤ steps + 1
