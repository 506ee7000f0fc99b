-- What contracts see of a table, of its passes, and of what it leaves when it is closed.
pub use Rattle.std.specs.Coded.{codes}
use Rattle.std.specs.Prelude.{ℕ, List, [], Option, Some, None, true, ◌≡◌, ◌+◌, ◌↔◌, length, replicate}
use Rattle.atomic_table.specs.Seated.{TableId}
use Rattle.atomic_table.specs.Table.{Me}
use Rattle.bit_rows.specs.Members.{IsMember}
use Rattle.flow_form.specs.declared.constraints.Constraints.{Constraints}
use Rattle.flow_form.specs.declared.event.Worker.{Worker}
use Rattle.flow_form.specs.declared.rows.Rows.{Rows}
use Rattle.flow_form.specs.Least.{Least, Within}
use Rattle.flow_form.specs.Race.{IsBetween, IsKept}
use Rattle.flow_form.specs.Shape.{HasShape, In, done_size_of, size_of, stride_of}
use Rattle.type_table.specs.SharedWords.{IsOwn, first_view, with_worker}
use Rattle.type_table.specs.declared.shared_words.View.{View}

-- which table it is, the constraints and the base that it was opened with, and the rounds of its answer
pub record Opened : Type 0 where
  pub table : TableId
  pub constraints : Constraints
  pub base : List ℕ
  pub rounds : ℕ

-- the table that a pass belongs to, and what the pass knows
pub record Held : Type 0 where
  pub table : TableId
  pub view : View

-- a pass is of a table
pub record IsOf (pass : Held) (opened : Opened) : Type 0 where
  pub same_table : pass.table ≡ opened.table
  pub own : IsOwn opened.constraints opened.base pass.view

-- a pass whose worker now knows this
abbrev pub knowing : Held → Worker → Held
knowing pass worker = record pass { view = with_worker pass.view worker }

-- rows of bits with the same members
abbrev pub SameMembers : List ℕ → List ℕ → Type 0
SameMembers one other = (k : ℕ) → IsMember one k ↔ IsMember other k

-- a seat that holds no slot and whose view is not spent, and the blocks that it has done
pub record IsHeld (me : Me ℕ View) (done : List ℕ) : Type 0 where
  pub no_slots : me.1 ≡ []
  pub live : me.0.live ≡ true
  pub done_noted : SameMembers done me.0.worker.done
  pub done_size : length done ≡ done_size_of me.0.constraints

-- what a closed table leaves: the constraints, the base and the rows, and the rounds that led to them
pub record Answer : Type 0 where
  pub constraints : Constraints
  pub base : List ℕ
  pub rows : Rows
  pub rounds : ℕ

-- rows of the shape of the constraints that lie within the least solution
pub record IsAnswer (c : Constraints) (rows : Rows) : Type 0 where
  pub shape : HasShape c rows
  pub within : Within (In c rows.words) (Least c.rules)

-- a table of the words of the rows and the count of the claims, with no slot, which was opened with a
-- base within the least solution, and the room for its answer
pub record IsOpen (table : TableId) (c : Constraints) (base room : List ℕ) (stride : ℕ) : Type 0 where
  pub words : table.words ≡ size_of c + 1
  pub slots : table.slots ≡ 0
  pub within : Within (In c base) (Least c.rules)
  pub room_size : length room ≡ size_of c
  pub room_stride : stride ≡ stride_of c

-- a table that has just been opened, and its first pass
pub record IsStart (c : Constraints) (base : List ℕ) (rounds : ℕ) (opened : Opened) (pass : Held) : Type 0 where
  pub same_constraints : opened.constraints ≡ c
  pub same_base : opened.base ≡ base
  pub same_rounds : opened.rounds ≡ rounds
  pub of : IsOf pass opened
  pub knows_nothing : pass.view ≡ first_view c base

-- the shared words of constraints and a base, and the seat that they are opened with
pub record IsShared (c : Constraints) (base : List ℕ) (table : TableId) (of : Constraints) (from : List ℕ) (seat : TableId) (me : Me ℕ View) : Type 0 where
  pub words : table.words ≡ size_of c + 1
  pub slots : table.slots ≡ 0
  pub same_constraints : of ≡ c
  pub same_base : from ≡ base
  pub same_table : seat ≡ table
  pub knows_nothing : me ≡ (first_view c base, [])

-- the base of a table that is opened from what another left, and the rounds of its answer
abbrev pub base_of : Constraints → Option Answer → List ℕ
base_of c None = replicate (size_of c) 0
base_of c (Some last) = last.rows.words

abbrev pub rounds_of : Option Answer → ℕ
rounds_of None = 1
rounds_of (Some last) = last.rounds + 1

-- what a table leaves that is closed with a pass: rows between the base and the least solution from it,
-- in which all that the pass has loaded and grown stands, and all that its done blocks give from the base
pub record Leaves (opened : Opened) (pass : Held) (left : Answer) : Type 0 where
  pub same_constraints : left.constraints ≡ opened.constraints
  pub same_base : left.base ≡ opened.base
  pub same_rounds : left.rounds ≡ opened.rounds
  pub between : IsBetween opened.constraints opened.base left.rows.words
  pub kept : IsKept opened.constraints opened.base left.rows.words pass.view.worker
