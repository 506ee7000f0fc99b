-- The rule of the shared words: at every moment the words of a table and the views of its passes are a
-- state that the race reaches, and each step of a pass is one move of the race.
--
-- The words are those of the rows and one more, which counts the claims.
use Rattle.std.specs.Prelude.{ℕ, Bool, true, false, List, [], Option, Some, None, ◌≡◌, ◌+◌, ◌*◌, ◌/◌, ◌%◌, bit_or, length, map, slice_index, take}
use Rattle.std.specs.Int.{bit_at}
use Rattle.std.proofs.Math.Nat.{le_refl, le-add_right}
use Rattle.std.proofs.lemmas.Option.{none-some}
use mathlib.Core.Option.{some}
use lib.ListN.{get_elem?}
use Rattle.atomic_table.specs.Table.{State, Step, Me}
use Rattle.flow_form.specs.declared.constraints.Constraints.{Constraints}
use Rattle.flow_form.specs.declared.event.Worker.{Worker}
use Rattle.flow_form.specs.Least.{Pairs, LeastFrom}
use Rattle.flow_form.specs.Race.{State as Race, Move, Runs, Seen, MaskWithin, new_worker, loading, growing, finishing, joined, start}
use Rattle.flow_form.specs.Shape.{In, done_size_of, size_of, stride_of}
use Rattle.type_table.specs.declared.shared_words.View.{View}

-- ---- views

-- the view of the pass that a table is opened with
abbrev pub first_view : Constraints → (base : List ℕ) → View
first_view c base = record { live = true; constraints = c; base = base; worker = new_worker c }

-- one row of one atom, and no rule
abbrev pub no_constraints : Constraints
no_constraints =
    record {
      rows = 1;
      atoms = 1;
      rules = [];
      valid = record {
        few = record {
          some_rows = le_refl 1;
          few_rows = le-add_right 1 65535;
          some_atoms = le_refl 1;
          few_atoms = le-add_right 1 8191;
          few_words = le-add_right 1 4194303;
          few_rules = le-add_right 0 8388608;
        };
        named = λ at rule listed. absurd (none-some rule listed);
      };
    }

-- the view of a pass that another has taken in
abbrev pub spent_view : View
spent_view =
    record {
      live = false;
      constraints = no_constraints;
      base = [];
      worker = record { loaded = []; grown = []; done = [] };
    }

-- the view of a pass that has taken in another
abbrev pub joined_view : View → View → View
joined_view view other = record view { worker = joined view.worker other.worker }

abbrev pub with_worker : View → Worker → View
with_worker view worker = record view { worker = worker }

-- ---- the race

abbrev pub worker_if : Bool → Worker → Option Worker
worker_if true worker = Some worker
worker_if false worker = None

-- the worker that a view is; that of a spent view is gone
abbrev pub worker_of : View → Option Worker
worker_of view = worker_if view.live view.worker

-- the state of the race that a table is
abbrev pub race_of : Constraints → (base : List ℕ) → State ℕ View → Race
race_of c base s =
    record {
      constraints = c;
      base = base;
      words = take (size_of c) s.words;
      claims = slice_index s.words (size_of c);
      workers = map worker_of s.views;
    }

-- ---- the rule

-- a view of these constraints and this base
pub record IsOwn (c : Constraints) (base : List ℕ) (view : View) : Type 0 where
  pub same_constraints : view.constraints ≡ c
  pub same_base : view.base ≡ base
  pub loaded_size : length view.worker.loaded ≡ size_of c
  pub grown_size : length view.worker.grown ≡ size_of c
  pub done_size : length view.worker.done ≡ done_size_of c

pub record IsRuled (c : Constraints) (base : List ℕ) (s : State ℕ View) : Type 0 where
  pub size : length s.words ≡ size_of c + 1
  pub owned : (seat : ℕ) (view : View) → get_elem? s.views seat ≡ some view → view.live ≡ true → IsOwn c base view
  pub moves : List Move
  pub reached : Runs (start c base 1) moves (race_of c base s)

-- ---- what a step finds

-- each pair of a set that lies in the word at a place has its bit there
abbrev pub HasPairs : Constraints → (at word : ℕ) → Pairs → Type 0
HasPairs c at word S =
    (row atom : ℕ) → S row atom → row * stride_of c + atom / 64 ≡ at → bit_at word (atom % 64) ≡ 1

-- a word that is found at a place has what the base has there and what this worker has loaded and grown
-- of it, and lies within the least solution from the base
pub record IsFresh (c : Constraints) (base : List ℕ) (worker : Worker) (at found : ℕ) : Type 0 where
  pub has_base : HasPairs c at found (In c base)
  pub has_seen : HasPairs c at found (Seen c worker)
  pub within : MaskWithin c at found (LeastFrom c.rules (In c base))

-- ---- the steps of a pass, each told of the pass before and after

abbrev pub Loads : Step ℕ → Me ℕ View → ℕ → Me ℕ View → Type 0
Loads s me found after =
    IsFresh me.0.constraints me.0.base me.0.worker s.word found
    × (after ≡ (with_worker me.0 (loading s.word found me.0.worker), me.1))

abbrev pub Grows : Step ℕ → Me ℕ View → ℕ → Me ℕ View → Type 0
Grows s me found after =
    IsFresh me.0.constraints me.0.base me.0.worker s.word found
    × (after ≡ (with_worker me.0 (growing s.word (bit_or s.first found) me.0.worker), me.1))

abbrev pub Finishes : (block : ℕ) → Step ℕ → Me ℕ View → ℕ → Me ℕ View → Type 0
Finishes block s me found after = after ≡ (with_worker me.0 (finishing block me.0.worker), me.1)

abbrev pub Claims : Step ℕ → Me ℕ View → ℕ → Me ℕ View → Type 0
Claims s me found after = after ≡ me
