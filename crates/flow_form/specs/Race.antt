-- The race: workers that load and grow shared words in any order.
--
-- The words start as a base. A worker may set a bit only where it follows by one rule from what that
-- worker has loaded, and is done with a block of rules only where it has seen all that the block gives
-- from the base. Nothing is said of the order in which the workers move, nor of how many there are.
use Rattle.std.specs.Prelude.{ℕ, zero, suc, List, [], ◌∷◌, ◌++◌, Option, Some, None, ◌≡◌, ◌≢◌, ◌+◌, ◌*◌, ◌/◌, ◌%◌, ◌^◌, ◌<◌, ◌⊎◌, bit_or, length, replicate, slice_get, slice_index, slice_set}
use Rattle.std.specs.Int.{bit_at}
use Rattle.std.specs.Option.{option_map}
use Rattle.bit_rows.specs.Members.{IsMember}
use Rattle.flow_form.specs.declared.constraints.Constraints.{Constraints}
use Rattle.flow_form.specs.declared.event.Event.{Event}
use Rattle.flow_form.specs.declared.event.Event.TheVariants.{Load, Or, Claim, Done}
use Rattle.flow_form.specs.declared.event.Worker.{Worker}
use Rattle.flow_form.specs.Least.{Pairs, Within, Given, GivenByBlock, LeastFrom}
use Rattle.flow_form.specs.Shape.{stride_of, size_of, blocks_of, done_size_of, In}

-- ---- words

-- the words with the bits of a mask set at a place
abbrev pub with_bits : List ℕ → (at mask : ℕ) → List ℕ
with_bits words at mask = slice_set words at (bit_or (slice_index words at) mask)

-- word by word, the bits of both
abbrev pub or_words : List ℕ → List ℕ → List ℕ
or_words [] more = more
or_words (word ∷ words) [] = word ∷ words
or_words (word ∷ words) (more ∷ mores) = bit_or word more ∷ or_words words mores

-- each pair whose bit is set in a mask for the word at a place is in a set
abbrev pub MaskWithin : Constraints → (at mask : ℕ) → Pairs → Type 0
MaskWithin c at mask S =
    (row atom : ℕ) → row < c.rows → atom < 64 * stride_of c → row * stride_of c + atom / 64 ≡ at
    → bit_at mask (atom % 64) ≡ 1 → S row atom

-- ---- workers
abbrev pub new_worker : Constraints → Worker
new_worker c =
    record {
      loaded = replicate (size_of c) 0;
      grown = replicate (size_of c) 0;
      done = replicate (done_size_of c) 0;
    }

-- a worker that has also loaded a word
abbrev pub loading : (at word : ℕ) → Worker → Worker
loading at word worker = record worker { loaded = with_bits worker.loaded at word }

-- a worker that has also grown these bits of a word
abbrev pub growing : (at bits : ℕ) → Worker → Worker
growing at bits worker = record worker { grown = with_bits worker.grown at bits }

-- a worker that is also done with a block
abbrev pub finishing : (block : ℕ) → Worker → Worker
finishing block worker = record worker { done = with_bits worker.done (block / 64) (2 ^ (block % 64)) }

-- a worker that has what both had
abbrev pub joined : Worker → Worker → Worker
joined one other =
    record {
      loaded = or_words one.loaded other.loaded;
      grown = or_words one.grown other.grown;
      done = or_words one.done other.done;
    }

-- what a worker has loaded or grown
abbrev pub Seen : Constraints → Worker → Pairs
Seen c worker row atom = In c worker.loaded row atom ⊎ In c worker.grown row atom

-- ---- states

-- the workers are numbered from 0, and a worker that is gone leaves its number empty
pub record State : Type 0 where
  pub constraints : Constraints
  pub base : List ℕ
  pub words : List ℕ
  pub claims : ℕ
  pub workers : List (Option Worker)

-- all words as in the base, and each worker with nothing
abbrev pub start : Constraints → (base : List ℕ) → (workers : ℕ) → State
start c base workers =
    record { constraints = c; base = base; words = base; claims = 0; workers = replicate workers (Some (new_worker c)) }

-- the worker of a number
abbrev pub IsWorker : State → ℕ → Worker → Type 0
IsWorker s number worker = slice_get s.workers number ≡ Some (Some worker)

-- the workers, with a change to the one of a number
abbrev pub changed : (Worker → Worker) → List (Option Worker) → ℕ → List (Option Worker)
changed change [] number = []
changed change (worker ∷ workers) zero = option_map change worker ∷ workers
changed change (worker ∷ workers) (suc number) = worker ∷ changed change workers number

-- ---- events
pub record CanLoad (s : State) (number word : ℕ) : Type 0 where
  pub worker : Worker
  pub worker_there : IsWorker s number worker
  pub word_there : word < length s.words

-- each bit follows by one rule from what the worker has loaded
pub record CanOr (s : State) (number word mask : ℕ) : Type 0 where
  pub worker : Worker
  pub worker_there : IsWorker s number worker
  pub word_there : word < length s.words
  pub follows : MaskWithin s.constraints word mask (Given s.constraints.rules (In s.constraints worker.loaded))

pub record CanClaim (s : State) (number : ℕ) : Type 0 where
  pub worker : Worker
  pub worker_there : IsWorker s number worker

-- what the block's rules give from the base is among what the worker has loaded or grown
pub record CanFinish (s : State) (number block : ℕ) : Type 0 where
  pub worker : Worker
  pub worker_there : IsWorker s number worker
  pub block_there : block < blocks_of s.constraints
  pub seen : Within (GivenByBlock s.constraints.rules block (In s.constraints s.base)) (Seen s.constraints worker)

abbrev pub Legal : State → Event → Type 0
Legal s (Load worker word) = CanLoad s worker word
Legal s (Or worker word mask) = CanOr s worker word mask
Legal s (Claim worker) = CanClaim s worker
Legal s (Done worker block) = CanFinish s worker block

-- the state after an event
abbrev pub after : State → Event → State
after s (Load worker word) = record s { workers = changed (loading word (slice_index s.words word)) s.workers worker }
after s (Or worker word mask) =
    record s {
      words = with_bits s.words word mask;
      workers = changed (growing word (bit_or mask (slice_index s.words word))) s.workers worker;
    }
after s (Claim worker) = record s { claims = (s.claims + 1) % 2 ^ 64 }
after s (Done worker block) = record s { workers = changed (finishing block) s.workers worker }

-- ---- moves: the events, and the two by which a running table makes and takes in workers
pub data Move : Type 0 where
  Acts : Event → Move
  Splits : (worker : ℕ) → Move
  Joins : (worker other : ℕ) → Move

-- the worker of a number, if it is there
abbrev pub worker_at : List (Option Worker) → ℕ → Option Worker
worker_at [] number = None
worker_at (worker ∷ workers) zero = worker
worker_at (worker ∷ workers) (suc number) = worker_at workers number

-- a worker that has also what another had, if that one is there
abbrev pub joining : Option Worker → Worker → Worker
joining None worker = worker
joining (Some other) worker = joined worker other

pub record CanJoin (s : State) (number other : ℕ) : Type 0 where
  pub worker : Worker
  pub worker_there : IsWorker s number worker
  pub second : Worker
  pub second_there : IsWorker s other second
  pub apart : number ≢ other

abbrev pub LegalMove : State → Move → Type 0
LegalMove s (Acts event) = Legal s event
LegalMove s (Splits number) = CanClaim s number
LegalMove s (Joins number other) = CanJoin s number other

-- a split gives a new worker what the one has; a join gives it what both have, and the other is gone
abbrev pub after_move : State → Move → State
after_move s (Acts event) = after s event
after_move s (Splits number) = record s { workers = s.workers ++ worker_at s.workers number ∷ [] }
after_move s (Joins number other) =
    record s {
      workers = slice_set (changed (joining (worker_at s.workers other)) s.workers number) other None;
    }

-- moves lead from one state to another, each of them legal in its turn
abbrev pub Runs : State → List Move → State → Type 0
Runs s [] t = s ≡ t
Runs s (move ∷ moves) t = LegalMove s move × Runs (after_move s move) moves t

-- ---- the law

-- the words lie between the base and the least solution from it
pub record IsBetween (c : Constraints) (base words : List ℕ) : Type 0 where
  pub above : Within (In c base) (In c words)
  pub below : Within (In c words) (LeastFrom c.rules (In c base))

-- what a worker has loaded and grown stands in the words, and so does what its done blocks give
pub record IsKept (c : Constraints) (base words : List ℕ) (worker : Worker) : Type 0 where
  pub loaded : Within (In c worker.loaded) (In c words)
  pub grown : Within (In c worker.grown) (In c words)
  pub done :
      (block : ℕ) → IsMember worker.done block
      → Within (GivenByBlock c.rules block (In c base)) (In c words)

-- no schedule of the workers leads astray
pub record IsSound (c : Constraints) (base : List ℕ) (s : State) : Type 0 where
  pub same_constraints : s.constraints ≡ c
  pub same_base : s.base ≡ base
  pub between : IsBetween c base s.words
  pub kept : (number : ℕ) (worker : Worker) → IsWorker s number worker → IsKept c base s.words worker
