-- A race that is kept in parts, as a state of the race machine.
use Rattle.std.proofs.Common.{ℕ, zero, suc, List, [], ◌∷◌, Option, Some, length, map, get_or, slice_get, slice_set, bit_or, ◌≡◌, ◌/◌, ◌%◌, ◌^◌, ◌<◌, ◌≤◌, ◌⊎◌, ◌↔◌, inl, inr, refl, sym, ◌∙◌, ap, arith, subst, replicate, length-set}
use Rattle.std.proofs.lemmas.Grind.{get_or_default_zero}
use Rattle.std.proofs.lemmas.Option.{get_or_from_slice_get}
use Rattle.flow_form.specs.declared.constraints.Constraints.{Constraints}
use Rattle.flow_form.specs.declared.event.Event.TheVariants.{Load, Or, Done}
use Rattle.flow_form.specs.declared.event.Worker.{Worker}
use Rattle.flow_form.specs.declared.rule.Rule.{Rule}
use Rattle.flow_form.specs.Least.{GivenByBlock, Within}
use Rattle.flow_form.specs.Race.{Seen, CanClaim, CanFinish, CanLoad, CanOr, IsWorker, State, after, changed, finishing, growing, loading, new_worker, start, with_bits}
use Rattle.flow_form.specs.Shape.{In, blocks_of, done_size_of, size_of}
use Rattle.flow_form.specs.Valid.{IsValid, IsValid-prop}
use Rattle.flow_plain.specs.Machine.{IsSized, IsSizedWorker, state_of}

-- ---- workers
worker_in :
    (seats : List Worker) (k : ℕ) (worker : Worker)
    → slice_get seats k ≡ Some worker → slice_get (map (λ w. Some w) seats) k ≡ Some (Some worker)
worker_in [] k worker h = cc
worker_in (first ∷ seats) zero worker h = ap (λ w. Some w) h
worker_in (first ∷ seats) (suc k) worker h = worker_in seats k worker h

worker_out :
    (seats : List Worker) (k : ℕ) (worker : Worker)
    → slice_get (map (λ w. Some w) seats) k ≡ Some (Some worker) → slice_get seats k ≡ Some worker
worker_out [] k worker h = cc
worker_out (first ∷ seats) zero worker h = cc
worker_out (first ∷ seats) (suc k) worker h = worker_out seats k worker h

seat_below : (seats : List Worker) (k : ℕ) (worker : Worker) → slice_get seats k ≡ Some worker → k < length seats
seat_below [] k worker h = cc
seat_below (first ∷ seats) zero worker h = omega arith
seat_below (first ∷ seats) (suc k) worker h = let below : k < length seats = seat_below seats k worker h in omega arith

seat_at : (seats : List Worker) (k : ℕ) → k < length seats → (worker : Worker) × (slice_get seats k ≡ Some worker)
seat_at [] k below = absurd (omega arith)
seat_at (first ∷ seats) zero below = (first, refl)
seat_at (first ∷ seats) (suc k) below = seat_at seats k (omega arith)

changed_at :
    (change : Worker → Worker) (seats : List Worker) (k : ℕ) (worker : Worker) → slice_get seats k ≡ Some worker
    → map (λ w. Some w) (slice_set seats k (change worker)) ≡ changed change (map (λ w. Some w) seats) k
changed_at change [] k worker h = cc
changed_at change (first ∷ seats) zero worker h = cc
changed_at change (first ∷ seats) (suc k) worker h =
    ap (λ rest. Some first ∷ rest) (changed_at change seats k worker h)

set_or :
    (seats : List Worker) (k j : ℕ) (new worker : Worker) → slice_get (slice_set seats k new) j ≡ Some worker
    → (worker ≡ new) ⊎ (slice_get seats j ≡ Some worker)
set_or [] k j new worker h = inr h
set_or (first ∷ seats) zero zero new worker h = inl cc
set_or (first ∷ seats) zero (suc j) new worker h = inr h
set_or (first ∷ seats) (suc k) zero new worker h = inr h
set_or (first ∷ seats) (suc k) (suc j) new worker h = set_or seats k j new worker h

-- ---- a worker of the state is the one that is kept at its number
pub seat_of_worker :
    (s : State) (c : Constraints) (base words : List ℕ) (claims : ℕ) (seats : List Worker) (k : ℕ) (worker : Worker)
    → state_of c base words claims seats ≡ s → IsWorker s k worker → slice_get seats k ≡ Some worker
seat_of_worker s c base words claims seats k worker same there =
    let At : State → Type 0 = λ t. IsWorker t k worker in
    worker_out seats k worker (subst At (sym same) there)

pub worker_of_seat :
    (s : State) (c : Constraints) (base words : List ℕ) (claims : ℕ) (seats : List Worker) (k : ℕ) (worker : Worker)
    → state_of c base words claims seats ≡ s → slice_get seats k ≡ Some worker → IsWorker s k worker
worker_of_seat s c base words claims seats k worker same there =
    let At : State → Type 0 = λ t. IsWorker t k worker in
    subst At same (worker_in seats k worker there)

seat_here :
    (s : State) (c : Constraints) (base words : List ℕ) (claims : ℕ) (seats : List Worker) (k : ℕ) (worker seat : Worker)
    → state_of c base words claims seats ≡ s → IsWorker s k worker → seat ≡ get_or seats k seat
    → slice_get seats k ≡ Some seat
seat_here s c base words claims seats k worker seat same there read =
    let at : slice_get seats k ≡ Some worker = seat_of_worker s c base words claims seats k worker same there in
    at ∙ ap (λ w. Some w) (sym (read ∙ get_or_from_slice_get seats k worker seat at))

-- ---- sizes
sized_set :
    (c : Constraints) (base words : List ℕ) (seats : List Worker) (k : ℕ) (made new : Worker)
    → IsSized c base words seats → new ≡ made → IsSizedWorker c made → IsSized c base words (slice_set seats k new)
sized_set c base words seats k made new h is sized =
    record {
      base_size = h.base_size;
      words_size = h.words_size;
      seats_sized = λ j worker there.
          elim (set_or seats k j new worker there) [
            | inl same ↦ let P : Worker → Type 0 = λ w. IsSizedWorker c w in subst P (sym (same ∙ is)) sized
            | inr old ↦ h.seats_sized j worker old
          ];
    }

pub sized_load :
    (s : State) (c : Constraints) (base words : List ℕ) (claims : ℕ) (seats : List Worker) (k word bits : ℕ)
    (seat new : Worker) → state_of c base words claims seats ≡ s → CanLoad s k word → seat ≡ get_or seats k seat
    → IsSized c base words seats → new ≡ loading word bits seat
    → IsSized c base words (slice_set seats k new)
sized_load s c base words claims seats k word bits seat new whole can read h same =
    let there = seat_here s c base words claims seats k can.worker seat whole can.worker_there read in
    let old = h.seats_sized k seat there in
    sized_set c base words seats k (loading word bits seat) new h same
    record {
      loaded = length-set seat.loaded word (bit_or (get_or seat.loaded word 0) bits) ∙ old.loaded;
      grown = old.grown;
      done = old.done;
    }

pub sized_grow :
    (s : State) (c : Constraints) (base words : List ℕ) (claims : ℕ) (seats : List Worker) (k word mask bits found : ℕ)
    (seat new : Worker) → state_of c base words claims seats ≡ s → CanOr s k word mask → seat ≡ get_or seats k seat
    → IsSized c base words seats → new ≡ growing word bits seat
    → IsSized c base (slice_set words word found) (slice_set seats k new)
sized_grow s c base words claims seats k word mask bits found seat new whole can read h same =
    let there = seat_here s c base words claims seats k can.worker seat whole can.worker_there read in
    let old = h.seats_sized k seat there in
    sized_set c base (slice_set words word found) seats k (growing word bits seat) new
    record {
      base_size = h.base_size;
      words_size = length-set words word found ∙ h.words_size;
      seats_sized = h.seats_sized;
    }
    same
    record {
      loaded = old.loaded;
      grown = length-set seat.grown word (bit_or (get_or seat.grown word 0) bits) ∙ old.grown;
      done = old.done;
    }

pub sized_finish :
    (s : State) (c : Constraints) (base words : List ℕ) (claims : ℕ) (seats : List Worker) (k block : ℕ)
    (seat new : Worker) → state_of c base words claims seats ≡ s → CanFinish s k block → seat ≡ get_or seats k seat
    → IsSized c base words seats → new ≡ finishing block seat
    → IsSized c base words (slice_set seats k new)
sized_finish s c base words claims seats k block seat new whole can read h same =
    let there = seat_here s c base words claims seats k can.worker seat whole can.worker_there read in
    let old = h.seats_sized k seat there in
    sized_set c base words seats k (finishing block seat) new h same
    record {
      loaded = old.loaded;
      grown = old.grown;
      done = length-set seat.done (block / 64) (bit_or (get_or seat.done (block / 64) 0) (2 ^ (block % 64))) ∙ old.done;
    }

-- ---- events
pub state_loaded :
    (s : State) (c : Constraints) (base words : List ℕ) (claims : ℕ) (seats : List Worker) (k word bits : ℕ) (seat new : Worker)
    → state_of c base words claims seats ≡ s → CanLoad s k word → seat ≡ get_or seats k seat
    → bits ≡ get_or words word bits → new ≡ loading word bits seat
    → state_of c base words claims (slice_set seats k new) ≡ after s (Load k word)
state_loaded s c base words claims seats k word bits seat new same can read found step =
    let there = seat_here s c base words claims seats k can.worker seat same can.worker_there read in
    let Below : State → Type 0 = λ t. word < length t.words in
    let below : word < length words = subst Below (sym same) can.word_there in
    let word_is : bits ≡ get_or words word 0 = found ∙ get_or_default_zero words word bits below in
    let After : State → Type 0 = λ t. state_of c base words claims (slice_set seats k new) ≡ after t (Load k word) in
    let workers : map (λ w. Some w) (slice_set seats k new)
    ≡ changed (loading word (get_or words word 0)) (map (λ w. Some w) seats) k =
    ap (λ w. map (λ x. Some x) (slice_set seats k w)) (step ∙ ap (λ b. loading word b seat) word_is)
    ∙ changed_at (loading word (get_or words word 0)) seats k seat there in
    let whole : List (Option Worker) → State =
    λ ws. record { constraints = c; base = base; words = words; claims = claims; workers = ws } in
    subst After same (ap whole workers)

pub state_grown :
    (s : State) (c : Constraints) (base words : List ℕ) (claims : ℕ) (seats : List Worker) (k word mask found : ℕ) (seat new : Worker)
    → state_of c base words claims seats ≡ s → CanOr s k word mask → seat ≡ get_or seats k seat
    → found ≡ get_or words word found → new ≡ growing word (bit_or mask found) seat
    → state_of c base (slice_set words word (bit_or found mask)) claims (slice_set seats k new) ≡ after s (Or k word mask)
state_grown s c base words claims seats k word mask found seat new same can read read_word step =
    let there = seat_here s c base words claims seats k can.worker seat same can.worker_there read in
    let Below : State → Type 0 = λ t. word < length t.words in
    let below : word < length words = subst Below (sym same) can.word_there in
    let word_is : found ≡ get_or words word 0 = read_word ∙ get_or_default_zero words word found below in
    let After : State → Type 0 =
    λ t. state_of c base (slice_set words word (bit_or found mask)) claims (slice_set seats k new) ≡ after t (Or k word mask) in
    let workers : map (λ w. Some w) (slice_set seats k new)
    ≡ changed (growing word (bit_or mask (get_or words word 0))) (map (λ w. Some w) seats) k =
    ap (λ w. map (λ x. Some x) (slice_set seats k w)) (step ∙ ap (λ b. growing word (bit_or mask b) seat) word_is)
    ∙ changed_at (growing word (bit_or mask (get_or words word 0))) seats k seat there in
    let put : slice_set words word (bit_or found mask) ≡ with_bits words word mask =
    ap (λ b. slice_set words word (bit_or b mask)) word_is in
    let with_words : List ℕ → State =
    λ ws. record { constraints = c; base = base; words = ws; claims = claims; workers = map (λ w. Some w) (slice_set seats k new) } in
    let with_workers : List (Option Worker) → State =
    λ ws. record { constraints = c; base = base; words = with_bits words word mask; claims = claims; workers = ws } in
    subst After same (ap with_words put ∙ ap with_workers workers)

pub state_finished :
    (s : State) (c : Constraints) (base words : List ℕ) (claims : ℕ) (seats : List Worker) (k block : ℕ) (seat new : Worker)
    → state_of c base words claims seats ≡ s → CanFinish s k block → seat ≡ get_or seats k seat
    → new ≡ finishing block seat
    → state_of c base words claims (slice_set seats k new) ≡ after s (Done k block)
state_finished s c base words claims seats k block seat new same can read step =
    let there = seat_here s c base words claims seats k can.worker seat same can.worker_there read in
    let After : State → Type 0 = λ t. state_of c base words claims (slice_set seats k new) ≡ after t (Done k block) in
    let workers : map (λ w. Some w) (slice_set seats k new) ≡ changed (finishing block) (map (λ w. Some w) seats) k =
    ap (λ w. map (λ x. Some x) (slice_set seats k w)) step ∙ changed_at (finishing block) seats k seat there in
    let whole : List (Option Worker) → State =
    λ ws. record { constraints = c; base = base; words = words; claims = claims; workers = ws } in
    subst After same (ap whole workers)

-- a block of the state has its bit in the worker's words
pub block_fits :
    (s : State) (c : Constraints) (base words : List ℕ) (claims : ℕ) (seats : List Worker) (k block : ℕ) (seat : Worker)
    → state_of c base words claims seats ≡ s → IsSized c base words seats → CanFinish s k block
    → seat ≡ get_or seats k seat → block / 64 < length seat.done
block_fits s c base words claims seats k block seat same sized can read =
    let there = seat_here s c base words claims seats k can.worker seat same can.worker_there read in
    let done : length seat.done ≡ done_size_of c = (sized.seats_sized k seat there).done in
    let Of : State → Type 0 = λ t. block < blocks_of t.constraints in
    let below : block < blocks_of c = subst Of (sym same) can.block_there in
    omega arith

pub grown_sized :
    (s : State) (c : Constraints) (base words : List ℕ) (claims : ℕ) (seats : List Worker) (k word mask : ℕ) (seat : Worker)
    → state_of c base words claims seats ≡ s → IsSized c base words seats → CanOr s k word mask
    → seat ≡ get_or seats k seat → word < length seat.grown
grown_sized s c base words claims seats k word mask seat same sized can read =
    let there = seat_here s c base words claims seats k can.worker seat same can.worker_there read in
    let grown : length seat.grown ≡ size_of c = (sized.seats_sized k seat there).grown in
    let size : length words ≡ size_of c = sized.words_size in
    let Below : State → Type 0 = λ t. word < length t.words in
    let below : word < length words = subst Below (sym same) can.word_there in
    omega arith

-- ---- whether an event is legal
pub can_claim :
    (s : State) (c : Constraints) (base words : List ℕ) (claims : ℕ) (seats : List Worker) (k : ℕ)
    → state_of c base words claims seats ≡ s → (k < length seats) ↔ CanClaim s k
can_claim s c base words claims seats k same = (
  (λ below.
      let seat = seat_at seats k below in
      record { worker = seat.0; worker_there = worker_of_seat s c base words claims seats k seat.0 same seat.1 }),
  (λ can. seat_below seats k can.worker (seat_of_worker s c base words claims seats k can.worker same can.worker_there)),
)

-- the element that a look-up finds
read_at : (seats : List Worker) (k : ℕ) (seat : Worker) → k < length seats → slice_get seats k ≡ Some (get_or seats k seat)
read_at [] k seat below = absurd (omega arith)
read_at (first ∷ seats) zero seat below = refl
read_at (first ∷ seats) (suc k) seat below = read_at seats k seat (omega arith)

pub seat_found :
    (seats found : List Worker) (k : ℕ) (seat : Worker) → found ≡ seats → k < length found → seat ≡ get_or found k seat
    → slice_get seats k ≡ Some seat
seat_found seats found k seat same below read =
    let P : List Worker → Type 0 = λ list. slice_get list k ≡ Some seat in
    subst P same (read_at found k seat below ∙ ap (λ w. Some w) (sym read))

pub can_finish :
    (s : State) (c : Constraints) (base words : List ℕ) (claims : ℕ) (seats : List Worker) (k block : ℕ) (seat : Worker)
    → state_of c base words claims seats ≡ s → slice_get seats k ≡ Some seat → block < blocks_of c
    → Within (GivenByBlock c.rules block (In c base)) (Seen c seat) ↔ CanFinish s k block
can_finish s c base words claims seats k block seat same there below =
    let Can : State → Type 0 = λ t. CanFinish t k block in (
      (λ seen.
          let can : CanFinish (state_of c base words claims seats) k block =
          record { worker = seat; worker_there = worker_in seats k seat there; block_there = below; seen = seen } in
          subst Can same can),
      (λ can.
          let own : CanFinish (state_of c base words claims seats) k block = subst Can (sym same) can in
          let at : slice_get seats k ≡ Some own.worker = worker_out seats k own.worker own.worker_there in
          let one : own.worker ≡ seat = cc (at, there) in
          let SeenBy : Worker → Type 0 = λ w. Within (GivenByBlock c.rules block (In c base)) (Seen c w) in
          subst SeenBy one own.seen),
    )

pub no_finish :
    (s : State) (c : Constraints) (base words : List ℕ) (claims : ℕ) (seats : List Worker) (k block : ℕ)
    → state_of c base words claims seats ≡ s → length seats ≤ k → CanFinish s k block → ⊥
no_finish s c base words claims seats k block same past can =
    let below : k < length seats =
    seat_below seats k can.worker (seat_of_worker s c base words claims seats k can.worker same can.worker_there) in
    omega arith

-- ---- the start

-- constraints are the same where their parts are, since they are valid in one way only
abbrev made : (rows atoms : ℕ) (rules : List Rule) → IsValid rows atoms rules → Constraints
made rows atoms rules valid = record { rows = rows; atoms = atoms; rules = rules; valid = valid }

same_rules :
    (rows atoms : ℕ) (rules others : List Rule) → rules ≡ others
    → (valid : IsValid rows atoms rules) (other_valid : IsValid rows atoms others)
    → made rows atoms rules valid ≡ made rows atoms others other_valid
same_rules rows atoms rules others same valid =
    let P : List Rule → Type 0 =
    λ list. (v : IsValid rows atoms list) → made rows atoms rules valid ≡ made rows atoms list v in
    subst P same (λ v. ap (λ x. made rows atoms rules x) (IsValid-prop rows atoms rules valid v))

copied :
    (c : Constraints) (rules : List Rule) (valid : IsValid c.rows c.atoms rules) → rules ≡ c.rules
    → made c.rows c.atoms rules valid ≡ c
copied c rules valid same = same_rules c.rows c.atoms rules c.rules same valid c.valid

all_there : (n : ℕ) (worker : Worker) → map (λ w. Some w) (replicate n worker) ≡ replicate n (Some worker)
all_there zero worker = refl
all_there (suc n) worker = ap (λ rest. Some worker ∷ rest) (all_there n worker)

pub state_started :
    (c : Constraints) (rules : List Rule) (valid : IsValid c.rows c.atoms rules) (base words start_words : List ℕ) (seats : List Worker) (workers : ℕ)
    → rules ≡ c.rules → base ≡ start_words → words ≡ start_words → seats ≡ replicate workers (new_worker c)
    → state_of record { rows = c.rows; atoms = c.atoms; rules = rules; valid = valid } base words 0 seats ≡ start c start_words workers
state_started c rules valid base words start_words seats workers same_list same_base same_words same_seats =
    let of : Constraints → List ℕ → List ℕ → List (Option Worker) → State =
    λ d b w ws. record { constraints = d; base = b; words = w; claims = 0; workers = ws } in
    ap (λ d. of d base words (map (λ w. Some w) seats)) (copied c rules valid same_list)
    ∙ ap (λ b. of c b words (map (λ w. Some w) seats)) same_base
    ∙ ap (λ w. of c start_words w (map (λ x. Some x) seats)) same_words
    ∙ ap (λ ws. of c start_words start_words ws)
    (ap (λ list. map (λ w. Some w) list) same_seats ∙ all_there workers (new_worker c))
