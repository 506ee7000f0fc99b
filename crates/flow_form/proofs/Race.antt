-- Each legal move keeps the words between the base and the least solution, and keeps what the workers
-- have loaded, grown and done standing in the words.
use Rattle.std.proofs.Common.{ℕ, List, [], ◌∷◌, Option, Some, None, length, slice_get, slice_index, ◌≡◌, ◌/◌, ◌%◌, ◌<◌, inl, inr, refl, sym, subst, bit_or}
use Rattle.std.specs.Int.{bit_at}
use Rattle.bit_rows.proofs.Words.{bit_of_or}
use Rattle.flow_form.specs.declared.constraints.Constraints.{Constraints}
use Rattle.flow_form.specs.declared.event.Event.{Event}
use Rattle.flow_form.specs.declared.event.Event.TheVariants.{Load, Or, Claim, Done}
use Rattle.flow_form.specs.declared.event.Worker.{Worker}
use Rattle.flow_form.specs.Least.{Within, Given, GivenByBlock, LeastFrom}
use Rattle.flow_form.specs.Race.{with_bits, MaskWithin, new_worker, loading, growing, finishing, joined, joining, changed, worker_at, State, start, Legal, after, Move, Acts, Splits, Joins, LegalMove, after_move, Runs, IsBetween, IsKept, IsSound, Seen}
use Rattle.flow_form.specs.Shape.{size_of, done_size_of, In}
use Rattle.flow_form.proofs.Least.{given_more, least_closed, least_has_base}
use Rattle.flow_form.proofs.Words.{in_more, in_kept, in_new, in_zeros, in_either, member_either, member_more, no_bit_of_zeros}
use Rattle.flow_form.proofs.Workers.{worker_changed, worker_came, worker_gone, worker_there, worker_of_start}

-- ---- words

-- a mask that follows from what lies in the words lies in the least solution
pub mask_below :
    (c : Constraints) (base words loaded : List ℕ) (i m : ℕ) → IsBetween c base words
    → Within (In c loaded) (In c words) → MaskWithin c i m (Given c.rules (In c loaded))
    → MaskWithin c i m (LeastFrom c.rules (In c base))
mask_below c base words loaded i m between known follows row atom row_there atom_there place h =
    least_closed c.rules (In c base) row atom
    (given_more c.rules (In c loaded) (LeastFrom c.rules (In c base))
    (λ r a k. between.below r a (known r a k))
    row atom (follows row atom row_there atom_there place h))

pub between_or :
    (c : Constraints) (base words : List ℕ) (i m : ℕ) → IsBetween c base words
    → MaskWithin c i m (LeastFrom c.rules (In c base)) → IsBetween c base (with_bits words i m)
between_or c base words i m between below =
    record {
      above = λ row atom h. in_kept c words i m row atom (between.above row atom h);
      below = λ row atom h.
          elim (in_more c words i m row atom h) [
            | inl old ↦ between.below row atom old
            | inr new ↦ below row atom h.row_there h.atom_there new.0 new.1
          ];
    }

-- ---- workers
pub kept_more :
    (c : Constraints) (base words more : List ℕ) (worker : Worker) → Within (In c words) (In c more)
    → IsKept c base words worker → IsKept c base more worker
kept_more c base words more worker grows h =
    record {
      loaded = λ row atom k. grows row atom (h.loaded row atom k);
      grown = λ row atom k. grows row atom (h.grown row atom k);
      done = λ block done row atom k. grows row atom (h.done block done row atom k);
    }

pub kept_load :
    (c : Constraints) (base words : List ℕ) (i : ℕ) (worker : Worker)
    → IsKept c base words worker → IsKept c base words (loading i (slice_index words i) worker)
kept_load c base words i worker h =
    record {
      loaded = λ row atom k.
          elim (in_more c worker.loaded i (slice_index words i) row atom k) [
            | inl old ↦ h.loaded row atom old
            | inr new ↦
                let At : ℕ → Type 0 = λ n. bit_at (slice_index words n) (atom % 64) ≡ 1 in
                record { row_there = k.row_there; atom_there = k.atom_there; bit = subst At (sym new.0) new.1 }
          ];
      grown = h.grown;
      done = h.done;
    }

pub kept_grow :
    (c : Constraints) (base words : List ℕ) (i m : ℕ) (worker : Worker) → i < length words
    → IsKept c base words worker
    → IsKept c base (with_bits words i m) (growing i (bit_or m (slice_index words i)) worker)
kept_grow c base words i m worker there h =
    let kept = kept_more c base words (with_bits words i m) worker (in_kept c words i m) h in
    record {
      loaded = kept.loaded;
      grown = λ row atom k.
          elim (in_more c worker.grown i (bit_or m (slice_index words i)) row atom k) [
            | inl old ↦ kept.grown row atom old
            | inr new ↦
                elim ((bit_of_or m (slice_index words i) (atom % 64)).0 new.1) [
                  | inl mask ↦ in_new c words i m row atom there k.row_there k.atom_there new.0 mask
                  | inr word ↦
                      let At : ℕ → Type 0 = λ n. bit_at (slice_index words n) (atom % 64) ≡ 1 in
                      in_kept c words i m row atom
                      record { row_there = k.row_there; atom_there = k.atom_there; bit = subst At (sym new.0) word }
                ]
          ];
      done = kept.done;
    }

pub kept_finish :
    (c : Constraints) (base words : List ℕ) (block : ℕ) (worker : Worker)
    → Within (GivenByBlock c.rules block (In c base)) (Seen c worker)
    → IsKept c base words worker → IsKept c base words (finishing block worker)
kept_finish c base words block worker seen h =
    record {
      loaded = h.loaded;
      grown = h.grown;
      done = λ other done row atom given.
          elim (member_more worker.done block other done) [
            | inl old ↦ h.done other old row atom given
            | inr same ↦
                let Of : ℕ → Type 0 = λ b. GivenByBlock c.rules b (In c base) row atom in
                elim (seen row atom (subst Of same given)) [
                  | inl loaded ↦ h.loaded row atom loaded
                  | inr grown ↦ h.grown row atom grown
                ]
          ];
    }

pub kept_joined :
    (c : Constraints) (base words : List ℕ) (one other : Worker)
    → IsKept c base words one → IsKept c base words other → IsKept c base words (joined one other)
kept_joined c base words one other h k =
    record {
      loaded = λ row atom both.
          elim (in_either c one.loaded other.loaded row atom both) [
            | inl x ↦ h.loaded row atom x
            | inr y ↦ k.loaded row atom y
          ];
      grown = λ row atom both.
          elim (in_either c one.grown other.grown row atom both) [
            | inl x ↦ h.grown row atom x
            | inr y ↦ k.grown row atom y
          ];
      done = λ block both.
          elim (member_either one.done other.done block both) [
            | inl x ↦ h.done block x
            | inr y ↦ k.done block y
          ];
    }

pub kept_new : (c : Constraints) (base words : List ℕ) → IsKept c base words (new_worker c)
kept_new c base words =
    record {
      loaded = λ row atom h. absurd (in_zeros c (size_of c) row atom h);
      grown = λ row atom h. absurd (in_zeros c (size_of c) row atom h);
      done = λ block h. absurd (no_bit_of_zeros (done_size_of c) (block / 64) (block % 64) h);
    }

-- ---- states
pub sound_start : (c : Constraints) (base : List ℕ) (workers : ℕ) → IsSound c base (start c base workers)
sound_start c base workers =
    record {
      same_constraints = refl;
      same_base = refl;
      between = record { above = λ row atom h. h; below = least_has_base c.rules (In c base) };
      kept = λ number worker there.
          let Kept : Worker → Type 0 = λ w. IsKept c base base w in
          subst Kept (sym (worker_of_start workers (new_worker c) number worker there)) (kept_new c base base);
    }

-- a change of one worker that is kept where it was kept
kept_change :
    (c : Constraints) (base words more : List ℕ) (change : Worker → Worker) (workers : List (Option Worker)) (k : ℕ)
    → ((worker : Worker) → slice_get workers k ≡ Some (Some worker) → IsKept c base more (change worker))
    → ((number : ℕ) (worker : Worker) → slice_get workers number ≡ Some (Some worker) → IsKept c base more worker)
    → (number : ℕ) (worker : Worker) → slice_get (changed change workers k) number ≡ Some (Some worker)
    → IsKept c base more worker
kept_change c base words more change workers k here others number worker there =
    elim (worker_changed change workers k number worker there) [
      | inl same ↦ others number worker same
      | inr new ↦
          let Kept : Worker → Type 0 = λ w. IsKept c base more w in
          let At : ℕ → Type 0 = λ n. slice_get workers n ≡ Some (Some new.1.0) in
          subst Kept (sym new.1.2) (here new.1.0 (subst At new.0 new.1.1))
    ]

-- a state of which only the workers have changed
other_workers :
    (s : State) (workers : List (Option Worker)) → IsSound s.constraints s.base s
    → ((number : ℕ) (worker : Worker) → slice_get workers number ≡ Some (Some worker)
    → IsKept s.constraints s.base s.words worker)
    → IsSound s.constraints s.base (record s { workers = workers })
other_workers s workers h kept =
    record { same_constraints = refl; same_base = refl; between = h.between; kept = kept }

sound_event :
    (s : State) (event : Event) → IsSound s.constraints s.base s → Legal s event
    → IsSound s.constraints s.base (after s event)
sound_event s (Load k word) h legal =
    other_workers s _ h
    (kept_change s.constraints s.base s.words s.words (loading word (slice_index s.words word)) s.workers k
    (λ worker there. kept_load s.constraints s.base s.words word worker (h.kept k worker there)) h.kept)
sound_event s (Or k word mask) h legal =
    record {
      same_constraints = refl;
      same_base = refl;
      between =
          between_or s.constraints s.base s.words word mask h.between
          (mask_below s.constraints s.base s.words legal.worker.loaded word mask h.between
          (h.kept k legal.worker legal.worker_there).loaded legal.follows);
      kept =
          kept_change s.constraints s.base s.words (with_bits s.words word mask)
          (growing word (bit_or mask (slice_index s.words word))) s.workers k
          (λ worker there. kept_grow s.constraints s.base s.words word mask worker legal.word_there (h.kept k worker there))
          (λ number worker there.
          kept_more s.constraints s.base s.words (with_bits s.words word mask) worker
          (in_kept s.constraints s.words word mask) (h.kept number worker there));
    }
sound_event s (Claim k) h legal =
    record { same_constraints = refl; same_base = refl; between = h.between; kept = h.kept }
sound_event s (Done k block) h legal =
    other_workers s _ h
    (kept_change s.constraints s.base s.words s.words (finishing block) s.workers k
    (λ worker there.
    let same : legal.worker ≡ worker = cc (legal.worker_there, there) in
    let Seen : Worker → Type 0 =
    λ w. Within (GivenByBlock s.constraints.rules block (In s.constraints s.base)) (Seen s.constraints w) in
    kept_finish s.constraints s.base s.words block worker (subst Seen same legal.seen) (h.kept k worker there))
    h.kept)

-- a worker that takes in another one of the state is kept
kept_joining :
    (s : State) (other : ℕ) (one : Worker) → IsKept s.constraints s.base s.words one → IsSound s.constraints s.base s
    → IsKept s.constraints s.base s.words (joining (worker_at s.workers other) one)
kept_joining s other one h sound =
    elim (worker_at s.workers other) as (λ w. (worker_at s.workers other ≡ w) → IsKept s.constraints s.base s.words (joining w one)) [
      | None ↦ λ e. h
      | Some second ↦ λ e.
          kept_joined s.constraints s.base s.words one second h
          (sound.kept other second (worker_there s.workers other second e))
    ] refl

sound_own :
    (s : State) (move : Move) → IsSound s.constraints s.base s → LegalMove s move
    → IsSound s.constraints s.base (after_move s move)
sound_own s (Acts event) h legal = sound_event s event h legal
sound_own s (Splits k) h legal =
    record {
      same_constraints = refl;
      same_base = refl;
      between = h.between;
      kept = λ number worker there.
          elim (worker_came s.workers (worker_at s.workers k) number worker there) [
            | inl old ↦ h.kept number worker old
            | inr new ↦ h.kept k worker (worker_there s.workers k worker new)
          ];
    }
sound_own s (Joins k other) h legal =
    record {
      same_constraints = refl;
      same_base = refl;
      between = h.between;
      kept = λ number worker there.
          kept_change s.constraints s.base s.words s.words (joining (worker_at s.workers other)) s.workers k
          (λ one at. kept_joining s other one (h.kept k one at) h)
          h.kept number worker
          (worker_gone (changed (joining (worker_at s.workers other)) s.workers k) other number worker there);
    }

sound_move :
    (c : Constraints) (base : List ℕ) (s : State) (move : Move) → IsSound c base s → LegalMove s move
    → IsSound c base (after_move s move)
sound_move c base s move h legal =
    let Of : Constraints → Type 0 = λ x. IsSound x s.base (after_move s move) in
    let On : List ℕ → Type 0 = λ x. IsSound c x (after_move s move) in
    let From : Constraints → Type 0 = λ x. IsSound x base s in
    let Over : List ℕ → Type 0 = λ x. IsSound s.constraints x s in
    let own : IsSound s.constraints s.base s = subst Over (sym h.same_base) (subst From (sym h.same_constraints) h) in
    subst On h.same_base (subst Of h.same_constraints (sound_own s move own legal))

pub sound_run :
    (c : Constraints) (base : List ℕ) (s : State) (moves : List Move) (t : State) → IsSound c base s → Runs s moves t
    → IsSound c base t
sound_run c base s [] t h run = let P : State → Type 0 = λ x. IsSound c base x in subst P run h
sound_run c base s (move ∷ moves) t h run =
    sound_run c base (after_move s move) moves t (sound_move c base s move h run.0) run.1
