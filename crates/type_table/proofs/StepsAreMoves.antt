-- Each step of a pass is a move of the race, and so keeps the rule of the shared words.
use Rattle.std.proofs.Common.{ℕ, zero, suc, Bool, true, false, true≢false, List, [], ◌∷◌, ◌++◌, Option, Some, None, length, map, set, take, get_or, slice_get, slice_index, ◌≡◌, ◌≢◌, ◌+◌, ◌/◌, ◌%◌, ◌^◌, ◌<◌, bit_or, inl, inr, refl, sym, ap, ◌∙◌, subst, arith}
use Rattle.std.specs.Option.{option_map}
use Rattle.std.specs.Int.{bit_at}
use Rattle.std.specs.Int.Bits.{or_zero_r}
use Rattle.std.proofs.Math.Nat.{le_refl}
use Rattle.std.proofs.lemmas.List.{set-get_or, take-set-le, get_or-take, get_or-set_other, length-set, length-replicate, length-append, get_or-set_same, length-take-le, map-append, map-set}
use Rattle.std.proofs.Math.Seq.{take-set-lt, take-append_seam}
use mathlib.Core.Option.{none, some, some-injective, some-ne-none}
use lib.ListN.{get_elem?}
use Rattle.atomic_table.specs.Table.{State, Me, Allows, Splits, Joins, keeps, opening, step, stepped}
use Rattle.atomic_table.proofs.Lists.{at_set, at_snoc, set_again, set_else}
use Rattle.flow_form.specs.declared.constraints.Constraints.{Constraints}
use Rattle.flow_form.specs.declared.event.Event.TheVariants.{Load, Or, Claim, Done}
use Rattle.flow_form.specs.declared.event.Worker.{Worker}
use Rattle.flow_form.specs.Least.{Within, Given, GivenByBlock}
use Rattle.flow_form.specs.Race.{State as Race, Move, Acts, Splits as Divides, Joins as Unites, worker_at, Runs, LegalMove, after_move, Seen, MaskWithin, IsBetween, IsKept, IsSound, loading, growing, finishing, joined, joining, or_words, changed, start}
use Rattle.flow_form.specs.Shape.{In, blocks_of, done_size_of, size_of}
use Rattle.flow_form.proofs.Race.{sound_run, sound_start}
use Rattle.type_table.specs.SharedWords.{IsOwn, IsRuled, IsFresh, HasPairs, Loads, Grows, Finishes, Claims, first_view, joined_view, spent_view, worker_if, worker_of, with_worker, race_of}
use Rattle.type_table.specs.declared.shared_words.View.{View}

-- ---- runs

-- a run goes on with one more legal move
pub runs_on :
    (s : Race) (moves : List Move) (t : Race) (move : Move) (u : Race) → Runs s moves t → LegalMove t move
    → after_move t move ≡ u → Runs s (moves ++ move ∷ []) u
runs_on s [] t move u same legal to =
    let P : Race → Type 0 = λ x. LegalMove x move × (after_move x move ≡ u) in
    subst P (sym same) (legal, to)
runs_on s (first ∷ moves) t move u run legal to = (run.0, runs_on (after_move s first) moves t move u run.1 legal to)

-- ---- views

pub worker_shown :
    (views : List View) (id : ℕ) (view : View) → get_elem? views id ≡ some view
    → slice_get (map worker_of views) id ≡ Some (worker_of view)
worker_shown [] id view e = absurd (some-ne-none view (sym e))
worker_shown (first ∷ views) zero view e = ap (λ (v : View). Some (worker_of v)) (some-injective first view e)
worker_shown (first ∷ views) (suc id) view e = worker_shown views id view e

live_worker : (view : View) → view.live ≡ true → worker_of view ≡ Some view.worker
live_worker view live = ap (λ (b : Bool). worker_if b view.worker) live

pub is_worker :
    (views : List View) (id : ℕ) (view : View) → get_elem? views id ≡ some view → view.live ≡ true
    → slice_get (map worker_of views) id ≡ Some (Some view.worker)
is_worker views id view e live = worker_shown views id view e ∙ ap (λ (w : Option Worker). Some w) (live_worker view live)

-- a view whose worker has changed
pub worker_changes :
    (change : Worker → Worker) (views : List View) (id : ℕ) (view : View) → get_elem? views id ≡ some view
    → map worker_of (set views id (with_worker view (change view.worker))) ≡ changed change (map worker_of views) id
worker_changes change [] id view e = refl
worker_changes change (first ∷ views) zero view e =
    let Same : View → Type 0 =
    λ v. map worker_of (with_worker view (change view.worker) ∷ views) ≡ option_map change (worker_of v) ∷ map worker_of views in
    subst Same (sym (some-injective first view e))
    (ap (λ (w : Option Worker). w ∷ map worker_of views) (changed_worker view.live view.worker))
  where
    changed_worker : (live : Bool) (w : Worker) → worker_if live (change w) ≡ option_map change (worker_if live w)
    changed_worker true w = refl
    changed_worker false w = refl
worker_changes change (first ∷ views) (suc id) view e =
    ap (λ (ws : List (Option Worker)). worker_of first ∷ ws) (worker_changes change views id view e)

pub owned_set :
    (c : Constraints) (base : List ℕ) (views : List View) (id : ℕ) (new : View)
    → ((seat : ℕ) (view : View) → get_elem? views seat ≡ some view → view.live ≡ true → IsOwn c base view)
    → (new.live ≡ true → IsOwn c base new)
    → (seat : ℕ) (view : View) → get_elem? (set views id new) seat ≡ some view → view.live ≡ true → IsOwn c base view
owned_set c base views id new owned mine seat view e live =
    elim (at_set views id seat new view e) [
      | inl here ↦
          let Own : View → Type 0 = λ v. v.live ≡ true → IsOwn c base v in
          subst Own here.1 mine live
      | inr there ↦ owned seat view there.1 live
    ]

-- ---- states

abbrev race_at : Constraints → (base words : List ℕ) → (claims : ℕ) → List (Option Worker) → Race
race_at c base words claims workers =
    record { constraints = c; base = base; words = words; claims = claims; workers = workers }

same_race :
    (c : Constraints) (base words more : List ℕ) (claims count : ℕ) (workers others : List (Option Worker))
    → words ≡ more → claims ≡ count → workers ≡ others
    → race_at c base words claims workers ≡ race_at c base more count others
same_race c base words more claims count workers others e f g = λ i. race_at c base (e i) (f i) (g i)

-- the state of the race that a ruled table is, is sound
pub ruled_sound : (c : Constraints) (base : List ℕ) (s : State ℕ View) → IsRuled c base s → IsSound c base (race_of c base s)
ruled_sound c base s h = sound_run c base (start c base 1) h.moves (race_of c base s) (sound_start c base 1) h.reached

-- ---- what a step finds
pub fresh :
    (c : Constraints) (base words : List ℕ) (worker : Worker) (at found : ℕ) → IsBetween c base words
    → IsKept c base words worker → found ≡ slice_index words at → IsFresh c base worker at found
fresh c base words worker at found between kept is =
    let Bit : (bit : ℕ) → ℕ → Type 0 = λ bit n. bit_at n bit ≡ 1 in
    let has : HasPairs c at found (In c words) =
    λ row atom h place.
    let At : ℕ → Type 0 = λ n. bit_at (slice_index words n) (atom % 64) ≡ 1 in
    subst (Bit (atom % 64)) (sym is) (subst At place h.bit) in
    record {
      has_base = λ row atom h place. has row atom (between.above row atom h) place;
      has_seen = λ row atom h place.
          elim h [
            | inl loaded ↦ has row atom (kept.loaded row atom loaded) place
            | inr grown ↦ has row atom (kept.grown row atom grown) place
          ];
      within = λ row atom row_there atom_there place set.
          let At : ℕ → Type 0 = λ n. bit_at (slice_index words n) (atom % 64) ≡ 1 in
          between.below row atom
          record {
            row_there = row_there;
            atom_there = atom_there;
            bit = subst At (sym place) (subst (Bit (atom % 64)) is set);
          };
    }

-- of a ruled table, said of the view's own constraints and base
pub fresh_view :
    (c : Constraints) (base : List ℕ) (s : State ℕ View) (id : ℕ) (view : View) (at : ℕ) → IsRuled c base s
    → get_elem? s.views id ≡ some view → view.live ≡ true → at < size_of c
    → IsFresh view.constraints view.base view.worker at (slice_index s.words at)
fresh_view c base s id view at h e live below =
    let own = h.owned id view e live in
    let sound = ruled_sound c base s h in
    let kept = sound.kept id view.worker (is_worker s.views id view e live) in
    let is : slice_index s.words at ≡ slice_index (take (size_of c) s.words) at = sym (get_or-take (size_of c) s.words at 0 below) in
    let Of : Constraints → Type 0 = λ x. IsFresh x base view.worker at (slice_index s.words at) in
    let On : List ℕ → Type 0 = λ x. IsFresh view.constraints x view.worker at (slice_index s.words at) in
    subst On (sym own.same_base)
    (subst Of (sym own.same_constraints)
    (fresh c base (take (size_of c) s.words) view.worker at (slice_index s.words at) sound.between kept is))

-- ---- the state after a step
pub ruled_after :
    (c : Constraints) (base : List ℕ) (s t : State ℕ View) (move : Move) → IsRuled c base s
    → length t.words ≡ length s.words
    → ((seat : ℕ) (view : View) → get_elem? t.views seat ≡ some view → view.live ≡ true → IsOwn c base view)
    → LegalMove (race_of c base s) move → after_move (race_of c base s) move ≡ race_of c base t
    → IsRuled c base t
ruled_after c base s t move h same owned legal to =
    record {
      size = same ∙ h.size;
      owned = owned;
      moves = h.moves ++ move ∷ [];
      reached = runs_on (start c base 1) h.moves (race_of c base s) move (race_of c base t) h.reached legal to;
    }

own_worker :
    (c : Constraints) (base : List ℕ) (view : View) (worker : Worker) → IsOwn c base view
    → length worker.loaded ≡ length view.worker.loaded → length worker.grown ≡ length view.worker.grown
    → length worker.done ≡ length view.worker.done → IsOwn c base (with_worker view worker)
own_worker c base view worker own loaded grown done =
    record {
      same_constraints = own.same_constraints;
      same_base = own.same_base;
      loaded_size = loaded ∙ own.loaded_size;
      grown_size = grown ∙ own.grown_size;
      done_size = done ∙ own.done_size;
    }

-- the words of the rows are as many as the race has
rows_size : (c : Constraints) (words : List ℕ) → length words ≡ size_of c + 1 → length (take (size_of c) words) ≡ size_of c
rows_size c words size = length-take-le (size_of c) words (omega arith)

-- a word of the rows is one of the race's
row_word : (c : Constraints) (words : List ℕ) (at : ℕ) → at < size_of c → slice_index (take (size_of c) words) at ≡ slice_index words at
row_word c words at below = get_or-take (size_of c) words at 0 below

-- a step on a word that leaves it as it is, by which the worker of one view changes
quiet_step :
    (c : Constraints) (base : List ℕ) (s : State ℕ View) (id at n : ℕ) (view : View) (change : Worker → Worker)
    → get_elem? s.views id ≡ some view → n ≡ slice_index s.words at
    → race_at c base (take (size_of c) s.words) (slice_index s.words (size_of c)) (changed change (map worker_of s.views) id)
    ≡ race_of c base
    record {
      words = set s.words at n;
      homes = s.homes;
      views = set s.views id (with_worker view (change view.worker));
    }
quiet_step c base s id at n view change e is =
    let same : s.words ≡ set s.words at n =
    sym (set-get_or s.words at 0) ∙ ap (λ (x : ℕ). set s.words at x) (sym is) in
    same_race c base _ _ _ _ _ _ (ap (λ (ws : List ℕ). take (size_of c) ws) same)
    (ap (λ (ws : List ℕ). slice_index ws (size_of c)) same) (sym (worker_changes change s.views id view e))

-- ---- open
zero_last : (words : List ℕ) (n : ℕ) → length words ≡ n → ◌≡◌ {A = ℕ} (get_or (words ++ 0 ∷ []) n 0) 0
zero_last [] zero same = refl
zero_last [] (suc n) same = absurd (omega arith)
zero_last (word ∷ words) zero same = absurd (omega arith)
zero_last (word ∷ words) (suc n) same = zero_last words n (omega arith)

own_first : (c : Constraints) (base : List ℕ) → IsOwn c base (first_view c base)
own_first c base =
    record {
      same_constraints = refl;
      same_base = refl;
      loaded_size = length-replicate (size_of c) 0;
      grown_size = length-replicate (size_of c) 0;
      done_size = length-replicate (done_size_of c) 0;
    }

owned_first :
    (c : Constraints) (base : List ℕ) (seat : ℕ) (view : View) → get_elem? (first_view c base ∷ []) seat ≡ some view
    → view.live ≡ true → IsOwn c base view
owned_first c base zero view e live =
    let Own : View → Type 0 = λ v. IsOwn c base v in
    subst Own (some-injective (first_view c base) view e) (own_first c base)
owned_first c base (suc seat) view e live = absurd (some-ne-none view (sym e))

pub opens :
    (c : Constraints) (base : List ℕ) → length base ≡ size_of c
    → IsRuled c base (opening (base ++ 0 ∷ []) [] (first_view c base))
opens c base size =
    let Taken : ℕ → Type 0 = λ n. take n (base ++ 0 ∷ []) ≡ base in
    let words : take (size_of c) (base ++ 0 ∷ []) ≡ base = subst Taken size (take-append_seam base (0 ∷ [])) in
    record {
      size = length-append base (0 ∷ []) ∙ ap (λ (n : ℕ). n + 1) size;
      owned = owned_first c base;
      moves = [];
      reached = same_race c base _ _ _ _ _ _ (sym words) (sym (zero_last base (size_of c) size)) refl;
    }

-- ---- load
pub load_allowed :
    (c : Constraints) (base : List ℕ) (slots id : ℕ) (me : Me ℕ View) (word : ℕ) → word < size_of c → me.0.live ≡ true
    → Allows (IsRuled c base) slots id me word (λ n. n) (Loads (step slots word 0 0 none) me)
load_allowed c base slots id me word below live s h homes at fits =
    let found : ℕ = slice_index s.words word in
    let new : View = with_worker me.0 (loading word found me.0.worker) in
    let rows : ℕ = length (take (size_of c) s.words) in
    let rows_there : rows ≡ size_of c = rows_size c s.words h.size in
    let own : me.0.live ≡ true → IsOwn c base new =
    λ l. own_worker c base me.0 (loading word found me.0.worker) (h.owned id me.0 at l)
    (length-set me.0.worker.loaded word _) refl refl in (
      new,
      keeps,
      tt,
      ruled_after c base s (stepped s word found id me.1 new keeps) (Acts (Load id word)) h
          (length-set s.words word found) (owned_set c base s.views id new h.owned own)
          record {
            worker = me.0.worker;
            worker_there = is_worker s.views id me.0 at live;
            word_there = omega arith;
          }
          (ap
          (λ (n : ℕ). race_at c base (take (size_of c) s.words) (slice_index s.words (size_of c)) (changed (loading word n) (map worker_of s.views) id))
          (row_word c s.words word below)
          ∙ quiet_step c base s id word found me.0 (loading word found) at refl),
      (fresh_view c base s id me.0 word h at live below, refl),
    )

-- ---- grow
pub grow_allowed :
    (c : Constraints) (base : List ℕ) (slots id : ℕ) (me : Me ℕ View) (word mask : ℕ) → word < size_of c
    → me.0.live ≡ true → MaskWithin c word mask (Given c.rules (In c me.0.worker.loaded))
    → Allows (IsRuled c base) slots id me word (λ n. bit_or n mask) (Grows (step slots word mask 0 none) me)
grow_allowed c base slots id me word mask below live follows s h homes at fits =
    let found : ℕ = slice_index s.words word in
    let next : ℕ = bit_or found mask in
    let new : View = with_worker me.0 (growing word (bit_or mask found) me.0.worker) in
    let rows : ℕ = length (take (size_of c) s.words) in
    let rows_there : rows ≡ size_of c = rows_size c s.words h.size in
    let apart : size_of c ≢ word = λ same. absurd (omega (arith, same)) in
    let own : me.0.live ≡ true → IsOwn c base new =
    λ l. own_worker c base me.0 (growing word (bit_or mask found) me.0.worker) (h.owned id me.0 at l) refl
    (length-set me.0.worker.grown word _) refl in (
      new,
      keeps,
      tt,
      ruled_after c base s (stepped s word next id me.1 new keeps) (Acts (Or id word mask)) h
          (length-set s.words word next) (owned_set c base s.views id new h.owned own)
          record {
            worker = me.0.worker;
            worker_there = is_worker s.views id me.0 at live;
            word_there = omega arith;
            follows = follows;
          }
          (ap
          (λ (n : ℕ). race_at c base (set (take (size_of c) s.words) word (bit_or n mask)) (slice_index s.words (size_of c)) (changed (growing word (bit_or mask n)) (map worker_of s.views) id))
          (row_word c s.words word below)
          ∙ same_race c base _ _ _ _ _ _ (sym (take-set-lt (size_of c) s.words word next below))
          (sym (get_or-set_other s.words word (size_of c) next 0 apart))
          (sym (worker_changes (growing word (bit_or mask found)) s.views id me.0 at))),
      (fresh_view c base s id me.0 word h at live below, refl),
    )

-- ---- finish
pub finish_allowed :
    (c : Constraints) (base : List ℕ) (slots id : ℕ) (me : Me ℕ View) (block : ℕ) → block < blocks_of c
    → me.0.live ≡ true → Within (GivenByBlock c.rules block (In c base)) (Seen c me.0.worker)
    → Allows (IsRuled c base) slots id me 0 (λ n. bit_or n 0) (Finishes block (step slots 0 0 0 none) me)
finish_allowed c base slots id me block there live seen s h homes at fits =
    let found : ℕ = slice_index s.words 0 in
    let new : View = with_worker me.0 (finishing block me.0.worker) in
    let own : me.0.live ≡ true → IsOwn c base new =
    λ l. own_worker c base me.0 (finishing block me.0.worker) (h.owned id me.0 at l) refl refl
    (length-set me.0.worker.done (block / 64) _) in (
      new,
      keeps,
      tt,
      ruled_after c base s (stepped s 0 (bit_or found 0) id me.1 new keeps) (Acts (Done id block)) h
          (length-set s.words 0 (bit_or found 0)) (owned_set c base s.views id new h.owned own)
          record {
            worker = me.0.worker;
            worker_there = is_worker s.views id me.0 at live;
            block_there = there;
            seen = seen;
          }
          (quiet_step c base s id 0 (bit_or found 0) me.0 (finishing block) at (or_zero_r found)),
      refl,
    )

-- ---- claim
claim_here :
    (c : Constraints) (base : List ℕ) (slots id : ℕ) (me : Me ℕ View) → me.0.live ≡ true
    → Allows (IsRuled c base) slots id me (size_of c) (λ n. (n + 1) % 2 ^ 64) (Claims (step slots (size_of c) 1 0 none) me)
claim_here c base slots id me live s h homes at fits =
    let next : ℕ = (slice_index s.words (size_of c) + 1) % 2 ^ 64 in
    let there : size_of c < length s.words = omega (arith, h.size) in (
      me.0,
      keeps,
      tt,
      ruled_after c base s (stepped s (size_of c) next id me.1 me.0 keeps) (Acts (Claim id)) h
          (length-set s.words (size_of c) next) (owned_set c base s.views id me.0 h.owned (h.owned id me.0 at))
          record { worker = me.0.worker; worker_there = is_worker s.views id me.0 at live }
          (same_race c base _ _ _ _ _ _
          (sym (take-set-le (size_of c) s.words (size_of c) next (le_refl (size_of c))))
          (sym (get_or-set_same s.words (size_of c) next 0 there))
          (ap (λ (views : List View). map worker_of views) (sym (set_again s.views id me.0 at)))),
      refl,
    )

pub claim_allowed :
    (c : Constraints) (base : List ℕ) (slots id : ℕ) (me : Me ℕ View) (word : ℕ) → word ≡ size_of c → me.0.live ≡ true
    → Allows (IsRuled c base) slots id me word (λ n. (n + 1) % 2 ^ 64) (Claims (step slots word 1 0 none) me)
claim_allowed c base slots id me word last live =
    let At : ℕ → Type 0 = λ w. Allows (IsRuled c base) slots id me w (λ n. (n + 1) % 2 ^ 64) (Claims (step slots w 1 0 none) me) in
    subst At (sym last) (claim_here c base slots id me live)

-- ---- split
worker_at_view :
    (views : List View) (id : ℕ) (view : View) → get_elem? views id ≡ some view
    → worker_at (map worker_of views) id ≡ worker_of view
worker_at_view [] id view e = absurd (some-ne-none view (sym e))
worker_at_view (first ∷ views) zero view e = ap worker_of (some-injective first view e)
worker_at_view (first ∷ views) (suc id) view e = worker_at_view views id view e

pub split_allowed :
    (c : Constraints) (base : List ℕ) (id : ℕ) (view : View) → view.live ≡ true → Splits (IsRuled c base) id view view view
split_allowed c base id view live s h at =
    let again : set s.views id view ≡ s.views = set_again s.views id view at in
    let workers :
    map worker_of s.views ++ worker_at (map worker_of s.views) id ∷ [] ≡ map worker_of (set s.views id view ++ view ∷ []) =
    ap (λ (w : Option Worker). map worker_of s.views ++ w ∷ []) (worker_at_view s.views id view at)
    ∙ sym (map-append worker_of s.views (view ∷ []))
    ∙ ap (λ (views : List View). map worker_of (views ++ view ∷ [])) (sym again) in
    ruled_after c base s
    record { words = s.words; homes = s.homes; views = set s.views id view ++ view ∷ [] }
    (Divides id) h refl
    (λ seat other e l.
    elim (at_snoc (set s.views id view) view other seat e) [
      | inl old ↦
          let At : List View → Type 0 = λ views. get_elem? views seat ≡ some other in
          h.owned seat other (subst At again old) l
      | inr new ↦
          let Own : View → Type 0 = λ v. IsOwn c base v in
          subst Own new (h.owned id view at live)
    ])
    record { worker = view.worker; worker_there = is_worker s.views id view at live }
    (same_race c base _ _ _ _ _ _ refl refl workers)

-- ---- join
length-or_words : (words more : List ℕ) → length words ≡ length more → length (or_words words more) ≡ length words
length-or_words [] more same = sym same
length-or_words (word ∷ words) [] same = refl
length-or_words (word ∷ words) (other ∷ more) same = ap suc (length-or_words words more (omega arith))

pub own_joined :
    (c : Constraints) (base : List ℕ) (view second : View) → IsOwn c base view → IsOwn c base second
    → IsOwn c base (joined_view view second)
own_joined c base view second own other =
    own_worker c base view (joined view.worker second.worker) own
    (length-or_words view.worker.loaded second.worker.loaded (own.loaded_size ∙ sym other.loaded_size))
    (length-or_words view.worker.grown second.worker.grown (own.grown_size ∙ sym other.grown_size))
    (length-or_words view.worker.done second.worker.done (own.done_size ∙ sym other.done_size))

pub join_allowed :
    (c : Constraints) (base : List ℕ) (id : ℕ) (view : View) (other : ℕ) (second : View) → view.live ≡ true
    → second.live ≡ true → Joins (IsRuled c base) id view other second (joined_view view second) spent_view
join_allowed c base id view other second live second_live s h at apart there =
    let new : View = joined_view view second in
    let views : List View = set s.views id new in
    let here : get_elem? s.views other ≡ some second = sym (set_else s.views id other new apart) ∙ there in
    let known : worker_at (map worker_of s.views) other ≡ Some second.worker =
    worker_at_view s.views other second here ∙ live_worker second second_live in
    let own : new.live ≡ true → IsOwn c base new =
    λ l. own_joined c base view second (h.owned id view at live) (h.owned other second here second_live) in
    let workers :
    set (changed (joining (worker_at (map worker_of s.views) other)) (map worker_of s.views) id) other None
    ≡ map worker_of (set views other spent_view) =
    ap (λ (w : Option Worker). set (changed (joining w) (map worker_of s.views) id) other None) known
    ∙ ap (λ (ws : List (Option Worker)). set ws other None)
    (sym (worker_changes (joining (Some second.worker)) s.views id view at))
    ∙ sym (map-set worker_of views other spent_view) in
    ruled_after c base s
    record { words = s.words; homes = s.homes; views = set views other spent_view }
    (Unites id other) h refl
    (owned_set c base views other spent_view (owned_set c base s.views id new h.owned own) (λ l. absurd (true≢false (sym l))))
    record {
      worker = view.worker;
      worker_there = is_worker s.views id view at live;
      second = second.worker;
      second_there = is_worker s.views other second here second_live;
      apart = λ same. apart (sym same);
    }
    (same_race c base _ _ _ _ _ _ refl refl workers)
