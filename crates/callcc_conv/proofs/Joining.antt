-- The least set that keeps the graph's links is, as far as it has procedures, the least that has joined calls.
use Rattle.std.proofs.Common.{◌≡◌, ℕ, ◌+◌, ◌-◌, ◌<◌, inl, inr, Bool, true, false, List, [], ◌∷◌, length, Option, Some, None, refl, sym, ap, ◌∙◌, subst, arith}
use Rattle.std.specs.Prelude.{nat_lt, ◌&&◌, slice_get, if◌then◌else◌}
use Rattle.std.specs.List.{list_all}
use Rattle.std.proofs.lemmas.Bool.{le-ltb, lt-ltb, ltb-true}
use Rattle.std.proofs.lemmas.Option.{slice_get_within}
use Rattle.least_set.specs.declared.links.Link.{Link}
use Rattle.least_set.specs.Least.{IsClosed, IsLeast, Set, all_below, has, keeps, links_below}
use Rattle.least_set.proofs.Has.{all_of, and_cases, below_at, both, one_of, or_cases, or_left, or_right}
use Rattle.plan_facts.specs.declared.place.Place.{Place}
use Rattle.plan_facts.specs.Calls.{is_call, is_callcc, is_reached, may_resume}
use Rattle.plan_facts.specs.Capturing.{Captures, Enters, Follows, HasJoined, IsReachedCall, Joined, Resumes, callees}
use Rattle.plan_facts.specs.Places.{AllStand, Facts}
use Rattle.plan_facts.proofs.Standing.{entered_below}
use Rattle.callcc_conv.specs.Graph.{all_links, all_starts, begins, is_open, links_at, own_links, starts_at}
use Rattle.callcc_conv.proofs.Linking.{Linked, linked_of, of_linked, own_named}
use Rattle.callcc_conv.proofs.Listing.{all_places, at_place, below, in_below, of_below, one_place, opened, when}

abbrev starts : Facts → (procs : ℕ) → List ℕ
starts k n = all_starts k.flow k.rows n k.steps

abbrev links : Facts → (procs : ℕ) → List Link
links k n = all_links k.procs k.flow k.rows n k.steps

-- procedures are below the number of all of them

proc_below : (k : Facts) (n i : ℕ) (p : Place) → AllStand n k.steps → slice_get k.steps i ≡ Some p → p.proc < n
proc_below k n i p stand there = ltb-true p.proc n (one_place (λ q. nat_lt q.proc n) k.steps i p stand.each there)

callee_below : (k : Facts) (n : ℕ) (p : Place) (q : ℕ) → n ≡ length k.procs → has (callees k p) q ≡ true → q < n
callee_below k n p q size there =
    subst (λ m. q < m) (sym size) (below_at (length k.procs) (callees k p) q (entered_below k.procs k.flow k.rows p.action) there)

pub starts_are_below : (k : Facts) (n many : ℕ) → many ≡ n + length k.steps → all_below many (starts k n) ≡ true
starts_are_below k n many size =
    all_places (starts_at k.flow k.rows n) (λ x. nat_lt x many) k.steps
    (λ i p there.
    when (λ x. nat_lt x many) (is_open k.flow k.rows p && begins k.flow k.rows p) ((n + i) ∷ [])
    (λ e.
    let within = slice_get_within k.steps i p there in
    both (nat_lt (n + i) many) true (lt-ltb (n + i) many (omega (arith, within, size))) refl))

pub links_are_below : (k : Facts) (n many : ℕ) → n ≡ length k.procs → many ≡ n + length k.steps → AllStand n k.steps
    → links_below many (links k n) ≡ true
links_are_below k n many procs size stand =
    all_places (links_at k.procs k.flow k.rows n) (λ l. nat_lt l.from many && nat_lt l.to many) k.steps
    (λ i p there.
    when (λ l. nat_lt l.from many && nat_lt l.to many) (is_open k.flow k.rows p) (own_links (n + i) p (callees k p))
    (λ e.
    let within = slice_get_within k.steps i p there in
    let home = proc_below k n i p stand there in
    own_named many (n + i) p (callees k p) (omega (arith, within, size)) (omega (arith, home, size))
    (λ q has_q. let less = callee_below k n p q procs has_q in omega (arith, less, size))))

-- What is closed in the graph has joined calls.

call_links_kept : (k : Facts) (n : ℕ) (t : ℕ → Bool) (p : Place) (call : IsReachedCall k p) → list_all (keeps t) (links k n) ≡ true
    → Linked t (n + call.number) p (callees k p)
call_links_kept k n t p call h =
    let open_call = both (is_call p.action) (is_reached k.flow k.rows p.block) call.call call.reached in
    linked_of t (n + call.number) p (callees k p)
    (opened (keeps t) (is_open k.flow k.rows p) (own_links (n + call.number) p (callees k p)) open_call
    (at_place (links_at k.procs k.flow k.rows n) (keeps t) k.steps call.number p h call.there))

start_kept : (k : Facts) (n : ℕ) (t : ℕ → Bool) (p : Place) (call : IsReachedCall k p) → list_all t (starts k n) ≡ true
    → begins k.flow k.rows p ≡ true → t (n + call.number) ≡ true
start_kept k n t p call h begun =
    let open_call = both (is_call p.action) (is_reached k.flow k.rows p.block) call.call call.reached in
    let one = opened t (is_open k.flow k.rows p && begins k.flow k.rows p) ((n + call.number) ∷ [])
    (both (is_open k.flow k.rows p) (begins k.flow k.rows p) open_call begun)
    (at_place (starts_at k.flow k.rows n) t k.steps call.number p h call.there) in
    (and_cases (t (n + call.number)) true one).0

node_kept : (k : Facts) (n : ℕ) (found : List ℕ) (p : Place) (call : IsReachedCall k p)
    → IsClosed (starts k n) (links k n) (has found) → Joined k (has (below n found)) p → has found (n + call.number) ≡ true
node_kept k n found p call c (Captures e) =
    start_kept k n (has found) p call c.begun (or_left (is_callcc p.action) (may_resume k.flow k.rows p.action) e)
node_kept k n found p call c (Resumes e) =
    start_kept k n (has found) p call c.begun (or_right (is_callcc p.action) (may_resume k.flow k.rows p.action) e)
node_kept k n found p call c (Enters q there in_set) =
    (call_links_kept k n (has found) p call c.linked).into q there (of_below n found q in_set).0
node_kept k n found p call c (Follows tail in_set) =
    (call_links_kept k n (has found) p call c.linked).tail tail (of_below n found p.proc in_set).0

-- A set that has joined calls is closed in the graph, with the calls whose procedures it has.

abbrev call_in : Facts → Set ℕ → Option Place → Bool
call_in k t None = true
call_in k t (Some p) = t p.proc && list_all t (callees k p)

abbrev onto : Facts → (procs : ℕ) → Set ℕ → Set ℕ
onto k n t x = if nat_lt x n then t x else call_in k t (slice_get k.steps (x - n))

low : (k : Facts) (n : ℕ) (t : Set ℕ) (x : ℕ) → x < n → onto k n t x ≡ t x
low k n t x h = ap (λ b. if b then t x else call_in k t (slice_get k.steps (x - n))) (lt-ltb x n h)

high : (k : Facts) (n : ℕ) (t : Set ℕ) (i : ℕ) (p : Place) → slice_get k.steps i ≡ Some p
    → onto k n t (n + i) ≡ (t p.proc && list_all t (callees k p))
high k n t i p there =
    let past : nat_lt (n + i) n ≡ false = le-ltb (n + i) n (omega arith) in
    let place : n + i - n ≡ i = omega arith in
    ap (λ b. if b then t (n + i) else call_in k t (slice_get k.steps (n + i - n))) past
    ∙ (ap (λ j. call_in k t (slice_get k.steps j)) place ∙ ap (call_in k t) there)

joined_node : (k : Facts) (n : ℕ) (t : Set ℕ) (p : Place) (call : IsReachedCall k p) → HasJoined k t → Joined k t p
    → onto k n t (n + call.number) ≡ true
joined_node k n t p call c joined =
    high k n t call.number p call.there
    ∙ both (t p.proc) (list_all t (callees k p)) (c.caller p call joined) (all_of t (callees k p) (c.callee p call joined))

call_of : (k : Facts) (i : ℕ) (p : Place) → slice_get k.steps i ≡ Some p → is_open k.flow k.rows p ≡ true → IsReachedCall k p
call_of k i p there open_call =
    let parts = and_cases (is_call p.action) (is_reached k.flow k.rows p.block) open_call in
    record { number = i; there = there; call = parts.0; reached = parts.1 }

begins_joined : (k : Facts) (t : Set ℕ) (p : Place) → begins k.flow k.rows p ≡ true → Joined k t p
begins_joined k t p h = elim (or_cases (is_callcc p.action) (may_resume k.flow k.rows p.action) h) [
  | inl e ↦ Captures e
  | inr e ↦ Resumes e
]

onto_closed : (k : Facts) (n : ℕ) (t : Set ℕ) → n ≡ length k.procs → AllStand n k.steps → HasJoined k t
    → IsClosed (starts k n) (links k n) (onto k n t)
unfolding call_of
onto_closed k n t size stand c =
    record {
      begun = all_places (starts_at k.flow k.rows n) (onto k n t) k.steps
          (λ i p there.
          when (onto k n t) (is_open k.flow k.rows p && begins k.flow k.rows p) ((n + i) ∷ [])
          (λ e.
          let parts = and_cases (is_open k.flow k.rows p) (begins k.flow k.rows p) e in
          both (onto k n t (n + i)) true (joined_node k n t p (call_of k i p there parts.0) c (begins_joined k t p parts.1)) refl));
      linked = all_places (links_at k.procs k.flow k.rows n) (keeps (onto k n t)) k.steps
          (λ i p there.
          when (keeps (onto k n t)) (is_open k.flow k.rows p) (own_links (n + i) p (callees k p))
          (λ e.
          let call = call_of k i p there e in
          let home = proc_below k n i p stand there in
          of_linked (onto k n t) (n + i) p (callees k p)
          (record {
            home = λ h. low k n t p.proc home ∙ (and_cases (t p.proc) (list_all t (callees k p)) (sym (high k n t i p there) ∙ h)).0;
            tail = λ tail h. joined_node k n t p call c (Follows tail (sym (low k n t p.proc home) ∙ h));
            into = λ q has_q h. joined_node k n t p call c (Enters q has_q (sym (low k n t q (callee_below k n p q size has_q)) ∙ h));
            out = λ q has_q h.
                low k n t q (callee_below k n p q size has_q)
                ∙ one_of t (callees k p) q (and_cases (t p.proc) (list_all t (callees k p)) (sym (high k n t i p there) ∙ h)).1 has_q;
          })));
    }

pub least_joined : (k : Facts) (n : ℕ) (found : List ℕ) → n ≡ length k.procs → AllStand n k.steps
    → IsLeast (IsClosed (starts k n) (links k n)) (has found) → IsLeast (HasJoined k) (has (below n found))
least_joined k n found size stand l =
    record {
      closed = record {
        caller = λ p call joined.
            let node = node_kept k n found p call l.closed joined in
            in_below n found p.proc ((call_links_kept k n (has found) p call l.closed.linked).home node)
            (proc_below k n call.number p stand call.there);
        callee = λ p call joined q has_q.
            let node = node_kept k n found p call l.closed joined in
            in_below n found q ((call_links_kept k n (has found) p call l.closed.linked).out q has_q node) (callee_below k n p q size has_q);
      };
      within = λ other c x in_set.
          let parts = of_below n found x in_set in
          sym (low k n other x parts.1) ∙ l.within (onto k n other) (onto_closed k n other size stand c) x parts.0;
    }
