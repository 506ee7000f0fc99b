-- From round to round: the rows lie within the least solution, and each round but the last adds a pair.
use Rattle.std.proofs.Common.{ℕ, zero, suc, List, length, ◌≡◌, ◌+◌, ◌*◌, ◌<◌, ◌≤◌, inl, inr, sym, arith, subst}
use Rattle.std.proofs.lemmas.Bool.{cases_lt}
use Rattle.bit_rows.specs.Members.{IsMember}
use Rattle.flow_form.specs.declared.constraints.Constraints.{Constraints}
use Rattle.flow_form.specs.Least.{Closed, Least, Nothing, Stage, Within}
use Rattle.flow_form.specs.Shape.{In, pairs_in, size_of}
use Rattle.flow_form.proofs.Count.{pairs_few, pairs_grow}
use Rattle.flow_form.proofs.Least.{given_more, least_within}
use Rattle.type_table.specs.Tables.{Answer, IsAnswer}
use Rattle.flow_workers.specs.Rounds.{AreGrown, IsRound, IsSolved, Reaches}

-- ---- rows that grew
pub not_same :
    (c : Constraints) (before after grown : List ℕ) (row : ℕ) → AreGrown c before after grown → IsMember grown row
    → ¬ Within (In c after) (In c before)
not_same c before after grown row grows member within = grows.grew row member (λ atom h. within row atom h)

pub all_same :
    (c : Constraints) (before after grown : List ℕ) → AreGrown c before after grown
    → ((row : ℕ) → row < c.rows → ¬ IsMember grown row) → Within (In c after) (In c before)
all_same c before after grown grows none row atom h = grows.rests row (none row h.row_there) atom h

-- ---- the first round
pub reaches_first :
    (c : Constraints) (base grown : List ℕ) (left : Answer) → length base ≡ size_of c
    → ((row atom : ℕ) → ¬ In c base row atom) → IsRound c base 1 left → IsAnswer left.constraints left.rows
    → AreGrown c base left.rows.words grown → Reaches c left grown
reaches_first c base grown left size none round answer grows =
    let one : left.rounds ≡ 1 = round.same_rounds in
    let From : ℕ → Type 0 = λ n. IsRound c base n left in
    let Of : Constraints → Type 0 = λ d. IsAnswer d left.rows in
    record {
      base = base;
      base_size = size;
      round = subst From (sym one) round;
      answer = subst Of round.same_constraints answer;
      grows = grows;
      some_rounds = omega arith;
      rounds_fit = omega arith;
      stages = λ steps few row atom h.
          let first : steps ≡ 0 = omega arith in
          let At : ℕ → Type 0 = λ n. Stage c.rules Nothing n row atom in
          absurd (subst At first h);
      not_late = λ steps closed. omega arith;
    }

-- ---- the next round

-- the stage of a closed set is the least solution
closed_least :
    (c : Constraints) (steps : ℕ) → Closed c.rules (Stage c.rules Nothing steps)
    → Within (Least c.rules) (Stage c.rules Nothing steps)
closed_least c steps closed =
    least_within c.rules Nothing (Stage c.rules Nothing steps) (λ row atom h. absurd h) closed

-- a round that adds a pair did not begin at the least solution
not_last :
    (c : Constraints) (last : Answer) (grown : List ℕ) (row steps : ℕ) → (reaches : Reaches c last grown)
    → IsMember grown row → Closed c.rules (Stage c.rules Nothing steps) → last.rounds + 1 ≤ steps + 1
not_last c last grown row steps reaches member closed =
    let not_late : last.rounds ≤ steps + 1 = reaches.not_late steps closed in
    elim (cases_lt last.rounds (steps + 1)) [
      | inl early ↦ omega arith
      | inr late ↦
          absurd
          (not_same c reaches.base last.rows.words grown row reaches.grows member
          (λ r a h.
          reaches.stages steps (omega arith) r a (closed_least c steps closed r a (reaches.answer.within r a h))))
    ]

-- what plain steps have reached by the end of a round stands in its rows
stage_more :
    (c : Constraints) (last : Answer) (grown : List ℕ) → Reaches c last grown
    → (steps : ℕ) → steps ≤ last.rounds → Within (Stage c.rules Nothing steps) (In c last.rows.words)
stage_more c last grown reaches zero few row atom h = absurd h
stage_more c last grown reaches (suc steps) few row atom h =
    let before : Within (Stage c.rules Nothing steps) (In c reaches.base) = reaches.stages steps (omega arith) in
    elim h [
      | inl old ↦ reaches.round.above row atom (before row atom old)
      | inr new ↦
          reaches.round.given row atom
          (given_more c.rules (Stage c.rules Nothing steps) (In c reaches.base) before row atom new)
    ]

pub reaches_next :
    (c : Constraints) (last left : Answer) (grown now : List ℕ) (row : ℕ) → Reaches c last grown → IsMember grown row
    → IsRound c last.rows.words (last.rounds + 1) left → IsAnswer left.constraints left.rows
    → AreGrown c last.rows.words left.rows.words now → Reaches c left now
reaches_next c last left grown now row reaches member round answer grows =
    let more : left.rounds ≡ last.rounds + 1 = round.same_rounds in
    let some : 1 ≤ last.rounds = reaches.some_rounds in
    let fit : last.rounds ≤ pairs_in reaches.base + 1 = reaches.rounds_fit in
    let size : length last.rows.words ≡ size_of c = reaches.answer.shape.size in
    let added : pairs_in reaches.base < pairs_in last.rows.words =
    pairs_grow c reaches.base last.rows.words reaches.base_size size reaches.round.above
    (not_same c reaches.base last.rows.words grown row reaches.grows member) in
    let From : ℕ → Type 0 = λ n. IsRound c last.rows.words n left in
    let Of : Constraints → Type 0 = λ d. IsAnswer d left.rows in
    record {
      base = last.rows.words;
      base_size = size;
      round = subst From (sym more) round;
      answer = subst Of round.same_constraints answer;
      grows = grows;
      some_rounds = omega arith;
      rounds_fit = omega arith;
      stages = λ steps few. stage_more c last grown reaches steps (omega arith);
      not_late = λ steps closed.
          let bound : last.rounds + 1 ≤ steps + 1 = not_last c last grown row steps reaches member closed in
          omega arith;
    }

-- ---- the end
pub solved :
    (c : Constraints) (left : Answer) (grown : List ℕ) → Reaches c left grown
    → ((row : ℕ) → row < c.rows → ¬ IsMember grown row) → IsSolved c left
solved c left grown reaches none =
    let same = all_same c reaches.base left.rows.words grown reaches.grows none in
    let closed : Closed c.rules (In c reaches.base) = λ row atom h. same row atom (reaches.round.given row atom h) in
    record {
      same_constraints = reaches.round.same_constraints;
      least = record {
        shape = reaches.answer.shape;
        exact = λ row atom. (
          reaches.answer.within row atom,
          (λ h.
              reaches.round.above row atom
              (least_within c.rules Nothing (In c reaches.base) (λ r a k. absurd k) closed row atom h)),
        );
      };
      some_rounds = reaches.some_rounds;
      few_rounds = λ steps chain. reaches.not_late steps chain.ends;
    }

-- there are fewer rounds than pairs fit in the rows
pub rounds_few :
    (c : Constraints) (left : Answer) (grown : List ℕ) → Reaches c left grown → left.rounds ≤ 64 * size_of c + 1
rounds_few c left grown reaches =
    let fit : left.rounds ≤ pairs_in reaches.base + 1 = reaches.rounds_fit in
    let few : pairs_in reaches.base ≤ 64 * length reaches.base = pairs_few reaches.base in
    let size : length reaches.base ≡ size_of c = reaches.base_size in
    omega arith
