-- Which rows have been found grown, and which blocks settled, by a loop over them.
use Rattle.std.proofs.Common.{ℕ, List, Vec, Global, length, Option, None, Some, Result, Ok, Err, IfOk, slice_get, ◌≡◌, ◌+◌, ◌*◌, ◌<◌, ◌≤◌, ◌⊎◌, ◌↔◌, inl, inr, sym, ◌∙◌, arith, subst}
use Rattle.std.proofs.lemmas.Bool.{cases_lt}
use Rattle.std.proofs.lemmas.Grind.{div_ceil_times}
use Rattle.bit_rows.specs.Members.{IsMember, IsSubset}
use Rattle.flow_form.specs.declared.constraints.Constraints.{Constraints}
use Rattle.flow_form.specs.declared.rule.Give.{Give}
use Rattle.flow_form.specs.declared.rule.Give.TheVariants.{Atom, Row}
use Rattle.flow_form.specs.declared.rule.Rule.{Rule}
use Rattle.flow_form.specs.declared.rule.Test.{Test}
use Rattle.flow_form.specs.declared.rule.Test.TheVariants.{Has, Other}
use Rattle.flow_form.specs.Least.{Given, GivenByBlock, GivesAtom, TestHolds, Within}
use Rattle.flow_form.specs.Shape.{In}
use Rattle.flow_workers.specs.Rounds.{AreGrown, AreRests, BlockRests, GiveRests, GrewBetween, RowWithin, RuleRests, TestRests}

-- ---- rows

pub grown_all :
    (c : Constraints) (before after grown : List ℕ) → GrewBetween c before after 0 c.rows grown
    → AreGrown c before after grown
grown_all c before after grown h =
    let enough = div_ceil_times c.rows 64 (omega arith) in
    record {
      size = omega (arith, h.size, enough.0);
      grew = λ k member. (h.grew k member).2;
      rests = λ k none atom pair. h.rests k (omega arith) pair.row_there none atom pair;
    }

pub all_grown :
    {E : Type 0} → (c : Constraints) (before after : List ℕ) (found : Result (Vec ℕ Global) E)
    → IfOk found (λ grown. GrewBetween c before after 0 c.rows grown.items)
    → IfOk found (λ grown. AreGrown c before after grown.items)
all_grown c before after (Ok grown) h = grown_all c before after grown.items h
all_grown c before after (Err error) h = tt

-- those up to a row, and then those that are so
grown_joined :
    (c : Constraints) (before after grown items : List ℕ) (first middle end : ℕ) (Next : ℕ → Type 0)
    → GrewBetween c before after first middle grown → first ≤ middle → middle ≤ end → length items ≡ length grown
    → ((k : ℕ) → IsMember items k ↔ (IsMember grown k ⊎ Next k))
    → ((k : ℕ) → Next k → (middle ≤ k) × (k < end) × ¬ RowWithin c after before k)
    → ((k : ℕ) → middle ≤ k → k < end → ¬ Next k → RowWithin c after before k)
    → GrewBetween c before after first end items
grown_joined c before after grown items first middle end Next so_far order later size members grew rests =
    record {
      size = size ∙ so_far.size;
      grew = λ k member.
          elim ((members k).0 member) [
            | inl old ↦
                let h = so_far.grew k old in
                let below : k < middle = h.1 in
                (h.0, omega arith, h.2)
            | inr new ↦
                let h = grew k new in
                let above : middle ≤ k = h.0 in
                (omega arith, h.1, h.2)
          ];
      rests = λ k above below none.
          elim (cases_lt k middle) [
            | inl early ↦ so_far.rests k above early (λ m. none ((members k).1 (inl m)))
            | inr late ↦ rests k (omega arith) below (λ m. none ((members k).1 (inr m)))
          ];
    }

pub grown_new :
    (c : Constraints) (before after grown items here there : List ℕ) (first row : ℕ)
    → GrewBetween c before after first row grown → first ≤ row → length items ≡ length grown
    → ((k : ℕ) → IsMember items k ↔ (IsMember grown k ⊎ (k ≡ row)))
    → ((atom : ℕ) → IsMember here atom ↔ In c after row atom)
    → ((atom : ℕ) → IsMember there atom ↔ In c before row atom) → ¬ IsSubset here there
    → GrewBetween c before after first (row + 1) items
grown_new c before after grown items here there first row so_far order size members in_after in_before apart =
    let At : ℕ → Type 0 = λ n. ¬ RowWithin c after before n in
    grown_joined c before after grown items first row (row + 1) (λ k. k ≡ row) so_far order (omega arith) size members
    (λ k same. (
      omega arith,
      omega arith,
      subst At (sym same) (λ h. apart (λ atom m. (in_before atom).1 (h atom ((in_after atom).0 m)))),
    ))
    (λ k above below none. absurd (none (omega arith)))

pub grown_same :
    (c : Constraints) (before after grown here there : List ℕ) (first row : ℕ)
    → GrewBetween c before after first row grown
    → ((atom : ℕ) → IsMember here atom ↔ In c after row atom)
    → ((atom : ℕ) → IsMember there atom ↔ In c before row atom) → IsSubset here there
    → GrewBetween c before after first (row + 1) grown
grown_same c before after grown here there first row so_far in_after in_before within =
    record {
      size = so_far.size;
      grew = λ k member.
          let h = so_far.grew k member in
          let below : k < row = h.1 in
          (h.0, omega arith, h.2);
      rests = λ k above below none.
          elim (cases_lt k row) [
            | inl old ↦ so_far.rests k above old none
            | inr last ↦
                let same : row ≡ k = omega arith in
                let At : ℕ → Type 0 = λ n. RowWithin c after before n in
                subst At same (λ atom h. (in_before atom).0 (within atom ((in_after atom).1 h)))
          ];
    }

-- those of two halves
pub grown_both :
    (c : Constraints) (before after one two both : List ℕ) (first middle end : ℕ)
    → GrewBetween c before after first middle one → GrewBetween c before after middle end two → first ≤ middle
    → middle ≤ end → length both ≡ length one → ((k : ℕ) → IsMember both k ↔ (IsMember one k ⊎ IsMember two k))
    → GrewBetween c before after first end both
grown_both c before after one two both first middle end of_one of_two order later size members =
    grown_joined c before after one both first middle end (λ k. IsMember two k) of_one order later size members
    of_two.grew of_two.rests

-- ---- blocks

-- those up to a block, and then those that are so
settled_joined :
    (c : Constraints) (grown settled items : List ℕ) (first middle end : ℕ) (Next : ℕ → Type 0)
    → AreRests c grown first middle settled → first ≤ middle → middle ≤ end → length items ≡ length settled
    → ((k : ℕ) → IsMember items k ↔ (IsMember settled k ⊎ Next k))
    → ((k : ℕ) → Next k ↔ ((middle ≤ k) × (k < end) × BlockRests c grown k)) → AreRests c grown first end items
settled_joined c grown settled items first middle end Next so_far order later size members next =
    record {
      size = omega (arith, so_far.size);
      exact = λ k. (
        (λ member.
            elim ((members k).0 member) [
              | inl old ↦
                  let h = (so_far.exact k).0 old in
                  let below : k < middle = h.1 in
                  (h.0, omega arith, h.2)
              | inr new ↦
                  let h = (next k).0 new in
                  let above : middle ≤ k = h.0 in
                  (omega arith, h.1, h.2)
            ]),
        (λ h.
            elim (cases_lt k middle) [
              | inl early ↦ (members k).1 (inl ((so_far.exact k).1 (h.0, early, h.2)))
              | inr late ↦ (members k).1 (inr ((next k).1 (omega arith, h.1, h.2)))
            ]),
      );
    }

pub settled_new :
    (c : Constraints) (grown settled items : List ℕ) (first block : ℕ) → AreRests c grown first block settled
    → first ≤ block → length items ≡ length settled
    → ((k : ℕ) → IsMember items k ↔ (IsMember settled k ⊎ (k ≡ block))) → BlockRests c grown block
    → AreRests c grown first (block + 1) items
settled_new c grown settled items first block so_far order size members rests =
    let At : ℕ → Type 0 = λ n. BlockRests c grown n in
    settled_joined c grown settled items first block (block + 1) (λ k. k ≡ block) so_far order (omega arith) size members
    (λ k. (
      (λ same. (omega arith, omega arith, subst At (sym same) rests)),
      (λ h. let above : block ≤ k = h.0 in let below : k < block + 1 = h.1 in omega arith),
    ))

pub settled_same :
    (c : Constraints) (grown settled : List ℕ) (first block : ℕ) → AreRests c grown first block settled
    → ¬ BlockRests c grown block → AreRests c grown first (block + 1) settled
settled_same c grown settled first block so_far reads =
    record {
      size = so_far.size;
      exact = λ k. (
        (λ member.
            let h = (so_far.exact k).0 member in
            let below : k < block = h.1 in
            (h.0, omega arith, h.2)),
        (λ h.
            elim (cases_lt k block) [
              | inl old ↦ (so_far.exact k).1 (h.0, old, h.2)
              | inr last ↦
                  let below : k < block + 1 = h.1 in
                  let same : k ≡ block = omega arith in
                  let At : ℕ → Type 0 = λ n. BlockRests c grown n in
                  absurd (reads (subst At same h.2))
            ]),
      );
    }

-- those of two halves
pub settled_both :
    (c : Constraints) (grown one two both : List ℕ) (first middle end : ℕ) → AreRests c grown first middle one
    → AreRests c grown middle end two → first ≤ middle → middle ≤ end → length both ≡ length one
    → ((k : ℕ) → IsMember both k ↔ (IsMember one k ⊎ IsMember two k)) → AreRests c grown first end both
settled_both c grown one two both first middle end of_one of_two order later size members =
    settled_joined c grown one both first middle end (λ k. IsMember two k) of_one order later size members of_two.exact

-- the rules of a block below a place rest
abbrev pub RulesRest : Constraints → (grown : List ℕ) → (block end : ℕ) → Type 0
RulesRest c grown block end =
    (index : ℕ) (rule : Rule) → block * 1024 ≤ index → index < end → slice_get c.rules index ≡ Some rule → RuleRests grown rule

-- ---- what is settled

test_before :
    (c : Constraints) (before after grown : List ℕ) (test : Option Test) → AreGrown c before after grown
    → TestRests grown test → TestHolds (In c after) test → TestHolds (In c before) test
test_before c before after grown None grows rests h = tt
test_before c before after grown (Some (Has row atom)) grows rests h = grows.rests row rests atom h
test_before c before after grown (Some (Other row atom)) grows rests h = (h.0, h.1, grows.rests row rests h.0 h.2)

atom_before :
    (c : Constraints) (before after grown : List ℕ) (give : Give) (atom : ℕ) → AreGrown c before after grown
    → GiveRests grown give → GivesAtom (In c after) give atom → GivesAtom (In c before) give atom
atom_before c before after grown (Atom given) atom grows rests h = h
atom_before c before after grown (Row row) atom grows rests h = grows.rests row rests atom h

-- a block that reads no row that grew gives nothing new
pub settled_next :
    (c : Constraints) (before after grown : List ℕ) (block : ℕ) → AreGrown c before after grown
    → Within (Given c.rules (In c before)) (In c after) → BlockRests c grown block
    → Within (GivenByBlock c.rules block (In c after)) (In c after)
settled_next c before after grown block grows given rests row atom h =
    let rule = rests h.given.index h.given.rule h.in_block h.given.listed in
    given row atom
    record {
      index = h.given.index;
      rule = h.given.rule;
      listed = h.given.listed;
      gives = record {
        first = test_before c before after grown h.given.rule.first grows rule.first h.given.gives.first;
        second = test_before c before after grown h.given.rule.second grows rule.second h.given.gives.second;
        to = h.given.gives.to;
        gives = atom_before c before after grown h.given.rule.give atom grows rule.give h.given.gives.gives;
      };
    }
