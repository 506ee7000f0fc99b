-- The least solution from a base is closed, and is within each closed set that has the base.
use Rattle.std.proofs.Common.{ℕ, zero, suc, List, Option, Some, None, ◌≡◌, ◌+◌, ◌<◌, ◌≤◌, inl, inr, arith, subst}
use Rattle.std.proofs.lemmas.Bool.{cases_lt}
use Rattle.flow_form.specs.declared.constraints.Constraints.{Constraints}
use Rattle.flow_form.specs.declared.rule.Give.{Give}
use Rattle.flow_form.specs.declared.rule.Give.TheVariants.{Atom, Row}
use Rattle.flow_form.specs.declared.rule.Rule.{Rule}
use Rattle.flow_form.specs.declared.rule.Test.{Test}
use Rattle.flow_form.specs.declared.rule.Test.TheVariants.{Has, Other}
use Rattle.flow_form.specs.Least.{Pairs, Within, SameSet, TestHolds, GivesAtom, Gives, Given, Closed, Stage, LeastFrom}
use Rattle.flow_form.specs.Valid.{GiveNames}

-- ---- a larger set gives more
pub test_more : (S T : Pairs) (test : Option Test) → Within S T → TestHolds S test → TestHolds T test
test_more S T None more h = tt
test_more S T (Some (Has row atom)) more h = more row atom h
test_more S T (Some (Other row atom)) more h = (h.0, h.1, more row h.0 h.2)

pub atom_more : (S T : Pairs) (give : Give) (atom : ℕ) → Within S T → GivesAtom S give atom → GivesAtom T give atom
atom_more S T (Atom given) atom more h = h
atom_more S T (Row row) atom more h = more row atom h

pub gives_more : (S T : Pairs) (rule : Rule) (row atom : ℕ) → Within S T → Gives S rule row atom → Gives T rule row atom
gives_more S T rule row atom more h =
    record {
      first = test_more S T rule.first more h.first;
      second = test_more S T rule.second more h.second;
      to = h.to;
      gives = atom_more S T rule.give atom more h.gives;
    }

pub given_more : (rules : List Rule) (S T : Pairs) → Within S T → Within (Given rules S) (Given rules T)
given_more rules S T more row atom h =
    record {
      index = h.index;
      rule = h.rule;
      listed = h.listed;
      gives = gives_more S T h.rule row atom more h.gives;
    }

-- ---- stages
pub stage_le :
    (rules : List Rule) (base : Pairs) (m n : ℕ) → m ≤ n → Within (Stage rules base m) (Stage rules base n)
stage_le rules base m zero h row atom s =
    let e : m ≡ 0 = omega arith in
    let P : ℕ → Type 0 = λ k. Stage rules base k row atom in
    subst P e s
stage_le rules base m (suc n) h row atom s =
    elim (cases_lt m (suc n)) [
      | inl below ↦ let le : m ≤ n = omega arith in inl (stage_le rules base m n le row atom s)
      | inr above ↦
          let e : m ≡ suc n = omega arith in
          let P : ℕ → Type 0 = λ k. Stage rules base k row atom in
          subst P e s
    ]

-- ---- the least solution is closed: what a rule reads of it stands in one stage
test_stage :
    (rules : List Rule) (base : Pairs) (test : Option Test) → TestHolds (LeastFrom rules base) test
    → (n : ℕ) × TestHolds (Stage rules base n) test
test_stage rules base None h = (0, tt)
test_stage rules base (Some (Has row atom)) h = h
test_stage rules base (Some (Other row atom)) h = (h.2.0, (h.0, h.1, h.2.1))

atom_stage :
    (rules : List Rule) (base : Pairs) (give : Give) (atom : ℕ) → GivesAtom (LeastFrom rules base) give atom
    → (n : ℕ) × GivesAtom (Stage rules base n) give atom
atom_stage rules base (Atom given) atom h = (0, h)
atom_stage rules base (Row row) atom h = h

pub least_closed : (rules : List Rule) (base : Pairs) → Closed rules (LeastFrom rules base)
least_closed rules base row atom h =
    let first = test_stage rules base h.rule.first h.gives.first in
    let second = test_stage rules base h.rule.second h.gives.second in
    let give = atom_stage rules base h.rule.give atom h.gives.gives in
    let n : ℕ = first.0 + second.0 + give.0 in
    let le_first : first.0 ≤ n = omega arith in
    let le_second : second.0 ≤ n = omega arith in
    let le_give : give.0 ≤ n = omega arith in (
      suc n,
      inr
          record {
            index = h.index;
            rule = h.rule;
            listed = h.listed;
            gives = record {
              first = test_more (Stage rules base first.0) (Stage rules base n) h.rule.first (stage_le rules base first.0 n le_first) first.1;
              second = test_more (Stage rules base second.0) (Stage rules base n) h.rule.second (stage_le rules base second.0 n le_second) second.1;
              to = h.gives.to;
              gives = atom_more (Stage rules base give.0) (Stage rules base n) h.rule.give atom (stage_le rules base give.0 n le_give) give.1;
            };
          },
    )

pub least_has_base : (rules : List Rule) (base : Pairs) → Within base (LeastFrom rules base)
least_has_base rules base row atom h = (0, h)

-- ---- it is within each closed set that has the base
pub stage_within :
    (rules : List Rule) (base T : Pairs) → Within base T → Closed rules T
    → (n : ℕ) → Within (Stage rules base n) T
stage_within rules base T has closed zero row atom h = has row atom h
stage_within rules base T has closed (suc n) row atom h =
    elim h [
      | inl old ↦ stage_within rules base T has closed n row atom old
      | inr new ↦
          closed row atom
          (given_more rules (Stage rules base n) T (stage_within rules base T has closed n) row atom new)
    ]

pub least_within :
    (rules : List Rule) (base T : Pairs) → Within base T → Closed rules T → Within (LeastFrom rules base) T
least_within rules base T has closed row atom h = stage_within rules base T has closed h.0 row atom h.1

-- the first stage that repeats is the least solution
pub least_of_repeat :
    (rules : List Rule) (base : Pairs) (n : ℕ) → Within (Stage rules base (suc n)) (Stage rules base n)
    → SameSet (LeastFrom rules base) (Stage rules base n)
least_of_repeat rules base n h row atom = (
  (λ least.
      least_within rules base (Stage rules base n) (stage_le rules base 0 n (omega arith))
      (λ r a given. h r a (inr given)) row atom least),
  (λ stage. (n, stage)),
)

-- a base within the least solution from a smaller one leads to that same one
pub least_of_restart :
    (rules : List Rule) (base inner : Pairs) → Within base inner → Within inner (LeastFrom rules base)
    → SameSet (LeastFrom rules inner) (LeastFrom rules base)
least_of_restart rules base inner more within row atom = (
  least_within rules inner (LeastFrom rules base) within (least_closed rules base) row atom,
  least_within rules base (LeastFrom rules inner)
      (λ r a h. least_has_base rules inner r a (more r a h)) (least_closed rules inner) row atom,
)

-- ---- rules that name what is there give nothing else
atom_named :
    (rows atoms : ℕ) (give : Give) (atom : ℕ) → GiveNames rows atoms give
    → GivesAtom (λ r a. (r < rows) × (a < atoms)) give atom → atom < atoms
atom_named rows atoms (Atom given) atom names h = let e : atom ≡ given = h in omega arith
atom_named rows atoms (Row row) atom names h = h.1

pub least_named :
    (c : Constraints) (base : Pairs) → Within base (λ r a. (r < c.rows) × (a < c.atoms))
    → Within (LeastFrom c.rules base) (λ r a. (r < c.rows) × (a < c.atoms))
least_named c base has =
    let Named : Pairs = λ r a. (r < c.rows) × (a < c.atoms) in
    least_within c.rules base Named has
    (λ r a h.
    let names = c.valid.named h.index h.rule h.listed in
    let to : r ≡ h.rule.to = h.gives.to in
    let below : h.rule.to < c.rows = names.to in
    (omega arith, atom_named c.rows c.atoms h.rule.give a names.give h.gives.gives))
