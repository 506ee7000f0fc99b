-- What one rule, and what the rules of a list, put into words.
use Rattle.std.proofs.Common.{ℕ, zero, suc, List, [], ◌∷◌, None, Some, length, slice_get, get_or, ◌≡◌, ◌+◌, ◌*◌, ◌/◌, ◌%◌, ◌^◌, ◌<◌, ◌≤◌, ◌⊎◌, ◌↔◌, inl, inr, refl, sym, ap, arith, subst}
use Rattle.std.specs.Int.{bit_at}
use Rattle.std.proofs.lemmas.Bool.{cases_eq, cases_lt}
use Rattle.std.proofs.lemmas.Nat.{mul-add-lt, one_shl, same_from_place}
use Rattle.std.proofs.lemmas.Nat.Bits.{bit_at-pow_same, bit_at-pow_other}
use Rattle.flow_form.specs.declared.constraints.Constraints.{Constraints}
use Rattle.flow_form.specs.declared.rule.Give.TheVariants.{Atom}
use Rattle.flow_form.specs.declared.rule.Rule.{Rule}
use Rattle.flow_form.specs.Least.{GivesAtom, Gives, Given, TestHolds}
use Rattle.flow_form.specs.Race.{with_bits}
use Rattle.flow_form.specs.Shape.{In, size_of, stride_of}
use Rattle.flow_form.proofs.Words.{in_more, in_kept, in_new}
use Rattle.flow_plain.specs.Rules.{GivesTo}

-- the mask of one atom
pub mask_of_atom :
    (atom at bit : ℕ) → atom / 64 ≡ at → bit < 64
    → (bit_at (1 * 2 ^ (atom % 64) % 2 ^ 64) bit ≡ 1) ↔ (64 * at + bit ≡ atom)
mask_of_atom atom at bit word below =
    let small : atom % 64 < 64 = omega arith in
    let mask : 1 * 2 ^ (atom % 64) % 2 ^ 64 ≡ 2 ^ (atom % 64) = one_shl (atom % 64) 64 small in
    let Bit : ℕ → Type 0 = λ n. bit_at n bit ≡ 1 in
    elim (cases_eq bit (atom % 64)) [
      | inl same ↦
          let Low : ℕ → Type 0 = λ n. bit_at (2 ^ (atom % 64)) n ≡ 1 in (
            (λ h. omega arith),
            (λ h. subst Bit (sym mask) (subst Low (sym same) (bit_at-pow_same (atom % 64)))),
          )
      | inr apart ↦
          let clear : bit_at (2 ^ (atom % 64)) bit ≡ 0 = bit_at-pow_other (atom % 64) bit apart in (
            (λ h. let set : bit_at (2 ^ (atom % 64)) bit ≡ 1 = subst Bit mask h in absurd (omega arith)),
            (λ h. absurd (apart (omega arith))),
          )
    ]

-- one word more of what a rule gives
pub give_more :
    (c : Constraints) (words old next : List ℕ) (rule : Rule) (at mask : ℕ)
    → length next ≡ size_of c → rule.to < c.rows → at < stride_of c
    → ((bit : ℕ) → bit < 64 → (bit_at mask bit ≡ 1) ↔ GivesAtom (In c words) rule.give (64 * at + bit))
    → ((row atom : ℕ) → In c next row atom ↔ (In c old row atom ⊎ (GivesTo c words rule row atom × (atom / 64 < at))))
    → (row atom : ℕ) → In c (with_bits next (rule.to * stride_of c + at) mask) row atom
    ↔ (In c old row atom ⊎ (GivesTo c words rule row atom × (atom / 64 < at + 1)))
give_more c words old next rule at mask size to_there at_there exact so_far row atom =
    let stride : ℕ = stride_of c in
    let fits : rule.to * stride_of c + at < stride_of c * c.rows = mul-add-lt rule.to (stride_of c) at c.rows to_there at_there in
    let Of : ℕ → Type 0 = λ n. GivesAtom (In c words) rule.give n in (
      (λ h. elim (in_more c next (rule.to * stride_of c + at) mask row atom h) [
        | inl before ↦
            elim ((so_far row atom).0 before) [
              | inl x ↦ inl x
              | inr y ↦ let below : atom / 64 < at = y.1 in inr (y.0, omega arith)
            ]
        | inr new ↦
            let atom_there : atom < 64 * stride_of c = h.atom_there in
            let place = same_from_place row (atom / 64) rule.to at (stride_of c) (omega arith) at_there new.0 in
            let word : atom / 64 ≡ at = place.1 in
            let whole : 64 * at + atom % 64 ≡ atom = omega arith in
            inr (
              record { to = place.0; given = subst Of whole ((exact (atom % 64) (omega arith)).0 new.1) },
              omega arith,
            )
      ]),
      (λ h. elim h [
        | inl x ↦ in_kept c next (rule.to * stride_of c + at) mask row atom ((so_far row atom).1 (inl x))
        | inr y ↦
            elim (cases_lt (atom / 64) at) [
              | inl below ↦
                  in_kept c next (rule.to * stride_of c + at) mask row atom ((so_far row atom).1 (inr (y.0, below)))
              | inr above ↦
                  let below : atom / 64 < at + 1 = y.1 in
                  let word : atom / 64 ≡ at = omega arith in
                  let whole : atom ≡ 64 * at + atom % 64 = omega arith in
                  let to : row ≡ rule.to = y.0.to in
                  let row_place : row * stride_of c ≡ rule.to * stride_of c = ap (λ n. n * stride_of c) to in
                  in_new c next (rule.to * stride_of c + at) mask row atom (omega arith) (omega arith) (omega arith) (omega arith)
                  ((exact (atom % 64) (omega arith)).1 (subst Of whole y.0.given))
            ]
      ]),
    )

-- the same where a variable has the stride
pub give_more_at :
    (c : Constraints) (words old next : List ℕ) (rule : Rule) (stride at mask : ℕ) → stride ≡ stride_of c
    → length next ≡ size_of c → rule.to < c.rows → at < stride_of c
    → ((bit : ℕ) → bit < 64 → (bit_at mask bit ≡ 1) ↔ GivesAtom (In c words) rule.give (64 * at + bit))
    → ((row atom : ℕ) → In c next row atom ↔ (In c old row atom ⊎ (GivesTo c words rule row atom × (atom / 64 < at))))
    → (row atom : ℕ) → In c (with_bits next (rule.to * stride + at) mask) row atom
    ↔ (In c old row atom ⊎ (GivesTo c words rule row atom × (atom / 64 < at + 1)))
give_more_at c words old next rule stride at mask same size to_there at_there exact so_far row atom =
    let P : ℕ → Type 0 =
    λ s. In c (with_bits next (rule.to * s + at) mask) row atom
    ↔ (In c old row atom ⊎ (GivesTo c words rule row atom × (atom / 64 < at + 1))) in
    subst P (sym same) (give_more c words old next rule at mask size to_there at_there exact so_far row atom)

-- what a rule gives to its row, where its tests hold, it gives
pub gives_of_holds :
    (c : Constraints) (words : List ℕ) (rule : Rule) (row atom : ℕ)
    → (TestHolds (In c words) rule.first × TestHolds (In c words) rule.second)
    → GivesTo c words rule row atom → Gives (In c words) rule row atom
gives_of_holds c words rule row atom holds h =
    record { first = holds.0; second = holds.1; to = h.to; gives = h.given }

-- ---- places in the list of rules
pub listed_below : (rules : List Rule) (place : ℕ) (rule : Rule) → slice_get rules place ≡ Some rule → place < length rules
listed_below [] place rule h = cc
listed_below (first ∷ rules) zero rule h = omega arith
listed_below (first ∷ rules) (suc place) rule h =
    let below : place < length rules = listed_below rules place rule h in
    omega arith

-- the rule at a place, as a loop over the list reads it
abbrev pub rule_here : List Rule → ℕ → Rule
rule_here rules place = get_or rules place record { first = None; second = None; give = Atom 0; to = 0 }

pub listed_here : (rules : List Rule) (place : ℕ) → place < length rules → slice_get rules place ≡ Some (rule_here rules place)
listed_here [] place below = absurd (omega arith)
listed_here (first ∷ rules) zero below = refl
listed_here (first ∷ rules) (suc place) below = listed_here rules place (omega arith)

pub listed_in :
    (rules items : List Rule) (place : ℕ) → items ≡ rules → place < length items
    → slice_get rules place ≡ Some (rule_here items place)
listed_in rules items place same below =
    let P : List Rule → Type 0 = λ list. slice_get list place ≡ Some (rule_here items place) in
    subst P same (listed_here items place below)

pub rule_at :
    (rules : List Rule) (i j : ℕ) (one other : Rule) → i ≡ j → slice_get rules i ≡ Some one
    → slice_get rules j ≡ Some other → one ≡ other
rule_at rules i j one other same at_i at_j =
    let At : ℕ → Type 0 = λ n. slice_get rules n ≡ Some one in
    let at : slice_get rules j ≡ Some one = subst At same at_i in
    cc (at, at_j)

-- ---- the rules below a place in the list
pub record GivenBelow (c : Constraints) (words : List ℕ) (place row atom : ℕ) : Type 0 where
  pub given : Given c.rules (In c words) row atom
  pub below : given.index < place

-- one rule more
pub below_more :
    (c : Constraints) (words : List ℕ) (place : ℕ) (rule : Rule) → slice_get c.rules place ≡ Some rule
    → (row atom : ℕ) → GivenBelow c words (place + 1) row atom
    ↔ (GivenBelow c words place row atom ⊎ Gives (In c words) rule row atom)
below_more c words place rule listed row atom = (
  (λ h.
      elim (cases_lt h.given.index place) [
        | inl below ↦ inl record { given = h.given; below = below }
        | inr above ↦
            let below : h.given.index < place + 1 = h.below in
            let at : h.given.index ≡ place = omega arith in
            let same : h.given.rule ≡ rule = rule_at c.rules h.given.index place h.given.rule rule at h.given.listed listed in
            let To : Rule → Type 0 = λ r. Gives (In c words) r row atom in
            inr (subst To same h.given.gives)
      ]),
  (λ h. elim h [
    | inl x ↦ let below : x.given.index < place = x.below in record { given = x.given; below = omega arith }
    | inr y ↦ record { given = record { index = place; rule = rule; listed = listed; gives = y }; below = omega arith }
  ]),
)

-- one rule more, whose tests hold
pub rules_more :
    (c : Constraints) (words old next after : List ℕ) (place : ℕ) (rule : Rule)
    → slice_get c.rules place ≡ Some rule
    → (TestHolds (In c words) rule.first × TestHolds (In c words) rule.second)
    → ((row atom : ℕ) → In c next row atom ↔ (In c old row atom ⊎ GivenBelow c words place row atom))
    → ((row atom : ℕ) → In c after row atom ↔ (In c next row atom ⊎ GivesTo c words rule row atom))
    → (row atom : ℕ) → In c after row atom ↔ (In c old row atom ⊎ GivenBelow c words (place + 1) row atom)
rules_more c words old next after place rule listed holds so_far step row atom =
    let more = below_more c words place rule listed row atom in (
      (λ h. elim ((step row atom).0 h) [
        | inl before ↦ elim ((so_far row atom).0 before) [ inl x ↦ inl x | inr y ↦ inr (more.1 (inl y)) ]
        | inr new ↦ inr (more.1 (inr (gives_of_holds c words rule row atom holds new)))
      ]),
      (λ h. elim h [
        | inl x ↦ (step row atom).1 (inl ((so_far row atom).1 (inl x)))
        | inr y ↦
            elim (more.0 y) [
              | inl below ↦ (step row atom).1 (inl ((so_far row atom).1 (inr below)))
              | inr gives ↦ (step row atom).1 (inr record { to = gives.to; given = gives.gives })
            ]
      ]),
    )

-- one rule more, whose tests do not both hold
pub rules_skipped :
    (c : Constraints) (words old next : List ℕ) (place : ℕ) (rule : Rule)
    → slice_get c.rules place ≡ Some rule
    → ¬ (TestHolds (In c words) rule.first × TestHolds (In c words) rule.second)
    → ((row atom : ℕ) → In c next row atom ↔ (In c old row atom ⊎ GivenBelow c words place row atom))
    → (row atom : ℕ) → In c next row atom ↔ (In c old row atom ⊎ GivenBelow c words (place + 1) row atom)
rules_skipped c words old next place rule listed fails so_far row atom =
    let more = below_more c words place rule listed row atom in (
      (λ h. elim ((so_far row atom).0 h) [ inl x ↦ inl x | inr y ↦ inr (more.1 (inl y)) ]),
      (λ h. elim h [
        | inl x ↦ (so_far row atom).1 (inl x)
        | inr y ↦
            elim (more.0 y) [
              | inl below ↦ (so_far row atom).1 (inr below)
              | inr gives ↦ absurd (fails (gives.first, gives.second))
            ]
      ]),
    )

-- all rules
pub rules_all :
    (c : Constraints) (words old next : List ℕ) (place : ℕ) → length c.rules ≤ place
    → ((row atom : ℕ) → In c next row atom ↔ (In c old row atom ⊎ GivenBelow c words place row atom))
    → (row atom : ℕ) → In c next row atom ↔ (In c old row atom ⊎ Given c.rules (In c words) row atom)
rules_all c words old next place end so_far row atom = (
  (λ h. elim ((so_far row atom).0 h) [
    | inl x ↦ inl x
    | inr y ↦ inr y.given
  ]),
  (λ h. elim h [
    | inl x ↦ (so_far row atom).1 (inl x)
    | inr y ↦
        let there : y.index < length c.rules = listed_below c.rules y.index y.rule y.listed in
        (so_far row atom).1 (inr record { given = y; below = omega arith })
  ]),
)
