-- Which bits of a word follow from words, and whether what rules give stands in them.
use Rattle.std.proofs.Common.{ℕ, List, Some, length, slice_get, get_or, bit_or, ◌≡◌, ◌+◌, ◌*◌, ◌/◌, ◌%◌, ◌<◌, ◌≤◌, ◌⊎◌, ◌↔◌, inl, inr, refl, sym, ◌∙◌, ap, arith, subst}
use Rattle.std.specs.Int.{bit_at}
use Rattle.std.proofs.lemmas.Bool.{cases_lt}
use Rattle.std.proofs.lemmas.Nat.{div-add-mod', div_below, mod_below, same_from_place}
use Rattle.bit_rows.proofs.Words.{bit_of_or}
use Rattle.flow_form.specs.declared.constraints.Constraints.{Constraints}
use Rattle.flow_form.specs.declared.event.Worker.{Worker}
use Rattle.flow_form.specs.declared.rule.Rule.{Rule}
use Rattle.flow_form.specs.Least.{Pairs, Within, Gives, Given, GivenByBlock, GivesAtom}
use Rattle.flow_form.specs.Race.{MaskWithin, Seen}
use Rattle.flow_form.specs.Shape.{In, size_of, stride_of}
use Rattle.flow_plain.specs.Rules.{GivesTo}
use Rattle.flow_plain.proofs.Rules.{GivenBelow, below_more, listed_below}

-- ---- a mask for a word
pub stride_some : (c : Constraints) → 0 < stride_of c
stride_some c = let valid = c.valid.few in omega arith

pub mask_within :
    (c : Constraints) (word mask : ℕ) (T : Pairs) → word < size_of c
    → ((bit : ℕ) → bit < 64 → bit_at mask bit ≡ 1 → T (word / stride_of c) (64 * (word % stride_of c) + bit))
    → MaskWithin c word mask T
mask_within c word mask T there h row atom row_there atom_there place set =
    let some = stride_some c in
    let whole = div-add-mod' word (stride_of c) in
    let col : word % stride_of c < stride_of c = mod_below word (stride_of c) some in
    let same = same_from_place row (atom / 64) (word / stride_of c) (word % stride_of c) (stride_of c) (omega arith) col (place ∙ sym whole) in
    let at_col : atom / 64 ≡ word % stride_of c = same.1 in
    let at : 64 * (word % stride_of c) + atom % 64 ≡ atom = omega arith in
    let P : ℕ → Type 0 = λ n. T (word / stride_of c) n in
    let Q : ℕ → Type 0 = λ n. T n atom in
    subst Q (sym same.0) (subst P at (h (atom % 64) (omega arith) set))

pub within_mask :
    (c : Constraints) (word mask : ℕ) (T : Pairs) → word < size_of c → MaskWithin c word mask T
    → (bit : ℕ) → bit < 64 → bit_at mask bit ≡ 1 → T (word / stride_of c) (64 * (word % stride_of c) + bit)
within_mask c word mask T there h bit below set =
    let some = stride_some c in
    let whole : word / stride_of c * stride_of c + word % stride_of c ≡ word = div-add-mod' word (stride_of c) in
    let col : word % stride_of c < stride_of c = mod_below word (stride_of c) some in
    let row_there : word / stride_of c < c.rows = div_below word (stride_of c) c.rows some there in
    let low : (64 * (word % stride_of c) + bit) % 64 ≡ bit = omega arith in
    let Bit : ℕ → Type 0 = λ n. bit_at mask n ≡ 1 in
    h (word / stride_of c) (64 * (word % stride_of c) + bit) row_there (omega arith) (omega arith) (subst Bit (sym low) set)

-- ---- what the rules of a list give to a word
pub bits_more :
    (c : Constraints) (words : List ℕ) (place bits new row col : ℕ) (rule : Rule)
    → slice_get c.rules place ≡ Some rule
    → ((bit : ℕ) → bit < 64 → (bit_at bits bit ≡ 1) ↔ GivenBelow c words place row (64 * col + bit))
    → ((bit : ℕ) → bit < 64 → (bit_at new bit ≡ 1) ↔ Gives (In c words) rule row (64 * col + bit))
    → (bit : ℕ) → bit < 64 → (bit_at (bit_or bits new) bit ≡ 1) ↔ GivenBelow c words (place + 1) row (64 * col + bit)
bits_more c words place bits new row col rule listed so_far gives bit below =
    let more = below_more c words place rule listed row (64 * col + bit) in
    let either = bit_of_or bits new bit in (
      (λ h. elim (either.0 h) [
        | inl x ↦ more.1 (inl ((so_far bit below).0 x))
        | inr y ↦ more.1 (inr ((gives bit below).0 y))
      ]),
      (λ h. elim (more.0 h) [
        | inl x ↦ either.1 (inl ((so_far bit below).1 x))
        | inr y ↦ either.1 (inr ((gives bit below).1 y))
      ]),
    )

pub bits_all :
    (c : Constraints) (words : List ℕ) (place row atom : ℕ) → length c.rules ≤ place
    → GivenBelow c words place row atom ↔ Given c.rules (In c words) row atom
bits_all c words place row atom end = (
  (λ h. h.given),
  (λ h.
      let there : h.index < length c.rules = listed_below c.rules h.index h.rule h.listed in
      record { given = h; below = omega arith }),
)

-- ---- what a rule gives, among what a worker has loaded or grown
pub gift_more :
    (c : Constraints) (base : List ℕ) (worker : Worker) (rule : Rule) (stride at mask : ℕ) → stride ≡ stride_of c
    → rule.to < c.rows → at < stride_of c
    → ((bit : ℕ) → bit < 64 → (bit_at mask bit ≡ 1) ↔ GivesAtom (In c base) rule.give (64 * at + bit))
    → ((bit : ℕ) → bit < 64 → bit_at mask bit ≡ 1
    → bit_at (bit_or (get_or worker.loaded (rule.to * stride + at) 0) (get_or worker.grown (rule.to * stride + at) 0)) bit ≡ 1)
    → ((row atom : ℕ) → GivesTo c base rule row atom → atom / 64 < at → Seen c worker row atom)
    → (row atom : ℕ) → GivesTo c base rule row atom → atom / 64 < at + 1 → Seen c worker row atom
gift_more c base worker rule stride at mask same to_there at_there exact part so_far row atom h near =
    elim (cases_lt (atom / 64) at) [
      | inl below ↦ so_far row atom h below
      | inr above ↦
          let at_word : atom / 64 ≡ at = omega arith in
          let whole : atom ≡ 64 * at + atom % 64 = omega arith in
          let to : row ≡ rule.to = h.to in
          let Gift : ℕ → Type 0 = λ n. GivesAtom (In c base) rule.give n in
          let set = (exact (atom % 64) (omega arith)).1 (subst Gift whole h.given) in
          let place : rule.to * stride + at ≡ row * stride_of c + atom / 64 =
          ap (λ s. rule.to * s + at) same ∙ ap (λ r. r * stride_of c + at) (sym to) ∙ ap (λ n. row * stride_of c + n) (sym at_word) in
          let Bit : ℕ → Type 0 = λ n. (bit_at (get_or worker.loaded n 0) (atom % 64) ≡ 1) ⊎ (bit_at (get_or worker.grown n 0) (atom % 64) ≡ 1) in
          let either =
          (bit_of_or (get_or worker.loaded (rule.to * stride + at) 0) (get_or worker.grown (rule.to * stride + at) 0) (atom % 64)).0
          (part (atom % 64) (omega arith) set) in
          elim (subst Bit place either) [
            | inl x ↦ inl record { row_there = omega arith; atom_there = omega arith; bit = x }
            | inr y ↦ inr record { row_there = omega arith; atom_there = omega arith; bit = y }
          ]
    ]

pub part_of_gift :
    (c : Constraints) (base : List ℕ) (worker : Worker) (rule : Rule) (stride at mask : ℕ) → stride ≡ stride_of c
    → ((bit : ℕ) → bit < 64 → (bit_at mask bit ≡ 1) ↔ GivesAtom (In c base) rule.give (64 * at + bit))
    → Within (GivesTo c base rule) (Seen c worker)
    → (bit : ℕ) → bit < 64 → bit_at mask bit ≡ 1
    → bit_at (bit_or (get_or worker.loaded (rule.to * stride + at) 0) (get_or worker.grown (rule.to * stride + at) 0)) bit ≡ 1
part_of_gift c base worker rule stride at mask same exact seen bit below set =
    let low : (64 * at + bit) % 64 ≡ bit = omega arith in
    let high : (64 * at + bit) / 64 ≡ at = omega arith in
    let place : rule.to * stride_of c + (64 * at + bit) / 64 ≡ rule.to * stride + at =
    ap (λ n. rule.to * stride_of c + n) high ∙ ap (λ s. rule.to * s + at) (sym same) in
    let Loaded : ℕ → ℕ → Type 0 = λ n b. bit_at (get_or worker.loaded n 0) b ≡ 1 in
    let Grown : ℕ → ℕ → Type 0 = λ n b. bit_at (get_or worker.grown n 0) b ≡ 1 in
    (bit_of_or (get_or worker.loaded (rule.to * stride + at) 0) (get_or worker.grown (rule.to * stride + at) 0) bit).1
    (elim (seen rule.to (64 * at + bit) record { to = refl; given = (exact bit below).0 set }) [
      | inl x ↦
          let In_place : ℕ → Type 0 = λ n. Loaded n ((64 * at + bit) % 64) in
          let In_bit : ℕ → Type 0 = λ b. Loaded (rule.to * stride + at) b in
          inl (subst In_bit low (subst In_place place x.bit))
      | inr y ↦
          let In_place : ℕ → Type 0 = λ n. Grown n ((64 * at + bit) % 64) in
          let In_bit : ℕ → Type 0 = λ b. Grown (rule.to * stride + at) b in
          inr (subst In_bit low (subst In_place place y.bit))
    ])

-- ---- what the rules of a block give
pub block_all :
    (c : Constraints) (base : List ℕ) (T : Pairs) (block end : ℕ)
    → (length c.rules ≤ end) ⊎ (block * 1024 + 1024 ≤ end)
    → ((index : ℕ) (rule : Rule) → block * 1024 ≤ index → index < end → slice_get c.rules index ≡ Some rule
    → Within (Gives (In c base) rule) T)
    → Within (GivenByBlock c.rules block (In c base)) T
block_all c base T block end all h row atom given =
    let index : ℕ = given.given.index in
    let there : given.given.index < length c.rules = listed_below c.rules given.given.index given.given.rule given.given.listed in
    let in_block : given.given.index / 1024 ≡ block = given.in_block in
    h given.given.index given.given.rule (omega arith)
    (elim all [ inl x ↦ omega arith | inr y ↦ omega arith ])
    given.given.listed row atom given.given.gives

pub rule_of_block :
    (c : Constraints) (base : List ℕ) (T : Pairs) (block index : ℕ) (rule : Rule)
    → block * 1024 ≤ index → index < block * 1024 + 1024 → slice_get c.rules index ≡ Some rule
    → Within (GivenByBlock c.rules block (In c base)) T → Within (Gives (In c base) rule) T
rule_of_block c base T block index rule from to listed h row atom gives =
    h row atom
    record {
      given = record { index = index; rule = rule; listed = listed; gives = gives };
      in_block = omega arith;
    }
