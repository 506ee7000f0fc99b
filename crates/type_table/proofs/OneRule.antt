-- The system that the test runs: two rows of 70 atoms, of which the one rule gives the second the atom 69.
use Rattle.std.proofs.Common.{ℕ, zero, suc, List, [], ◌∷◌, Some, None, length, slice_get, ◌≡◌, ◌+◌, ◌*◌, ◌/◌, ◌%◌, ◌<◌, inl, inr, refl, sym, ap, ◌∙◌, arith, subst, bit_or}
use Rattle.std.specs.Int.{bit_at}
use Rattle.std.proofs.lemmas.Bool.{cases_eq}
use Rattle.std.proofs.lemmas.Nat.Bits.{bit_at-pow_other, bit_at-pow_same}
use Rattle.std.proofs.lemmas.Option.{none-some}
use Rattle.bit_rows.proofs.Words.{bit_of_or}
use Rattle.flow_form.specs.declared.constraints.Constraints.{Constraints}
use Rattle.flow_form.specs.declared.event.Worker.{Worker}
use Rattle.flow_form.specs.declared.rule.Give.TheVariants.{Atom}
use Rattle.flow_form.specs.declared.rule.Rule.{Rule}
use Rattle.flow_form.specs.Least.{Given, GivenByBlock, Gives, Pairs, Within}
use Rattle.flow_form.specs.Race.{MaskWithin, Seen, growing}
use Rattle.flow_form.specs.Shape.{IsMadeOf, size_of, stride_of}
use Rattle.flow_form.proofs.Words.{in_new}

abbrev pub the_rule : Rule
the_rule = record { first = None; second = None; give = Atom 69; to = 1 }

-- bit 5 alone is set in 32
bit_5 : (bit : ℕ) → bit_at 32 bit ≡ 1 → bit ≡ 5
bit_5 bit set =
    elim (cases_eq bit 5) [
      | inl same ↦ same
      | inr apart ↦ let clear : bit_at 32 bit ≡ 0 = bit_at-pow_other 5 bit apart in absurd (omega arith)
    ]

pub grows_69 :
    (c : Constraints) (S : Pairs) → IsMadeOf c 2 70 (the_rule ∷ []) → MaskWithin c 3 32 (Given c.rules S)
grows_69 c S made row atom row_there atom_there place set =
    let bit : atom % 64 ≡ 5 = bit_5 (atom % 64) set in
    let stride : stride_of c ≡ 2 = ap (λ (n : ℕ). (n + 63) / 64) made.same_atoms in
    let at : row * 2 + atom / 64 ≡ 3 = ap (λ (n : ℕ). row * n + atom / 64) (sym stride) ∙ place in
    let few : atom < 128 = omega (arith, stride) in
    let rows : row < 2 = omega (arith, made.same_rows) in
    let Of : List Rule → Type 0 = λ rules. Given rules S row atom in
    subst Of (sym made.same_rules)
    record {
      index = 0;
      rule = the_rule;
      listed = refl;
      gives = record { first = tt; second = tt; to = omega arith; gives = omega arith };
    }

the_one : (index : ℕ) (rule : Rule) → slice_get (the_rule ∷ []) index ≡ Some rule → rule ≡ the_rule
the_one zero rule h = cc
the_one (suc index) rule h = absurd (none-some rule h)

-- what the rule gives has been seen by a worker that has grown bit 5 of word 3
pub seen_69 :
    (c : Constraints) (S : Pairs) (worker : Worker) (word : ℕ) → IsMadeOf c 2 70 (the_rule ∷ [])
    → length worker.grown ≡ size_of c → bit_at word 5 ≡ 1
    → Within (GivenByBlock c.rules 0 S) (Seen c (growing 3 word worker))
seen_69 c S worker word made grown set row atom h =
    let At : List Rule → Type 0 = λ rules. slice_get rules h.given.index ≡ Some h.given.rule in
    let only : h.given.rule ≡ the_rule = the_one h.given.index h.given.rule (subst At made.same_rules h.given.listed) in
    let By : Rule → Type 0 = λ rule. Gives S rule row atom in
    let gives : Gives S the_rule row atom = subst By only h.given.gives in
    let to : row ≡ 1 = gives.to in
    let is : atom ≡ 69 = gives.gives in
    let stride : stride_of c ≡ 2 = ap (λ (n : ℕ). (n + 63) / 64) made.same_atoms in
    let size : size_of c ≡ 4 = ap (λ (n : ℕ). n * stride_of c) made.same_rows ∙ ap (λ (n : ℕ). 2 * n) stride in
    let place : row * stride_of c + atom / 64 ≡ 3 =
    ap (λ (r : ℕ). r * stride_of c + atom / 64) to ∙ ap (λ (a : ℕ). 1 * stride_of c + a / 64) is
    ∙ ap (λ (s : ℕ). 1 * s + 1) stride in
    let Bit : ℕ → Type 0 = λ a. bit_at word (a % 64) ≡ 1 in
    let there : 3 < length worker.grown = omega (arith, grown, size) in
    let row_there : row < c.rows = omega (arith, to, made.same_rows) in
    let atom_there : atom < 64 * stride_of c = omega (arith, is, stride) in
    inr (in_new c worker.grown 3 word row atom there row_there atom_there place (subst Bit (sym is) set))

pub bit_5_grown : (found : ℕ) → bit_at (bit_or 32 found) 5 ≡ 1
bit_5_grown found = (bit_of_or 32 found 5).1 (inl (bit_at-pow_same 5))
