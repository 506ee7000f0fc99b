use Rattle.std.proofs.Common.{ℕ, List, length, ◌≡◌, ◌⊎◌, ◌↔◌, arith, rules, subst, sym}
use Rattle.bit_rows.specs.Members.{IsMember}
use Rattle.type_table.specs.Tables.{IsHeld}
use Rattle.type_table.proofs.Passes.{held_join, of_joined, written_back}
use Rattle.type_table.proofs.StepsAreMoves.{join_allowed}
use Rattle.type_table.proofs.table.TypeTable.join.Goals as goal

pub join_seat-requires : goal.join_seat-requires
join_seat-requires c = (
  search rules,
  search rules,
  c.other.invariant.no_slots,
  omega (arith, c.self.invariant.words),
  join_allowed _ _ _ _ _ _ c.pass.invariant.live c.other.invariant.live,
)

pub invariant_of-pass : goal.invariant_of-pass
invariant_of-pass c =
    let both : List ℕ = c.union_into.new.to in
    let items : List ℕ = c.pass.inside.done.items in
    let size : length both ≡ length items = search rules in
    let whole : c.pass.inside.done.len ≡ length items = search rules in
    let one : c.as_mut_slice.result.now ≡ items = search rules in
    let other : c.as_slice.result.now ≡ c.other.inside.done.items = search rules in
    let Members : List ℕ → List ℕ → Type 0 =
    λ xs ys. (k : ℕ) → IsMember both k ↔ (IsMember xs k ⊎ IsMember ys k) in
    let First : List ℕ → Type 0 = λ xs. Members xs c.as_slice.result.now in
    let members = subst (Members items) other (subst First one c.union_into.ensures) in
    let Row : List ℕ → Type 0 = λ row. IsHeld c.join_seat.new.seat.me row in
    subst Row (sym (written_back both items c.pass.inside.done.len whole size))
    (held_join c.pass.inside.seat.me c.other.inside.seat.me _ items c.other.inside.done.items both
    c.pass.invariant c.other.invariant c.join_seat.ensures.2 size members)

pub returns-clause-of : goal.returns-clause-of
returns-clause-of c =
    of_joined c.args.self.now c.args.pass.now c.args.other _ c.requires.of c.requires.other_of (search rules)
