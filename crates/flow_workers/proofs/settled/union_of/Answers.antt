use Rattle.std.proofs.Common.{ℕ, List, length, ◌≡◌, ◌⊎◌, ◌↔◌, rules, subst, sym}
use Rattle.bit_rows.specs.Members.{IsMember}
use Rattle.type_table.proofs.Passes.{written_back}
use Rattle.flow_workers.proofs.settled.union_of.Goals as goal

pub returns-clause-members : goal.returns-clause-members
returns-clause-members c =
    let both : List ℕ = c.union_into.new.to in
    let items : List ℕ = c.args.one.items in
    let size : length both ≡ length items = search rules in
    let whole : c.args.one.len ≡ length items = search rules in
    let Old : List ℕ → Type 0 = λ xs. (k : ℕ) → IsMember both k ↔ (IsMember xs k ⊎ IsMember c.args.two.now k) in
    let Row : List ℕ → Type 0 = λ row. (k : ℕ) → IsMember row k ↔ (IsMember items k ⊎ IsMember c.args.two.now k) in
    subst Row (sym (written_back both items c.args.one.len whole size))
    (subst Old c.as_mut_slice.ensures.value c.union_into.ensures)
