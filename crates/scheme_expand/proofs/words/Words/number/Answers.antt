use Rattle.std.proofs.Common.{◌≡◌, length, refl, sym, arith, rules}
use Rattle.std.proofs.lemmas.Grind.{common_steps}
use Rattle.scheme_expand.specs.Naming.{name_list}
use Rattle.scheme_expand.proofs.NumberedNames.{numbered, number_as}
use Rattle.scheme_expand.proofs.words.Words.number.Goals as goal

pub returns-clause-number : goal.returns-clause-number
returns-clause-number c =
    let inserted = c.in_ok-index.ensures in
    let stored = inserted.stored in
    let some : length c.args.name.now ≡ 0 → ⊥ = λ e. first_of (search rules, omega arith, grind (arith, common_steps)) in
    number_as (name_list c.args.self.now) _ c.args.name.now c.args.name.now c.in_ok-index.index c.in-Ok.word (sym c.in-Ok.ensures.1) refl
    (numbered c.args.self.now.names.keys c.insert_full.new.self.keys c.args.name stored.0 c.in_ok-index.index inserted.unique
    some inserted.keys stored.1 stored.2)
