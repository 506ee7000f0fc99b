use Rattle.std.proofs.Common.{◌≡◌, ◌+◌, ◌*◌, ◌%◌, ◌^◌, ◌↔◌, sym, subst}
use Rattle.std.specs.Int.{bit_at}
use Rattle.flow_form.specs.declared.rule.Give.{Give}
use Rattle.flow_form.specs.Least.{GivesAtom}
use Rattle.flow_form.specs.Shape.{In}
use Rattle.flow_plain.proofs.Rules.{mask_of_atom}
use Rattle.flow_plain.proofs.rule.given_word.Goals as goal

pub returns-in-Atom : goal.returns-in-Atom
returns-in-Atom c = λ bit below.
    let Gives : Give → Type 0 =
    λ give. (bit_at (1 * 2 ^ (c.in-Atom.atom % 64) % 2 ^ 64) bit ≡ 1)
    ↔ GivesAtom (In c.args.c.now c.args.words.now) give (64 * c.args.at + bit) in
    subst Gives (sym c.in-Atom.is) (mask_of_atom c.in-Atom.atom c.args.at bit c.if-atom-at.true below)
