use Rattle.std.proofs.Common.{◌+◌, refl, sym, ap, ◌∙◌}
use Rattle.const_data.proofs.Named.{begins, repeats}
use Rattle.const_data.proofs.names.Names.note_symbol.Goals as goal

pub returns-in-Some : goal.returns-in-Some
returns-in-Some c =
    λ first lits i is knows.
    repeats first lits i c.args.name.now c.args.name c.in-Some.field-0.now c.args.self.now refl is (sym c.in-Some.ensures.value) knows

pub returns-in_ok-insert-in-None : goal.returns-in_ok-insert-in-None
returns-in_ok-insert-in-None c =
    λ first lits i is knows.
    begins first lits i c.args.name.now c.args.name c.args.self.now
    (record { words = c.insert.new.self; next = c.in_ok-next-in-None.next }) refl is (sym c.in-None.ensures.value)
    c.in_ok-insert-in-None.ensures.updates.0
    (c.in_ok-next-in-None.ensures
    ∙ ap (λ n. n + c.in_ok-count-in-None.field-0) c.in_ok-header-in-None.ensures
    ∙ ap (λ n. c.args.self.now.next + 3 + n) c.in_ok-count-in-None.ensures)
    knows
