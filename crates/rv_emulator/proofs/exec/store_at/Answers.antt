use Rattle.std.proofs.Common.{◌≡◌, sym, ap, ◌∙◌, false, rules}
use Rattle.rv_form.specs.Numbers.{add, word}
use Rattle.rv_emulator.specs.Memory.{all_flagged, cells}
use Rattle.rv_words.specs.Widths.{bytes_of}
use Rattle.rv_words.specs.Packed.{number_of}
use Rattle.rv_emulator.specs.States.{reads, with_stored}
use Rattle.rv_emulator.proofs.exec.store_at.Goals as goal

pub returns-else-store-clause-stored : goal.returns-else-store-clause-stored
returns-else-store-clause-stored c =
    let refused : all_flagged c.args.memory.now.regions 2 (bytes_of c.args.width) (add (reads c.args.x.now (number_of c.args.rs1)) (word c.args.imm)) ≡ false =
    search (rules, c.store.ensures.answer, c.if-store.false, c.address.ensures)
    in
    c.store.ensures.refused c.if-store.false
    ∙ ap
    (λ usable.
    with_stored usable (bytes_of c.args.width) (add (reads c.args.x.now (number_of c.args.rs1)) (word c.args.imm)) (reads c.args.x.now (number_of c.args.rs2))
    (cells c.args.memory.now))
    (sym refused)
