use Rattle.std.proofs.Common.{length, ◌*◌}
use Rattle.stalin_top.specs.TableText.{has_atom}
use Rattle.stalin_top.proofs.TableTexts.{atoms_cut, line_printed, number_cut}
use Rattle.stalin_top.proofs.table.print_line.Goals as goal

pub returns-then-not-print_number : goal.returns-then-not-print_number
returns-then-not-print_number g c =
    let cut = rw c.if-not-print_number.true at c.print_number.ensures in
    number_cut c.args.number (64 * length c.args.row.now) (has_atom c.args.row.now) _ _ cut

pub returns-then-not-print_atoms : goal.returns-then-not-print_atoms
returns-then-not-print_atoms g c =
    let number = rw c.if-not-print_number.false at c.print_number.ensures in
    let cut = rw c.if-not-print_atoms.true at c.print_atoms.ensures in
    atoms_cut c.args.number (64 * length c.args.row.now) (has_atom c.args.row.now) _ _ _ number cut

pub returns : goal.returns
returns g c =
    let number = rw c.if-not-print_number.false at c.print_number.ensures in
    let all = rw c.if-not-print_atoms.false at c.print_atoms.ensures in
    line_printed c.args.number (64 * length c.args.row.now) (has_atom c.args.row.now) c.print.result _ _ _ _ number all
    c.print.ensures
