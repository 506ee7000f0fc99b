use Rattle.stalin_top.proofs.TableTexts.{atom_cut, atom_printed, member_below, none_left}
use Rattle.stalin_top.proofs.table.print_atoms.Goals as goal

pub returns-then-not-print_atom : goal.returns-then-not-print_atom
returns-then-not-print_atom g c =
    let cut = rw c.if-not-print_atom.true at c.print_atom.ensures in
    atom_cut c.args.row.now c.atoms.from c.in-Some.atom _ _ _ c.in-Some.ensures c.atoms.invariant.printed cut

pub atoms-preserved : goal.atoms-preserved
atoms-preserved g c =
    let whole = rw c.if-not-print_atom.false at c.print_atom.ensures in
    record {
      printed = atom_printed c.args.row.now c.atoms.from c.in-Some.atom _ _ _ c.in-Some.ensures c.atoms.invariant.printed whole;
      within = member_below c.args.row.now c.in-Some.atom c.in-Some.ensures.member;
    }

pub returns : goal.returns
returns g c =
    none_left c.args.row.now c.atoms.from _ _ c.atoms.invariant.within c.requires c.in_default.ensures c.atoms.invariant.printed
