-- The atoms below the next one to look for are printed.
use Rattle.std.proofs.Common.{◌≤◌, ◌*◌, ◌-◌, length, true}
use Rattle.stalin_outside.specs.Sending.{Prints}
use Rattle.stalin_top.specs.TableText.{atoms_text, has_atom}
use Rattle.stalin_top.proofs.table.print_atoms.Given as goal

abbrev pub invariant-atoms : goal.invariant-atoms
invariant-atoms g l =
    record {
      printed : Prints (atoms_text (has_atom l.row) l.from) true (g.C.Console.told l.initial.console) (g.C.Console.told l.console);
      within : l.from ≤ 64 * length l.row;
    }

abbrev pub decreases-atoms : goal.decreases-atoms
decreases-atoms g l = 64 * length l.row - l.from
