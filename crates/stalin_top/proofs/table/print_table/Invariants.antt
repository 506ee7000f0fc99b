-- The lines of the rows before this one are printed.
use Rattle.std.proofs.Common.{true}
use Rattle.flow_form.specs.Shape.{stride_of}
use Rattle.stalin_outside.specs.Sending.{Prints}
use Rattle.stalin_top.specs.TableText.{lines_text}
use Rattle.stalin_top.proofs.TableTexts.{has_in}
use Rattle.stalin_top.proofs.table.print_table.Given as goal

abbrev pub invariant-loop-row : goal.invariant-loop-row
invariant-loop-row g l =
    Prints (lines_text (has_in l.c l.rows.words) l.c.atoms l.row) true (g.C.Console.told l.initial.console)
    (g.C.Console.told l.console)
