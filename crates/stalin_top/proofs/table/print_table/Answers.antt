use Rattle.std.proofs.Common.{arith}
use Rattle.stalin_top.specs.TableText.{lines_text}
use Rattle.stalin_top.proofs.TableTexts.{all_printed, has_in, is_table, row_cut, row_printed}
use Rattle.stalin_top.proofs.table.print_table.Goals as goal

pub returns-then-not-print_line : goal.returns-then-not-print_line
returns-then-not-print_line g c =
    let members = rw c.as_slice-words.ensures at c.row_of.ensures.members in
    let cut = rw c.if-not-print_line.true at c.print_line.ensures in
    let has = has_in c.args.c.now c.args.rows.now.words in (
      lines_text has c.args.c.now.atoms c.args.c.now.rows,
      is_table c.args.c.now c.args.rows.now c.requires,
      row_cut c.args.c.now c.args.rows.now c.row_of.result.now c.loop-row.row _ _ _ c.requires.shape c.loop-row-test.true
          c.row_of.ensures.size members c.loop-row.invariant cut,
    )

pub loop-row-preserved : goal.loop-row-preserved
loop-row-preserved g c =
    let members = rw c.as_slice-words.ensures at c.row_of.ensures.members in
    let whole = rw c.if-not-print_line.false at c.print_line.ensures in
    row_printed c.args.c.now c.args.rows.now c.row_of.result.now c.loop-row.row _ _ _ c.requires.shape c.loop-row-test.true
    c.row_of.ensures.size members c.loop-row.invariant whole

pub returns : goal.returns
returns g c = (
  lines_text (has_in c.args.c.now c.args.rows.now.words) c.args.c.now.atoms c.args.c.now.rows,
  is_table c.args.c.now c.args.rows.now c.requires,
  all_printed c.args.c.now (has_in c.args.c.now c.args.rows.now.words) c.loop-row.row _ _
      (omega (arith, c.loop-row-test.false, c.loop-row.auto.row-end)) c.loop-row.invariant,
)
