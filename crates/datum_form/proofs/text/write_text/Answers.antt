use Rattle.std.proofs.Common.{List as Seq, ℕ, subst}
use Rattle.datum_form.specs.Stands.{StandAll}
use Rattle.datum_form.proofs.PrintedByParts.{line_printed, lines_printed}
use Rattle.datum_form.proofs.text.write_text.Goals as goal

pub loop-first-preserved : goal.loop-first-preserved
loop-first-preserved c = λ is h.
    let i = c.loop-first.invariant is h in
    let P : Seq ℕ → Type 0 = λ ids. StandAll c.args.datums.now.nodes ids i.0 in
    line_printed c.args.datums.now.nodes c.in-Some.first.now c.in-Some.others.now i.0 c.loop-first.text.items
    c.write_datum.new.text.items c.push.new.self.items _ (subst P c.in-Some.ensures.cases.0 i.1)
    c.in_ok-write_datum.ensures c.in_ok-push.ensures.items i.2

pub returns : goal.returns
returns c = λ is h.
    let i = c.loop-first.invariant is h in
    lines_printed c.args.datums.now.nodes c.loop-first.rest.now i.0 c.loop-first.text.items _ c.in_default.ensures.cases i.1 i.2
