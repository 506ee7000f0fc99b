use Rattle.std.proofs.Common.{◌≡◌, [], ◌++◌, arith}
use Rattle.std.proofs.lemmas.Grind.{common_steps}
use Rattle.datum_form.specs.Print.{text_of}
use Rattle.datum_form.proofs.PrintedByParts.{first_pending, one_printed, all_left}
use Rattle.datum_form.proofs.text.write_datum.Goals as goal

pub loop-turn-init : goal.loop-turn-init
loop-turn-init c = λ d h.
    first_pending c.args.nodes.now c.new-parts.result.items c.push.new.self.items c.args.top d c.args.text.now.items
    c.new-parts.ensures.items c.in_ok-push.ensures.items h

pub loop-turn-preserved : goal.loop-turn-preserved
loop-turn-preserved c = λ d h.
    one_printed c.args.nodes.now c.pop.new.self.items c.loop-turn.parts.items c.write_part.new.parts.items c.in-Some.part
    c.loop-turn.text.items c.write_part.new.text.items (c.args.text.now.items ++ text_of d) (c.loop-turn.invariant d h)
    c.in-Some.ensures.items c.in_ok-write_part.ensures

pub returns-in_default : goal.returns-in_default
returns-in_default c = λ d h.
    let none : c.loop-turn.parts.items ≡ [] = grind (arith, common_steps, c.in_default.ensures.cases) in
    all_left c.args.nodes.now c.loop-turn.parts.items c.loop-turn.text.items (c.args.text.now.items ++ text_of d)
    (c.loop-turn.invariant d h) none
