use Rattle.std.proofs.Common.{length}
use Rattle.flow_constraints.proofs.Parts.{one_more, none_left, most_taken, none_taken}
use Rattle.flow_constraints.proofs.literals.parts_under.Goals as goal

pub loop-taken-init : goal.loop-taken-init
loop-taken-init c =
    none_taken c.args.flow.now c.args.lits.now c.args.lit c.new-parts.result.items c.new-coming.result.items c.push_parts.new.coming.items
    c.new-parts.ensures.items c.new-coming.ensures.items c.in_ok-push_parts.ensures

pub loop-taken-preserved : goal.loop-taken-preserved
loop-taken-preserved c =
    one_more c.args.flow.now c.args.lits.now (length c.args.lits.now) c.loop-taken._taken c.loop-taken.parts.items c.push.new.self.items
    c.loop-taken.coming.items c.pop.new.self.items c.push_parts-in-loop-taken.new.coming.items _ c.in-Some.part c.loop-taken-test.true
    c.in_ok-push.ensures.items c.in-Some.ensures.items c.in_ok-push_parts-2.ensures c.loop-taken.invariant

pub returns-in_default : goal.returns-in_default
returns-in_default c =
    none_left c.args.flow.now c.args.lits.now _ _ c.loop-taken.parts.items c.loop-taken.coming.items c.pop.new.self.items _
    c.in_default.ensures.cases.0 c.in_default.ensures.rest c.in_default.ensures.items c.loop-taken.invariant

pub returns : goal.returns
returns c =
    most_taken c.args.flow.now c.args.lits.now (length c.args.lits.now) c.loop-taken._taken c.loop-taken.parts.items c.loop-taken.coming.items
    _ c.loop-taken-test.false c.loop-taken.invariant
