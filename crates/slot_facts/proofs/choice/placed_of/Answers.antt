use Rattle.std.proofs.Common.{◌+◌, [], ◌∷◌, ◌++◌, ap, ◌∙◌}
use Rattle.plan_facts.proofs.OneByOne.{one_more}
use Rattle.slot_facts.specs.Marks.{is_marked}
use Rattle.slot_facts.proofs.choice.placed_of.Goals as goal

pub loop-var-preserved : goal.loop-var-preserved
loop-var-preserved c =
    let marked = is_marked c.args.marks.now in
    one_more (λ x. marked (c.args.procs + x)) c.loop-var.var c.args.vars c.loop-var.placed.items c.push.new.self.items _ c.loop-var-test.true
    (c.in_ok-push.ensures.items ∙ ap (λ b. c.loop-var.placed.items ++ b ∷ []) (c.is_marked.ensures ∙ ap marked c.in_ok-behind.ensures))
    c.loop-var.invariant
