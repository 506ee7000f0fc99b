use Rattle.std.proofs.Common.{◌++◌, length, ap, ◌∙◌}
use Rattle.plan_facts.proofs.OneByOne.{one_listed}
use Rattle.slot_facts.specs.Choice.{fictions_at, fictions_by}
use Rattle.slot_facts.specs.Marks.{is_marked}
use Rattle.slot_facts.proofs.choice.fictions_of.Goals as goal

pub loop-at-preserved : goal.loop-at-preserved
loop-at-preserved c =
    let values = c.args.values.now in
    let at = c.loop-at.at in
    let old = c.loop-at.fictions in
    let placed = is_marked c.args.placed.now at in
    one_listed (fictions_at values c.args.placed.now) at (length values) old c.put_fiction.new.fictions _ c.loop-at-test.true
    (c.in_ok-put_fiction.ensures
    ∙ (ap (λ n. old ++ fictions_by c.is_marked.result n c.known.result) c.in_ok-number_of.ensures
    ∙ (ap (λ b. old ++ fictions_by b at c.known.result) c.is_marked.ensures
    ∙ ap (λ o. old ++ fictions_by placed at o) c.known.ensures)))
    c.loop-at.invariant
