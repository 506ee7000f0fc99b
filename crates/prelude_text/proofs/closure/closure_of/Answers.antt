use Rattle.std.proofs.Common.{arith, ◌≡◌, ◌∙◌, ◌-◌, replicate, false, [], refl, sym, subst, ap, IfOk, Some, List, ℕ, length}
use Rattle.prelude_text.specs.Closure.{AreNumbers, IsClosure}
use Rattle.prelude_text.specs.Marking.{Marks}
use Rattle.prelude_text.proofs.Marked.{Works, uses_at, works_first, some_last, no_loss, looked_at, nothing_waits, all_closed}
use Rattle.prelude_text.proofs.closure.closure_of.Goals as goal

pub loop-id-init : goal.loop-id-init
loop-id-init c =
    works_first c.args.uses.now c.args.from.now c.as_mut_slice-marked.result.now c.mark_each.new.marked c.mark_each.new.waiting.items
    (c.as_mut_slice-marked.ensures.value
    ∙ (c.in_ok-marks.ensures.items_if_clones_equal (λ y e. e) ∙ ap (λ n. replicate n false) c.len.ensures))
    (subst (λ from. Marks from c.as_mut_slice-marked.result.now c.mark_each.new.marked [] c.mark_each.new.waiting.items) c.as_slice.ensures
    (subst (λ w. Marks c.as_slice.result.now c.as_mut_slice-marked.result.now c.mark_each.new.marked w c.mark_each.new.waiting.items)
    c.new-waiting.ensures.items c.in_ok-mark_each.ensures))

pub overflow_sub-id : goal.overflow_sub-id
overflow_sub-id c =
    some_last c.args.uses.now c.args.from.now c.loop-id.marked c.loop-id.waiting.items c.pop.new.self.items c.in-Some.id
    c.loop-id.invariant c.in-Some.ensures.items

pub mark_each-requires-in-Some-get : goal.mark_each-requires-in-Some-get
mark_each-requires-in-Some-get c =
    subst (λ n. AreNumbers n c.as_slice-in-Some-get.result.now) (sym c.loop-id.invariant.size)
    (uses_at (length c.args.uses.now) c.args.uses.now (c.in-Some.id - 1) c.as_slice-in-Some-get.result.now c.requires.uses
    (sym c.in-Some-get.ensures.value ∙ ap Some (sym c.as_slice-in-Some-get.ensures)))

pub loop-id-preserved-in-Continue-branch-3 : goal.loop-id-preserved-in-Continue-branch-3
loop-id-preserved-in-Continue-branch-3 c =
    looked_at c.args.uses.now c.args.from.now c.loop-id.marked c.mark_each-in-Some-get.new.marked c.loop-id.waiting.items
    c.pop.new.self.items c.mark_each-in-Some-get.new.waiting.items c.in-Some.id c.as_slice-in-Some-get.result.now
    c.loop-id.invariant c.in-Some.ensures.items
    (sym c.in-Some-get.ensures.value ∙ ap Some (sym c.as_slice-in-Some-get.ensures)) c.in_ok-mark_each-2.ensures

pub loop-id-preserved : goal.loop-id-preserved
loop-id-preserved c =
    absurd
    (no_loss c.args.uses.now c.args.from.now c.loop-id.marked c.loop-id.waiting.items c.pop.new.self.items c.in-Some.id
    c.loop-id.invariant c.in-Some.ensures.items (sym c.in_default-get.ensures.value))

pub returns : goal.returns
returns c =
    all_closed c.args.uses.now c.args.from.now c.loop-id.marked c.loop-id.waiting.items c.numbers_of.result c.loop-id.invariant
    (nothing_waits c.loop-id.waiting.items
    (λ lt. c.in_default.ensures.variant.1 (let o = c.loop-id.waiting.ok in omega (arith, o, lt)))) c.numbers_of.ensures
