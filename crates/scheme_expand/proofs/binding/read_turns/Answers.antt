use Rattle.std.proofs.Common.{refl}
use Rattle.scheme_expand.proofs.DoParts.{no_turns_read, one_turn_read, all_turns_read}
use Rattle.scheme_expand.proofs.Due.{none_left}
use Rattle.scheme_expand.proofs.binding.read_turns.Goals as goal

pub loop-first-init : goal.loop-first-init
loop-first-init c = λ ds h.
    no_turns_read c.args.source c.args.bindings.now _ _ _ ds h c.new-names.ensures.items c.new-inits.ensures.items c.new-steps.ensures.items

pub loop-first-preserved : goal.loop-first-preserved
loop-first-preserved c = λ ds h.
    one_turn_read c.args.source ds _ _ _ _ c.loop-first.rest.now c.in-Some.others.now _ _ c.in-Some.first.now c.in-Some-do_binding.binding
    (c.loop-first.invariant ds h) c.in-Some.ensures.cases.0 c.in_ok-push.ensures.items c.in_ok-push-2.ensures.items
    c.in_ok-push-3.ensures.items (λ d k. c.in-Some-do_binding.ensures d k.stands)

pub returns : goal.returns
returns c = λ ds h t.
    all_turns_read c.args.source ds _ _ _ _ _ (c.loop-first.invariant ds h) (none_left _ c.in_default.ensures.cases) refl refl refl
