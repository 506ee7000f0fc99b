use Rattle.std.proofs.Common.{refl}
use Rattle.scheme_expand.proofs.Due.{none_left}
use Rattle.scheme_expand.proofs.Pairs.{no_list_bindings, no_pairs_read, one_pair_read, broken_pair, all_pairs_read}
use Rattle.scheme_expand.proofs.binding.read_bindings.Goals as goal

pub returns-in_default : goal.returns-in_default
returns-in_default c = λ d h. no_list_bindings d (c.in_default.ensures d h)

pub loop-first-init : goal.loop-first-init
loop-first-init c = λ ds h. no_pairs_read c.args.source _ _ _ ds h c.new-names.ensures.items c.new-values.ensures.items

pub loop-first-preserved : goal.loop-first-preserved
loop-first-preserved c = λ ds h.
    one_pair_read c.args.source ds _ _ _ _ c.loop-first.rest.now c.in-Some-split_first.others.now c.in-Some-split_first.first.now _ _
    (c.loop-first.invariant ds h) c.in-Some-split_first.ensures.cases.0 c.in_ok-push.ensures.items c.in_ok-push-2.ensures.items
    c.in-Some-read_binding.ensures

pub returns-in_default-read_binding : goal.returns-in_default-read_binding
returns-in_default-read_binding c = λ d h.
    let l = c.in-Some.ensures d h in
    broken_pair c.args.source d _ _ _ c.loop-first.rest.now c.in-Some-split_first.others.now c.in-Some-split_first.first.now l
    (c.loop-first.invariant l.items l.read) c.in-Some-split_first.ensures.cases.0 c.in_default-read_binding.ensures

pub returns : goal.returns
returns c = λ d h.
    let l = c.in-Some.ensures d h in
    all_pairs_read c.args.source d _ _ _ c.loop-first.rest.now _ l (c.loop-first.invariant l.items l.read)
    (none_left c.loop-first.rest.now c.in_default-split_first.ensures.cases) refl refl
