use Rattle.std.proofs.Common.{◌≡◌, ℕ, ◌≤◌, List, ◌++◌, length, append-nil, sym, ap, ◌∙◌}
use Rattle.named_form.specs.declared.program.Block.{Block, out-Block}
use Rattle.named_form.specs.declared.program.Step.{Step}
use Rattle.named_form.specs.Code.{option_list}
use Rattle.named_form.specs.Needs.{needs_in, listed}
use Rattle.named_form.specs.Written.{code}
use Rattle.named_form.proofs.Folds.{left, none_left, all_left}
use Rattle.named_form.proofs.free.+want.Goals as goal

-- all steps are gone over, and the block's value is left
at_end : (b : Block) (steps : List Step) (k : ℕ) (lists : List (List ℕ)) (now old : List ℕ) → length steps ≤ k
    → steps ≡ (out-Block b).steps
    → now ++ needs_in (listed lists) (left b steps k) ≡ old ++ needs_in (listed lists) (left b steps 0)
    → now ++ option_list (out-Block b).value ≡ old ++ needs_in (listed lists) (code b)
at_end b steps k lists now old h e same =
    ap (λ c. now ++ needs_in (listed lists) c) (sym (none_left b steps k h))
    ∙ (same ∙ ap (λ c. old ++ needs_in (listed lists) c) (all_left b steps e))

pub want_block-returns-in_ok-push : goal.want_block-returns-in_ok-push
want_block-returns-in_ok-push t c =
    let end = at_end c.args.block.now c.as_slice-step-items.result.now c.loop-step.step-index c.args.free.now
    c.loop-step.wanted.items c.args.wanted.now.items c.loop-step-test.false c.as_slice-step-items.ensures c.loop-step.invariant in
    let pushed = c.in_ok-push.ensures.items in
    let value = ap (λ o. c.loop-step.wanted.items ++ option_list o) (sym c.in-Some.is) in
    pushed ∙ (value ∙ end)

pub want_block-returns-in_default : goal.want_block-returns-in_default
want_block-returns-in_default t c =
    let end = at_end c.args.block.now c.as_slice-step-items.result.now c.loop-step.step-index c.args.free.now
    c.loop-step.wanted.items c.args.wanted.now.items c.loop-step-test.false c.as_slice-step-items.ensures c.loop-step.invariant in
    let value = ap (λ o. c.loop-step.wanted.items ++ option_list o) (sym c.in_default.is) in
    sym (append-nil c.loop-step.wanted.items) ∙ (value ∙ end)
