use Rattle.std.proofs.Common.{rules, nat_eq, ◌≡◌, ◌∙◌, ◌&&◌, ◌+◌, length, map, sym, ap}
use Rattle.flat_form.specs.FlatWritten.{all_onto, step}
use Rattle.flat_form.specs.FlatCode.{Then}
use Rattle.scheme_base.specs.declared.pos.Pos.{Pos}
use Rattle.named_form.specs.declared.program.Block.{out-Block}
use Rattle.named_form.specs.Code.{Ends, past, past_code, past_arms, labelled, labelled_act, single, in_tail, ends_with}
use Rattle.closure_conv.specs.FlatOf.{flat_code, flat_act, homes, known}
use Rattle.closure_conv.specs.StepTypes.{act_of, label}
use Rattle.closure_conv.specs.Tables.{counts, scene}
use Rattle.closure_conv.proofs.Linked.{left, code_is, past_one}
use Rattle.closure_conv.proofs.Flattening.{ends_is, flat_one}
use Rattle.closure_conv.proofs.block.+flatten.Goals as goal

pub block-loop-step-init : goal.block-loop-step-init
block-loop-step-init t c =
    let σ = scene c.args.plan.now c.args.tables.now in
    let at = counts c.args.at.now in
    let whole = sym (code_is c.args.from.now c.as_slice-step-items.result.now c.as_slice-step-items.ensures) in
    record {
      done =
          ap (λ ss. all_onto (map step ss) (flat_code σ (labelled at c.args.tail (left c.as_slice-step-items.result.now 0 c.args.from.now)))) c.new-steps.ensures
          ∙ ap (λ b. flat_code σ (labelled at c.args.tail b)) whole;
      moved = ap (past_code at) whole;
      count = search rules;
    }

pub block-loop-step-preserved : goal.block-loop-step-preserved
block-loop-step-preserved t c =
    let σ = scene c.args.plan.now c.args.tables.now in
    let steps = c.as_slice-step-items.result.now in
    let i = c.loop-step.step-index in
    let s = c.step-item.result in
    let at = counts c.loop-step.at in
    let next = counts c.flat_step.new.at in
    let from = c.args.from.now in
    let count : c.saturating_sub-left.result + (i + 1) ≡ length steps = search rules in
    let moves : next ≡ past_arms (past at (act_of s.act)) (act_of s.act) = search rules in
    let made = c.in_ok-flat_step.field-0 in
    let last : c.is_last-ends.result ≡ in_tail c.args.tail (left steps (i + 1) from) s.vars =
    c.is_last-ends.ensures
    ∙ ap (λ xs. c.args.tail && (nat_eq c.saturating_sub-left.result 0 && ends_with {L = Pos} (Ends (out-Block from).value) xs))
    c.as_slice-vars.ensures
    ∙ ap (λ b. c.args.tail && b) (ends_is steps i c.saturating_sub-left.result from s.vars count) in
    record {
      done =
          ap (λ ss. all_onto (map step ss) (flat_code σ (labelled next c.args.tail (left steps (i + 1) from)))) c.in_ok-push.ensures.ok
          ∙ flat_one σ steps i s from at next c.args.tail c.is_last-ends.result c.loop-step.steps made _ c.loop-step-test.true
          c.step-item.is moves last
          (λ rest. c.in_ok-flat_step.ensures.step rest ∙ ap (λ xs. Then (known σ.plan (label at s.pos c.is_last-ends.result)) (homes σ xs) (flat_act σ (label at s.pos c.is_last-ends.result) (single xs) (labelled_act (past at (act_of s.act)) c.is_last-ends.result (act_of s.act))) rest) c.as_slice-vars.ensures)
          c.loop-step.invariant.done;
      moved = past_one steps i s from at next _ c.loop-step-test.true c.step-item.is moves c.loop-step.invariant.moved;
      count = count;
    }
