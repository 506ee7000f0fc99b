use Rattle.std.proofs.Common.{◌≡◌, true, length, map, sym, subst, ap, ◌∙◌}
use Rattle.std.proofs.lemmas.List.{length-map}
use Rattle.least_set.specs.Least.{IsLeast, has}
use Rattle.named_form.specs.PlainPlan.{var_count}
use Rattle.named_form.specs.ValidPlan.{is_set}
use Rattle.named_form.specs.Written.{form, procedure}
use Rattle.plan_facts.specs.Capturing.{HasJoined}
use Rattle.plan_facts.proofs.Gathered.{facts_same}
use Rattle.callcc_conv.specs.Recording.{marked, recorded}
use Rattle.callcc_conv.proofs.Gathering.{recording_is, steps_stand}
use Rattle.callcc_conv.proofs.Rising.{recording_set}
use Rattle.callcc_conv.proofs.capturing.captures.Goals as goal

pub capturing-requires : goal.capturing-requires
capturing-requires c =
    steps_stand c.args.named.now c.as_slice-procs.result.now c.as_slice-steps.result.now c.as_slice-procs.ensures
    (c.as_slice-steps.ensures ∙ c.in_ok-listed.ensures.steps)

pub returns-clause-exact : goal.returns-clause-exact
returns-clause-exact c =
    subst (λ k. IsLeast (HasJoined k) (has c.in_ok-set.set))
    (facts_same c.args.named.now c.args.rows.now c.as_slice-procs.result.now c.in_ok-flow.flow c.as_slice-steps.result.now c.as_slice-procs.ensures
    c.in_ok-flow.ensures (c.as_slice-steps.ensures ∙ c.in_ok-listed.ensures.steps))
    c.in_ok-set.ensures.least

pub returns-clause-recording : goal.returns-clause-recording
returns-clause-recording c =
    let procs = c.as_slice-procs.result.now in
    let flow = c.in_ok-flow.flow in
    let steps = c.as_slice-steps.result.now in
    let set = c.in_ok-set.set in
    let marks = c.as_slice-2.ensures.value ∙ (c.in_ok-marks.ensures ∙ ap (marked (length procs)) c.as_slice.ensures) in
    recording_is c.args.named.now c.args.rows.now procs flow steps (length procs) set c.in_ok-recording.recording c.as_slice-procs.ensures
    c.in_ok-flow.ensures (c.as_slice-steps.ensures ∙ c.in_ok-listed.ensures.steps) c.in_ok-set.ensures.fits
    (c.in_ok-recording.ensures ∙ ap (λ ms. recorded (map procedure procs) flow c.args.rows.now ms steps) marks)

pub returns-clause-fits : goal.returns-clause-fits
returns-clause-fits c =
    let many = length-map c.args.named.now.procs procedure ∙ ap (λ ps. length ps) (sym c.as_slice-procs.ensures) in
    subst (λ n. is_set n c.in_ok-set.set ≡ true) (sym many) c.in_ok-set.ensures.fits

pub returns-clause-recording_fits : goal.returns-clause-recording_fits
returns-clause-recording_fits c well =
    subst (λ xs. is_set (var_count (form c.args.named.now).procs) xs ≡ true) (sym (returns-clause-recording c))
    (recording_set (form c.args.named.now) c.args.rows.now c.in_ok-set.set well)
