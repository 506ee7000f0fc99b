use Rattle.named_form.specs.declared.plan.Plan.{Plan}
use Rattle.named_form.specs.Written.{form}
use Rattle.image_build.proofs.Plans.{fits_program}
use Rattle.image_build.proofs.plan.plan_of.Goals as goal

pub returns : goal.returns
returns c =
    let plan : Plan =
    record {
      capturing = c.in_ok-capturing.capturing;
      slots = c.in_ok-slots.slots;
      marks = c.in_ok-marks.marks;
      reprs = c.in_ok-reprs.reprs;
    }
    in
    record {
      captured = c.in_ok-capturing.ensures.exact;
      recorded = c.in_ok-capturing.ensures.recording;
      escaping = c.in_ok-escaping.escaping;
      escapes = c.in_ok-escaping.ensures.exact c.requires;
      marked = c.in_ok-marks.ensures.exact;
      slotted = c.in_ok-slots.ensures.exact c.requires;
      represented = c.in_ok-reprs.ensures;
      fits =
          fits_program (form c.args.named.now) c.args.rows.now plan c.in_ok-capturing.ensures.fits
          (c.in_ok-capturing.ensures.recording_fits c.requires) c.in_ok-marks.ensures.fits (c.in_ok-slots.ensures.fits c.requires)
          c.in_ok-reprs.ensures;
    }
