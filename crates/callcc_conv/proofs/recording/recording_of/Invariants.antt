use Rattle.std.proofs.Common.{◌≡◌, ◌++◌, drop, map}
use Rattle.named_form.specs.Written.{procedure}
use Rattle.callcc_conv.specs.Recording.{recorded}
use Rattle.callcc_conv.proofs.recording.recording_of.Given as goal

abbrev pub invariant-loop-at : goal.invariant-loop-at
invariant-loop-at l =
    l.vars ++ recorded (map procedure l.procs) l.flow l.rows l.marks (drop l.at l.places)
    ≡ recorded (map procedure l.procs) l.flow l.rows l.marks l.places
