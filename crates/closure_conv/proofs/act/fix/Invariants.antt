use Rattle.std.proofs.Common.{◌≡◌, map, take}
use Rattle.closure_conv.specs.FlatOf.{made}
use Rattle.closure_conv.specs.Tables.{scene}
use Rattle.closure_conv.proofs.act.fix.Given as goal

abbrev pub invariant-loop-proc : goal.invariant-loop-proc
invariant-loop-proc l = l.mades ≡ map (made (scene l.plan l.tables)) (take l.proc-index l.procs)
