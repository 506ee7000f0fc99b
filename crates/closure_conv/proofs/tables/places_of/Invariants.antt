use Rattle.std.proofs.Common.{◌≡◌, take}
use Rattle.closure_conv.specs.FlatOf.{homes}
use Rattle.closure_conv.specs.Tables.{scene}
use Rattle.closure_conv.proofs.tables.places_of.Given as goal

abbrev pub invariant-loop-var : goal.invariant-loop-var
invariant-loop-var l = l.places ≡ homes (scene l.plan l.tables) (take l.var-index l.vars)
