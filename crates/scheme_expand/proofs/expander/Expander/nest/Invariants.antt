use Rattle.std.proofs.Common.{length}
use Rattle.datum_form.specs.Data.{Items}
use Rattle.scheme_expand.specs.Waiting.{ReadAll}
use Rattle.scheme_expand.proofs.Backwards.{Put}
use Rattle.scheme_expand.proofs.MadeLets.{NestPut}
use Rattle.scheme_expand.proofs.expander.Expander.nest.Given as goal

-- the values before those that are left wait
abbrev pub invariant-loop-value : goal.invariant-loop-value
invariant-loop-value l = record {
  fault : (ds : Items) → ReadAll l.initial.self.source l.fn.values ds → Put l.initial.self l.self l.rest ds;
  core : NestPut l.initial.self l.self l.fn.pos l.fn.level l.fn.variables l.fn.values l.next l.later l.rest;
}

abbrev pub decreases-loop-value : goal.decreases-loop-value
decreases-loop-value l = length l.rest
