use Rattle.std.proofs.Common.{length}
use Rattle.datum_form.specs.Data.{Items}
use Rattle.scheme_expand.specs.Waiting.{ReadAll}
use Rattle.scheme_expand.proofs.Backwards.{Put}
use Rattle.scheme_expand.proofs.MadeLets.{ExprsPut}
use Rattle.scheme_expand.proofs.expander.Expander.push_exprs.Given as goal

-- the expressions after those that are left wait
abbrev pub invariant-loop-last : goal.invariant-loop-last
invariant-loop-last l = record {
  fault : (ds : Items) → ReadAll l.initial.self.source l.fn.exprs ds → Put l.initial.self l.self l.rest ds;
  core : ExprsPut l.initial.self l.self l.fn.exprs l.rest;
}

abbrev pub decreases-loop-last : goal.decreases-loop-last
decreases-loop-last l = length l.rest
