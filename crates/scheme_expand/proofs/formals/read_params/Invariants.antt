use Rattle.std.proofs.Common.{length}
use Rattle.datum_form.specs.Data.{Items}
use Rattle.scheme_expand.specs.Waiting.{ReadAll}
use Rattle.scheme_expand.proofs.Parameters.{NamesRead}
use Rattle.scheme_expand.proofs.formals.read_params.Given as goal

-- those before are names
abbrev pub invariant-loop-first : goal.invariant-loop-first
invariant-loop-first l = (ds : Items) → ReadAll l.fn.source l.fn.params ds → NamesRead l.fn.source l.left ds

abbrev pub decreases-loop-first : goal.decreases-loop-first
decreases-loop-first l = length l.left
