use Rattle.std.proofs.Common.{List, length}
use Rattle.scheme_expand.specs.Forms.{Word}
use Rattle.scheme_expand.specs.Viewed.{IsView}
use Rattle.scheme_expand.specs.Views.{Context, View}
use Rattle.scheme_expand.specs.Waiting.{ReadAll, named_data}
use Rattle.scheme_expand.proofs.Entering.{Entered}
use Rattle.scheme_expand.proofs.Expanding.{NamesBound}
use Rattle.scheme_expand.proofs.expander.Expander.enter.Given as goal

-- the names before those that are left are entered
abbrev pub invariant-loop-first : goal.invariant-loop-first
invariant-loop-first l = record {
  fault : (ws : List Word) → ReadAll l.initial.self.source l.fn.names (named_data ws) → Entered l.initial.self l.self l.rest ws;
  core :
      (c : Context) (v : View) (ws : List Word) → IsView c l.initial.self v → ReadAll c.source l.fn.names (named_data ws)
      → NamesBound c l.initial.self l.self l.rest ws v;
}

abbrev pub decreases-loop-first : goal.decreases-loop-first
decreases-loop-first l = length l.rest
