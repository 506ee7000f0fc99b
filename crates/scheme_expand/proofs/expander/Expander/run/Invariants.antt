use Rattle.std.proofs.Common.{Option}
use Rattle.scheme_expand.specs.Faults.{Fault}
use Rattle.scheme_expand.specs.Making.{AllCome}
use Rattle.scheme_expand.specs.Viewed.{IsView}
use Rattle.scheme_expand.specs.Views.{Context, View}
use Rattle.scheme_expand.specs.Waiting.{AllWait}
use Rattle.scheme_expand.proofs.Coming.{Reaches}
use Rattle.scheme_expand.proofs.Running.{Left}
use Rattle.scheme_expand.proofs.expander.Expander.run.Given as goal

-- what was due is noted or waits, and the steps that wait bring the view to the same
abbrev pub invariant-loop-turn : goal.invariant-loop-turn
invariant-loop-turn l = record {
  fault : (due : Option Fault) → AllWait l.initial.self.source l.initial.self.steps.items due → Left l.initial.self l.self due;
  core : (c : Context) (v w : View) → IsView c l.initial.self v → AllCome c l.initial.self.steps.items v w → Reaches c l.self w;
}
