-- The variables so far are behind the forms that were there.
use Rattle.std.proofs.Common.{take}
use Rattle.draft_form.specs.Growing.{IsReady}
use Rattle.scheme_expand.proofs.FormsBehind.{AddsOwn}
use Rattle.scheme_expand.proofs.assemble.add_own_variables.Given as goal

abbrev pub invariant-loop-word : goal.invariant-loop-word
invariant-loop-word l =
    record {
      ready : IsReady l.initial.growing → IsReady l.growing;
      adds : AddsOwn l.text (take l.word-index l.names) l.levels l.initial.growing l.growing;
    }
