-- The forms so far are behind those that were there.
use Rattle.std.proofs.Common.{take}
use Rattle.draft_form.specs.Growing.{IsReady}
use Rattle.scheme_expand.proofs.FormsBehind.{AddsForms}
use Rattle.scheme_expand.proofs.assemble.add_forms.Given as goal

abbrev pub invariant-loop-form : goal.invariant-loop-form
invariant-loop-form l =
    record {
      ready : IsReady l.initial.growing → IsReady l.growing;
      adds : AddsForms l.text (take l.form-index l.forms) l.initial.levels l.levels l.initial.growing l.growing;
    }
