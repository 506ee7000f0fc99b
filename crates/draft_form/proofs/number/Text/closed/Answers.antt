use Rattle.std.proofs.Common.{[], ◌∷◌, refl, ap}
use Rattle.core_form.specs.declared.program.What.TheVariants as form
use Rattle.draft_form.specs.Numbering.{number_in, var_of}
use Rattle.draft_form.proofs.Ready.{closes_by}
use Rattle.draft_form.proofs.number.Text.closed.Goals as goal

pub returns-in_ok-value-in-Set : goal.returns-in_ok-value-in-Set
returns-in_ok-value-in-Set c =
    closes_by (var_of c.args.self.now.words.now (number_in c.args.levels.now.numbers.items)) c.args.what.now (form.Set c.in-Set.var c.in-Set.value) c.args.growing.now
    c.take.new.self _ (c.in_ok-value-in-Set.value ∷ []) c.in-Set.is c.in_ok-value-in-Set.ensures
    (c.in_ok-value-in-Set.value, refl, ap (λ x. form.Set x c.in_ok-value-in-Set.value) c.in_ok-var-in-Set.ensures)

pub returns-in_ok-value-in-Define : goal.returns-in_ok-value-in-Define
returns-in_ok-value-in-Define c =
    closes_by (var_of c.args.self.now.words.now (number_in c.args.levels.now.numbers.items)) c.args.what.now (form.Define c.in-Define.var c.in-Define.value) c.args.growing.now
    c.take-in-Define.new.self _ (c.in_ok-value-in-Define.value ∷ []) c.in-Define.is c.in_ok-value-in-Define.ensures
    (c.in_ok-value-in-Define.value, refl, ap (λ x. form.Define x c.in_ok-value-in-Define.value) c.in_ok-var-in-Define.ensures)
