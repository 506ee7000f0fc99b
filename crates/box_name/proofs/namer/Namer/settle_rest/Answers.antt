use Rattle.std.proofs.Common.{[], sym, ap, subst, ◌∙◌}
use Rattle.std.proofs.lemmas.Result.{on_ok_weaker}
use Rattle.box_name.specs.Counts.{all_params}
use Rattle.box_name.specs.Naming.{rest_var}
use Rattle.box_name.specs.Procedures.{SettlesAll}
use Rattle.box_name.specs.Told.{option_number}
use Rattle.box_name.proofs.Boxing.{settles_none}
use Rattle.box_name.proofs.namer.Namer.settle_rest.Goals as goal

pub returns-in-Some : goal.returns-in-Some
returns-in-Some c =
    on_ok_weaker c.settle_last.result
    (λ settled s fits n p v is.
    subst (λ r. SettlesAll s n p c.args.self.now c.settle_last.new.self c.args.steps.now.items c.settle_last.new.steps.items c.args.pos (all_params [] (option_number r)) v)
    (sym c.in-Some.is) (settled s fits n p v (is ∙ ap (λ r. rest_var s (option_number r) v) c.in-Some.is)))
    c.settle_last.ensures

pub returns-in-None : goal.returns-in-None
returns-in-None c =
    λ s fits n p v is.
    subst (λ r. SettlesAll s n p c.args.self.now c.args.self.now c.args.steps.now.items c.args.steps.now.items c.args.pos (all_params [] (option_number r)) v)
    (sym c.in-None.is) (settles_none s n p c.args.self.now c.args.steps.now.items c.args.pos v)
