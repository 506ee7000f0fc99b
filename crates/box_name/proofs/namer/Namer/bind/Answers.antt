use Rattle.std.proofs.Common.{sym, subst, ap, ◌∙◌, ◌∷◌, []}
use Rattle.std.proofs.lemmas.Result.{IfOk-weaker}
use Rattle.named_form.specs.Written.{act_of}
use Rattle.box_name.specs.NamingSteps.{PutsStep}
use Rattle.box_name.proofs.namer.Namer.bind.Goals as goal

pub returns : goal.returns
returns c =
    IfOk-weaker c.put.result _ _
    (λ v put.
    record {
      var = put.var ∙ c.in_ok-var.ensures.var;
      next = put.same ∙ c.in_ok-var.ensures.next;
      step =
          subst (λ w. PutsStep c.args.steps.now.items c.put.new.steps.items c.args.pos (w ∷ []) (act_of c.args.act)) c.in_ok-var.ensures.var
          put.step;
    })
    c.put.ensures
