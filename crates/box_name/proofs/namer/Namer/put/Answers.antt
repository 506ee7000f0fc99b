use Rattle.std.proofs.Common.{refl, ◌∙◌, ◌∷◌, []}
use Rattle.named_form.specs.Written.{act_of}
use Rattle.box_name.proofs.Acts.{puts_step}
use Rattle.box_name.proofs.namer.Namer.put.Goals as goal

pub returns : goal.returns
returns c = record {
  var = refl;
  same = refl;
  step =
      puts_step c.args.steps.now.items c.push.new.self.items _ c.args.pos (c.args.var ∷ []) (act_of c.args.act) c.in_ok-push.ensures.items refl (c.in_ok-vars.ensures ∙ c.as_slice.ensures) refl;
}
