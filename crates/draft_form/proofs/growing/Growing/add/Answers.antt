use Rattle.std.proofs.Common.{[], ◌∷◌, ◌++◌, refl, ap, ◌∙◌}
use Rattle.draft_form.proofs.Ready.{added}
use Rattle.draft_form.proofs.growing.Growing.add.Goals as goal

pub returns-clause-ready : goal.returns-clause-ready
returns-clause-ready c h parts =
    let g = c.args.self.now in
    let r =
    added g.exprs c.push.new.self g.lits.items g.forms g.done.items c.push-2.new.self.items c.args.what c.args.pos
    c.in_ok-id.id c.in_ok-push.ensures.ok (c.in_ok-id.ensures ∙ c.len.ensures) c.in_ok-push-2.ensures.items h.forms h.done parts in
    record { forms = r.0; done = r.1 }

pub returns-clause-added : goal.returns-clause-added
returns-clause-added c =
    record {
      exprs = c.in_ok-push.ensures.ok;
      lits = refl;
      forms = refl;
      done = c.in_ok-push-2.ensures.items ∙ ap (λ id. c.args.self.now.done.items ++ id ∷ []) (c.in_ok-id.ensures ∙ c.len.ensures);
    }
