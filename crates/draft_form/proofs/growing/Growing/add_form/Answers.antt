use Rattle.std.proofs.Common.{ℕ, List, [], ◌∷◌, ◌++◌, sym, ap, subst, ◌∙◌}
use Rattle.draft_form.specs.Written.{AreWritten}
use Rattle.draft_form.proofs.WrittenStays.{written_append}
use Rattle.draft_form.proofs.Ready.{one_taken}
use Rattle.draft_form.proofs.growing.Growing.add_form.Goals as goal

pub returns-clause-ready : goal.returns-clause-ready
returns-clause-ready c h =
    let g = c.take.new.self in
    let r = one_taken c.args.self.now g c.in_ok-form.form c.in_ok-form.ensures h in
    let P : List ℕ → Type 0 = λ is. AreWritten g.exprs g.lits.items is in
    record {
      forms = subst P (sym c.in_ok-push.ensures.ok) (written_append g.exprs g.lits.items g.forms (c.in_ok-form.form ∷ []) r.0.forms (r.1, tt));
      done = r.0.done;
    }

pub returns-clause-added : goal.returns-clause-added
returns-clause-added c =
    let takes = c.in_ok-form.ensures in
    record {
      exprs = takes.exprs;
      lits = takes.lits;
      form = c.in_ok-form.form;
      done = takes.done;
      forms = c.in_ok-push.ensures.ok ∙ ap (λ ids. ids ++ c.in_ok-form.form ∷ []) takes.forms;
    }
