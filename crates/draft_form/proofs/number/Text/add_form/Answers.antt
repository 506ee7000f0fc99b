use Rattle.std.proofs.Common.{◌≡◌, List, [], subst, arith}
use Rattle.std.proofs.lemmas.Grind.{common_steps}
use Rattle.draft_form.specs.declared.level.Visit.{Visit}
use Rattle.draft_form.specs.Numbering.{walk, Goes}
use Rattle.draft_form.proofs.FormsNumbered.{form_numbered}
use Rattle.draft_form.proofs.LiteralsAdded.{on_ok}
use Rattle.draft_form.proofs.number.Text.add_form.Goals as goal

pub loop-turn-preserved : goal.loop-turn-preserved
loop-turn-preserved c =
    record {
      ready = λ h. c.in_ok-visit.ensures.ready (c.loop-turn.invariant.ready h);
      goes = λ course h.
          let P : List Visit → Type 0 = λ vs. Goes (walk c.args.self.now course) vs c.loop-turn.levels c.loop-turn.growing in
          c.in_ok-visit.ensures.goes course (subst P c.in-Some.ensures.items (c.loop-turn.invariant.goes course h));
    }

pub returns-in_default-clause-ready : goal.returns-in_default-clause-ready
returns-in_default-clause-ready c =
    on_ok c.add_form.result (λ last h. last (c.loop-turn.invariant.ready h)) c.add_form.ensures.ready

pub returns-in_default-clause-numbered : goal.returns-in_default-clause-numbered
returns-in_default-clause-numbered c =
    let empty : c.loop-turn.visits.items ≡ [] = grind (arith, common_steps, c.in_default.ensures.cases) in
    on_ok c.add_form.result
    (λ adds es e h drawn.
    form_numbered c.args.self.now c.args.form es e c.args.levels.now c.loop-turn.levels c.args.growing.now c.loop-turn.growing
    c.add_form.new.self h drawn adds
    (λ course k.
    let P : List Visit → Type 0 = λ vs. Goes (walk c.args.self.now course) vs c.loop-turn.levels c.loop-turn.growing in
    subst P empty (c.loop-turn.invariant.goes course k)))
    c.add_form.ensures.added
