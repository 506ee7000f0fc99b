use Rattle.draft_form.specs.Numbering.{number_in, var_of, walk}
use Rattle.draft_form.proofs.LiteralsAdded.{on_ok}
use Rattle.draft_form.proofs.Ready.{closed_parts}
use Rattle.draft_form.proofs.VisitsLead.{end_done}
use Rattle.draft_form.proofs.number.Text.end.Goals as goal

pub returns-clause-ready : goal.returns-clause-ready
returns-clause-ready c =
    on_ok c.add.result
    (λ last h.
    let r =
    closed_parts (var_of c.args.self.now.words.now (number_in c.args.levels.now.numbers.items)) c.in_ok-draft.draft.now.what
    c.args.growing.now c.closed.new.growing c.in_ok-what.what c.in_ok-what.ensures h in
    last r.0 r.1)
    c.add.ensures.ready

pub returns-clause-goes : goal.returns-clause-goes
returns-clause-goes c =
    on_ok c.add.result
    (λ adds course visits h.
    end_done (walk c.args.self.now course) c.args.id c.in_ok-draft.draft.now.what c.in_ok-what.what c.in_ok-draft.draft.now.pos visits
    c.args.levels.now c.args.growing.now c.closed.new.growing c.add.new.self c.in_ok-draft.ensures c.in_ok-what.ensures adds h)
    c.add.ensures.added
