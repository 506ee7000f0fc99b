use Rattle.std.specs.Prelude.{map, Some}
use Rattle.std.proofs.Common.{ap, ◌∙◌}
use Rattle.draft_form.specs.Drawn.{word_name}
use Rattle.draft_form.specs.Numbering.{walk}
use Rattle.draft_form.specs.Quoted.{symbol_list}
use Rattle.draft_form.proofs.LiteralsAdded.{on_ok}
use Rattle.draft_form.proofs.Ready.{literal_ready}
use Rattle.draft_form.proofs.VisitsLead.{const_begun, ref_begun, is_compound, open_begun}
use Rattle.draft_form.proofs.number.Text.begin.Goals as goal

pub returns-in_ok-literal-in-Const-clause-ready : goal.returns-in_ok-literal-in-Const-clause-ready
returns-in_ok-literal-in-Const-clause-ready c =
    on_ok c.add.result
    (λ last h.
    let r =
    literal_ready (symbol_list (map (word_name c.args.self.now.words.now) c.args.self.now.symbols.now)) c.args.self.now.nodes.now
    c.args.self.now.drafts.now.constants.items c.in-Const.constant c.in_ok-literal-in-Const.literal c.args.growing.now
    c.literal.new.growing c.in_ok-literal-in-Const.ensures h in
    last r.0 r.1)
    c.add.ensures.ready

pub returns-in_ok-literal-in-Const-clause-goes : goal.returns-in_ok-literal-in-Const-clause-goes
returns-in_ok-literal-in-Const-clause-goes c =
    let draft = c.in_ok-draft.draft.now in
    on_ok c.add.result
    (λ adds course h.
    const_begun (walk c.args.self.now course) c.args.id c.in-Const.constant c.in_ok-literal-in-Const.literal draft.pos
    c.args.visits.now.items c.args.levels.now c.args.growing.now c.literal.new.growing c.add.new.self
    (c.in_ok-draft.ensures ∙ ap (λ what. Some (record { what = what; pos = draft.pos })) c.in-Const.is)
    c.in_ok-literal-in-Const.ensures adds h)
    c.add.ensures.added

pub returns-in_ok-var-in-Ref-clause-goes : goal.returns-in_ok-var-in-Ref-clause-goes
returns-in_ok-var-in-Ref-clause-goes c =
    let draft = c.in_ok-draft.draft.now in
    on_ok c.add-in-Ref.result
    (λ adds course h.
    ref_begun (walk c.args.self.now course) c.args.id c.in-Ref.variable c.in_ok-var-in-Ref.var draft.pos c.args.visits.now.items
    c.args.levels.now c.args.growing.now c.add-in-Ref.new.self
    (c.in_ok-draft.ensures ∙ ap (λ what. Some (record { what = what; pos = draft.pos })) c.in-Ref.is)
    c.in_ok-var-in-Ref.ensures adds h)
    c.add-in-Ref.ensures.added

pub returns-in_default-clause-goes : goal.returns-in_default-clause-goes
returns-in_default-clause-goes c =
    let draft = c.in_ok-draft.draft.now in
    on_ok c.open.result
    (λ opens course h.
    open_begun (walk c.args.self.now course) c.args.id draft.what draft.pos c.args.visits.now.items c.open.new.visits.items
    c.args.levels.now c.open.new.levels c.args.growing.now c.in_ok-draft.ensures (is_compound draft.what c.in_default.not-Const c.in_default.not-Ref) opens h)
    c.open.ensures
