use Rattle.std.proofs.Common.{sym, ◌∙◌}
use Rattle.draft_form.proofs.LiteralsAdded.{on_ok}
use Rattle.draft_form.proofs.Walking.{same_what}
use Rattle.scheme_expand.proofs.SymbolsInOrder.{const_part, other_takes}
use Rattle.scheme_expand.proofs.symbol.take_in_expression.Goals as goal

pub returns-in_ok-constant-in-Const : goal.returns-in_ok-constant-in-Const
returns-in_ok-constant-in-Const c =
    on_ok c.take_in_constant.result
    (λ takes names what p found spelled node part.
    let same = same_what c.args.drafts.now.exprs.items c.args.id what c.in_ok-draft.draft.now.what p c.in_ok-draft.draft.now.pos node c.in_ok-draft.ensures in
    takes names found spelled
    (const_part names c.args.source.nodes.now c.args.drafts.now what c.in-Const.number c.in_ok-constant-in-Const.constant found
    (sym same ∙ c.in-Const.is) c.in_ok-constant-in-Const.ensures part))
    c.take_in_constant.ensures

pub returns-in_default : goal.returns-in_default
returns-in_default c = λ names what p found spelled node part.
    let same = same_what c.args.drafts.now.exprs.items c.args.id what c.in_ok-draft.draft.now.what p c.in_ok-draft.draft.now.pos node c.in_ok-draft.ensures in
    other_takes names c.args.source.nodes.now c.args.drafts.now what found c.args.firsts.now (λ k e. c.in_default.not-Const k (same ∙ e)) part
