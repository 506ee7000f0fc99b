use Rattle.draft_form.specs.Drafts.{Ref}
use Rattle.draft_form.specs.Drawn.{name_of}
use Rattle.draft_form.proofs.DraftsMade.{if_ok}
use Rattle.scheme_expand.specs.declared.words.Comparison.TheVariants as how
use Rattle.scheme_expand.proofs.HeldCalls.{compared_as}
use Rattle.scheme_expand.proofs.make.Maker.compare.Goals as goal

pub returns-in-Equal-clause-drawn : goal.returns-in-Equal-clause-drawn
returns-in-Equal-clause-drawn c =
    let p = c.args.pos in
    if_ok c.binary.result
    (λ id drawn names nodes.
    compared_as names nodes c.binary.new.self.drafts id p c.args.comparison how.Equal (Ref p (name_of names c.args.first))
    (Ref p (name_of names c.args.second)) c.in-Equal.is (drawn names nodes))
    c.binary.ensures.drawn

pub returns-in-Less-clause-drawn : goal.returns-in-Less-clause-drawn
returns-in-Less-clause-drawn c =
    let p = c.args.pos in
    if_ok c.binary-in-Less.result
    (λ id drawn names nodes.
    compared_as names nodes c.binary-in-Less.new.self.drafts id p c.args.comparison how.Less (Ref p (name_of names c.args.first))
    (Ref p (name_of names c.args.second)) c.in-Less.is (drawn names nodes))
    c.binary-in-Less.ensures.drawn

pub returns-in-Greater-clause-drawn : goal.returns-in-Greater-clause-drawn
returns-in-Greater-clause-drawn c =
    let p = c.args.pos in
    if_ok c.binary-in-Greater.result
    (λ id drawn names nodes.
    compared_as names nodes c.binary-in-Greater.new.self.drafts id p c.args.comparison how.Greater (Ref p (name_of names c.args.first))
    (Ref p (name_of names c.args.second)) c.in-Greater.is (drawn names nodes))
    c.binary-in-Greater.ensures.drawn
