use Rattle.std.proofs.Common.{refl, sym, ap, subst}
use Rattle.scheme_expand.proofs.Due.{if_ok}
use Rattle.scheme_expand.proofs.Joined.{whole_joined}
use Rattle.scheme_expand.proofs.answer.joined.Goals as goal

pub returns-clause-made : goal.returns-clause-made
returns-clause-made c =
    if_ok c.core.result
    (λ core w own ds es j.
    w own ds es
    (whole_joined own ds es c.args.texts.now c.args.library.now c.args.defined.now c.args.program.now c.in_source.result c.in_source-2.result
    c.args.defined c.deref.result refl c.in_source.ensures.source c.in_source.ensures.drafts c.in_source.ensures.forms
    c.in_source-2.ensures.source c.in_source-2.ensures.drafts c.in_source-2.ensures.forms c.deref.ensures.value j))
    c.core.ensures.made
