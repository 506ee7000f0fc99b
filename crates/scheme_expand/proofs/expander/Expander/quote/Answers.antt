use Rattle.std.proofs.Common.{refl, ap}
use Rattle.draft_form.specs.Quoted.{constant_of}
use Rattle.scheme_expand.specs.Grammar.{quote_form}
use Rattle.scheme_expand.proofs.Arms.{one_read}
use Rattle.scheme_expand.proofs.Due.{on_ok}
use Rattle.scheme_expand.proofs.MadeForms.{constant_turns}
use Rattle.scheme_expand.proofs.expander.Expander.quote.Goals as goal

pub returns-clause-core : goal.returns-clause-core
returns-clause-core c =
    on_ok c.constant.result
    (λ w κ v ds i h r.
    let o = one_read κ.source c.args.operands.now ds c.in-len1.len_at_least c.in-len1.len_below h in
    constant_turns κ c.args.self.now c.constant.new.self c.args.pos (constant_of o.only) v (quote_form c.args.pos ds)
    (w κ v (constant_of o.only) i (o.only, o.read.stands, refl)) (ap (quote_form c.args.pos) o.are))
    c.constant.ensures.core
