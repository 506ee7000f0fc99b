use Rattle.std.proofs.Common.{refl}
use Rattle.scheme_expand.proofs.Beginning.{first_item}
use Rattle.scheme_expand.proofs.Due.{of_all, on_ok}
use Rattle.scheme_expand.proofs.expander.Expander.word_call.Goals as goal

pub returns : goal.returns
returns c =
    let s = c.args.self.now.source in
    on_ok c.call.result
    (λ w d ds h k. w d (of_all ds) (first_item s c.args.items.now _ _ d ds h c.in-Some.ensures.cases.0) (ds, k, refl))
    c.call.ensures.fault
