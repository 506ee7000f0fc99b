use Rattle.std.proofs.Common.{true, false, sym, ◌∙◌}
use Rattle.scheme_expand.specs.Views.{height}
use Rattle.scheme_expand.proofs.KnownHeads.{match_none, unnumbered_call, name_at, own_name, unknown_name, known_name_call}
use Rattle.scheme_expand.proofs.Operators.{no_fault}
use Rattle.scheme_expand.proofs.expander.Expander.known.Goals as goal

pub returns-in_err-word-clause-core : goal.returns-in_err-word-clause-core
returns-in_err-word-clause-core c = λ κ v d es p e i read right many.
    match_none c.from_residual.result _ _ c.from_residual.ensures
    (unnumbered_call κ c.args.self.now.source c.args.head d c.word.result p e es _ i.fits read i.source c.word.ensures c.in_err-word.was)

pub returns-in_default-clause-core : goal.returns-in_default-clause-core
returns-in_default-clause-core c = λ κ v d es p e i read right many.
    let word = c.in_ok-word.word in
    let n = name_at κ c.args.self.now.source c.args.head d c.word.result word i.fits read i.source c.word.ensures c.in_ok-word.was in
    own_name κ v c.variable.result word d p e es n (c.variable.ensures.core κ v i n.spelled.0) c.in_default.not-Library

pub returns-in_err-call-clause-core : goal.returns-in_err-call-clause-core
returns-in_err-call-clause-core c = λ κ v d es p e i read right many.
    let word = c.in_ok-word.word in
    let n = name_at κ c.args.self.now.source c.args.head d c.word.result word i.fits read i.source c.word.ensures c.in_ok-word.was in
    match_none c.from_residual-in_err-call.result _ _ c.from_residual-in_err-call.ensures
    (unknown_name κ v c.variable.result _ word d p e es n (c.variable.ensures.core κ v i n.spelled.0) c.in-Library.is
    (c.in_err-call.ensures.core _ n.name.name p (height v) es i.fits.table n.listed))

pub returns-then-takes-clause-fault : goal.returns-then-takes-clause-fault
returns-then-takes-clause-fault c = λ d h.
    no_fault c.args.self.now.source c.args.head d _ _ h c.word.ensures c.in_ok-word.was c.in_ok-call.ensures.fault

pub returns-then-takes-clause-core : goal.returns-then-takes-clause-core
returns-then-takes-clause-core c = λ κ v d es p e i read right many.
    let word = c.in_ok-word.word in
    let n = name_at κ c.args.self.now.source c.args.head d c.word.result word i.fits read i.source c.word.ensures c.in_ok-word.was in
    known_name_call κ v c.variable.result _ word d p e es c.in_ok-call.call true n (c.variable.ensures.core κ v i n.spelled.0) c.in-Library.is
    (c.in_ok-call.ensures.core _ n.name.name p (height v) es i.fits.table n.listed)
    (sym c.if-takes.true ∙ c.takes.ensures p (height v) es many)

pub returns-else-takes-clause-core : goal.returns-else-takes-clause-core
returns-else-takes-clause-core c = λ κ v d es p e i read right many.
    let word = c.in_ok-word.word in
    let n = name_at κ c.args.self.now.source c.args.head d c.word.result word i.fits read i.source c.word.ensures c.in_ok-word.was in
    known_name_call κ v c.variable.result _ word d p e es c.in_ok-call.call false n (c.variable.ensures.core κ v i n.spelled.0) c.in-Library.is
    (c.in_ok-call.ensures.core _ n.name.name p (height v) es i.fits.table n.listed)
    (sym c.if-takes.false ∙ c.takes.ensures p (height v) es many)
