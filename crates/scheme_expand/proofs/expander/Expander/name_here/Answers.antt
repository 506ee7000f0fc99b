use Rattle.std.proofs.Common.{None, refl}
use Rattle.scheme_expand.specs.Faults.{least, in_word}
use Rattle.scheme_expand.proofs.Bodies.{then_none}
use Rattle.scheme_expand.proofs.Due.{on_ok}
use Rattle.scheme_expand.proofs.Coming.{view_kept}
use Rattle.scheme_expand.proofs.MadeForms.{name_seen}
use Rattle.scheme_expand.proofs.expander.Expander.name_here.Goals as goal

pub returns-clause-fault : goal.returns-clause-fault
returns-clause-fault c =
    let b = c.name.new.self in
    on_ok c.wait.result
    (λ w v h.
    then_none c.args.self.now b c.wait.new.self (least (in_word v)) (c.in_ok-word.ensures.fault v h)
    (w None (None, None, refl, refl, refl)))
    c.wait.ensures.fault

pub returns-clause-core : goal.returns-clause-core
returns-clause-core c =
    let a = c.args.self.now in
    let b = c.name.new.self in
    let named = c.in_ok-word.ensures.core in
    on_ok c.wait.result
    (λ put κ v w i h e.
    let spells = named.1 κ w i.fits h i.source in
    name_seen κ a b c.wait.new.self v w _ _ c.args.pos i named.0 spells
    (c.variable-variable.ensures.core κ v (view_kept κ a b v named.0.same i) spells.0) put e)
    c.wait.ensures.core
