use Rattle.std.proofs.Common.{Bor, ℕ, List, Option, None, refl, sym, subst}
use Rattle.scheme_expand.specs.Holding.{key_tests}
use Rattle.scheme_expand.specs.Viewed.{Puts}
use Rattle.scheme_expand.proofs.Adding.{nothing}
use Rattle.scheme_expand.proofs.Coming.{puts_nothing}
use Rattle.scheme_expand.proofs.Due.{on_ok}
use Rattle.scheme_expand.proofs.expander.Expander.test_case.Goals as goal

pub returns-in-Some-clause-fault : goal.returns-in-Some-clause-fault
returns-in-Some-clause-fault c =
    let s = c.args.self.now.source in
    on_ok c.wait.result
    (λ w. w None (None, None, refl, (None, None, refl, refl, refl), refl))
    c.wait.ensures.fault

pub returns-in-None-clause-fault : goal.returns-in-None-clause-fault
returns-in-None-clause-fault c = nothing c.args.self.now

pub returns-in-Some-clause-core : goal.returns-in-Some-clause-core
returns-in-Some-clause-core c =
    let P : Option (Bor (List ℕ)) → Type 0 = λ o. Puts c.args.self.now c.wait.new.self (key_tests c.args.pos o c.args.level) in
    on_ok c.wait.result (λ put. subst P (sym c.in-Some.is) put) c.wait.ensures.core

pub returns-in-None-clause-core : goal.returns-in-None-clause-core
returns-in-None-clause-core c =
    let a = c.args.self.now in
    let P : Option (Bor (List ℕ)) → Type 0 = λ o. Puts a a (key_tests c.args.pos o c.args.level) in
    subst P (sym c.in-None.is) (puts_nothing a a (record { source = refl; library = refl; changed = refl; maker = refl }) refl)
