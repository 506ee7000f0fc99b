use Rattle.scheme_expand.proofs.Due.{on_ok}
use Rattle.scheme_expand.proofs.FormsDone.{then_done}
use Rattle.scheme_expand.proofs.MadePrograms.{ran}
use Rattle.scheme_expand.proofs.expander.Expander.definition.Goals as goal

pub returns-clause-fault : goal.returns-clause-fault
returns-clause-fault c =
    on_ok c.run.result
    (λ run d h t e. then_done c.args.self.now c.define.new.self c.run.new.self _ e (c.in_ok-define.ensures.fault d h t) run)
    c.run.ensures.fault

pub returns-clause-core : goal.returns-clause-core
returns-clause-core c =
    on_ok c.run.result
    (λ run κ v d i h t e r n.
    ran κ c.args.self.now c.define.new.self c.run.new.self _ e (c.in_ok-define.ensures.core κ v d i h t r n) (λ u w. run κ u w))
    c.run.ensures.core
