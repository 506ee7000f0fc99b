use Rattle.scheme_expand.proofs.Due.{none_left}
use Rattle.scheme_expand.proofs.FormsDone.{no_definitions_done, one_definition_done, definitions_done}
use Rattle.scheme_expand.proofs.MadePrograms.{no_definitions_made, one_definition_made, definitions_made}
use Rattle.scheme_expand.proofs.expander.Expander.definitions.Goals as goal

pub loop-first-init : goal.loop-first-init
loop-first-init c =
    let a = c.args.self.now in (
      λ ds h e. no_definitions_done a c.args.ids.now ds e h,
      λ κ v ds i h e r n. no_definitions_made κ a v c.args.ids.now ds i h e r n,
    )

pub loop-first-preserved : goal.loop-first-preserved
loop-first-preserved c =
    let b = c.loop-first.self in
    let rest = c.loop-first.rest.now in
    let split = c.in-Some.ensures.cases.0 in (
      λ ds h e.
          one_definition_done c.args.self.now b c.definition.new.self rest c.in-Some.others.now c.in-Some.first.now ds
          (c.loop-first.invariant.0 ds h e) split c.in_ok-definition.ensures.fault,
      λ κ v ds i h e r n.
          one_definition_made κ b c.definition.new.self v rest c.in-Some.others.now c.in-Some.first.now ds
          (c.loop-first.invariant.1 κ v ds i h e r n) split c.in_ok-definition.ensures.core,
    )

pub returns-clause-fault : goal.returns-clause-fault
returns-clause-fault c = λ ds h e.
    definitions_done c.args.self.now c.loop-first.self c.loop-first.rest.now ds (c.loop-first.invariant.0 ds h e)
    (none_left c.loop-first.rest.now c.in_default.ensures.cases)

pub returns-clause-core : goal.returns-clause-core
returns-clause-core c = λ κ v ds i h e r n.
    definitions_made κ c.loop-first.self v c.loop-first.rest.now ds (c.loop-first.invariant.1 κ v ds i h e r n)
    (none_left c.loop-first.rest.now c.in_default.ensures.cases)
