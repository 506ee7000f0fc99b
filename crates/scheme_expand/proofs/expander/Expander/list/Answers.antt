use Rattle.scheme_expand.proofs.Beginning.{nothing_due, first_form, call_due}
use Rattle.scheme_expand.proofs.Due.{of_all, on_ok, any_ok, none_left}
use Rattle.std.proofs.Common.{refl, sym, ◌∙◌}
use Rattle.scheme_expand.proofs.MadeForms.{empty_not_right, first_turns, list_calls, operands_come, read_count}
use Rattle.scheme_expand.proofs.Parts.{read_in}
use Rattle.scheme_expand.specs.Grammar.{exprs}
use Rattle.scheme_expand.specs.Rewriting.{cores}
use Rattle.scheme_expand.specs.Views.{scope_of}
use Rattle.scheme_expand.proofs.expander.Expander.list.Goals as goal

pub returns-in_default-clause-fault : goal.returns-in_default-clause-fault
returns-in_default-clause-fault c =
    let a = c.args.self.now in
    on_ok c.broken.result
    (λ w ds h. nothing_due a c.broken.new.self c.args.pos c.args.items.now ds h (none_left _ c.in_default.ensures.cases) w)
    c.broken.ensures

pub returns-in-Some-keyword-clause-fault : goal.returns-in-Some-keyword-clause-fault
returns-in-Some-keyword-clause-fault c =
    let a = c.args.self.now in
    on_ok c.form.result
    (λ w ds h.
    first_form a c.form.new.self c.args.pos c.args.items.now _ _ ds _ _ h c.in-Some.ensures.cases.0 c.keyword.ensures
    c.in-Some-keyword.is w)
    c.form.ensures.fault

pub returns-in-None-clause-fault : goal.returns-in-None-clause-fault
returns-in-None-clause-fault c =
    let a = c.args.self.now in
    on_ok c.call.result
    (λ w ds h.
    call_due a c.call.new.self c.args.pos c.args.items.now _ _ ds h c.in-Some.ensures.cases.0 _ c.keyword.ensures c.in-None.is
    (λ d es k l. w d (of_all es) k (es, l, refl)))
    c.call.ensures.fault

pub returns-in_default-clause-core : goal.returns-in_default-clause-core
returns-in_default-clause-core c =
    any_ok c.broken.result
    (λ κ v ds i h r.
    absurd (empty_not_right κ c.args.pos c.args.items.now ds (none_left _ c.in_default.ensures.cases) h r))

pub returns-in-Some-keyword-clause-core : goal.returns-in-Some-keyword-clause-core
returns-in-Some-keyword-clause-core c =
    let a = c.args.self.now in
    on_ok c.form.result
    (λ w κ v ds i h r.
    first_turns κ a c.form.new.self c.args.pos c.args.items.now c.in-Some.operands.now c.in-Some.head.now ds v
    c.in-Some.ensures.cases.0 h r
    (λ d os k l m q.
    w κ v d os i l m
    (sym (c.keyword.ensures d (read_in κ.source a.source c.in-Some.head.now d (sym i.source) k)) ∙ c.in-Some-keyword.is) q))
    c.form.ensures.core

pub returns-in-None-clause-core : goal.returns-in-None-clause-core
returns-in-None-clause-core c =
    let a = c.args.self.now in
    on_ok c.call.result
    (λ w κ v ds i h r.
    first_turns κ a c.call.new.self c.args.pos c.args.items.now c.in-Some.operands.now c.in-Some.head.now ds v
    c.in-Some.ensures.cases.0 h r
    (λ d os k l m q.
    list_calls κ a c.call.new.self c.args.pos d os c.in-Some.operands v
    (sym (c.keyword.ensures d (read_in κ.source a.source c.in-Some.head.now d (sym i.source) k)) ∙ c.in-None.is) m q
    (λ x y.
    w κ v d (cores (exprs os) (scope_of κ v)) i k x (sym (read_count κ c.in-Some.operands.now os (scope_of κ v) m))
    (λ u e. operands_come κ c.in-Some.operands os v u m y e))))
    c.call.ensures.core
