use Rattle.std.proofs.Common.{refl, sym, ◌∙◌}
use Rattle.scheme_expand.specs.Grammar.{bindings}
use Rattle.scheme_expand.proofs.Bodies.{body_names}
use Rattle.scheme_expand.proofs.Bounds.{no_operands, no_operands_wrong, no_body_bound, no_body_wrong, no_pairs_bound, no_pairs_wrong, bound_read, names_twice, names_twice_wrong, definitions_twice, definitions_twice_wrong, good_bound}
use Rattle.scheme_expand.proofs.Coming.{puts_nothing}
use Rattle.scheme_expand.proofs.Due.{none_left}
use Rattle.scheme_expand.specs.Waiting.{named_data}
use Rattle.scheme_expand.proofs.Parts.{read_at}
use Rattle.scheme_expand.proofs.expander.Expander.bindings.Goals as goal

pub returns-in_default-clause-fault : goal.returns-in_default-clause-fault
returns-in_default-clause-fault c = λ ds h e.
    no_operands c.args.self.now c.broken.new.self c.args.pos c.args.together c.args.operands.now ds e h
    (none_left _ c.in_default.ensures.cases) c.in_ok-broken.ensures

pub returns-in_default-2-clause-fault : goal.returns-in_default-2-clause-fault
returns-in_default-2-clause-fault c = λ ds h e.
    no_body_bound c.args.self.now c.broken-in_default-2.new.self c.args.pos c.args.together c.args.operands.now _ _ ds e h
    c.in-Some.ensures.cases.0 (λ es k. rw c.in_default-2.is at (c.in_ok-body.ensures es k)) c.in_ok-broken-2.ensures

pub returns-in_default-3-clause-fault : goal.returns-in_default-3-clause-fault
returns-in_default-3-clause-fault c = λ ds h e.
    no_pairs_bound c.args.self.now c.broken-in_default-3.new.self c.args.pos c.args.together c.args.operands.now _ _ ds e h
    c.in-Some.ensures.cases.0 (λ es k. let b = rw c.in-Some-2.is at (c.in_ok-body.ensures es k) in b.0) (λ d k. rw c.in_default-3.is at (c.in_ok-bindings.ensures d k))
    c.in_ok-broken-3.ensures

pub returns-then-branch-clause-fault : goal.returns-then-branch-clause-fault
returns-then-branch-clause-fault c = λ ds h e.
    let a = c.args.self.now in
    let i = bound_read a.source c.args.operands.now _ _ ds c.in-Some-3.bindings c.in-Some-2.body h c.in-Some.ensures.cases.0
    (λ es k. rw c.in-Some-2.is at (c.in_ok-body.ensures es k)) (λ d k. rw c.in-Some-3.is at (c.in_ok-bindings.ensures d k)) in
    names_twice a c.broken-then-branch.new.self c.args.pos c.args.together ds e _ _ i
    (sym (c.in_ok-bound_twice.ensures (bindings i.first) i.bound) ∙ c.if-branch.true) c.in_ok-broken-4.ensures

pub returns-then-branch-2-clause-fault : goal.returns-then-branch-2-clause-fault
returns-then-branch-2-clause-fault c = λ ds h e.
    let a = c.args.self.now in
    let i = bound_read a.source c.args.operands.now _ _ ds c.in-Some-3.bindings c.in-Some-2.body h c.in-Some.ensures.cases.0
    (λ es k. rw c.in-Some-2.is at (c.in_ok-body.ensures es k)) (λ d k. rw c.in-Some-3.is at (c.in_ok-bindings.ensures d k)) in
    definitions_twice a c.broken-then-branch-2.new.self c.args.pos c.args.together ds e _ _ i
    (sym (c.in_ok-bound_twice.ensures (bindings i.first) i.bound) ∙ c.if-branch.false)
    (body_names a.source c.in-Some-2.body _ _ i.inner (λ ws k. c.in_ok-twice.ensures ws (read_at a.source _ _ (named_data ws) c.deref.ensures.value k)) ∙ c.if-branch-2.true)
    c.in_ok-broken-5.ensures

pub returns-clause-fault : goal.returns-clause-fault
returns-clause-fault c = λ ds h.
    let a = c.args.self.now in
    let i = bound_read a.source c.args.operands.now _ _ ds c.in-Some-3.bindings c.in-Some-2.body h c.in-Some.ensures.cases.0
    (λ es k. rw c.in-Some-2.is at (c.in_ok-body.ensures es k)) (λ d k. rw c.in-Some-3.is at (c.in_ok-bindings.ensures d k)) in (
      record { source = refl; steps = refl; fault = refl },
      good_bound a.source c.args.together ds _ _ i
          (sym (c.in_ok-bound_twice.ensures (bindings i.first) i.bound) ∙ c.if-branch.false)
          (body_names a.source c.in-Some-2.body _ _ i.inner (λ ws k. c.in_ok-twice.ensures ws (read_at a.source _ _ (named_data ws) c.deref.ensures.value k)) ∙ c.if-branch-2.false),
    )

pub returns-in_default-clause-core : goal.returns-in_default-clause-core
returns-in_default-clause-core c = λ ds e h. (
  4,
  no_operands_wrong c.args.self.now.source c.args.pos c.args.together c.args.operands.now ds e h
      (none_left _ c.in_default.ensures.cases),
)

pub returns-in_default-2-clause-core : goal.returns-in_default-2-clause-core
returns-in_default-2-clause-core c = λ ds e h. (
  4,
  no_body_wrong c.args.self.now.source c.args.pos c.args.together c.args.operands.now _ _ ds e h c.in-Some.ensures.cases.0
      (λ es k. rw c.in_default-2.is at (c.in_ok-body.ensures es k)),
)

pub returns-in_default-3-clause-core : goal.returns-in_default-3-clause-core
returns-in_default-3-clause-core c = λ ds e h. (
  8,
  no_pairs_wrong c.args.self.now.source c.args.pos c.args.together c.args.operands.now _ _ ds e h c.in-Some.ensures.cases.0
      (λ es k. let b = rw c.in-Some-2.is at (c.in_ok-body.ensures es k) in b.0) (λ d k. rw c.in_default-3.is at (c.in_ok-bindings.ensures d k)),
)

pub returns-then-branch-clause-core : goal.returns-then-branch-clause-core
returns-then-branch-clause-core c = λ ds e h.
    let a = c.args.self.now in
    let i = bound_read a.source c.args.operands.now _ _ ds c.in-Some-3.bindings c.in-Some-2.body h c.in-Some.ensures.cases.0
    (λ es k. rw c.in-Some-2.is at (c.in_ok-body.ensures es k)) (λ d k. rw c.in-Some-3.is at (c.in_ok-bindings.ensures d k)) in (
      12,
      names_twice_wrong a.source c.args.pos c.args.together ds e _ _ i
          (sym (c.in_ok-bound_twice.ensures (bindings i.first) i.bound) ∙ c.if-branch.true),
    )

pub returns-then-branch-2-clause-core : goal.returns-then-branch-2-clause-core
returns-then-branch-2-clause-core c = λ ds e h.
    let a = c.args.self.now in
    let i = bound_read a.source c.args.operands.now _ _ ds c.in-Some-3.bindings c.in-Some-2.body h c.in-Some.ensures.cases.0
    (λ es k. rw c.in-Some-2.is at (c.in_ok-body.ensures es k)) (λ d k. rw c.in-Some-3.is at (c.in_ok-bindings.ensures d k)) in (
      12,
      definitions_twice_wrong a.source c.args.pos c.args.together ds e _ _ i
          (sym (c.in_ok-bound_twice.ensures (bindings i.first) i.bound) ∙ c.if-branch.false)
          (body_names a.source c.in-Some-2.body _ _ i.inner (λ ws k. c.in_ok-twice.ensures ws (read_at a.source _ _ (named_data ws) c.deref.ensures.value k)) ∙ c.if-branch-2.true),
    )

pub returns-clause-core : goal.returns-clause-core
returns-clause-core c =
    puts_nothing c.args.self.now c.args.self.now (record { source = refl; library = refl; changed = refl; maker = refl }) refl
