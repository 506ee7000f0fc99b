use Rattle.scheme_expand.proofs.Bodies.{all_in, body_in}
use Rattle.scheme_expand.proofs.MadeBodies.{not_right, rest_there, procedure_turns, formals_in}
use Rattle.scheme_expand.proofs.Expanding.{right_parts}
use Rattle.scheme_expand.proofs.Due.{any_ok}
use Rattle.scheme_expand.proofs.Coming.{turns_as}
use Rattle.scheme_expand.specs.Views.{seen, bind}
use Rattle.scheme_expand.specs.Rewriting.{names as names_of}
use Rattle.scheme_expand.specs.Forms.{Procedure}
use Rattle.scheme_expand.specs.Faults.{in_exp, in_words, in_body}
use Rattle.std.proofs.Common.{ap}
use Rattle.std.proofs.Common.{None, refl, sym, ◌∙◌}
use Rattle.scheme_expand.specs.Grammar.{procedure, body, and_rest}
use Rattle.scheme_expand.proofs.Bodies.{wrong_due, no_body, params_twice, body_twice, good_procedure, body_names, procedure_due}
use Rattle.scheme_expand.proofs.Due.{on_ok}
use Rattle.scheme_expand.specs.Waiting.{named_data}
use Rattle.scheme_expand.proofs.Parts.{read_at}
use Rattle.scheme_expand.proofs.expander.Expander.procedure.Goals as goal

pub returns-in_default-clause-fault : goal.returns-in_default-clause-fault
returns-in_default-clause-fault c =
    let a = c.args.self.now in
    let p = c.args.pos in
    on_ok c.broken.result
    (λ w ws r ds f h.
    wrong_due a c.broken.new.self p 4 (procedure p ws r ds (body ds)) (no_body p ws r ds (body ds) (rw c.in_default.is at (c.in_ok-body.ensures ds h))) w)
    c.broken.ensures

pub returns-then-branch-clause-fault : goal.returns-then-branch-clause-fault
returns-then-branch-clause-fault c =
    let a = c.args.self.now in
    let p = c.args.pos in
    on_ok c.broken-then-branch.result
    (λ w ws r ds f h.
    let i = rw c.in-Some.is at (c.in_ok-body.ensures ds h) in
    wrong_due a c.broken-then-branch.new.self p 12 (procedure p ws r ds (body ds))
    (params_twice p ws r ds (body ds) i.0
    (sym (c.in_ok-twice.ensures (and_rest ws r) (read_at a.source _ _ _ c.deref.ensures.value (c.in_ok-names.ensures a.source ws r f))) ∙ c.if-branch.true)) w)
    c.broken-then-branch.ensures

pub returns-then-branch-2-clause-fault : goal.returns-then-branch-2-clause-fault
returns-then-branch-2-clause-fault c =
    let a = c.args.self.now in
    let p = c.args.pos in
    on_ok c.broken-then-branch-2.result
    (λ w ws r ds f h.
    let i = rw c.in-Some.is at (c.in_ok-body.ensures ds h) in
    wrong_due a c.broken-then-branch-2.new.self p 12 (procedure p ws r ds (body ds))
    (body_twice p ws r ds (body ds) i.0
    (sym (c.in_ok-twice.ensures (and_rest ws r) (read_at a.source _ _ _ c.deref.ensures.value (c.in_ok-names.ensures a.source ws r f))) ∙ c.if-branch.false)
    (body_names a.source c.in-Some.body (body ds) _ i.1 (λ vs k. c.in_ok-twice-2.ensures vs (read_at a.source _ _ (named_data vs) c.deref-2.ensures.value k)) ∙ c.if-branch-2.true)) w)
    c.broken-then-branch-2.ensures

pub returns-clause-fault : goal.returns-clause-fault
returns-clause-fault c =
    let a = c.args.self.now in
    let p = c.args.pos in
    on_ok c.body.result
    (λ w ws r ds f h.
    let i = rw c.in-Some.is at (c.in_ok-body.ensures ds h) in
    let names = c.in_ok-names.ensures a.source ws r f in
    procedure_due a c.enter.new.self c.wait.new.self c.body.new.self p ws r ds _ c.in-Some.body
    (good_procedure p ws r ds (body ds) i.0
    (sym (c.in_ok-twice.ensures (and_rest ws r) (read_at a.source _ _ _ c.deref.ensures.value names)) ∙ c.if-branch.false)
    (body_names a.source c.in-Some.body (body ds) _ i.1 (λ vs k. c.in_ok-twice-2.ensures vs (read_at a.source _ _ (named_data vs) c.deref-2.ensures.value k)) ∙ c.if-branch-2.false))
    names i.1 (λ vs k. c.in_ok-enter.ensures.fault vs (read_at a.source _ _ (named_data vs) c.deref-3.ensures.value k))
    (c.in_ok-wait.ensures.fault None (None, None, refl, refl, refl)) w)
    c.body.ensures.fault

pub returns-in_default-clause-core : goal.returns-in_default-clause-core
returns-in_default-clause-core c =
    let a = c.args.self.now in
    let p = c.args.pos in
    any_ok c.broken.result
    (λ κ v ws r ds i f h k.
    absurd
    (not_right p 4 (procedure p ws r ds (body ds))
    (no_body p ws r ds (body ds) (rw c.in_default.is at (c.in_ok-body.ensures ds (all_in κ.source a.source _ ds (sym i.source) h)))) k))

pub returns-then-branch-clause-core : goal.returns-then-branch-clause-core
returns-then-branch-clause-core c =
    let a = c.args.self.now in
    let p = c.args.pos in
    any_ok c.broken-then-branch.result
    (λ κ v ws r ds i f h k.
    let inner = rw c.in-Some.is at (c.in_ok-body.ensures ds (all_in κ.source a.source _ ds (sym i.source) h)) in
    absurd
    (not_right p 12 (procedure p ws r ds (body ds))
    (params_twice p ws r ds (body ds) inner.0
    (sym (c.in_ok-twice.ensures (and_rest ws r) (read_at a.source _ _ _ c.deref.ensures.value (c.in_ok-names.ensures a.source ws r (formals_in κ.source a.source _ ws r (sym i.source) f)))) ∙ c.if-branch.true)) k))

pub returns-then-branch-2-clause-core : goal.returns-then-branch-2-clause-core
returns-then-branch-2-clause-core c =
    let a = c.args.self.now in
    let p = c.args.pos in
    any_ok c.broken-then-branch-2.result
    (λ κ v ws r ds i f h k.
    let inner = rw c.in-Some.is at (c.in_ok-body.ensures ds (all_in κ.source a.source _ ds (sym i.source) h)) in
    absurd
    (not_right p 12 (procedure p ws r ds (body ds))
    (body_twice p ws r ds (body ds) inner.0
    (sym (c.in_ok-twice.ensures (and_rest ws r) (read_at a.source _ _ _ c.deref.ensures.value (c.in_ok-names.ensures a.source ws r (formals_in κ.source a.source _ ws r (sym i.source) f)))) ∙ c.if-branch.false)
    (body_names a.source c.in-Some.body (body ds) _ inner.1 (λ vs j. c.in_ok-twice-2.ensures vs (read_at a.source _ _ (named_data vs) c.deref-2.ensures.value j)) ∙ c.if-branch-2.true)) k))

pub returns-clause-core : goal.returns-clause-core
returns-clause-core c =
    let a = c.args.self.now in
    let p = c.args.pos in
    on_ok c.body.result
    (λ w κ v ws r ds i f h k.
    let inner = rw c.in-Some.is at (c.in_ok-body.ensures ds (all_in κ.source a.source _ ds (sym i.source) h)) in
    let names = c.in_ok-names.ensures a.source ws r (formals_in κ.source a.source _ ws r (sym i.source) f) in
    let good =
    good_procedure p ws r ds (body ds) inner.0
    (sym (c.in_ok-twice.ensures (and_rest ws r) (read_at a.source _ _ _ c.deref.ensures.value names)) ∙ c.if-branch.false)
    (body_names a.source c.in-Some.body (body ds) _ inner.1 (λ vs j. c.in_ok-twice-2.ensures vs (read_at a.source _ _ (named_data vs) c.deref-2.ensures.value j)) ∙ c.if-branch-2.false)
    in
    let right = right_parts (in_words (and_rest ws r)) (in_body (body ds)) (sym (ap in_exp good) ∙ k) in
    let read = all_in a.source κ.source _ (named_data (and_rest ws r)) i.source names in
    turns_as κ a c.body.new.self (seen κ (Procedure p ws r (body ds)) v) (seen κ (procedure p ws r ds (body ds)) v)
    (ap (λ e. seen κ e v) (sym good))
    (procedure_turns κ a c.enter.new.self c.wait.new.self c.body.new.self p c.in_ok-level.level _ ws r (body ds) v
    (c.in_ok-enter.ensures.core κ v (and_rest ws r) i (read_at κ.source _ _ (named_data (and_rest ws r)) c.deref-3.ensures.value read))
    c.in_ok-wait.ensures.core (c.in_ok-level.ensures κ.names v.bound i.made.scope)
    (c.is_some.ensures ∙ rest_there κ.source c.args.formals.rest r f.rest)
    (λ j. w κ (bind (names_of (and_rest ws r)) v) (body ds) j (body_in a.source κ.source c.in-Some.body (body ds) i.source inner.1) right.1)))
    c.body.ensures.core
