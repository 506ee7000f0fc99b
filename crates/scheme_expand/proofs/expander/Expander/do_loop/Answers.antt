use Rattle.std.proofs.Common.{refl, sym, ◌∙◌}
use Rattle.datum_form.specs.Data.Items.{item}
use Rattle.scheme_expand.specs.Faults.{least, in_exp}
use Rattle.scheme_expand.specs.Grammar.{do_form, step_list, step_words}
use Rattle.scheme_expand.proofs.Adding.{due}
use Rattle.scheme_expand.proofs.Bodies.{wrong_due}
use Rattle.scheme_expand.proofs.DoParts.{do_is, do_not, do_twice, do_good}
use Rattle.scheme_expand.proofs.Due.{on_ok}
use Rattle.scheme_expand.proofs.LetTurns.{wrong_form}
use Rattle.scheme_expand.proofs.LoopTurns.{do_turns}
use Rattle.scheme_expand.proofs.Parts.{read_at, read_same}
use Rattle.scheme_expand.proofs.expander.Expander.do_loop.Goals as goal

pub returns-in_default-clause-fault : goal.returns-in_default-clause-fault
returns-in_default-clause-fault c =
    let a = c.args.self.now in
    let p = c.args.pos in
    on_ok c.broken.result
    (λ w d ds h. wrong_due a c.broken.new.self p 9 (do_form p ds) (do_not a.source p d ds (c.in_default.ensures (item d ds) h.stand)) w)
    c.broken.ensures

pub returns-then-branch-clause-fault : goal.returns-then-branch-clause-fault
returns-then-branch-clause-fault c =
    let a = c.args.self.now in
    let p = c.args.pos in
    on_ok c.broken-then-branch.result
    (λ w d ds h.
    let i = do_is a.source c.in-Some.parts p d ds h.named (c.in-Some.ensures (item d ds) h.stand) in
    let t = c.in_ok-turns.ensures i.steps i.read_steps i.shape in
    wrong_due a c.broken-then-branch.new.self p 12 (do_form p ds)
    (do_twice a.source c.in-Some.parts p ds i (sym (c.in_ok-twice.ensures (step_words (step_list i.steps)) (read_at a.source _ _ _ c.deref.ensures.value t.names)) ∙ c.if-branch.true)) w)
    c.broken-then-branch.ensures

pub returns-clause-fault : goal.returns-clause-fault
returns-clause-fault c =
    let a = c.args.self.now in
    let p = c.args.pos in
    on_ok c.repeat.result
    (λ w d ds h.
    let i = do_is a.source c.in-Some.parts p d ds h.named (c.in-Some.ensures (item d ds) h.stand) in
    let t = c.in_ok-turns.ensures i.steps i.read_steps i.shape in
    due a c.repeat.new.self _ (least (in_exp (do_form p ds)))
    (do_good a.source c.in-Some.parts p ds i (sym (c.in_ok-twice.ensures (step_words (step_list i.steps)) (read_at a.source _ _ _ c.deref.ensures.value t.names)) ∙ c.if-branch.false))
    (w (step_list i.steps) i.test i.results i.commands t i.read_test i.read_results i.read_commands))
    c.repeat.ensures.fault

pub returns-in_default-clause-core : goal.returns-in_default-clause-core
returns-in_default-clause-core c =
    let a = c.args.self.now in
    let p = c.args.pos in
    let ids = c.args.items.now in
    on_ok c.broken.result
    (λ w κ v d ds i h r.
    let read = read_same κ.source a.source ids ids (item d ds) (item d ds) (sym i.source) refl refl h in
    absurd (wrong_form p 9 (do_form p ds) (do_not a.source p d ds (c.in_default.ensures (item d ds) read.stand)) r))
    c.broken.ensures

pub returns-then-branch-clause-core : goal.returns-then-branch-clause-core
returns-then-branch-clause-core c =
    let a = c.args.self.now in
    let p = c.args.pos in
    let ids = c.args.items.now in
    on_ok c.broken-then-branch.result
    (λ w κ v d ds i h r.
    let read = read_same κ.source a.source ids ids (item d ds) (item d ds) (sym i.source) refl refl h in
    let j = do_is a.source c.in-Some.parts p d ds read.named (c.in-Some.ensures (item d ds) read.stand) in
    let t = c.in_ok-turns.ensures j.steps j.read_steps j.shape in
    absurd
    (wrong_form p 12 (do_form p ds)
    (do_twice a.source c.in-Some.parts p ds j (sym (c.in_ok-twice.ensures (step_words (step_list j.steps)) (read_at a.source _ _ _ c.deref.ensures.value t.names)) ∙ c.if-branch.true)) r))
    c.broken-then-branch.ensures

pub returns-clause-core : goal.returns-clause-core
returns-clause-core c =
    let a = c.args.self.now in
    let p = c.args.pos in
    let ids = c.args.items.now in
    on_ok c.repeat.result
    (λ w κ v d ds i h r.
    let read = read_same κ.source a.source ids ids (item d ds) (item d ds) (sym i.source) refl refl h in
    let j = do_is a.source c.in-Some.parts p d ds read.named (c.in-Some.ensures (item d ds) read.stand) in
    let t = c.in_ok-turns.ensures j.steps j.read_steps j.shape in
    do_turns κ a c.repeat.new.self c.in-Some.parts p c.in_ok-turns.turns ds v i j t
    (sym (c.in_ok-twice.ensures (step_words (step_list j.steps)) (read_at a.source _ _ _ c.deref.ensures.value t.names)) ∙ c.if-branch.false) r
    (λ ss td rs cs k l m n. w κ v ss td rs cs i k l m n))
    c.repeat.ensures.core
