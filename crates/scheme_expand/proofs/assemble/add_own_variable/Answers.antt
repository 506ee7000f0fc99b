use Rattle.draft_form.specs.Drawn.{word_name}
use Rattle.draft_form.specs.Numbering.{symbols_of}
use Rattle.draft_form.proofs.LiteralsAdded.{on_ok}
use Rattle.draft_form.proofs.Ready.{one_taken}
use Rattle.scheme_expand.proofs.OwnVariable.{own_variable}
use Rattle.scheme_expand.proofs.assemble.add_own_variable.Goals as goal

pub returns-clause-ready : goal.returns-clause-ready
returns-clause-ready c =
    on_ok c.add_form.result
    (λ last h.
    let r =
    one_taken c.add.new.self c.take.new.self c.in_ok-value.value c.in_ok-value.ensures (c.in_ok-add.ensures.ready h tt) in
    last (c.in_ok-add-2.ensures.ready r.0 r.1))
    c.add_form.ensures.ready

pub returns-clause-numbered : goal.returns-clause-numbered
returns-clause-numbered c =
    on_ok c.add_form.result
    (λ adds before h.
    own_variable (symbols_of c.args.text) (word_name c.args.text.words.now c.args.word) c.in_ok-value.value c.in_ok-library.library
    c.in_ok-var.var before c.args.levels.now c.args.growing.now c.add.new.self c.take.new.self c.add-2.new.self c.add_form.new.self
    c.in_ok-library.ensures c.in_ok-var.ensures c.in_ok-add.ensures.added c.in_ok-value.ensures c.in_ok-add-2.ensures.added adds h)
    c.add_form.ensures.added
