use Rattle.std.proofs.Common.{◌∷◌, [], None, refl, sym, ap, ◌∙◌}
use Rattle.scheme_expand.specs.Faults.{fault, least, in_word}
use Rattle.scheme_expand.specs.Waiting.{named_datum}
use Rattle.scheme_expand.proofs.Adding.{due, nothing}
use Rattle.scheme_expand.proofs.Coming.{puts_nothing}
use Rattle.scheme_expand.proofs.Expanding.{word_spelled}
use Rattle.scheme_expand.proofs.Named.{keyword_fault, no_keyword_fault}
use Rattle.scheme_expand.proofs.expander.Expander.name.Goals as goal

pub returns-in-Some-keyword-clause-fault : goal.returns-in-Some-keyword-clause-fault
returns-in-Some-keyword-clause-fault c = λ w h.
    let e = sym (c.keyword.ensures (named_datum w) h) ∙ c.in-Some-keyword.is in
    due c.args.self.now c.note.new.self (least (fault c.pos-pos.result 1 ∷ [])) (least (in_word w))
    (ap (λ q. least (fault q 1 ∷ [])) (c.pos-pos.ensures (named_datum w) h)
    ∙ ap least (sym (keyword_fault w.place w.name _ e)))
    c.note.ensures.fault

pub returns-in-None-clause-fault : goal.returns-in-None-clause-fault
returns-in-None-clause-fault c = λ w h.
    let e = sym (c.keyword.ensures (named_datum w) h) ∙ c.in-None.is in
    due c.args.self.now c.args.self.now None (least (in_word w)) (ap least (sym (no_keyword_fault w.place w.name e)))
    (nothing c.args.self.now)

pub returns-in-Some-keyword-clause-core : goal.returns-in-Some-keyword-clause-core
returns-in-Some-keyword-clause-core c = (
  c.note.ensures.core,
  λ κ w f h e. word_spelled κ c.args.self.now.source c.args.id _ _ w f h e c.word.ensures c.in-Some.is,
)

pub returns-in-None-clause-core : goal.returns-in-None-clause-core
returns-in-None-clause-core c = (
  puts_nothing c.args.self.now c.args.self.now (record { source = refl; library = refl; changed = refl; maker = refl }) refl,
  λ κ w f h e. word_spelled κ c.args.self.now.source c.args.id _ _ w f h e c.word.ensures c.in-Some.is,
)
