use Rattle.std.proofs.Common.{◌++◌, ap, ◌∙◌}
use Rattle.std.specs.Prelude.{map}
use Rattle.draft_form.specs.Drafts.{parts}
use Rattle.draft_form.specs.Drawn.{word_name}
use Rattle.scheme_expand.specs.ByWord.{library_words, variables_at}
use Rattle.scheme_expand.specs.Programs.{numbers_of}
use Rattle.scheme_expand.proofs.VariablesInOrder.{libraries_are}
use Rattle.scheme_expand.proofs.assemble.uses_of.Goals as goal

pub returns-clause-exact : goal.returns-clause-exact
returns-clause-exact c = λ names nodes defined e index few drawn.
    let t = c.args.drafts.now in
    let listed = c.in_ok-preorder.ensures names nodes e drawn in
    let order = c.deref.ensures.value ∙ (listed.1 ∙ ap (λ before. before ++ listed.0) c.new-order.ensures.items) in
    let variables = c.deref-2.ensures.value ∙ (c.in_ok-variables.ensures ∙ ap (variables_at t.exprs.items) order) in
    let words =
    c.deref-3.ensures.value
    ∙ (c.in_ok-push_library_words.ensures
    ∙ (ap (λ before. before ++ library_words c.deref-2.result.now) c.new-words.ensures.items ∙ ap library_words variables)) in
    c.in_ok-ids.ensures.exact names defined index few
    ∙ (ap (λ ws. numbers_of defined (map (word_name names) ws)) words
    ∙ ap (numbers_of defined) (libraries_are names nodes t listed.0 (parts e) listed.2))
