use Rattle.std.proofs.Common.{[], ◌∷◌, ◌++◌, sym, ap, ◌∙◌, append-nil}
use Rattle.scheme_expand.specs.ByWord.{library_words}
use Rattle.scheme_expand.proofs.VariablesInOrder.{no_library}
use Rattle.scheme_expand.proofs.assemble.push_library_word.Goals as goal

pub returns-in_ok-push-in-Library : goal.returns-in_ok-push-in-Library
returns-in_ok-push-in-Library c =
    c.in_ok-push-in-Library.ensures.items ∙ ap (λ v. c.args.words.now.items ++ library_words (v ∷ [])) (sym c.in-Library.is)

pub returns-in_default : goal.returns-in_default
returns-in_default c =
    sym (append-nil c.args.words.now.items)
    ∙ ap (λ ws. c.args.words.now.items ++ ws) (sym (no_library c.args.variable c.in_default.not-Library))
