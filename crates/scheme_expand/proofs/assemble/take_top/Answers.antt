use Rattle.std.proofs.Common.{[], ◌∷◌, ◌++◌, sym, subst}
use Rattle.std.specs.Prelude.{map}
use Rattle.draft_form.specs.declared.draft.Variable.{Variable}
use Rattle.draft_form.specs.Drawn.{word_name}
use Rattle.draft_form.proofs.LiteralsAdded.{on_ok}
use Rattle.scheme_expand.specs.ByWord.{top_words, AreTaken}
use Rattle.scheme_expand.proofs.VariablesInOrder.{other_taken}
use Rattle.scheme_expand.proofs.assemble.take_top.Goals as goal

pub returns-in-Top : goal.returns-in-Top
returns-in-Top c =
    on_ok c.take.result
    (λ takes names listed text one taken.
    let P : Variable → Type 0 = λ v. AreTaken names listed (text ++ map (word_name names) (top_words (v ∷ []))) c.take.new.self in
    subst P (sym c.in-Top.is) (takes names listed text one taken))
    c.take.ensures

pub returns-in_default : goal.returns-in_default
returns-in_default c = other_taken c.args.variable c.args.firsts.now c.in_default.not-Top
