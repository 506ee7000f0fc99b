use Rattle.std.proofs.Common.{rules, ap, ◌∙◌, ◌∷◌, []}
use Rattle.routine_rows.proofs.Loading.{may_be_laid}
use Rattle.routine_rows.proofs.image.parts_of.Goals as goal

pub returns-in-Ok : goal.returns-in-Ok
returns-in-Ok c =
    may_be_laid c.in_ok-code.code c.from_vec.result
    (c.from_vec.ensures ∙ c.in-Ok.ensures.items ∙ ap (λ r. r ∷ c.in_ok-code.code ∷ []) c.in_ok-routines.ensures.text)
    c.in_ok-routines.ensures.sound (search rules)
