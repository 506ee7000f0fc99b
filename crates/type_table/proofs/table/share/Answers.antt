use Rattle.std.proofs.Common.{ℕ, List, [], ◌∷◌, ◌++◌, subst, sym}
use Rattle.atomic_table.specs.Table.{opening}
use Rattle.flow_form.specs.declared.constraints.Constraints.{Constraints}
use Rattle.type_table.specs.SharedWords.{IsRuled, first_view}
use Rattle.type_table.proofs.StepsAreMoves.{opens}
use Rattle.type_table.proofs.table.share.Goals as goal

pub of_words-requires : goal.of_words-requires
of_words-requires c =
    let Ruled : Constraints → List ℕ → List ℕ → Type 0 = λ of base words. IsRuled of base (opening words [] (first_view of base)) in
    let Words : List ℕ → Type 0 = λ ws. Ruled c.of.result.value c.of-2.result.value ws in
    let Base : List ℕ → Type 0 = λ base. Ruled c.of.result.value base (c.args.base.now ++ 0 ∷ []) in
    let Of : Constraints → Type 0 = λ of. Ruled of c.args.base.now (c.args.base.now ++ 0 ∷ []) in
    subst Words (sym c.requires.words)
    (subst Base (sym c.of-2.ensures) (subst Of (sym c.of.ensures) (opens c.args.c.now c.args.base.now c.requires.size)))
