-- The parts of an expression in a table, and the variables that it binds.
use Rattle.std.specs.Prelude.{ℕ, List, [], ◌∷◌, ◌++◌}
use Rattle.core_form.specs.declared.program.What.{What}
use Rattle.core_form.specs.declared.program.What.TheVariants as form
use Rattle.draft_form.specs.declared.draft.Variable.{Variable}

-- the numbers of the parts, in the order of the text
abbrev pub ids_in : What Variable → List ℕ
ids_in (form.Const k) = []
ids_in (form.Ref v) = []
ids_in (form.Lambda vs r body) = body ∷ []
ids_in (form.If a b c) = a ∷ b ∷ c ∷ []
ids_in (form.Set v value) = value ∷ []
ids_in (form.Call operator operands) = operator ∷ operands
ids_in (form.Prim o operands) = operands
ids_in (form.Seq items) = items
ids_in (form.Fix vs lambdas body) = lambdas ++ body ∷ []
ids_in (form.Define v value) = value ∷ []

-- the variables that are bound, but for a rest
abbrev pub bound_in : What Variable → List Variable
bound_in (form.Lambda vs r body) = vs
bound_in (form.Fix vs lambdas body) = vs
bound_in what = []
