-- Expressions of a core that is being made: which of them stand for a tree that has a text.
use Rattle.std.specs.Prelude.{ℕ, List, [], ◌∷◌}
use Rattle.scheme_base.specs.declared.lit.Lit.{Lit}
use Rattle.scheme_base.specs.Constants.{Constant}
use Rattle.scheme_base.specs.Literals.{Laid}
use Rattle.core_form.specs.declared.program.Var.{Var}
use Rattle.core_form.specs.declared.program.Node.{Node}
use Rattle.core_form.specs.declared.program.What.{What}
use Rattle.core_form.specs.declared.program.What.TheVariants.{Const, Ref, Lambda, If, Set, Call, Prim, Seq, Fix, Define}
use Rattle.core_form.specs.Trees.{Tree, Stands}
use Rattle.core_form.specs.Text.{IsText}

-- the expression of this number stands for a tree that has a text
abbrev pub IsWritten : List (Node Var) → List Lit → ℕ → Type 0
IsWritten exprs lits id = (e : Tree Var) × (t : List ℕ) × Stands exprs id e × IsText lits e t

abbrev pub AreWritten : List (Node Var) → List Lit → List ℕ → Type 0
AreWritten exprs lits [] = Unit {0}
AreWritten exprs lits (id ∷ ids) = IsWritten exprs lits id × AreWritten exprs lits ids

-- literal i is the first of those of a constant
abbrev pub IsLaid : List Lit → ℕ → Type 0
IsLaid lits i = (c : Constant) × (j : ℕ) × Laid lits i c j

-- the parts of an expression that is to be added are written
abbrev pub HasParts : List (Node Var) → List Lit → What Var → Type 0
HasParts exprs lits (Const lit) = IsLaid lits lit
HasParts exprs lits (Ref x) = Unit {0}
HasParts exprs lits (Lambda params rest body) = IsWritten exprs lits body
HasParts exprs lits (If a b c) =
    IsWritten exprs lits a × IsWritten exprs lits b × IsWritten exprs lits c
HasParts exprs lits (Set x value) = IsWritten exprs lits value
HasParts exprs lits (Call operator operands) = IsWritten exprs lits operator × AreWritten exprs lits operands
HasParts exprs lits (Prim op operands) = AreWritten exprs lits operands
HasParts exprs lits (Seq items) = AreWritten exprs lits items
HasParts exprs lits (Fix vars lambdas body) = AreWritten exprs lits lambdas × IsWritten exprs lits body
HasParts exprs lits (Define x value) = IsWritten exprs lits value
