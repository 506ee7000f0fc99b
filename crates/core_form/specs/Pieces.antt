-- Pieces of a core's text, in the order in which they wait to be written: the last one of a stack is next.
use Rattle.std.specs.Prelude.{ℕ, ◌*◌, ◌≤◌, ◌≡◌, List, [], ◌∷◌, ◌++◌, length, codes}
use Rattle.std.specs.Fmt.{signed_decimal}
use Rattle.scheme_base.specs.declared.lit.Lit.{Lit}
use Rattle.scheme_base.specs.declared.lit.Lit.TheVariants as lit
use Rattle.scheme_base.specs.AtomText.{boolean_text, character_text, string_text}
use Rattle.core_form.specs.declared.program.Var.{Var}
use Rattle.core_form.specs.declared.program.Program.{Program}
use Rattle.core_form.specs.declared.piece.Piece.{Piece}
use Rattle.core_form.specs.declared.piece.Piece.TheVariants.{Expr, Next, List as Listed, Rest, Literal, Tail, More, Close}
use Rattle.scheme_base.specs.Constants.{Constant, Constants}
use Rattle.scheme_base.specs.Literals.{Laid, LaidAll}
use Rattle.core_form.specs.Trees.{Tree, Trees, Stands, StandAll}
use Rattle.core_form.specs.Text.{IsText, IsListText, IsRestText, IsLines, IsLiteralText, tail_text, more_text}

abbrev pub ExprText : Program Var → ℕ → List ℕ → Type 0
ExprText core id t = (e : Tree Var) × Stands core.exprs id e × IsText core.lits e t

abbrev pub RestText : Program Var → List ℕ → List ℕ → Type 0
RestText core ids t = (es : Trees Var) × StandAll core.exprs ids es × IsRestText core.lits es t

-- the text of a literal that has no parts
abbrev pub plain_text : Lit → List ℕ
plain_text (lit.Integer z) = signed_decimal z
plain_text (lit.Boolean b) = boolean_text b
plain_text (lit.Char byte) = character_text byte
plain_text lit.Nil = codes "()"
plain_text lit.Unspecified = codes "#<unspecified>"
plain_text lit.Undefined = codes "#<undefined>"
plain_text (lit.Symbol name) = name
plain_text (lit.Text bytes) = string_text bytes
plain_text l = []

-- the text of a piece
abbrev pub PieceText : Program Var → Piece → List ℕ → Type 0
PieceText core (Expr id) t = ExprText core id t
PieceText core (Next id) t = (u : List ℕ) × ExprText core id u × (t ≡ 32 ∷ u)
PieceText core (Listed ids) t =
    (es : Trees Var) × (u : List ℕ) × StandAll core.exprs ids.now es × IsListText core.lits es u × (t ≡ 32 ∷ u)
PieceText core (Rest ids) t = RestText core ids.now t
PieceText core (Literal id) t = IsLiteralText core.lits id t
PieceText core (Tail id) t = (c : Constant) × (j : ℕ) × Laid core.lits id c j × (t ≡ tail_text c)
PieceText core (More ids) t =
    (i : ℕ) × (cs : Constants) × (j : ℕ) × LaidAll core.lits ids.now i cs j × (t ≡ more_text cs)
PieceText core Close t = t ≡ codes ")"

-- the text of a stack, before the text `rest`: the last piece comes first
abbrev pub StackText : Program Var → List Piece → (rest t : List ℕ) → Type 0
StackText core [] rest t = t ≡ rest
StackText core (piece ∷ above) rest t = (u : List ℕ) × PieceText core piece u × StackText core above (u ++ rest) t

-- Some text was written of a piece, and pieces were left for the rest of it. What is left for each byte is
-- bounded, so that writing ends.
pub record Writes (core : Program Var) (piece : Piece) (stack_before stack_after : List Piece) (before after : List ℕ) : Type 0 where
  pub written : List ℕ
  pub left : List Piece
  pub text : after ≡ before ++ written
  pub stack : stack_after ≡ stack_before ++ left
  pub few : length left ≤ 8 * length written
  pub whole :
      (t rest : List ℕ) → PieceText core piece t
      → (v : List ℕ) × StackText core left rest v × (t ++ rest ≡ written ++ v)

-- the text of forms, each in its line
abbrev pub LinesText : Program Var → List ℕ → List ℕ → Type 0
LinesText core ids t = (es : Trees Var) × StandAll core.exprs ids es × IsLines core.lits es t
