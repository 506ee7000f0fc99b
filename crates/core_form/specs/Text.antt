-- The text of a core.
--
-- A form is a line. An expression is in parentheses its variant's name in small letters and its parts, each
-- after one space; several parts of one kind stand in parentheses of their own. A literal is written as
-- R4RS writes data (6.10.3, `write`), always in full and on one line. Positions are not written.
use Rattle.std.specs.Prelude.{ℕ, ◌≡◌, List, [], ◌∷◌, ◌++◌, Option, Some, None, if◌then◌else◌, codes}
use Rattle.std.specs.Fmt.{signed_decimal}
use Rattle.scheme_base.specs.declared.lit.Lit.{Lit}
use Rattle.scheme_base.specs.AtomText.{boolean_text, character_text, string_text}
use Rattle.scheme_base.specs.Operands.{name_of}
use Rattle.scheme_base.specs.Constants.{Constant, Integer, Boolean, Character, Nil, Unspecified, Undefined, Symbol, String, Pair, Vector, Constants, none as no_constant, item as constant}
use Rattle.scheme_base.specs.Literals.{Laid}
use Rattle.core_form.specs.declared.program.Var.{Var}
use Rattle.core_form.specs.declared.program.Program.{Program}
use Rattle.core_form.specs.Trees.{Tree, Const, Ref, Lambda, If, Set, Call, Prim, Seq, Fix, Define, Trees, none, item, Holds}

-- Constants

abbrev pub atom_text : Constant → List ℕ
atom_text (Integer z) = signed_decimal z
atom_text (Boolean b) = boolean_text b
atom_text (Character byte) = character_text byte
atom_text Nil = codes "()"
atom_text Unspecified = codes "#<unspecified>"
atom_text Undefined = codes "#<undefined>"
atom_text (Symbol name) = name
atom_text (String bytes) = string_text bytes
atom_text c = []

abbrev pub dotted : List ℕ → List ℕ
dotted text = codes " . " ++ (text ++ codes ")")

abbrev mutual
  pub constant_text : Constant → List ℕ
  constant_text (Pair a d) = 40 ∷ constant_text a ++ tail_text d
  constant_text (Vector cs) = codes "#(" ++ items_text cs
  constant_text c = atom_text c

  -- what follows an item of a list, with the list's end
  pub tail_text : Constant → List ℕ
  tail_text Nil = codes ")"
  tail_text (Pair a d) = 32 ∷ constant_text a ++ tail_text d
  tail_text (Vector cs) = dotted (codes "#(" ++ items_text cs)
  tail_text c = dotted (atom_text c)

  -- the items of a vector, with its end
  pub items_text : Constants → List ℕ
  items_text no_constant = codes ")"
  items_text (constant c cs) = constant_text c ++ more_text cs

  -- the items of a vector after its first, with its end
  pub more_text : Constants → List ℕ
  more_text no_constant = codes ")"
  more_text (constant c cs) = 32 ∷ constant_text c ++ more_text cs

-- the text of literal i
abbrev pub IsLiteralText : List Lit → ℕ → List ℕ → Type 0
IsLiteralText lits i t = (c : Constant) × (j : ℕ) × Laid lits i c j × (t ≡ constant_text c)

-- Variables

abbrev pub var_text : Var → List ℕ
var_text x = (if x.lib then codes "lib:" else []) ++ x.name

abbrev pub more_vars : List Var → List ℕ
more_vars [] = codes ")"
more_vars (x ∷ xs) = 32 ∷ var_text x ++ more_vars xs

abbrev pub vars_text : List Var → List ℕ
vars_text [] = codes "()"
vars_text (x ∷ xs) = 40 ∷ var_text x ++ more_vars xs

-- a rest parameter, or #f
abbrev pub rest_text : Option Var → List ℕ
rest_text None = codes "#f"
rest_text (Some x) = var_text x

-- Expressions

abbrev mutual
  pub IsText : List Lit → Tree Var → List ℕ → Type 0
  IsText lits (Const p lit) t = (u : List ℕ) × IsLiteralText lits lit u × (t ≡ codes "(const " ++ (u ++ codes ")"))
  IsText lits (Ref p x) t = t ≡ codes "(ref " ++ (var_text x ++ codes ")")
  IsText lits (Lambda p xs rest e) t =
      (u : List ℕ) × IsText lits e u
      × (t ≡ codes "(lambda " ++ (vars_text xs ++ (32 ∷ rest_text rest ++ (32 ∷ u ++ codes ")"))))
  IsText lits (If p test this that) t =
      (u v w : List ℕ) × IsText lits test u × IsText lits this v × IsText lits that w
      × (t ≡ codes "(if " ++ (u ++ (32 ∷ v ++ (32 ∷ w ++ codes ")"))))
  IsText lits (Set p x e) t =
      (u : List ℕ) × IsText lits e u × (t ≡ codes "(set " ++ (var_text x ++ (32 ∷ u ++ codes ")")))
  IsText lits (Call p f es) t =
      (u v : List ℕ) × IsText lits f u × IsListText lits es v × (t ≡ codes "(call " ++ (u ++ (32 ∷ v ++ codes ")")))
  IsText lits (Prim p o es) t =
      (v : List ℕ) × IsListText lits es v × (t ≡ codes "(prim " ++ (name_of o ++ (32 ∷ v ++ codes ")")))
  IsText lits (Seq p es) t = (v : List ℕ) × IsListText lits es v × (t ≡ codes "(seq " ++ (v ++ codes ")"))
  IsText lits (Fix p xs ls e) t =
      (v u : List ℕ) × IsListText lits ls v × IsText lits e u
      × (t ≡ codes "(fix " ++ (vars_text xs ++ (32 ∷ v ++ (32 ∷ u ++ codes ")"))))
  IsText lits (Define p x e) t =
      (u : List ℕ) × IsText lits e u × (t ≡ codes "(define " ++ (var_text x ++ (32 ∷ u ++ codes ")")))

  -- expressions in parentheses
  pub IsListText : List Lit → Trees Var → List ℕ → Type 0
  IsListText lits none t = t ≡ codes "()"
  IsListText lits (item e es) t = (u v : List ℕ) × IsText lits e u × IsRestText lits es v × (t ≡ 40 ∷ u ++ v)

  -- those after the first, with the end
  pub IsRestText : List Lit → Trees Var → List ℕ → Type 0
  IsRestText lits none t = t ≡ codes ")"
  IsRestText lits (item e es) t = (u v : List ℕ) × IsText lits e u × IsRestText lits es v × (t ≡ 32 ∷ u ++ v)

-- the forms of a program, each in its line
abbrev pub IsLines : List Lit → Trees Var → List ℕ → Type 0
IsLines lits none t = t ≡ []
IsLines lits (item e es) t = (u v : List ℕ) × IsText lits e u × IsLines lits es v × (t ≡ u ++ 10 ∷ v)

-- the text that a core has
abbrev pub TextOf : Program Var → List ℕ → Type 0
TextOf core t = (forms : Trees Var) × Holds core forms × IsLines core.lits forms t

-- some text is a core's: its numbers name what is there, and nothing in it contains itself
abbrev pub HasText : Program Var → Type 0
HasText core = (t : List ℕ) × TextOf core t

-- a text is the only one that a core has
abbrev pub IsCoreText : Program Var → List ℕ → Type 0
IsCoreText core text = (t : List ℕ) → TextOf core t → text ≡ t
