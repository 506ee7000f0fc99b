-- The text of a core, and the data of a text, as they are computed in examples.
use Rattle.std.specs.Prelude.{ℕ, zero, suc, List, [], ◌∷◌, ◌++◌, slice_get, Option, Some, None, if◌then◌else◌, codes}
use Rattle.std.specs.Fmt.{signed_decimal}
use Rattle.scheme_base.specs.declared.lit.Lit.{Lit}
use Rattle.scheme_base.specs.declared.lit.Lit.TheVariants as lit
use Rattle.scheme_base.specs.Operands.{name_of}
use Rattle.datum_form.specs.Data.{Items, data_of}
use Rattle.datum_form.specs.Text.{lexed}
use Rattle.datum_form.specs.Syntax.{Syntax}
use Rattle.datum_reader.specs.Machine.{Run, start, run}
use Rattle.datum_reader.specs.Machine.Run.{On}
use Rattle.core_form.specs.declared.program.Var.{Var}
use Rattle.scheme_base.specs.AtomText.{boolean_text, character_text, string_text}
use Rattle.core_form.specs.Trees.{Tree, Trees, Const, Ref, Lambda, If, Set, Call, Prim, Seq, Fix, Define, none, item}
use Rattle.scheme_expand.specs.Grammar.{forms}
use Rattle.scheme_expand.specs.Programs.{Library, program_drafts, trees_of, literals_of}

abbrev spaced : List (List ℕ) → List ℕ
spaced [] = []
spaced (x ∷ xs) = 32 ∷ (x ++ spaced xs)

abbrev joined : List (List ℕ) → List ℕ
joined [] = []
joined (x ∷ xs) = x ++ spaced xs

abbrev var_text : Var → List ℕ
var_text x = if x.lib then codes "lib:" ++ x.name else x.name

abbrev in_parens : List (List ℕ) → List ℕ
in_parens xs = 40 ∷ (joined xs ++ codes ")")

abbrev var_texts : List Var → List (List ℕ)
var_texts [] = []
var_texts (x ∷ xs) = var_text x ∷ var_texts xs

abbrev rest_text : Option Var → List ℕ
rest_text None = codes "#f"
rest_text (Some x) = var_text x

-- the data of a text without faults
abbrev trees_in : Run → List Syntax
trees_in (On n fs ss) = ss
trees_in run = []

abbrev pub data_in : List ℕ → Items
data_in text = data_of (trees_in (run (start 1000) (lexed text).tokens))

-- the text of a literal, where literals have at most so many levels
abbrev mutual
  lit_text : ℕ → List Lit → Option Lit → List ℕ
  lit_text n lits None = []
  lit_text n lits (Some (lit.Integer z)) = signed_decimal z
  lit_text n lits (Some (lit.Boolean b)) = boolean_text b
  lit_text n lits (Some (lit.Char byte)) = character_text byte
  lit_text n lits (Some lit.Nil) = codes "()"
  lit_text n lits (Some lit.Unspecified) = codes "#<unspecified>"
  lit_text n lits (Some lit.Undefined) = codes "#<undefined>"
  lit_text n lits (Some (lit.Symbol x)) = x
  lit_text n lits (Some (lit.Text bytes)) = string_text bytes
  lit_text zero lits (Some l) = []
  lit_text (suc n) lits (Some (lit.Pair a d)) = 40 ∷ (lit_text n lits (slice_get lits a) ++ lit_tail n lits (slice_get lits d))
  lit_text (suc n) lits (Some (lit.Vector ids)) = codes "#(" ++ (joined (lit_texts n lits ids) ++ codes ")")

  lit_tail : ℕ → List Lit → Option Lit → List ℕ
  lit_tail zero lits l = []
  lit_tail (suc n) lits (Some lit.Nil) = codes ")"
  lit_tail (suc n) lits (Some (lit.Pair a d)) = 32 ∷ (lit_text n lits (slice_get lits a) ++ lit_tail n lits (slice_get lits d))
  lit_tail (suc n) lits l = codes " . " ++ (lit_text n lits l ++ codes ")")

  lit_texts : ℕ → List Lit → List ℕ → List (List ℕ)
  lit_texts n lits [] = []
  lit_texts zero lits (i ∷ ids) = []
  lit_texts (suc n) lits (i ∷ ids) = lit_text n lits (slice_get lits i) ∷ lit_texts n lits ids

abbrev mutual
  tree_text : List Lit → Tree Var → List ℕ
  tree_text lits (Const p i) = in_parens (codes "const" ∷ lit_text 100 lits (slice_get lits i) ∷ [])
  tree_text lits (Ref p x) = in_parens (codes "ref" ∷ var_text x ∷ [])
  tree_text lits (Lambda p xs r e) =
      in_parens (codes "lambda" ∷ in_parens (var_texts xs) ∷ rest_text r ∷ tree_text lits e ∷ [])
  tree_text lits (If p d e f) =
      in_parens (codes "if" ∷ tree_text lits d ∷ tree_text lits e ∷ tree_text lits f ∷ [])
  tree_text lits (Set p x e) = in_parens (codes "set" ∷ var_text x ∷ tree_text lits e ∷ [])
  tree_text lits (Call p e es) = in_parens (codes "call" ∷ tree_text lits e ∷ in_parens (tree_texts lits es) ∷ [])
  tree_text lits (Prim p o es) = in_parens (codes "prim" ∷ name_of o ∷ in_parens (tree_texts lits es) ∷ [])
  tree_text lits (Seq p es) = in_parens (codes "seq" ∷ in_parens (tree_texts lits es) ∷ [])
  tree_text lits (Fix p xs es e) =
      in_parens (codes "fix" ∷ in_parens (var_texts xs) ∷ in_parens (tree_texts lits es) ∷ tree_text lits e ∷ [])
  tree_text lits (Define p x e) = in_parens (codes "define" ∷ var_text x ∷ tree_text lits e ∷ [])

  tree_texts : List Lit → Trees Var → List (List ℕ)
  tree_texts lits none = []
  tree_texts lits (item e es) = tree_text lits e ∷ tree_texts lits es

abbrev lines : List (List ℕ) → List ℕ
lines [] = []
lines (x ∷ xs) = x ++ (10 ∷ lines xs)

-- the text of a program's core
abbrev pub text_of : Library → Items → List ℕ
text_of library ds =
    let es = program_drafts library (forms ds) in
    lines (tree_texts (literals_of es) (trees_of es))
