-- How the atoms and rows of literals are numbered.
--
-- Each quoted object, with all its parts, has one atom for its pairs, one for its vectors and one for its strings,
-- as far as it has such parts, in this order; its pairs have a row for the cars and one for the cdrs, its vectors
-- one for the elements. A quoted object is a literal that is no part of another one, and then its parts.
use Rattle.std.specs.Prelude.{ℕ, ◌+◌, ◌-◌, ◌||◌, List, [], ◌∷◌, ◌++◌, length, Bool, true, false, nat_eq, if◌then◌else◌}
use Rattle.scheme_base.specs.declared.lit.Lit.{Lit}
use Rattle.scheme_base.specs.declared.lit.Lit.TheVariants as lit
use Rattle.flow_constraints.specs.declared.flow.Kind.{Kind}
use Rattle.flow_constraints.specs.declared.flow.Kind.TheVariants.{Pair, Vector, Text}
use Rattle.flow_constraints.specs.declared.layout.Quoted.{Quoted}
use Rattle.flow_constraints.specs.declared.layout.Shape.{Shape}

-- how many parts a literal has
abbrev pub parts : Lit → ℕ
parts (lit.Pair car cdr) = 2
parts (lit.Vector items) = length items
parts l = 0

-- how many parts are to come once a literal is passed by that was one of so many
abbrev pub coming_past : (coming : ℕ) → Lit → ℕ
coming_past n l = (n - 1) + parts l

abbrev pub is_pair : Lit → Bool
is_pair (lit.Pair car cdr) = true
is_pair l = false

abbrev pub is_vector : Lit → Bool
is_vector (lit.Vector items) = true
is_vector l = false

abbrev pub is_text : Lit → Bool
is_text (lit.Text bytes) = true
is_text l = false

abbrev pub with_one : Lit → Shape → Shape
with_one l s =
    record { pairs = s.pairs || is_pair l; vectors = s.vectors || is_vector l; texts = s.texts || is_text l }

-- a shape, with so many literals that are to come
abbrev pub with_coming : (coming : ℕ) → Shape → List Lit → Shape
with_coming n s [] = s
with_coming n s (l ∷ ls) = if nat_eq n 0 then s else with_coming (coming_past n l) (with_one l s) ls

-- the shape of the quoted object that begins with the first of these literals
abbrev pub shape_of : List Lit → Shape
shape_of ls = with_coming 1 (record { pairs = false; vectors = false; texts = false }) ls

-- a new atom with so many rows
abbrev pub added : Kind → (rows : ℕ) → Quoted → Quoted
added k n s = record s { rows = s.rows + n; kinds = s.kinds ++ k ∷ [] }

abbrev pub pairs_added : Quoted → Quoted
pairs_added s = record (added (Pair s.rows true) 2 s) { pairs = length s.kinds }

abbrev pub vectors_added : Quoted → Quoted
vectors_added s = record (added (Vector s.rows true) 1 s) { vectors = length s.kinds }

abbrev pub texts_added : Quoted → Quoted
texts_added s = record (added (Text true) 0 s) { texts = length s.kinds }

abbrev pub when : Bool → (Quoted → Quoted) → Quoted → Quoted
when true change s = change s
when false change s = s

abbrev pub object_begun : Shape → Quoted → Quoted
object_begun shape s =
    record (when shape.texts texts_added (when shape.vectors vectors_added (when shape.pairs pairs_added s))) { coming = 1 }

-- the atom of a literal of the object that is begun; no step names the undefined value
abbrev pub literal_atom : Quoted → Lit → ℕ
literal_atom s lit.Undefined = 0
literal_atom s (lit.Integer i) = 1
literal_atom s (lit.Char c) = 2
literal_atom s (lit.Boolean false) = 3
literal_atom s (lit.Boolean true) = 4
literal_atom s lit.Nil = 5
literal_atom s lit.Unspecified = 6
literal_atom s (lit.Symbol name) = 8
literal_atom s (lit.Pair car cdr) = s.pairs
literal_atom s (lit.Vector items) = s.vectors
literal_atom s (lit.Text bytes) = s.texts

abbrev pub literal_put : Lit → Quoted → Quoted
literal_put l s = record s { lits = s.lits ++ literal_atom s l ∷ []; coming = coming_past s.coming l }

-- a literal, the first of these
abbrev pub quoted : Lit → List Lit → Quoted → Quoted
quoted l ls s = literal_put l (when (nat_eq s.coming 0) (object_begun (shape_of ls)) s)

abbrev pub quoted_all : List Lit → Quoted → Quoted
quoted_all [] s = s
quoted_all (l ∷ ls) s = quoted_all ls (quoted l (l ∷ ls) s)

-- before any literal
abbrev pub unquoted : (rows : ℕ) → List Kind → Quoted
unquoted n ks =
    record { rows = n; kinds = ks; lits = []; coming = 0; pairs = 0; vectors = 0; texts = 0 }
