-- Literals: which constant a number in a list of literals stands for, and which value and object it is in a
-- run (R4RS 4.1.2).
use Rattle.std.specs.Prelude.{ℕ, suc, ◌+◌, ◌≡◌, if◌then◌else◌, nat_eq, List, [], ◌∷◌, ◌++◌, length, map, slice_get, Option, Some, None, Bool, false}
use Rattle.std.specs.Str.{bytes_eq}
use Rattle.scheme_base.specs.declared.lit.Lit.{Lit}
use Rattle.scheme_base.specs.declared.lit.Lit.TheVariants as lit
use Rattle.scheme_base.specs.Constants.{Constant, Constant as constant, Constants, none, item}
use Rattle.scheme_base.specs.Values.{Value, Integer, Character, Nil, Unspecified, Undefined, Object, Content, Pair, String, Vector, Symbol, Blank, Thing, Holding, OfLiteral, NameOfLiteral, truth}

-- The values and objects of a run. A run begins with the objects of its literals: that of literal i has the
-- number i, and the name of literal symbol i comes after all literals. Symbols of one name are one object,
-- that of the first (R4RS 6.4); the numbers of the later ones and of their names are blank.

abbrev pub is_symbol : List ℕ → Lit → Bool
is_symbol name (lit.Symbol other) = bytes_eq name other
is_symbol name l = false

-- the number of the first symbol of this name, where these literals are numbered from i
abbrev pub first_symbol : List ℕ → List Lit → ℕ → ℕ
first_symbol name [] i = i
first_symbol name (l ∷ ls) i = if is_symbol name l then i else first_symbol name ls (suc i)

abbrev pub value_in : List Lit → (i : ℕ) → Option Lit → Value
value_in lits i None = Unspecified
value_in lits i (Some (lit.Integer z)) = Integer z
value_in lits i (Some (lit.Boolean b)) = truth b
value_in lits i (Some (lit.Char byte)) = Character byte
value_in lits i (Some lit.Nil) = Nil
value_in lits i (Some lit.Unspecified) = Unspecified
value_in lits i (Some lit.Undefined) = Undefined
value_in lits i (Some (lit.Symbol name)) = Object (first_symbol name lits 0)
value_in lits i (Some (lit.Text bytes)) = Object i
value_in lits i (Some (lit.Pair car cdr)) = Object i
value_in lits i (Some (lit.Vector ids)) = Object i

-- the value of literal i
abbrev pub literal : List Lit → (i : ℕ) → Value
literal lits i = value_in lits i (slice_get lits i)

-- whether no literal before i is a symbol of this name
abbrev pub is_first : List Lit → (i : ℕ) → (name : List ℕ) → Bool
is_first lits i name = nat_eq (first_symbol name lits 0) i

-- what the object of literal i holds
abbrev pub content_of : List Lit → (i : ℕ) → Lit → Content
content_of lits i (lit.Symbol name) = if is_first lits i name then Symbol (Object (length lits + i)) else Blank
content_of lits i (lit.Text bytes) = String bytes
content_of lits i (lit.Pair car cdr) = Pair (literal lits car) (literal lits cdr)
content_of lits i (lit.Vector ids) = Vector (map (literal lits) ids)
content_of lits i l = Blank

-- what the object holds that is the name of literal symbol i
abbrev pub name_content : List Lit → (i : ℕ) → Lit → Content
name_content lits i (lit.Symbol name) = if is_first lits i name then String name else Blank
name_content lits i l = Blank

-- the contents of these literals, which are numbered from i
abbrev pub contents_by : (ℕ → Lit → Content) → (i : ℕ) → List Lit → List Content
contents_by content i [] = []
contents_by content i (l ∷ ls) = content i l ∷ contents_by content (suc i) ls

-- the objects with which a run begins
abbrev pub literal_objects : {P : Type 0} → List Lit → List (Thing P)
literal_objects lits =
    map (λ c. Holding OfLiteral c) (contents_by (content_of lits) 0 lits)
    ++ map (λ c. Holding NameOfLiteral c) (contents_by (name_content lits) 0 lits)

-- Where a constant's literals stand

abbrev pub IsLit : List Lit → ℕ → Lit → Type 0
IsLit lits i l = slice_get lits i ≡ Some l

abbrev mutual
  -- the literals from number i up to j, j excluded, are this constant and its parts in preorder: each
  -- before its parts, a pair's car before its cdr, a vector's items in order. No part is shared.
  pub Laid : List Lit → ℕ → Constant → ℕ → Type 0
  Laid lits i (constant.Integer z) j = IsLit lits i (lit.Integer z) × (j ≡ suc i)
  Laid lits i (constant.Boolean b) j = IsLit lits i (lit.Boolean b) × (j ≡ suc i)
  Laid lits i (constant.Character byte) j = IsLit lits i (lit.Char byte) × (j ≡ suc i)
  Laid lits i constant.Nil j = IsLit lits i lit.Nil × (j ≡ suc i)
  Laid lits i constant.Unspecified j = IsLit lits i lit.Unspecified × (j ≡ suc i)
  Laid lits i constant.Undefined j = IsLit lits i lit.Undefined × (j ≡ suc i)
  Laid lits i (constant.Symbol name) j = IsLit lits i (lit.Symbol name) × (j ≡ suc i)
  Laid lits i (constant.String bytes) j = IsLit lits i (lit.Text bytes) × (j ≡ suc i)
  Laid lits i (constant.Pair a d) j =
      (cdr : ℕ) × IsLit lits i (lit.Pair (suc i) cdr) × Laid lits (suc i) a cdr × Laid lits cdr d j
  Laid lits i (constant.Vector cs) j =
      (ids : List ℕ) × IsLit lits i (lit.Vector ids) × LaidAll lits ids (suc i) cs j

  pub LaidAll : List Lit → List ℕ → ℕ → Constants → ℕ → Type 0
  LaidAll lits ids i none j = (ids ≡ []) × (j ≡ i)
  LaidAll lits ids i (item c cs) j =
      (others : List ℕ) × (next : ℕ) × (ids ≡ i ∷ others) × Laid lits i c next × LaidAll lits others next cs j
