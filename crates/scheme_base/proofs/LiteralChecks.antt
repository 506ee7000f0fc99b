-- Literals at known values: the objects with which a run begins, and which constants may stand in a program.
use Rattle.std.proofs.Common.{◌≡◌, ℕ, List, [], ◌∷◌, refl}
use Rattle.std.specs.Prelude.{pos, negsuc, true, false}
use Rattle.scheme_base.specs.declared.lit.Lit.{Lit}
use Rattle.scheme_base.specs.declared.lit.Lit.TheVariants as lit
use Rattle.scheme_base.specs.Constants.{Constant, Constant as constant, none, item, IsPart, IsConstant}
use Rattle.scheme_base.specs.Literals.{literal, literal_objects, Laid}
use Rattle.scheme_base.specs.Values.{Integer, Character, False, True, Nil, Unspecified, Undefined, Object, Holding, OfLiteral, NameOfLiteral, Pair, String, Vector, Symbol, Blank}

-- (a "b" . a) and #(3): the first symbol of the name stands for both, and the later one's numbers are blank
abbrev lits : List Lit
lits =
    lit.Pair 1 2 ∷ lit.Symbol (97 ∷ []) ∷ lit.Pair 3 4 ∷ lit.Text (98 ∷ []) ∷ lit.Symbol (97 ∷ [])
    ∷ lit.Vector (6 ∷ []) ∷ lit.Integer (pos 3) ∷ []

values :
    literal lits 0 ∷ literal lits 1 ∷ literal lits 3 ∷ literal lits 4 ∷ literal lits 5 ∷ literal lits 6 ∷ []
    ≡ Object 0 ∷ Object 1 ∷ Object 3 ∷ Object 1 ∷ Object 5 ∷ Integer (pos 3) ∷ []
values = refl

abbrev atoms : List Lit
atoms = lit.Boolean true ∷ lit.Boolean false ∷ lit.Char 120 ∷ lit.Nil ∷ lit.Unspecified ∷ lit.Undefined ∷ []

atom_values :
    literal atoms 0 ∷ literal atoms 1 ∷ literal atoms 2 ∷ literal atoms 3 ∷ literal atoms 4 ∷ literal atoms 5 ∷ []
    ≡ True ∷ False ∷ Character 120 ∷ Nil ∷ Unspecified ∷ Undefined ∷ []
atom_values = refl

objects :
    literal_objects {P = ℕ} lits
    ≡ Holding OfLiteral (Pair (Object 1) (Object 2))
    ∷ Holding OfLiteral (Symbol (Object 8))
    ∷ Holding OfLiteral (Pair (Object 3) (Object 1))
    ∷ Holding OfLiteral (String (98 ∷ []))
    ∷ Holding OfLiteral Blank
    ∷ Holding OfLiteral (Vector (Integer (pos 3) ∷ []))
    ∷ Holding OfLiteral Blank
    ∷ Holding NameOfLiteral Blank
    ∷ Holding NameOfLiteral (String (97 ∷ []))
    ∷ Holding NameOfLiteral Blank
    ∷ Holding NameOfLiteral Blank
    ∷ Holding NameOfLiteral Blank
    ∷ Holding NameOfLiteral Blank
    ∷ Holding NameOfLiteral Blank
    ∷ []
objects = refl

abbrev list : Constant
list =
    constant.Pair (constant.Symbol (97 ∷ []))
    (constant.Pair (constant.String (98 ∷ [])) (constant.Symbol (97 ∷ [])))

laid : Laid lits 0 list 5
laid = (2, refl, (refl, refl), (4, refl, (refl, refl), (refl, refl)))

vector_laid : Laid lits 5 (constant.Vector (item (constant.Integer (pos 3)) none)) 7
vector_laid = (6 ∷ [], refl, ([], 7, refl, (refl, refl), (refl, refl)))

-- parts share no literal
not_shared : Laid (lit.Pair 1 1 ∷ lit.Nil ∷ []) 0 (constant.Pair constant.Nil constant.Nil) 2 → ⊥
not_shared (cdr, is, car, rest) = cc

-- Constants

greatest : IsPart (constant.Integer (pos 2305843009213693951))
greatest = refl

past_greatest : IsPart (constant.Integer (pos 2305843009213693952)) → ⊥
past_greatest h = cc

least : IsPart (constant.Integer (negsuc 2305843009213693951))
least = refl

below_least : IsPart (constant.Integer (negsuc 2305843009213693952)) → ⊥
below_least h = cc

last_byte : IsPart (constant.Character 255) × IsPart (constant.String (0 ∷ 255 ∷ [])) × IsPart (constant.Symbol (255 ∷ []))
last_byte = (refl, refl, refl)

no_character : IsPart (constant.Character 256) → ⊥
no_character h = cc

no_string : IsPart (constant.String (97 ∷ 256 ∷ [])) → ⊥
no_string h = cc

no_name : IsPart (constant.Symbol (256 ∷ [])) → ⊥
no_name h = cc

-- the undefined value stands alone, and in nothing
alone : IsConstant constant.Undefined
alone = tt

no_part : IsConstant (constant.Pair constant.Nil constant.Undefined) → ⊥
no_part h = h.1

no_item : IsConstant (constant.Vector (item constant.Undefined none)) → ⊥
no_item h = h.0
