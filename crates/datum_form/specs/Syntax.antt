-- The grammar of data, R4RS 7.1.2, over tokens: its trees, and the tokens that a tree is written with.
--
-- A tree keeps the place of each of its tokens. Lists, vectors and marks count as levels of nesting,
-- each as it stands in the text.
use Rattle.std.specs.Prelude.{ℕ, zero, suc, ◌≡◌, List, [], ◌∷◌, ◌++◌}
use Rattle.scheme_base.specs.declared.pos.Pos.{Pos}
use Rattle.datum_form.specs.declared.token.Atom.{Atom}
use Rattle.datum_form.specs.declared.token.Mark.{Mark}
use Rattle.datum_form.specs.declared.token.Token.{Token}
use Rattle.datum_form.specs.declared.token.Token.TheVariants.{Open, OpenVector, Close, Dot, Marking, Atomic}

mutual
  -- ⟨datum⟩
  pub data Syntax : Type 0 where
    Leaf : Pos → Atom → Syntax
    -- ⟨abbreviation⟩
    Marked : Pos → Mark → Syntax → Syntax
    -- a list without items, by the places of its parentheses
    Nil : Pos → Pos → Syntax
    -- a list with a first item, the rest, and the place of its closing parenthesis
    Listed : Pos → Syntax → Rest → Pos → Syntax
    Vector : Pos → Elements → Pos → Syntax

  -- what stands after an item of a list
  pub data Rest : Type 0 where
    End : Rest
    More : Syntax → Rest → Rest
    -- a dot at its place, and the tail
    Tail : Pos → Syntax → Rest

  -- what stands in a vector
  pub data Elements : Type 0 where
    Last : Elements
    Further : Syntax → Elements → Elements

-- the tokens of a tree, and then others
abbrev mutual
  pub written : Syntax → List Token → List Token
  written (Leaf p a) ts = Atomic p a ∷ ts
  written (Marked p m s) ts = Marking p m ∷ written s ts
  written (Nil p q) ts = Open p ∷ Close q ∷ ts
  written (Listed p s r q) ts = Open p ∷ written s (written_rest r (Close q ∷ ts))
  written (Vector p e q) ts = OpenVector p ∷ written_elements e (Close q ∷ ts)

  pub written_rest : Rest → List Token → List Token
  written_rest End ts = ts
  written_rest (More s r) ts = written s (written_rest r ts)
  written_rest (Tail d s) ts = Dot d ∷ written s ts

  pub written_elements : Elements → List Token → List Token
  written_elements Last ts = ts
  written_elements (Further s e) ts = written s (written_elements e ts)

abbrev pub written_all : List Syntax → List Token → List Token
written_all [] ts = ts
written_all (s ∷ ss) ts = written s (written_all ss ts)

-- nested at most n deep
abbrev mutual
  pub Within : ℕ → Syntax → Type 0
  Within n (Leaf p a) = Unit {0}
  Within zero (Marked p m s) = ⊥
  Within (suc n) (Marked p m s) = Within n s
  Within zero (Nil p q) = ⊥
  Within (suc n) (Nil p q) = Unit {0}
  Within zero (Listed p s r q) = ⊥
  Within (suc n) (Listed p s r q) = Within n s × WithinRest n r
  Within zero (Vector p e q) = ⊥
  Within (suc n) (Vector p e q) = WithinElements n e

  pub WithinRest : ℕ → Rest → Type 0
  WithinRest n End = Unit {0}
  WithinRest n (More s r) = Within n s × WithinRest n r
  WithinRest n (Tail d s) = Within n s

  pub WithinElements : ℕ → Elements → Type 0
  WithinElements n Last = Unit {0}
  WithinElements n (Further s e) = Within n s × WithinElements n e

abbrev pub WithinAll : ℕ → List Syntax → Type 0
WithinAll n [] = Unit {0}
WithinAll n (s ∷ ss) = Within n s × WithinAll n ss

-- a list of tokens is a text: it is the tokens of these trees, nested at most n deep
pub record IsText (n : ℕ) (ts : List Token) (ss : List Syntax) : Type 0 where
  pub within : WithinAll n ss
  pub whole : ts ≡ written_all ss []

-- some text nested at most n deep begins with these tokens
pub record Begins (n : ℕ) (front : List Token) : Type 0 where
  pub more : List Token
  pub trees : List Syntax
  pub text : IsText n (front ++ more) trees

abbrev pub place_of : Token → Pos
place_of (Open p) = p
place_of (OpenVector p) = p
place_of (Close p) = p
place_of (Dot p) = p
place_of (Marking p m) = p
place_of (Atomic p a) = p
