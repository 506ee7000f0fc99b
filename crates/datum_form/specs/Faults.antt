-- Why a list of tokens is no text, by whole texts: the first token after which no text goes on, or what is
-- still open at the end.
--
-- Texts are nested at most n deep. A token that fits no text at all is told from one that fits only texts
-- of deeper nesting.
use Rattle.std.specs.Prelude.{◌≡◌, ℕ, List, [], ◌∷◌, ◌++◌}
use Rattle.scheme_base.specs.declared.pos.Pos.{Pos}
use Rattle.datum_form.specs.declared.token.Token.{Token}
use Rattle.datum_form.specs.Syntax.{Syntax, written, written_all, Within, WithinAll, Begins, place_of}
use Rattle.datum_form.specs.declared.token.Token.TheVariants.{Open, OpenVector, Close, Dot, Marking, Atomic}

-- what stands inside a list that is not closed yet: whole data, perhaps a dot, perhaps its tail
pub data Inside : Type 0 where
  Items : List Syntax → Inside
  Dotted : Syntax → List Syntax → Pos → Inside
  Tailed : Syntax → List Syntax → Pos → Syntax → Inside

abbrev pub written_inside : Inside → List Token
written_inside (Items ss) = written_all ss []
written_inside (Dotted s ss d) = written_all (s ∷ ss) (Dot d ∷ [])
written_inside (Tailed s ss d t) = written_all (s ∷ ss) (Dot d ∷ written t [])

abbrev pub WithinInside : ℕ → Inside → Type 0
WithinInside n (Items ss) = WithinAll n ss
WithinInside n (Dotted s ss d) = Within n s × WithinAll n ss
WithinInside n (Tailed s ss d t) = Within n s × WithinAll n ss × Within n t

-- after these tokens a list is still open
pub record InsideList (n : ℕ) (ts : List Token) : Type 0 where
  pub inside : Inside
  pub within : WithinInside n inside
  pub whole : ts ≡ written_inside inside

-- after these tokens a vector is still open
pub record InsideVector (n : ℕ) (ts : List Token) : Type 0 where
  pub trees : List Syntax
  pub within : WithinAll n trees
  pub whole : ts ≡ written_all trees []

-- this token opens what is still open after the others, with nothing open inside it
abbrev pub StaysOpen : ℕ → Token → List Token → Type 0
StaysOpen n (Open p) ts = InsideList n ts
StaysOpen n (OpenVector p) ts = InsideVector n ts
StaysOpen n (Close p) ts = ⊥
StaysOpen n (Dot p) ts = ⊥
StaysOpen n (Marking p m) ts = ts ≡ []
StaysOpen n (Atomic p a) ts = ⊥

-- a token, up to which a text can still come
pub record Reached (n : ℕ) (ts : List Token) : Type 0 where
  pub front : List Token
  pub token : Token
  pub more : List Token
  pub whole : ts ≡ front ++ token ∷ more
  pub begins : Begins n front

-- one at this place fits no text
pub record Strays (n : ℕ) (ts : List Token) (p : Pos) : Type 0 where
  pub at : Reached n ts
  pub stops : (m : ℕ) → Begins m (at.front ++ at.token ∷ []) → ⊥
  pub place : p ≡ place_of at.token

-- one at this place fits only texts that are nested deeper
pub record Deepens (n : ℕ) (ts : List Token) (p : Pos) : Type 0 where
  pub at : Reached n ts
  pub stops : Begins n (at.front ++ at.token ∷ []) → ⊥
  pub depth : ℕ
  pub deeper : Begins depth (at.front ++ at.token ∷ [])
  pub place : p ≡ place_of at.token

-- all the tokens begin a text, and the innermost list, vector or mark that is still open has this place
pub record Unclosed (n : ℕ) (ts : List Token) (p : Pos) : Type 0 where
  pub begins : Begins n ts
  pub front : List Token
  pub opener : Token
  pub inside : List Token
  pub whole : ts ≡ front ++ opener ∷ inside
  pub stays : StaysOpen n opener inside
  pub place : p ≡ place_of opener

pub data Fault : Type 0 where
  IsStray : Pos → Fault
  IsDeep : Pos → Fault
  IsUnclosed : Pos → Fault

abbrev pub HasFault : ℕ → List Token → Fault → Type 0
HasFault n ts (IsStray p) = Strays n ts p
HasFault n ts (IsDeep p) = Deepens n ts p
HasFault n ts (IsUnclosed p) = Unclosed n ts p
