-- Drafts: cores whose constants are not numbered yet, and whose fresh variables have no names yet.
--
-- A local variable has a level, the number of variables that are bound around its binder. Levels rise
-- inwards, so that a level is one variable inside its binder, whatever names others have.
use Rattle.std.specs.Prelude.{ℕ, ◌+◌, List, [], ◌∷◌, ◌++◌, Option, Bool, false, nat_le, nat_lt, ◌&&◌}
use Rattle.std.specs.List.{list_any}
use Rattle.scheme_base.specs.declared.pos.Pos.{Pos}
use Rattle.scheme_base.specs.declared.op.Op.{Op}
use Rattle.scheme_base.specs.Constants.{Constant}

pub data Name : Type 0 where
  Local : (level : ℕ) → List ℕ → Name
  Fresh : (level : ℕ) → Name
  -- a top-level variable of the program, and one of the library
  Top : List ℕ → Name
  Library : List ℕ → Name

mutual
  pub data Draft : Type 0 where
    Const : Pos → Constant → Draft
    -- the list of the symbols in the program's constants
    Symbols : Pos → Draft
    Ref : Pos → Name → Draft
    Lambda : Pos → (params : List Name) → (rest : Option Name) → (body : Draft) → Draft
    If : Pos → (test this that : Draft) → Draft
    Set : Pos → Name → (value : Draft) → Draft
    Call : Pos → (operator : Draft) → (operands : Drafts) → Draft
    Prim : Pos → Op → (operands : Drafts) → Draft
    Seq : Pos → (items : Drafts) → Draft
    Fix : Pos → (vars : List Name) → (lambdas : Drafts) → (body : Draft) → Draft
    Define : Pos → Name → (value : Draft) → Draft

  pub data Drafts : Type 0 where
    none : Drafts
    item : Draft → Drafts → Drafts

infixr 20 ◌then◌
abbrev pub ◌then◌ : Drafts → Drafts → Drafts
none then es = es
(item d ds) then es = item d (ds then es)

-- What stands in a draft, in the order of its text

pub data Part : Type 0 where
  Held : Constant → Part
  ListsSymbols : Part
  Referred : Name → Part
  -- a variable that is assigned or defined
  Changed : Name → Part

abbrev mutual
  pub parts : Draft → List Part
  parts (Const p c) = Held c ∷ []
  parts (Symbols p) = ListsSymbols ∷ []
  parts (Ref p x) = Referred x ∷ []
  parts (Lambda p xs r e) = parts e
  parts (If p test this that) = parts test ++ (parts this ++ parts that)
  parts (Set p x e) = Changed x ∷ parts e
  parts (Call p e es) = parts e ++ all_parts es
  parts (Prim p o es) = all_parts es
  parts (Seq p es) = all_parts es
  parts (Fix p xs es e) = all_parts es ++ parts e
  parts (Define p x e) = Changed x ∷ parts e

  pub all_parts : Drafts → List Part
  all_parts none = []
  all_parts (item e es) = parts e ++ all_parts es

-- this is a change of one of the n variables from a level on
abbrev pub is_change : (level n : ℕ) → Part → Bool
is_change k n (Changed (Local j x)) = nat_le k j && nat_lt j (k + n)
is_change k n part = false

abbrev pub changes : (level n : ℕ) → List Part → Bool
changes k n found = list_any (is_change k n) found
