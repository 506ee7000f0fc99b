-- Constants, as trees (R4RS 4.1.2).
use Rattle.std.specs.Prelude.{ℕ, nat_lt, ℤ, List, Bool, IsTrue}
use Rattle.std.specs.List.{list_all}
use Rattle.scheme_base.specs.Integers.{in_range}

mutual
  pub data Constant : Type 0 where
    Integer : ℤ → Constant
    Boolean : Bool → Constant
    Character : (byte : ℕ) → Constant
    Nil : Constant
    Unspecified : Constant
    Undefined : Constant
    Symbol : List ℕ → Constant
    String : List ℕ → Constant
    Pair : Constant → Constant → Constant
    Vector : Constants → Constant

  pub data Constants : Type 0 where
    none : Constants
    item : Constant → Constants → Constants

abbrev pub is_byte : ℕ → Bool
is_byte n = nat_lt n 256

abbrev pub are_bytes : List ℕ → Bool
are_bytes ns = list_all is_byte ns

abbrev mutual
  -- a constant that can be a part of a literal: its integers are in range, its characters and the
  -- characters of its strings and names are bytes, and nothing in it is the undefined value
  pub IsPart : Constant → Type 0
  IsPart (Integer z) = IsTrue (in_range z)
  IsPart (Character byte) = IsTrue (is_byte byte)
  IsPart (Symbol name) = IsTrue (are_bytes name)
  IsPart (String chars) = IsTrue (are_bytes chars)
  IsPart Undefined = ⊥
  IsPart (Pair a d) = IsPart a × IsPart d
  IsPart (Vector cs) = AreParts cs
  IsPart c = Unit {0}

  pub AreParts : Constants → Type 0
  AreParts none = Unit {0}
  AreParts (item c cs) = IsPart c × AreParts cs

-- the constant of an expression: the undefined value stands alone
abbrev pub IsConstant : Constant → Type 0
IsConstant Undefined = Unit {0}
IsConstant c = IsPart c
