-- Constants of data, and what they are in a core whose characters are bytes.
use Rattle.std.proofs.Common.{◌≡◌, ℕ, suc, List, false, ap}
use Rattle.std.specs.Prelude.{IsTrue, slice_get}
use Rattle.scheme_base.specs.declared.lit.Lit.{Lit}
use Rattle.scheme_base.specs.Integers.{in_range}
use Rattle.scheme_base.specs.Constants.{Constant, Integer, Boolean, Character, Nil, Unspecified, Undefined, Symbol, String, Pair, Vector, Constants, IsPart, AreParts, IsConstant}
use Rattle.scheme_base.specs.Constants.Constants.{none, item}
use Rattle.scheme_base.specs.Literals.{Laid, LaidAll}
use Rattle.core_form.specs.Valid.{is_undefined}
use Rattle.scheme_expand.specs.Laws.{AreBytes}

abbrev mutual
  -- integers in range, and no undefined value
  pub IsOfData : Constant → Type 0
  IsOfData (Integer z) = IsTrue (in_range z)
  IsOfData Undefined = ⊥
  IsOfData (Pair a d) = IsOfData a × IsOfData d
  IsOfData (Vector cs) = AreOfData cs
  IsOfData c = Unit {0}

  pub AreOfData : Constants → Type 0
  AreOfData none = Unit {0}
  AreOfData (item c cs) = IsOfData c × AreOfData cs

-- a constant of a draft: the undefined value stands alone
abbrev pub IsHeld : Constant → Type 0
IsHeld Undefined = Unit {0}
IsHeld c = IsOfData c

pub held_of_data : (c : Constant) → IsOfData c → IsHeld c
held_of_data (Integer z) h = h
held_of_data (Boolean b) h = tt
held_of_data (Character byte) h = tt
held_of_data Nil h = tt
held_of_data Unspecified h = tt
held_of_data Undefined h = tt
held_of_data (Symbol x) h = tt
held_of_data (String bytes) h = tt
held_of_data (Pair a d) h = h
held_of_data (Vector cs) h = h

mutual
  part_of_data : (lits : List Lit) → AreBytes lits → (i : ℕ) (c : Constant) (j : ℕ) → IsOfData c → Laid lits i c j → IsPart c
  part_of_data lits b i (Integer z) j h l = h
  part_of_data lits b i (Boolean t) j h l = tt
  part_of_data lits b i (Character byte) j h l = b i _ l.0
  part_of_data lits b i Nil j h l = tt
  part_of_data lits b i Unspecified j h l = tt
  part_of_data lits b i Undefined j h l = absurd h
  part_of_data lits b i (Symbol x) j h l = b i _ l.0
  part_of_data lits b i (String bytes) j h l = b i _ l.0
  part_of_data lits b i (Pair a d) j h l =
      (part_of_data lits b (suc i) a l.0 h.0 l.2, part_of_data lits b l.0 d j h.1 l.3)
  part_of_data lits b i (Vector cs) j h l = parts_of_data lits b l.0 (suc i) cs j h l.2

  parts_of_data : (lits : List Lit) → AreBytes lits → (ids : List ℕ) (i : ℕ) (cs : Constants) (j : ℕ) → AreOfData cs
      → LaidAll lits ids i cs j → AreParts cs
  parts_of_data lits b ids i none j h l = tt
  parts_of_data lits b ids i (item c cs) j h l =
      (part_of_data lits b i c l.1 h.0 l.3, parts_of_data lits b l.0 l.1 cs j h.1 l.4)

-- a constant of a draft is one of a core
pub constant_held : (lits : List Lit) → AreBytes lits → (i : ℕ) (c : Constant) (j : ℕ) → IsHeld c → Laid lits i c j
    → IsConstant c
constant_held lits b i (Integer z) j h l = h
constant_held lits b i (Boolean t) j h l = tt
constant_held lits b i (Character byte) j h l = b i _ l.0
constant_held lits b i Nil j h l = tt
constant_held lits b i Unspecified j h l = tt
constant_held lits b i Undefined j h l = tt
constant_held lits b i (Symbol x) j h l = b i _ l.0
constant_held lits b i (String bytes) j h l = b i _ l.0
constant_held lits b i (Pair a d) j h l = part_of_data lits b i (Pair a d) j h l
constant_held lits b i (Vector cs) j h l = part_of_data lits b i (Vector cs) j h l

-- a literal that is a part of others is not the undefined value
pub not_undefined : (lits : List Lit) (i : ℕ) (c : Constant) (j : ℕ) → IsOfData c → Laid lits i c j
    → is_undefined (slice_get lits i) ≡ false
not_undefined lits i (Integer z) j p h = ap is_undefined h.0
not_undefined lits i (Boolean b) j p h = ap is_undefined h.0
not_undefined lits i (Character byte) j p h = ap is_undefined h.0
not_undefined lits i Nil j p h = ap is_undefined h.0
not_undefined lits i Unspecified j p h = ap is_undefined h.0
not_undefined lits i Undefined j p h = absurd p
not_undefined lits i (Symbol x) j p h = ap is_undefined h.0
not_undefined lits i (String bytes) j p h = ap is_undefined h.0
not_undefined lits i (Pair a d) j p h = ap is_undefined h.1
not_undefined lits i (Vector cs) j p h = ap is_undefined h.1
