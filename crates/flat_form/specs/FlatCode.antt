-- Flat blocks as linked steps, and flat programs.
use Rattle.std.specs.Prelude.{ℕ, List, Option, Bool}
use Rattle.scheme_base.specs.declared.lit.Lit.{Lit}
use Rattle.scheme_base.specs.declared.op.Op.{Op}
use Rattle.scheme_base.specs.declared.place.Mark.{Mark}
use Rattle.scheme_base.specs.declared.pos.Pos.{Pos}
use Rattle.flat_form.specs.declared.program.Cells.{Cells}
use Rattle.flat_form.specs.declared.program.Made.{Made}
use Rattle.flat_form.specs.declared.program.Mode.{Mode}
use Rattle.flat_form.specs.declared.program.Place.{Place}

-- what is known of a step: the position that its errors name, whether a run may come to it, and whether its
-- checks of types and counts stand
pub record Known : Type 0 where
  pub pos : Pos
  pub reached : Bool
  pub checked : Bool

mutual
  pub data Code : Type 0 where
    -- the end of the block, with the place of the block's value
    Ends : (value : Option Place) → Code
    -- a step that writes these places, and the block after it
    Then : Known → (to : List Place) → Act → (rest : Code) → Code

  pub data Act : Type 0 where
    Const : (lit : ℕ) → Act
    Copy : (from : Place) → Act
    Prim : Op → (operands : List Place) → (mark : Option Mark) → Act
    Call : (operator : Place) → (operands : List Place) → Mode → Act
    Apply : (operator list : Place) → Mode → Act
    CallCC : (operator : Place) → Mode → Act
    If : (test : Place) → (tail : Bool) → (this that : Arm) → Act
    Closure : Made → Act
    Fix : (made : List Made) → Act
    MakeBox : (from : Place) → Mark → Act
    MakeHole : Mark → Act
    Unbox : (boxed : Place) → (checked : Bool) → Act
    SetBox : (boxed from : Place) → Act
    TopGet : (top : ℕ) → (checked : Bool) → Act
    TopSet : (top : ℕ) → (from : Place) → (checked : Bool) → Act
    TopDefine : (top : ℕ) → (from : Place) → Act

  -- an arm that is never reached is absent
  pub data Arm : Type 0 where
    Absent : Arm
    Present : Code → Arm

pub record Part : Type 0 where
  pub params : List Place
  pub rest : Option Place
  pub rest_mark : Mark
  pub body : Code

pub record Procedure : Type 0 where
  pub reached : Bool
  pub capturing : Bool
  pub slots : ℕ
  pub least : ℕ
  pub greatest : Option ℕ
  pub parts : List Part

pub record Program : Type 0 where
  pub procs : List Procedure
  pub cells : Cells
  pub lits : List Lit
