-- Procedures of the library that computed runs need: their variables are numbered from v on, their literals from l
-- on, and they are the values of the top-level variables from g on.
use Rattle.std.proofs.Common.{ℕ, ◌+◌, List, [], ◌∷◌, Some}
use Rattle.std.specs.Prelude.{pos, negsuc, false}
use Rattle.scheme_base.specs.declared.lit.Lit.{Lit}
use Rattle.scheme_base.specs.declared.lit.Lit.TheVariants as lit
use Rattle.scheme_base.specs.declared.op.Op.{Op}
use Rattle.scheme_base.specs.declared.op.Op.TheVariants as op
use Rattle.scheme_base.specs.declared.pos.Pos.{Pos}
use Rattle.scheme_base.proofs.Fixtures.{at}
use Rattle.named_form.specs.Code.{Written, Ends, Then, Const, Prim, Call, If, TopGet}
use Rattle.named_form.proofs.Programs.{lambda, does, defining}

-- where the library's text is said to stand
abbrev library : Pos
library = at 0 196

-- (define (write n) (if (%< n 0) (begin (%write-char #\-) (write-least n)) (write-least (%- 0 n))))
-- (define (write-least n)
--   (begin (if (%< -10 n) 0 (write-least (%quotient n 10))) (%write-char (%integer->char (%- 48 (%remainder n 10))))))
abbrev pub integer_writer : (v l g : ℕ) → List Written
integer_writer v l g =
    lambda library (v ∷ []) (
    Then library ((v + 1) ∷ []) (Const l) (
    Then library ((v + 2) ∷ []) (Prim op.Less (v ∷ (v + 1) ∷ [])) (
    Then library ((v + 3) ∷ []) (If (v + 2) (
    Then library ((v + 4) ∷ []) (Const (l + 1)) (
    Then library ((v + 5) ∷ []) (Prim op.WriteChar ((v + 4) ∷ [])) (
    Then library ((v + 6) ∷ []) (TopGet (g + 1) false) (
    Then library ((v + 7) ∷ []) (Call (v + 6) (v ∷ [])) (
    Ends (Some (v + 7)))))))
    (
    Then library ((v + 8) ∷ []) (TopGet (g + 1) false) (
    Then library ((v + 9) ∷ []) (Const (l + 2)) (
    Then library ((v + 10) ∷ []) (Prim op.Subtract ((v + 9) ∷ v ∷ [])) (
    Then library ((v + 11) ∷ []) (Call (v + 8) ((v + 10) ∷ [])) (
    Ends (Some (v + 11)))))))) (
    Ends (Some (v + 3)))))) ∷
    lambda library ((v + 12) ∷ []) (
    Then library ((v + 13) ∷ []) (Const (l + 3)) (
    Then library ((v + 14) ∷ []) (Prim op.Less ((v + 13) ∷ (v + 12) ∷ [])) (
    Then library ((v + 15) ∷ []) (If (v + 14) (
    Then library ((v + 16) ∷ []) (Const (l + 4)) (
    Ends (Some (v + 16))))
    (
    Then library ((v + 17) ∷ []) (TopGet (g + 1) false) (
    Then library ((v + 18) ∷ []) (Const (l + 5)) (
    Then library ((v + 19) ∷ []) (Prim op.Quotient ((v + 12) ∷ (v + 18) ∷ [])) (
    Then library ((v + 20) ∷ []) (Call (v + 17) ((v + 19) ∷ [])) (
    Ends (Some (v + 20)))))))) (
    Then library ((v + 21) ∷ []) (Const (l + 6)) (
    Then library ((v + 22) ∷ []) (Const (l + 7)) (
    Then library ((v + 23) ∷ []) (Prim op.Remainder ((v + 12) ∷ (v + 22) ∷ [])) (
    Then library ((v + 24) ∷ []) (Prim op.Subtract ((v + 21) ∷ (v + 23) ∷ [])) (
    Then library ((v + 25) ∷ []) (Prim op.IntegerToChar ((v + 24) ∷ [])) (
    Then library ((v + 26) ∷ []) (Prim op.WriteChar ((v + 25) ∷ [])) (
    Ends (Some (v + 26)))))))))))) ∷
    []

-- (write (OP a b)), where a and b are the literals behind those of `integer_writer`, and the column is that of b
abbrev pub writing : Op → (column : ℕ) → List Written
writing o column =
    defining ((library, 1) ∷ (library, 2) ∷ []) (
    does 1 4 (
    (2, TopGet 0 false) ∷ (11, Const 8) ∷ (column, Const 9) ∷ (8, Prim o (5 ∷ 6 ∷ [])) ∷ (1, Call 4 (7 ∷ [])) ∷ [])) ∷
    integer_writer 9 0 0

-- (define (write-from s i)
--   (if (%= i (%string-length s)) 0 (begin (%write-char (%string-ref s i)) (write-from s (%+ i 1)))))
abbrev pub string_writer : (v l g : ℕ) → List Written
string_writer v l g =
    lambda library (v ∷ (v + 1) ∷ []) (
    Then library ((v + 2) ∷ []) (Prim op.StringLength (v ∷ [])) (
    Then library ((v + 3) ∷ []) (Prim op.Equals ((v + 1) ∷ (v + 2) ∷ [])) (
    Then library ((v + 4) ∷ []) (If (v + 3) (
    Then library ((v + 5) ∷ []) (Const l) (
    Ends (Some (v + 5))))
    (
    Then library ((v + 6) ∷ []) (Prim op.StringRef (v ∷ (v + 1) ∷ [])) (
    Then library ((v + 7) ∷ []) (Prim op.WriteChar ((v + 6) ∷ [])) (
    Then library ((v + 8) ∷ []) (TopGet g false) (
    Then library ((v + 9) ∷ []) (Const (l + 1)) (
    Then library ((v + 10) ∷ []) (Prim op.Add ((v + 1) ∷ (v + 9) ∷ [])) (
    Then library ((v + 11) ∷ []) (Call (v + 8) (v ∷ (v + 10) ∷ [])) (
    Ends (Some (v + 11)))))))))) (
    Ends (Some (v + 4)))))) ∷
    []

abbrev pub integer_writer_lits : List Lit
integer_writer_lits =
    lit.Integer (pos 0) ∷ lit.Char 45 ∷ lit.Integer (pos 0) ∷ lit.Integer (negsuc 9) ∷ lit.Integer (pos 0) ∷ lit.Integer (pos 10) ∷ lit.Integer (pos 48) ∷ lit.Integer (pos 10) ∷ []
