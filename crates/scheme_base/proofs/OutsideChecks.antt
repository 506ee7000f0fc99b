-- What is seen outside, at known values: endings and reports, what was written, the texts of atoms,
-- positions, and a run that its heap is too small for.
use Rattle.std.proofs.Common.{◌≡◌, ℕ, zero, suc, List, [], ◌∷◌, ◌++◌, Option, Some, None, refl, ap, ◌∙◌, arith}
use Rattle.std.specs.Prelude.{codes, decimal, ◌*◌, nat_eq, if◌then◌else◌, true, false}
use Rattle.std.proofs.lemmas.Fmt.{decimal_digit}
use Rattle.scheme_base.specs.declared.pos.Pos.{Pos}
use Rattle.scheme_base.specs.declared.error.ErrKind.TheVariants.{WrongType, Index, Unbound, NotProcedure, Count, Overflow, ZeroDivisor, Undefined, LiteralWritten}
use Rattle.scheme_base.specs.AtomText.{boolean_text, character_text, string_text}
use Rattle.scheme_base.specs.Heaps.{Confined, InHeap, Fits, Full, in_heap, look}
use Rattle.scheme_base.specs.Outside.{Event, ReadByte, ReadEnd, ReadFailed, Wrote, WriteFailed, Ending, Exits, written}
use Rattle.scheme_base.specs.Positions.{position_after}
use Rattle.scheme_base.specs.Runs.{after}
use Rattle.scheme_base.specs.Stops.{told, number_of, End, Error, IoStop}

-- Endings

ends : told End ∷ told IoStop ∷ [] ≡ Exits 0 [] ∷ Exits 3 (codes "io\n") ∷ []
ends = refl

numbers :
    number_of WrongType ∷ number_of Index ∷ number_of Unbound ∷ number_of NotProcedure ∷ number_of Count
    ∷ number_of Overflow ∷ number_of ZeroDivisor ∷ number_of Undefined ∷ number_of LiteralWritten ∷ []
    ≡ 1 ∷ 2 ∷ 3 ∷ 4 ∷ 5 ∷ 6 ∷ 7 ∷ 8 ∷ 9 ∷ []
numbers = refl

error_line : told (Error Overflow (record { line = 1; col = 8 })) ≡ Exits 1 (codes "error 6 at 1:8\n")
error_line =
    ap (λ k. line k (decimal 1) (decimal 8)) (decimal_digit 6 (omega arith))
    ∙ (ap (λ k. line (54 ∷ []) k (decimal 8)) (decimal_digit 1 (omega arith))
    ∙ ap (λ k. line (54 ∷ []) (49 ∷ []) k) (decimal_digit 8 (omega arith)))
  where
    line : List ℕ → List ℕ → List ℕ → Ending
    line kind row col = Exits 1 (codes "error " ++ (kind ++ (codes " at " ++ (row ++ (codes ":" ++ (col ++ codes "\n"))))))

-- the newest call comes first, and only writes that succeed count
output : written (Wrote 99 ∷ WriteFailed 98 ∷ ReadEnd ∷ ReadFailed ∷ ReadByte 120 ∷ Wrote 97 ∷ []) ≡ codes "ac"
output = refl

-- Texts

booleans : boolean_text true ++ boolean_text false ≡ codes "#t#f"
booleans = refl

characters : character_text 32 ++ (character_text 10 ++ (character_text 97 ++ character_text 92)) ≡ codes "#\\space#\\newline#\\a#\\\\"
characters = refl

string : string_text (codes "a\"\\b\n") ≡ codes "\"a\\\"\\\\b\n\""
string = refl

-- Positions

abbrev at : ℕ → ℕ → Pos
at line col = record { line = line; col = col }

positions :
    position_after (at 1 1) [] ∷ position_after (at 1 1) (codes "ab") ∷ position_after (at 3 9) (codes "a\n")
    ∷ position_after (at 3 9) (codes "\n\nab\r") ∷ []
    ≡ at 1 1 ∷ at 1 3 ∷ at 4 1 ∷ at 5 4 ∷ []
positions = refl

-- A run in a heap: a machine that counts up to 3, and at n holds 8 n bytes and has written n times

abbrev one_more : ℕ → ℕ
one_more n = if nat_eq n 3 then 3 else suc n

abbrev xs : ℕ → List Event
xs zero = []
xs (suc n) = Wrote 120 ∷ xs n

abbrev at_three : ℕ → Option Ending
at_three n = if nat_eq n 3 then Some (Exits 0 []) else None

abbrev counting : (heap : ℕ) → Confined ℕ
counting heap =
    record {
      machine = record { step = one_more; trace = xs; ending = at_three };
      bytes = λ n. 8 * n;
      heap = heap;
      full = Exits 2 [];
    }

abbrev run_in : (heap steps : ℕ) → InHeap ℕ
run_in heap steps = after (in_heap (counting heap)) steps (look (counting heap) 0)

-- a state that has ended stands as it is, so that 16 bytes are enough
runs : run_in 16 2 ∷ run_in 16 5 ∷ run_in 15 1 ∷ run_in 15 2 ∷ run_in 15 9 ∷ [] ≡ Fits 2 ∷ Fits 3 ∷ Fits 1 ∷ Full 2 ∷ Full 2 ∷ []
runs = refl

stops : (in_heap (counting 15)).ending (Full 2) ∷ (in_heap (counting 16)).ending (Fits 2) ∷ (in_heap (counting 16)).ending (Fits 3) ∷ []
    ≡ Some (Exits 2 []) ∷ None ∷ Some (Exits 0 []) ∷ []
stops = refl

shown : written ((in_heap (counting 15)).trace (Full 2)) ≡ codes "xx"
shown = refl
