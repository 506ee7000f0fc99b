-- What `make N --workers W --heap H` promises.
--
-- It makes a program of N procedures, each of which calls the next and the last the first, analyses it and builds its
-- image, and prints how large each of these is.
use Rattle.std.specs.Prelude.{ℕ, zero, suc, ◌≡◌, ◌≢◌, ◌+◌, ◌⊎◌, Bool, true, false, if◌then◌else◌, List, [], ◌∷◌, ◌++◌, length, nat_eq, codes, decimal}
use Rattle.stalin_outside.specs.Console.{Told}
use Rattle.stalin_outside.specs.Sending.{Prints}
use Rattle.image_build.specs.Emitted.{Emitted, IsAnalysed, Refuses}
use Rattle.image_build.specs.declared.analysis.Analysis.{Analysis}
use Rattle.image_build.specs.declared.error.BuildErr.{BuildErr}
use Rattle.image_build.specs.declared.error.BuildErr.TheVariants as build
use Rattle.stalin_top.specs.Facts.{IsOfTable}
use Rattle.stalin_top.specs.Outside.{Outside}
use Rattle.stalin_top.specs.declared.answer.Answer.{Answer}
use Rattle.stalin_top.specs.declared.answer.Answer.TheVariants.{Done, Refused, TooLarge, ConsoleFault, NoMemory}
use Rattle.stalin_top.specs.declared.answer.Refusal.TheVariants as refusals
use Rattle.stalin_top.specs.declared.make.Sizes.{Sizes}
use Rattle.stalin_top.specs.TableText.{texts_below}

-- The program

-- the procedure of a number, which calls that of the next one
abbrev pub procedure_text : (number next : ℕ) → List ℕ
procedure_text number next =
    codes "(define (p"
    ++ (decimal number
    ++ (codes " x) (if (= x 0) (cons "
    ++ (decimal number ++ (codes " '()) (cons x (p" ++ (decimal next ++ (codes " (- x 1)))))" ++ 10 ∷ []))))))

abbrev pub next_of : (count number : ℕ) → ℕ
next_of count number = if nat_eq (number + 1) count then 0 else number + 1

abbrev pub call_text : (count : ℕ) → List ℕ
call_text zero = []
call_text (suc n) = codes "(write (p0 5))" ++ 10 ∷ []

abbrev pub program_text : (count : ℕ) → List ℕ
program_text count = texts_below (λ number. procedure_text number (next_of count number)) count ++ call_text count

-- Its numbers

abbrev pub number_text : (name : List ℕ) (number : ℕ) → List ℕ
number_text name number = name ++ (decimal number ++ 10 ∷ [])

-- the lengths of the program and of its image, and the numbers of its rows, atoms and rules
abbrev pub numbers_text : (source rows atoms rules image : ℕ) → List ℕ
numbers_text source rows atoms rules image =
    number_text (codes "source ") source
    ++ (number_text (codes "rows ") rows
    ++ (number_text (codes "atoms ") atoms ++ (number_text (codes "rules ") rules ++ number_text (codes "image ") image)))

-- how large the analysis of the program with so many procedures is
pub record AreSizes (count : ℕ) (sizes : Sizes) : Type 0 where
  pub analysis : Analysis
  pub analysed : IsAnalysed (program_text count) analysis
  pub rows : sizes.rows ≡ analysis.constraints.rows
  pub atoms : sizes.atoms ≡ analysis.constraints.atoms
  pub rules : sizes.rules ≡ length analysis.constraints.rules

-- the numbers of the program
pub record AreNumbers (count heap : ℕ) (text : List ℕ) : Type 0 where
  pub analysis : Analysis
  pub analysed : IsAnalysed (program_text count) analysis
  pub file : List ℕ
  pub emitted : Emitted (program_text count) heap file
  pub is :
      text
      ≡ numbers_text (length (program_text count)) analysis.constraints.rows analysis.constraints.atoms
      (length analysis.constraints.rules) (length file)

-- What each answer says of the outside

-- the numbers were printed, whole or up to the first call that failed
pub record IsTold (count heap : ℕ) (whole : Bool) (before now : Told) : Type 0 where
  pub text : List ℕ
  pub numbers : AreNumbers count heap text
  pub printed : Prints text whole before now

-- why there is an answer before the program is built
abbrev pub IsUnmade : (count heap : ℕ) → Answer → Type 0
IsUnmade count heap (Refused (refusals.Read error)) = Refuses (program_text count) heap (build.Read error)
IsUnmade count heap (Refused (refusals.Form error)) = Refuses (program_text count) heap (build.Form error)
IsUnmade count heap (TooLarge limit) = Refuses (program_text count) heap (build.Limit limit)
IsUnmade count heap NoMemory = Unit {0}
IsUnmade count heap answer = ⊥

abbrev pub Outcome : (count heap : ℕ) → Answer → (before now : Told) → Type 0
Outcome count heap Done before now = IsTold count heap true before now
Outcome count heap ConsoleFault before now = IsTold count heap false before now
Outcome count heap answer before now = IsUnmade count heap answer × (now ≡ before)

-- a program for whose refusal there is no reason has numbers; no file is asked for or changed
pub record PrintsNumbers (count heap : ℕ) (answer : Answer) (before after : Outside) : Type 0 where
  pub outcome : Outcome count heap answer before.console after.console
  pub complete :
      ((error : BuildErr) → error ≢ build.NoMemory → ¬ Refuses (program_text count) heap error)
      → IsOfTable answer ⊎ (answer ≡ NoMemory)
  pub rest : after ≡ record before { console = after.console }
