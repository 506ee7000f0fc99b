-- The status of each answer, and the text that the command writes to the error channel.
use Rattle.std.specs.Prelude.{ℕ, ◌≡◌, ◌⊎◌, List, [], ◌∷◌, ◌++◌, codes, decimal}
use Rattle.scheme_base.specs.Limit.{name_of}
use Rattle.scheme_base.specs.declared.pos.Pos.{Pos}
use Rattle.datum_form.specs.declared.error.FormErr.{FormErr}
use Rattle.datum_form.specs.declared.error.FormErr.TheVariants as forms
use Rattle.datum_reader.specs.declared.error.ReadErr.{ReadErr}
use Rattle.datum_reader.specs.declared.error.ReadErr.TheVariants as reads
use Rattle.elf_write.specs.declared.error.ElfErr.TheVariants as breaks
use Rattle.stalin_top.specs.declared.answer.Refusal.TheVariants as refusals
use Rattle.stalin_top.specs.declared.answer.Answer.{Answer}
use Rattle.stalin_top.specs.declared.answer.Answer.TheVariants.{Done, Usage, Refused, TooLarge, FileFault, ConsoleFault, BadImage, Spent, Trapped, Image, NoMemory}

abbrev pub status_of : Answer → ℕ
status_of Done = 0
status_of (Usage word) = 64
status_of (Refused refusal) = 65
status_of (TooLarge limit) = 66
status_of FileFault = 74
status_of ConsoleFault = 73
status_of (BadImage err) = 76
status_of (Spent steps) = 75
status_of (Trapped kind pc) = 77
status_of (Image status) = status
status_of NoMemory = 71

-- of a fault of the reader its number, and its position: a line and a byte in it
abbrev pub refusal_text : (kind : List ℕ) (number : ℕ) → Pos → List ℕ
refusal_text kind number pos =
    codes "refused: " ++ (kind ++ (decimal number ++ (codes " at " ++ (decimal pos.line ++ (58 ∷ [] ++ (decimal pos.col ++ 10 ∷ []))))))

abbrev pub read_text : ReadErr → List ℕ
read_text (reads.Unclosed pos) = refusal_text (codes "read ") 1 pos
read_text (reads.Stray pos) = refusal_text (codes "read ") 2 pos
read_text (reads.BadToken pos) = refusal_text (codes "read ") 3 pos
read_text (reads.NumberRange pos) = refusal_text (codes "read ") 4 pos
read_text (reads.TooDeep pos) = refusal_text (codes "read ") 5 pos
read_text (reads.TooLong length) = codes "too large: source " ++ (decimal length ++ 10 ∷ [])
read_text reads.NoMemory = codes "no memory" ++ 10 ∷ []

abbrev pub form_text : FormErr → List ℕ
form_text (forms.Broken pos rule) = refusal_text (codes "form ") rule pos
form_text forms.NoMemory = codes "no memory" ++ 10 ∷ []

-- each text ends with a line end
abbrev pub text_of : Answer → List ℕ
text_of Done = []
text_of (Usage word) = codes "usage: word " ++ (decimal word ++ 10 ∷ [])
text_of (Refused (refusals.Read error)) = read_text error
text_of (Refused (refusals.Form error)) = form_text error
text_of (TooLarge limit) = codes "too large: " ++ (name_of limit.which ++ (32 ∷ [] ++ (decimal limit.count ++ 10 ∷ [])))
text_of FileFault = codes "file fault" ++ 10 ∷ []
text_of ConsoleFault = []
text_of (BadImage breaks.Short) = codes "bad image: 1" ++ 10 ∷ []
text_of (BadImage breaks.Magic) = codes "bad image: 2" ++ 10 ∷ []
text_of (BadImage breaks.Kind) = codes "bad image: 3" ++ 10 ∷ []
text_of (BadImage (breaks.Segment index)) = codes "bad image: 4 " ++ (decimal index ++ 10 ∷ [])
text_of (BadImage breaks.Entry) = codes "bad image: 5" ++ 10 ∷ []
text_of (BadImage breaks.NoMemory) = codes "no memory" ++ 10 ∷ []
text_of (Spent steps) = codes "spent " ++ (decimal steps ++ 10 ∷ [])
text_of (Trapped kind pc) = codes "trapped " ++ (decimal kind ++ (codes " at " ++ (decimal pc ++ 10 ∷ [])))
text_of (Image status) = []
text_of NoMemory = codes "no memory" ++ 10 ∷ []

-- an answer is this one, but where a call of the shelf failed or memory was wanted
abbrev pub Yields : (expected answer : Answer) → Type 0
Yields expected answer = (answer ≡ expected) ⊎ (answer ≡ FileFault) ⊎ (answer ≡ NoMemory)
