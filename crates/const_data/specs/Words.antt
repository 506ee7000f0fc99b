-- The data words of a flat program, as one function, and where each of them stands.
use Rattle.std.specs.Prelude.{ℕ, zero, suc, ◌+◌, ◌*◌, pos, nat_eq, max, List, [], ◌∷◌, ◌++◌, length, map, replicate, slice_get, Option, Some, None, Bool, true, false, ◌&&◌, not, if◌then◌else◌}
use Rattle.std.specs.Int.{w64, cast_unsigned, int_wrapping_mul}
use Rattle.scheme_base.specs.declared.lit.Lit.{Lit}
use Rattle.scheme_base.specs.declared.lit.Lit.TheVariants as lit
use Rattle.scheme_base.specs.Literals.{first_symbol}
use Rattle.flat_form.specs.declared.program.FlatBlock.{FlatBlock}
use Rattle.flat_form.specs.FlatWritten.{code}
use Rattle.flat_form.specs.FlatCode.{Code, Ends, Then, Act, Call, If, Arm, Absent, Present, Part, Procedure, Program}
use Rattle.const_data.specs.declared.word.Label.TheVariants as label
use Rattle.const_data.specs.declared.word.Word.{Word}
use Rattle.const_data.specs.declared.word.Word.TheVariants.{Number, Address}
use Rattle.const_data.specs.declared.offsets.Offsets.{Offsets}

-- Argument words: as many as the greatest operand count of a reached call in a reached procedure, and one at
-- least

abbrev mutual
  pub most_in : Code → ℕ
  most_in (Ends value) = 0
  most_in (Then k to act rest) = max (if k.reached then most_of act else 0) (most_in rest)

  pub most_of : Act → ℕ
  most_of (Call operator operands mode) = length operands
  most_of (If test tail this that) = max (most_in_arm this) (most_in_arm that)
  most_of act = 0

  pub most_in_arm : Arm → ℕ
  most_in_arm Absent = 0
  most_in_arm (Present block) = most_in block

-- an arm as it is written
abbrev pub arm_code : Option FlatBlock → Arm
arm_code None = Absent
arm_code (Some block) = Present (code block)

abbrev pub most_in_parts : List Part → ℕ
most_in_parts [] = 0
most_in_parts (p ∷ ps) = max (most_in p.body) (most_in_parts ps)

abbrev pub most_in_procs : List Procedure → ℕ
most_in_procs [] = 0
most_in_procs (p ∷ ps) = max (most_in_parts p.parts) (most_in_procs ps)

abbrev pub arguments : Program → ℕ
arguments f = max 1 (most_in_procs f.procs)

-- Where words stand: 16 support words, the argument words, the cells, four words a procedure, one word a
-- procedure, and the literals' objects

abbrev pub cells_at : Program → ℕ
cells_at f = 16 + arguments f

abbrev pub descriptors_at : Program → ℕ
descriptors_at f = cells_at f + f.cells.tops + f.cells.globals

abbrev pub closures_at : Program → ℕ
closures_at f = descriptors_at f + 4 * length f.procs

abbrev pub literals_at : Program → ℕ
literals_at f = closures_at f + length f.procs

-- how many words a symbol and its name take, where it is the first of its name
abbrev pub symbol_size : List Lit → (i : ℕ) → Lit → ℕ
symbol_size lits i (lit.Symbol name) = if nat_eq (first_symbol name lits 0) i then 3 + length name else 0
symbol_size lits i l = 0

-- how many words a pair, a string or a vector takes
abbrev pub object_size : Lit → ℕ
object_size (lit.Pair car cdr) = 2
object_size (lit.Text bytes) = 1 + length bytes
object_size (lit.Vector items) = 1 + length items
object_size l = 0

-- how many words the first n of these literals take, which are numbered from i
abbrev pub symbols_before : List Lit → (i : ℕ) → List Lit → (n : ℕ) → ℕ
symbols_before lits i [] n = 0
symbols_before lits i (l ∷ ls) zero = 0
symbols_before lits i (l ∷ ls) (suc n) = symbol_size lits i l + symbols_before lits (i + 1) ls n

abbrev pub objects_before : List Lit → (n : ℕ) → ℕ
objects_before [] n = 0
objects_before (l ∷ ls) zero = 0
objects_before (l ∷ ls) (suc n) = object_size l + objects_before ls n

abbrev pub symbol_at : Program → (i : ℕ) → ℕ
symbol_at f i = literals_at f + symbols_before f.lits 0 f.lits i

-- the symbols come first
abbrev pub object_at : Program → (i : ℕ) → ℕ
object_at f i = symbol_at f (length f.lits) + objects_before f.lits i

-- the word where the object of literal i begins; 0 where it is no object
abbrev pub place_of : Program → (i : ℕ) → Lit → ℕ
place_of f i (lit.Symbol name) = symbol_at f (first_symbol name f.lits 0)
place_of f i (lit.Text bytes) = object_at f i
place_of f i (lit.Pair car cdr) = object_at f i
place_of f i (lit.Vector items) = object_at f i
place_of f i l = 0

abbrev pub places_from : Program → (i : ℕ) → List Lit → List ℕ
places_from f i [] = []
places_from f i (l ∷ ls) = place_of f i l ∷ places_from f (i + 1) ls

abbrev pub offsets_of : Program → Offsets
offsets_of f =
    record {
      cells = cells_at f;
      descriptors = descriptors_at f;
      closures = closures_at f;
      literals = places_from f 0 f.lits;
    }

-- Words

abbrev pub tagged : (word tag : ℕ) → Word
tagged n tag = Address (label.Word n) tag

abbrev pub character : (byte : ℕ) → ℕ
character byte = 32 * byte + 29

-- a value of a literal: integer n is 4n; a pair is its address plus 2, any other object plus 3
abbrev pub value_word : Program → (i : ℕ) → Option Lit → Word
value_word f i None = Number 0
value_word f i (Some (lit.Integer z)) = Number (cast_unsigned w64 (int_wrapping_mul w64 z (pos 4)))
value_word f i (Some (lit.Boolean true)) = Number 5
value_word f i (Some (lit.Boolean false)) = Number 1
value_word f i (Some (lit.Char byte)) = Number (character byte)
value_word f i (Some lit.Nil) = Number 9
value_word f i (Some lit.Unspecified) = Number 13
value_word f i (Some lit.Undefined) = Number 21
value_word f i (Some (lit.Symbol name)) = tagged (place_of f i (lit.Symbol name)) 3
value_word f i (Some (lit.Text bytes)) = tagged (place_of f i (lit.Text bytes)) 3
value_word f i (Some (lit.Pair car cdr)) = tagged (place_of f i (lit.Pair car cdr)) 2
value_word f i (Some (lit.Vector items)) = tagged (place_of f i (lit.Vector items)) 3

abbrev pub literal_word : Program → (i : ℕ) → Word
literal_word f i = value_word f i (slice_get f.lits i)

-- a string: its length with its tag, then its characters
abbrev pub string_words : List ℕ → List Word
string_words bytes = Number (8 * length bytes + 1) ∷ map (λ byte. Number (character byte)) bytes

-- a symbol, and its name behind it, where it is the first of its name
abbrev pub symbol_words : Program → (i : ℕ) → Lit → List Word
symbol_words f i (lit.Symbol name) =
    if nat_eq (first_symbol name f.lits 0) i
    then Number 3 ∷ tagged (symbol_at f i + 2) 3 ∷ string_words name
    else []
symbol_words f i l = []

abbrev pub object_words : Program → Lit → List Word
object_words f (lit.Text bytes) = string_words bytes
object_words f (lit.Pair car cdr) = literal_word f car ∷ literal_word f cdr ∷ []
object_words f (lit.Vector items) = Number (8 * length items + 2) ∷ map (literal_word f) items
object_words f l = []

abbrev pub all_symbols : Program → (i : ℕ) → List Lit → List Word
all_symbols f i [] = []
all_symbols f i (l ∷ ls) = symbol_words f i l ++ all_symbols f (i + 1) ls

abbrev pub all_objects : Program → List Lit → List Word
all_objects f [] = []
all_objects f (l ∷ ls) = object_words f l ++ all_objects f ls

-- where a procedure is entered; one that is never reached has no entry, and nothing enters the program with
-- a list
abbrev pub entry_word : (q : ℕ) → Procedure → (list : Bool) → Word
entry_word q p list =
    if p.reached && not (list && nat_eq q 0) then Address (label.Entry q 0 list) 0 else Number 0

-- all ones where there is no greatest count
abbrev pub count_word : Option ℕ → Word
count_word None = Number 0xffff_ffff_ffff_ffff
count_word (Some n) = Number n

abbrev pub descriptor : (q : ℕ) → Procedure → List Word
descriptor q p = entry_word q p false ∷ entry_word q p true ∷ Number p.least ∷ count_word p.greatest ∷ []

abbrev pub all_descriptors : (q : ℕ) → List Procedure → List Word
all_descriptors q [] = []
all_descriptors q (p ∷ ps) = descriptor q p ++ all_descriptors (q + 1) ps

abbrev pub all_closures : Program → (q : ℕ) → List Procedure → List Word
all_closures f q [] = []
all_closures f q (p ∷ ps) = Address (label.Word (descriptors_at f + 4 * q)) 0 ∷ all_closures f (q + 1) ps

-- The words that every program has, before those of its literals. The first support word is the look-ahead, at
-- first none; a top-level variable is unbound at first.
abbrev pub fixed_words : Program → List Word
fixed_words f =
    Number 0xffff_ffff_ffff_ffff ∷ replicate 15 (Number 0) ++ replicate (arguments f) (Number 0)
    ++ replicate f.cells.tops (Number 25)
    ++ replicate f.cells.globals (Number 0)
    ++ all_descriptors 0 f.procs
    ++ all_closures f 0 f.procs

-- the words before the pool
abbrev pub data_words : Program → List Word
data_words f = fixed_words f ++ all_symbols f 0 f.lits ++ all_objects f f.lits
