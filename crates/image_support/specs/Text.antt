-- The text of the routines: each begins with its label, and they stand in the order of their numbers.
use Rattle.std.specs.Prelude.{ℕ, zero, suc, Bool, true, false, List, [], ◌∷◌, ◌++◌, Option, Some}
use Rattle.scheme_base.specs.declared.error.ErrKind.{ErrKind}
use Rattle.scheme_base.specs.declared.error.ErrKind.TheVariants as kind
use Rattle.scheme_base.specs.declared.op.Op.{Op}
use Rattle.scheme_base.specs.declared.op.Op.TheVariants as op
use Rattle.scheme_base.specs.declared.place.Mark.{Mark}
use Rattle.scheme_base.specs.declared.place.Mark.TheVariants as mark
use Rattle.const_data.specs.declared.word.Label.{Label}
use Rattle.const_data.specs.declared.word.Label.TheVariants as label
use Rattle.rv_asm.specs.declared.item.AsmItem.{AsmItem}
use Rattle.rv_asm.specs.declared.item.AsmItem.TheVariants.{Code, Here, Address, Jump, Pool}
use Rattle.rv_asm.specs.declared.routine.Routine.{Routine}
use Rattle.rv_asm.specs.declared.routine.Routine.TheVariants as routine
use Rattle.rv_asm.specs.Routines.{label_of}
use Rattle.image_support.specs.declared.text.TheConstants.{ROUTINES}
use Rattle.image_support.specs.declared.calls.TheConstants as calls
use Rattle.image_support.specs.declared.characters.TheConstants as characters
use Rattle.image_support.specs.declared.ends.TheConstants as ends
use Rattle.image_support.specs.declared.memory.TheConstants as memory
use Rattle.image_support.specs.declared.numbers.TheConstants as numbers
use Rattle.image_support.specs.declared.pairs.TheConstants as pairs
use Rattle.image_support.specs.declared.predicates.TheConstants as predicates
use Rattle.image_support.specs.declared.sequences.TheConstants as sequences

-- code with the checks of the operands, and without
abbrev pub Forms : Type 0
Forms = record { now : List AsmItem } × record { now : List AsmItem }

abbrev pub pick : (checked : Bool) → (with_checks bare : List AsmItem) → List AsmItem
pick true with_checks bare = with_checks
pick false with_checks bare = bare

abbrev pub form : Forms → (checked : Bool) → List AsmItem
form forms checked = pick checked forms.0.now forms.1.now

-- the code of an operation, by where it makes its object
abbrev pub operation_code : Op → Option Mark → (checked : Bool) → List AsmItem
operation_code op.Eqv m checked = form predicates.EQV checked
operation_code op.IsPair m checked = form predicates.IS_PAIR checked
operation_code op.IsSymbol m checked = form predicates.IS_SYMBOL checked
operation_code op.IsString m checked = form predicates.IS_STRING checked
operation_code op.IsVector m checked = form predicates.IS_VECTOR checked
operation_code op.IsProcedure m checked = form predicates.IS_PROCEDURE checked
operation_code op.IsInteger m checked = form predicates.IS_INTEGER checked
operation_code op.IsChar m checked = form predicates.IS_CHAR checked
operation_code op.IsBoolean m checked = form predicates.IS_BOOLEAN checked
operation_code op.IsNull m checked = form predicates.IS_NULL checked
operation_code op.IsEof m checked = form predicates.IS_EOF checked
operation_code op.Cons (Some mark.Global) checked = form pairs.CONS_GLOBAL checked
operation_code op.Cons m checked = form pairs.CONS_LOCAL checked
operation_code op.Car m checked = form pairs.CAR checked
operation_code op.Cdr m checked = form pairs.CDR checked
operation_code op.SetCar m checked = form pairs.SET_CAR checked
operation_code op.SetCdr m checked = form pairs.SET_CDR checked
operation_code op.Add m checked = form numbers.ADD checked
operation_code op.Subtract m checked = form numbers.SUBTRACT checked
operation_code op.Multiply m checked = form numbers.MULTIPLY checked
operation_code op.Quotient m checked = form numbers.QUOTIENT checked
operation_code op.Remainder m checked = form numbers.REMAINDER checked
operation_code op.Modulo m checked = form numbers.MODULO checked
operation_code op.Equals m checked = form numbers.EQUALS checked
operation_code op.Less m checked = form numbers.LESS checked
operation_code op.CharToInteger m checked = form characters.CHAR_TO_INTEGER checked
operation_code op.IntegerToChar m checked = form characters.INTEGER_TO_CHAR checked
operation_code op.SymbolName m checked = form sequences.SYMBOL_NAME checked
operation_code op.MakeSymbol (Some mark.Global) checked = form sequences.MAKE_SYMBOL_GLOBAL checked
operation_code op.MakeSymbol m checked = form sequences.MAKE_SYMBOL_LOCAL checked
operation_code op.MakeString (Some mark.Global) checked = form sequences.MAKE_STRING_GLOBAL checked
operation_code op.MakeString m checked = form sequences.MAKE_STRING_LOCAL checked
operation_code op.MakeVector (Some mark.Global) checked = form sequences.MAKE_VECTOR_GLOBAL checked
operation_code op.MakeVector m checked = form sequences.MAKE_VECTOR_LOCAL checked
operation_code op.StringLength m checked = form sequences.STRING_LENGTH checked
operation_code op.VectorLength m checked = form sequences.VECTOR_LENGTH checked
operation_code op.StringRef m checked = form sequences.STRING_REF checked
operation_code op.VectorRef m checked = form sequences.VECTOR_REF checked
operation_code op.StringSet m checked = form sequences.STRING_SET checked
operation_code op.VectorSet m checked = form sequences.VECTOR_SET checked
operation_code op.ReadChar m checked = form characters.READ_CHAR checked
operation_code op.PeekChar m checked = form characters.PEEK_CHAR checked
operation_code op.WriteChar m checked = form characters.WRITE_CHAR checked
operation_code op.Apply m checked = form calls.APPLIES checked
operation_code op.CallCC m checked = form calls.CAPTURES checked

-- the code of the end by an error
abbrev pub error_code : ErrKind → List AsmItem
error_code kind.WrongType = ends.ERROR_1.now
error_code kind.Index = ends.ERROR_2.now
error_code kind.Unbound = ends.ERROR_3.now
error_code kind.NotProcedure = ends.ERROR_4.now
error_code kind.Count = ends.ERROR_5.now
error_code kind.Overflow = ends.ERROR_6.now
error_code kind.ZeroDivisor = ends.ERROR_7.now
error_code kind.Undefined = ends.ERROR_8.now
error_code kind.LiteralWritten = ends.ERROR_9.now

-- the code of a routine
abbrev pub code_of : Routine → List AsmItem
code_of routine.Start = ends.START.now
code_of routine.Finish = ends.FINISH.now
code_of (routine.Error kind) = error_code kind
code_of routine.Storage = ends.STORAGE.now
code_of routine.Io = ends.IO.now
code_of (routine.New mark.Local) = memory.NEW_LOCAL.now
code_of (routine.New mark.Global) = memory.NEW_GLOBAL.now
code_of routine.Save = memory.SAVE.now
code_of routine.Restore = memory.RESTORE.now
code_of (routine.Rest mark.Local) = memory.REST_LOCAL.now
code_of (routine.Rest mark.Global) = memory.REST_GLOBAL.now
code_of (routine.Copy mark.Local) = memory.COPY_LOCAL.now
code_of (routine.Copy mark.Global) = memory.COPY_GLOBAL.now
code_of (routine.Call checked) = form calls.CALLS checked
code_of routine.Apply = form calls.APPLIES true
code_of (routine.CallCC checked) = form calls.CAPTURES checked
code_of (routine.Operation o checked m) = operation_code o m checked

-- routines one after the other, each behind its label
abbrev pub text_of : List Routine → List AsmItem
text_of [] = []
text_of (r ∷ rest) = Here (label_of r) ∷ (code_of r ++ text_of rest)

abbrev pub text : List AsmItem
text = text_of ROUTINES.now

-- the labels that stand in a text
abbrev pub labels_in : List AsmItem → List Label
labels_in [] = []
labels_in (Code instr ∷ is) = labels_in is
labels_in (Here l ∷ is) = l ∷ labels_in is
labels_in (Address reg l added ∷ is) = labels_in is
labels_in (Jump link l ∷ is) = labels_in is
labels_in (Pool reg n ∷ is) = labels_in is

-- so many labels of routines, from a number on
abbrev pub routine_labels : (count from : ℕ) → List Label
routine_labels zero from = []
routine_labels (suc count) from = label.Routine from ∷ routine_labels count (suc from)
