-- The primitive operations' names, and the kinds of their operands and results.
use Rattle.std.specs.Prelude.{ℕ, List, [], ◌∷◌, codes}
use Rattle.scheme_base.specs.declared.op.Op.{Op}
use Rattle.scheme_base.specs.declared.op.Op.TheVariants as op

-- what an operation takes as an operand
pub data Kind : Type 0 where
  Any : Kind
  AnInteger : Kind
  ACharacter : Kind
  APair : Kind
  AString : Kind
  AVector : Kind
  ASymbol : Kind

-- what an operation gives
pub data Result : Type 0 where
  Truths : Result
  Numbers : Result
  Characters : Result
  -- a new object
  Made : Result
  -- something that its first operand holds
  Held : Result
  Nothing : Result
  -- a character or the end of the input
  FromInput : Result
  -- what a procedure gives that it calls
  Called : Result

abbrev pub name_of : Op → List ℕ
name_of op.Eqv = codes "%eqv?"
name_of op.IsPair = codes "%pair?"
name_of op.IsSymbol = codes "%symbol?"
name_of op.IsString = codes "%string?"
name_of op.IsVector = codes "%vector?"
name_of op.IsProcedure = codes "%procedure?"
name_of op.IsInteger = codes "%integer?"
name_of op.IsChar = codes "%char?"
name_of op.IsBoolean = codes "%boolean?"
name_of op.IsNull = codes "%null?"
name_of op.IsEof = codes "%eof?"
name_of op.Cons = codes "%cons"
name_of op.Car = codes "%car"
name_of op.Cdr = codes "%cdr"
name_of op.SetCar = codes "%set-car!"
name_of op.SetCdr = codes "%set-cdr!"
name_of op.Add = codes "%+"
name_of op.Subtract = codes "%-"
name_of op.Multiply = codes "%*"
name_of op.Quotient = codes "%quotient"
name_of op.Remainder = codes "%remainder"
name_of op.Modulo = codes "%modulo"
name_of op.Equals = codes "%="
name_of op.Less = codes "%<"
name_of op.CharToInteger = codes "%char->integer"
name_of op.IntegerToChar = codes "%integer->char"
name_of op.SymbolName = codes "%symbol-name"
name_of op.MakeSymbol = codes "%make-symbol"
name_of op.MakeString = codes "%make-string"
name_of op.MakeVector = codes "%make-vector"
name_of op.StringLength = codes "%string-length"
name_of op.VectorLength = codes "%vector-length"
name_of op.StringRef = codes "%string-ref"
name_of op.VectorRef = codes "%vector-ref"
name_of op.StringSet = codes "%string-set!"
name_of op.VectorSet = codes "%vector-set!"
name_of op.ReadChar = codes "%read-char"
name_of op.PeekChar = codes "%peek-char"
name_of op.WriteChar = codes "%write-char"
name_of op.Apply = codes "%apply"
name_of op.CallCC = codes "%call/cc"

-- operands from left to right
abbrev pub operands_of : Op → List Kind
operands_of op.Eqv = Any ∷ Any ∷ []
operands_of op.IsPair = Any ∷ []
operands_of op.IsSymbol = Any ∷ []
operands_of op.IsString = Any ∷ []
operands_of op.IsVector = Any ∷ []
operands_of op.IsProcedure = Any ∷ []
operands_of op.IsInteger = Any ∷ []
operands_of op.IsChar = Any ∷ []
operands_of op.IsBoolean = Any ∷ []
operands_of op.IsNull = Any ∷ []
operands_of op.IsEof = Any ∷ []
operands_of op.Cons = Any ∷ Any ∷ []
operands_of op.Car = APair ∷ []
operands_of op.Cdr = APair ∷ []
operands_of op.SetCar = APair ∷ Any ∷ []
operands_of op.SetCdr = APair ∷ Any ∷ []
operands_of op.Add = AnInteger ∷ AnInteger ∷ []
operands_of op.Subtract = AnInteger ∷ AnInteger ∷ []
operands_of op.Multiply = AnInteger ∷ AnInteger ∷ []
operands_of op.Quotient = AnInteger ∷ AnInteger ∷ []
operands_of op.Remainder = AnInteger ∷ AnInteger ∷ []
operands_of op.Modulo = AnInteger ∷ AnInteger ∷ []
operands_of op.Equals = AnInteger ∷ AnInteger ∷ []
operands_of op.Less = AnInteger ∷ AnInteger ∷ []
operands_of op.CharToInteger = ACharacter ∷ []
operands_of op.IntegerToChar = AnInteger ∷ []
operands_of op.SymbolName = ASymbol ∷ []
operands_of op.MakeSymbol = AString ∷ []
operands_of op.MakeString = AnInteger ∷ ACharacter ∷ []
operands_of op.MakeVector = AnInteger ∷ Any ∷ []
operands_of op.StringLength = AString ∷ []
operands_of op.VectorLength = AVector ∷ []
operands_of op.StringRef = AString ∷ AnInteger ∷ []
operands_of op.VectorRef = AVector ∷ AnInteger ∷ []
operands_of op.StringSet = AString ∷ AnInteger ∷ ACharacter ∷ []
operands_of op.VectorSet = AVector ∷ AnInteger ∷ Any ∷ []
operands_of op.ReadChar = []
operands_of op.PeekChar = []
operands_of op.WriteChar = ACharacter ∷ []
operands_of op.Apply = Any ∷ Any ∷ []
operands_of op.CallCC = Any ∷ []

abbrev pub result_of : Op → Result
result_of op.Eqv = Truths
result_of op.IsPair = Truths
result_of op.IsSymbol = Truths
result_of op.IsString = Truths
result_of op.IsVector = Truths
result_of op.IsProcedure = Truths
result_of op.IsInteger = Truths
result_of op.IsChar = Truths
result_of op.IsBoolean = Truths
result_of op.IsNull = Truths
result_of op.IsEof = Truths
result_of op.Cons = Made
result_of op.Car = Held
result_of op.Cdr = Held
result_of op.SetCar = Nothing
result_of op.SetCdr = Nothing
result_of op.Add = Numbers
result_of op.Subtract = Numbers
result_of op.Multiply = Numbers
result_of op.Quotient = Numbers
result_of op.Remainder = Numbers
result_of op.Modulo = Numbers
result_of op.Equals = Truths
result_of op.Less = Truths
result_of op.CharToInteger = Numbers
result_of op.IntegerToChar = Characters
result_of op.SymbolName = Held
result_of op.MakeSymbol = Made
result_of op.MakeString = Made
result_of op.MakeVector = Made
result_of op.StringLength = Numbers
result_of op.VectorLength = Numbers
result_of op.StringRef = Characters
result_of op.VectorRef = Held
result_of op.StringSet = Nothing
result_of op.VectorSet = Nothing
result_of op.ReadChar = FromInput
result_of op.PeekChar = FromInput
result_of op.WriteChar = Nothing
result_of op.Apply = Called
result_of op.CallCC = Called
