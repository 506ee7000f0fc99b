-- The kinds of operands, as the table of the code has them.
use Rattle.scheme_base.specs.Operands as operand
use Rattle.repr_choice.specs.declared.wanted.Wanted.{Wanted}
use Rattle.repr_choice.specs.declared.wanted.Wanted.TheVariants as wanted

abbrev pub kind_of : Wanted → operand.Kind
kind_of wanted.Any = operand.Any
kind_of wanted.Integer = operand.AnInteger
kind_of wanted.Character = operand.ACharacter
kind_of wanted.Pair = operand.APair
kind_of wanted.Text = operand.AString
kind_of wanted.Vector = operand.AVector
kind_of wanted.Symbol = operand.ASymbol
