use Rattle.std.proofs.Common.{◌≡◌, ◌++◌, drop, length}
use Rattle.flat_form.specs.FlatWritten.{form}
use Rattle.const_data.specs.Words.{all_symbols, symbol_at}
use Rattle.const_data.proofs.words.put_symbols.Given as goal

abbrev pub invariant-loop-lit : goal.invariant-loop-lit
invariant-loop-lit l =
    record {
      counted : l.number ≡ l.lit-index;
      words : l.words ++ all_symbols (form l.flat) l.lit-index (drop l.lit-index l.flat.lits) ≡ l.initial.words ++ all_symbols (form l.flat) 0 l.flat.lits;
      end : length l.words ≡ symbol_at (form l.flat) l.lit-index;
    }
