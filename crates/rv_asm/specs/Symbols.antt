-- What the symbols of a layout are: the places in an image.
use Rattle.std.specs.Prelude.{◌+◌, ◌*◌, ◌^◌, ◌<◌, length}
use Rattle.std.specs.Option.{unwrap_or}
use Rattle.indexmap.specs.IndexMap.{get}
use Rattle.const_data.specs.declared.word.Label.{Label}
use Rattle.rv_asm.specs.declared.symbols.Symbols.{Symbols}
use Rattle.rv_asm.specs.Layout.{Placing, same_label}

abbrev pub placing_in : Symbols → Placing
placing_in s =
    record {
      in_text = λ l. get same_label s.places l;
      pool = s.pool.keys;
      words = s.words;
      data_start = s.data;
      heap_start = s.heap_start;
      heap_end = s.heap_end;
    }

-- each address is so small that its distance from another has 31 bits and a sign
pub record IsNear (p : Placing) : Type 0 where
  pub in_text : (l : Label) → unwrap_or (p.in_text l) 0 < 2 ^ 29
  pub pool_end : p.data_start + 8 * (p.words + length p.pool) < 2 ^ 29
  pub heap_start : p.heap_start < 2 ^ 29
  pub heap_end : p.heap_end < 2 ^ 30 + 2 ^ 29
