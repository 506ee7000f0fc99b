-- What is known of the symbols' names on the way through a program's literals.
use Rattle.std.specs.Prelude.{ℕ, ◌+◌, ◌≡◌, nat_lt, if◌then◌else◌, List, slice_get, Option, Some, None, Bool}
use Rattle.std.specs.Borrow.{Bor}
use Rattle.std.specs.Str.{bytes_eq}
use Rattle.indexmap.specs.IndexMap.{get}
use Rattle.scheme_base.specs.declared.lit.Lit.{Lit}
use Rattle.scheme_base.specs.Literals.{first_symbol}
use Rattle.const_data.specs.declared.names.Names.{Names}
use Rattle.const_data.specs.Words.{symbols_before}

abbrev pub Literals : Type 0
Literals = List Lit

-- where the symbol of literal i stands, if the first symbol stands at this word
abbrev pub symbol_word : (first : ℕ) → List Lit → (i : ℕ) → ℕ
symbol_word first lits i = first + symbols_before lits 0 lits i

-- where the symbol of a name stands, if it is among the first i literals
abbrev pub found_in : (first : ℕ) → List Lit → (i : ℕ) → (name : List ℕ) → Option ℕ
found_in first lits i name =
    if nat_lt (first_symbol name lits 0) i then Some (symbol_word first lits (first_symbol name lits 0)) else None

abbrev pub same_text : Bor (List ℕ) → Bor (List ℕ) → Bool
same_text a b = bytes_eq a.now b.now

-- the names of the symbols among the first i literals are known
pub record Knows (first : ℕ) (lits : List Lit) (i : ℕ) (names : Names) : Type 0 where
  pub next : names.next ≡ symbol_word first lits i
  pub words : (name : Bor (List ℕ)) → get same_text names.words name ≡ found_in first lits i name.now

-- the next literal is noted
abbrev pub Notes : (old new : Names) → Lit → Type 0
Notes old new l =
    (first : ℕ) (lits : List Lit) (i : ℕ) → slice_get lits i ≡ Some l → Knows first lits i old → Knows first lits (i + 1) new
