-- The data of the library's text: it reads, nothing in it is broken, and its names differ.
use Rattle.std.proofs.Common.{◌≡◌, ℕ, List, [], length, ◌≤◌, leb-true, refl, sym, subst, ◌∙◌, append-nil}
use Rattle.prelude_text.specs.Text.{library_text}
use Rattle.datum_form.specs.Data.{Items, data_of}
use Rattle.datum_form.specs.declared.token.Token.{Token}
use Rattle.datum_form.specs.Syntax.{Syntax, IsText}
use Rattle.datum_form.specs.Text.{lexed}
use Rattle.datum_form.specs.Text.Ending.{Clean}
use Rattle.datum_reader.specs.Answer.{Reads, max_length, max_depth}
use Rattle.datum_reader.specs.Machine.{Run, start, run}
use Rattle.datum_reader.specs.Machine.Run.{On}
use Rattle.datum_reader.proofs.ReadingBeginsAText.{GoodRun, start_good}
use Rattle.datum_reader.proofs.OneAnswer.{same_data}
use Rattle.datum_reader.proofs.TokensFoundAreSpelled.{lexed_tokens}
use Rattle.scheme_expand.specs.Faults.{in_forms}
use Rattle.scheme_expand.specs.Programs.{library_forms}

tokens : List Token
tokens = (lexed library_text).tokens

abbrev trees_in : Run → List Syntax
trees_in (On n fs ss) = ss
trees_in r = []

unfoldable pub trees : List Syntax
trees = trees_in (run (start max_depth) (lexed library_text).tokens)

unfoldable pub library : Items
library = data_of trees

lexes : lexed library_text ≡ record { tokens = tokens; ending = Clean }
unfolding tokens
lexes = refl

runs : run (start max_depth) tokens ≡ On max_depth [] trees
unfolding tokens trees
runs = refl

text_of_run : (n : ℕ) (ts : List Token) (ss : List Syntax) → run (start n) ts ≡ On n [] ss → IsText n ts ss
text_of_run n ts ss e =
    let good = subst (λ r. GoodRun n ts r) e (start_good n ts) in
    record { within = good.within; whole = sym (append-nil ts) ∙ good.shows [] }

short : length library_text ≤ max_length
short = leb-true (length library_text) max_length refl

pub reads : Reads library_text library
unfolding library
reads = record {
  short = short;
  tokens = tokens;
  spelled = lexed_tokens (record { line = 1; col = 1 }) library_text tokens lexes;
  trees = trees;
  is_text = text_of_run max_depth tokens trees runs;
  read = refl;
}

pub unbroken : in_forms (library_forms library) ≡ []
unfolding library trees
unbroken = refl

-- any data that the text reads as are these
pub only : (ds : Items) → Reads library_text ds → ds ≡ library
only ds h = same_data library_text ds library h reads
