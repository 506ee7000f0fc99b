-- The symbols of data, and of the constants of a text.
use Rattle.std.specs.Prelude.{ℕ, ◌≡◌, List as Seq, [], ◌∷◌, ◌++◌, drop, reverse, slice_get, Option, Some, None}
use Rattle.std.specs.Borrow.{Bor}
use Rattle.datum_form.specs.declared.datums.Kind.{Kind}
use Rattle.datum_form.specs.declared.datums.Kind.TheVariants as kind
use Rattle.datum_form.specs.declared.datums.Node.{Node}
use Rattle.datum_form.specs.Data.{Items}
use Rattle.datum_form.specs.Data.Items.{none, item}
use Rattle.datum_form.specs.Stands.{StandAll}
use Rattle.draft_form.specs.declared.draft.Constant.{Constant as Quoted}
use Rattle.draft_form.specs.declared.draft.Constant.TheVariants as quoted
use Rattle.draft_form.specs.Drawn.{Names}
use Rattle.draft_form.specs.Quoted.{constant_of}
use Rattle.scheme_expand.specs.ByWord.{HaveOneWord, AreTaken}
use Rattle.scheme_expand.specs.declared.first.Firsts.{Firsts}
use Rattle.scheme_expand.specs.Noted.{level_in}
use Rattle.scheme_expand.specs.Programs.{symbols_in}

abbrev pub item_symbols : Items → Seq (Seq ℕ)
item_symbols none = []
item_symbols (item d ds) = symbols_in (constant_of d) ++ item_symbols ds

-- the word of a node is that of its name, if it is one
abbrev pub IsSpelled : Names → Kind → Option ℕ → Type 0
IsSpelled names (kind.Name x) word = (w : ℕ) × (y : Bor (Seq ℕ)) × (word ≡ Some w) × (slice_get names w ≡ Some y) × (y.now ≡ x)
IsSpelled names k word = word ≡ None

abbrev pub AreSpelled : Names → Seq Node → Seq (Option ℕ) → Type 0
AreSpelled names nodes words =
    (id : ℕ) (node : Node) → slice_get nodes id ≡ Some node → IsSpelled names node.kind (level_in (slice_get words id))

-- what a list or a vector has from an index on
abbrev pub items_from : (from : ℕ) → Kind → Seq ℕ
items_from from (kind.List ids None) = drop from ids
items_from from (kind.List ids (Some tail)) = drop from ids ++ tail ∷ []
items_from from (kind.Vector ids) = drop from ids
items_from from k = []

abbrev pub items_of : (from : ℕ) → Option Node → Seq ℕ
items_of from None = []
items_of from (Some node) = items_from from node.kind

-- the data that a constant is of
abbrev pub data_of : Seq Node → Quoted → Seq ℕ
data_of nodes (quoted.Datum id) = id ∷ []
data_of nodes (quoted.Rest id from) = items_of from (slice_get nodes id)
data_of nodes h = []

-- the data that wait, of which the last is next, have these symbols
abbrev pub Wait : Seq Node → (waiting : Seq ℕ) → Seq (Seq ℕ) → Type 0
Wait nodes waiting xs = (ds : Items) × StandAll nodes (reverse waiting) ds × (xs ≡ item_symbols ds)

-- a text of these names is taken, whatever is listed and was taken before
abbrev pub TakesNames : Names → Seq (Seq ℕ) → (before after : Firsts) → Type 0
TakesNames names xs before after =
    (listed text : Seq (Seq ℕ)) → HaveOneWord names listed → AreTaken names listed text before
    → AreTaken names listed (text ++ xs) after

-- some of these names are taken, and the data that wait have the others
pub record TakesSome (names : Names) (nodes : Seq Node) (xs : Seq (Seq ℕ)) (waiting : Seq ℕ) (before after : Firsts) : Type 0 where
  pub taken : Seq (Seq ℕ)
  pub others : Seq (Seq ℕ)
  pub whole : xs ≡ taken ++ others
  pub takes : TakesNames names taken before after
  pub wait : Wait nodes waiting others
