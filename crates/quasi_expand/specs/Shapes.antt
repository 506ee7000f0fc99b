-- What data are, as far as shapes ask.
use Rattle.std.specs.Prelude.{ℕ, List, Option, Some, None, Bool, true, false, not, ◌&&◌, ◌||◌, codes}
use Rattle.std.specs.Str.{bytes_eq}
use Rattle.datum_form.specs.declared.token.Atom.TheVariants.{Symbol}
use Rattle.datum_form.specs.Data.{Datum, Datum as datum, Items}
use Rattle.datum_form.specs.Data.Items.{none, item}

-- Words

abbrev pub is_name : Datum → Bool
is_name (datum.Atomic p (Symbol x)) = true
is_name d = false

-- the datum is this word
abbrev pub is_word : List ℕ → Datum → Bool
is_word x (datum.Atomic p (Symbol y)) = bytes_eq y x
is_word x d = false

-- Lists

-- a list, perhaps empty
abbrev pub is_list : Datum → Bool
is_list (datum.List p is) = true
is_list d = false

abbrev pub list_of : Datum → Option Items
list_of (datum.List p is) = Some is
list_of d = None

abbrev pub is_none : Items → Bool
is_none none = true
is_none ds = false

abbrev pub all_items : (Datum → Bool) → Items → Bool
all_items test none = true
all_items test (item d ds) = test d && all_items test ds

-- a list of such data
abbrev pub is_list_of : (Datum → Bool) → Datum → Bool
is_list_of test (datum.List p is) = all_items test is
is_list_of test d = false

-- at least one clause, each in its shape
abbrev pub are_clauses : (shape : (last : Bool) → Datum → Bool) → Items → Bool
are_clauses shape none = false
are_clauses shape (item d none) = shape true d
are_clauses shape (item d (item e ds)) = shape false d && are_clauses shape (item e ds)

-- a clause of a `case`, the last one or not
abbrev pub is_case : (last : Bool) → Datum → Bool
is_case last (datum.List p (item d ds)) = (is_list d || last && is_word (codes "else") d) && not (is_none ds)
is_case last d = false

-- the binding of a `do`: a name, an expression, and perhaps another
abbrev pub is_step : Datum → Bool
is_step (datum.List p (item (datum.Atomic q (Symbol x)) (item e none))) = true
is_step (datum.List p (item (datum.Atomic q (Symbol x)) (item e (item f none)))) = true
is_step d = false
