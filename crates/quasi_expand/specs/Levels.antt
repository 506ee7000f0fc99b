-- The expressions that are evaluated in the template of a quasiquote (R4RS 4.2.6), in the order of its text.
--
-- The level of a datum is how many further quasiquotes it stands in, less the unquotes: what is unquoted at level 0
-- is an expression.
use Rattle.std.specs.Prelude.{ℕ, zero, suc, if◌then◌else◌, codes}
use Rattle.datum_form.specs.Data.{Datum, Datum as datum, Items}
use Rattle.datum_form.specs.Data.Items.{none, item}
use Rattle.quasi_expand.specs.Shapes.{is_word}

-- items behind others
abbrev pub joined : Items → Items → Items
joined none es = es
joined (item d ds) es = item d (joined ds es)

-- what is unquoted is an expression, or a template at the level below
abbrev pub unquoted : ℕ → Datum → (ℕ → Items) → Items
unquoted zero e inside = item e none
unquoted (suc n) e inside = inside n

abbrev mutual
  -- of a datum at a level
  pub evaluated : Datum → ℕ → Items
  evaluated (datum.Atomic p a) n = none
  evaluated (datum.List p is) n = in_list is n
  evaluated (datum.Dotted p is d) n = joined (in_items is n) (evaluated d n)
  evaluated (datum.Vector p is) n = in_list is n

  -- of a list, whose last two items can be a word and what it marks
  pub in_list : Items → ℕ → Items
  in_list none n = none
  in_list (item d (item e none)) n =
      if is_word (codes "unquote") d then unquoted n e (evaluated e)
      else
      (if is_word (codes "quasiquote") d then evaluated e (suc n)
      else joined (in_item d n (evaluated d n)) (in_item e n (evaluated e n)))
  in_list (item d ds) n = joined (in_item d n (evaluated d n)) (in_list ds n)

  pub in_items : Items → ℕ → Items
  in_items none n = none
  in_items (item d ds) n = joined (in_item d n (evaluated d n)) (in_items ds n)

  -- of an item in which these stand, unless it is spliced
  pub in_item : Datum → ℕ → (inside : Items) → Items
  in_item (datum.List p (item d (item e none))) n inside =
      if is_word (codes "unquote-splicing") d then unquoted n e (evaluated e) else inside
  in_item d n inside = inside
