-- `case` (R4RS 4.2.1), as a datum, and as it is read from nodes.
use Rattle.std.specs.Prelude.{List, Option, Some, None, if◌then◌else◌, codes}
use Rattle.std.specs.Option.{option_copied, option_map}
use Rattle.datum_form.specs.declared.datums.Node.{Node}
use Rattle.datum_form.specs.Data.{Datum, Datum as datum, Items}
use Rattle.datum_form.specs.Data.Items.{item}
use Rattle.datum_form.specs.Stands.{Stands, StandAll}
use Rattle.quasi_expand.specs.Agreement.{Agree}
use Rattle.quasi_expand.specs.Shapes.{are_clauses, is_case, is_word, list_of}
use Rattle.quasi_expand.specs.declared.case.Case.{Case}
use Rattle.quasi_expand.specs.declared.case.CaseClause.{CaseClause}

-- the data that the key is compared with, or none in an `else` clause, and the expressions
pub record Clause : Type 0 where
  pub given : Option Items
  pub chosen : Items

abbrev pub clause_for : Items → Items → Clause
clause_for ds es = record { given = Some ds; chosen = es }

abbrev pub clause_of : Datum → Option Clause
clause_of (datum.List p (item d (item e es))) =
    if is_word (codes "else") d then Some (record { given = None; chosen = item e es })
    else option_map (λ ds. clause_for ds (item e es)) (list_of d)
clause_of d = None

pub record IsClause (nodes : List Node) (found : CaseClause) (c : Clause) : Type 0 where
  pub given : Agree (StandAll nodes) (option_copied found.data) c.given
  pub chosen : StandAll nodes found.exprs.now c.chosen

-- the key and the clauses of a `case`
pub record Parts : Type 0 where
  pub key : Datum
  pub clauses : Items

-- the parts of a form of these items
abbrev pub case_of : Items → Option Parts
case_of (item w (item k cs)) = if are_clauses is_case cs then Some (record { key = k; clauses = cs }) else None
case_of ds = None

pub record IsCase (nodes : List Node) (found : Case) (c : Parts) : Type 0 where
  pub key : Stands nodes found.key c.key
  pub clauses : StandAll nodes found.clauses.now c.clauses
