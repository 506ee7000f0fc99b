-- `do` (R4RS 4.2.4), as a datum, and as it is read from nodes.
use Rattle.std.specs.Prelude.{List, Option, Some, None, if◌then◌else◌}
use Rattle.datum_form.specs.declared.datums.Node.{Node}
use Rattle.datum_form.specs.Data.{Datum, Datum as datum, Items}
use Rattle.datum_form.specs.Data.Items.{none, item}
use Rattle.datum_form.specs.Stands.{Stands, StandAll}
use Rattle.quasi_expand.specs.Agreement.{Agree}
use Rattle.quasi_expand.specs.Shapes.{all_items, is_name, is_step, list_of}
use Rattle.quasi_expand.specs.declared.do_loop.DoBinding.{DoBinding}
use Rattle.quasi_expand.specs.declared.do_loop.DoLoop.{DoLoop}

-- a variable, what it is first, and what it is in the next round, where that is written
pub record Step : Type 0 where
  pub name : Datum
  pub first : Datum
  pub next : Option Datum

abbrev pub step_of : Datum → Option Step
step_of (datum.List p (item v (item e none))) =
    if is_name v then Some (record { name = v; first = e; next = None }) else None
step_of (datum.List p (item v (item e (item f none)))) =
    if is_name v then Some (record { name = v; first = e; next = Some f }) else None
step_of d = None

pub record IsStep (nodes : List Node) (found : DoBinding) (s : Step) : Type 0 where
  pub name : Stands nodes found.name s.name
  pub first : Stands nodes found.init s.first
  pub next : Agree (Stands nodes) found.step s.next

-- the bindings of a `do`, its test with the results, and its commands
pub record Parts : Type 0 where
  pub steps : Items
  pub test : Datum
  pub results : Items
  pub commands : Items

-- the parts of a form with these bindings and this test clause, where these are lists
abbrev pub do_parts : Option Items → Option Items → Items → Option Parts
do_parts (Some bs) (Some (item e es)) cs =
    if all_items is_step bs then Some (record { steps = bs; test = e; results = es; commands = cs }) else None
do_parts bs es cs = None

-- the parts of a form of these items
abbrev pub do_of : Items → Option Parts
do_of (item w (item b (item c cs))) = do_parts (list_of b) (list_of c) cs
do_of ds = None

pub record IsDo (nodes : List Node) (found : DoLoop) (l : Parts) : Type 0 where
  pub steps : StandAll nodes found.bindings.now l.steps
  pub test : Stands nodes found.test l.test
  pub results : StandAll nodes found.results.now l.results
  pub commands : StandAll nodes found.commands.now l.commands
