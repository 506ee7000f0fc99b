-- The steps that make a template, as they are put one after another, and what of a list they are put for.
use Rattle.std.specs.Prelude.{ℕ, suc, ◌≡◌, List as Seq, [], ◌∷◌, ◌++◌, length, drop, Option, Some, None, Bool, true, false, if◌then◌else◌, codes}
use Rattle.scheme_base.specs.declared.pos.Pos.{Pos}
use Rattle.scheme_base.specs.Constants.{Constant, Constant as constant}
use Rattle.datum_form.specs.declared.datums.Node.{Node}
use Rattle.datum_form.specs.declared.token.Atom.TheVariants.{Symbol}
use Rattle.datum_form.specs.Data.{Datum, Datum as datum, Items}
use Rattle.datum_form.specs.Stands.{Stands, StandAll}
use Rattle.draft_form.specs.Quoted.{constant_of, constant_list, IsTail, IsRestOf}
use Rattle.quasi_expand.specs.declared.template.Part.{Part}
use Rattle.quasi_expand.specs.declared.template.Part.TheVariants as part
use Rattle.quasi_expand.specs.declared.template.End.{End}
use Rattle.quasi_expand.specs.declared.template.End.TheVariants as end
use Rattle.quasi_expand.specs.declared.template.Listed.{Listed}
use Rattle.quasi_expand.specs.declared.template.Marked.{Marked}
use Rattle.quasi_expand.specs.declared.template.Mark.{Mark}
use Rattle.quasi_expand.specs.declared.template.Mark.TheVariants.{Unquote, Quasiquote}
use Rattle.quasi_expand.specs.Levels.{joined}
use Rattle.quasi_expand.specs.Making.{Makes, MakeAll, value, onto}
use Rattle.quasi_expand.specs.Shapes.{is_word}
use Rattle.quasi_expand.specs.Templates.{Template, Entry, Plain, One, is_plain, before, all_before, marked, unquoted, spliced, template, template_chain, entries, entry}

-- the expressions among some steps
abbrev pub exprs_in : Seq Part → Seq ℕ
exprs_in [] = []
exprs_in (part.Expr id ∷ ps) = id ∷ exprs_in ps
exprs_in (p ∷ ps) = exprs_in ps

-- steps are put behind others, and make this template, in which an expression stands
pub record Puts (nodes : Seq Node) (old new : Seq Part) (t : Template) : Type 0 where
  pub more : Seq Part
  pub longer : new ≡ old ++ more
  pub make : (s : Seq Template) → MakeAll nodes more s (t ∷ s)
  pub live : is_plain t ≡ false

-- the same, or else one step, for a literal
abbrev pub Gives : Seq Node → (found : Bool) → (old new : Seq Part) → Template → Type 0
Gives nodes true old new t = Puts nodes old new t
Gives nodes false old new t =
    (one : Part) × (new ≡ old ++ one ∷ []) × ((s : Seq Template) → Makes nodes one s (t ∷ s)) × (is_plain t ≡ true)

-- the same, or else no step, for a literal
abbrev pub MayGive : Seq Node → (found : Bool) → (old new : Seq Part) → Template → Type 0
MayGive nodes true old new t = Puts nodes old new t
MayGive nodes false old new t = (new ≡ old) × (is_plain t ≡ true)

-- the same, or else the step of a node as it stands
abbrev pub GivesAt : Seq Node → (node : ℕ) → (found : Bool) → (old new : Seq Part) → Template → Type 0
GivesAt nodes node true old new t = Puts nodes old new t
GivesAt nodes node false old new t = (new ≡ old ++ part.Datum node ∷ []) × (is_plain t ≡ true)

-- Items

-- all are literals
abbrev pub ArePlain : Seq Entry → Type 0
ArePlain [] = Unit {0}
ArePlain (e ∷ es) = (is_plain (value e) ≡ true) × ArePlain es

-- before this rest none of them is a part of a literal
abbrev pub Live : Seq Entry → (rest : Template) → Type 0
Live [] rest = Unit {0}
Live (e ∷ es) rest = (is_plain (before e (all_before es rest)) ≡ false) × Live es rest

-- Steps of items are put behind others. The last of the items, as many as are told, are literals, with one step each.
pub record Lists (nodes : Seq Node) (plain : ℕ) (found : Bool) (old new : Seq Part) (es : Seq Entry) : Type 0 where
  pub front : Seq Entry
  pub back : Seq Entry
  pub first : Seq Part
  pub later : Seq Part
  pub are : es ≡ front ++ back
  pub longer : new ≡ old ++ (first ++ later)
  pub make : (s : Seq Template) → MakeAll nodes first s (onto front s)
  pub make_later : (s : Seq Template) → MakeAll nodes later s (onto back s)
  pub many : length back ≡ plain
  pub steps : length later ≡ plain
  pub plain_later : ArePlain back
  pub live : found ≡ true → (rest : Template) → (is_plain (all_before front rest) ≡ false) × Live front rest
  pub none_before : found ≡ false → (front ≡ []) × (first ≡ [])

-- one item more, in which an expression stands or none does
abbrev pub IsNext : (found : Bool) → (old new : Listed) → Type 0
IsNext true old new = (new.found ≡ true) × (new.plain ≡ 0)
IsNext false old new = (new.found ≡ old.found) × (new.plain ≡ suc old.plain)

-- Lists

-- a tail stands for this datum, if there is one
abbrev pub TailStands : Seq Node → Option ℕ → Option Datum → Type 0
TailStands nodes None d = d ≡ None
TailStands nodes (Some id) d = (e : Datum) × Stands nodes id e × (d ≡ Some e)

abbrev pub tail_constant : Option Datum → Constant
tail_constant None = constant.Nil
tail_constant (Some d) = constant_of d

-- what a node has from an index on is what these items are from there on, before a tail
abbrev pub HasRests : Seq Node → (node : ℕ) → Seq ℕ → Option ℕ → Type 0
HasRests nodes node ids tail =
    (from : ℕ) (ds : Items) (t : Constant) → StandAll nodes (drop from ids) ds → IsTail nodes tail t
    → IsRestOf nodes node from (constant_list ds t)

-- the mark that a datum is
abbrev pub marks : Datum → Option Mark
marks d =
    if is_word (codes "unquote") d then Some Unquote
    else (if is_word (codes "quasiquote") d then Some Quasiquote else None)

-- this word marks a datum, and the list has no more items
pub record IsMarked (nodes : Seq Node) (x : Seq ℕ) (m : Marked) (e : Datum) : Type 0 where
  pub place : Pos
  pub named : Stands nodes m.name (datum.Atomic place (Symbol x))
  pub stands : Stands nodes m.operand e
  pub last : IsRestOf nodes m.node m.count constant.Nil

abbrev pub with_mark : (name operand node count : ℕ) → Marked
with_mark name operand node count = record { name = name; operand = operand; node = node; count = count }

-- what is spliced in an item, if it is
abbrev pub IsSpliced : Seq Node → (item : ℕ) → Option (ℕ × ℕ) → Datum → Type 0
IsSpliced nodes id None d = (n : ℕ) (t : Template) → entry d n t ≡ One t
IsSpliced nodes id (Some parts) d =
    (e : Datum) × IsMarked nodes (codes "unquote-splicing") (with_mark parts.0 parts.1 id 2) e
    × ((n : ℕ) (t : Template) → entry d n t ≡ spliced n e (template e))

-- the template that a list's end is, by level
abbrev pub EndsIn : Seq Node → (node count : ℕ) → End → (ℕ → Template) → Type 0
EndsIn nodes node count end.Empty inside = (n : ℕ) → inside n ≡ Plain constant.Nil
EndsIn nodes node count (end.Tail id) inside = (d : Datum) × Stands nodes id d × ((n : ℕ) → inside n ≡ template d n)
EndsIn nodes node count (end.Marked Unquote name id) inside =
    (e : Datum) × IsMarked nodes (codes "unquote") (with_mark name id node count) e
    × ((n : ℕ) → inside n ≡ unquoted (codes "unquote") n e (template e))
EndsIn nodes node count (end.Marked Quasiquote name id) inside =
    (e : Datum) × IsMarked nodes (codes "quasiquote") (with_mark name id node count) e
    × ((n : ℕ) → inside n ≡ marked (codes "quasiquote") (template e (suc n)))

-- the items before a list's end, and the template of that
pub record IsSplit (nodes : Seq Node) (ids : Seq ℕ) (end : End) (ds : Items) (tail : Option Datum) : Type 0 where
  pub items : Items
  pub others : Items
  pub inside : ℕ → Template
  pub stand : StandAll nodes ids items
  pub are : ds ≡ joined items others
  pub ends : (node count : ℕ) → (tail ≡ None → IsRestOf nodes node count constant.Nil) → EndsIn nodes node count end inside
  pub whole : (n : ℕ) → template_chain ds tail n ≡ all_before (entries items n) (inside n)
  pub literal : (n : ℕ) (c : Constant) → inside n ≡ Plain c → c ≡ constant_list others (tail_constant tail)
