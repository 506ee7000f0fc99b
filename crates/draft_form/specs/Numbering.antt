-- How a core is made of drafts: what the visits that are still to be done lead to.
use Rattle.std.specs.Prelude.{ℕ, ◌+◌, ◌≡◌, List, [], ◌∷◌, ◌++◌, Option, Some, None, length, map, reverse, slice_get}
use Rattle.std.specs.Option.{option_map}
use Rattle.std.specs.Borrow.{Bor}
use Rattle.scheme_base.specs.declared.pos.Pos.{Pos}
use Rattle.scheme_base.specs.declared.lit.Lit.{Lit}
use Rattle.scheme_base.specs.Constants.{Constant}
use Rattle.datum_form.specs.declared.datums.Node.{Node as DatumNode}
use Rattle.core_form.specs.declared.program.Node.{Node}
use Rattle.core_form.specs.declared.program.Var.{Var}
use Rattle.core_form.specs.declared.program.What.{What}
use Rattle.core_form.specs.declared.program.What.TheVariants as form
use Rattle.core_form.specs.Trees.{Tree, Trees, IsNode, Stands, count}
use Rattle.core_form.specs.Trees as tree
use Rattle.draft_form.specs.declared.draft.Constant.{Constant as Held}
use Rattle.draft_form.specs.declared.draft.Drafts.{Drafts as Table}
use Rattle.draft_form.specs.declared.draft.Variable.{Variable}
use Rattle.draft_form.specs.declared.growing.Growing.{Growing}
use Rattle.draft_form.specs.declared.level.Levels.{Levels}
use Rattle.draft_form.specs.declared.level.Visit.{Visit}
use Rattle.draft_form.specs.declared.level.Visit.TheVariants.{Begin, End, Restore}
use Rattle.draft_form.specs.declared.number.Text.{Text}
use Rattle.draft_form.specs.Drafts.{Draft, Part, parts}
use Rattle.draft_form.specs.Drawn.{Drawn, name_of, word_name}
use Rattle.draft_form.specs.Growing.{Takes}
use Rattle.draft_form.specs.Numbers.{Given, At, give, give_all, named, fresh_in, bound_fresh, constants, laid_list, numbered}
use Rattle.draft_form.specs.Parts.{bound_in, ids_in}
use Rattle.draft_form.specs.Quoted.{AddsHeld, symbol_list}

-- The numbers of levels

abbrev pub number_or_none : Option ℕ → ℕ
number_or_none None = 0
number_or_none (Some n) = n

abbrev pub number_in : List ℕ → Given
number_in numbers level = number_or_none (slice_get numbers level)

abbrev pub Gives : List ℕ → Given → Type 0
Gives numbers g = (level : ℕ) → number_in numbers level ≡ g level

abbrev pub var_of : List (Bor (List ℕ)) → Given → Variable → Var
var_of words g v = named g (name_of words v)

-- Expressions and their parts

-- this is the expression with its variables named, and with parts of these numbers
abbrev pub IsClosed : (Variable → Var) → What Variable → List ℕ → What Var → Type 0
IsClosed f (form.Lambda vs r b) ids what = (body : ℕ) × (ids ≡ body ∷ []) × (what ≡ form.Lambda (map f vs) (option_map f r) body)
IsClosed f (form.If a b c) ids what = (test : ℕ) × (this : ℕ) × (that : ℕ) × (ids ≡ test ∷ this ∷ that ∷ []) × (what ≡ form.If test this that)
IsClosed f (form.Set v e) ids what = (value : ℕ) × (ids ≡ value ∷ []) × (what ≡ form.Set (f v) value)
IsClosed f (form.Call e es) ids what = (operator : ℕ) × (operands : List ℕ) × (ids ≡ operator ∷ operands) × (length operands ≡ length es) × (what ≡ form.Call operator operands)
IsClosed f (form.Prim o es) ids what = (length ids ≡ length es) × (what ≡ form.Prim o ids)
IsClosed f (form.Seq es) ids what = (length ids ≡ length es) × (what ≡ form.Seq ids)
IsClosed f (form.Fix vs es e) ids what = (lambdas : List ℕ) × (body : ℕ) × (ids ≡ lambdas ++ body ∷ []) × (length lambdas ≡ length es) × (what ≡ form.Fix (map f vs) lambdas body)
IsClosed f (form.Define v e) ids what = (value : ℕ) × (ids ≡ value ∷ []) × (what ≡ form.Define (f v) value)
IsClosed f w ids what = ⊥

-- the last expressions that are done are taken as its parts
abbrev pub Closes : (Variable → Var) → What Variable → (before after : Growing) → What Var → Type 0
Closes f w before after what = (ids : List ℕ) × Takes before after ids × IsClosed f w ids what

-- the literals of a constant are added, of which this is the first
abbrev pub AddsLiteral : Constant → List DatumNode → List Held → ℕ → (before after : Growing) → ℕ → Type 0
AddsLiteral symbols nodes constants k before after number =
    (h : Held) × (slice_get constants k ≡ Some h) × (number ≡ length before.lits.items)
    × AddsHeld symbols nodes h before.lits.items after.lits.items × (after.exprs ≡ before.exprs)
    × (after.forms ≡ before.forms) × (after.done ≡ before.done)

-- a tree is this expression, but for its parts
abbrev pub HasHead : (Variable → Var) → What Variable → Pos → Tree Var → Type 0
HasHead f (form.Lambda vs r b) p t = (e : Tree Var) × (t ≡ tree.Lambda p (map f vs) (option_map f r) e)
HasHead f (form.If a b c) p t = (d : Tree Var) × (e : Tree Var) × (g : Tree Var) × (t ≡ tree.If p d e g)
HasHead f (form.Set v b) p t = (e : Tree Var) × (t ≡ tree.Set p (f v) e)
HasHead f (form.Call b bs) p t = (e : Tree Var) × (es : Trees Var) × (length bs ≡ count es) × (t ≡ tree.Call p e es)
HasHead f (form.Prim o bs) p t = (es : Trees Var) × (length bs ≡ count es) × (t ≡ tree.Prim p o es)
HasHead f (form.Seq bs) p t = (es : Trees Var) × (length bs ≡ count es) × (t ≡ tree.Seq p es)
HasHead f (form.Fix vs bs b) p t = (es : Trees Var) × (e : Tree Var) × (length bs ≡ count es) × (t ≡ tree.Fix p (map f vs) es e)
HasHead f (form.Define v b) p t = (e : Tree Var) × (t ≡ tree.Define p (f v) e)
HasHead f w p t = ⊥

-- Trees that are done, the last first

abbrev pub done_then : Trees Var → List (Tree Var) → List (Tree Var)
done_then tree.none ds = ds
done_then (tree.item e es) ds = done_then es (e ∷ ds)

abbrev pub parts_then : Tree Var → List (Tree Var) → List (Tree Var)
parts_then (tree.Const p l) ds = ds
parts_then (tree.Ref p x) ds = ds
parts_then (tree.Lambda p xs r e) ds = e ∷ ds
parts_then (tree.If p a b c) ds = c ∷ b ∷ a ∷ ds
parts_then (tree.Set p x e) ds = e ∷ ds
parts_then (tree.Call p e es) ds = done_then es (e ∷ ds)
parts_then (tree.Prim p o es) ds = done_then es ds
parts_then (tree.Seq p es) ds = done_then es ds
parts_then (tree.Fix p xs es e) ds = e ∷ done_then es ds
parts_then (tree.Define p x e) ds = e ∷ ds

-- the numbers, of which the last was done last, stand for these
abbrev pub AreDone : List (Node Var) → List ℕ → List (Tree Var) → Type 0
AreDone exprs ids [] = ids ≡ []
AreDone exprs ids (d ∷ ds) =
    (others : List ℕ) × (id : ℕ) × (ids ≡ others ++ id ∷ []) × Stands exprs id d × AreDone exprs others ds

-- Walks through drafts

-- the list of the core's symbols
abbrev pub symbols_of : Text → Constant
symbols_of text = symbol_list (map (word_name text.words.now) text.symbols.now)

-- the literals with those of these parts behind them
abbrev pub with_literals : Constant → List Lit → List Part → List Lit
with_literals symbols lits found = lits ++ laid_list (length lits) (constants symbols found)

abbrev pub at_of : List Lit → ℕ → At
at_of lits n = record { literals = length lits; fresh = n }

-- what is walked through, what was there before, and the end
pub record Walk : Type 0 where
  pub words : List (Bor (List ℕ))
  pub nodes : List DatumNode
  pub table : Table
  pub symbols : Constant
  pub exprs : List (Node Var)
  pub forms : List ℕ
  pub given : Given
  pub lits : List Lit
  pub fresh : ℕ
  pub done : List (Tree Var)

-- what was there before a walk, and the end
pub record Course : Type 0 where
  pub exprs : List (Node Var)
  pub forms : List ℕ
  pub given : Given
  pub lits : List Lit
  pub fresh : ℕ
  pub done : List (Tree Var)

-- a walk through the drafts of a text
abbrev pub walk : Text → Course → Walk
walk text c =
    record {
      words = text.words.now;
      nodes = text.nodes.now;
      table = text.drafts.now;
      symbols = symbols_of text;
      exprs = c.exprs;
      forms = c.forms;
      given = c.given;
      lits = c.lits;
      fresh = c.fresh;
      done = c.done;
    }

abbrev pub Expects : Walk → List Visit → Given → List Lit → ℕ → List (Tree Var) → Type 0
Expects w [] g lits n ds = ((level : ℕ) → g level ≡ w.given level) × (lits ≡ w.lits) × (n ≡ w.fresh) × (ds ≡ w.done)
Expects w (Begin id ∷ vs) g lits n ds =
    (e : Draft) × Drawn w.words w.nodes w.table id e
    × Expects w vs g (with_literals w.symbols lits (parts e)) (n + bound_fresh e) (numbered w.symbols g (at_of lits n) e ∷ ds)
Expects w (End id ∷ vs) g lits n ds =
    (what : What Variable) × (p : Pos) × (e : Tree Var) × (below : List (Tree Var)) × IsNode w.table.exprs.items id what p
    × HasHead (var_of w.words g) what p e × (ds ≡ parts_then e below) × Expects w vs g lits n (e ∷ below)
Expects w (Restore level number ∷ vs) g lits n ds =
    (h : Given) × ((other : ℕ) → give g level number other ≡ h other) × Expects w vs h lits n ds

-- the state of a walk
pub record Shows (w : Walk) (levels : Levels) (growing : Growing) (g : Given) (lits : List Lit) (n : ℕ) (ds : List (Tree Var)) : Type 0 where
  pub gives : Gives levels.numbers.items g
  pub fresh : levels.fresh ≡ n
  pub literals : growing.lits.items ≡ lits
  pub done : AreDone growing.exprs growing.done.items ds
  pub more : List (Node Var)
  pub exprs : growing.exprs ≡ w.exprs ++ more
  pub forms : growing.forms ≡ w.forms

abbrev pub Goes : Walk → List Visit → Levels → Growing → Type 0
Goes w visits levels growing =
    (g : Given) × (lits : List Lit) × (n : ℕ) × (ds : List (Tree Var)) × Shows w levels growing g lits n ds
    × Expects w (reverse visits) g lits n ds

-- the fresh variables of these are numbered, and the numbers that they had are restored later
pub record NumbersAll (words : List (Bor (List ℕ))) (variables : List Variable) (before after : Levels) (visits later : List Visit) (g : Given) : Type 0 where
  pub gives : Gives after.numbers.items (give_all g before.fresh (map (name_of words) variables))
  pub fresh : after.fresh ≡ before.fresh + fresh_in (map (name_of words) variables)
  pub expects : (w : Walk) (lits : List Lit) (n : ℕ) (ds : List (Tree Var)) → Expects w (reverse visits) g lits n ds
      → Expects w (reverse later) (give_all g before.fresh (map (name_of words) variables)) lits n ds

-- the variables that an expression binds are numbered, and its parts are visited before its end
abbrev pub Opens : List (Bor (List ℕ)) → ℕ → What Variable → (before after : Levels) → (visits later : List Visit) → Type 0
Opens words id what before after visits later =
    (middle : List Visit) × ((g : Given) → Gives before.numbers.items g → NumbersAll words (bound_in what) before after visits middle g)
    × (later ≡ (middle ++ End id ∷ []) ++ map (λ part. Begin part) (reverse (ids_in what)))
