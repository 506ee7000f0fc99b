-- The numbers of literals and the names of fresh variables, in the order of the core's text.
--
-- Literals are numbered from 0, each before its parts. The k-th fresh variable is named `.k`, counted from 1,
-- which is no name of R4RS.
use Rattle.std.specs.Prelude.{ℕ, suc, ◌+◌, nat_eq, List, [], ◌∷◌, ◌++◌, Option, Some, None, true, false, if◌then◌else◌, codes}
use Rattle.std.specs.Fmt.{decimal}
use Rattle.scheme_base.specs.declared.lit.Lit.{Lit}
use Rattle.scheme_base.specs.declared.lit.Lit.TheVariants as lit
use Rattle.scheme_base.specs.Constants.{Constant, Constant as constant, Constants}
use Rattle.scheme_base.specs.Constants.Constants.{none as no_constant, item as constant_before}
use Rattle.core_form.specs.declared.program.Var.{Var}
use Rattle.core_form.specs.Trees.{Tree, Trees}
use Rattle.core_form.specs.Trees as tree
use Rattle.draft_form.specs.Drafts.{Name, Draft, Drafts, Part, Local, Fresh, Top, Library, Const, Symbols, Ref, Lambda, If, Set, Call, Prim, Seq, Fix, Define, none, item, Held, ListsSymbols, Referred, Changed, parts, all_parts}

-- Literals

abbrev mutual
  -- how many literals a constant and its parts are
  pub size : Constant → ℕ
  size (constant.Pair a d) = suc (size a + size d)
  size (constant.Vector cs) = suc (sizes cs)
  size c = 1

  pub sizes : Constants → ℕ
  sizes no_constant = 0
  sizes (constant_before c cs) = size c + sizes cs

-- the numbers of these constants, the first of which is i
abbrev pub numbers_from : ℕ → Constants → List ℕ
numbers_from i no_constant = []
numbers_from i (constant_before c cs) = i ∷ numbers_from (i + size c) cs

abbrev mutual
  -- the literals from number i on that are a constant and its parts
  pub laid : ℕ → Constant → List Lit
  laid i (constant.Integer z) = lit.Integer z ∷ []
  laid i (constant.Boolean b) = lit.Boolean b ∷ []
  laid i (constant.Character byte) = lit.Char byte ∷ []
  laid i constant.Nil = lit.Nil ∷ []
  laid i constant.Unspecified = lit.Unspecified ∷ []
  laid i constant.Undefined = lit.Undefined ∷ []
  laid i (constant.Symbol x) = lit.Symbol x ∷ []
  laid i (constant.String bytes) = lit.Text bytes ∷ []
  laid i (constant.Pair a d) = lit.Pair (suc i) (suc i + size a) ∷ (laid (suc i) a ++ laid (suc i + size a) d)
  laid i (constant.Vector cs) = lit.Vector (numbers_from (suc i) cs) ∷ all_laid (suc i) cs

  pub all_laid : ℕ → Constants → List Lit
  all_laid i no_constant = []
  all_laid i (constant_before c cs) = laid i c ++ all_laid (i + size c) cs

abbrev pub laid_list : ℕ → List Constant → List Lit
laid_list i [] = []
laid_list i (c ∷ cs) = laid i c ++ laid_list (i + size c) cs

-- the constants of a text, where this is the list of its symbols
abbrev pub constants : (symbols : Constant) → List Part → List Constant
constants symbols [] = []
constants symbols (Held c ∷ found) = c ∷ constants symbols found
constants symbols (ListsSymbols ∷ found) = symbols ∷ constants symbols found
constants symbols (Referred x ∷ found) = constants symbols found
constants symbols (Changed x ∷ found) = constants symbols found

abbrev pub all_sizes : List Constant → ℕ
all_sizes [] = 0
all_sizes (c ∷ cs) = size c + all_sizes cs

-- Fresh variables

abbrev pub fresh_in : List Name → ℕ
fresh_in [] = 0
fresh_in (Fresh k ∷ xs) = suc (fresh_in xs)
fresh_in (x ∷ xs) = fresh_in xs

abbrev mutual
  -- how many fresh variables a draft binds
  pub bound_fresh : Draft → ℕ
  bound_fresh (Const p c) = 0
  bound_fresh (Symbols p) = 0
  bound_fresh (Ref p x) = 0
  bound_fresh (Lambda p xs r e) = fresh_in xs + bound_fresh e
  bound_fresh (If p test this that) = bound_fresh test + (bound_fresh this + bound_fresh that)
  bound_fresh (Set p x e) = bound_fresh e
  bound_fresh (Call p e es) = bound_fresh e + all_bound_fresh es
  bound_fresh (Prim p o es) = all_bound_fresh es
  bound_fresh (Seq p es) = all_bound_fresh es
  bound_fresh (Fix p xs es e) = fresh_in xs + (all_bound_fresh es + bound_fresh e)
  bound_fresh (Define p x e) = bound_fresh e

  pub all_bound_fresh : Drafts → ℕ
  all_bound_fresh none = 0
  all_bound_fresh (item e es) = bound_fresh e + all_bound_fresh es

-- the number of the fresh variable of each level, where that has one
abbrev pub Given : Type 0
Given = ℕ → ℕ

abbrev pub give : Given → (level number : ℕ) → Given
give g k n = λ j. if nat_eq j k then n else g j

-- so many fresh variables have been numbered before these
abbrev pub give_all : Given → ℕ → List Name → Given
give_all g n [] = g
give_all g n (Fresh k ∷ xs) = give_all (give g k (suc n)) (suc n) xs
give_all g n (x ∷ xs) = give_all g n xs

abbrev pub var : List ℕ → Var
var x = record { name = x; lib = false }

abbrev pub named : Given → Name → Var
named g (Local k x) = var x
named g (Fresh k) = var (codes "." ++ decimal (g k))
named g (Top x) = var x
named g (Library x) = record { name = x; lib = true }

abbrev pub all_named : Given → List Name → List Var
all_named g [] = []
all_named g (x ∷ xs) = named g x ∷ all_named g xs

abbrev pub maybe_named : Given → Option Name → Option Var
maybe_named g None = None
maybe_named g (Some x) = Some (named g x)

-- Cores

-- how many literals and how many fresh variables stand before
pub record At : Type 0 where
  pub literals : ℕ
  pub fresh : ℕ

abbrev pub past : At → (literals fresh : ℕ) → At
past at n m = record { literals = at.literals + n; fresh = at.fresh + m }

abbrev pub literals_in : Constant → List Part → ℕ
literals_in symbols found = all_sizes (constants symbols found)

abbrev pub after : Constant → At → Draft → At
after symbols at e = past at (literals_in symbols (parts e)) (bound_fresh e)

abbrev pub after_all : Constant → At → Drafts → At
after_all symbols at es = past at (literals_in symbols (all_parts es)) (all_bound_fresh es)

abbrev pub after_names : At → List Name → At
after_names at xs = record at { fresh = at.fresh + fresh_in xs }

abbrev mutual
  pub numbered : (symbols : Constant) → Given → At → Draft → Tree Var
  numbered symbols g at (Const p c) = tree.Const p at.literals
  numbered symbols g at (Symbols p) = tree.Const p at.literals
  numbered symbols g at (Ref p x) = tree.Ref p (named g x)
  numbered symbols g at (Lambda p xs r e) =
      let h : Given = give_all g at.fresh xs in
      tree.Lambda p (all_named h xs) (maybe_named h r) (numbered symbols h (after_names at xs) e)
  numbered symbols g at (If p test this that) =
      let next : At = after symbols at test in
      tree.If p (numbered symbols g at test) (numbered symbols g next this) (numbered symbols g (after symbols next this) that)
  numbered symbols g at (Set p x e) = tree.Set p (named g x) (numbered symbols g at e)
  numbered symbols g at (Call p e es) =
      tree.Call p (numbered symbols g at e) (all_numbered symbols g (after symbols at e) es)
  numbered symbols g at (Prim p o es) = tree.Prim p o (all_numbered symbols g at es)
  numbered symbols g at (Seq p es) = tree.Seq p (all_numbered symbols g at es)
  numbered symbols g at (Fix p xs es e) =
      let h : Given = give_all g at.fresh xs in
      let next : At = after_names at xs in
      tree.Fix p (all_named h xs) (all_numbered symbols h next es) (numbered symbols h (after_all symbols next es) e)
  numbered symbols g at (Define p x e) = tree.Define p (named g x) (numbered symbols g at e)

  pub all_numbered : (symbols : Constant) → Given → At → Drafts → Trees Var
  all_numbered symbols g at none = tree.none
  all_numbered symbols g at (item e es) =
      tree.item (numbered symbols g at e) (all_numbered symbols g (after symbols at e) es)
