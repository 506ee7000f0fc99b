-- How the rows and atoms of a program are numbered.
--
-- Rows: the top-level variables; then procedure by procedure the row of its body, that of its results (of none for
-- procedure 0), its parameters, each rest parameter followed by the car and the cdr of its lists, and its steps.
-- A step has its variables' rows, then those of what it makes holds, of its arms, of its spine and items, or of the
-- continuation that it gives. The contents of literals come last.
--
-- Atoms: ten that each program has; the closures of the procedures from 1 on; the rest lists; what the steps make,
-- in their order; for each quoted object its pairs, its vectors and its strings, as far as it has such parts.
--
-- Variables are numbered as they are bound, blocks as `labelled` numbers them, so each list has its rows in order.
use Rattle.std.specs.Prelude.{ℕ, ◌+◌, ◌-◌, List, [], ◌∷◌, ◌++◌, length, replicate, Option, Some, None, Bool, true, false, if◌then◌else◌}
use Rattle.scheme_base.specs.declared.op.Op.{Op}
use Rattle.scheme_base.specs.declared.op.Op.TheVariants as op
use Rattle.named_form.specs.Code.{Code, Ends, Then, Act, Prim, If, Apply, CallCC, MakeBox, MakeHole, Written, single}
use Rattle.named_form.specs.Valid.{Form}
use Rattle.flow_constraints.specs.declared.flow.Entry.{Entry}
use Rattle.flow_constraints.specs.declared.flow.Flow.{Flow}
use Rattle.flow_constraints.specs.declared.flow.Kind.{Kind}
use Rattle.flow_constraints.specs.declared.flow.Kind.TheVariants.{Fixed, Closure, Pair, Vector, Text, Symbol, Boxed, Continuation}
use Rattle.flow_constraints.specs.declared.layout.Layout.{Layout}
use Rattle.flow_constraints.specs.declared.layout.Quoted.{Quoted}
use Rattle.flow_constraints.specs.Quoted.{quoted_all, unquoted}
use Rattle.flow_constraints.specs.declared.atoms.Which.{Which}
use Rattle.flow_constraints.specs.declared.atoms.Which.TheVariants.{Pairs, FreshPairs, Vectors, FreshVectors, Symbols, Continuations}

-- What a step has beside its variables

-- how many rows what an operation makes holds
abbrev pub prim_rows : Op → ℕ
prim_rows op.Cons = 2
prim_rows op.MakeVector = 1
prim_rows op.MakeSymbol = 1
prim_rows o = 0

-- how many rows a step has beside those of its variables
abbrev pub own_rows : {L : Type 0} → Act L → ℕ
own_rows (Prim o operands) = prim_rows o
own_rows (MakeBox from) = 1
own_rows MakeHole = 1
own_rows (CallCC operator) = 1
own_rows (If test this that) = 2
own_rows (Apply operator list) = 2
own_rows act = 0

-- what an operation makes that has its rows from this one on
abbrev pub prim_kinds : Op → (row : ℕ) → List Kind
prim_kinds op.Cons r = Pair r false ∷ []
prim_kinds op.MakeVector r = Vector r false ∷ []
prim_kinds op.MakeString r = Text false ∷ []
prim_kinds op.MakeSymbol r = Symbol r ∷ []
prim_kinds o r = []

-- what a step makes that binds this variable
abbrev pub made_kinds : {L : Type 0} → Act L → (var row : ℕ) → List Kind
made_kinds (Prim o operands) x r = prim_kinds o r
made_kinds (MakeBox from) x r = Boxed x ∷ []
made_kinds MakeHole x r = Boxed x ∷ []
made_kinds (CallCC operator) x r = Continuation x ∷ []
made_kinds act x r = []

-- what is made, if something is
abbrev pub option_kinds : Option Kind → List Kind
option_kinds None = []
option_kinds (Some kind) = kind ∷ []

abbrev pub has_arms : {L : Type 0} → Act L → Bool
has_arms (If test this that) = true
has_arms act = false

-- the rows of a step's arms
abbrev pub arm_rows : {L : Type 0} → Act L → (row : ℕ) → List ℕ
arm_rows (If test this that) r = r ∷ (r + 1) ∷ []
arm_rows act r = []

-- The walk

abbrev pub bound : Layout → Layout
bound t = record t { rows = t.rows + 1; vars = t.vars ++ t.rows ∷ [] }

abbrev pub bound_all : List ℕ → Layout → Layout
bound_all [] t = t
bound_all (x ∷ xs) t = bound_all xs (bound t)

abbrev pub laid_own : {L : Type 0} → (var : ℕ) → Act L → Layout → Layout
laid_own x act t =
    record t {
      rows = t.rows + own_rows act;
      blocks = t.blocks ++ arm_rows act t.rows;
      made = t.made ++ made_kinds act x t.rows;
    }

abbrev pub laid_step : {L : Type 0} → (vars : List ℕ) → Act L → Layout → Layout
laid_step vars act t = laid_own (single vars) act (bound_all vars t)

abbrev mutual
  pub laid_code : {L : Type 0} → Code L → Layout → Layout
  laid_code (Ends value) t = t
  laid_code (Then l vars act rest) t = laid_code rest (laid_arms act (laid_step vars act t))

  pub laid_arms : {L : Type 0} → Act L → Layout → Layout
  laid_arms (If test this that) t = laid_code that (laid_code this t)
  laid_arms act t = t

-- a rest parameter, with the car and the cdr of its lists
abbrev pub laid_rest : Option ℕ → Layout → Layout
laid_rest None t = t
laid_rest (Some x) t =
    record t {
      rows = t.rows + 1 + 2;
      vars = t.vars ++ t.rows ∷ [];
      lists = t.lists ++ Pair (t.rows + 1) false ∷ [];
    }

abbrev pub laid_body : Written → Layout → Layout
laid_body p t = laid_code p.body (laid_rest p.rest (bound_all p.params t))

-- a procedure's body, with so many rows before its parameters
abbrev pub begins : (rows : ℕ) → Layout → Layout
begins n t = record t { rows = t.rows + n; blocks = t.blocks ++ t.rows ∷ [] }

-- procedure 0
abbrev pub laid_main : Written → Layout → Layout
laid_main p t = laid_body p (begins 1 t)

-- what a call of the next procedure looks up
abbrev pub entry_of : Written → Layout → Entry
entry_of p t =
    record {
      atom = 10 + length t.entries;
      params = p.params;
      rest = p.rest;
      block = length t.blocks;
      list = t.first_list + length t.lists;
    }

-- a procedure from 1 on
abbrev pub laid_lambda : Written → Layout → Layout
laid_lambda p t = laid_body p (begins 2 (record t { entries = t.entries ++ entry_of p t ∷ [] }))

abbrev pub laid_lambdas : List Written → Layout → Layout
laid_lambdas [] t = t
laid_lambdas (p ∷ ps) t = laid_lambdas ps (laid_lambda p t)

abbrev pub laid_all : List Written → Layout → Layout
laid_all [] t = t
laid_all (p ∷ ps) t = laid_lambdas ps (laid_main p t)

-- before any procedure, with so many top-level variables, where so many procedures have closures
abbrev pub started : (tops closures : ℕ) → Layout
started tops closures =
    record { rows = tops; vars = []; blocks = []; entries = []; lists = []; made = []; first_list = 10 + closures }

-- Atoms

abbrev pub closure_kinds : (proc : ℕ) → List Entry → List Kind
closure_kinds q [] = []
closure_kinds q (e ∷ es) = Closure q ∷ closure_kinds (q + 1) es

-- the kinds of the atoms but for those of literals
abbrev pub kinds_of : Layout → List Kind
kinds_of t = ((replicate 10 Fixed ++ closure_kinds 1 t.entries) ++ t.lists) ++ t.made

abbrev pub is_of : Which → Kind → Bool
is_of Pairs (Pair row literal) = true
is_of FreshPairs (Pair row false) = true
is_of Vectors (Vector row literal) = true
is_of FreshVectors (Vector row false) = true
is_of Symbols (Symbol row) = true
is_of Continuations (Continuation var) = true
is_of which kind = false

-- the atoms of these, in order, where the first kind is that of this atom
abbrev pub atoms_of : Which → (atom : ℕ) → List Kind → List ℕ
atoms_of which a [] = []
atoms_of which a (k ∷ ks) =
    (if is_of which k then a ∷ [] else []) ++ atoms_of which (a + 1) ks

-- The whole

abbrev pub joined : Layout → Quoted → Flow
joined t s =
    record {
      rows = s.rows;
      vars = t.vars;
      blocks = t.blocks;
      entries = t.entries;
      kinds = s.kinds;
      lits = s.lits;
      pairs = atoms_of Pairs 0 s.kinds;
      fresh_pairs = atoms_of FreshPairs 0 s.kinds;
      vectors = atoms_of Vectors 0 s.kinds;
      fresh_vectors = atoms_of FreshVectors 0 s.kinds;
      symbols = atoms_of Symbols 0 s.kinds;
      continuations = atoms_of Continuations 0 s.kinds;
    }

abbrev pub layout_of : Form → Layout
layout_of f = laid_all f.procs (started f.tops (length f.procs - 1))

abbrev pub flow_of : Form → Flow
flow_of f =
    let t = layout_of f in
    joined t (quoted_all f.lits (unquoted t.rows (kinds_of t)))
