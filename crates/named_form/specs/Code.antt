-- Blocks as linked steps (A-normal form), how blocks, steps and sites are numbered, and which steps are in tail
-- position.
--
-- L is what stands beside a step: its position in the text or, in a program that runs, its label.
use Rattle.std.specs.Prelude.{ℕ, zero, suc, ◌+◌, nat_eq, ◌&&◌, List, [], ◌∷◌, ◌++◌, length, Option, Some, None, is_some, Bool, true, false, not, slice_get, if◌then◌else◌}
use Rattle.std.specs.List.{list_any, filter, flat_map}
use Rattle.scheme_base.specs.declared.lit.Lit.{Lit}
use Rattle.scheme_base.specs.declared.op.Op.{Op}
use Rattle.scheme_base.specs.declared.op.Op.TheVariants as op
use Rattle.scheme_base.specs.declared.pos.Pos.{Pos}

mutual
  pub data Code (L : Type 0) : Type 0 where
    -- the end of the block, with the variable whose value is the block's
    Ends : (value : Option ℕ) → Code L
    -- a step that binds these variables, and the block after it
    Then : L → (vars : List ℕ) → Act L → (rest : Code L) → Code L

  pub data Act (L : Type 0) : Type 0 where
    Const : (lit : ℕ) → Act L
    Copy : (from : ℕ) → Act L
    Prim : Op → (operands : List ℕ) → Act L
    Call : (operator : ℕ) → (operands : List ℕ) → Act L
    Apply : (operator list : ℕ) → Act L
    CallCC : (operator : ℕ) → Act L
    If : (test : ℕ) → (this that : Code L) → Act L
    Closure : (proc : ℕ) → Act L
    Fix : (procs : List ℕ) → Act L
    MakeBox : (from : ℕ) → Act L
    MakeHole : Act L
    Unbox : (boxed : ℕ) → (checked : Bool) → Act L
    SetBox : (boxed from : ℕ) → Act L
    TopGet : (top : ℕ) → (checked : Bool) → Act L
    TopSet : (top from : ℕ) → (checked : Bool) → Act L
    TopDefine : (top from : ℕ) → Act L

-- a procedure as it is written, with the position of its lambda expression
pub record Written : Type 0 where
  pub params : List ℕ
  pub rest : Option ℕ
  pub body : Code Pos
  pub pos : Pos

-- Numbers

-- how many steps, sites and blocks stand before a step of the program
pub record Counts : Type 0 where
  pub steps : ℕ
  pub sites : ℕ
  pub blocks : ℕ

-- whether an operation makes an object
abbrev pub makes : Op → Bool
makes op.Cons = true
makes op.MakeVector = true
makes op.MakeString = true
makes op.MakeSymbol = true
makes o = false

-- how many sites a step is
abbrev pub sites_of : {L : Type 0} → Act L → ℕ
sites_of (Prim o operands) = if makes o then 1 else 0
sites_of (MakeBox from) = 1
sites_of MakeHole = 1
sites_of (CallCC operator) = 1
sites_of act = 0

-- how many arms a step has
abbrev pub arms_of : {L : Type 0} → Act L → ℕ
arms_of (If test this that) = 2
arms_of act = 0

-- past a step itself, before its arms
abbrev pub past : {L : Type 0} → Counts → Act L → Counts
past at act =
    record { steps = suc at.steps; sites = at.sites + sites_of act; blocks = at.blocks + arms_of act }

abbrev mutual
  -- Steps are numbered as they stand, those of both arms after their `If` and before the steps that follow it.
  -- The two arms of an `If` have two blocks' numbers, before all blocks in them.
  pub past_code : {L : Type 0} → Counts → Code L → Counts
  past_code at (Ends value) = at
  past_code at (Then l vars act rest) = past_code (past_arms (past at act) act) rest

  pub past_arms : {L : Type 0} → Counts → Act L → Counts
  past_arms at (If test this that) = past_code (past_code at this) that
  past_arms at act = at

-- Tail position

-- the one variable that a step other than a `Fix` binds
abbrev pub single : List ℕ → ℕ
single [] = 0
single (x ∷ xs) = x

-- whether a block is at its end, and its value is that of the first of these variables
abbrev pub ends_with : {L : Type 0} → Code L → (vars : List ℕ) → Bool
ends_with (Ends (Some y)) (x ∷ xs) = nat_eq x y
ends_with code vars = false

-- In a block in tail position the step is in tail position that is the last and gives the block's value; its
-- arms are then blocks in tail position. A tail call is a call in tail position.
abbrev pub in_tail : {L : Type 0} → (tail : Bool) → (rest : Code L) → (vars : List ℕ) → Bool
in_tail tail rest vars = tail && ends_with rest vars

-- Labels

-- what a step of a program that runs is known by
pub record Label : Type 0 where
  pub place : Pos
  -- its number
  pub step : ℕ
  -- the site of what it makes, if it makes something
  pub site : ℕ
  -- the number of its first arm, if it has arms; the second arm has the next
  pub arm : ℕ
  -- whether it is in tail position
  pub tail : Bool

abbrev mutual
  -- a block, in tail position or not
  pub labelled : Counts → (tail : Bool) → Code Pos → Code Label
  labelled at tail (Ends value) = Ends value
  labelled at tail (Then pos vars act rest) =
      Then
      (record {
        place = pos;
        step = at.steps;
        site = at.sites;
        arm = at.blocks;
        tail = in_tail tail rest vars;
      })
      vars
      (labelled_act (past at act) (in_tail tail rest vars) act)
      (labelled (past_arms (past at act) act) tail rest)

  pub labelled_act : Counts → (tail : Bool) → Act Pos → Act Label
  labelled_act at tail (If test this that) =
      If test (labelled at tail this) (labelled (past_code at this) tail that)
  labelled_act at tail (Const lit) = Const lit
  labelled_act at tail (Copy from) = Copy from
  labelled_act at tail (Prim o operands) = Prim o operands
  labelled_act at tail (Call operator operands) = Call operator operands
  labelled_act at tail (Apply operator list) = Apply operator list
  labelled_act at tail (CallCC operator) = CallCC operator
  labelled_act at tail (Closure proc) = Closure proc
  labelled_act at tail (Fix procs) = Fix procs
  labelled_act at tail (MakeBox from) = MakeBox from
  labelled_act at tail MakeHole = MakeHole
  labelled_act at tail (Unbox boxed checked) = Unbox boxed checked
  labelled_act at tail (SetBox boxed from) = SetBox boxed from
  labelled_act at tail (TopGet top checked) = TopGet top checked
  labelled_act at tail (TopSet top from checked) = TopSet top from checked
  labelled_act at tail (TopDefine top from) = TopDefine top from

-- Variables

abbrev pub has : List ℕ → ℕ → Bool
has xs x = list_any (nat_eq x) xs

-- the variables that a step reads itself
abbrev pub reads : {L : Type 0} → Act L → List ℕ
reads (Copy from) = from ∷ []
reads (Prim o operands) = operands
reads (Call operator operands) = operator ∷ operands
reads (Apply operator list) = operator ∷ list ∷ []
reads (CallCC operator) = operator ∷ []
reads (If test this that) = test ∷ []
reads (MakeBox from) = from ∷ []
reads (Unbox boxed checked) = boxed ∷ []
reads (SetBox boxed from) = boxed ∷ from ∷ []
reads (TopSet top from checked) = from ∷ []
reads (TopDefine top from) = from ∷ []
reads act = []

abbrev pub option_list : Option ℕ → List ℕ
option_list None = []
option_list (Some x) = x ∷ []

-- the procedures of which a step makes closures
abbrev pub closes : {L : Type 0} → Act L → List ℕ
closes (Closure proc) = proc ∷ []
closes (Fix procs) = procs
closes act = []

abbrev mutual
  -- the variables that a block binds, its arms among it, in their order
  pub binds : {L : Type 0} → Code L → List ℕ
  binds (Ends value) = []
  binds (Then l vars act rest) = vars ++ (arms_bind act ++ binds rest)

  pub arms_bind : {L : Type 0} → Act L → List ℕ
  arms_bind (If test this that) = binds this ++ binds that
  arms_bind act = []

abbrev mutual
  -- the variables that a block reads, its arms among it
  pub reads_in : {L : Type 0} → Code L → List ℕ
  reads_in (Ends value) = option_list value
  reads_in (Then l vars act rest) = reads act ++ (arms_read act ++ reads_in rest)

  pub arms_read : {L : Type 0} → Act L → List ℕ
  arms_read (If test this that) = reads_in this ++ reads_in that
  arms_read act = []

abbrev mutual
  -- the procedures of which a block makes closures
  pub closes_in : {L : Type 0} → Code L → List ℕ
  closes_in (Ends value) = []
  closes_in (Then l vars act rest) = closes act ++ (arms_close act ++ closes_in rest)

  pub arms_close : {L : Type 0} → Act L → List ℕ
  arms_close (If test this that) = closes_in this ++ closes_in that
  arms_close act = []

-- what a step needs: what it reads, and what is free in the procedures of which it makes closures
abbrev pub needs : {L : Type 0} → (free : ℕ → List ℕ) → Act L → List ℕ
needs free act = reads act ++ flat_map free (closes act)

-- all that a procedure binds: its parameters, its rest parameter, and what its body binds
abbrev pub bound_in : Written → List ℕ
bound_in p = p.params ++ (option_list p.rest ++ binds p.body)

-- a list without those that it has a second time
abbrev pub once : List ℕ → List ℕ
once [] = []
once (x ∷ xs) = x ∷ filter (λ y. not (nat_eq x y)) (once xs)

abbrev pub written_at : Option Written → Written
written_at None = record { params = []; rest = None; body = Ends None; pos = record { line = 0; col = 0 } }
written_at (Some p) = p

-- The free variables of a procedure: those that it reads, or that are free in a procedure of which it makes
-- closures, and that it does not bind. Procedures nest no deeper than there are procedures.
abbrev pub free_in : (deep : ℕ) → List Written → (proc : ℕ) → List ℕ
free_in zero ps q = []
free_in (suc deep) ps q =
    let p = written_at (slice_get ps q) in
    filter (λ x. not (has (bound_in p) x)) (once (reads_in p.body ++ flat_map (free_in deep ps) (closes_in p.body)))

-- Calls

-- the variable whose value a call calls
abbrev pub operator_of : {L : Type 0} → Act L → Option ℕ
operator_of (Call f ys) = Some f
operator_of (Apply f y) = Some f
operator_of (CallCC f) = Some f
operator_of act = None

abbrev pub is_call : {L : Type 0} → Act L → Bool
is_call act = is_some (operator_of act)

abbrev pub is_callcc : {L : Type 0} → Act L → Bool
is_callcc (CallCC f) = true
is_callcc act = false

-- Programs that run

-- a procedure as it runs
pub record Lambda : Type 0 where
  pub params : List ℕ
  pub rest : Option ℕ
  pub body : Code Label
  -- the number of its body
  pub block : ℕ
  -- the site of its rest list, if it has one
  pub list_site : ℕ
  -- its free variables
  pub free : List ℕ
  -- the variables that it binds
  pub bound : List ℕ

pub record Program : Type 0 where
  pub procs : List Lambda
  pub lits : List Lit

-- procedures numbered from q on, where the body of the first is this block, and its rest list this site
abbrev pub procedures : (all : List Written) → (q : ℕ) → (list_site : ℕ) → Counts → List Written → List Lambda
procedures all q list_site at [] = []
procedures all q list_site at (p ∷ ps) =
    let inside : Counts = record { steps = at.steps; sites = at.sites; blocks = suc at.blocks } in
    record {
      params = p.params;
      rest = p.rest;
      body = labelled inside true p.body;
      block = at.blocks;
      list_site = list_site;
      free = free_in (length all) all q;
      bound = bound_in p;
    }
    ∷ procedures all (suc q) (list_site + length (option_list p.rest)) (past_code inside p.body) ps

abbrev pub rest_lists : List Written → ℕ
rest_lists [] = 0
rest_lists (p ∷ ps) = length (option_list p.rest) + rest_lists ps

abbrev pub but_first : List Written → List Written
but_first [] = []
but_first (p ∷ ps) = ps

-- how many sites stand before the first step: the closures of the procedures from 1 on, and the rest lists
abbrev pub first_sites : List Written → ℕ
first_sites ps = length (but_first ps) + rest_lists ps

abbrev pub past_all : Counts → List Written → Counts
past_all at [] = at
past_all at (p ∷ ps) =
    past_all (past_code (record { steps = at.steps; sites = at.sites; blocks = suc at.blocks }) p.body) ps

-- how many steps, sites and blocks a program has
abbrev pub totals : List Written → Counts
totals ps = past_all (record { steps = 0; sites = first_sites ps; blocks = 0 }) ps

-- Sites are numbered thus: the closures of the procedures from 1 on, the rest lists, then the steps that make
-- something, in the order of steps.
abbrev pub program : List Written → List Lit → Program
program ps lits =
    record {
      procs =
          procedures ps 0 (length (but_first ps))
          (record { steps = 0; sites = first_sites ps; blocks = 0 }) ps;
      lits = lits;
    }

-- the site of the closures of a procedure
abbrev pub closure_site : (proc : ℕ) → ℕ
closure_site zero = 0
closure_site (suc q) = q
