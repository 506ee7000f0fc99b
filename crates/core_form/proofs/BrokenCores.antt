-- For each part of validity, cores that break it alone.
use Rattle.std.proofs.Common.{rules, ◌≡◌, ℕ, suc, ◌<◌, List, [], ◌∷◌, ◌++◌, length, Some, None, refl, sym, ap, subst, true, false, ⊎_elim, inr, arith}
use Rattle.std.specs.Prelude.{pos, slice_get, IsTrue}
use Rattle.std.specs.List.{IsDistinct}
use Rattle.std.proofs.lemmas.Option.{same_Some}
use Rattle.scheme_base.specs.declared.lit.Lit.{Lit}
use Rattle.scheme_base.specs.declared.lit.Lit.TheVariants as lit
use Rattle.scheme_base.specs.declared.op.Op.TheVariants as op
use Rattle.scheme_base.specs.declared.pos.Pos.{Pos}
use Rattle.scheme_base.specs.Constants.{Constant, Integer, Boolean, Character, Nil, Unspecified, Undefined, Symbol, String, Pair, Vector, Constants as Items, none as no_item, item as one_item, IsConstant}
use Rattle.scheme_base.specs.Integers.{in_range}
use Rattle.scheme_base.specs.Literals.{Laid, LaidAll}
use Rattle.scheme_base.specs.Positions.{IsPosition}
use Rattle.core_form.specs.declared.program.Node.{Node}
use Rattle.core_form.specs.declared.program.Var.{Var}
use Rattle.core_form.specs.declared.program.VarRef.{VarRef}
use Rattle.core_form.specs.declared.program.VarRef.TheVariants.{Local, Top}
use Rattle.core_form.specs.declared.program.What.{What}
use Rattle.core_form.specs.declared.program.What.TheVariants as expr
use Rattle.core_form.specs.Trees.{Tree, Const, Ref, Lambda, If, Set, Call, Prim, Seq, Fix, Define, Trees, none, item, IsNode, Stands, Holds}
use Rattle.core_form.specs.Valid.{Constants, AllConstants, FineForms, IsPlaced, AllPlaced, assigns, all_bound, bound, AllInScope, InScope}
use Rattle.core_form.specs.Variables.{same_var, same_ref}

abbrev here : Pos
here = record { line = 0; col = 0 }

placed : IsPosition here
placed = (omega arith, omega arith)

abbrev x : Var
x = record { name = 120 ∷ []; lib = false }

abbrev y : Var
y = record { name = 121 ∷ []; lib = false }

abbrev library_x : Var
library_x = record { name = 120 ∷ []; lib = true }

abbrev one : {V : Type 0} → Tree V → Trees V
one e = item e none

abbrev quote : {V : Type 0} → ℕ → Tree V
quote l = Const here l

-- Expressions

record BreaksFine (lits : List Lit) (e : Tree Var) : Type 0 where
  constants : AllConstants lits 0 (one e) (length lits)
  placed : AllPlaced (one e)
  broken : FineForms lits same_var (one e) → ⊥

abbrev nil : List Lit
nil = lit.Nil ∷ []

abbrev nils : List Lit
nils = lit.Nil ∷ lit.Nil ∷ []

-- the constant of literal 0 and of literal 1
abbrev first : (lits : List Lit) → slice_get lits 0 ≡ Some lit.Nil → Constants {V = Var} lits 0 (quote 0) 1
first lits is = (refl, Nil, tt, (is, refl))

abbrev second : (lits : List Lit) → slice_get lits 1 ≡ Some lit.Nil → Constants {V = Var} lits 1 (quote 1) 2
second lits is = (refl, Nil, tt, (is, refl))

-- the undefined value as an expression
hole : BreaksFine (lit.Undefined ∷ []) (quote 0)
hole = record { constants = (1, (refl, Undefined, tt, (refl, refl)), refl); placed = (placed, tt); broken = λ h. cc }

-- the undefined value for a parameter that the body does not assign
hole_kept : BreaksFine (lit.Undefined ∷ []) (Call here (Lambda here (x ∷ []) None (Ref here x)) (one (quote 0)))
unfolding IsDistinct
hole_kept =
    record {
      constants = (1, (0, refl, (1, (refl, Undefined, tt, (refl, refl)), refl)), refl);
      placed = ((placed, (placed, placed), (placed, tt)), tt);
      broken = λ h. ⊎_elim (λ fine. cc) (λ assigned. cc) h.0.2.0;
    }

-- where the body assigns it, it is fine
hole_assigned : FineForms (lit.Nil ∷ lit.Undefined ∷ []) same_var (one (Call here (Lambda here (x ∷ []) None (Set here x (quote 0))) (one (quote 1))))
unfolding IsDistinct
hole_assigned = (((tt, tt), refl, (inr (refl, refl), tt)), tt)

nested_definition : BreaksFine nil (Seq here (one (Define here x (quote 0))))
nested_definition =
    record {
      constants = (1, (1, first nil refl, refl), refl);
      placed = ((placed, ((placed, placed), tt)), tt);
      broken = λ h. h.0.1.0;
    }

empty_sequence : BreaksFine [] (Seq here none)
empty_sequence = record { constants = (0, refl, refl); placed = ((placed, tt), tt); broken = λ h. h.0.0 }

operand_count : BreaksFine [] (Prim here op.Car none)
operand_count = record { constants = (0, refl, refl); placed = ((placed, tt), tt); broken = λ h. cc }

parameter_twice : BreaksFine nil (Lambda here (x ∷ x ∷ []) None (quote 0))
unfolding IsDistinct
parameter_twice =
    record { constants = (1, first nil refl, refl); placed = ((placed, placed), tt); broken = λ h. cc }

rest_is_parameter : BreaksFine nil (Lambda here (x ∷ []) (Some x) (quote 0))
unfolding IsDistinct
rest_is_parameter =
    record { constants = (1, first nil refl, refl); placed = ((placed, placed), tt); broken = λ h. cc }

direct_parameter_twice : BreaksFine nil (Call here (Lambda here (x ∷ x ∷ []) None (quote 0)) none)
unfolding IsDistinct
direct_parameter_twice =
    record {
      constants = (1, (1, first nil refl, refl), refl);
      placed = ((placed, (placed, placed), tt), tt);
      broken = λ h. cc;
    }

abbrev procedure : ℕ → Tree Var
procedure l = Lambda here [] None (quote l)

-- a `Fix` of a variable without an expression, of what is no procedure, of one variable twice
no_expression : BreaksFine nil (Fix here (x ∷ []) none (quote 0))
no_expression =
    record {
      constants = (1, (0, refl, first nil refl), refl);
      placed = ((placed, tt, placed), tt);
      broken = λ h. cc;
    }

no_procedure : BreaksFine nils (Fix here (x ∷ []) (one (quote 0)) (quote 1))
no_procedure =
    record {
      constants = (2, (1, (1, first nils refl, refl), second nils refl), refl);
      placed = ((placed, (placed, tt), placed), tt);
      broken = λ h. h.0.2.0;
    }

abbrev nils_3 : List Lit
nils_3 = lit.Nil ∷ lit.Nil ∷ lit.Nil ∷ []

fixed_twice : BreaksFine nils_3 (Fix here (x ∷ x ∷ []) (item (procedure 0) (one (procedure 1))) (quote 2))
unfolding IsDistinct
fixed_twice =
    record {
      constants = (3, (2, (1, first nils_3 refl, (2, second nils_3 refl, refl)), (refl, Nil, tt, (refl, refl))), refl);
      placed = ((placed, ((placed, placed), ((placed, placed), tt)), placed), tt);
      broken = λ h. cc;
    }

-- a `Fix` whose variable is assigned in its body, and in a procedure
assigned_in_body : BreaksFine nils (Fix here (x ∷ []) (one (procedure 0)) (Set here x (quote 1)))
assigned_in_body =
    record {
      constants = (2, (1, (1, first nils refl, refl), second nils refl), refl);
      placed = ((placed, ((placed, placed), tt), (placed, placed)), tt);
      broken = λ h. cc;
    }

assigned_in_procedure : BreaksFine nils (Fix here (x ∷ []) (one (Lambda here [] None (Set here x (quote 0)))) (quote 1))
assigned_in_procedure =
    record {
      constants = (2, (1, (1, first nils refl, refl), second nils refl), refl);
      placed = ((placed, ((placed, (placed, placed)), tt), placed), tt);
      broken = λ h. cc;
    }

-- Positions: one past the last, of each expression itself

abbrev far : Pos
far = record { line = 1; col = 4294967296 }

abbrev far_line : Pos
far_line = record { line = 4294967296; col = 1 }

no_position : IsPosition far → ⊥
no_position h = absurd (omega (arith, h.1))

no_line : IsPosition far_line → ⊥
no_line h = absurd (omega (arith, h.0))

record Expressions (P : Tree Var → Type 0) : Type 0 where
  const : P (Const far 0)
  ref : P (Ref far x)
  lambda : P (Lambda far [] None (quote 0))
  choice : P (If far (quote 0) (quote 1) (quote 2))
  assignment : P (Set far x (quote 0))
  call : P (Call far (quote 0) none)
  operation : P (Prim far op.ReadChar none)
  sequence : P (Seq far (one (quote 0)))
  fixed : P (Fix far [] none (quote 0))
  definition : P (Define far x (quote 0))

too_far : Expressions (λ e. IsPlaced e → ⊥)
too_far =
    record {
      const = no_position;
      ref = no_position;
      lambda = λ h. no_position h.0;
      choice = λ h. no_position h.0;
      assignment = λ h. no_position h.0;
      call = λ h. no_position h.0;
      operation = λ h. no_position h.0;
      sequence = λ h. no_position h.0;
      fixed = λ h. no_position h.0;
      definition = λ h. no_position h.0;
    }

-- of each part of an expression

record Parts (P : Tree Var → Type 0) (e : Tree Var) : Type 0 where
  body : P (Lambda here [] None e)
  test : P (If here e (quote 0) (quote 1))
  yes : P (If here (quote 0) e (quote 1))
  no : P (If here (quote 0) (quote 1) e)
  value : P (Set here x e)
  operator : P (Call here e none)
  operand : P (Call here (quote 0) (item (quote 1) (one e)))
  operation : P (Prim here op.Cons (item (quote 0) (one e)))
  items : P (Seq here (item (quote 0) (one e)))
  procedure : P (Fix here [] (one e) (quote 0))
  inner : P (Fix here [] none e)
  defined : P (Define here x e)

parts_too_far : Parts (λ e. IsPlaced e → ⊥) (Const far 0)
parts_too_far =
    record {
      body = λ h. no_position h.1;
      test = λ h. no_position h.1;
      yes = λ h. no_position h.2;
      no = λ h. no_position h.3;
      value = λ h. no_position h.1;
      operator = λ h. no_position h.1;
      operand = λ h. no_position h.2.1.0;
      operation = λ h. no_position h.1.1.0;
      items = λ h. no_position h.1.1.0;
      procedure = λ h. no_position h.1.0;
      inner = λ h. no_position h.2;
      defined = λ h. no_position h.1;
    }

-- A `set!` is found in each part of an expression, and not where the variable is bound again.

assigned_in_parts : Parts (λ e. assigns same_var x e ≡ true) (Set here x (quote 5))
assigned_in_parts = search rules

not_assigned : Parts (λ e. assigns same_var y e ≡ false) (Set here x (quote 5))
not_assigned = search rules

hidden :
    assigns same_var x (Lambda here (x ∷ []) None (Set here x (quote 0)))
    ∷ assigns same_var x (Lambda here [] (Some x) (Set here x (quote 0)))
    ∷ assigns same_var x (Fix here (x ∷ []) none (Set here x (quote 0)))
    ∷ assigns same_var library_x (Set here x (quote 0))
    ∷ []
    ≡ false ∷ false ∷ false ∷ false ∷ []
hidden = refl

-- The undefined value is refused in each part that is no operand for a parameter.

abbrev with_hole : List Lit
with_hole = lit.Nil ∷ lit.Nil ∷ lit.Undefined ∷ []

hole_in_parts : Parts (λ e. FineForms with_hole same_var (one e) → ⊥) (quote 2)
hole_in_parts =
    record {
      body = λ h. let no = h.0.1 in cc;
      test = λ h. let no = h.0.0 in cc;
      yes = λ h. let no = h.0.1 in cc;
      no = λ h. let no = h.0.2 in cc;
      value = λ h. let no = h.0 in cc;
      operator = λ h. let no = h.0.0 in cc;
      operand = λ h. let no = h.0.1.1.0 in cc;
      operation = λ h. let no = h.0.1.1.0 in cc;
      items = λ h. let no = h.0.1.1.0 in cc;
      procedure = λ h. h.0.2.0;
      inner = λ h. let no = h.0.5 in cc;
      defined = λ h. let no = h.0 in cc;
    }

-- Literals

-- a constant takes at least one literal
mutual
  takes_one : (lits : List Lit) (i : ℕ) (c : Constant) (j : ℕ) → Laid lits i c j → i < j
  takes_one lits i (Pair a d) j h =
      let one = takes_one lits (suc i) a h.0 h.2 in
      let two = takes_one lits h.0 d j h.3 in omega (arith, one, two)
  takes_one lits i (Vector cs) j h = let all = takes_some lits h.0 (suc i) cs j h.2 in omega (arith, all)
  takes_one lits i (Integer z) j h = omega (arith, h.1)
  takes_one lits i (Boolean b) j h = omega (arith, h.1)
  takes_one lits i (Character b) j h = omega (arith, h.1)
  takes_one lits i Nil j h = omega (arith, h.1)
  takes_one lits i Unspecified j h = omega (arith, h.1)
  takes_one lits i Undefined j h = omega (arith, h.1)
  takes_one lits i (Symbol name) j h = omega (arith, h.1)
  takes_one lits i (String bytes) j h = omega (arith, h.1)

  takes_some : (lits : List Lit) (ids : List ℕ) (i : ℕ) (cs : Items) (j : ℕ) → LaidAll lits ids i cs j → i < suc j
  takes_some lits ids i no_item j h = omega (arith, h.1)
  takes_some lits ids i (one_item c cs) j h =
      let one = takes_one lits i c h.1 h.3 in
      let rest = takes_some lits h.0 h.1 cs j h.4 in omega (arith, one, rest)

-- a literal that no expression names
unnamed : AllConstants {V = Var} nil 0 none 1 → ⊥
unnamed h = cc

-- one literal for two expressions, and literals in another order
named_twice : AllConstants {V = Var} nil 0 (item (quote 0) (one (quote 0))) 1 → ⊥
named_twice h =
    let one = takes_one nil 0 h.1.1 h.0 h.1.3 in
    let same : 0 ≡ h.0 = h.2.1.0 in absurd (omega (arith, one, same))

out_of_order : AllConstants {V = Var} nils 0 (item (quote 1) (one (quote 0))) 2 → ⊥
out_of_order h = let first : 1 ≡ 0 = h.1.0 in absurd (omega (arith, first))

-- an integer out of range
past_greatest : AllConstants {V = Var} (lit.Integer (pos 2305843009213693952) ∷ []) 0 (one (quote 0)) 1 → ⊥
past_greatest h = refused h.1.1 h.0 h.1.2 h.1.3 where
  refused : (c : Constant) (j : ℕ) → IsConstant c → Laid (lit.Integer (pos 2305843009213693952) ∷ []) 0 c j → ⊥
  refused (Integer z) j fine laid =
      let same : pos 2305843009213693952 ≡ z = cc in
      let never : IsTrue (in_range (pos 2305843009213693952)) = subst (λ y. IsTrue (in_range y)) (sym same) fine in cc
  refused (Boolean b) j fine laid = cc
  refused (Character b) j fine laid = cc
  refused Nil j fine laid = cc
  refused Unspecified j fine laid = cc
  refused Undefined j fine laid = cc
  refused (Symbol name) j fine laid = cc
  refused (String bytes) j fine laid = cc
  refused (Pair a d) j fine laid = cc
  refused (Vector cs) j fine laid = cc

-- Numbers that name nothing, and an expression that is a part of itself

no_such : (forms : Trees Var) → Holds (record { exprs = []; forms = 0 ∷ []; lits = [] }) forms → ⊥
no_such none h = cc
no_such (item e es) h = nowhere h.0 e h.3 where
  nowhere : (id : ℕ) (e : Tree Var) → Stands [] id e → ⊥
  nowhere id (Const p l) s = cc
  nowhere id (Ref p y) s = cc
  nowhere id (Lambda p ys r b) s = let at = s.1 in cc
  nowhere id (If p a b c) s = let at = s.3 in cc
  nowhere id (Set p y b) s = let at = s.1 in cc
  nowhere id (Call p f es) s = let at = s.2 in cc
  nowhere id (Prim p o es) s = let at = s.1 in cc
  nowhere id (Seq p es) s = let at = s.1 in cc
  nowhere id (Fix p ys ls b) s = let at = s.2 in cc
  nowhere id (Define p y b) s = let at = s.1 in cc

abbrev loop : List (Node Var)
loop = record { what = expr.Set x 0; pos = here } ∷ []

its_own_part : (id : ℕ) (what : What Var) (p : Pos) → id ≡ 0 → IsNode loop id what p → what ≡ expr.Set x 0
its_own_part id what p start at =
    let node : Some (record { what = expr.Set x 0; pos = here }) ≡ Some (record { what = what; pos = p }) =
    subst (λ i. slice_get loop i ≡ Some (record { what = what; pos = p })) start at
    in
    ap (λ n. n.what) (sym (same_Some _ _ node))

goes_round : (id : ℕ) (e : Tree Var) → id ≡ 0 → Stands loop id e → ⊥
goes_round id (Set p y b) start s =
    let same = its_own_part id _ p start s.1 in
    let again : s.0 ≡ 0 = cc in goes_round s.0 b again s.2
goes_round id (Const p l) start s = let same = its_own_part id _ p start s in cc
goes_round id (Ref p y) start s = let same = its_own_part id _ p start s in cc
goes_round id (Lambda p ys r b) start s = let same = its_own_part id _ p start s.1 in cc
goes_round id (If p a b c) start s = let same = its_own_part id _ p start s.3 in cc
goes_round id (Call p f es) start s = let same = its_own_part id _ p start s.2 in cc
goes_round id (Prim p o es) start s = let same = its_own_part id _ p start s.1 in cc
goes_round id (Seq p es) start s = let same = its_own_part id _ p start s.1 in cc
goes_round id (Fix p ys ls b) start s = let same = its_own_part id _ p start s.2 in cc
goes_round id (Define p y b) start s = let same = its_own_part id _ p start s.1 in cc

holds_itself : (forms : Trees Var) → Holds (record { exprs = loop; forms = 0 ∷ []; lits = [] }) forms → ⊥
holds_itself none h = cc
holds_itself (item e es) h = let start : h.0 ≡ 0 = cc in goes_round h.0 e start h.3

-- Renamed cores

abbrev local : ℕ → VarRef
local n = Local n

-- ((lambda (x) x) '()), renamed
renamed_once : IsDistinct same_ref (all_bound (one (Call here (Lambda here (local 0 ∷ []) None (Ref here (local 0))) (one (quote 0)))))
unfolding IsDistinct
renamed_once = (tt, tt)

renamed_scoped : AllInScope [] (one (Call here (Lambda here (local 0 ∷ []) None (Ref here (local 0))) (one (quote 0))))
renamed_scoped = (((tt, refl), (tt, tt)), tt)

-- a `Fix` binds its variables in its procedures and in its body
fix_scoped : AllInScope [] (one (Fix here (local 0 ∷ []) (one (Lambda here [] None (Ref here (local 0)))) (Ref here (local 0))))
fix_scoped = ((tt, ((tt, refl), tt), refl), tt)

rest_scoped : AllInScope [] (one (Lambda here (local 0 ∷ []) (Some (local 1)) (If here (Ref here (local 0)) (Ref here (local 1)) (Ref here (Top x)))))
rest_scoped = ((tt, (refl, refl, tt)), tt)

bound_twice : IsDistinct same_ref (all_bound (item (Lambda here (local 0 ∷ []) None (quote 0)) (one (Lambda here (local 0 ∷ []) None (quote 1))))) → ⊥
unfolding IsDistinct
bound_twice h = cc

bound_again_inside : IsDistinct same_ref (all_bound (one (Lambda here (local 0 ∷ []) None (Fix here (local 0 ∷ []) (one (quote 0)) (quote 1))))) → ⊥
unfolding IsDistinct
bound_again_inside h = cc

-- each part of an expression is looked at, and binds in order

record Inside (P : Tree VarRef → Type 0) (e : Tree VarRef) : Type 0 where
  body : P (Lambda here (local 1 ∷ []) (Some (local 2)) e)
  test : P (If here e (quote 0) (quote 1))
  yes : P (If here (quote 0) e (quote 1))
  no : P (If here (quote 0) (quote 1) e)
  value : P (Set here (Top x) e)
  operator : P (Call here e none)
  operand : P (Call here (quote 0) (item (quote 1) (one e)))
  operation : P (Prim here op.Cons (item (quote 0) (one e)))
  items : P (Seq here (item (quote 0) (one e)))
  procedure : P (Fix here (local 1 ∷ []) (one e) (quote 0))
  inner : P (Fix here (local 1 ∷ []) none e)
  defined : P (Define here (Top x) e)

seen_nowhere : Inside (λ e. InScope [] e → ⊥) (Ref here (local 0))
seen_nowhere =
    record {
      body = λ h. let no = h.1 in cc;
      test = λ h. let no = h.0 in cc;
      yes = λ h. let no = h.1 in cc;
      no = λ h. let no = h.2 in cc;
      value = λ h. let no = h.1 in cc;
      operator = λ h. let no = h.0 in cc;
      operand = λ h. let no = h.1.1.0 in cc;
      operation = λ h. let no = h.1.0 in cc;
      items = λ h. let no = h.1.0 in cc;
      procedure = λ h. let no = h.1.0 in cc;
      inner = λ h. let no = h.2 in cc;
      defined = λ h. let no = h.1 in cc;
    }

abbrev binding : Tree VarRef
binding = Lambda here (local 7 ∷ []) None (quote 5)

bindings :
    bound (Lambda here (local 1 ∷ []) (Some (local 2)) binding)
    ++ (bound (If here binding binding binding)
    ++ (bound (Call here binding (one binding))
    ++ (bound (Fix here (local 3 ∷ []) (one binding) binding)
    ++ (bound (Set here (Top x) binding)
    ++ (bound (Prim here op.Cons (item binding (one binding)))
    ++ (bound (Seq here (item binding (one (quote 1)))) ++ bound (Define here (Top x) binding)))))))
    ≡ local 1 ∷ local 2 ∷ local 7 ∷ local 7 ∷ local 7 ∷ local 7 ∷ local 7 ∷ local 7 ∷ local 3 ∷ local 7 ∷ local 7
    ∷ local 7 ∷ local 7 ∷ local 7 ∷ local 7 ∷ local 7 ∷ []
bindings = refl

out_of_scope : AllInScope [] (one (Ref here (local 0))) → ⊥
out_of_scope h = cc

assigned_out_of_scope : AllInScope [] (one (Set here (local 0) (quote 0))) → ⊥
assigned_out_of_scope h = cc

seen_inside_only : AllInScope [] (one (Call here (Lambda here (local 0 ∷ []) None (quote 0)) (one (Ref here (local 0))))) → ⊥
seen_inside_only h = cc

fix_seen_inside_only : AllInScope [] (item (Fix here (local 0 ∷ []) none (Ref here (local 0))) (one (Ref here (local 0)))) → ⊥
fix_seen_inside_only h = cc

parameter_at_top : AllInScope [] (one (Lambda here (Top x ∷ []) None (quote 0))) → ⊥
parameter_at_top h = h.0.0

fixed_at_top : AllInScope [] (one (Fix here (Top x ∷ []) none (quote 0))) → ⊥
fixed_at_top h = h.0.0

local_definition : AllInScope [] (one (Define here (local 0) (quote 0))) → ⊥
local_definition h = h.0.0
