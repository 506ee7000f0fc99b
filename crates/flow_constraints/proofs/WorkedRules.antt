-- Programs whose rows, atoms and rules were worked out apart, rule by rule, from the same description.
use Rattle.std.proofs.Common.{◌≡◌, ℕ, List, [], ◌∷◌, length, Option, Some, None, true, refl}
use Rattle.std.specs.Prelude.{pos}
use Rattle.scheme_base.specs.declared.lit.Lit.TheVariants as lit
use Rattle.scheme_base.specs.declared.op.Op.TheVariants as op
use Rattle.scheme_base.specs.declared.pos.Pos.{Pos}
use Rattle.flow_form.specs.declared.rule.Give.{Give}
use Rattle.flow_form.specs.declared.rule.Give.TheVariants.{Atom, Row}
use Rattle.flow_form.specs.declared.rule.Rule.{Rule}
use Rattle.flow_form.specs.declared.rule.Test.{Test}
use Rattle.flow_form.specs.declared.rule.Test.TheVariants.{Has, Other}
use Rattle.named_form.specs.Code.{Code, Ends, Then, Const, Copy, Prim, Call, Apply, CallCC, If, Closure, Fix, MakeBox, MakeHole, Unbox, SetBox, TopGet, TopSet, TopDefine, Written}
use Rattle.named_form.specs.Valid.{Form, nowhere}
use Rattle.flow_constraints.specs.Layout.{flow_of}
use Rattle.flow_constraints.specs.Listed.{rules_of}

abbrev r : Option Test → Option Test → Give → ℕ → Rule
r first second give to = record { first = first; second = second; give = give; to = to }

abbrev proc : List ℕ → Option ℕ → Code Pos → Written
proc params rest body = record { params = params; rest = rest; body = body; pos = nowhere }

abbrev empty : Form
empty =
    record {
      procs = (
          proc [] None (Ends None) ∷ []);
      tops = 0;
      lits = ([]);
    }

empty_rows : (flow_of empty).rows ≡ 1
empty_rows = refl

empty_atoms : length (flow_of empty).kinds ≡ 10
empty_atoms = refl

empty_rules : rules_of empty ≡ (
    r None None (Atom 0) 0 ∷ [])
empty_rules = refl

abbrev one_definition : Form
one_definition =
    record {
      procs = (
          proc [] None (Then nowhere (0 ∷ []) (Const 0) (Then nowhere (1 ∷ []) (TopDefine 0 0) (Ends None))) ∷ []);
      tops = 1;
      lits = (lit.Integer (pos 1) ∷ []);
    }

one_definition_rows : (flow_of one_definition).rows ≡ 4
one_definition_rows = refl

one_definition_atoms : length (flow_of one_definition).kinds ≡ 10
one_definition_atoms = refl

one_definition_rules : rules_of one_definition ≡ (
    r None None (Atom 0) 1 ∷
    r (Some (Has 1 0)) None (Atom 1) 2 ∷
    r (Some (Has 1 0)) None (Row 2) 0 ∷
    r (Some (Has 1 0)) None (Atom 6) 3 ∷ [])
one_definition_rules = refl

abbrev objects : Form
objects =
    record {
      procs = (
          proc [] None (Then nowhere (0 ∷ []) (Const 0) (Then nowhere (1 ∷ []) (MakeBox 0) (Then nowhere (2 ∷ []) (MakeHole) (Then nowhere (3 ∷ []) (Unbox 1 true) (Then nowhere (4 ∷ []) (SetBox 2 3) (Then nowhere (5 ∷ []) (Prim op.Cons (0 ∷ 3 ∷ [])) (Then nowhere (6 ∷ []) (Prim op.Car (5 ∷ [])) (Then nowhere (7 ∷ []) (Prim op.SetCdr (5 ∷ 6 ∷ [])) (Then nowhere (8 ∷ []) (If 7 (Then nowhere (9 ∷ []) (Const 6) (Ends (Some 9))) (Then nowhere (10 ∷ []) (Prim op.MakeVector (6 ∷ 5 ∷ [])) (Then nowhere (11 ∷ []) (Prim op.VectorRef (10 ∷ 6 ∷ [])) (Ends (Some 11))))) (Then nowhere (12 ∷ []) (Prim op.VectorSet (8 ∷ 6 ∷ 9 ∷ [])) (Then nowhere (13 ∷ []) (Prim op.MakeString (6 ∷ 6 ∷ [])) (Then nowhere (14 ∷ []) (Prim op.MakeSymbol (13 ∷ [])) (Then nowhere (15 ∷ []) (Prim op.SymbolName (14 ∷ [])) (Then nowhere (16 ∷ []) (TopGet 0 true) (Then nowhere (17 ∷ []) (TopSet 1 16 true) (Then nowhere (18 ∷ []) (Copy 17) (Then nowhere (19 ∷ []) (Prim op.Cdr (18 ∷ [])) (Then nowhere (20 ∷ []) (Prim op.ReadChar []) (Then nowhere (21 ∷ []) (Prim op.Eqv (20 ∷ 19 ∷ [])) (Then nowhere (22 ∷ []) (Const 7) (Ends None))))))))))))))))))))) ∷ []);
      tops = 2;
      lits = (lit.Pair 1 2 ∷ lit.Integer (pos 1) ∷ lit.Pair 3 5 ∷ lit.Vector (4 ∷ []) ∷ lit.Text [] ∷ lit.Symbol [] ∷ lit.Text [] ∷ lit.Boolean true ∷ []);
    }

objects_rows : (flow_of objects).rows ≡ 37
objects_rows = refl

objects_atoms : length (flow_of objects).kinds ≡ 20
objects_atoms = refl

objects_rules : rules_of objects ≡ (
    r None None (Atom 0) 2 ∷
    r (Some (Has 2 0)) None (Atom 16) 3 ∷
    r None None (Atom 1) 34 ∷
    r None None (Atom 16) 35 ∷
    r None None (Atom 17) 34 ∷
    r None None (Atom 18) 36 ∷
    r None None (Atom 8) 35 ∷
    r (Some (Has 2 0)) None (Atom 10) 4 ∷
    r (Some (Has 2 0)) None (Row 3) 5 ∷
    r (Some (Has 2 0)) None (Atom 11) 6 ∷
    r (Some (Has 2 0)) None (Row 5) 8 ∷
    r (Some (Has 2 0)) None (Row 8) 7 ∷
    r (Some (Has 2 0)) None (Atom 6) 9 ∷
    r (Some (Has 2 0)) None (Atom 12) 10 ∷
    r (Some (Has 2 0)) None (Row 3) 11 ∷
    r (Some (Has 2 0)) None (Row 8) 12 ∷
    r (Some (Has 2 0)) (Some (Has 10 12)) (Row 11) 13 ∷
    r (Some (Has 2 0)) (Some (Has 10 16)) (Row 34) 13 ∷
    r (Some (Has 2 0)) None (Atom 6) 14 ∷
    r (Some (Has 2 0)) (Some (Has 10 12)) (Row 13) 12 ∷
    r (Some (Has 2 0)) (Some (Other 14 3)) (Atom 0) 16 ∷
    r (Some (Has 2 0)) (Some (Has 14 3)) (Atom 0) 17 ∷
    r (Some (Has 2 0)) (Some (Has 16 0)) (Row 18) 15 ∷
    r (Some (Has 2 0)) (Some (Has 17 0)) (Row 21) 15 ∷
    r (Some (Has 16 0)) None (Atom 19) 18 ∷
    r (Some (Has 17 0)) None (Atom 13) 19 ∷
    r (Some (Has 17 0)) None (Row 10) 20 ∷
    r (Some (Has 17 0)) (Some (Has 19 13)) (Row 20) 21 ∷
    r (Some (Has 17 0)) (Some (Has 19 17)) (Row 36) 21 ∷
    r (Some (Has 2 0)) None (Atom 6) 22 ∷
    r (Some (Has 2 0)) (Some (Has 15 13)) (Row 18) 20 ∷
    r (Some (Has 2 0)) None (Atom 14) 23 ∷
    r (Some (Has 2 0)) None (Atom 15) 24 ∷
    r (Some (Has 2 0)) None (Row 23) 25 ∷
    r (Some (Has 2 0)) (Some (Has 24 8)) (Atom 9) 26 ∷
    r (Some (Has 2 0)) (Some (Has 24 15)) (Row 25) 26 ∷
    r (Some (Has 2 0)) None (Row 0) 27 ∷
    r (Some (Has 2 0)) None (Row 27) 1 ∷
    r (Some (Has 2 0)) None (Atom 6) 28 ∷
    r (Some (Has 2 0)) None (Row 28) 29 ∷
    r (Some (Has 2 0)) (Some (Has 29 12)) (Row 12) 30 ∷
    r (Some (Has 2 0)) (Some (Has 29 16)) (Row 35) 30 ∷
    r (Some (Has 2 0)) None (Atom 2) 31 ∷
    r (Some (Has 2 0)) None (Atom 7) 31 ∷
    r (Some (Has 2 0)) None (Atom 3) 32 ∷
    r (Some (Has 2 0)) None (Atom 4) 32 ∷
    r (Some (Has 2 0)) None (Atom 4) 33 ∷ [])
objects_rules = refl

abbrev calls : Form
calls =
    record {
      procs = (
          proc [] None (Then nowhere (0 ∷ []) (Closure 1) (Then nowhere (1 ∷ []) (Const 0) (Then nowhere (2 ∷ []) (Call 0 (1 ∷ [])) (Then nowhere (3 ∷ []) (Call 0 (1 ∷ 2 ∷ [])) (Then nowhere (4 ∷ []) (Call 0 (1 ∷ 2 ∷ 3 ∷ [])) (Then nowhere (5 ∷ []) (Call 0 (1 ∷ 2 ∷ 3 ∷ 1 ∷ [])) (Then nowhere (6 ∷ []) (Apply 0 1) (Then nowhere (7 ∷ []) (CallCC 0) (Then nowhere (8 ∷ 9 ∷ []) (Fix (2 ∷ 3 ∷ [])) (Then nowhere (10 ∷ []) (Call 8 []) (Then nowhere (11 ∷ []) (Call 9 (7 ∷ [])) (Then nowhere (12 ∷ []) (TopDefine 0 9) (Ends None))))))))))))) ∷
          proc (13 ∷ []) (Some 14) (Then nowhere (15 ∷ []) (Prim op.Cons (13 ∷ 14 ∷ [])) (Ends (Some 15))) ∷
          proc [] None (Then nowhere (16 ∷ []) (Const 3) (Ends (Some 16))) ∷
          proc (17 ∷ []) None (Then nowhere (18 ∷ []) (CallCC 17) (Ends (Some 18))) ∷ []);
      tops = 1;
      lits = (lit.Pair 1 2 ∷ lit.Integer (pos 1) ∷ lit.Nil ∷ lit.Nil ∷ []);
    }

calls_rows : (flow_of calls).rows ≡ 37
calls_rows = refl

calls_atoms : length (flow_of calls).kinds ≡ 18
calls_atoms = refl

calls_rules : rules_of calls ≡ (
    r None None (Atom 0) 1 ∷
    r (Some (Has 1 0)) None (Atom 10) 2 ∷
    r (Some (Has 1 0)) None (Atom 17) 3 ∷
    r None None (Atom 1) 35 ∷
    r None None (Atom 5) 36 ∷
    r (Some (Has 1 0)) (Some (Has 2 10)) (Row 3) 20 ∷
    r (Some (Has 1 0)) (Some (Has 2 10)) (Atom 5) 21 ∷
    r (Some (Has 1 0)) (Some (Has 2 10)) (Atom 0) 18 ∷
    r (Some (Has 1 0)) (Some (Has 2 10)) (Row 19) 4 ∷
    r (Some (Has 1 0)) (Some (Has 2 12)) (Row 3) 32 ∷
    r (Some (Has 1 0)) (Some (Has 2 12)) (Atom 0) 30 ∷
    r (Some (Has 1 0)) (Some (Has 2 12)) (Row 31) 4 ∷
    r (Some (Has 1 0)) (Some (Has 2 14)) (Row 3) 11 ∷
    r (Some (Has 1 0)) (Some (Has 2 16)) (Row 3) 33 ∷
    r (Some (Has 1 0)) (Some (Has 2 10)) (Row 3) 20 ∷
    r (Some (Has 1 0)) (Some (Has 2 10)) (Row 4) 22 ∷
    r (Some (Has 1 0)) (Some (Has 2 10)) (Atom 13) 21 ∷
    r (Some (Has 1 0)) (Some (Has 2 10)) (Atom 5) 23 ∷
    r (Some (Has 1 0)) (Some (Has 2 10)) (Atom 0) 18 ∷
    r (Some (Has 1 0)) (Some (Has 2 10)) (Row 19) 5 ∷
    r (Some (Has 1 0)) (Some (Has 2 10)) (Row 3) 20 ∷
    r (Some (Has 1 0)) (Some (Has 2 10)) (Row 4) 22 ∷
    r (Some (Has 1 0)) (Some (Has 2 10)) (Row 5) 22 ∷
    r (Some (Has 1 0)) (Some (Has 2 10)) (Atom 13) 21 ∷
    r (Some (Has 1 0)) (Some (Has 2 10)) (Atom 5) 23 ∷
    r (Some (Has 1 0)) (Some (Has 2 10)) (Atom 13) 23 ∷
    r (Some (Has 1 0)) (Some (Has 2 10)) (Atom 0) 18 ∷
    r (Some (Has 1 0)) (Some (Has 2 10)) (Row 19) 6 ∷
    r (Some (Has 1 0)) (Some (Has 2 10)) (Row 3) 20 ∷
    r (Some (Has 1 0)) (Some (Has 2 10)) (Row 4) 22 ∷
    r (Some (Has 1 0)) (Some (Has 2 10)) (Row 5) 22 ∷
    r (Some (Has 1 0)) (Some (Has 2 10)) (Row 3) 22 ∷
    r (Some (Has 1 0)) (Some (Has 2 10)) (Atom 13) 21 ∷
    r (Some (Has 1 0)) (Some (Has 2 10)) (Atom 5) 23 ∷
    r (Some (Has 1 0)) (Some (Has 2 10)) (Atom 13) 23 ∷
    r (Some (Has 1 0)) (Some (Has 2 10)) (Atom 0) 18 ∷
    r (Some (Has 1 0)) (Some (Has 2 10)) (Row 19) 7 ∷
    r (Some (Has 1 0)) None (Row 3) 9 ∷
    r (Some (Has 1 0)) (Some (Has 9 13)) (Row 23) 9 ∷
    r (Some (Has 1 0)) (Some (Has 9 13)) (Row 22) 10 ∷
    r (Some (Has 1 0)) (Some (Has 9 15)) (Row 26) 9 ∷
    r (Some (Has 1 0)) (Some (Has 9 15)) (Row 25) 10 ∷
    r (Some (Has 1 0)) (Some (Has 9 17)) (Row 36) 9 ∷
    r (Some (Has 1 0)) (Some (Has 9 17)) (Row 35) 10 ∷
    r (Some (Has 1 0)) (Some (Has 2 10)) (Row 10) 20 ∷
    r (Some (Has 1 0)) (Some (Has 2 10)) (Row 10) 22 ∷
    r (Some (Has 1 0)) (Some (Has 2 10)) (Atom 13) 21 ∷
    r (Some (Has 1 0)) (Some (Has 2 10)) (Atom 5) 21 ∷
    r (Some (Has 1 0)) (Some (Has 2 10)) (Atom 5) 23 ∷
    r (Some (Has 1 0)) (Some (Has 2 10)) (Atom 13) 23 ∷
    r (Some (Has 1 0)) (Some (Has 2 10)) (Atom 0) 18 ∷
    r (Some (Has 1 0)) (Some (Has 2 10)) (Row 19) 8 ∷
    r (Some (Has 1 0)) (Some (Has 2 11)) (Atom 0) 27 ∷
    r (Some (Has 1 0)) (Some (Has 2 11)) (Row 28) 8 ∷
    r (Some (Has 1 0)) (Some (Has 2 12)) (Row 10) 32 ∷
    r (Some (Has 1 0)) (Some (Has 2 12)) (Atom 0) 30 ∷
    r (Some (Has 1 0)) (Some (Has 2 12)) (Row 31) 8 ∷
    r (Some (Has 1 0)) (Some (Has 2 14)) (Row 10) 11 ∷
    r (Some (Has 1 0)) (Some (Has 2 16)) (Row 10) 33 ∷
    r (Some (Has 1 0)) None (Atom 14) 12 ∷
    r (Some (Has 1 0)) (Some (Has 2 10)) (Row 12) 20 ∷
    r (Some (Has 1 0)) (Some (Has 2 10)) (Atom 5) 21 ∷
    r (Some (Has 1 0)) (Some (Has 2 10)) (Atom 0) 18 ∷
    r (Some (Has 1 0)) (Some (Has 2 10)) (Row 19) 11 ∷
    r (Some (Has 1 0)) (Some (Has 2 12)) (Row 12) 32 ∷
    r (Some (Has 1 0)) (Some (Has 2 12)) (Atom 0) 30 ∷
    r (Some (Has 1 0)) (Some (Has 2 12)) (Row 31) 11 ∷
    r (Some (Has 1 0)) (Some (Has 2 14)) (Row 12) 11 ∷
    r (Some (Has 1 0)) (Some (Has 2 16)) (Row 12) 33 ∷
    r (Some (Has 1 0)) None (Atom 11) 13 ∷
    r (Some (Has 1 0)) None (Atom 12) 14 ∷
    r (Some (Has 1 0)) (Some (Has 13 11)) (Atom 0) 27 ∷
    r (Some (Has 1 0)) (Some (Has 13 11)) (Row 28) 15 ∷
    r (Some (Has 1 0)) (Some (Has 14 10)) (Row 11) 20 ∷
    r (Some (Has 1 0)) (Some (Has 14 10)) (Atom 5) 21 ∷
    r (Some (Has 1 0)) (Some (Has 14 10)) (Atom 0) 18 ∷
    r (Some (Has 1 0)) (Some (Has 14 10)) (Row 19) 16 ∷
    r (Some (Has 1 0)) (Some (Has 14 12)) (Row 11) 32 ∷
    r (Some (Has 1 0)) (Some (Has 14 12)) (Atom 0) 30 ∷
    r (Some (Has 1 0)) (Some (Has 14 12)) (Row 31) 16 ∷
    r (Some (Has 1 0)) (Some (Has 14 14)) (Row 11) 11 ∷
    r (Some (Has 1 0)) (Some (Has 14 16)) (Row 11) 33 ∷
    r (Some (Has 1 0)) None (Row 14) 0 ∷
    r (Some (Has 1 0)) None (Atom 6) 17 ∷
    r (Some (Has 18 0)) None (Atom 15) 24 ∷
    r (Some (Has 18 0)) None (Row 20) 25 ∷
    r (Some (Has 18 0)) None (Row 21) 26 ∷
    r (Some (Has 18 0)) None (Row 24) 19 ∷
    r (Some (Has 27 0)) None (Atom 5) 29 ∷
    r (Some (Has 27 0)) None (Row 29) 28 ∷
    r (Some (Has 30 0)) None (Atom 16) 34 ∷
    r (Some (Has 30 0)) (Some (Has 32 10)) (Row 34) 20 ∷
    r (Some (Has 30 0)) (Some (Has 32 10)) (Atom 5) 21 ∷
    r (Some (Has 30 0)) (Some (Has 32 10)) (Atom 0) 18 ∷
    r (Some (Has 30 0)) (Some (Has 32 10)) (Row 19) 33 ∷
    r (Some (Has 30 0)) (Some (Has 32 12)) (Row 34) 32 ∷
    r (Some (Has 30 0)) (Some (Has 32 12)) (Atom 0) 30 ∷
    r (Some (Has 30 0)) (Some (Has 32 12)) (Row 31) 33 ∷
    r (Some (Has 30 0)) (Some (Has 32 14)) (Row 34) 11 ∷
    r (Some (Has 30 0)) (Some (Has 32 16)) (Row 34) 33 ∷
    r (Some (Has 30 0)) None (Row 33) 31 ∷ [])
calls_rules = refl
