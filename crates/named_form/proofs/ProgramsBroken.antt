-- Programs that are not well formed, each with the part that it breaks.
use Rattle.std.proofs.Common.{◌≡◌, ℕ, ◌<◌, ◌≤◌, ◌^◌, true, false, List, [], ◌∷◌, Option, Some, None, refl, sym, ap, subst, ◌∙◌, arith, length-append}
use Rattle.std.proofs.lemmas.List.{length-replicate}
use Rattle.std.specs.Prelude.{pos, nat_eq, replicate, slice_get, ◌||◌, IsTrue}
use Rattle.std.specs.List.{IsDistinct, AllByRecursion}
use Rattle.scheme_base.specs.declared.lit.Lit.{Lit}
use Rattle.scheme_base.specs.declared.lit.Lit.TheVariants as lit
use Rattle.scheme_base.specs.declared.op.Op.TheVariants as op
use Rattle.scheme_base.specs.Constants.{Constant}
use Rattle.scheme_base.specs.Constants as constant
use Rattle.scheme_base.specs.Literals.{Laid}
use Rattle.scheme_base.proofs.Fixtures.{at}
use Rattle.named_form.specs.Code.{Ends, Then, Act, Const, Copy, Prim, If, Closure, Fix, MakeHole, Unbox, SetBox, TopGet, TopSet, TopDefine, Written, has}
use Rattle.named_form.specs.Valid.{Form, WellFormed, Counted, AreConstants, is_hole}
use Rattle.scheme_base.specs.declared.pos.Pos.{Pos}
use Rattle.named_form.proofs.Programs.{lambda, lambda_rest, main}

never : false ≡ true → ⊥
never h = cc

nor : true ≡ false → ⊥
nor h = cc

-- a program of one step, with one literal and no top-level variable
abbrev one : (vars : List ℕ) → Act Pos → Form
one vars act =
    record { procs = main (Then (at 1 1) vars act (Ends None)) ∷ []; tops = 0; lits = lit.Nil ∷ [] }

-- a program of these procedures without literals
abbrev of : List Written → Form
of procs = record { procs = procs; tops = 1; lits = [] }

-- a procedure that gives its parameter
abbrev same : (var : ℕ) → Written
same x = lambda (at 1 1) (x ∷ []) (Ends (Some x))

-- Numbers that name nothing

no_literal : WellFormed (one (0 ∷ []) (Const 1)) → ⊥
no_literal v = absurd (omega (arith, v.names.0.0))

no_procedure : WellFormed (one (0 ∷ []) (Closure 1)) → ⊥
no_procedure v = absurd (omega (arith, v.names.0.0))

no_fixed_procedure : WellFormed (one (0 ∷ []) (Fix (1 ∷ []))) → ⊥
no_fixed_procedure v = absurd (omega (arith, v.names.0.0.0))

no_top_level_variable : WellFormed (one (0 ∷ []) (TopGet 0 true)) → ⊥
no_top_level_variable v = absurd (omega (arith, v.names.0.0))

no_assigned_variable : WellFormed (one (0 ∷ []) (TopSet 0 0 true)) → ⊥
no_assigned_variable v = absurd (omega (arith, v.names.0.0))

no_defined_variable : WellFormed (one (0 ∷ []) (TopDefine 0 0)) → ⊥
no_defined_variable v = absurd (omega (arith, v.names.0.0))

-- Steps that bind too few or too many, and operations with wrong operands

binds_nothing : WellFormed (one [] (Const 0)) → ⊥
binds_nothing v = absurd (omega (arith, v.binds.0.0))

binds_two : WellFormed (one (0 ∷ 1 ∷ []) (Const 0)) → ⊥
binds_two v = absurd (omega (arith, v.binds.0.0))

binds_too_few : WellFormed (one (0 ∷ []) (Fix (1 ∷ 2 ∷ []))) → ⊥
binds_too_few v = absurd (omega (arith, v.binds.0.0))

too_few_operands : WellFormed (one (0 ∷ []) (Prim op.Cons (0 ∷ []))) → ⊥
too_few_operands v = absurd (omega (arith, v.takes.0.0))

apply_as_operation : WellFormed (one (0 ∷ []) (Prim op.Apply (0 ∷ 0 ∷ []))) → ⊥
apply_as_operation v = v.takes.0.0

callcc_as_operation : WellFormed (one (0 ∷ []) (Prim op.CallCC (0 ∷ []))) → ⊥
callcc_as_operation v = v.takes.0.0

-- Positions and numbers of more than 32 bits

far_step : WellFormed (of (main (Then (at (2 ^ 32) 1) (0 ∷ []) MakeHole (Ends None)) ∷ [])) → ⊥
far_step v = absurd (omega (arith, v.placed.0.1.0.0))

far_procedure : WellFormed (of (main (Ends None) ∷ lambda (at 1 (2 ^ 32)) [] (Ends None) ∷ [])) → ⊥
far_procedure v = absurd (omega (arith, v.placed.1.0.0.1))

too_many_procedures : (n : ℕ) (p : Written) → 2 ^ 32 ≤ n → Counted (replicate n p) → ⊥
too_many_procedures n p h v = let few : n < 2 ^ 32 = rw length-replicate at v.procs in absurd (omega (arith, few))

too_many_variables : (n x : ℕ) → 2 ^ 32 ≤ n → Counted (lambda (at 1 1) (replicate n x) (Ends None) ∷ []) → ⊥
too_many_variables n x h v = let few = simp (length-append, length-replicate) at v.vars in absurd (omega (arith, few))

-- Bodies

no_program : WellFormed (of []) → ⊥
no_program v = v.bodies

program_takes_one : WellFormed (of (same 0 ∷ [])) → ⊥
program_takes_one v = let h = v.bodies.0 in cc

program_takes_all : WellFormed (of (lambda_rest (at 1 1) [] 0 (Ends None) ∷ [])) → ⊥
program_takes_all v = let h = v.bodies.1 in cc

program_stands_somewhere : WellFormed (of (lambda (at 1 1) [] (Ends None) ∷ [])) → ⊥
program_stands_somewhere v = let h : 1 ≡ 0 = ap (λ (p : Pos). p.line) v.bodies.2 in absurd (omega (arith, h))

program_has_a_value : WellFormed (of (main (Ends (Some 0)) ∷ [])) → ⊥
program_has_a_value v = let h = v.bodies.3 in cc

no_value : WellFormed (of (main (Ends None) ∷ lambda (at 1 1) [] (Ends None) ∷ [])) → ⊥
no_value v = v.bodies.4.0

inner_definition : WellFormed (of (main (Ends None) ∷ lambda (at 1 1) (0 ∷ []) (Then (at 1 1) (1 ∷ []) (TopDefine 0 0) (Ends (Some 0))) ∷ [])) → ⊥
inner_definition v = v.bodies.4.0.0 tt

definition_in_an_arm : WellFormed (of (main (Then (at 1 1) (0 ∷ []) (If 0 (Then (at 1 1) (1 ∷ []) (TopDefine 0 0) (Ends (Some 0))) (Ends (Some 0))) (Ends None)) ∷ [])) → ⊥
definition_in_an_arm v = v.bodies.3.0.0.0 tt

arm_without_a_value : WellFormed (of (main (Then (at 1 1) (0 ∷ []) (If 0 (Ends None) (Ends (Some 0))) (Ends None)) ∷ [])) → ⊥
arm_without_a_value v = v.bodies.3.0.0

-- Closures

made_twice : WellFormed (of (main (Then (at 1 1) (0 ∷ []) (Closure 1) (Then (at 1 1) (1 ∷ []) (Closure 1) (Ends None))) ∷ same 2 ∷ [])) → ⊥
unfolding IsDistinct
made_twice v = nor v.made.once.0.0

never_made : WellFormed (of (main (Ends None) ∷ same 0 ∷ [])) → ⊥
never_made v = never v.made.each.0

makes_itself : WellFormed (of (main (Ends None) ∷ lambda (at 1 1) [] (Then (at 1 1) (0 ∷ []) (Closure 1) (Ends (Some 0))) ∷ [])) → ⊥
makes_itself v = absurd (omega (arith, v.made.later.1.0.0))

-- Variables

not_in_order : WellFormed (one (1 ∷ []) (Const 0)) → ⊥
not_in_order v = let h = v.numbered in cc

bound_twice : WellFormed (of (main (Then (at 1 1) (0 ∷ []) MakeHole (Then (at 1 1) (0 ∷ []) MakeHole (Ends None))) ∷ [])) → ⊥
bound_twice v = let h = v.numbered in cc

never_bound : WellFormed (one (0 ∷ []) (Copy 1)) → ⊥
never_bound v = let h = v.scoped.closed in cc

read_too_early : WellFormed (of (main (Then (at 1 1) (0 ∷ []) (Copy 1) (Then (at 1 1) (1 ∷ []) MakeHole (Ends None))) ∷ [])) → ⊥
read_too_early v = never (v.scoped.inside.0.0.0 refl)

kept_too_early : WellFormed (of (main (Then (at 1 1) (0 ∷ []) (Closure 1) (Then (at 1 1) (1 ∷ []) MakeHole (Ends None))) ∷ lambda (at 1 1) [] (Ends (Some 1)) ∷ [])) → ⊥
kept_too_early v = never (v.scoped.inside.0.1.0 refl)

-- Boxes

no_box : WellFormed (of (main (Then (at 1 1) (0 ∷ []) (Closure 1) (Then (at 1 1) (1 ∷ []) (Unbox 0 true) (Ends None))) ∷ same 2 ∷ [])) → ⊥
no_box v = never v.boxes.0.2.0

no_box_assigned : WellFormed (of (main (Then (at 1 1) (0 ∷ []) (Closure 1) (Then (at 1 1) (1 ∷ []) (SetBox 0 0) (Ends None))) ∷ same 2 ∷ [])) → ⊥
no_box_assigned v = never v.boxes.0.2.0.0

box_read_plainly : WellFormed (of (main (Then (at 1 1) (0 ∷ []) MakeHole (Then (at 1 1) (1 ∷ []) (Copy 0) (Ends None))) ∷ [])) → ⊥
box_read_plainly v = nor v.boxes.0.2.0.0

box_in_a_box : WellFormed (of (main (Then (at 1 1) (0 ∷ []) MakeHole (Then (at 1 1) (1 ∷ []) (SetBox 0 0) (Ends None))) ∷ [])) → ⊥
box_in_a_box v = nor v.boxes.0.2.0.1.0

box_as_a_value : WellFormed (of (main (Ends None) ∷ lambda (at 1 1) [] (Then (at 1 1) (0 ∷ []) MakeHole (Ends (Some 0))) ∷ [])) → ⊥
box_as_a_value v = nor v.boxes.1.0.2.0

-- Literals

abbrev quoting : List Written → List Lit → Form
quoting procs lits = record { procs = procs; tops = 0; lits = lits }

-- '(1) in a program that has no step
abbrev listed : List Lit
listed = lit.Pair 1 2 ∷ lit.Integer (pos 1) ∷ lit.Nil ∷ []

first_needed : (firsts : List ℕ) → AreConstants listed 0 firsts 3
    → AllByRecursion (λ l. IsTrue (is_hole (slice_get listed l) || has [] l)) firsts → ⊥
first_needed [] h n = absurd (omega (arith, h))
first_needed (x ∷ xs) h n =
    never (subst (λ l. IsTrue (is_hole (slice_get listed l) || has [] l)) h.2 n.0)

not_needed : WellFormed (quoting (main (Ends None) ∷ []) listed) → ⊥
not_needed v = first_needed v.literals.firsts v.literals.laid v.literals.needed

none_there : {o : Option Lit} {l : Lit} → o ≡ None → o ≡ Some l → ⊥
none_there e h = cc

-- no constant stands past the last literal
beyond : (lits : List Lit) (i : ℕ) → slice_get lits i ≡ None → (c : Constant) (j : ℕ) → Laid lits i c j → ⊥
beyond lits i e (constant.Pair a d) j h = none_there e h.1
beyond lits i e (constant.Vector cs) j h = none_there e h.1
beyond lits i e c j h = none_there e h.0

-- a part of '(1) that a step names, beside a step that names the whole

at_two : (c : Constant) (m : ℕ) → Laid listed 2 c m → m ≡ 3
at_two constant.Nil m h = h.1
at_two (constant.Pair a d) m h = let e = h.1 in cc
at_two (constant.Vector cs) m h = let e = h.1 in cc
at_two c m h = let e = h.0 in cc

whole : (c : Constant) (m : ℕ) → Laid listed 0 c m → m ≡ 3
whole (constant.Pair a d) m h =
    let cdr : 2 ≡ h.0 = second h.1 in at_two d m (subst (λ k. Laid listed k d m) (sym cdr) h.3)
  where
    second : {n k : ℕ} → Some (lit.Pair 1 2) ≡ Some (lit.Pair n k) → 2 ≡ k
    second e = cc
whole (constant.Vector cs) m h = let e = h.1 in cc
whole c m h = let e = h.0 in cc

one_first : (firsts : List ℕ) → AreConstants listed 0 firsts 3 → has firsts 1 ≡ false
one_first [] h = refl
one_first (x ∷ xs) h =
    ap (λ y. nat_eq 1 y || has xs 1) h.2
    ∙ none_past xs h.0 (whole h.1 h.0 h.4) h.5
  where
    none_past : (ys : List ℕ) (m : ℕ) → m ≡ 3 → AreConstants listed m ys 3 → has ys 1 ≡ false
    none_past [] m e k = refl
    none_past (y ∷ ys) m e k = absurd (beyond listed m (ap (slice_get listed) e) k.1 k.0 k.4)

abbrev part_form : Form
part_form =
    quoting
    (main (Then (at 1 1) (0 ∷ []) (Const 0) (Then (at 1 1) (1 ∷ []) (Const 1) (Ends None))) ∷ [])
    listed

part_named : WellFormed part_form → ⊥
part_named v = never (sym (one_first v.literals.firsts v.literals.laid) ∙ v.literals.named.1.0)

abbrev of_two : Form
of_two =
    quoting
    (main (Then (at 1 1) (0 ∷ []) (Const 0) (Then (at 1 1) (1 ∷ []) (Const 0) (Ends None))) ∷ [])
    (lit.Nil ∷ [])

named_twice : WellFormed of_two → ⊥
unfolding IsDistinct
named_twice v = nor v.literals.apart.0.0

hole_named : WellFormed (quoting (main (Then (at 1 1) (0 ∷ []) (Const 0) (Ends None)) ∷ []) (lit.Undefined ∷ [])) → ⊥
hole_named v = nor v.literals.defined.0

-- a pair whose parts are missing
abbrev short : List Lit
short = lit.Pair 1 2 ∷ []

no_constant : (c : Constant) (j : ℕ) → Laid short 0 c j → ⊥
no_constant (constant.Pair a d) j h = beyond short 1 refl a h.0 h.2
no_constant (constant.Vector cs) j h = let e = h.1 in cc
no_constant c j h = let e = h.0 in cc

parts_missing : (firsts : List ℕ) → AreConstants short 0 firsts 1 → ⊥
parts_missing [] h = absurd (omega (arith, h))
parts_missing (x ∷ xs) h = no_constant h.1 h.0 h.4

missing_parts : WellFormed (quoting (main (Then (at 1 1) (0 ∷ []) (Const 0) (Ends None)) ∷ []) short) → ⊥
missing_parts v = parts_missing v.literals.firsts v.literals.laid
