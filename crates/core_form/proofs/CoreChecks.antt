-- Small cores, the trees that their numbers stand for, their validity and their texts, worked out by hand.
use Rattle.std.proofs.Common.{◌≡◌, ℕ, List, [], ◌∷◌, suc, Some, None, inr, refl, sym, subst, true, false, arith}
use Rattle.std.specs.Prelude.{codes, ◌+◌, nat_lt, slice_get}
use Rattle.scheme_base.specs.declared.lit.Lit.TheVariants as lit
use Rattle.scheme_base.specs.declared.op.Op.TheVariants as op
use Rattle.scheme_base.specs.declared.pos.Pos.{Pos}
use Rattle.scheme_base.specs.Constants.{is_byte, Constant, Undefined, Pair, Symbol, String, Character, Boolean, Vector, Nil, none as no_constant, item as constant}
use Rattle.scheme_base.specs.Literals.{Laid}
use Rattle.scheme_base.specs.Positions.{IsPosition}
use Rattle.std.specs.List.{IsDistinct}
use Rattle.core_form.specs.declared.program.Var.{Var}
use Rattle.core_form.specs.declared.program.Node.{Node}
use Rattle.core_form.specs.declared.program.Program.{Program}
use Rattle.core_form.specs.declared.program.What.TheVariants as expr
use Rattle.core_form.specs.Trees.{Tree, Const, Ref, Lambda, If, Set, Call, Prim, Seq, Fix, Define, Trees, none, item, depth, greatest_depth, StandAll, Holds}
use Rattle.core_form.specs.Text.{constant_text, IsLines, TextOf, HasText}
use Rattle.core_form.specs.Valid.{Constants, AllConstants, IsCore}
use Rattle.core_form.proofs.ValidTexts.{lines_text}

abbrev at : ℕ → Pos
at col = record { line = 1; col = col }

abbrev node : expr.the_data Var → ℕ → Node Var
node what col = record { what = what; pos = at col }

abbrev own : List ℕ → Var
own name = record { name = name; lib = false }

abbrev lib : List ℕ → Var
lib name = record { name = name; lib = true }

-- (define (f x . y) (car x)) and '(a "q\"" . #(#\space #t))
abbrev sample : Program Var
sample =
    record {
      exprs =
          node (expr.Ref (own (codes "x"))) 24
          ∷ node (expr.Ref (lib (codes "car"))) 20
          ∷ node (expr.Call 1 (0 ∷ [])) 19
          ∷ node (expr.Lambda (own (codes "x") ∷ []) (Some (own (codes "y"))) 2) 1
          ∷ node (expr.Define (own (codes "f")) 3) 1
          ∷ node (expr.Const 0) 27
          ∷ [];
      forms = 4 ∷ 5 ∷ [];
      lits =
          lit.Pair 1 2
          ∷ lit.Symbol (codes "a")
          ∷ lit.Pair 3 4
          ∷ lit.Text (codes "q\"")
          ∷ lit.Vector (5 ∷ 6 ∷ [])
          ∷ lit.Char 32
          ∷ lit.Boolean true
          ∷ [];
    }

abbrev car_of_x : Tree Var
car_of_x = Call (at 19) (Ref (at 20) (lib (codes "car"))) (item (Ref (at 24) (own (codes "x"))) none)

abbrev forms : Trees Var
forms =
    item (Define (at 1) (own (codes "f")) (Lambda (at 1) (own (codes "x") ∷ []) (Some (own (codes "y"))) car_of_x))
    (item (Const (at 27) 0) none)

holds : Holds sample forms
holds = (
  4,
  5 ∷ [],
  refl,
  (3, refl, (2, refl, (1, 0 ∷ [], refl, refl, (0, [], refl, refl, refl)))),
  (5, [], refl, refl, refl),
)

abbrev constant_0 : Constant
constant_0 = Pair (Symbol (codes "a")) (Pair (String (codes "q\"")) (Vector (constant (Character 32) (constant (Boolean true) no_constant))))

laid : Laid sample.lits 0 constant_0 7
laid = (
  2,
  refl,
  (refl, refl),
  (4, refl, (refl, refl), (5 ∷ 6 ∷ [], refl, (6 ∷ [], 6, refl, (refl, refl), ([], 7, refl, (refl, refl), (refl, refl))))),
)

constant_is : constant_text constant_0 ≡ codes "(a \"q\\\"\" . #(#\\space #t))"
constant_is = refl

text :
    TextOf sample (codes "(define f (lambda (x) y (call (ref lib:car) ((ref x)))))\n(const (a \"q\\\"\" . #(#\\space #t)))\n")
text = (
  forms,
  holds,
  (
    codes "(define f (lambda (x) y (call (ref lib:car) ((ref x)))))",
    codes "(const (a \"q\\\"\" . #(#\\space #t)))\n",
    (
      codes "(lambda (x) y (call (ref lib:car) ((ref x))))",
      (
        codes "(call (ref lib:car) ((ref x)))",
        (codes "(ref lib:car)", codes "((ref x))", refl, (codes "(ref x)", codes ")", refl, refl, refl), refl),
        refl,
      ),
      refl,
    ),
    (
      codes "(const (a \"q\\\"\" . #(#\\space #t)))",
      [],
      (codes "(a \"q\\\"\" . #(#\\space #t))", (constant_0, 7, laid, refl), refl),
      refl,
      refl,
    ),
    refl,
  ),
)

here : (col : ℕ) → nat_lt col 100 ≡ true → IsPosition (at col)
here col small = (omega arith, grind (arith, small))

valid : IsCore sample forms
unfolding IsDistinct
valid =
    record {
      holds = holds;
      constants = (
        0,
        (0, refl, (0, refl, refl)),
        (7, (refl, constant_0, (refl, (refl, (refl, (tt, tt)))), laid), refl),
      );
      fine = ((((refl, tt), (tt, tt)), (tt, (tt, tt))), (refl, tt));
      placed = (
        (here 1 refl, (here 1 refl, (here 19 refl, here 20 refl, (here 24 refl, tt)))),
        (here 27 refl, tt),
      );
    }

depths : depth car_of_x ∷ greatest_depth forms ∷ greatest_depth {V = Var} none ∷ [] ≡ 2 ∷ 4 ∷ 0 ∷ []
depths = refl

-- A core of every form: (define (f x . r) (if x #\0 #\1)), (fix ((g (lambda () #\2))) (g #\3)), (begin
-- (set! f #\4) (%cons #\5 #\6)), ((lambda (y) (set! y #\7)) <undefined>)

abbrev var : ℕ → Var
var letter = own (letter ∷ [])

abbrev every : Program Var
every =
    record {
      exprs =
          node (expr.Ref (var 120)) 1
          ∷ node (expr.Const 0) 2
          ∷ node (expr.Const 1) 3
          ∷ node (expr.If 0 1 2) 4
          ∷ node (expr.Lambda (var 120 ∷ []) (Some (var 114)) 3) 5
          ∷ node (expr.Define (var 102) 4) 6
          ∷ node (expr.Const 2) 7
          ∷ node (expr.Lambda [] None 6) 8
          ∷ node (expr.Ref (var 103)) 9
          ∷ node (expr.Const 3) 10
          ∷ node (expr.Call 8 (9 ∷ [])) 11
          ∷ node (expr.Fix (var 103 ∷ []) (7 ∷ []) 10) 12
          ∷ node (expr.Const 4) 13
          ∷ node (expr.Set (var 102) 12) 14
          ∷ node (expr.Const 5) 15
          ∷ node (expr.Const 6) 16
          ∷ node (expr.Prim op.Cons (14 ∷ 15 ∷ [])) 17
          ∷ node (expr.Seq (13 ∷ 16 ∷ [])) 18
          ∷ node (expr.Const 7) 19
          ∷ node (expr.Set (var 121) 18) 20
          ∷ node (expr.Lambda (var 121 ∷ []) None 19) 21
          ∷ node (expr.Const 8) 22
          ∷ node (expr.Call 20 (21 ∷ [])) 23
          ∷ [];
      forms = 5 ∷ 11 ∷ 17 ∷ 22 ∷ [];
      lits =
          lit.Char 48 ∷ lit.Char 49 ∷ lit.Char 50 ∷ lit.Char 51 ∷ lit.Char 52
          ∷ lit.Char 53 ∷ lit.Char 54 ∷ lit.Char 55 ∷ lit.Undefined ∷ [];
    }

abbrev definition : Tree Var
definition =
    Define (at 6) (var 102)
    (Lambda (at 5) (var 120 ∷ []) (Some (var 114)) (If (at 4) (Ref (at 1) (var 120)) (Const (at 2) 0) (Const (at 3) 1)))

abbrev fixed : Tree Var
fixed =
    Fix (at 12) (var 103 ∷ []) (item (Lambda (at 8) [] None (Const (at 7) 2)) none)
    (Call (at 11) (Ref (at 9) (var 103)) (item (Const (at 10) 3) none))

abbrev sequence : Tree Var
sequence =
    Seq (at 18)
    (item (Set (at 14) (var 102) (Const (at 13) 4))
    (item (Prim (at 17) op.Cons (item (Const (at 15) 5) (item (Const (at 16) 6) none))) none))

abbrev direct : Tree Var
direct =
    Call (at 23) (Lambda (at 21) (var 121 ∷ []) None (Set (at 20) (var 121) (Const (at 19) 7)))
    (item (Const (at 22) 8) none)

abbrev every_form : Trees Var
every_form = item definition (item fixed (item sequence (item direct none)))

every_holds : Holds every every_form
every_holds = (
  5,
  11 ∷ 17 ∷ 22 ∷ [],
  refl,
  (4, refl, (3, refl, (0, 1, 2, refl, refl, refl, refl))),
  (
    11,
    17 ∷ 22 ∷ [],
    refl,
    (7 ∷ [], 10, refl, (7, [], refl, (6, refl, refl), refl), (8, 9 ∷ [], refl, refl, (9, [], refl, refl, refl))),
    (
      17,
      22 ∷ [],
      refl,
      (
        13 ∷ 16 ∷ [],
        refl,
        (
          13,
          16 ∷ [],
          refl,
          (12, refl, refl),
          (16, [], refl, (14 ∷ 15 ∷ [], refl, (14, 15 ∷ [], refl, refl, (15, [], refl, refl, refl))), refl),
        ),
      ),
      (22, [], refl, (20, 21 ∷ [], refl, (19, refl, (18, refl, refl)), (21, [], refl, refl, refl)), refl),
    ),
  ),
)

digit : (n : ℕ) → is_byte (48 + n) ≡ true → slice_get every.lits n ≡ Some (lit.Char (48 + n))
    → Constants {V = Var} every.lits n (Const (at 1) n) (suc n)
digit n fits is = (refl, Character (48 + n), fits, (is, refl))

every_constant : AllConstants every.lits 0 every_form 9
every_constant = (
  2,
  (0, 1, refl, digit 0 refl refl, digit 1 refl refl),
  (
    4,
    (3, (3, digit 2 refl refl, refl), (3, refl, (4, digit 3 refl refl, refl))),
    (
      7,
      (5, digit 4 refl refl, (7, (6, digit 5 refl refl, (7, digit 6 refl refl, refl)), refl)),
      (9, (8, digit 7 refl refl, (9, (refl, Undefined, tt, (refl, refl)), refl)), refl),
    ),
  ),
)

every_valid : IsCore every every_form
unfolding IsDistinct
every_valid =
    record {
      holds = every_holds;
      constants = every_constant;
      fine = (
        (((refl, tt), (tt, tt)), (tt, refl, refl)),
        (
          ((tt, tt), refl, (tt, tt), (refl, refl, tt), ((tt, refl), tt), (tt, (refl, tt))),
          ((tt, (refl, ((refl, (refl, (refl, tt))), tt))), (((tt, tt), refl, (inr (refl, refl), tt)), tt)),
        ),
      );
      placed = (
        (here 6 refl, (here 5 refl, (here 4 refl, here 1 refl, here 2 refl, here 3 refl))),
        (
          (here 12 refl, ((here 8 refl, here 7 refl), tt), (here 11 refl, here 9 refl, (here 10 refl, tt))),
          (
            (here 18 refl, ((here 14 refl, here 13 refl), ((here 17 refl, (here 15 refl, (here 16 refl, tt))), tt))),
            ((here 23 refl, (here 21 refl, (here 20 refl, here 19 refl)), (here 22 refl, tt)), tt),
          ),
        ),
      );
    }

-- a `Fix` is as deep as its body, too
abbrev deep_body : Tree Var
deep_body = Fix (at 1) [] none sequence

every_depth : depth deep_body ∷ depth definition ∷ depth fixed ∷ depth sequence ∷ depth direct ∷ greatest_depth every_form ∷ [] ≡ 4 ∷ 4 ∷ 3 ∷ 3 ∷ 4 ∷ 4 ∷ []
every_depth = refl

every_text :
    (lines_text every.lits 0 every_form 9 every_constant).0
    ≡ codes "(define f (lambda (x) r (if (ref x) (const #\\0) (const #\\1))))\n(fix (g) ((lambda () #f (const #\\2))) (call (ref g) ((const #\\3))))\n(seq ((set f (const #\\4)) (prim %cons ((const #\\5) (const #\\6)))))\n(call (lambda (y) #f (set y (const #\\7))) ((const #<undefined>)))\n"
unfolding every_constant digit
every_text = refl

-- '(#\a), as the test writes it
pub has_text : (core : Program Var) → core.exprs ≡ node (expr.Const 0) 1 ∷ [] → core.forms ≡ 0 ∷ []
    → core.lits ≡ lit.Pair 1 2 ∷ lit.Char 97 ∷ lit.Nil ∷ [] → HasText core
has_text core exprs forms lits =
    subst (λ es. (t : List ℕ) × ((fs : Trees Var) × StandAll es core.forms fs × IsLines core.lits fs t)) (sym exprs)
    (subst (λ ids. (t : List ℕ) × ((fs : Trees Var) × StandAll (node (expr.Const 0) 1 ∷ []) ids fs × IsLines core.lits fs t)) (sym forms)
    (subst (λ ls. (t : List ℕ) × ((fs : Trees Var) × StandAll (node (expr.Const 0) 1 ∷ []) (0 ∷ []) fs × IsLines ls fs t)) (sym lits) (
      codes "(const (#\\a))\n",
      (
        item (Const (at 1) 0) none,
        (0, [], refl, refl, refl),
        (
          codes "(const (#\\a))",
          [],
          (codes "(#\\a)", (Pair (Character 97) Nil, 3, (2, refl, (refl, refl), (refl, refl)), refl), refl),
          refl,
          refl,
        ),
      ),
    )))
