-- Worked programs in core forms, with what they write and how they stop.
--
-- What they do was found by a plain compiler that was written apart from this one. The positions inside of a form
-- that no error tells are those of the form.
use Rattle.std.specs.Prelude.{ℕ, List, [], ◌∷◌, ◌++◌, Some, None, pos, negsuc, codes, true, false}
use Rattle.scheme_base.specs.declared.error.ErrKind.TheVariants.{WrongType, Index, Unbound, NotProcedure, Count, Overflow, LiteralWritten}
use Rattle.scheme_base.specs.declared.lit.Lit.{Lit}
use Rattle.scheme_base.specs.declared.lit.Lit.TheVariants as lit
use Rattle.scheme_base.specs.declared.op.Op.TheVariants as op
use Rattle.scheme_base.specs.Stops.{Stop, End, Error}
use Rattle.core_form.specs.declared.program.Var.{Var}
use Rattle.core_form.specs.Trees.{Tree, Const, Ref, Lambda, If, Set, Call, Prim, Seq, Fix, Define, Trees, none, item}
use Rattle.worked_runs.specs.Reached.{at, own, lib, lib_car, lib_car_lits, lib_cons, lib_cons_lits, lib_opt, lib_opt_lits, lib_make_vector, lib_make_vector_lits, lib_bad, lib_bad_lits, lib_expt, lib_expt_lits, lib_expt_too, lib_expt_too_lits, lib_char_is, lib_char_is_lits, lib_string_tolist, lib_string_tolist_lits, lib_slist, lib_slist_lits, lib_vector_tolist, lib_vector_tolist_lits, lib_vlist, lib_vlist_lits, lib_chars, lib_chars_lits, lib_num, lib_num_lits, lib_digit, lib_digit_lits, lib_write, lib_write_lits, lib_print, lib_print_lits, lib_items, lib_items_lits, lib_put, lib_put_lits, lib_text, lib_text_lits, lib_quoted, lib_quoted_lits, lib_qput, lib_qput_lits, lib_named, lib_named_lits, lib_cadr, lib_cadr_lits, lib_fold, lib_fold_lits, lib_, lib__lits, lib_newline, lib_newline_lits}

-- a program, with how many steps are enough for both machines, what it writes, and how it stops
pub record Worked : Type 0 where
  pub forms : Trees Var
  pub lits : List Lit
  pub steps : ℕ
  pub written : List ℕ
  pub stop : Stop

-- (apply car 5)
abbrev pub applied_to_no_list : Worked
applied_to_no_list =
    record {
      forms =
          item (lib_car 0) (item (Prim (at 1 1) op.Apply (item (Ref (at 1 1) (lib (codes "car"))) (item (Const (at 1 1) 0) none))) none);
      lits = lib_car_lits 0 ++ (lit.Integer (pos 5) ∷ []);
      steps = 400;
      written = [];
      stop = Error WrongType (at 1 1);
    }

-- (call-with-current-continuation 5)
abbrev pub captured_by_no_procedure : Worked
captured_by_no_procedure =
    record {
      forms =
          item (Prim (at 1 1) op.CallCC (item (Const (at 1 1) 0) none)) none;
      lits = lit.Integer (pos 5) ∷ [];
      steps = 400;
      written = [];
      stop = Error NotProcedure (at 1 1);
    }

-- (call-with-current-continuation cons)
abbrev pub captured_by_two_parameters : Worked
captured_by_two_parameters =
    record {
      forms =
          item (lib_cons 0) (item (Prim (at 1 1) op.CallCC (item (Ref (at 1 1) (lib (codes "cons"))) none)) none);
      lits = lib_cons_lits 0;
      steps = 400;
      written = [];
      stop = Error Count (at 1 1);
    }

-- (make-vector 1 2 3)
abbrev pub too_many_operands : Worked
too_many_operands =
    record {
      forms =
          item (lib_opt 0) (item (lib_make_vector 0) (item (Call (at 1 1) (Ref (at 1 1) (lib (codes "make-vector"))) (item (Const (at 1 1) 1) (item (Const (at 1 1) 2) (item (Const (at 1 1) 3) none)))) none));
      lits = lib_opt_lits 0 ++ (lib_make_vector_lits 0 ++ (lit.Integer (pos 1) ∷ lit.Integer (pos 2) ∷ lit.Integer (pos 3) ∷ []));
      steps = 400;
      written = [];
      stop = Error Count (at 0 68);
    }

-- (expt 2 -1)
abbrev pub negative_power : Worked
negative_power =
    record {
      forms =
          item (lib_bad 0) (item (lib_expt 1) (item (lib_expt_too 4) (item (Call (at 1 1) (Ref (at 1 1) (lib (codes "expt"))) (item (Const (at 1 1) 6) (item (Const (at 1 1) 7) none))) none)));
      lits = lib_bad_lits 0 ++ (lib_expt_lits 1 ++ (lib_expt_too_lits 4 ++ (lit.Integer (pos 2) ∷ lit.Integer (negsuc 0) ∷ [])));
      steps = 400;
      written = [];
      stop = Error Index (at 0 69);
    }

-- (expt 2 61)
abbrev pub large_power : Worked
large_power =
    record {
      forms =
          item (lib_bad 0) (item (lib_expt 1) (item (lib_expt_too 4) (item (Call (at 1 1) (Ref (at 1 1) (lib (codes "expt"))) (item (Const (at 1 1) 6) (item (Const (at 1 1) 7) none))) none)));
      lits = lib_bad_lits 0 ++ (lib_expt_lits 1 ++ (lib_expt_too_lits 4 ++ (lit.Integer (pos 2) ∷ lit.Integer (pos 61) ∷ [])));
      steps = 2500;
      written = [];
      stop = Error Overflow (at 0 94);
    }

-- (define v '#(1 2))(write (vector-ref v 0))(vector-set! v 'x 1)
abbrev pub index_of_no_integer : Worked
index_of_no_integer =
    record {
      forms =
          item (lib_char_is 0) (item (lib_string_tolist 0) (item (lib_slist 1) (item (lib_vector_tolist 4) (item (lib_vlist 5) (item (lib_chars 8) (item (lib_num 13) (item (lib_digit 15) (item (lib_write 18) (item (lib_print 19) (item (lib_items 28) (item (lib_put 32) (item (lib_text 35) (item (lib_quoted 35) (item (lib_qput 37) (item (lib_named 44) (item (Define (at 1 1) (own (codes "v")) (Const (at 1 1) 50)) (item (Call (at 1 19) (Ref (at 1 19) (lib (codes "write"))) (item (Prim (at 1 19) op.VectorRef (item (Ref (at 1 19) (own (codes "v"))) (item (Const (at 1 19) 53) none))) none)) (item (Prim (at 1 43) op.VectorSet (item (Ref (at 1 43) (own (codes "v"))) (item (Const (at 1 43) 54) (item (Const (at 1 43) 55) none)))) none))))))))))))))))));
      lits = lib_char_is_lits 0 ++ (lib_string_tolist_lits 0 ++ (lib_slist_lits 1 ++ (lib_vector_tolist_lits 4 ++ (lib_vlist_lits 5 ++ (lib_chars_lits 8 ++ (lib_num_lits 13 ++ (lib_digit_lits 15 ++ (lib_write_lits 18 ++ (lib_print_lits 19 ++ (lib_items_lits 28 ++ (lib_put_lits 32 ++ (lib_text_lits 35 ++ (lib_quoted_lits 35 ++ (lib_qput_lits 37 ++ (lib_named_lits 44 ++ ((lit.Vector (51 ∷ 52 ∷ []) ∷ lit.Integer (pos 1) ∷ lit.Integer (pos 2) ∷ []) ++ ((lit.Integer (pos 0) ∷ []) ++ (lit.Symbol (codes "x") ∷ lit.Integer (pos 1) ∷ []))))))))))))))))));
      steps = 400;
      written = codes "1";
      stop = Error WrongType (at 1 43);
    }

-- (define l '(a (b c)))(set-car! (cadr l) 1)
abbrev pub literal_written : Worked
literal_written =
    record {
      forms =
          item (lib_cadr 0) (item (Define (at 1 1) (own (codes "l")) (Const (at 1 1) 0)) (item (Prim (at 1 22) op.SetCar (item (Call (at 1 22) (Ref (at 1 22) (lib (codes "cadr"))) (item (Ref (at 1 22) (own (codes "l"))) none)) (item (Const (at 1 22) 9) none))) none));
      lits = lib_cadr_lits 0 ++ ((lit.Pair 1 2 ∷ lit.Symbol (codes "a") ∷ lit.Pair 3 8 ∷ lit.Pair 4 5 ∷ lit.Symbol (codes "b") ∷ lit.Pair 6 7 ∷ lit.Symbol (codes "c") ∷ lit.Nil ∷ lit.Nil ∷ []) ++ (lit.Integer (pos 1) ∷ []));
      steps = 400;
      written = [];
      stop = Error LiteralWritten (at 1 22);
    }

-- (car (begin (write 1) 5) (write 2))
abbrev pub operands_in_order : Worked
operands_in_order =
    record {
      forms =
          item (lib_car 0) (item (lib_char_is 0) (item (lib_string_tolist 0) (item (lib_slist 1) (item (lib_vector_tolist 4) (item (lib_vlist 5) (item (lib_chars 8) (item (lib_num 13) (item (lib_digit 15) (item (lib_write 18) (item (lib_print 19) (item (lib_items 28) (item (lib_put 32) (item (lib_text 35) (item (lib_quoted 35) (item (lib_qput 37) (item (lib_named 44) (item (Call (at 1 1) (Ref (at 1 1) (lib (codes "car"))) (item (Seq (at 1 1) (item (Call (at 1 1) (Ref (at 1 1) (lib (codes "write"))) (item (Const (at 1 1) 50) none)) (item (Const (at 1 1) 51) none))) (item (Call (at 1 1) (Ref (at 1 1) (lib (codes "write"))) (item (Const (at 1 1) 52) none)) none))) none)))))))))))))))));
      lits = lib_car_lits 0 ++ (lib_char_is_lits 0 ++ (lib_string_tolist_lits 0 ++ (lib_slist_lits 1 ++ (lib_vector_tolist_lits 4 ++ (lib_vlist_lits 5 ++ (lib_chars_lits 8 ++ (lib_num_lits 13 ++ (lib_digit_lits 15 ++ (lib_write_lits 18 ++ (lib_print_lits 19 ++ (lib_items_lits 28 ++ (lib_put_lits 32 ++ (lib_text_lits 35 ++ (lib_quoted_lits 35 ++ (lib_qput_lits 37 ++ (lib_named_lits 44 ++ (lit.Integer (pos 1) ∷ lit.Integer (pos 5) ∷ lit.Integer (pos 2) ∷ [])))))))))))))))));
      steps = 400;
      written = codes "12";
      stop = Error Count (at 1 1);
    }

-- (set! zork (begin (write 1) 2))
abbrev pub assigned_undefined : Worked
assigned_undefined =
    record {
      forms =
          item (lib_char_is 0) (item (lib_string_tolist 0) (item (lib_slist 1) (item (lib_vector_tolist 4) (item (lib_vlist 5) (item (lib_chars 8) (item (lib_num 13) (item (lib_digit 15) (item (lib_write 18) (item (lib_print 19) (item (lib_items 28) (item (lib_put 32) (item (lib_text 35) (item (lib_quoted 35) (item (lib_qput 37) (item (lib_named 44) (item (Set (at 1 1) (own (codes "zork")) (Seq (at 1 1) (item (Call (at 1 1) (Ref (at 1 1) (lib (codes "write"))) (item (Const (at 1 1) 50) none)) (item (Const (at 1 1) 51) none)))) none))))))))))))))));
      lits = lib_char_is_lits 0 ++ (lib_string_tolist_lits 0 ++ (lib_slist_lits 1 ++ (lib_vector_tolist_lits 4 ++ (lib_vlist_lits 5 ++ (lib_chars_lits 8 ++ (lib_num_lits 13 ++ (lib_digit_lits 15 ++ (lib_write_lits 18 ++ (lib_print_lits 19 ++ (lib_items_lits 28 ++ (lib_put_lits 32 ++ (lib_text_lits 35 ++ (lib_quoted_lits 35 ++ (lib_qput_lits 37 ++ (lib_named_lits 44 ++ (lit.Integer (pos 1) ∷ lit.Integer (pos 2) ∷ []))))))))))))))));
      steps = 400;
      written = codes "1";
      stop = Error Unbound (at 1 1);
    }

-- (define (f) zork)(write 1)(f)
abbrev pub referred_undefined : Worked
referred_undefined =
    record {
      forms =
          item (lib_char_is 0) (item (lib_string_tolist 0) (item (lib_slist 1) (item (lib_vector_tolist 4) (item (lib_vlist 5) (item (lib_chars 8) (item (lib_num 13) (item (lib_digit 15) (item (lib_write 18) (item (lib_print 19) (item (lib_items 28) (item (lib_put 32) (item (lib_text 35) (item (lib_quoted 35) (item (lib_qput 37) (item (lib_named 44) (item (Define (at 1 1) (own (codes "f")) (Lambda (at 1 1) [] None (Ref (at 1 13) (own (codes "zork"))))) (item (Call (at 1 18) (Ref (at 1 18) (lib (codes "write"))) (item (Const (at 1 18) 50) none)) (item (Call (at 1 27) (Ref (at 1 27) (own (codes "f"))) none) none))))))))))))))))));
      lits = lib_char_is_lits 0 ++ (lib_string_tolist_lits 0 ++ (lib_slist_lits 1 ++ (lib_vector_tolist_lits 4 ++ (lib_vlist_lits 5 ++ (lib_chars_lits 8 ++ (lib_num_lits 13 ++ (lib_digit_lits 15 ++ (lib_write_lits 18 ++ (lib_print_lits 19 ++ (lib_items_lits 28 ++ (lib_put_lits 32 ++ (lib_text_lits 35 ++ (lib_quoted_lits 35 ++ (lib_qput_lits 37 ++ (lib_named_lits 44 ++ (lit.Integer (pos 1) ∷ []))))))))))))))));
      steps = 400;
      written = codes "1";
      stop = Error Unbound (at 1 13);
    }

-- worked program closures
abbrev pub closures : Worked
closures =
    record {
      forms =
          item (lib_fold 0) (item (lib_ 0) (item (lib_char_is 1) (item (lib_string_tolist 1) (item (lib_slist 2) (item (lib_vector_tolist 5) (item (lib_vlist 6) (item (lib_chars 9) (item (lib_num 14) (item (lib_digit 16) (item (lib_newline 19) (item (lib_write 20) (item (lib_print 21) (item (lib_items 30) (item (lib_put 34) (item (lib_text 37) (item (lib_quoted 37) (item (lib_qput 39) (item (lib_named 46) (item (Define (at 1 1) (own (codes "make-counter")) (Lambda (at 1 1) [] None (Call (at 1 1) (Lambda (at 1 1) ((own (codes "n")) ∷ []) None (Lambda (at 1 1) [] None (Seq (at 1 1) (item (Set (at 1 1) (own (codes "n")) (Prim (at 1 1) op.Add (item (Ref (at 1 1) (own (codes "n"))) (item (Const (at 1 1) 52) none)))) (item (Ref (at 1 1) (own (codes "n"))) none))))) (item (Const (at 1 1) 53) none)))) (item (Define (at 1 1) (own (codes "a")) (Call (at 1 1) (Ref (at 1 1) (own (codes "make-counter"))) none)) (item (Define (at 1 1) (own (codes "b")) (Call (at 1 1) (Ref (at 1 1) (own (codes "make-counter"))) none)) (item (Call (at 1 1) (Ref (at 1 1) (own (codes "a"))) none) (item (Call (at 1 1) (Ref (at 1 1) (own (codes "a"))) none) (item (Call (at 1 1) (Ref (at 1 1) (own (codes "b"))) none) (item (Call (at 1 1) (Ref (at 1 1) (lib (codes "write"))) (item (Call (at 1 1) (Lambda (at 1 1) ((own (codes ".4")) ∷ (own (codes ".5")) ∷ []) None (Prim (at 1 1) op.Cons (item (Ref (at 1 1) (own (codes ".4"))) (item (Prim (at 1 1) op.Cons (item (Ref (at 1 1) (own (codes ".5"))) (item (Const (at 1 1) 54) none))) none)))) (item (Call (at 1 1) (Ref (at 1 1) (own (codes "a"))) none) (item (Call (at 1 1) (Ref (at 1 1) (own (codes "b"))) none) none))) none)) (item (Call (at 1 1) (Ref (at 1 1) (lib (codes "newline"))) none) (item (Define (at 1 1) (own (codes "compose")) (Lambda (at 1 1) [] (Some (own (codes "fs"))) (If (at 1 1) (Prim (at 1 1) op.IsNull (item (Ref (at 1 1) (own (codes "fs"))) none)) (Lambda (at 1 1) ((own (codes "x")) ∷ []) None (Ref (at 1 1) (own (codes "x")))) (Lambda (at 1 1) ((own (codes "x")) ∷ []) None (Call (at 1 1) (Prim (at 1 1) op.Car (item (Ref (at 1 1) (own (codes "fs"))) none)) (item (Call (at 1 1) (Prim (at 1 1) op.Apply (item (Ref (at 1 1) (own (codes "compose"))) (item (Prim (at 1 1) op.Cdr (item (Ref (at 1 1) (own (codes "fs"))) none)) none))) (item (Ref (at 1 1) (own (codes "x"))) none)) none)))))) (item (Call (at 1 1) (Ref (at 1 1) (lib (codes "write"))) (item (Call (at 1 1) (Call (at 1 1) (Ref (at 1 1) (own (codes "compose"))) (item (Lambda (at 1 1) ((own (codes "x")) ∷ []) None (Prim (at 1 1) op.Multiply (item (Ref (at 1 1) (own (codes "x"))) (item (Const (at 1 1) 55) none)))) (item (Lambda (at 1 1) ((own (codes "x")) ∷ []) None (Prim (at 1 1) op.Add (item (Ref (at 1 1) (own (codes "x"))) (item (Const (at 1 1) 56) none)))) none))) (item (Const (at 1 1) 57) none)) none)) (item (Call (at 1 1) (Ref (at 1 1) (lib (codes "newline"))) none) (item (Define (at 1 1) (own (codes "curry")) (Lambda (at 1 1) ((own (codes "f")) ∷ []) None (Lambda (at 1 1) ((own (codes "x")) ∷ []) None (Lambda (at 1 1) ((own (codes "y")) ∷ []) None (Call (at 1 1) (Ref (at 1 1) (own (codes "f"))) (item (Ref (at 1 1) (own (codes "x"))) (item (Ref (at 1 1) (own (codes "y"))) none))))))) (item (Call (at 1 1) (Ref (at 1 1) (lib (codes "write"))) (item (Call (at 1 1) (Call (at 1 1) (Call (at 1 1) (Ref (at 1 1) (own (codes "curry"))) (item (Ref (at 1 1) (lib (codes "-"))) none)) (item (Const (at 1 1) 58) none)) (item (Const (at 1 1) 59) none)) none)) (item (Call (at 1 1) (Ref (at 1 1) (lib (codes "newline"))) none) (item (Define (at 1 1) (own (codes "y")) (Lambda (at 1 1) ((own (codes "f")) ∷ []) None (Call (at 1 1) (Lambda (at 1 1) ((own (codes "x")) ∷ []) None (Call (at 1 1) (Ref (at 1 1) (own (codes "x"))) (item (Ref (at 1 1) (own (codes "x"))) none))) (item (Lambda (at 1 1) ((own (codes "x")) ∷ []) None (Call (at 1 1) (Ref (at 1 1) (own (codes "f"))) (item (Lambda (at 1 1) ((own (codes "a")) ∷ []) None (Call (at 1 1) (Call (at 1 1) (Ref (at 1 1) (own (codes "x"))) (item (Ref (at 1 1) (own (codes "x"))) none)) (item (Ref (at 1 1) (own (codes "a"))) none))) none))) none)))) (item (Call (at 1 1) (Ref (at 1 1) (lib (codes "write"))) (item (Call (at 1 1) (Call (at 1 1) (Ref (at 1 1) (own (codes "y"))) (item (Lambda (at 1 1) ((own (codes "fact")) ∷ []) None (Lambda (at 1 1) ((own (codes "n")) ∷ []) None (If (at 1 1) (Prim (at 1 1) op.Equals (item (Ref (at 1 1) (own (codes "n"))) (item (Const (at 1 1) 60) none))) (Const (at 1 1) 61) (Prim (at 1 1) op.Multiply (item (Ref (at 1 1) (own (codes "n"))) (item (Call (at 1 1) (Ref (at 1 1) (own (codes "fact"))) (item (Prim (at 1 1) op.Subtract (item (Ref (at 1 1) (own (codes "n"))) (item (Const (at 1 1) 62) none))) none)) none)))))) none)) (item (Const (at 1 1) 63) none)) none)) none))))))))))))))))))))))))))))))))));
      lits = lib_fold_lits 0 ++ (lib__lits 0 ++ (lib_char_is_lits 1 ++ (lib_string_tolist_lits 1 ++ (lib_slist_lits 2 ++ (lib_vector_tolist_lits 5 ++ (lib_vlist_lits 6 ++ (lib_chars_lits 9 ++ (lib_num_lits 14 ++ (lib_digit_lits 16 ++ (lib_newline_lits 19 ++ (lib_write_lits 20 ++ (lib_print_lits 21 ++ (lib_items_lits 30 ++ (lib_put_lits 34 ++ (lib_text_lits 37 ++ (lib_quoted_lits 37 ++ (lib_qput_lits 39 ++ (lib_named_lits 46 ++ ((lit.Integer (pos 1) ∷ lit.Integer (pos 0) ∷ []) ++ ((lit.Nil ∷ []) ++ ((lit.Integer (pos 2) ∷ lit.Integer (pos 1) ∷ lit.Integer (pos 5) ∷ []) ++ ((lit.Integer (pos 10) ∷ lit.Integer (pos 3) ∷ []) ++ (lit.Integer (pos 0) ∷ lit.Integer (pos 1) ∷ lit.Integer (pos 1) ∷ lit.Integer (pos 15) ∷ [])))))))))))))))))))))));
      steps = 6000;
      written = codes "(3 2)\n12\n7\n1307674368000";
      stop = End;
    }

abbrev pub worked : List Worked
worked = applied_to_no_list ∷ captured_by_no_procedure ∷ captured_by_two_parameters ∷ too_many_operands ∷ negative_power ∷ large_power ∷ index_of_no_integer ∷ literal_written ∷ operands_in_order ∷ assigned_undefined ∷ referred_undefined ∷ closures ∷ []
