-- Definitions of the library, as the programs that reach them have them.
--
-- Each is that of one line of the library's text, which is its place. Its literals have the numbers from n on.
use Rattle.std.specs.Prelude.{ℕ, ◌+◌, List, [], ◌∷◌, Some, None, pos, codes, true, false}
use Rattle.scheme_base.specs.declared.lit.Lit.{Lit}
use Rattle.scheme_base.specs.declared.lit.Lit.TheVariants as lit
use Rattle.scheme_base.specs.declared.op.Op.TheVariants as op
use Rattle.scheme_base.specs.declared.pos.Pos.{Pos}
use Rattle.core_form.specs.declared.program.Var.{Var}
use Rattle.core_form.specs.Trees.{Tree, Const, Ref, Lambda, If, Call, Prim, Seq, Define, none, item}

abbrev pub at : (line col : ℕ) → Pos
at line col = record { line = line; col = col }

-- the program's own variable of this name, and the library's
abbrev pub own : List ℕ → Var
own name = record { name = name; lib = false }

abbrev pub lib : List ℕ → Var
lib name = record { name = name; lib = true }

-- (define lib:car (lambda (x) #f (prim %car ((ref x)))))
abbrev pub lib_car : (n : ℕ) → Tree Var
lib_car n =
    let p = at 0 18 in
    Define p (lib (codes "car")) (Lambda p ((own (codes "x")) ∷ []) None (Prim p op.Car (item (Ref p (own (codes "x"))) none)))

abbrev pub lib_car_lits : (n : ℕ) → List Lit
lib_car_lits n = []

-- (define lib:cons (lambda (x y) #f (prim %cons ((ref x) (ref y)))))
abbrev pub lib_cons : (n : ℕ) → Tree Var
lib_cons n =
    let p = at 0 17 in
    Define p (lib (codes "cons")) (Lambda p ((own (codes "x")) ∷ (own (codes "y")) ∷ []) None (Prim p op.Cons (item (Ref p (own (codes "x"))) (item (Ref p (own (codes "y"))) none))))

abbrev pub lib_cons_lits : (n : ℕ) → List Lit
lib_cons_lits n = []

-- (define lib:%opt (lambda (r d) #f (if (prim %null? ((ref r))) (ref d) (if (prim %null? ((prim %cd...
abbrev pub lib_opt : (n : ℕ) → Tree Var
lib_opt n =
    let p = at 0 68 in
    Define p (lib (codes "%opt")) (Lambda p ((own (codes "r")) ∷ (own (codes "d")) ∷ []) None (If p (Prim p op.IsNull (item (Ref p (own (codes "r"))) none)) (Ref p (own (codes "d"))) (If p (Prim p op.IsNull (item (Prim p op.Cdr (item (Ref p (own (codes "r"))) none)) none)) (Prim p op.Car (item (Ref p (own (codes "r"))) none)) (Call p (Lambda p [] None (Ref p (own (codes "d")))) (item (Ref p (own (codes "d"))) none)))))

abbrev pub lib_opt_lits : (n : ℕ) → List Lit
lib_opt_lits n = []

-- (define lib:make-vector (lambda (n) r (prim %make-vector ((ref n) (call (ref lib:%opt) ((ref r) (...
abbrev pub lib_make_vector : (n : ℕ) → Tree Var
lib_make_vector n =
    let p = at 0 175 in
    Define p (lib (codes "make-vector")) (Lambda p ((own (codes "n")) ∷ []) (Some (own (codes "r"))) (Prim p op.MakeVector (item (Ref p (own (codes "n"))) (item (Call p (Ref p (lib (codes "%opt"))) (item (Ref p (own (codes "r"))) (item (Const p n) none))) none))))

abbrev pub lib_make_vector_lits : (n : ℕ) → List Lit
lib_make_vector_lits n = lit.Integer (pos 0) ∷ []

-- (define lib:%bad (lambda (n) #f (prim %vector-ref ((const #()) (ref n)))))
abbrev pub lib_bad : (n : ℕ) → Tree Var
lib_bad n =
    let p = at 0 69 in
    Define p (lib (codes "%bad")) (Lambda p ((own (codes "n")) ∷ []) None (Prim p op.VectorRef (item (Const p n) (item (Ref p (own (codes "n"))) none))))

abbrev pub lib_bad_lits : (n : ℕ) → List Lit
lib_bad_lits n = lit.Vector [] ∷ []

-- (define lib:expt (lambda (b n) #f (if (prim %< ((ref n) (const 0))) (call (ref lib:%bad) ((ref n)...
abbrev pub lib_expt : (n : ℕ) → Tree Var
lib_expt n =
    let p = at 0 93 in
    Define p (lib (codes "expt")) (Lambda p ((own (codes "b")) ∷ (own (codes "n")) ∷ []) None (If p (Prim p op.Less (item (Ref p (own (codes "n"))) (item (Const p n) none))) (Call p (Ref p (lib (codes "%bad"))) (item (Ref p (own (codes "n"))) none)) (Call p (Ref p (lib (codes "%expt"))) (item (Prim p op.Add (item (Ref p (own (codes "b"))) (item (Const p (n + 1)) none))) (item (Ref p (own (codes "n"))) (item (Const p (n + 2)) none))))))

abbrev pub lib_expt_lits : (n : ℕ) → List Lit
lib_expt_lits n = lit.Integer (pos 0) ∷ lit.Integer (pos 0) ∷ lit.Integer (pos 1) ∷ []

-- (define lib:%expt (lambda (b n a) #f (if (prim %= ((ref n) (const 0))) (ref a) (call (ref lib:%ex...
abbrev pub lib_expt_too : (n : ℕ) → Tree Var
lib_expt_too n =
    let p = at 0 94 in
    Define p (lib (codes "%expt")) (Lambda p ((own (codes "b")) ∷ (own (codes "n")) ∷ (own (codes "a")) ∷ []) None (If p (Prim p op.Equals (item (Ref p (own (codes "n"))) (item (Const p n) none))) (Ref p (own (codes "a"))) (Call p (Ref p (lib (codes "%expt"))) (item (Ref p (own (codes "b"))) (item (Prim p op.Subtract (item (Ref p (own (codes "n"))) (item (Const p (n + 1)) none))) (item (Prim p op.Multiply (item (Ref p (own (codes "a"))) (item (Ref p (own (codes "b"))) none))) none))))))

abbrev pub lib_expt_too_lits : (n : ℕ) → List Lit
lib_expt_too_lits n = lit.Integer (pos 0) ∷ lit.Integer (pos 1) ∷ []

-- (define lib:char=? (lambda (a b) #f (prim %= ((prim %char->integer ((ref a))) (prim %char->intege...
abbrev pub lib_char_is : (n : ℕ) → Tree Var
lib_char_is n =
    let p = at 0 132 in
    Define p (lib (codes "char=?")) (Lambda p ((own (codes "a")) ∷ (own (codes "b")) ∷ []) None (Prim p op.Equals (item (Prim p op.CharToInteger (item (Ref p (own (codes "a"))) none)) (item (Prim p op.CharToInteger (item (Ref p (own (codes "b"))) none)) none))))

abbrev pub lib_char_is_lits : (n : ℕ) → List Lit
lib_char_is_lits n = []

-- (define lib:string->list (lambda (s) #f (call (ref lib:%slist) ((ref s) (prim %string-length ((re...
abbrev pub lib_string_tolist : (n : ℕ) → Tree Var
lib_string_tolist n =
    let p = at 0 153 in
    Define p (lib (codes "string->list")) (Lambda p ((own (codes "s")) ∷ []) None (Call p (Ref p (lib (codes "%slist"))) (item (Ref p (own (codes "s"))) (item (Prim p op.StringLength (item (Ref p (own (codes "s"))) none)) (item (Const p n) none)))))

abbrev pub lib_string_tolist_lits : (n : ℕ) → List Lit
lib_string_tolist_lits n = lit.Nil ∷ []

-- (define lib:%slist (lambda (s n a) #f (if (prim %= ((ref n) (const 0))) (ref a) (call (ref lib:%s...
abbrev pub lib_slist : (n : ℕ) → Tree Var
lib_slist n =
    let p = at 0 154 in
    Define p (lib (codes "%slist")) (Lambda p ((own (codes "s")) ∷ (own (codes "n")) ∷ (own (codes "a")) ∷ []) None (If p (Prim p op.Equals (item (Ref p (own (codes "n"))) (item (Const p n) none))) (Ref p (own (codes "a"))) (Call p (Ref p (lib (codes "%slist"))) (item (Ref p (own (codes "s"))) (item (Prim p op.Subtract (item (Ref p (own (codes "n"))) (item (Const p (n + 1)) none))) (item (Prim p op.Cons (item (Prim p op.StringRef (item (Ref p (own (codes "s"))) (item (Prim p op.Subtract (item (Ref p (own (codes "n"))) (item (Const p (n + 2)) none))) none))) (item (Ref p (own (codes "a"))) none))) none))))))

abbrev pub lib_slist_lits : (n : ℕ) → List Lit
lib_slist_lits n = lit.Integer (pos 0) ∷ lit.Integer (pos 1) ∷ lit.Integer (pos 1) ∷ []

-- (define lib:vector->list (lambda (v) #f (call (ref lib:%vlist) ((ref v) (prim %vector-length ((re...
abbrev pub lib_vector_tolist : (n : ℕ) → Tree Var
lib_vector_tolist n =
    let p = at 0 179 in
    Define p (lib (codes "vector->list")) (Lambda p ((own (codes "v")) ∷ []) None (Call p (Ref p (lib (codes "%vlist"))) (item (Ref p (own (codes "v"))) (item (Prim p op.VectorLength (item (Ref p (own (codes "v"))) none)) (item (Const p n) none)))))

abbrev pub lib_vector_tolist_lits : (n : ℕ) → List Lit
lib_vector_tolist_lits n = lit.Nil ∷ []

-- (define lib:%vlist (lambda (v n a) #f (if (prim %= ((ref n) (const 0))) (ref a) (call (ref lib:%v...
abbrev pub lib_vlist : (n : ℕ) → Tree Var
lib_vlist n =
    let p = at 0 180 in
    Define p (lib (codes "%vlist")) (Lambda p ((own (codes "v")) ∷ (own (codes "n")) ∷ (own (codes "a")) ∷ []) None (If p (Prim p op.Equals (item (Ref p (own (codes "n"))) (item (Const p n) none))) (Ref p (own (codes "a"))) (Call p (Ref p (lib (codes "%vlist"))) (item (Ref p (own (codes "v"))) (item (Prim p op.Subtract (item (Ref p (own (codes "n"))) (item (Const p (n + 1)) none))) (item (Prim p op.Cons (item (Prim p op.VectorRef (item (Ref p (own (codes "v"))) (item (Prim p op.Subtract (item (Ref p (own (codes "n"))) (item (Const p (n + 2)) none))) none))) (item (Ref p (own (codes "a"))) none))) none))))))

abbrev pub lib_vlist_lits : (n : ℕ) → List Lit
lib_vlist_lits n = lit.Integer (pos 0) ∷ lit.Integer (pos 1) ∷ lit.Integer (pos 1) ∷ []

-- (define lib:%chars (lambda (n b) #f (if (prim %< ((ref n) (const 0))) (prim %cons ((const #\-) (c...
abbrev pub lib_chars : (n : ℕ) → Tree Var
lib_chars n =
    let p = at 0 185 in
    Define p (lib (codes "%chars")) (Lambda p ((own (codes "n")) ∷ (own (codes "b")) ∷ []) None (If p (Prim p op.Less (item (Ref p (own (codes "n"))) (item (Const p n) none))) (Prim p op.Cons (item (Const p (n + 1)) (item (Call p (Ref p (lib (codes "%num"))) (item (Ref p (own (codes "n"))) (item (Ref p (own (codes "b"))) (item (Const p (n + 2)) none)))) none))) (Call p (Ref p (lib (codes "%num"))) (item (Call p (Lambda p ((own (codes ".1")) ∷ []) None (Prim p op.Subtract (item (Const p (n + 3)) (item (Ref p (own (codes ".1"))) none)))) (item (Ref p (own (codes "n"))) none)) (item (Ref p (own (codes "b"))) (item (Const p (n + 4)) none))))))

abbrev pub lib_chars_lits : (n : ℕ) → List Lit
lib_chars_lits n = lit.Integer (pos 0) ∷ lit.Char 45 ∷ lit.Nil ∷ lit.Integer (pos 0) ∷ lit.Nil ∷ []

-- (define lib:%num (lambda (n b a) #f (call (lambda (c q) #f (if (prim %= ((ref q) (const 0))) (pri...
abbrev pub lib_num : (n : ℕ) → Tree Var
lib_num n =
    let p = at 0 186 in
    Define p (lib (codes "%num")) (Lambda p ((own (codes "n")) ∷ (own (codes "b")) ∷ (own (codes "a")) ∷ []) None (Call p (Lambda p ((own (codes "c")) ∷ (own (codes "q")) ∷ []) None (If p (Prim p op.Equals (item (Ref p (own (codes "q"))) (item (Const p n) none))) (Prim p op.Cons (item (Ref p (own (codes "c"))) (item (Ref p (own (codes "a"))) none))) (Call p (Ref p (lib (codes "%num"))) (item (Ref p (own (codes "q"))) (item (Ref p (own (codes "b"))) (item (Prim p op.Cons (item (Ref p (own (codes "c"))) (item (Ref p (own (codes "a"))) none))) none)))))) (item (Call p (Ref p (lib (codes "%digit"))) (item (Call p (Lambda p ((own (codes ".2")) ∷ []) None (Prim p op.Subtract (item (Const p (n + 1)) (item (Ref p (own (codes ".2"))) none)))) (item (Prim p op.Remainder (item (Ref p (own (codes "n"))) (item (Ref p (own (codes "b"))) none))) none)) none)) (item (Prim p op.Quotient (item (Ref p (own (codes "n"))) (item (Ref p (own (codes "b"))) none))) none))))

abbrev pub lib_num_lits : (n : ℕ) → List Lit
lib_num_lits n = lit.Integer (pos 0) ∷ lit.Integer (pos 0) ∷ []

-- (define lib:%digit (lambda (d) #f (prim %integer->char ((if (prim %< ((ref d) (const 10))) (prim ...
abbrev pub lib_digit : (n : ℕ) → Tree Var
lib_digit n =
    let p = at 0 187 in
    Define p (lib (codes "%digit")) (Lambda p ((own (codes "d")) ∷ []) None (Prim p op.IntegerToChar (item (If p (Prim p op.Less (item (Ref p (own (codes "d"))) (item (Const p n) none))) (Prim p op.Add (item (Const p (n + 1)) (item (Ref p (own (codes "d"))) none))) (Prim p op.Add (item (Const p (n + 2)) (item (Ref p (own (codes "d"))) none)))) none)))

abbrev pub lib_digit_lits : (n : ℕ) → List Lit
lib_digit_lits n = lit.Integer (pos 10) ∷ lit.Integer (pos 48) ∷ lit.Integer (pos 87) ∷ []

-- (define lib:write (lambda (x) #f (call (ref lib:%print) ((ref x) (const #t)))))
abbrev pub lib_write : (n : ℕ) → Tree Var
lib_write n =
    let p = at 0 196 in
    Define p (lib (codes "write")) (Lambda p ((own (codes "x")) ∷ []) None (Call p (Ref p (lib (codes "%print"))) (item (Ref p (own (codes "x"))) (item (Const p n) none))))

abbrev pub lib_write_lits : (n : ℕ) → List Lit
lib_write_lits n = lit.Boolean true ∷ []

-- (define lib:%print (lambda (x w) #f (if (prim %pair? ((ref x))) (seq ((prim %write-char ((const #...
abbrev pub lib_print : (n : ℕ) → Tree Var
lib_print n =
    let p = at 0 197 in
    Define p (lib (codes "%print")) (Lambda p ((own (codes "x")) ∷ (own (codes "w")) ∷ []) None (If p (Prim p op.IsPair (item (Ref p (own (codes "x"))) none)) (Seq p (item (Prim p op.WriteChar (item (Const p n) none)) (item (Call p (Ref p (lib (codes "%items"))) (item (Ref p (own (codes "x"))) (item (Ref p (own (codes "w"))) none))) none))) (If p (Prim p op.IsNull (item (Ref p (own (codes "x"))) none)) (Seq p (item (Call p (Ref p (lib (codes "%text"))) (item (Const p (n + 1)) none)) none)) (If p (Prim p op.IsString (item (Ref p (own (codes "x"))) none)) (Seq p (item (If p (Ref p (own (codes "w"))) (Call p (Ref p (lib (codes "%quoted"))) (item (Ref p (own (codes "x"))) none)) (Call p (Ref p (lib (codes "%text"))) (item (Ref p (own (codes "x"))) none))) none)) (If p (Prim p op.IsSymbol (item (Ref p (own (codes "x"))) none)) (Seq p (item (Call p (Ref p (lib (codes "%text"))) (item (Prim p op.SymbolName (item (Ref p (own (codes "x"))) none)) none)) none)) (If p (Prim p op.IsInteger (item (Ref p (own (codes "x"))) none)) (Seq p (item (Call p (Ref p (lib (codes "%put"))) (item (Call p (Ref p (lib (codes "%chars"))) (item (Ref p (own (codes "x"))) (item (Const p (n + 2)) none))) none)) none)) (If p (Prim p op.IsChar (item (Ref p (own (codes "x"))) none)) (Seq p (item (If p (Ref p (own (codes "w"))) (Call p (Ref p (lib (codes "%named"))) (item (Ref p (own (codes "x"))) none)) (Prim p op.WriteChar (item (Ref p (own (codes "x"))) none))) none)) (If p (Prim p op.IsBoolean (item (Ref p (own (codes "x"))) none)) (Seq p (item (Call p (Ref p (lib (codes "%text"))) (item (If p (Ref p (own (codes "x"))) (Const p (n + 3)) (Const p (n + 4))) none)) none)) (If p (Prim p op.IsVector (item (Ref p (own (codes "x"))) none)) (Seq p (item (Prim p op.WriteChar (item (Const p (n + 5)) none)) (item (Call p (Ref p (lib (codes "%print"))) (item (Call p (Ref p (lib (codes "vector->list"))) (item (Ref p (own (codes "x"))) none)) (item (Ref p (own (codes "w"))) none))) none))) (If p (Prim p op.IsProcedure (item (Ref p (own (codes "x"))) none)) (Seq p (item (Call p (Ref p (lib (codes "%text"))) (item (Const p (n + 6)) none)) none)) (If p (Prim p op.IsEof (item (Ref p (own (codes "x"))) none)) (Seq p (item (Call p (Ref p (lib (codes "%text"))) (item (Const p (n + 7)) none)) none)) (Seq p (item (Call p (Ref p (lib (codes "%text"))) (item (Const p (n + 8)) none)) none)))))))))))))

abbrev pub lib_print_lits : (n : ℕ) → List Lit
lib_print_lits n = lit.Char 40 ∷ lit.Text (codes "()") ∷ lit.Integer (pos 10) ∷ lit.Text (codes "#t") ∷ lit.Text (codes "#f") ∷ lit.Char 35 ∷ lit.Text (codes "#<procedure>") ∷ lit.Text (codes "#<eof>") ∷ lit.Text (codes "#<unspecified>") ∷ []

-- (define lib:%items (lambda (x w) #f (seq ((call (ref lib:%print) ((prim %car ((ref x))) (ref w)))...
abbrev pub lib_items : (n : ℕ) → Tree Var
lib_items n =
    let p = at 0 198 in
    Define p (lib (codes "%items")) (Lambda p ((own (codes "x")) ∷ (own (codes "w")) ∷ []) None (Seq p (item (Call p (Ref p (lib (codes "%print"))) (item (Prim p op.Car (item (Ref p (own (codes "x"))) none)) (item (Ref p (own (codes "w"))) none))) (item (If p (Prim p op.IsPair (item (Prim p op.Cdr (item (Ref p (own (codes "x"))) none)) none)) (Seq p (item (Prim p op.WriteChar (item (Const p n) none)) (item (Call p (Ref p (lib (codes "%items"))) (item (Prim p op.Cdr (item (Ref p (own (codes "x"))) none)) (item (Ref p (own (codes "w"))) none))) none))) (If p (Prim p op.IsNull (item (Prim p op.Cdr (item (Ref p (own (codes "x"))) none)) none)) (Seq p (item (Prim p op.WriteChar (item (Const p (n + 1)) none)) none)) (Seq p (item (Call p (Ref p (lib (codes "%text"))) (item (Const p (n + 2)) none)) (item (Call p (Ref p (lib (codes "%print"))) (item (Prim p op.Cdr (item (Ref p (own (codes "x"))) none)) (item (Ref p (own (codes "w"))) none))) (item (Prim p op.WriteChar (item (Const p (n + 3)) none)) none)))))) none))))

abbrev pub lib_items_lits : (n : ℕ) → List Lit
lib_items_lits n = lit.Char 32 ∷ lit.Char 41 ∷ lit.Text (codes " . ") ∷ lit.Char 41 ∷ []

-- (define lib:%put (lambda (l) #f (if (if (prim %null? ((ref l))) (const #f) (const #t)) (seq ((pri...
abbrev pub lib_put : (n : ℕ) → Tree Var
lib_put n =
    let p = at 0 199 in
    Define p (lib (codes "%put")) (Lambda p ((own (codes "l")) ∷ []) None (If p (If p (Prim p op.IsNull (item (Ref p (own (codes "l"))) none)) (Const p n) (Const p (n + 1))) (Seq p (item (Prim p op.WriteChar (item (Prim p op.Car (item (Ref p (own (codes "l"))) none)) none)) (item (Call p (Ref p (lib (codes "%put"))) (item (Prim p op.Cdr (item (Ref p (own (codes "l"))) none)) none)) none))) (Const p (n + 2))))

abbrev pub lib_put_lits : (n : ℕ) → List Lit
lib_put_lits n = lit.Boolean false ∷ lit.Boolean true ∷ lit.Unspecified ∷ []

-- (define lib:%text (lambda (s) #f (call (ref lib:%put) ((call (ref lib:string->list) ((ref s)))))))
abbrev pub lib_text : (n : ℕ) → Tree Var
lib_text n =
    let p = at 0 200 in
    Define p (lib (codes "%text")) (Lambda p ((own (codes "s")) ∷ []) None (Call p (Ref p (lib (codes "%put"))) (item (Call p (Ref p (lib (codes "string->list"))) (item (Ref p (own (codes "s"))) none)) none)))

abbrev pub lib_text_lits : (n : ℕ) → List Lit
lib_text_lits n = []

-- (define lib:%quoted (lambda (s) #f (seq ((prim %write-char ((const #\"))) (call (ref lib:%qput) (...
abbrev pub lib_quoted : (n : ℕ) → Tree Var
lib_quoted n =
    let p = at 0 201 in
    Define p (lib (codes "%quoted")) (Lambda p ((own (codes "s")) ∷ []) None (Seq p (item (Prim p op.WriteChar (item (Const p n) none)) (item (Call p (Ref p (lib (codes "%qput"))) (item (Call p (Ref p (lib (codes "string->list"))) (item (Ref p (own (codes "s"))) none)) none)) (item (Prim p op.WriteChar (item (Const p (n + 1)) none)) none)))))

abbrev pub lib_quoted_lits : (n : ℕ) → List Lit
lib_quoted_lits n = lit.Char 34 ∷ lit.Char 34 ∷ []

-- (define lib:%qput (lambda (l) #f (if (if (prim %null? ((ref l))) (const #f) (const #t)) (seq ((if...
abbrev pub lib_qput : (n : ℕ) → Tree Var
lib_qput n =
    let p = at 0 202 in
    Define p (lib (codes "%qput")) (Lambda p ((own (codes "l")) ∷ []) None (If p (If p (Prim p op.IsNull (item (Ref p (own (codes "l"))) none)) (Const p n) (Const p (n + 1))) (Seq p (item (If p (Call p (Lambda p ((own (codes ".3")) ∷ []) None (If p (Ref p (own (codes ".3"))) (Ref p (own (codes ".3"))) (Call p (Ref p (lib (codes "char=?"))) (item (Prim p op.Car (item (Ref p (own (codes "l"))) none)) (item (Const p (n + 2)) none))))) (item (Call p (Ref p (lib (codes "char=?"))) (item (Prim p op.Car (item (Ref p (own (codes "l"))) none)) (item (Const p (n + 3)) none))) none)) (Prim p op.WriteChar (item (Const p (n + 4)) none)) (Const p (n + 5))) (item (Prim p op.WriteChar (item (Prim p op.Car (item (Ref p (own (codes "l"))) none)) none)) (item (Call p (Ref p (lib (codes "%qput"))) (item (Prim p op.Cdr (item (Ref p (own (codes "l"))) none)) none)) none)))) (Const p (n + 6))))

abbrev pub lib_qput_lits : (n : ℕ) → List Lit
lib_qput_lits n = lit.Boolean false ∷ lit.Boolean true ∷ lit.Char 92 ∷ lit.Char 34 ∷ lit.Char 92 ∷ lit.Unspecified ∷ lit.Unspecified ∷ []

-- (define lib:%named (lambda (c) #f (seq ((prim %write-char ((const #\#))) (prim %write-char ((cons...
abbrev pub lib_named : (n : ℕ) → Tree Var
lib_named n =
    let p = at 0 203 in
    Define p (lib (codes "%named")) (Lambda p ((own (codes "c")) ∷ []) None (Seq p (item (Prim p op.WriteChar (item (Const p n) none)) (item (Prim p op.WriteChar (item (Const p (n + 1)) none)) (item (If p (Call p (Ref p (lib (codes "char=?"))) (item (Ref p (own (codes "c"))) (item (Const p (n + 2)) none))) (Seq p (item (Call p (Ref p (lib (codes "%text"))) (item (Const p (n + 3)) none)) none)) (If p (Call p (Ref p (lib (codes "char=?"))) (item (Ref p (own (codes "c"))) (item (Const p (n + 4)) none))) (Seq p (item (Call p (Ref p (lib (codes "%text"))) (item (Const p (n + 5)) none)) none)) (Seq p (item (Prim p op.WriteChar (item (Ref p (own (codes "c"))) none)) none)))) none)))))

abbrev pub lib_named_lits : (n : ℕ) → List Lit
lib_named_lits n = lit.Char 35 ∷ lit.Char 92 ∷ lit.Char 32 ∷ lit.Text (codes "space") ∷ lit.Char 10 ∷ lit.Text (codes "newline") ∷ []

-- (define lib:cadr (lambda (p) #f (prim %car ((prim %cdr ((ref p)))))))
abbrev pub lib_cadr : (n : ℕ) → Tree Var
lib_cadr n =
    let p = at 0 39 in
    Define p (lib (codes "cadr")) (Lambda p ((own (codes "p")) ∷ []) None (Prim p op.Car (item (Prim p op.Cdr (item (Ref p (own (codes "p"))) none)) none)))

abbrev pub lib_cadr_lits : (n : ℕ) → List Lit
lib_cadr_lits n = []

-- (define lib:%fold (lambda (f a r) #f (if (prim %null? ((ref r))) (ref a) (call (ref lib:%fold) ((...
abbrev pub lib_fold : (n : ℕ) → Tree Var
lib_fold n =
    let p = at 0 72 in
    Define p (lib (codes "%fold")) (Lambda p ((own (codes "f")) ∷ (own (codes "a")) ∷ (own (codes "r")) ∷ []) None (If p (Prim p op.IsNull (item (Ref p (own (codes "r"))) none)) (Ref p (own (codes "a"))) (Call p (Ref p (lib (codes "%fold"))) (item (Ref p (own (codes "f"))) (item (Call p (Ref p (own (codes "f"))) (item (Ref p (own (codes "a"))) (item (Prim p op.Car (item (Ref p (own (codes "r"))) none)) none))) (item (Prim p op.Cdr (item (Ref p (own (codes "r"))) none)) none))))))

abbrev pub lib_fold_lits : (n : ℕ) → List Lit
lib_fold_lits n = []

-- (define lib:- (lambda (a) r (if (prim %null? ((ref r))) (prim %- ((const 0) (ref a))) (call (ref ...
abbrev pub lib_ : (n : ℕ) → Tree Var
lib_ n =
    let p = at 0 75 in
    Define p (lib (codes "-")) (Lambda p ((own (codes "a")) ∷ []) (Some (own (codes "r"))) (If p (Prim p op.IsNull (item (Ref p (own (codes "r"))) none)) (Prim p op.Subtract (item (Const p n) (item (Ref p (own (codes "a"))) none))) (Call p (Ref p (lib (codes "%fold"))) (item (Lambda p ((own (codes "a")) ∷ (own (codes "b")) ∷ []) None (Prim p op.Subtract (item (Ref p (own (codes "a"))) (item (Ref p (own (codes "b"))) none)))) (item (Ref p (own (codes "a"))) (item (Ref p (own (codes "r"))) none))))))

abbrev pub lib__lits : (n : ℕ) → List Lit
lib__lits n = lit.Integer (pos 0) ∷ []

-- (define lib:newline (lambda () #f (prim %write-char ((const #\newline)))))
abbrev pub lib_newline : (n : ℕ) → Tree Var
lib_newline n =
    let p = at 0 194 in
    Define p (lib (codes "newline")) (Lambda p [] None (Prim p op.WriteChar (item (Const p n) none)))

abbrev pub lib_newline_lits : (n : ℕ) → List Lit
lib_newline_lits n = lit.Char 10 ∷ []
