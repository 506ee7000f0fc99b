-- The boxes of a procedure's parameters, and the procedure.
use Rattle.std.proofs.Common.{◌≡◌, ℕ, suc, ◌+◌, List, [], ◌∷◌, ◌++◌, map, length, Option, None, Some, Bool, true, false, if◌then◌else◌, refl, sym, ap, subst, ◌∙◌, append_assoc, append-nil, length-append, arith}
use Rattle.scheme_base.specs.declared.pos.Pos.{Pos}
use Rattle.core_form.specs.declared.program.VarRef.{VarRef}
use Rattle.named_form.specs.declared.program.Block.{Block, out-Block}
use Rattle.named_form.specs.declared.program.Proc.{Proc}
use Rattle.named_form.specs.declared.program.Step.{Step}
use Rattle.named_form.specs.Code.{Code, Ends, Then, MakeBox, option_list}
use Rattle.named_form.specs.Written.{Onto, procedure}
use Rattle.named_form.specs.Valid.{numbers_from}
use Rattle.box_name.specs.declared.namer.Namer.{Namer}
use Rattle.box_name.specs.Told.{Expr, Lambda, number, numbers, option_number}
use Rattle.box_name.specs.Counts.{procs_in, after, places, all_params, after_boxes, box_places}
use Rattle.box_name.specs.Naming.{Setting, value, code, make_boxes, rest_var, written}
use Rattle.box_name.specs.NamingSteps.{linked, Agrees, Notes, Takes, Emits, EmitsExpr, Settles}
use Rattle.box_name.specs.Procedures.{TakesVars, TakesRest, SettlesAll, NamesProc}
use Rattle.box_name.proofs.Acts.{block_is}
use Rattle.box_name.proofs.Putting.{earlier, notes_none, notes_then, emits_then, emits_as, emits_none}

-- Parameters: those that are left are settled next.
pub record Settling (s : Setting) (q : Pos) (n p : ℕ) (a b : Namer) (x y : List Step) (xs : List ℕ) (v : ℕ) (left : List VarRef) (given : List ℕ) : Type 0 where
  pub next : ℕ
  pub var : ℕ
  pub noted : List (ℕ × ℕ)
  pub put : Onto
  pub emits : Emits s a b x y noted next p put
  pub vars : given ≡ numbers_from var (length left)
  pub places : box_places s.boxed v n xs ≡ noted ++ box_places s.boxed var next (numbers left)
  pub after : after_boxes s.boxed n xs ≡ after_boxes s.boxed next (numbers left)
  pub code : (rest : Code Pos) → make_boxes s q xs v n rest ≡ put (make_boxes s q (numbers left) var next rest)

box_step : (s : Setting) (q : Pos) (x v m : ℕ) (xs : List ℕ) (rest : Code Pos)
    → make_boxes s q (x ∷ xs) v m rest
    ≡ (if s.boxed x then Then q (m ∷ []) (MakeBox v) (make_boxes s q xs (suc v) (if s.boxed x then suc m else m) rest)
    else make_boxes s q xs (suc v) (if s.boxed x then suc m else m) rest)
box_step s q x v m xs rest = by (s.boxed x)
  where
    by : (t : Bool)
        → (if t then Then q (m ∷ []) (MakeBox v) (make_boxes s q xs (suc v) (suc m) rest) else make_boxes s q xs (suc v) m rest)
        ≡ (if t then Then q (m ∷ []) (MakeBox v) (make_boxes s q xs (suc v) (if t then suc m else m) rest)
        else make_boxes s q xs (suc v) (if t then suc m else m) rest)
    by true = refl
    by false = refl

module _ (s : Setting) (q : Pos) (n p : ℕ) (a b : Namer) (x y : List Step) (xs : List ℕ) (v : ℕ) where
  begins : (params : List VarRef) (vars : List ℕ) → numbers params ≡ xs → vars ≡ numbers_from v (length params) → a.next_var ≡ n
      → a.next_proc ≡ p → Settling s q n p a a x x xs v params vars
  begins params vars is has h k = record {
    next = n;
    var = v;
    noted = [];
    put = λ rest. rest;
    emits = emits_none s a a x x [] n p refl (notes_none a a n p refl h k);
    vars = has;
    places = ap (λ u. box_places s.boxed v n u) (sym is);
    after = ap (λ u. after_boxes s.boxed n u) (sym is);
    code = λ rest. ap (λ u. make_boxes s q u v n rest) (sym is);
  }

  pub settling_begins : (params left : List VarRef) (given vars : List ℕ) → numbers params ≡ xs → given ≡ numbers_from v (length params)
      → left ≡ params → vars ≡ given → a.next_var ≡ n → a.next_proc ≡ p → Settling s q n p a a x x xs v left vars
  settling_begins params left given vars is has same are h k =
      subst (λ u. Settling s q n p a a x x xs v u vars) (sym same)
      (subst (λ u. Settling s q n p a a x x xs v params u) (sym are) (begins params given is has h k))

  pub settling_on : (c : Namer) (z : List Step) (l : VarRef) (w : ℕ) (all left : List VarRef) (given vars : List ℕ)
      → Settling s q n p a b x y xs v all given → all ≡ l ∷ left → given ≡ w ∷ vars
      → ((m r : ℕ) → Settles s m r b c y z q (number l) w) → Settling s q n p a c x z xs v left vars
  settling_on c z l w all left given vars h is are one =
      let g : Settling s q n p a b x y xs v (l ∷ left) (w ∷ vars) =
      subst (λ u. Settling s q n p a b x y xs v (l ∷ left) u) are (subst (λ u. Settling s q n p a b x y xs v u given) is h) in
      let m = g.next in
      let m2 = if s.boxed (number l) then suc m else m in
      let same : w ≡ g.var = cc (g.vars) in
      let rest_same : vars ≡ numbers_from (suc g.var) (length left) = cc (g.vars) in
      let P = (number l, if s.boxed (number l) then m else g.var) ∷ [] in
      let f = λ (rest : Code Pos). if s.boxed (number l) then Then q (m ∷ []) (MakeBox g.var) rest else rest in
      let done =
      subst (λ u. Emits s b c y z ((number l, if s.boxed (number l) then m else u) ∷ []) m2 p (λ rest. if s.boxed (number l) then Then q (m ∷ []) (MakeBox u) rest else rest)) same
      (one m p g.emits.notes.next_var g.emits.notes.next_proc) in
      record {
        next = m2;
        var = suc g.var;
        noted = g.noted ++ P;
        put = λ rest. g.put (f rest);
        emits = emits_then s a b c x y z g.noted P m p m2 p g.put f g.emits done;
        vars = rest_same;
        places = g.places ∙ sym (append_assoc g.noted P (box_places s.boxed (suc g.var) m2 (numbers left)));
        after = g.after;
        code = λ rest. g.code rest ∙ ap g.put (box_step s q (number l) g.var m (numbers left) rest);
      }

  pub settling_ends : (left : List VarRef) (vars : List ℕ) → Settling s q n p a b x y xs v left vars → left ≡ []
      → Emits s a b x y (box_places s.boxed v n xs) (after_boxes s.boxed n xs) p (make_boxes s q xs v n)
  settling_ends left vars h is =
      let g : Settling s q n p a b x y xs v [] vars = subst (λ u. Settling s q n p a b x y xs v u vars) is h in
      emits_as s a b x y g.noted (box_places s.boxed v n xs) g.next (after_boxes s.boxed n xs) p p g.put (make_boxes s q xs v n)
      (sym (g.places ∙ append-nil g.noted)) (sym g.after) refl (λ agrees rest. sym (g.code rest)) g.emits

  -- each parameter has a variable
  pub settling_breaks : (l : VarRef) (all left : List VarRef) (given : List ℕ) → Settling s q n p a b x y xs v all given → all ≡ l ∷ left
      → given ≡ [] → ⊥
  settling_breaks l all left given g is none_left =
      let long : given ≡ numbers_from g.var (length (l ∷ left)) = g.vars ∙ ap (λ u. numbers_from g.var (length u)) is in
      absurd (cc (long, none_left))

-- the boxes of the parameters, then that of the rest parameter
module _ (s : Setting) (q : Pos) where
  places_append : (xs ys : List ℕ) (v m : ℕ)
      → box_places s.boxed v m (xs ++ ys) ≡ box_places s.boxed v m xs ++ box_places s.boxed (v + length xs) (after_boxes s.boxed m xs) ys
  places_append [] ys v m = ap (λ u. box_places s.boxed u m ys) (none_more v)
    where
      none_more : (i : ℕ) → i ≡ i + 0
      none_more i = omega arith
  places_append (x ∷ xs) ys v m =
      let m2 = if s.boxed x then suc m else m in
      ap (λ u. (x, if s.boxed x then m else v) ∷ u)
      (places_append xs ys (suc v) m2
      ∙ ap (λ u. box_places s.boxed (suc v) m2 xs ++ box_places s.boxed u (after_boxes s.boxed m2 xs) ys) (one_more v (length xs)))
    where
      one_more : (i j : ℕ) → suc i + j ≡ i + suc j
      one_more i j = omega arith

  after_append : (xs ys : List ℕ) (m : ℕ) → after_boxes s.boxed m (xs ++ ys) ≡ after_boxes s.boxed (after_boxes s.boxed m xs) ys
  after_append [] ys m = refl
  after_append (x ∷ xs) ys m = after_append xs ys (if s.boxed x then suc m else m)

  boxes_append : (xs ys : List ℕ) (v m : ℕ) (rest : Code Pos)
      → make_boxes s q (xs ++ ys) v m rest ≡ make_boxes s q xs v m (make_boxes s q ys (v + length xs) (after_boxes s.boxed m xs) rest)
  boxes_append [] ys v m rest = ap (λ u. make_boxes s q ys u m rest) (none_more v)
    where
      none_more : (i : ℕ) → i ≡ i + 0
      none_more i = omega arith
  boxes_append (x ∷ xs) ys v m rest =
      by
      (λ k.
      boxes_append xs ys (suc v) k rest
      ∙ ap (λ u. make_boxes s q xs (suc v) k (make_boxes s q ys u (after_boxes s.boxed k xs) rest)) (one_more v (length xs)))
      (s.boxed x)
    where
      one_more : (i j : ℕ) → suc i + j ≡ i + suc j
      one_more i j = omega arith

      by : ((k : ℕ)
          → make_boxes s q (xs ++ ys) (suc v) k rest
          ≡ make_boxes s q xs (suc v) k (make_boxes s q ys (v + suc (length xs)) (after_boxes s.boxed k xs) rest))
          → (t : Bool)
          → (if t then Then q (m ∷ []) (MakeBox v) (make_boxes s q (xs ++ ys) (suc v) (suc m) rest) else make_boxes s q (xs ++ ys) (suc v) m rest)
          ≡ (let inner = make_boxes s q ys (v + suc (length xs)) (after_boxes s.boxed (if t then suc m else m) xs) rest in
          if t then Then q (m ∷ []) (MakeBox v) (make_boxes s q xs (suc v) (suc m) inner) else make_boxes s q xs (suc v) m inner)
      by onward true = ap (λ u. Then q (m ∷ []) (MakeBox v) u) (onward (suc m))
      by onward false = onward m

all_is : (xs : List ℕ) (r : Option ℕ) → all_params xs r ≡ xs ++ option_list r
all_is xs None = sym (append-nil xs)
all_is xs (Some x) = refl

-- a procedure, from its parameters, their boxes and its body
pub make_proc : (s : Setting) (n p : ℕ) (a b c d e f : Namer) (y z w : List Step) (q : Pos) (xs : List ℕ) (r : Option ℕ) (body : Expr)
    (vars : List ℕ) (last : Option ℕ) (v : ℕ) (x : List Step) (block : Block) → TakesVars a b (length xs) vars → TakesRest b c r last
    → x ≡ [] → ((m k u : ℕ) → vars ≡ numbers_from u (length xs) → SettlesAll s m k c d x y q xs u)
    → ((m k u : ℕ) → last ≡ rest_var s r u → SettlesAll s m k d e y z q (all_params [] r) u)
    → ((m k : ℕ) → EmitsExpr s m k e f z w body v)
    → (out-Block block).steps ≡ w → (out-Block block).value ≡ Some v
    → NamesProc s n p a f (Lambda q xs r body) (record { params = vars; rest = last; body = block; pos = q })
make_proc s n p a b c d e f y z w q xs r body vars last v x block taken rest empty first second inside same is =
    λ h k.
    let ys = all_params xs r in
    let rs = all_params [] r in
    let n1 = n + length xs in
    let m = n + length ys in
    let long : length ys ≡ length xs + length (option_list r) =
    ap length (all_is xs r) ∙ length-append xs (option_list r) in
    let at : c.next_var ≡ m =
    rest.notes.next_var
    ∙ (ap (λ u. u + length (option_list r)) (taken.notes.next_var ∙ ap (λ u. u + length xs) h)
    ∙ (assoc n (length xs) (length (option_list r)) ∙ ap (λ u. n + u) (sym long))) in
    let proc_at : c.next_proc ≡ suc p = rest.notes.next_proc ∙ (taken.notes.next_proc ∙ k) in
    let bound : vars ≡ numbers_from n (length xs) = taken.vars ∙ ap (λ u. numbers_from u (length xs)) h in
    let one = subst (λ u. Emits s c d u y (box_places s.boxed n m xs) (after_boxes s.boxed m xs) (suc p) (make_boxes s q xs n m)) empty
    (first m (suc p) n bound at proc_at) in
    let m1 = after_boxes s.boxed m xs in
    let last_bound : last ≡ rest_var s r n1 = rest.var s ∙ ap (λ u. rest_var s r u) (taken.notes.next_var ∙ ap (λ u. u + length xs) h) in
    let two = second m1 (suc p) n1 last_bound one.notes.next_var one.notes.next_proc in
    let m2 = after_boxes s.boxed m1 rs in
    let ends : after_boxes s.boxed m ys ≡ m2 =
    ap (λ u. after_boxes s.boxed m u) (all_is xs r)
    ∙ (after_append s q xs (option_list r) m ∙ ap (λ u. after_boxes s.boxed m1 u) (sym (all_is [] r))) in
    let three = inside m2 (suc p) two.notes.next_var two.notes.next_proc in
    let P1 = box_places s.boxed n m xs in
    let P2 = box_places s.boxed n1 m1 rs in
    let P3 = places s.boxed m2 body in
    let boxes = emits_then s c d e [] y z P1 P2 m1 (suc p) m2 (suc p) (make_boxes s q xs n m) (make_boxes s q rs n1 m1) one two in
    let whole = emits_then s c e f [] z w (P1 ++ P2) P3 m2 (suc p) (after s.boxed m2 body) (suc p + procs_in body) (λ rest. make_boxes s q xs n m (make_boxes s q rs n1 m1 rest)) (code s body m2 (suc p)) boxes three.0 in
    let noted : box_places s.boxed n m ys ≡ P1 ++ P2 =
    ap (λ u. box_places s.boxed n m u) (all_is xs r)
    ∙ (places_append s q xs (option_list r) n m ∙ ap (λ u. P1 ++ box_places s.boxed n1 m1 u) (sym (all_is [] r))) in
    let put : (rest : Code Pos) → make_boxes s q ys n m rest ≡ make_boxes s q xs n m (make_boxes s q rs n1 m1 rest) =
    λ rest.
    ap (λ u. make_boxes s q u n m rest) (all_is xs r)
    ∙ (boxes_append s q xs (option_list r) n m rest
    ∙ ap (λ u. make_boxes s q xs n m (make_boxes s q u n1 m1 rest)) (sym (all_is [] r))) in (
      whole.notes.entries
          ∙ (ap (λ u. u ++ ((P1 ++ P2) ++ P3)) (unchanged rest.notes ∙ unchanged taken.notes)
          ∙ ap (λ u. a.vars.entries ++ u)
          (ap (λ u. u ++ P3) (sym noted) ∙ ap (λ u. box_places s.boxed n m ys ++ places s.boxed u body) (sym ends))),
      whole.notes.next_var ∙ ap (λ u. after s.boxed u body) (sym ends),
      λ agrees.
          λ i. record {
            params = bound i;
            rest = last_bound i;
            body =
                (block_is block w (Some v) same is
                ∙ (whole.puts agrees (Ends (Some v))
                ∙ (sym (put (code s body m2 (suc p) (Ends (Some v))))
                ∙ (ap (λ u. make_boxes s q ys n m (code s body m2 (suc p) (Ends (Some u)))) (three.1 agrees)
                ∙ ap (λ u. make_boxes s q ys n m (code s body u (suc p) (Ends (Some (value s body u))))) (sym ends)))))
                i;
            pos = q;
          },
    )
  where
    assoc : (i j k : ℕ) → i + j + k ≡ i + (j + k)
    assoc i j k = omega arith

    unchanged : {a b : Namer} {n p : ℕ} → Notes a b [] n p → b.vars.entries ≡ a.vars.entries
    unchanged {a} {b} h = h.entries ∙ append-nil a.vars.entries

pub many_numbers : (xs : List VarRef) → length (numbers xs) ≡ length xs
many_numbers [] = refl
many_numbers (x ∷ xs) = ap suc (many_numbers xs)

-- the variable of a rest parameter, if there is one
pub takes_one : (a b : Namer) (rest : Option VarRef) (x : VarRef) (v : ℕ) → rest ≡ Some x → Takes a b v
    → TakesRest a b (option_number rest) (Some v)
takes_one a b rest x v is taken =
    subst (λ u. TakesRest a b (option_number u) (Some v)) (sym is)
    (record {
      notes =
          notes_none a b (a.next_var + 1) a.next_proc (ap (λ u. u.vars) taken.next) (ap (λ u. u.next_var) taken.next)
          (ap (λ u. u.next_proc) taken.next);
      var = λ s. ap Some taken.var;
    })

pub takes_none : (a : Namer) (rest : Option VarRef) → rest ≡ None → TakesRest a a (option_number rest) None
takes_none a rest is =
    subst (λ u. TakesRest a a (option_number u) None) (sym is)
    (record { notes = notes_none a a (a.next_var + 0) a.next_proc refl (none_more a.next_var) refl; var = λ s. refl })
  where
    none_more : (i : ℕ) → i ≡ i + 0
    none_more i = omega arith

-- no box was made, as there is no parameter
pub settles_none : (s : Setting) (n p : ℕ) (a : Namer) (x : List Step) (q : Pos) (v : ℕ) → SettlesAll s n p a a x x q [] v
settles_none s n p a x q v = λ h k. emits_none s a a x x [] n p refl (notes_none a a n p refl h k)
