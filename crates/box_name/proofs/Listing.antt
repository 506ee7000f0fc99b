-- Loops over expressions, parameters and variables: what is done so far, and what is left.
use Rattle.std.proofs.Common.{◌≡◌, ℕ, suc, ◌+◌, List, [], ◌∷◌, ◌++◌, map, Option, None, Some, is_some, Bool, length, refl, sym, ap, subst, ◌∙◌, append_assoc, append-nil, arith}
use Rattle.scheme_base.specs.declared.pos.Pos.{Pos}
use Rattle.scheme_base.specs.declared.lit.Lit.{Lit}
use Rattle.core_form.specs.declared.program.Node.{Node}
use Rattle.core_form.specs.declared.program.VarRef.{VarRef}
use Rattle.core_form.specs.Trees.{Tree, Trees, Stands, StandAll}
use Rattle.core_form.specs.Trees as tree
use Rattle.named_form.specs.declared.program.Step.{Step}
use Rattle.named_form.specs.Code.{Code}
use Rattle.named_form.specs.Written.{Onto}
use Rattle.box_name.specs.declared.namer.Namer.{Namer}
use Rattle.box_name.specs.Told.{Expr, Exprs, told, all_told, told_operand, told_operands}
use Rattle.box_name.specs.Counts.{procs_in, all_procs_in, after, all_after, places, all_places, has_value, have_values, after_param, after_params, param_place, param_places}
use Rattle.box_name.specs.Naming.{Setting, value, values, valued, all_valued, code, all_code, bind_param, bind_params}
use Rattle.box_name.specs.NamingSteps.{linked, Agrees, Notes, Emits, EmitsExpr, EmitsAll, EmitsOperand, EmitsOperands, BindsParam, BindsParams}
use Rattle.box_name.proofs.Putting.{earlier, notes_none, emits_then, emits_as, emits_none}

assoc : (i j k : ℕ) → i + j + k ≡ i + (j + k)
assoc i j k = omega arith

none_more : (i : ℕ) → i ≡ i + 0
none_more i = omega arith

-- Expressions: those that are left are put next.
pub record Going (exprs : List (Node VarRef)) (lits : List Lit) (s : Setting) (n p : ℕ) (a b : Namer) (x y : List Step) (es : Trees VarRef) (left vs : List ℕ) : Type 0 where
  pub others : Trees VarRef
  pub next : ℕ
  pub proc : ℕ
  pub noted : List (ℕ × ℕ)
  pub put : Onto
  pub stand : StandAll exprs left others
  pub emits : Emits s a b x y noted next proc put
  pub given : Agrees b s → values s (all_told lits es) n ≡ vs ++ values s (all_told lits others) next
  pub places : all_places s.boxed n (all_told lits es) ≡ noted ++ all_places s.boxed next (all_told lits others)
  pub after : all_after s.boxed n (all_told lits es) ≡ all_after s.boxed next (all_told lits others)
  pub procs : p + all_procs_in (all_told lits es) ≡ proc + all_procs_in (all_told lits others)
  pub code : (rest : Code Pos) → all_code s (all_told lits es) n p rest ≡ put (all_code s (all_told lits others) next proc rest)

module _ (exprs : List (Node VarRef)) (lits : List Lit) (s : Setting) (n p : ℕ) (a b : Namer) (x y : List Step) (es : Trees VarRef) where
  pub going_begins : (ids left vs : List ℕ) → StandAll exprs ids es → left ≡ ids → vs ≡ [] → a.next_var ≡ n → a.next_proc ≡ p
      → Going exprs lits s n p a a x x es left vs
  going_begins ids left vs stand is empty h k = record {
    others = es;
    next = n;
    proc = p;
    noted = [];
    put = λ rest. rest;
    stand = subst (λ u. StandAll exprs u es) (sym is) stand;
    emits = emits_none s a a x x [] n p refl (notes_none a a n p refl h k);
    given = λ agrees. ap (λ u. u ++ values s (all_told lits es) n) (sym empty);
    places = refl;
    after = refl;
    procs = refl;
    code = λ rest. refl;
  }

  pub going_on : (c : Namer) (z : List Step) (id v : ℕ) (left others vs ws : List ℕ) → Going exprs lits s n p a b x y es left vs
      → left ≡ id ∷ others
      → ((e : Tree VarRef) → Stands exprs id e → (m r : ℕ) → EmitsExpr s m r b c y z (told lits e) v)
      → ws ≡ vs ++ v ∷ [] → Going exprs lits s n p a c x z es others ws
  going_on c z id v left others vs ws g is one pushed = by g.others refl
    where
      by : (t : Trees VarRef) → g.others ≡ t → Going exprs lits s n p a c x z es others ws
      by tree.none e =
          let none_left : left ≡ [] = subst (λ u. StandAll exprs left u) e g.stand in
          absurd (cc (none_left, is))
      by (tree.item d ds) e =
          let st = subst (λ u. StandAll exprs left u) e g.stand in
          let same : st.0 ∷ st.1 ≡ id ∷ others = sym st.2 ∙ is in
          let here : st.0 ≡ id = cc same in
          let rest_is : st.1 ≡ others = cc same in
          let h = told lits d in
          let hs = all_told lits ds in
          let m = g.next in
          let r = g.proc in
          let m2 = after s.boxed m h in
          let r2 = r + procs_in h in
          let done = one d (subst (λ u. Stands exprs u d) here st.3) m r g.emits.notes.next_var g.emits.notes.next_proc in
          record {
            others = ds;
            next = m2;
            proc = r2;
            noted = g.noted ++ places s.boxed m h;
            put = λ rest. g.put (code s h m r rest);
            stand = subst (λ u. StandAll exprs u ds) rest_is st.4;
            emits = emits_then s a b c x y z g.noted (places s.boxed m h) m r m2 r2 g.put (code s h m r) g.emits done.0;
            given =
                λ agrees.
                g.given (earlier s b c (places s.boxed m h) done.0.notes.entries agrees)
                ∙ (ap (λ u. vs ++ values s (all_told lits u) m) e
                ∙ (ap (λ u. vs ++ u ∷ values s hs m2) (sym (done.1 agrees))
                ∙ (sym (append_assoc vs (v ∷ []) (values s hs m2)) ∙ ap (λ u. u ++ values s hs m2) (sym pushed))));
            places =
                g.places
                ∙ (ap (λ u. g.noted ++ all_places s.boxed m (all_told lits u)) e
                ∙ sym (append_assoc g.noted (places s.boxed m h) (all_places s.boxed m2 hs)));
            after = g.after ∙ ap (λ u. all_after s.boxed m (all_told lits u)) e;
            procs =
                g.procs
                ∙ (ap (λ u. r + all_procs_in (all_told lits u)) e ∙ sym (assoc r (procs_in h) (all_procs_in hs)));
            code = λ rest. g.code rest ∙ ap (λ u. g.put (all_code s (all_told lits u) m r rest)) e;
          }

  pub going_ends : (left vs : List ℕ) → Going exprs lits s n p a b x y es left vs → left ≡ []
      → Emits s a b x y (all_places s.boxed n (all_told lits es)) (all_after s.boxed n (all_told lits es)) (p + all_procs_in (all_told lits es)) (all_code s (all_told lits es) n p)
      × (Agrees b s → vs ≡ values s (all_told lits es) n)
  going_ends left vs g is = by g.others refl
    where
      by : (t : Trees VarRef) → g.others ≡ t
          → Emits s a b x y (all_places s.boxed n (all_told lits es)) (all_after s.boxed n (all_told lits es)) (p + all_procs_in (all_told lits es)) (all_code s (all_told lits es) n p)
          × (Agrees b s → vs ≡ values s (all_told lits es) n)
      by (tree.item d ds) e =
          let st = subst (λ u. StandAll exprs left u) e g.stand in
          absurd (cc (st.2, is))
      by tree.none e = (
        emits_as s a b x y g.noted (all_places s.boxed n (all_told lits es)) g.next (all_after s.boxed n (all_told lits es)) g.proc
            (p + all_procs_in (all_told lits es)) g.put (all_code s (all_told lits es) n p)
            (sym (g.places ∙ (ap (λ u. g.noted ++ all_places s.boxed g.next (all_told lits u)) e ∙ append-nil g.noted)))
            (sym (g.after ∙ ap (λ u. all_after s.boxed g.next (all_told lits u)) e))
            (none_more g.proc ∙ sym (g.procs ∙ ap (λ u. g.proc + all_procs_in (all_told lits u)) e))
            (λ agrees rest. sym (g.code rest ∙ ap (λ u. g.put (all_code s (all_told lits u) g.next g.proc rest)) e))
            g.emits,
        λ agrees.
            sym (g.given agrees ∙ (ap (λ u. vs ++ values s (all_told lits u) g.next) e ∙ append-nil vs)),
      )

map_push : (vs : List (Option ℕ)) (v : Option ℕ) → map is_some (vs ++ v ∷ []) ≡ map is_some vs ++ is_some v ∷ []
map_push [] v = refl
map_push (w ∷ vs) v = ap (λ u. is_some w ∷ u) (map_push vs v)

-- Operands of a direct call.
pub record Paying (exprs : List (Node VarRef)) (lits : List Lit) (s : Setting) (n p : ℕ) (a b : Namer) (x y : List Step) (es : Trees VarRef) (left : List ℕ) (vs : List (Option ℕ)) : Type 0 where
  pub others : Trees VarRef
  pub next : ℕ
  pub proc : ℕ
  pub noted : List (ℕ × ℕ)
  pub put : Onto
  pub stand : StandAll exprs left others
  pub emits : Emits s a b x y noted next proc put
  pub flags : have_values (told_operands lits es) ≡ map is_some vs ++ have_values (told_operands lits others)
  pub given : Agrees b s → all_valued s (told_operands lits es) n ≡ vs ++ all_valued s (told_operands lits others) next
  pub places : all_places s.boxed n (told_operands lits es) ≡ noted ++ all_places s.boxed next (told_operands lits others)
  pub after : all_after s.boxed n (told_operands lits es) ≡ all_after s.boxed next (told_operands lits others)
  pub procs : p + all_procs_in (told_operands lits es) ≡ proc + all_procs_in (told_operands lits others)
  pub code : (rest : Code Pos) → all_code s (told_operands lits es) n p rest ≡ put (all_code s (told_operands lits others) next proc rest)

module _ (exprs : List (Node VarRef)) (lits : List Lit) (s : Setting) (n p : ℕ) (a b : Namer) (x y : List Step) (es : Trees VarRef) where
  pub paying_begins : (ids left : List ℕ) (vs : List (Option ℕ)) → StandAll exprs ids es → left ≡ ids → vs ≡ [] → a.next_var ≡ n
      → a.next_proc ≡ p → Paying exprs lits s n p a a x x es left vs
  paying_begins ids left vs stand is empty h k = record {
    others = es;
    next = n;
    proc = p;
    noted = [];
    put = λ rest. rest;
    stand = subst (λ u. StandAll exprs u es) (sym is) stand;
    emits = emits_none s a a x x [] n p refl (notes_none a a n p refl h k);
    flags = ap (λ u. map is_some u ++ have_values (told_operands lits es)) (sym empty);
    given = λ agrees. ap (λ u. u ++ all_valued s (told_operands lits es) n) (sym empty);
    places = refl;
    after = refl;
    procs = refl;
    code = λ rest. refl;
  }

  pub paying_on : (c : Namer) (z : List Step) (id : ℕ) (v : Option ℕ) (left others : List ℕ) (vs ws : List (Option ℕ)) → Paying exprs lits s n p a b x y es left vs
      → left ≡ id ∷ others
      → ((e : Tree VarRef) → Stands exprs id e → (m r : ℕ) → EmitsOperand s m r b c y z (told_operand lits e) v)
      → ws ≡ vs ++ v ∷ [] → Paying exprs lits s n p a c x z es others ws
  paying_on c z id v left others vs ws g is one pushed = by g.others refl
    where
      by : (t : Trees VarRef) → g.others ≡ t → Paying exprs lits s n p a c x z es others ws
      by tree.none e =
          let none_left : left ≡ [] = subst (λ u. StandAll exprs left u) e g.stand in
          absurd (cc (none_left, is))
      by (tree.item d ds) e =
          let st = subst (λ u. StandAll exprs left u) e g.stand in
          let same : st.0 ∷ st.1 ≡ id ∷ others = sym st.2 ∙ is in
          let here : st.0 ≡ id = cc same in
          let rest_is : st.1 ≡ others = cc same in
          let h = told_operand lits d in
          let hs = told_operands lits ds in
          let m = g.next in
          let r = g.proc in
          let m2 = after s.boxed m h in
          let r2 = r + procs_in h in
          let done = one d (subst (λ u. Stands exprs u d) here st.3) m r g.emits.notes.next_var g.emits.notes.next_proc in
          record {
            others = ds;
            next = m2;
            proc = r2;
            noted = g.noted ++ places s.boxed m h;
            put = λ rest. g.put (code s h m r rest);
            stand = subst (λ u. StandAll exprs u ds) rest_is st.4;
            emits = emits_then s a b c x y z g.noted (places s.boxed m h) m r m2 r2 g.put (code s h m r) g.emits done.0;
            flags =
                g.flags
                ∙ (ap (λ u. map is_some vs ++ have_values (told_operands lits u)) e
                ∙ (ap (λ u. map is_some vs ++ u ∷ have_values hs) (sym done.1)
                ∙ (sym (append_assoc (map is_some vs) (is_some v ∷ []) (have_values hs))
                ∙ ap (λ u. u ++ have_values hs) (sym (map_push vs v) ∙ ap (λ u. map is_some u) (sym pushed)))));
            given =
                λ agrees.
                g.given (earlier s b c (places s.boxed m h) done.0.notes.entries agrees)
                ∙ (ap (λ u. vs ++ all_valued s (told_operands lits u) m) e
                ∙ (ap (λ u. vs ++ u ∷ all_valued s hs m2) (sym (done.2 agrees))
                ∙ (sym (append_assoc vs (v ∷ []) (all_valued s hs m2)) ∙ ap (λ u. u ++ all_valued s hs m2) (sym pushed))));
            places =
                g.places
                ∙ (ap (λ u. g.noted ++ all_places s.boxed m (told_operands lits u)) e
                ∙ sym (append_assoc g.noted (places s.boxed m h) (all_places s.boxed m2 hs)));
            after = g.after ∙ ap (λ u. all_after s.boxed m (told_operands lits u)) e;
            procs =
                g.procs
                ∙ (ap (λ u. r + all_procs_in (told_operands lits u)) e ∙ sym (assoc r (procs_in h) (all_procs_in hs)));
            code = λ rest. g.code rest ∙ ap (λ u. g.put (all_code s (told_operands lits u) m r rest)) e;
          }

  pub paying_ends : (left : List ℕ) (vs : List (Option ℕ)) → Paying exprs lits s n p a b x y es left vs → left ≡ []
      → Emits s a b x y (all_places s.boxed n (told_operands lits es)) (all_after s.boxed n (told_operands lits es)) (p + all_procs_in (told_operands lits es)) (all_code s (told_operands lits es) n p)
      × (map is_some vs ≡ have_values (told_operands lits es)) × (Agrees b s → vs ≡ all_valued s (told_operands lits es) n)
  paying_ends left vs g is = by g.others refl
    where
      by : (t : Trees VarRef) → g.others ≡ t
          → Emits s a b x y (all_places s.boxed n (told_operands lits es)) (all_after s.boxed n (told_operands lits es)) (p + all_procs_in (told_operands lits es)) (all_code s (told_operands lits es) n p)
          × (map is_some vs ≡ have_values (told_operands lits es)) × (Agrees b s → vs ≡ all_valued s (told_operands lits es) n)
      by (tree.item d ds) e =
          let st = subst (λ u. StandAll exprs left u) e g.stand in
          absurd (cc (st.2, is))
      by tree.none e = (
        emits_as s a b x y g.noted (all_places s.boxed n (told_operands lits es)) g.next (all_after s.boxed n (told_operands lits es)) g.proc
            (p + all_procs_in (told_operands lits es)) g.put (all_code s (told_operands lits es) n p)
            (sym (g.places ∙ (ap (λ u. g.noted ++ all_places s.boxed g.next (told_operands lits u)) e ∙ append-nil g.noted)))
            (sym (g.after ∙ ap (λ u. all_after s.boxed g.next (told_operands lits u)) e))
            (none_more g.proc ∙ sym (g.procs ∙ ap (λ u. g.proc + all_procs_in (told_operands lits u)) e))
            (λ agrees rest. sym (g.code rest ∙ ap (λ u. g.put (all_code s (told_operands lits u) g.next g.proc rest)) e))
            g.emits,
        sym (g.flags ∙ (ap (λ u. map is_some vs ++ have_values (told_operands lits u)) e ∙ append-nil (map is_some vs))),
        λ agrees.
            sym (g.given agrees ∙ (ap (λ u. vs ++ all_valued s (told_operands lits u) g.next) e ∙ append-nil vs)),
      )

-- Parameters of a direct call: those that are left are bound next.
pub record Binding (s : Setting) (q : Pos) (n p : ℕ) (a b : Namer) (x y : List Step) (xs : List ℕ) (vs : List (Option ℕ)) (left : List ℕ) (some : List (Option ℕ)) : Type 0 where
  pub next : ℕ
  pub noted : List (ℕ × ℕ)
  pub put : Onto
  pub emits : Emits s a b x y noted next p put
  pub places :
      param_places s.boxed n xs (map is_some vs) ≡ noted ++ param_places s.boxed next left (map is_some some)
  pub after : after_params s.boxed n xs (map is_some vs) ≡ after_params s.boxed next left (map is_some some)
  pub code : (rest : Code Pos) → bind_params s q xs vs n rest ≡ put (bind_params s q left some next rest)

module _ (s : Setting) (q : Pos) (n p : ℕ) (a b : Namer) (x y : List Step) (xs : List ℕ) (vs : List (Option ℕ)) where
  begins : a.next_var ≡ n → a.next_proc ≡ p → Binding s q n p a a x x xs vs xs vs
  begins h k = record {
    next = n;
    noted = [];
    put = λ rest. rest;
    emits = emits_none s a a x x [] n p refl (notes_none a a n p refl h k);
    places = refl;
    after = refl;
    code = λ rest. refl;
  }

  pub binding_begins : (left : List ℕ) (some : List (Option ℕ)) → left ≡ xs → some ≡ vs → a.next_var ≡ n → a.next_proc ≡ p
      → Binding s q n p a a x x xs vs left some
  binding_begins left some is are h k =
      subst (λ u. Binding s q n p a a x x xs vs u some) (sym is) (subst (λ u. Binding s q n p a a x x xs vs xs u) (sym are) (begins h k))

  pub binding_on : (c : Namer) (z : List Step) (l : ℕ) (v : Option ℕ) (all left : List ℕ) (given some : List (Option ℕ))
      → Binding s q n p a b x y xs vs all given → all ≡ l ∷ left → given ≡ v ∷ some → ((m r : ℕ) → BindsParam s m r b c y z q l v)
      → Binding s q n p a c x z xs vs left some
  binding_on c z l v all left given some h is are one =
      let g : Binding s q n p a b x y xs vs (l ∷ left) (v ∷ some) =
      subst (λ u. Binding s q n p a b x y xs vs (l ∷ left) u) are (subst (λ u. Binding s q n p a b x y xs vs u given) is h) in
      let m = g.next in
      let m2 = after_param s.boxed m l (is_some v) in
      let P = (l, param_place s.boxed m l (is_some v)) ∷ [] in
      let done = one m p g.emits.notes.next_var g.emits.notes.next_proc in
      record {
        next = m2;
        noted = g.noted ++ P;
        put = λ rest. g.put (bind_param s q l m v rest);
        emits = emits_then s a b c x y z g.noted P m p m2 p g.put (bind_param s q l m v) g.emits done;
        places = g.places ∙ sym (append_assoc g.noted P (param_places s.boxed m2 left (map is_some some)));
        after = g.after;
        code = g.code;
      }

  ends_with : (left : List ℕ) (some : List (Option ℕ)) → Binding s q n p a b x y xs vs left some
      → ((m : ℕ) → param_places s.boxed m left (map is_some some) ≡ [])
      → ((m : ℕ) → after_params s.boxed m left (map is_some some) ≡ m)
      → ((m : ℕ) (rest : Code Pos) → bind_params s q left some m rest ≡ rest)
      → Emits s a b x y (param_places s.boxed n xs (map is_some vs)) (after_params s.boxed n xs (map is_some vs)) p (bind_params s q xs vs n)
  ends_with left some g no_place no_more no_code =
      emits_as s a b x y g.noted (param_places s.boxed n xs (map is_some vs)) g.next (after_params s.boxed n xs (map is_some vs)) p p
      g.put (bind_params s q xs vs n)
      (sym (g.places ∙ (ap (λ u. g.noted ++ u) (no_place g.next) ∙ append-nil g.noted)))
      (sym (g.after ∙ no_more g.next)) refl (λ agrees rest. sym (g.code rest ∙ ap g.put (no_code g.next rest))) g.emits

  pub binding_ends : (left : List ℕ) (some : List (Option ℕ)) → Binding s q n p a b x y xs vs left some → left ≡ []
      → Emits s a b x y (param_places s.boxed n xs (map is_some vs)) (after_params s.boxed n xs (map is_some vs)) p (bind_params s q xs vs n)
  binding_ends left some g is =
      ends_with [] some (subst (λ u. Binding s q n p a b x y xs vs u some) is g) (λ m. refl) (λ m. refl) (λ m rest. refl)

  pub binding_breaks : (l : ℕ) (all left : List ℕ) (some : List (Option ℕ)) → Binding s q n p a b x y xs vs all some → all ≡ l ∷ left
      → some ≡ []
      → Emits s a b x y (param_places s.boxed n xs (map is_some vs)) (after_params s.boxed n xs (map is_some vs)) p (bind_params s q xs vs n)
  binding_breaks l all left some g is none_left =
      ends_with (l ∷ left) []
      (subst (λ u. Binding s q n p a b x y xs vs (l ∷ left) u) none_left (subst (λ u. Binding s q n p a b x y xs vs u some) is g))
      (λ m. refl) (λ m. refl) (λ m rest. refl)
