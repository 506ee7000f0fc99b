-- Boxes and numbers of single variables, and of lists of them.
use Rattle.std.proofs.Common.{◌≡◌, ℕ, suc, ◌+◌, List, [], ◌∷◌, ◌++◌, map, length, Option, None, Some, Bool, true, false, if◌then◌else◌, refl, sym, ap, subst, ◌∙◌, append_assoc, append-nil, arith}
use Rattle.scheme_base.specs.declared.lit.Lit.{Lit}
use Rattle.scheme_base.specs.declared.pos.Pos.{Pos}
use Rattle.core_form.specs.declared.program.Node.{Node}
use Rattle.core_form.specs.declared.program.VarRef.{VarRef}
use Rattle.core_form.specs.declared.program.VarRef.TheVariants as ref
use Rattle.core_form.specs.Trees.{Tree, Trees, Stands, StandAll}
use Rattle.core_form.specs.Trees as tree
use Rattle.named_form.specs.declared.program.Step.{Step}
use Rattle.named_form.specs.Code.{Code, Then, Act, Copy, MakeBox, MakeHole, Fix}
use Rattle.named_form.specs.Valid.{numbers_from}
use Rattle.box_name.specs.declared.namer.Namer.{Namer}
use Rattle.box_name.specs.Told.{Exprs, told, all_told, number, numbers}
use Rattle.box_name.specs.Counts.{procs_in, all_procs_in, var_places}
use Rattle.box_name.specs.Naming.{Setting, procs_of}
use Rattle.box_name.specs.NamingSteps.{linked, PutsStep, Notes, Binds, Takes, TakesProc, TakesProcs, NotesVars, PutsFix, Emits, Settles, BindsParam, with_next, with_proc}
use Rattle.box_name.specs.Procedures.{TakesVars}
use Rattle.box_name.proofs.Putting.{next_is, notes_none, notes_then, notes_as, emits_then, emits_as, emits_none, emits_next, emits_step}

-- One variable

module _ (s : Setting) (n p : ℕ) (a b c : Namer) (x y : List Step) (q : Pos) (z v w : ℕ) where
  pub settle_boxed : s.boxed z ≡ true → Binds a b x y q (MakeBox v) w → Notes b c ((z, w) ∷ []) b.next_var b.next_proc
      → Settles s n p a c x y q z v
  settle_boxed boxed bound noted =
      λ h k.
      let one = emits_next s a b x y n p q (MakeBox v) w h k bound in
      let here =
      notes_as b c ((z, w) ∷ []) ((z, n) ∷ []) b.next_var (suc n) b.next_proc p (ap (λ u. (z, u) ∷ []) (bound.var ∙ h))
      one.notes.next_var one.notes.next_proc noted in
      let both =
      emits_then s a b c x y y [] ((z, n) ∷ []) (suc n) p (suc n) p (λ rest. Then q (n ∷ []) (MakeBox v) rest) (λ rest. rest)
      one (emits_none s b c y y ((z, n) ∷ []) (suc n) p refl here) in
      subst (λ t. Emits s a c x y ((z, if t then n else v) ∷ []) (if t then suc n else n) p (λ rest. if t then Then q (n ∷ []) (MakeBox v) rest else rest))
      (sym boxed) both

  pub bind_hole : Binds a b x y q MakeHole w → Notes b c ((z, w) ∷ []) b.next_var b.next_proc → BindsParam s n p a c x y q z None
  bind_hole bound noted =
      λ h k.
      let one = emits_next s a b x y n p q MakeHole w h k bound in
      let here =
      notes_as b c ((z, w) ∷ []) ((z, n) ∷ []) b.next_var (suc n) b.next_proc p (ap (λ u. (z, u) ∷ []) (bound.var ∙ h))
      one.notes.next_var one.notes.next_proc noted in
      emits_then s a b c x y y [] ((z, n) ∷ []) (suc n) p (suc n) p (λ rest. Then q (n ∷ []) MakeHole rest) (λ rest. rest) one
      (emits_none s b c y y ((z, n) ∷ []) (suc n) p refl here)

pub settle_plain : (s : Setting) (n p : ℕ) (a b : Namer) (x : List Step) (q : Pos) (z v : ℕ) → s.boxed z ≡ false
    → Notes a b ((z, v) ∷ []) a.next_var a.next_proc → Settles s n p a b x x q z v
settle_plain s n p a b x q z v plain noted =
    λ h k.
    subst (λ t. Emits s a b x x ((z, if t then n else v) ∷ []) (if t then suc n else n) p (λ rest. if t then Then q (n ∷ []) (MakeBox v) rest else rest))
    (sym plain)
    (emits_none s a b x x ((z, v) ∷ []) n p refl
    (notes_as a b ((z, v) ∷ []) ((z, v) ∷ []) a.next_var n a.next_proc p refl h k noted))

pub bind_value : (s : Setting) (n p : ℕ) (a b c : Namer) (x y z : List Step) (q : Pos) (l from w : ℕ) → Binds a b x y q (Copy from) w
    → ((m r : ℕ) → Settles s m r b c y z q l w) → BindsParam s n p a c x z q l (Some from)
bind_value s n p a b c x y z q l from w bound settled =
    λ h k.
    let one = emits_next s a b x y n p q (Copy from) w h k bound in
    let two =
    subst (λ u. Emits s b c y z ((l, if s.boxed l then suc n else u) ∷ []) (if s.boxed l then suc (suc n) else suc n) p (λ rest. if s.boxed l then Then q (suc n ∷ []) (MakeBox u) rest else rest))
    (bound.var ∙ h) (settled (suc n) p one.notes.next_var one.notes.next_proc) in
    emits_then s a b c x y z [] ((l, if s.boxed l then suc n else n) ∷ []) (suc n) p (if s.boxed l then suc (suc n) else suc n) p
    (λ rest. Then q (n ∷ []) (Copy from) rest) (λ rest. if s.boxed l then Then q (suc n ∷ []) (MakeBox n) rest else rest) one two

-- Variables of a `letrec`: those that are left are noted next.
pub record Numbering (a b : Namer) (all left : List VarRef) (vs : List ℕ) : Type 0 where
  pub noted : List (ℕ × ℕ)
  pub entries : b.vars.entries ≡ a.vars.entries ++ noted
  pub places : var_places a.next_var (numbers all) ≡ noted ++ var_places b.next_var (numbers left)
  pub vars : numbers_from a.next_var (length (numbers all)) ≡ vs ++ numbers_from b.next_var (length (numbers left))
  pub many : a.next_var + length (numbers all) ≡ b.next_var + length (numbers left)
  pub procs : b.next_proc ≡ a.next_proc

begins : (a : Namer) (all : List VarRef) → Numbering a a all all []
begins a all = record {
  noted = [];
  entries = sym (append-nil a.vars.entries);
  places = refl;
  vars = refl;
  many = refl;
  procs = refl;
}

pub numbering_begins : (a : Namer) (all left : List VarRef) (vs : List ℕ) → left ≡ all → vs ≡ [] → Numbering a a all left vs
numbering_begins a all left vs is empty =
    subst (λ u. Numbering a a all u vs) (sym is) (subst (λ u. Numbering a a all all u) (sym empty) (begins a all))

numbering_next : (a b c d : Namer) (all : List VarRef) (x : VarRef) (left : List VarRef) (v : ℕ) (vs ws : List ℕ)
    → Numbering a b all (x ∷ left) vs → Takes b c v → Notes c d ((number x, v) ∷ []) c.next_var c.next_proc → ws ≡ vs ++ v ∷ []
    → Numbering a d all left ws
numbering_next a b c d all x left v vs ws g taken here pushed =
    let at : d.next_var ≡ suc b.next_var =
    here.next_var ∙ (ap (λ u. u.next_var) taken.next ∙ next_is b.next_var b.next_var refl) in
    let P = (number x, b.next_var) ∷ [] in
    record {
      noted = g.noted ++ P;
      entries =
          here.entries
          ∙ (ap (λ u. u.vars.entries ++ (number x, v) ∷ []) taken.next
          ∙ (ap (λ u. u ++ (number x, v) ∷ []) g.entries
          ∙ (append_assoc a.vars.entries g.noted ((number x, v) ∷ [])
          ∙ ap (λ u. a.vars.entries ++ (g.noted ++ (number x, u) ∷ [])) taken.var)));
      places =
          g.places
          ∙ (sym (append_assoc g.noted P (var_places (suc b.next_var) (numbers left)))
          ∙ ap (λ u. (g.noted ++ P) ++ var_places u (numbers left)) (sym at));
      vars =
          g.vars
          ∙ (ap (λ u. vs ++ (b.next_var ∷ numbers_from u (length (numbers left)))) (sym at)
          ∙ (ap (λ u. vs ++ (u ∷ numbers_from d.next_var (length (numbers left)))) (sym taken.var)
          ∙ (sym (append_assoc vs (v ∷ []) (numbers_from d.next_var (length (numbers left))))
          ∙ ap (λ u. u ++ numbers_from d.next_var (length (numbers left))) (sym pushed))));
      many = g.many ∙ (one_more b.next_var (length (numbers left)) ∙ ap (λ u. u + length (numbers left)) (sym at));
      procs = here.next_proc ∙ (ap (λ u. u.next_proc) taken.next ∙ g.procs);
    }
  where
    one_more : (i j : ℕ) → i + suc j ≡ suc i + j
    one_more i j = omega arith

pub numbering_on : (a b c d : Namer) (all left : List VarRef) (x : VarRef) (others : List VarRef) (n v : ℕ) (vs ws : List ℕ)
    → Numbering a b all left vs → left ≡ x ∷ others → x ≡ ref.Local n → Takes b c v
    → Notes c d ((n, v) ∷ []) c.next_var c.next_proc → ws ≡ vs ++ v ∷ [] → Numbering a d all others ws
numbering_on a b c d all left x others n v vs ws g is local taken here pushed =
    numbering_next a b c d all x others v vs ws (subst (λ u. Numbering a b all u vs) is g) taken
    (subst (λ u. Notes c d ((number u, v) ∷ []) c.next_var c.next_proc) (sym local) here) pushed

none_more : (i : ℕ) → i ≡ i + 0
none_more i = omega arith

pub numbering_ends : (a b : Namer) (all left : List VarRef) (vs : List ℕ) → Numbering a b all left vs → left ≡ []
    → NotesVars a b (numbers all) vs
numbering_ends a b all left vs h is = none_left (subst (λ u. Numbering a b all u vs) is h)
  where
    none_left : Numbering a b all [] vs → NotesVars a b (numbers all) vs
    none_left g = record {
      notes =
          record {
            entries = g.entries ∙ ap (λ u. a.vars.entries ++ u) (sym (g.places ∙ append-nil g.noted));
            next_var = none_more b.next_var ∙ sym g.many;
            next_proc = g.procs;
          };
      vars = sym (g.vars ∙ append-nil vs);
    }

-- Lambda expressions of a `letrec`: those that are left take the next procedures.
pub record Counting (exprs : List (Node VarRef)) (lits : List Lit) (a b : Namer) (ls : Trees VarRef) (left vs : List ℕ) : Type 0 where
  pub others : Trees VarRef
  pub stand : StandAll exprs left others
  pub same : b ≡ with_proc a b.next_proc
  pub procs : procs_of a.next_proc (all_told lits ls) ≡ vs ++ procs_of b.next_proc (all_told lits others)
  pub many : a.next_proc + all_procs_in (all_told lits ls) ≡ b.next_proc + all_procs_in (all_told lits others)

pub counting_begins : (exprs : List (Node VarRef)) (lits : List Lit) (a : Namer) (ls : Trees VarRef) (ids left vs : List ℕ)
    → StandAll exprs ids ls → left ≡ ids → vs ≡ [] → Counting exprs lits a a ls left vs
counting_begins exprs lits a ls ids left vs stand is empty = record {
  others = ls;
  stand = subst (λ u. StandAll exprs u ls) (sym is) stand;
  same = refl;
  procs = ap (λ u. u ++ procs_of a.next_proc (all_told lits ls)) (sym empty);
  many = refl;
}

pub counting_on : (exprs : List (Node VarRef)) (lits : List Lit) (a b c : Namer) (ls : Trees VarRef) (id v : ℕ) (left others vs ws : List ℕ)
    → Counting exprs lits a b ls left vs → left ≡ id ∷ others
    → ((e : Tree VarRef) → Stands exprs id e → TakesProc b c (told lits e) v) → ws ≡ vs ++ v ∷ []
    → Counting exprs lits a c ls others ws
counting_on exprs lits a b c ls id v left others vs ws g is one pushed = by g.others refl
  where
    assoc : (i j k : ℕ) → i + (j + k) ≡ i + j + k
    assoc i j k = omega arith

    by : (t : Trees VarRef) → g.others ≡ t → Counting exprs lits a c ls others ws
    by tree.none e =
        let none_left : left ≡ [] = subst (λ u. StandAll exprs left u) e g.stand in
        absurd (cc (none_left, is))
    by (tree.item d ds) e =
        let st = subst (λ u. StandAll exprs left u) e g.stand in
        let same : st.0 ∷ st.1 ≡ id ∷ others = sym st.2 ∙ is in
        let here : st.0 ≡ id = cc same in
        let rest_is : st.1 ≡ others = cc same in
        let taken = one d (subst (λ u. Stands exprs u d) here st.3) in
        let at : c.next_proc ≡ b.next_proc + procs_in (told lits d) = ap (λ u. u.next_proc) taken.next in
        record {
          others = ds;
          stand = subst (λ u. StandAll exprs u ds) rest_is st.4;
          same =
              taken.next
              ∙ (ap (λ u. with_proc b u) (sym at) ∙ ap (λ u. with_proc u c.next_proc) g.same);
          procs =
              g.procs
              ∙ (ap (λ u. vs ++ procs_of b.next_proc (all_told lits u)) e
              ∙ (ap (λ u. vs ++ (b.next_proc ∷ procs_of u (all_told lits ds))) (sym at)
              ∙ (ap (λ u. vs ++ (u ∷ procs_of c.next_proc (all_told lits ds))) (sym taken.proc)
              ∙ (sym (append_assoc vs (v ∷ []) (procs_of c.next_proc (all_told lits ds)))
              ∙ ap (λ u. u ++ procs_of c.next_proc (all_told lits ds)) (sym pushed)))));
          many =
              g.many
              ∙ (ap (λ u. b.next_proc + all_procs_in (all_told lits u)) e
              ∙ (assoc b.next_proc (procs_in (told lits d)) (all_procs_in (all_told lits ds))
              ∙ ap (λ u. u + all_procs_in (all_told lits ds)) (sym at)));
        }

pub counting_ends : (exprs : List (Node VarRef)) (lits : List Lit) (a b : Namer) (ls : Trees VarRef) (left vs : List ℕ)
    → Counting exprs lits a b ls left vs → left ≡ [] → TakesProcs a b (all_told lits ls) vs
counting_ends exprs lits a b ls left vs g is = by g.others refl
  where
    by : (t : Trees VarRef) → g.others ≡ t → TakesProcs a b (all_told lits ls) vs
    by (tree.item d ds) e =
        let st = subst (λ u. StandAll exprs left u) e g.stand in
        absurd (cc (st.2, is))
    by tree.none e = record {
      procs = sym (g.procs ∙ (ap (λ u. vs ++ procs_of b.next_proc (all_told lits u)) e ∙ append-nil vs));
      next =
          g.same
          ∙ ap (λ u. with_proc a u)
          (none_more b.next_proc ∙ sym (g.many ∙ ap (λ u. b.next_proc + all_procs_in (all_told lits u)) e));
    }

-- the step of a `letrec`, from its variables and its procedures
pub put_fix : (s : Setting) (n p : ℕ) (a b c : Namer) (x y : List Step) (q : Pos) (xs : List ℕ) (ls : Exprs) (vars procs : List ℕ)
    → NotesVars a b xs vars → TakesProcs b c ls procs → PutsStep x y q vars (Fix procs) → PutsFix s n p a c x y q xs ls
put_fix s n p a b c x y q xs ls vars procs noted taken put =
    λ h k.
    let at : b.next_proc ≡ p = noted.notes.next_proc ∙ k in
    let done : Notes a c (var_places n xs) (n + length xs) (p + all_procs_in ls) = record {
      entries =
          ap (λ u. u.vars.entries) taken.next
          ∙ (noted.notes.entries ∙ ap (λ u. a.vars.entries ++ var_places u xs) h);
      next_var = ap (λ u. u.next_var) taken.next ∙ (noted.notes.next_var ∙ ap (λ u. u + length xs) h);
      next_proc = ap (λ u. u.next_proc) taken.next ∙ ap (λ u. u + all_procs_in ls) at;
    } in
    record {
      notes = done;
      puts =
          λ agrees rest.
          put rest
          ∙ (ap (λ u. linked x (Then q u (Fix procs) rest)) (noted.vars ∙ ap (λ u. numbers_from u (length xs)) h)
          ∙ ap (λ u. linked x (Then q (numbers_from n (length xs)) (Fix u) rest)) (taken.procs ∙ ap (λ u. procs_of u ls) at));
    }

-- Parameters of a procedure: those that are left take the next variables.
pub record Taking (a b : Namer) (many left : ℕ) (vs : List ℕ) : Type 0 where
  pub notes : Notes a b [] b.next_var a.next_proc
  pub vars : numbers_from a.next_var many ≡ vs ++ numbers_from b.next_var left
  pub sum : a.next_var + many ≡ b.next_var + left

pub taking_begins : (a : Namer) (many left : ℕ) (vs : List ℕ) → left ≡ many → vs ≡ [] → Taking a a many left vs
taking_begins a many left vs is empty = record {
  notes = notes_none a a a.next_var a.next_proc refl refl refl;
  vars =
      ap (λ u. numbers_from a.next_var u) (sym is) ∙ ap (λ u. u ++ numbers_from a.next_var left) (sym empty);
  sum = ap (λ u. a.next_var + u) (sym is);
}

pub taking_on : (a b c : Namer) (many all left v : ℕ) (vs ws : List ℕ) → Taking a b many all vs → all ≡ suc left → Takes b c v
    → ws ≡ vs ++ v ∷ [] → Taking a c many left ws
taking_on a b c many all left v vs ws h is taken pushed =
    let g : Taking a b many (suc left) vs = subst (λ u. Taking a b many u vs) is h in
    let at : c.next_var ≡ suc b.next_var = ap (λ u. u.next_var) taken.next ∙ next_is b.next_var b.next_var refl in
    record {
      notes =
          record {
            entries = ap (λ u. u.vars.entries) taken.next ∙ g.notes.entries;
            next_var = refl;
            next_proc = ap (λ u. u.next_proc) taken.next ∙ g.notes.next_proc;
          };
      vars =
          g.vars
          ∙ (ap (λ u. vs ++ (b.next_var ∷ numbers_from u left)) (sym at)
          ∙ (ap (λ u. vs ++ (u ∷ numbers_from c.next_var left)) (sym taken.var)
          ∙ (sym (append_assoc vs (v ∷ []) (numbers_from c.next_var left)) ∙ ap (λ u. u ++ numbers_from c.next_var left) (sym pushed))));
      sum = g.sum ∙ (one_more b.next_var left ∙ ap (λ u. u + left) (sym at));
    }
  where
    one_more : (i j : ℕ) → i + suc j ≡ suc i + j
    one_more i j = omega arith

pub taking_ends : (a b : Namer) (many left : ℕ) (vs : List ℕ) → Taking a b many left vs → left ≡ 0 → TakesVars a b many vs
taking_ends a b many left vs h is =
    let g : Taking a b many 0 vs = subst (λ u. Taking a b many u vs) is h in
    record {
      notes =
          record {
            entries = g.notes.entries;
            next_var = none_more b.next_var ∙ sym g.sum;
            next_proc = g.notes.next_proc;
          };
      vars = sym (g.vars ∙ append-nil vs);
    }
