-- Loops over the forms of a program and over its procedures.
use Rattle.std.proofs.Common.{◌≡◌, ℕ, suc, ◌+◌, ◌<◌, ◌^◌, List, [], ◌∷◌, ◌++◌, map, length, Option, None, Some, refl, sym, ap, subst, ◌∙◌, append_assoc, append-nil, arith}
use Rattle.scheme_base.specs.declared.pos.Pos.{Pos}
use Rattle.scheme_base.specs.declared.lit.Lit.{Lit}
use Rattle.core_form.specs.declared.program.Node.{Node}
use Rattle.core_form.specs.declared.program.Program.{Program}
use Rattle.core_form.specs.declared.program.VarRef.{VarRef}
use Rattle.core_form.specs.Trees.{Tree, Trees, Stands, StandAll}
use Rattle.core_form.specs.Trees as tree
use Rattle.named_form.specs.declared.program.Block.{Block, out-Block}
use Rattle.named_form.specs.declared.program.Proc.{Proc}
use Rattle.named_form.specs.declared.program.Step.{Step}
use Rattle.named_form.specs.Code.{Code, Ends, Written}
use Rattle.named_form.specs.Written.{Onto, procedure}
use Rattle.box_name.specs.declared.namer.Namer.{Namer}
use Rattle.box_name.specs.declared.survey.Origin.{Origin}
use Rattle.box_name.specs.Told.{Expr, Exprs, told, all_told}
use Rattle.box_name.specs.Counts.{procs_in, all_procs_in, after, all_after, places, all_places, after_lambda, lambda_places}
use Rattle.box_name.specs.Naming.{Setting, code, written}
use Rattle.box_name.specs.Whole.{after_lambdas, all_written, form_code, is_boxed, lambdas_places, setting}
use Rattle.box_name.specs.NamingSteps.{linked, Agrees, Notes, Emits, EmitsExpr}
use Rattle.box_name.specs.Finding.{ArePlaced}
use Rattle.box_name.specs.Procedures.{NamesProc, NamesProcs, NamesProgram, NumbersFit}
use Rattle.box_name.proofs.Acts.{block_is}
use Rattle.box_name.proofs.Putting.{earlier, notes_none, emits_then, emits_none}

-- Forms: those that are left, from form f on, are put next.
pub record Running (exprs : List (Node VarRef)) (lits : List Lit) (all : Exprs) (a b : Namer) (y : List Step) (f : ℕ) (left : List ℕ) : Type 0 where
  pub others : Trees VarRef
  pub next : ℕ
  pub proc : ℕ
  pub noted : List (ℕ × ℕ)
  pub put : Onto
  pub stand : StandAll exprs left others
  pub emits : Emits (setting all 0) a b [] y noted next proc put
  pub places : all_places (is_boxed all) 0 all ≡ noted ++ all_places (is_boxed all) next (all_told lits others)
  pub after : all_after (is_boxed all) 0 all ≡ all_after (is_boxed all) next (all_told lits others)
  pub code : form_code all 0 0 1 all ≡ put (form_code all f next proc (all_told lits others))

module _ (exprs : List (Node VarRef)) (lits : List Lit) (es : Trees VarRef) (a : Namer) where
  abbrev all : Exprs
  all = all_told lits es

  pub running_begins : (x : List Step) (ids left : List ℕ) → StandAll exprs ids es → left ≡ ids → a.next_var ≡ 0 → a.next_proc ≡ 1
      → x ≡ [] → Running exprs lits all a a x 0 left
  running_begins x ids left stand is h k empty = record {
    others = es;
    next = 0;
    proc = 1;
    noted = [];
    put = λ rest. rest;
    stand = subst (λ u. StandAll exprs u es) (sym is) stand;
    emits = emits_none (setting all 0) a a [] x [] 0 1 empty (notes_none a a 0 1 refl h k);
    places = refl;
    after = refl;
    code = refl;
  }

  pub running_on : (b c : Namer) (y z : List Step) (f f' id v : ℕ) (left others : List ℕ) → Running exprs lits all a b y f left
      → left ≡ id ∷ others → f' ≡ suc f
      → ((e : Tree VarRef) → Stands exprs id e → (m r : ℕ) → EmitsExpr (setting all f) m r b c y z (told lits e) v)
      → Running exprs lits all a c z f' others
  running_on b c y z f f' id v left others g is next one = by g.others refl
    where
      by : (t : Trees VarRef) → g.others ≡ t → Running exprs lits all a c z f' others
      by tree.none e =
          let none_left : left ≡ [] = subst (λ u. StandAll exprs left u) e g.stand in
          absurd (cc (none_left, is))
      by (tree.item d ds) e =
          let st = subst (λ u. StandAll exprs left u) e g.stand in
          let same : st.0 ∷ st.1 ≡ id ∷ others = sym st.2 ∙ is in
          let here : st.0 ≡ id = cc same in
          let rest_is : st.1 ≡ others = cc same in
          let h = told lits d in
          let hs = all_told lits ds in
          let m = g.next in
          let r = g.proc in
          let m2 = after (is_boxed all) m h in
          let r2 = r + procs_in h in
          let done = one d (subst (λ u. Stands exprs u d) here st.3) m r g.emits.notes.next_var g.emits.notes.next_proc in
          let step : Emits (setting all 0) b c y z (places (is_boxed all) m h) m2 r2 (code (setting all f) h m r) =
          record { notes = done.0.notes; puts = λ agrees rest. done.0.puts agrees rest } in
          record {
            others = ds;
            next = m2;
            proc = r2;
            noted = g.noted ++ places (is_boxed all) m h;
            put = λ rest. g.put (code (setting all f) h m r rest);
            stand = subst (λ u. StandAll exprs u ds) rest_is st.4;
            emits =
                emits_then (setting all 0) a b c [] y z g.noted (places (is_boxed all) m h) m r m2 r2 g.put
                (code (setting all f) h m r) g.emits step;
            places =
                g.places
                ∙ (ap (λ u. g.noted ++ all_places (is_boxed all) m (all_told lits u)) e
                ∙ sym (append_assoc g.noted (places (is_boxed all) m h) (all_places (is_boxed all) m2 hs)));
            after = g.after ∙ ap (λ u. all_after (is_boxed all) m (all_told lits u)) e;
            code =
                g.code
                ∙ (ap (λ u. g.put (form_code all f m r (all_told lits u))) e
                ∙ ap (λ u. g.put (code (setting all f) h m r (form_code all u m2 r2 hs))) (sym next));
          }

  pub running_ends : (b : Namer) (y : List Step) (f : ℕ) (left : List ℕ) → Running exprs lits all a b y f left → left ≡ []
      → a.vars.entries ≡ []
      → (b.vars.entries ≡ all_places (is_boxed all) 0 all) × (b.next_var ≡ all_after (is_boxed all) 0 all)
      × (Agrees b (setting all 0) → linked y (Ends None) ≡ form_code all 0 0 1 all)
  running_ends b y f left g is empty = by g.others refl
    where
      by : (t : Trees VarRef) → g.others ≡ t
          → (b.vars.entries ≡ all_places (is_boxed all) 0 all) × (b.next_var ≡ all_after (is_boxed all) 0 all)
          × (Agrees b (setting all 0) → linked y (Ends None) ≡ form_code all 0 0 1 all)
      by (tree.item d ds) e =
          let st = subst (λ u. StandAll exprs left u) e g.stand in
          absurd (cc (st.2, is))
      by tree.none e = (
        g.emits.notes.entries
            ∙ (ap (λ u. u ++ g.noted) empty
            ∙ sym (g.places ∙ (ap (λ u. g.noted ++ all_places (is_boxed all) g.next (all_told lits u)) e ∙ append-nil g.noted))),
        g.emits.notes.next_var ∙ sym (g.after ∙ ap (λ u. all_after (is_boxed all) g.next (all_told lits u)) e),
        λ agrees.
            g.emits.puts agrees (Ends None)
            ∙ sym (g.code ∙ ap (λ u. g.put (form_code all f g.next g.proc (all_told lits u))) e),
      )

-- the program, from the steps of its forms
pub make_program : (forms : Exprs) (b : Namer) (y : List Step) (params : List ℕ) (block : Block)
    → (b.vars.entries ≡ all_places (is_boxed forms) 0 forms) × (b.next_var ≡ all_after (is_boxed forms) 0 forms)
    × (Agrees b (setting forms 0) → linked y (Ends None) ≡ form_code forms 0 0 1 forms) → params ≡ []
    → (out-Block block).steps ≡ y → (out-Block block).value ≡ None
    → (b.vars.entries ≡ all_places (is_boxed forms) 0 forms) × (b.next_var ≡ all_after (is_boxed forms) 0 forms)
    × (Agrees b (setting forms 0)
    → procedure (record { params = params; rest = None; body = block; pos = record { line = 0; col = 0 } })
    ≡ record { params = []; rest = None; body = form_code forms 0 0 1 forms; pos = record { line = 0; col = 0 } })
make_program forms b y params block named empty same is = (
  named.0,
  named.1,
  λ agrees.
      λ i.
      record {
        params = empty i;
        rest = None;
        body = (block_is block y None same is ∙ named.2 agrees) i;
        pos = record { line = 0; col = 0 };
      },
)

map_push : (ps : List Proc) (p : Proc) → map procedure (ps ++ p ∷ []) ≡ map procedure ps ++ procedure p ∷ []
map_push [] p = refl
map_push (q ∷ ps) p = ap (λ u. procedure q ∷ u) (map_push ps p)

-- Procedures: those that are left, from procedure p on, are made next.
pub record Making (core : Program VarRef) (all : Exprs) (a b : Namer) (before now : List Proc) (ls : List (ℕ × Expr)) (n p : ℕ) (left : List Origin) : Type 0 where
  pub others : List (ℕ × Expr)
  pub noted : List (ℕ × ℕ)
  pub made : List Written
  pub placed : ArePlaced core left others
  pub entries : b.vars.entries ≡ a.vars.entries ++ noted
  pub places : lambdas_places (is_boxed all) n ls ≡ noted ++ lambdas_places (is_boxed all) b.next_var others
  pub procs : Agrees b (setting all 0) → map procedure now ≡ map procedure before ++ made
  pub written : all_written all n 1 ls ≡ made ++ all_written all b.next_var p others
  pub after : after_lambdas (is_boxed all) n ls ≡ after_lambdas (is_boxed all) b.next_var others
  pub many : suc (length ls) ≡ p + length others

module _ (core : Program VarRef) (all : Exprs) (a : Namer) (before : List Proc) (ls : List (ℕ × Expr)) (n : ℕ) where
  pub making_begins : (origins left : List Origin) → ArePlaced core origins ls → left ≡ origins → a.next_var ≡ n
      → Making core all a a before before ls n 1 left
  making_begins origins left placed is at =
      record {
        others = ls;
        noted = [];
        made = [];
        placed = subst (λ u. ArePlaced core u ls) (sym is) placed;
        entries = sym (append-nil a.vars.entries);
        places = ap (λ u. lambdas_places (is_boxed all) u ls) (sym at);
        procs = λ agrees. sym (append-nil (map procedure before));
        written = ap (λ u. all_written all u 1 ls) (sym at);
        after = ap (λ u. after_lambdas (is_boxed all) u ls) (sym at);
        many = omega arith;
      }

  -- b is the naming before the next procedure's number was set, and b1 that after
  pub making_on : (b b1 c : Namer) (now then : List Proc) (p p' : ℕ) (o : Origin) (left others : List Origin) (proc : Proc)
      → Making core all a b before now ls n p left → left ≡ o ∷ others → p' ≡ suc p → b1.vars ≡ b.vars → b1.next_var ≡ b.next_var
      → b1.next_proc ≡ suc p
      → ((e : Tree VarRef) → Stands core.exprs o.expr e → (m r : ℕ) → NamesProc (setting all o.form) m r b1 c (told core.lits e) proc)
      → then ≡ now ++ proc ∷ [] → Making core all a c before then ls n p' others
  making_on b b1 c now then p p' o left others proc g is next vars at proc_at one pushed = by g.others refl
    where
      by : (t : List (ℕ × Expr)) → g.others ≡ t → Making core all a c before then ls n p' others
      by [] e = absurd (subst (λ u. ArePlaced core u []) is (subst (λ u. ArePlaced core left u) e g.placed))
      by (l ∷ ms) e =
          let st = subst (λ u. ArePlaced core u (l ∷ ms)) is (subst (λ u. ArePlaced core left u) e g.placed) in
          let m = b.next_var in
          let done =
          subst (λ f. NamesProc (setting all f) m p b1 c l.1 proc) st.0
          (subst (λ x. NamesProc (setting all o.form) m p b1 c x proc) st.3 (one st.1 st.2 m p)) at proc_at in
          let noted = lambda_places (is_boxed all) m l.1 in
          let many : suc (length ls) ≡ p + suc (length ms) = g.many ∙ ap (λ u. p + length u) e in
          record {
            others = ms;
            noted = g.noted ++ noted;
            made = g.made ++ written (setting all l.0) m p l.1 ∷ [];
            placed = st.4;
            entries =
                done.0
                ∙ (ap (λ u. u.entries ++ noted) vars
                ∙ (ap (λ u. u ++ noted) g.entries ∙ append_assoc a.vars.entries g.noted noted));
            places =
                g.places
                ∙ (ap (λ u. g.noted ++ lambdas_places (is_boxed all) m u) e
                ∙ (ap (λ u. g.noted ++ (noted ++ lambdas_places (is_boxed all) u ms)) (sym done.1)
                ∙ sym (append_assoc g.noted noted (lambdas_places (is_boxed all) c.next_var ms))));
            procs =
                λ agrees.
                ap (map procedure) pushed
                ∙ (map_push now proc
                ∙ (ap (λ u. u ++ procedure proc ∷ []) (g.procs (back agrees noted done.0))
                ∙ (append_assoc (map procedure before) g.made (procedure proc ∷ [])
                ∙ ap (λ u. map procedure before ++ (g.made ++ u ∷ [])) (done.2 agrees))));
            written =
                g.written
                ∙ (ap (λ u. g.made ++ all_written all m p u) e
                ∙ (ap (λ u. g.made ++ (written (setting all l.0) m p l.1 ∷ all_written all u (suc p) ms)) (sym done.1)
                ∙ (ap (λ u. g.made ++ (written (setting all l.0) m p l.1 ∷ all_written all c.next_var u ms)) (sym next)
                ∙ sym (append_assoc g.made (written (setting all l.0) m p l.1 ∷ []) (all_written all c.next_var p' ms)))));
            after =
                g.after
                ∙ (ap (λ u. after_lambdas (is_boxed all) m u) e ∙ ap (λ u. after_lambdas (is_boxed all) u ms) (sym done.1));
            many = omega (arith, many, next);
          }
        where
          back : Agrees c (setting all 0) → (P : List (ℕ × ℕ)) → c.vars.entries ≡ b1.vars.entries ++ P → Agrees b (setting all 0)
          back agrees P h = earlier (setting all 0) b c P (h ∙ ap (λ u. u.entries ++ P) vars) agrees

  pub making_ends : (b : Namer) (now : List Proc) (p : ℕ) (left : List Origin) → Making core all a b before now ls n p left → left ≡ []
      → (b.vars.entries ≡ a.vars.entries ++ lambdas_places (is_boxed all) n ls)
      × (Agrees b (setting all 0) → map procedure now ≡ map procedure before ++ all_written all n 1 ls)
  making_ends b now p left g is = by g.others refl
    where
      by : (t : List (ℕ × Expr)) → g.others ≡ t
          → (b.vars.entries ≡ a.vars.entries ++ lambdas_places (is_boxed all) n ls)
          × (Agrees b (setting all 0) → map procedure now ≡ map procedure before ++ all_written all n 1 ls)
      by (l ∷ ms) e =
          absurd (subst (λ u. ArePlaced core u (l ∷ ms)) is (subst (λ u. ArePlaced core left u) e g.placed))
      by [] e = (
        g.entries
            ∙ ap (λ u. a.vars.entries ++ u)
            (sym (g.places ∙ (ap (λ u. g.noted ++ lambdas_places (is_boxed all) b.next_var u) e ∙ append-nil g.noted))),
        λ agrees.
            g.procs agrees
            ∙ ap (λ u. map procedure before ++ u)
            (sym (g.written ∙ (ap (λ u. g.made ++ all_written all b.next_var p u) e ∙ append-nil g.made))),
      )

  -- at the end the next variable is the one after all, and so is the next procedure
  pub making_fits : (b : Namer) (now : List Proc) (p : ℕ) (left : List Origin) → Making core all a b before now ls n p left → left ≡ []
      → p < 2 ^ 32 → b.next_var < 2 ^ 32 → NumbersFit all n ls
  making_fits b now p left g is fits var_fits = by g.others refl
    where
      by : (t : List (ℕ × Expr)) → g.others ≡ t → NumbersFit all n ls
      by (l ∷ ms) e =
          absurd (subst (λ u. ArePlaced core u (l ∷ ms)) is (subst (λ u. ArePlaced core left u) e g.placed))
      by [] e =
          let many : suc (length ls) ≡ p + 0 = g.many ∙ ap (λ u. p + length u) e in
          let after : after_lambdas (is_boxed all) n ls ≡ b.next_var =
          g.after ∙ ap (λ u. after_lambdas (is_boxed all) b.next_var u) e in
          record { procs = omega (arith, many, fits); vars = subst (λ u. u < 2 ^ 32) (sym after) var_fits }
