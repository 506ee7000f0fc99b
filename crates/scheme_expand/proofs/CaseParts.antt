-- The parts of a `case`, and their faults.
use Rattle.std.proofs.Common.{ℕ, ◌≡◌, List, [], ◌∷◌, ◌++◌, Option, Some, None, Bool, true, false, refl, sym, ap, subst, ◌∙◌}
use Rattle.std.specs.Prelude.{not, if◌then◌else◌, codes}
use Rattle.std.proofs.lemmas.List.{append-nil}
use Rattle.scheme_base.specs.declared.pos.Pos.{Pos}
use Rattle.datum_form.specs.declared.token.Atom.{Atom}
use Rattle.datum_form.specs.Data.{Datum, Datum as datum, Items}
use Rattle.datum_form.specs.Data.Items.{none, item}
use Rattle.quasi_expand.specs.Agreement.{Agree}
use Rattle.quasi_expand.specs.Cases.{IsClause, IsCase, clause_of, case_of}
use Rattle.quasi_expand.specs.Shapes.{are_clauses, is_case, is_word}
use Rattle.quasi_expand.specs.declared.case.Case.{Case}
use Rattle.quasi_expand.specs.declared.case.CaseClause.{CaseClause}
use Rattle.scheme_expand.specs.declared.source.Source.{Source}
use Rattle.scheme_expand.specs.declared.expander.Expander.{Expander}
use Rattle.scheme_expand.specs.declared.step.Step.{Step}
use Rattle.scheme_expand.specs.Forms.{Wrong, no_case}
use Rattle.scheme_expand.specs.Forms.{Case as Chosen}
use Rattle.scheme_expand.specs.Grammar.{rule, checked, case_form, case_clause, cases, expr, exprs}
use Rattle.scheme_expand.specs.Faults.{Fault, least, in_exp, in_exps, in_cases}
use Rattle.scheme_expand.specs.Waiting.{earlier, may_be_clauses, IsNamed, Reads, ReadAll, Waits, AllWait, Adds}
use Rattle.scheme_expand.proofs.Adding.{both, due, nothing, one_waits}
use Rattle.scheme_expand.proofs.Bodies.{then_none, all_in}
use Rattle.scheme_expand.proofs.Due.{of, of_all, idle, more_wait}
use Rattle.scheme_expand.proofs.LastClause.{they_are, others_are, last_apart}
use Rattle.scheme_expand.proofs.Least.{least_append}
use Rattle.scheme_expand.proofs.Parts.{no_items, last_of}

-- Clauses

abbrev pub of_cases : Items → Option Fault
of_cases ds = least (in_cases (cases ds))

pub weaker : (d : Datum) → is_case false d ≡ true → is_case true d ≡ true
weaker (datum.Atomic p a) h = absurd (cc)
weaker (datum.Dotted p is d) h = absurd (cc)
weaker (datum.Vector p is) h = absurd (cc)
weaker (datum.List p none) h = absurd (cc)
weaker (datum.List p (item (datum.Atomic q a) ds)) h = absurd (cc)
weaker (datum.List p (item (datum.List q is) ds)) h = h
weaker (datum.List p (item (datum.Dotted q is d) ds)) h = absurd (cc)
weaker (datum.List p (item (datum.Vector q is) ds)) h = absurd (cc)

pub more_cases : (d : Datum) (ds : Items) → is_case false d ≡ true → of_cases (item d ds) ≡ earlier (of_cases (item d none)) (of_cases ds)
more_cases (datum.Atomic p a) ds h = absurd (cc)
more_cases (datum.Dotted p is d) ds h = absurd (cc)
more_cases (datum.Vector p is) ds h = absurd (cc)
more_cases (datum.List p none) ds h = absurd (cc)
more_cases (datum.List p (item (datum.Atomic q a) es)) ds h = absurd (cc)
more_cases (datum.List p (item (datum.List q is) es)) ds h =
    least_append (in_exps (exprs es)) (in_cases (cases ds))
    ∙ ap (λ l. earlier (least l) (of_cases ds)) (sym (append-nil (in_exps (exprs es))))
more_cases (datum.List p (item (datum.Dotted q is d) es)) ds h = absurd (cc)
more_cases (datum.List p (item (datum.Vector q is) es)) ds h = absurd (cc)

-- the expressions of a clause are read
pub record CaseRead (s : Source) (c : CaseClause) (d : Datum) : Type 0 where
  pub items : Items
  pub read : ReadAll s c.exprs.now items
  pub same : of_all items ≡ of_cases (item d none)

word_read : (s : Source) (c : CaseClause) (p q : Pos) (a : Atom) (e : Datum) (es : Items) → IsNamed s → (b : Bool)
    → is_word (codes "else") (datum.Atomic q a) ≡ b
    → Agree (IsClause s.nodes.now) (Some c) (if b then Some (record { given = None; chosen = item e es }) else None)
    → CaseRead s c (datum.List p (item (datum.Atomic q a) (item e es)))
word_read s c p q a e es n true t h = record {
  items = item e es;
  read = record { named = n; stand = h.chosen };
  same = sym (ap (λ b. least (in_cases (case_clause b (datum.Atomic q a) (exprs (item e es)) no_case))) t);
}
word_read s c p q a e es n false t h = absurd h

pub case_read : (s : Source) (c : CaseClause) (d : Datum) → IsNamed s → Agree (IsClause s.nodes.now) (Some c) (clause_of d)
    → CaseRead s c d
case_read s c (datum.Atomic p a) n h = absurd h
case_read s c (datum.Dotted p is d) n h = absurd h
case_read s c (datum.Vector p is) n h = absurd h
case_read s c (datum.List p none) n h = absurd h
case_read s c (datum.List p (item k none)) n h = absurd h
case_read s c (datum.List p (item (datum.Atomic q a) (item e es))) n h = word_read s c p q a e es n (is_word (codes "else") (datum.Atomic q a)) refl h
case_read s c (datum.List p (item (datum.List q is) (item e es))) n h = record {
  items = item e es;
  read = record { named = n; stand = h.chosen };
  same = ap least (sym (append-nil (in_exps (exprs (item e es)))));
}
case_read s c (datum.List p (item (datum.Dotted q is d) (item e es))) n h = absurd h
case_read s c (datum.List p (item (datum.Vector q is) (item e es))) n h = absurd h

-- those before the last clause, and then the expressions of the last
pub cases_due : (a b c d : Expander) (ids others : List ℕ) (id : ℕ) (ds : Items) (clause : CaseClause) → ReadAll a.source ids ds
    → may_be_clauses is_case ds ≡ true → ids ≡ others ++ id ∷ []
    → ((e : Datum) → Reads a.source id e → Agree (IsClause a.source.nodes.now) (Some clause) (clause_of e))
    → ((os : Items) → ReadAll a.source others os → may_be_clauses is_case os ≡ true → Adds a b (of_cases os))
    → Adds b c None → ((es : Items) → ReadAll c.source clause.exprs.now es → Adds c d (of_all es)) → Adds a d (of_cases ds)
cases_due a b c d ids others id ds clause h may e read before test exprs_due =
    let r = last_of a.source ids others id ds e h in
    let P : Items → Type 0 = λ l. may_be_clauses is_case l ≡ true in
    let are = they_are is_case r.others r.datum (subst P r.are may) in
    let i = case_read a.source clause r.datum h.named (read r.datum r.last) in
    let first = then_none a b c (of_cases r.others) (before r.others r.rest (others_are is_case weaker r.others r.datum are)) test in
    due a d (earlier (of_cases r.others) (of_all i.items)) (of_cases ds)
    (ap (earlier (of_cases r.others)) i.same
    ∙ (sym (last_apart is_case of_cases refl more_cases r.others r.datum are) ∙ ap of_cases (sym r.are)))
    (both a c d (of_cases r.others) (of_all i.items) first
    (exprs_due i.items (all_in a.source c.source clause.exprs.now i.items (sym first.source) i.read)))

-- The whole

pub record CaseIs (s : Source) (c : Case) (ds : Items) : Type 0 where
  pub key : Datum
  pub clauses : Items
  pub are : ds ≡ item key clauses
  pub shape : are_clauses is_case clauses ≡ true
  pub read_key : Reads s c.key key
  pub read : ReadAll s c.clauses.now clauses

good_case : (s : Source) (c : Case) (k : Datum) (cs : Items) → IsNamed s → (b : Bool) → are_clauses is_case cs ≡ b
    → Agree (IsCase s.nodes.now) (Some c) (if b then Some (record { key = k; clauses = cs }) else None) → CaseIs s c (item k cs)
good_case s c k cs n true e h = record {
  key = k;
  clauses = cs;
  are = refl;
  shape = e;
  read_key = record { named = n; stands = h.key };
  read = record { named = n; stand = h.clauses };
}
good_case s c k cs n false e h = absurd h

pub case_is : (s : Source) (c : Case) (w : Datum) (ds : Items) → IsNamed s → Agree (IsCase s.nodes.now) (Some c) (case_of (item w ds))
    → CaseIs s c ds
case_is s c w none n h = absurd h
case_is s c w (item k cs) n h = good_case s c k cs n (are_clauses is_case cs) refl h

bad_case : (s : Source) (p : Pos) (k : Datum) (cs : Items) (b : Bool) → are_clauses is_case cs ≡ b
    → Agree (IsCase s.nodes.now) None (if b then Some (record { key = k; clauses = cs }) else None)
    → case_form p (item k cs) ≡ Wrong p 7
bad_case s p k cs true e h = absurd h
bad_case s p k cs false e h = ap (λ b. checked p (rule (not b) 7 ∷ []) (Chosen p (expr k) (cases cs))) e

pub case_not : (s : Source) (p : Pos) (w : Datum) (ds : Items) → Agree (IsCase s.nodes.now) None (case_of (item w ds))
    → case_form p ds ≡ Wrong p 7
case_not s p w none h = refl
case_not s p w (item k cs) h = bad_case s p k cs (are_clauses is_case cs) refl h

pub case_due : (s : Source) (c : Case) (p : Pos) (ds : Items) (i : CaseIs s c ds)
    → earlier (of i.key) (of_cases i.clauses) ≡ least (in_exp (case_form p ds))
case_due s c p ds i =
    sym (least_append (in_exp (expr i.key)) (in_cases (cases i.clauses)))
    ∙ (ap (λ b. least (in_exp (checked p (rule (not b) 7 ∷ []) (Chosen p (expr i.key) (cases i.clauses))))) (sym i.shape)
    ∙ ap (λ l. least (in_exp (case_form p l))) (sym i.are))

-- the steps of a `case`: what binds its key, and its clauses
pub case_waits : (s : Source) (bind leave test clauses : Step) (x y : Option Fault) → Waits s bind None → Waits s test x
    → Waits s leave None → Waits s clauses y → AllWait s (bind ∷ test ∷ leave ∷ clauses ∷ []) (earlier x y)
case_waits s bind leave test clauses x y p q r t =
    idle s bind (test ∷ leave ∷ clauses ∷ []) (earlier x y) p
    (more_wait s test (leave ∷ clauses ∷ []) x y q (idle s leave (clauses ∷ []) y r (one_waits s clauses y t)))

pub shape_may : (ds : Items) → are_clauses is_case ds ≡ true → may_be_clauses is_case ds ≡ true
shape_may none h = refl
shape_may (item d ds) h = h

pub no_cases_due : (a : Expander) (ids : List ℕ) (ds : Items) → ReadAll a.source ids ds → ids ≡ [] → Adds a a (of_cases ds)
no_cases_due a ids ds h e = due a a None (of_cases ds) (ap of_cases (sym (no_items a.source ids ds e h))) (nothing a)
