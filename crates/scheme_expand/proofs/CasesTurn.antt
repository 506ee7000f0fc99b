-- What the clauses of a `case` turn a view to, by the steps that are put for the last one.
use Rattle.std.proofs.Common.{Bor, ℕ, suc, ◌≡◌, List, [], ◌∷◌, ◌++◌, Bool, true, false, not, Option, Some, None, is_none, is_some, refl, sym, ap, subst, ◌∙◌, append-nil}
use Rattle.std.specs.Option.{option_copied}
use Rattle.std.specs.Prelude.{◌&&◌, if◌then◌else◌, codes}
use Rattle.scheme_base.specs.declared.pos.Pos.{Pos}
use Rattle.datum_form.specs.declared.token.Atom.{Atom}
use Rattle.datum_form.specs.Data.{Datum, Datum as datum, Items}
use Rattle.datum_form.specs.Data.Items.{none, item}
use Rattle.datum_form.specs.declared.datums.Node.{Node}
use Rattle.datum_form.specs.Stands.{Stands, StandAll}
use Rattle.draft_form.specs.declared.draft.Variable.TheVariants as variable
use Rattle.draft_form.specs.Drafts.{Draft, Fresh, parts}
use Rattle.quasi_expand.specs.Agreement.{Agree}
use Rattle.quasi_expand.specs.Cases.{IsClause, IsCase, clause_of, case_of}
use Rattle.quasi_expand.specs.Shapes.{are_clauses, is_case, is_word}
use Rattle.quasi_expand.specs.declared.case.Case.{Case as Found}
use Rattle.quasi_expand.specs.declared.case.CaseClause.{CaseClause}
use Rattle.scheme_expand.specs.declared.expander.Expander.{Expander}
use Rattle.scheme_expand.specs.declared.source.Source.{Source}
use Rattle.scheme_expand.specs.declared.step.Step.{Step}
use Rattle.scheme_expand.specs.declared.step.Step.TheVariants as step
use Rattle.scheme_expand.specs.Calls.{two}
use Rattle.scheme_expand.specs.Faults.{in_exp, in_exps, in_cases}
use Rattle.scheme_expand.specs.Forms.{Exp, Exps, Cases, Case, no_case, others, one_of}
use Rattle.scheme_expand.specs.Grammar.{rule, checked, expr, exprs, case_form, case_clause, cases, each_constant}
use Rattle.scheme_expand.specs.Holding.{cases_end, ended, key_tests}
use Rattle.scheme_expand.specs.Making.{makes, sequenced, cases_made, AllCome, AreRight}
use Rattle.scheme_expand.specs.Rewriting.{OfLibrary, is_one_of, core, cases_core}
use Rattle.scheme_expand.specs.Viewed.{IsView, Puts, Leaves, Turns}
use Rattle.scheme_expand.specs.Views.{Context, View, scope_of, height, pushed, visit, seen, bind, leave}
use Rattle.scheme_expand.specs.Waiting.{IsNamed, Reads, ReadAll}
use Rattle.scheme_expand.proofs.CaseParts.{shape_may}
use Rattle.scheme_expand.proofs.Coming.{one_comes, next_comes, view_kept, puts_twice, put_then_turn, leave_then_put, leaves_turn, stays, turns_as}
use Rattle.scheme_expand.proofs.Expanding.{right_parts}
use Rattle.scheme_expand.proofs.LastClause.{and_split, last_is}
use Rattle.scheme_expand.proofs.LastMade.{IsLastCase, all_cases, right_cases, height_sequenced, height_three}
use Rattle.scheme_expand.proofs.MadeClauses.{cases_are, holding, same_level, seen_after}
use Rattle.scheme_expand.proofs.Noting.{alike, leave_visit, standing}
use Rattle.scheme_expand.proofs.Parts.{joined, last_of, no_items}

-- One clause

-- the expressions of a clause, and the steps that its data put behind them
pub record CaseMade (c : Context) (p : Pos) (k : ℕ) (found : CaseClause) (d : Datum) : Type 0 where
  pub items : Items
  pub read : ReadAll c.source found.exprs.now items
  pub right : in_cases (cases (item d none)) ≡ [] → AreRight (exprs items)
  pub come : (v : View) → height v ≡ suc k
      → AllCome c (key_tests p found.data k) (sequenced c p (exprs items) v) (all_cases c p k (item d none) v)
  pub ends : is_none found.data ≡ cases_end (cases (item d none))

tests_come : (c : Context) (p : Pos) (k : ℕ) (given : Option (Bor (List ℕ))) (is : Items) (u : View) → IsNamed c.source
    → Agree (StandAll c.source.nodes.now) (option_copied given) (Some is) → height u ≡ suc k
    → AllCome c (key_tests p given k) u (makes c (step.Branch p) (pushed (is_one_of p (scope_of c u) (Fresh k) (each_constant is)) u))
tests_come c p k None is u n h e = absurd h
tests_come c p k (Some ids) is u n h e =
    let among : View = pushed (is_one_of p (scope_of c u) (Fresh k) (each_constant is)) u in
    next_comes c (step.Branch p) (step.IsAmong p ids k ∷ []) u among (makes c (step.Branch p) among)
    (one_comes c (step.IsAmong p ids k) u among (is, record { named = n; stand = h }, e, refl)) refl

is_there : (nodes : Source) (given : Option (Bor (List ℕ))) (is : Items)
    → Agree (StandAll nodes.nodes.now) (option_copied given) (Some is) → is_none given ≡ false
is_there nodes None is h = absurd h
is_there nodes (Some ids) is h = refl

is_absent : (nodes : Source) (given : Option (Bor (List ℕ))) → Agree (StandAll nodes.nodes.now) (option_copied given) None
    → given ≡ None
is_absent nodes None h = refl
is_absent nodes (Some ids) h = absurd h

else_made : (c : Context) (p : Pos) (k : ℕ) (found : CaseClause) (q r : Pos) (a : Atom) (e : Datum) (es : Items) → IsNamed c.source
    → (b : Bool) → is_word (codes "else") (datum.Atomic r a) ≡ b
    → Agree (IsClause c.source.nodes.now) (Some found) (if b then Some (record { given = None; chosen = item e es }) else None)
    → CaseMade c p k found (datum.List q (item (datum.Atomic r a) (item e es)))
else_made c p k found q r a e es n true t h =
    let xs : Exps = exprs (item e es) in
    let as_case : Bool → Cases = λ b. case_clause b (datum.Atomic r a) xs no_case in
    let absent : found.data ≡ None = is_absent c.source found.data h.given in
    record {
      items = item e es;
      read = record { named = n; stand = h.chosen };
      right = λ none_wrong. sym (ap (λ b. in_cases (as_case b)) t) ∙ none_wrong;
      come =
          λ v at.
          let P : Option (Bor (List ℕ)) → Type 0 = λ o. AllCome c (key_tests p o k) (sequenced c p xs v) (cases_made c p k (as_case (is_word (codes "else") (datum.Atomic r a))) v) in
          subst P (sym absent) (ap (λ b. cases_made c p k (as_case b) v) t);
      ends = ap (λ o. is_none o) absent ∙ ap (λ b. cases_end (as_case b)) (sym t);
    }
else_made c p k found q r a e es n false t h = absurd h

pub case_made : (c : Context) (p : Pos) (k : ℕ) (found : CaseClause) (d : Datum) → IsNamed c.source
    → Agree (IsClause c.source.nodes.now) (Some found) (clause_of d) → CaseMade c p k found d
case_made c p k found (datum.Atomic q a) n h = absurd h
case_made c p k found (datum.Dotted q is d) n h = absurd h
case_made c p k found (datum.Vector q is) n h = absurd h
case_made c p k found (datum.List q none) n h = absurd h
case_made c p k found (datum.List q (item d none)) n h = absurd h
case_made c p k found (datum.List q (item (datum.Atomic r a) (item e es))) n h =
    else_made c p k found q r a e es n (is_word (codes "else") (datum.Atomic r a)) refl h
case_made c p k found (datum.List q (item (datum.List r is) (item e es))) n h = record {
  items = item e es;
  read = record { named = n; stand = h.chosen };
  right = λ none_wrong. sym (append-nil (in_exps (exprs (item e es)))) ∙ none_wrong;
  come =
      λ v at.
      let xs : Exps = exprs (item e es) in
      tests_come c p k found.data is (sequenced c p xs v) n h.given (height_sequenced c p xs v ∙ at);
  ends = is_there c.source found.data is h.given;
}
case_made c p k found (datum.List q (item (datum.Dotted r is d) (item e es))) n h = absurd h
case_made c p k found (datum.List q (item (datum.Vector r is) (item e es))) n h = absurd h

-- All clauses

height_cases : (c : Context) (p : Pos) (k : ℕ) (cs : Cases) (v : View) → height (cases_made c p k cs v) ≡ height v
height_cases c p k no_case v = refl
height_cases c p k (others es) v = height_sequenced c p es v
height_cases c p k (one_of xs es cs) v =
    let u : View = sequenced c p es (cases_made c p k cs v) in
    let among : View = pushed (is_one_of p (scope_of c u) (Fresh k) xs) u in
    height_three among among.made _ ∙ (height_sequenced c p es (cases_made c p k cs v) ∙ height_cases c p k cs v)

pub cases_turn : (c : Context) (a b d e : Expander) (p : Pos) (front : Bor (List ℕ)) (k id : ℕ) (ds : Items) (v : View) (found : CaseClause)
    → IsView c a v → (r : IsLastCase c p k c.source front.now id ds) → CaseMade c p k found r.last → height v ≡ suc k
    → Puts a b (step.Cases p front k ∷ []) → Puts b d (key_tests p found.data k)
    → ((es : Items) → IsView c d v → ReadAll c.source found.exprs.now es → AreRight (exprs es)
    → Turns c d e (sequenced c p (exprs es) v)) → Turns c a e (all_cases c p k ds v)
cases_turn c a b d e p front k id ds v found i r m at first tests sequence =
    let u : View = sequenced c p (exprs m.items) v in
    let w : View = all_cases c p k (item r.last none) v in
    let whole : View = all_cases c p k r.front w in
    let puts = puts_twice a b d (step.Cases p front k ∷ []) (key_tests p found.data k) first tests in
    turns_as c a e whole (all_cases c p k ds v) (sym (r.after v))
    (put_then_turn c a d e (step.Cases p front k ∷ key_tests p found.data k) u whole puts
    (sequence m.items (view_kept c a d v puts.same i) m.read (m.right (right_cases (item r.last none) r.no_last)))
    (next_comes c (step.Cases p front k) (key_tests p found.data k) u w whole (m.come v at)
    (r.front, r.rest, r.may, right_cases r.front r.no_front, height_cases c p k (cases (item r.last none)) v ∙ at, refl)))

-- A whole `case`

good_case : (p : Pos) (key : Datum) (ds : Items) → are_clauses is_case ds ≡ true
    → Case p (expr key) (cases ds) ≡ case_form p (item key ds)
good_case p key ds e = ap (λ b. checked p (rule (not b) 7 ∷ []) (Case p (expr key) (cases ds))) (sym e)

-- the key is bound round what is chosen
bound_made : (c : Context) (p : Pos) (e : Exp) (x : Draft) (v : View)
    → makes c (step.Bind p (variable.Fresh (height v))) (seen c e (leave (height v) (visit c x (bind ([] ∷ []) v))))
    ≡ visit c (holding p (height v) (core e (scope_of c v)) x) v
bound_made c p e x v =
    let t : Draft = core e (scope_of c v) in
    let k : ℕ = height v in
    ap (λ u. makes c (step.Bind p (variable.Fresh k)) (seen c e u)) (leave_visit c ([] ∷ []) x v)
    ∙ (ap (makes c (step.Bind p (variable.Fresh k))) (seen_after c e x v)
    ∙ standing c (two x t) (holding p k t x) v (alike (parts x ++ (parts t ++ [])) (parts x ++ (parts t ++ [])) refl))

whole_case : (c : Context) (p : Pos) (key : Datum) (ds : Items) (v : View) (ends : Bool) → are_clauses is_case ds ≡ true
    → ends ≡ cases_end (cases ds)
    → makes c (step.Bind p (variable.Fresh (height v))) (seen c (expr key) (leave (height v) (all_cases c p (height v) ds (ended p ends (bind ([] ∷ []) v)))))
    ≡ seen c (case_form p (item key ds)) v
whole_case c p key ds v ends e f =
    let w : View = bind ([] ∷ []) v in
    let chosen : ℕ → Draft = λ k. cases_core (cases ds) p (Fresh k) (scope_of c w) in
    let k : ℕ = height v in
    ap (λ b. makes c (step.Bind p (variable.Fresh k)) (seen c (expr key) (leave k (all_cases c p k ds (ended p b w))))) f
    ∙ (ap (λ u. makes c (step.Bind p (variable.Fresh k)) (seen c (expr key) (leave k u))) (cases_are c p k (cases ds) w)
    ∙ (bound_made c p (expr key) (chosen k) v
    ∙ (ap (λ j. visit c (holding p j (core (expr key) (scope_of c v)) (chosen j)) v) (same_level c v)
    ∙ ap (λ x. seen c x v) (good_case p key ds e))))

pub case_turn : (c : Context) (a b d : Expander) (p : Pos) (found : Bor (List ℕ)) (key_id k : ℕ) (key : Datum) (ds : Items) (v : View) (ends : Bool)
    → Reads c.source key_id key → ReadAll c.source found.now ds → are_clauses is_case ds ≡ true
    → in_exp (case_form p (item key ds)) ≡ [] → Leaves c a b (bind ([] ∷ []) v) → k ≡ height v → ends ≡ cases_end (cases ds)
    → (xs : List Step)
    → Puts b d (step.Bind p (variable.Fresh k) ∷ step.Expr key_id ∷ step.Leave k ∷ step.Cases p found k ∷ xs)
    → AllCome c xs (bind ([] ∷ []) v) (ended p ends (bind ([] ∷ []) v))
    → height (ended p ends (bind ([] ∷ []) v)) ≡ suc (height v)
    → Turns c a d (seen c (case_form p (item key ds)) v)
case_turn c a b d p found key_id k key ds v ends read h are right left at so xs put comes high =
    let inner : View = bind ([] ∷ []) v in
    let start : View = ended p ends inner in
    let chosen : View = all_cases c p k ds start in
    let outer : View = leave k chosen in
    let keyed : View = seen c (expr key) outer in
    let whole : View = makes c (step.Bind p (variable.Fresh k)) keyed in
    let rights = right_parts (in_exp (expr key)) (in_cases (cases ds)) (ap in_exp (good_case p key ds are) ∙ right) in
    turns_as c a d whole (seen c (case_form p (item key ds)) v)
    (ap (λ j. makes c (step.Bind p (variable.Fresh j)) (seen c (expr key) (leave j (all_cases c p j ds start)))) at
    ∙ whole_case c p key ds v ends are so)
    (leave_then_put c a b d inner whole
    (step.Bind p (variable.Fresh k) ∷ step.Expr key_id ∷ step.Leave k ∷ step.Cases p found k ∷ xs) left put
    (next_comes c (step.Bind p (variable.Fresh k)) (step.Expr key_id ∷ step.Leave k ∷ step.Cases p found k ∷ xs) inner keyed whole
    (next_comes c (step.Expr key_id) (step.Leave k ∷ step.Cases p found k ∷ xs) inner outer keyed
    (next_comes c (step.Leave k) (step.Cases p found k ∷ xs) inner chosen outer
    (next_comes c (step.Cases p found k) xs inner start chosen comes
    (ds, h, shape_may ds are, rights.1, high ∙ ap suc (sym at), refl))
    refl)
    (key, read, rights.0, refl))
    refl))

-- Whether clauses end with `else`

inner_end : (d : Datum) (ds : Items) → is_case false d ≡ true → cases_end (cases (item d ds)) ≡ cases_end (cases ds)
inner_end (datum.Atomic q a) ds h = absurd (cc)
inner_end (datum.Dotted q is d) ds h = absurd (cc)
inner_end (datum.Vector q is) ds h = absurd (cc)
inner_end (datum.List q none) ds h = absurd (cc)
inner_end (datum.List q (item (datum.Atomic r a) es)) ds h = absurd (cc)
inner_end (datum.List q (item (datum.List r is) es)) ds h = refl
inner_end (datum.List q (item (datum.Dotted r is d) es)) ds h = absurd (cc)
inner_end (datum.List q (item (datum.Vector r is) es)) ds h = absurd (cc)

last_end : (os : Items) (d : Datum) → are_clauses is_case (joined os (item d none)) ≡ true
    → cases_end (cases (joined os (item d none))) ≡ cases_end (cases (item d none))
last_end none d h = refl
last_end (item b none) d h = inner_end b (item d none) (and_split (is_case false b) (is_case true d) h).0
last_end (item b (item e os)) d h =
    let t = and_split (is_case false b) (are_clauses is_case (joined (item e os) (item d none))) h in
    inner_end b (joined (item e os) (item d none)) t.0 ∙ last_end (item e os) d t.1

-- the last clause is found
pub found_end : (s : Source) (all ids : List ℕ) (id : ℕ) (ds : Items) (found : CaseClause) → ReadAll s all ds
    → are_clauses is_case ds ≡ true → all ≡ ids ++ id ∷ []
    → ((d : Datum) → Stands s.nodes.now id d → Agree (IsClause s.nodes.now) (Some found) (clause_of d))
    → is_none found.data ≡ cases_end (cases ds)
found_end s all ids id ds found h are e read =
    let r = last_of s all ids id ds e h in
    let P : Items → Type 0 = λ l. are_clauses is_case l ≡ true in
    let c : Context = record { source = s; names = []; side = OfLibrary } in
    let m = case_made c (record { line = 0; col = 0 }) 0 found r.datum h.named (read r.datum r.last.stands) in
    m.ends ∙ (sym (last_end r.others r.datum (subst P r.are are)) ∙ ap (λ l. cases_end (cases l)) (sym r.are))

pub no_case_turns : (c : Context) (a : Expander) (p : Pos) (k : ℕ) (ids : List ℕ) (ds : Items) (v : View) → IsView c a v
    → ReadAll c.source ids ds → ids ≡ [] → Turns c a a (all_cases c p k ds v)
no_case_turns c a p k ids ds v i h e =
    turns_as c a a v (all_cases c p k ds v) (ap (λ l. all_cases c p k l v) (sym (no_items c.source ids ds e h)))
    (leaves_turn c a a v (stays c a v i))

-- What is read in one text is read in the same

pub clause_in : (s t : Source) (id : ℕ) (found : CaseClause) → s ≡ t
    → ((d : Datum) → Stands s.nodes.now id d → Agree (IsClause s.nodes.now) (Some found) (clause_of d))
    → (d : Datum) → Stands t.nodes.now id d → Agree (IsClause t.nodes.now) (Some found) (clause_of d)
clause_in s t id found e =
    let P : Source → Type 0 = λ u. (d : Datum) → Stands u.nodes.now id d → Agree (IsClause u.nodes.now) (Some found) (clause_of d) in
    subst P e

pub case_in : (s t : Source) (ids : List ℕ) (found : Option Found) → s ≡ t
    → ((ds : Items) → StandAll s.nodes.now ids ds → Agree (IsCase s.nodes.now) found (case_of ds))
    → (ds : Items) → StandAll t.nodes.now ids ds → Agree (IsCase t.nodes.now) found (case_of ds)
case_in s t ids found e =
    let P : Source → Type 0 = λ u. (ds : Items) → StandAll u.nodes.now ids ds → Agree (IsCase u.nodes.now) found (case_of ds) in
    subst P e

-- a clause in its shape is found
no_found : (nodes : List Node) (d : Datum) → is_case true d ≡ true → Agree (IsClause nodes) None (clause_of d) → ⊥
no_found nodes (datum.Atomic p a) h k = cc
no_found nodes (datum.Dotted p is d) h k = cc
no_found nodes (datum.Vector p is) h k = cc
no_found nodes (datum.List p none) h k = cc
no_found nodes (datum.List p (item (datum.Atomic q a) none)) h k = by_word (is_word (codes "else") (datum.Atomic q a)) h
  where
    by_word : (b : Bool) → (b && false) ≡ true → ⊥
    by_word true e = cc
    by_word false e = cc
no_found nodes (datum.List p (item (datum.Atomic q a) (item e es))) h k =
    by_word (is_word (codes "else") (datum.Atomic q a)) h k
  where
    by_word : (b : Bool) → (b && true) ≡ true
        → Agree (IsClause nodes) None (if b then Some (record { given = None; chosen = item e es }) else None) → ⊥
    by_word true i l = l
    by_word false i l = cc
no_found nodes (datum.List p (item (datum.List q is) none)) h k = cc
no_found nodes (datum.List p (item (datum.List q is) (item e es))) h k = k
no_found nodes (datum.List p (item (datum.Dotted q is d) es)) h k = cc
no_found nodes (datum.List p (item (datum.Vector q is) es)) h k = cc

pub no_last_found : (s : Source) (all ids : List ℕ) (id : ℕ) (ds : Items) → ReadAll s all ds → are_clauses is_case ds ≡ true
    → all ≡ ids ++ id ∷ [] → ((d : Datum) → Stands s.nodes.now id d → Agree (IsClause s.nodes.now) None (clause_of d)) → ⊥
no_last_found s all ids id ds h are e read =
    let r = last_of s all ids id ds e h in
    let P : Items → Type 0 = λ l. are_clauses is_case l ≡ true in
    no_found s.nodes.now r.datum (last_is is_case r.others r.datum (subst P r.are are)) (read r.datum r.last.stands)

pub no_case_left : (s : Source) (ids : List ℕ) (ds : Items) → ReadAll s ids ds → ids ≡ [] → are_clauses is_case ds ≡ true → ⊥
no_case_left s ids ds h e are =
    let none_left : are_clauses is_case ds ≡ false = ap (are_clauses is_case) (no_items s ids ds e h) in cc

pub none_told : {A : Type 0} (o : Option A) (b : Bool) → is_some o ≡ not b → b ≡ is_none o
none_told None true e = refl
none_told None false e = absurd (cc)
none_told (Some a) true e = absurd (cc)
none_told (Some a) false e = refl
