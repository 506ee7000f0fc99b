-- What the clauses of a `cond` and of a `case` turn a view to, by the steps that are put for the last one.
use Rattle.std.proofs.Common.{Bor, ℕ, ◌≡◌, ◌-◌, List, [], ◌∷◌, ◌++◌, Bool, true, not, Some, refl, sym, ap, subst, ◌∙◌, append-nil}
use Rattle.scheme_base.specs.declared.pos.Pos.{Pos}
use Rattle.datum_form.specs.Data.{Datum, Items}
use Rattle.datum_form.specs.Data.Items.{none, item}
use Rattle.draft_form.specs.declared.draft.Variable.TheVariants as variable
use Rattle.draft_form.specs.Drafts.{Fresh, Ref, parts}
use Rattle.quasi_expand.specs.Shapes.{are_clauses}
use Rattle.scheme_expand.specs.declared.clause.Clause.{Clause}
use Rattle.scheme_expand.specs.declared.clause.Clause.TheVariants as which
use Rattle.scheme_expand.specs.declared.expander.Expander.{Expander}
use Rattle.scheme_expand.specs.declared.source.Source.{Source}
use Rattle.scheme_expand.specs.declared.step.Step.{Step}
use Rattle.scheme_expand.specs.declared.step.Step.TheVariants as step
use Rattle.scheme_expand.specs.Calls.{one}
use Rattle.scheme_expand.specs.Faults.{fault, in_exp, in_exps, in_clauses}
use Rattle.scheme_expand.specs.Forms.{Exp, Exps, Wrong, Cond, no_clause}
use Rattle.scheme_expand.specs.Grammar.{rule, checked, expr, exprs, is_clause, clauses, clause_before}
use Rattle.scheme_expand.specs.Holding.{held_values, clauses_end, ended}
use Rattle.scheme_expand.specs.Making.{makes, sequenced, received, clauses_made, AllCome, ComesTo, AreRight}
use Rattle.scheme_expand.specs.Rewriting.{call, core, unnamed}
use Rattle.scheme_expand.specs.Shapes.{IsClause, IsFound, cond_form}
use Rattle.scheme_expand.specs.Viewed.{IsView, Puts, Leaves, Turns}
use Rattle.scheme_expand.specs.Views.{Context, View, scope_of, height, pushed, visit_all, seen, bind, leave, below}
use Rattle.scheme_expand.specs.Waiting.{Reads, ReadAll}
use Rattle.scheme_expand.proofs.Coming.{one_comes, next_comes, view_kept, put_then_turn, leave_then_put, leaves_turn, stays, turns_as}
use Rattle.scheme_expand.proofs.CondParts.{may_be}
use Rattle.scheme_expand.proofs.Expanding.{right_parts}
use Rattle.scheme_expand.proofs.LastMade.{IsLastClause, all_clauses, right_clauses, height_sequenced, height_seen, height_two, height_three, height_left, below_is}
use Rattle.scheme_expand.proofs.MadeClauses.{clauses_are}
use Rattle.scheme_expand.proofs.Noting.{alike_referred, noting_alike, noting_none, length-raised}
use Rattle.scheme_expand.proofs.Parts.{no_items, read_in}

-- What is read in one text is read in the same

pub clause_found : (s t : Source) (x y : Clause) (id : ℕ) (d : Datum) → s ≡ t → x ≡ y
    → ((e : Datum) → Reads s id e → IsFound s (Some x) e) → Reads t id d → IsClause t y d
clause_found s t x y id d e f found h =
    let P : Source → Type 0 = λ u. IsClause u y d in
    let Q : Clause → Type 0 = λ z. IsClause s z d in
    subst P e (subst Q f (found d (read_in t s id d (sym e) h)).1)

-- Clauses of a `cond`

module _ (c : Context) (a b : Expander) (p : Pos) (front : Bor (List ℕ)) (id : ℕ) (ds : Items) (v : View) (i : IsView c a v)
    (r : IsLastClause c p c.source front.now id ds) where
  -- the clauses before the last come to what they make
  front_comes : (k : ℕ) (xs : List Step) (u w : View) → AllCome c xs u w → k ≡ height w
      → AllCome c (step.Clauses p front k ∷ xs) u (all_clauses c p r.front w)
  front_comes k xs u w h e =
      next_comes c (step.Clauses p front k) xs u w (all_clauses c p r.front w) h
      (r.front, r.rest, r.may, right_clauses r.front r.no_front, e, refl)

  last_right : in_clauses (clause_before r.last no_clause) ≡ []
  last_right = right_clauses (item r.last none) r.no_last

  pub else_turn : (d : Expander) (k : ℕ) (ids : Bor (List ℕ)) → k ≡ height v → IsClause c.source (which.Else ids) r.last
      → Puts a b (step.Clauses p front k ∷ [])
      → ((es : Items) → IsView c b v → ReadAll c.source ids.now es → AreRight (exprs es)
      → Turns c b d (sequenced c p (exprs es) v)) → Turns c a d (all_clauses c p ds v)
  else_turn d k ids e is put sequence =
      let u : View = sequenced c p (exprs is.1) v in
      let right : AreRight (exprs is.1) = sym (ap in_clauses (is.3 no_clause)) ∙ last_right in
      turns_as c a d (all_clauses c p r.front u) (all_clauses c p ds v)
      (ap (all_clauses c p r.front) (ap (λ x. clauses_made c p x v) (sym (is.3 no_clause))) ∙ sym (r.after v))
      (put_then_turn c a b d (step.Clauses p front k ∷ []) u (all_clauses c p r.front u) put
      (sequence is.1 (view_kept c a b v put.same i) is.2 right)
      (front_comes k [] u u refl (e ∙ sym (height_sequenced c p (exprs is.1) v))))

  pub then_turn : (d : Expander) (k test : ℕ) (ids : Bor (List ℕ)) → k ≡ height v → IsClause c.source (which.Then test ids) r.last
      → Puts a b (step.Clauses p front k ∷ step.Branch p ∷ step.Expr test ∷ [])
      → ((es : Items) → IsView c b v → ReadAll c.source ids.now es → AreRight (exprs es)
      → Turns c b d (sequenced c p (exprs es) v)) → Turns c a d (all_clauses c p ds v)
  then_turn d k test ids e is put sequence =
      let t : Exp = expr is.1 in
      let es : Exps = exprs is.2 in
      let u : View = sequenced c p es v in
      let tested : View = seen c t u in
      let w : View = makes c (step.Branch p) tested in
      let right = right_parts (in_exp t) (in_exps es ++ []) (sym (ap in_clauses (is.5 no_clause)) ∙ last_right) in
      turns_as c a d (all_clauses c p r.front w) (all_clauses c p ds v)
      (ap (all_clauses c p r.front) (ap (λ x. clauses_made c p x v) (sym (is.5 no_clause))) ∙ sym (r.after v))
      (put_then_turn c a b d (step.Clauses p front k ∷ step.Branch p ∷ step.Expr test ∷ []) u (all_clauses c p r.front w) put
      (sequence is.2 (view_kept c a b v put.same i) is.4 (sym (append-nil (in_exps es)) ∙ right.1))
      (front_comes k (step.Branch p ∷ step.Expr test ∷ []) u w
      (next_comes c (step.Branch p) (step.Expr test ∷ []) u tested w
      (one_comes c (step.Expr test) u tested (is.1, is.3, right.0, refl)) refl)
      (e ∙ (sym (height_sequenced c p es v) ∙ (sym (height_seen c t u) ∙ sym (height_three tested tested.made _))))))

  pub test_turn : (d : Expander) (k test : ℕ) → k ≡ below (height v) → IsClause c.source (which.Test test) r.last
      → Leaves c a b (leave k v) → Puts b d (step.Clauses p front k ∷ step.Either p k ∷ step.Expr test ∷ [])
      → Turns c a d (all_clauses c p ds v)
  test_turn d k test e is left put =
      let t : Exp = expr is.1 in
      let u : View = leave k v in
      let tested : View = seen c t u in
      let w : View = makes c (step.Either p k) tested in
      let right = right_parts (in_exp t) [] (sym (ap in_clauses (is.3 no_clause)) ∙ last_right) in
      turns_as c a d (all_clauses c p r.front w) (all_clauses c p ds v)
      (ap (all_clauses c p r.front)
      (ap (λ j. makes c (step.Either p j) (seen c t (leave j v))) e ∙ ap (λ x. clauses_made c p x v) (sym (is.3 no_clause)))
      ∙ sym (r.after v))
      (leave_then_put c a b d u (all_clauses c p r.front w) (step.Clauses p front k ∷ step.Either p k ∷ step.Expr test ∷ []) left put
      (front_comes k (step.Either p k ∷ step.Expr test ∷ []) u w
      (next_comes c (step.Either p k) (step.Expr test ∷ []) u tested w
      (one_comes c (step.Expr test) u tested (is.1, is.2, right.0, refl)) refl)
      (sym (height_two tested tested.made _ ∙ (height_seen c t u ∙ height_left k v (e ∙ below_is (height v)))))))

  pub receive_turn : (d : Expander) (k test receiver : ℕ) → k ≡ below (height v)
      → IsClause c.source (which.Receiver test receiver) r.last
      → Puts a b (step.Clauses p front k ∷ step.Receive p k ∷ step.Expr test ∷ step.Leave k ∷ [])
      → ((e : Datum) → IsView c b v → Reads c.source receiver e → in_exp (expr e) ≡ [] → Turns c b d (received c p (expr e) k v))
      → Turns c a d (all_clauses c p ds v)
  receive_turn d k test receiver e is put called =
      let t : Exp = expr is.1 in
      let f : Exp = expr is.2 in
      let u : View = received c p f k v in
      let outer : View = leave k u in
      let tested : View = seen c t outer in
      let w : View = makes c (step.Receive p k) tested in
      let same : height u ≡ height v =
      length-raised (parts (call p (scope_of c v) f (core f (scope_of c v)) (one (Ref p (Fresh k))))) v.bound in
      let right = right_parts (in_exp t) (in_exp f ++ []) (sym (ap in_clauses (is.5 no_clause)) ∙ last_right) in
      turns_as c a d (all_clauses c p r.front w) (all_clauses c p ds v)
      (ap (all_clauses c p r.front)
      (ap (λ j. makes c (step.Receive p j) (seen c t (leave j (received c p f j v)))) e
      ∙ ap (λ x. clauses_made c p x v) (sym (is.5 no_clause)))
      ∙ sym (r.after v))
      (put_then_turn c a b d (step.Clauses p front k ∷ step.Receive p k ∷ step.Expr test ∷ step.Leave k ∷ []) u
      (all_clauses c p r.front w) put
      (called is.2 (view_kept c a b v put.same i) is.4 (sym (append-nil (in_exp f)) ∙ right.1))
      (front_comes k (step.Receive p k ∷ step.Expr test ∷ step.Leave k ∷ []) u w
      (next_comes c (step.Receive p k) (step.Expr test ∷ step.Leave k ∷ []) u tested w
      (next_comes c (step.Expr test) (step.Leave k ∷ []) u outer tested (one_comes c (step.Leave k) u outer refl)
      (is.1, is.3, right.0, refl))
      refl)
      (sym (height_three tested tested.made _
      ∙ (height_seen c t outer ∙ height_left k u (e ∙ (below_is (height v) ∙ ap (λ n. n - 1) (sym same))))))))

-- the step that refers to the value of a test
pub reference_come : (c : Context) (p : Pos) (k : ℕ) (u : View)
    → ComesTo c (step.Reference p (variable.Fresh k)) u (visit_all c (one (Ref p (Fresh k))) u)
reference_come c p k u =
    ap (pushed (Ref p (Fresh k)))
    (noting_alike c (parts (Ref p (Fresh k))) [] u (alike_referred (Fresh k) []) ∙ noting_none c u)

-- A whole `cond`

good_cond : (p : Pos) (ds : Items) → are_clauses is_clause ds ≡ true → Cond p (clauses ds) ≡ cond_form p ds
good_cond p ds e = ap (λ b. checked p (rule (not b) 6 ∷ []) (Cond p (clauses ds))) (sym e)

-- the clauses of a good form have no fault
right_cond : (p : Pos) (ds : Items) → are_clauses is_clause ds ≡ true → in_exp (cond_form p ds) ≡ [] → in_clauses (clauses ds) ≡ []
right_cond p ds e h = ap in_exp (good_cond p ds e) ∙ h

abbrev pub among : Items → View → View
among ds v = bind (unnamed (held_values (clauses ds))) v

whole_made : (c : Context) (p : Pos) (ds : Items) (v : View) (ends : Bool) → are_clauses is_clause ds ≡ true
    → ends ≡ clauses_end (clauses ds) → all_clauses c p ds (ended p ends (among ds v)) ≡ seen c (cond_form p ds) v
whole_made c p ds v ends e f =
    ap (λ b. all_clauses c p ds (ended p b (among ds v))) f
    ∙ (clauses_are c p (clauses ds) v ∙ ap (λ x. seen c x v) (good_cond p ds e))

pub cond_turn : (c : Context) (a b d : Expander) (p : Pos) (ids : Bor (List ℕ)) (k : ℕ) (ds : Items) (v : View) (ends : Bool)
    → ReadAll c.source ids.now ds → are_clauses is_clause ds ≡ true → in_exp (cond_form p ds) ≡ [] → Leaves c a b (among ds v)
    → k ≡ height (among ds v) → ends ≡ clauses_end (clauses ds) → (xs : List Step) → Puts b d (step.Clauses p ids k ∷ xs)
    → AllCome c xs (among ds v) (ended p ends (among ds v)) → height (ended p ends (among ds v)) ≡ height (among ds v)
    → Turns c a d (seen c (cond_form p ds) v)
cond_turn c a b d p ids k ds v ends h are right left at so xs put comes same =
    let u : View = among ds v in
    let w : View = ended p ends u in
    turns_as c a d (all_clauses c p ds w) (seen c (cond_form p ds) v) (whole_made c p ds v ends are so)
    (leave_then_put c a b d u (all_clauses c p ds w) (step.Clauses p ids k ∷ xs) left put
    (next_comes c (step.Clauses p ids k) xs u w (all_clauses c p ds w) comes
    (ds, h, may_be ds are, right_cond p ds are right, at ∙ sym same, refl)))

-- Nothing to be done

-- a form that breaks a rule is not right
pub wrong_right : (p : Pos) (n : ℕ) (e : Exp) → e ≡ Wrong p n → in_exp e ≡ [] → ⊥
wrong_right p n e is right = let one_fault : fault p n ∷ [] ≡ [] = sym (ap in_exp is) ∙ right in cc

pub no_clause_turns : (c : Context) (a : Expander) (p : Pos) (ids : List ℕ) (ds : Items) (v : View) → IsView c a v
    → ReadAll c.source ids ds → ids ≡ [] → Turns c a a (all_clauses c p ds v)
no_clause_turns c a p ids ds v i h e =
    turns_as c a a v (all_clauses c p ds v) (ap (λ l. all_clauses c p l v) (sym (no_items c.source ids ds e h)))
    (leaves_turn c a a v (stays c a v i))
