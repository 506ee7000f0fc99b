-- The form from which on a variable is sure, and when it is sure.
use Rattle.std.proofs.Common.{◌≡◌, ℕ, zero, suc, ◌+◌, List, [], ◌∷◌, ◌≤◌, ◌<◌, nat_lt, cond, Option, None, Some, is_some, Bool, true, false, not, ◌&&◌, ◌||◌, if◌then◌else◌, refl, sym, ap, subst, ◌∙◌, arith}
use Rattle.std.proofs.lemmas.Bool.{lt-ltb, le-ltb}
use Rattle.core_form.specs.declared.program.Var.{Var}
use Rattle.core_form.specs.declared.program.VarRef.{VarRef}
use Rattle.core_form.specs.declared.program.Program.{Program}
use Rattle.core_form.specs.Trees.{Tree, Trees, Stands, StandAll}
use Rattle.core_form.specs.Trees as tree
use Rattle.alpha_core.specs.declared.name.Name.{Name}
use Rattle.alpha_core.specs.Names.{var_of}
use Rattle.box_name.specs.Told.{Expr, Exprs, none, item, told, all_told}
use Rattle.box_name.specs.Whole.{defines, is_plain_definition, leads_to, is_sure}
use Rattle.box_name.specs.Sureness.{before, or_since}

-- the number after the last form so far that is no plain definition
abbrev pub since_after : (next since : ℕ) → Expr → ℕ
since_after next since d = if is_plain_definition d then since else suc next

abbrev pub if_defined : Bool → ℕ → Option ℕ → Option ℕ
if_defined true since o = Some since
if_defined false since o = o

-- the form from which on a variable is sure, where the forms from `next` on are these
abbrev pub first : (next since : ℕ) → Exprs → Var → Option ℕ
first next since none x = None
first next since (item d ds) x =
    if_defined (defines d x) (since_after next since d) (first (suc next) (since_after next since d) ds x)

below : (a b : ℕ) → a < b → nat_lt a b ≡ true
below a b h = lt-ltb a b h

not_below : (a b : ℕ) → b ≤ a → nat_lt a b ≡ false
not_below a b h = le-ltb a b h

-- past a form that is no plain definition, no earlier one leads to a later definition
late : (f i since : ℕ) (ds : Exprs) (x : Var) → f < since → f ≤ i → before (first i since ds x) f ≡ true
late f i since none x h k = refl
late f i since (item d ds) x h k =
    by (λ m g. late f (suc i) m ds x g (omega (arith, k))) (is_plain_definition d) (defines d x)
  where
    by : ((m : ℕ) → f < m → before (first (suc i) m ds x) f ≡ true) → (t u : Bool)
        → before (if_defined u (if t then since else suc i) (first (suc i) (if t then since else suc i) ds x)) f ≡ true
    by more true true = below f since h
    by more false true = below f (suc i) (omega (arith, k))
    by more true false = more since h
    by more false false = more (suc i) (omega (arith, k))

leads : (f i since : ℕ) (ds : Exprs) (x : Var) → since ≤ f → f ≤ i → before (first i since ds x) f ≡ not (leads_to ds x)
leads f i since none x h k = refl
leads f i since (item d ds) x h k =
    by (leads f (suc i) since ds x h (omega (arith, k))) (is_plain_definition d) (defines d x)
  where
    by : before (first (suc i) since ds x) f ≡ not (leads_to ds x) → (t u : Bool)
        → before (if_defined u (if t then since else suc i) (first (suc i) (if t then since else suc i) ds x)) f ≡ not (t && (u || leads_to ds x))
    by more true true = not_below f since h
    by more false true = below f (suc i) (omega (arith, k))
    by more true false = more
    by more false false = late f (suc i) (suc i) ds x (omega (arith, k)) (omega (arith, k))

pub sure_is : (k i since : ℕ) (ds : Exprs) (x : Var) → since ≤ i → before (first i since ds x) (i + k) ≡ not (is_sure ds k x)
sure_is zero i since ds x h =
    subst (λ f. before (first i since ds x) f ≡ not (leads_to ds x)) (none_more i) (leads i i since ds x h (omega arith))
  where
    none_more : (i : ℕ) → i ≡ i + 0
    none_more i = omega arith
sure_is (suc k) i since none x h = refl
sure_is (suc k) i since (item d ds) x h =
    by (λ m g. sure_is k (suc i) m ds x g) (is_plain_definition d) (defines d x)
  where
    one_more : (i k : ℕ) → suc i + k ≡ i + suc k
    one_more i k = omega arith

    by : ((m : ℕ) → m ≤ suc i → before (first (suc i) m ds x) (suc i + k) ≡ not (is_sure ds k x)) → (t u : Bool)
        → before (if_defined u (if t then since else suc i) (first (suc i) (if t then since else suc i) ds x)) (i + suc k) ≡ not (u || is_sure ds k x)
    by more true true = not_below (i + suc k) since (omega (arith, h))
    by more false true = not_below (i + suc k) (suc i) (omega arith)
    by more true false =
        subst (λ f. before (first (suc i) since ds x) f ≡ not (is_sure ds k x)) (one_more i k) (more since (omega (arith, h)))
    by more false false =
        subst (λ f. before (first (suc i) (suc i) ds x) f ≡ not (is_sure ds k x)) (one_more i k) (more (suc i) (omega arith))

abbrev pub or_first : Option ℕ → Option ℕ → Option ℕ
or_first (Some n) o = Some n
or_first None o = o

noted_first : (o : Option ℕ) (t : Bool) (since : ℕ) (more : Option ℕ)
    → or_first o (if_defined t since more) ≡ or_first (or_since o t since) more
noted_first (Some n) t since more = refl
noted_first None true since more = refl
noted_first None false since more = refl

-- Forms: those that are left are looked at next.
pub record Looking (core : Program VarRef) (es : Trees VarRef) (next since : ℕ) (from : Name → Option ℕ) (left : List ℕ) : Type 0 where
  pub others : Trees VarRef
  pub stand : StandAll core.exprs left others
  pub within : since ≤ next
  pub noted :
      (k : Name)
      → first 0 0 (all_told core.lits es) (var_of k) ≡ or_first (from k) (first next since (all_told core.lits others) (var_of k))

pub looking_begins : (core : Program VarRef) (es : Trees VarRef) (from : Name → Option ℕ) (ids left : List ℕ) → StandAll core.exprs ids es
    → left ≡ ids → ((k : Name) → from k ≡ None) → Looking core es 0 0 from left
looking_begins core es from ids left stand is nothing = record {
  others = es;
  stand = subst (λ u. StandAll core.exprs u es) (sym is) stand;
  within = omega arith;
  noted = λ k. sym (ap (λ o. or_first o (first 0 0 (all_told core.lits es) (var_of k))) (nothing k));
}

pub looking_on : (core : Program VarRef) (es : Trees VarRef) (next since after since' : ℕ) (from from' : Name → Option ℕ)
    (id : ℕ) (left others : List ℕ) → Looking core es next since from left → left ≡ id ∷ others → after ≡ next + 1
    → ((e : Tree VarRef) → Stands core.exprs id e → since' ≡ (if is_plain_definition (told core.lits e) then since else after))
    → ((e : Tree VarRef) → Stands core.exprs id e → (k : Name) → from' k ≡ or_since (from k) (defines (told core.lits e) (var_of k)) since')
    → Looking core es after since' from' others
looking_on core es next since after since' from from' id left others g is step plain note = by g.others refl
  where
    after_is : after ≡ suc next
    after_is = omega (arith, step)

    less : (t : Bool) → since' ≡ (if t then since else after) → since' ≤ after
    less true h = omega (arith, h, g.within, step)
    less false h = omega (arith, h)

    by : (t : Trees VarRef) → g.others ≡ t → Looking core es after since' from' others
    by tree.none e =
        let none_left : left ≡ [] = subst (λ u. StandAll core.exprs left u) e g.stand in
        absurd (cc (none_left, is))
    by (tree.item d ds) e =
        let st = subst (λ u. StandAll core.exprs left u) e g.stand in
        let same : st.0 ∷ st.1 ≡ id ∷ others = sym st.2 ∙ is in
        let here : st.0 ≡ id = cc same in
        let rest_is : st.1 ≡ others = cc same in
        let stands = subst (λ u. Stands core.exprs u d) here st.3 in
        let h = told core.lits d in
        let hs = all_told core.lits ds in
        let new : since' ≡ since_after next since h =
        plain d stands ∙ ap (λ u. if is_plain_definition h then since else u) after_is in
        record {
          others = ds;
          stand = subst (λ u. StandAll core.exprs u ds) rest_is st.4;
          within = less (is_plain_definition h) (plain d stands);
          noted =
              λ k.
              g.noted k
              ∙ (ap (λ u. or_first (from k) (first next since (all_told core.lits u) (var_of k))) e
              ∙ (noted_first (from k) (defines h (var_of k)) (since_after next since h) (first (suc next) (since_after next since h) hs (var_of k))
              ∙ (ap (λ u. or_first (or_since (from k) (defines h (var_of k)) u) (first (suc next) u hs (var_of k))) (sym new)
              ∙ (ap (λ u. or_first u (first (suc next) since' hs (var_of k))) (sym (note d stands k))
              ∙ ap (λ u. or_first (from' k) (first u since' hs (var_of k))) (sym after_is)))));
        }

pub looking_ends : (core : Program VarRef) (es : Trees VarRef) (next since : ℕ) (from : Name → Option ℕ) (left : List ℕ)
    → Looking core es next since from left → left ≡ []
    → (k : Name) (f : ℕ) → before (from k) f ≡ not (is_sure (all_told core.lits es) f (var_of k))
looking_ends core es next since from left g is k f = by g.others refl
  where
    zero_more : (n : ℕ) → 0 + n ≡ n
    zero_more n = omega arith

    nothing : (o : Option ℕ) → or_first o None ≡ o
    nothing (Some n) = refl
    nothing None = refl

    by : (t : Trees VarRef) → g.others ≡ t → before (from k) f ≡ not (is_sure (all_told core.lits es) f (var_of k))
    by (tree.item d ds) e =
        let st = subst (λ u. StandAll core.exprs left u) e g.stand in
        absurd (cc (st.2, is))
    by tree.none e =
        ap (λ o. before o f)
        (sym (g.noted k
        ∙ (ap (λ u. or_first (from k) (first next since (all_told core.lits u) (var_of k))) e ∙ nothing (from k))))
        ∙ subst (λ n. before (first 0 0 (all_told core.lits es) (var_of k)) n ≡ not (is_sure (all_told core.lits es) f (var_of k))) (zero_more f)
        (sure_is f 0 0 (all_told core.lits es) (var_of k) (omega arith))

-- a definition is noted if it is its variable's first one
stays : (o : Option ℕ) (since : ℕ) → o ≡ or_since o false since
stays (Some n) since = refl
stays None since = refl

pub noted_none : (o : Option ℕ) (defined : Bool) (since : ℕ) → defined ≡ false → o ≡ or_since o defined since
noted_none o defined since h = stays o since ∙ ap (λ t. or_since o t since) (sym h)

pub noted_kept : (o : Option ℕ) (defined : Bool) (since : ℕ) → (defined ≡ true → is_some o ≡ true) → o ≡ or_since o defined since
noted_kept (Some n) defined since h = refl
noted_kept None false since h = refl
noted_kept None true since h = absurd (cc (h refl))

pub noted_new : (new o : Option ℕ) (same defined : Bool) (since : ℕ) → new ≡ cond same (Some since) o → defined ≡ same
    → (same ≡ true → o ≡ None) → new ≡ or_since o defined since
noted_new new o true defined since h e absent =
    h ∙ sym (ap (λ t. or_since o t since) e ∙ ap (λ u. or_since u true since) (absent refl))
noted_new new o false defined since h e absent = h ∙ noted_none o defined since e
