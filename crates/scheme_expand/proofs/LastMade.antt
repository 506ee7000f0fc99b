-- Clauses from the last to the first: what the last one makes, and then those before it.
use Rattle.std.proofs.Common.{ℕ, zero, suc, ◌≡◌, ◌+◌, ◌-◌, ◌≤◌, List, [], ◌∷◌, ◌++◌, Bool, true, false, length, nat_lt, Option, Some, None, refl, sym, ap, subst, ◌∙◌, arith}
use Rattle.std.specs.Prelude.{if◌then◌else◌}
use Rattle.std.proofs.lemmas.Bool.Decides.{nat_tests}
use Rattle.scheme_base.specs.declared.pos.Pos.{Pos}
use Rattle.datum_form.specs.Data.{Datum, Datum as datum, Items}
use Rattle.datum_form.specs.Data.Items.{none, item}
use Rattle.draft_form.specs.Drafts.{Draft, Seq, parts}
use Rattle.quasi_expand.specs.Shapes.{are_clauses, is_case}
use Rattle.scheme_expand.specs.declared.source.Source.{Source}
use Rattle.scheme_expand.specs.Faults.{Fault, least_of, least, is_before, in_clauses, in_cases}
use Rattle.scheme_expand.specs.Forms.{Exp, Exps, Clauses, no_exp, exp, no_clause}
use Rattle.scheme_expand.specs.Grammar.{expr, exprs, is_arrow, is_clause, cond_clause, clauses, cases}
use Rattle.scheme_expand.specs.Making.{given_two, given_three, sequenced, clauses_made, cases_made}
use Rattle.scheme_expand.specs.Rewriting.{core, cores}
use Rattle.scheme_expand.specs.Views.{Context, View, Bound, scope_of, height, seen, lowered, leave, below}
use Rattle.scheme_expand.specs.Waiting.{earlier, may_be_clauses, Reads, ReadAll}
use Rattle.scheme_expand.proofs.CaseParts.{of_cases, weaker as inner_case, more_cases}
use Rattle.scheme_expand.proofs.CondParts.{of_clauses, no_else, weaker, more_clauses}
use Rattle.scheme_expand.proofs.LastClause.{and_split, they_are, last_is, others_are, last_apart}
use Rattle.scheme_expand.proofs.Noting.{sequence_standing, length-raised}
use Rattle.scheme_expand.proofs.Parts.{joined, last_of}

-- No fault

some_least : (f : Fault) (o : Option Fault) → least_of f o ≡ None → ⊥
some_least f None e = cc
some_least f (Some g) e = by_test (is_before g f) e
  where
    by_test : (b : Bool) → (if b then Some g else Some f) ≡ None → ⊥
    by_test true h = cc
    by_test false h = cc

no_least : (fs : List Fault) → least fs ≡ None → fs ≡ []
no_least [] e = refl
no_least (f ∷ fs) e = absurd (some_least f (least fs) e)

none_earlier : (a b : Option Fault) → earlier a b ≡ None → (a ≡ None) × (b ≡ None)
none_earlier None b e = (refl, e)
none_earlier (Some f) b e = absurd (some_least f b e)

-- What is made by all is made by the last, and then by those before it

last_after : (shape : Bool → Datum → Bool) (f : Items → View → View) → ((v : View) → f none v ≡ v)
    → ((d : Datum) (ds : Items) (v : View) → shape false d ≡ true → f (item d ds) v ≡ f (item d none) (f ds v))
    → (os : Items) (d : Datum) → are_clauses shape (joined os (item d none)) ≡ true → (v : View)
    → f (joined os (item d none)) v ≡ f os (f (item d none) v)
last_after shape f empty more none d h v = sym (empty (f (item d none) v))
last_after shape f empty more (item c none) d h v = more c (item d none) v (and_split (shape false c) (shape true d) h).0
last_after shape f empty more (item c (item b os)) d h v =
    let t = and_split (shape false c) (are_clauses shape (joined (item b os) (item d none))) h in
    more c (joined (item b os) (item d none)) v t.0
    ∙ (ap (f (item c none)) (last_after shape f empty more (item b os) d t.1 v)
    ∙ sym (more c (item b os) (f (item d none) v) t.0))

-- some clauses, of which the last is apart
pub record IsLastMade (shape : Bool → Datum → Bool) (due : Items → Option Fault) (made : Items → View → View) (s : Source)
    (ids : List ℕ) (id : ℕ) (ds : Items) : Type 0 where
  pub front : Items
  pub last : Datum
  pub rest : ReadAll s ids front
  pub may : may_be_clauses shape front ≡ true
  pub read : Reads s id last
  pub shaped : shape true last ≡ true
  pub no_front : due front ≡ None
  pub no_last : due (item last none) ≡ None
  pub after : (v : View) → made ds v ≡ made front (made (item last none) v)

last_made : (shape : Bool → Datum → Bool) (due : Items → Option Fault) (made : Items → View → View) (s : Source)
    (all ids : List ℕ) (id : ℕ) (ds : Items) → ((d : Datum) → shape false d ≡ true → shape true d ≡ true)
    → due none ≡ None
    → ((d : Datum) (es : Items) → shape false d ≡ true → due (item d es) ≡ earlier (due (item d none)) (due es))
    → ((v : View) → made none v ≡ v)
    → ((d : Datum) (es : Items) (v : View) → shape false d ≡ true → made (item d es) v ≡ made (item d none) (made es v))
    → ReadAll s all ds → may_be_clauses shape ds ≡ true → due ds ≡ None → all ≡ ids ++ id ∷ []
    → IsLastMade shape due made s ids id ds
last_made shape due made s all ids id ds weak no_due more_due no_made more_made h may right e =
    let r = last_of s all ids id ds e h in
    let P : Items → Type 0 = λ l. may_be_clauses shape l ≡ true in
    let are = they_are shape r.others r.datum (subst P r.are may) in
    let apart = last_apart shape due no_due more_due r.others r.datum are in
    let both = none_earlier (due r.others) (due (item r.datum none)) (sym apart ∙ (sym (ap due r.are) ∙ right)) in
    record {
      front = r.others;
      last = r.datum;
      rest = r.rest;
      may = others_are shape weak r.others r.datum are;
      read = r.last;
      shaped = last_is shape r.others r.datum are;
      no_front = both.0;
      no_last = both.1;
      after = λ v. ap (λ l. made l v) r.are ∙ last_after shape made no_made more_made r.others r.datum are v;
    }

-- Clauses of a `cond`

abbrev pub all_clauses : Context → Pos → Items → View → View
all_clauses c p ds v = clauses_made c p (clauses ds) v

inner_made : (c : Context) (p : Pos) (arrow : Bool) (t : Exp) (es : Exps) (cs : Clauses) (v : View)
    → clauses_made c p (cond_clause false arrow t es cs) v
    ≡ clauses_made c p (cond_clause false arrow t es no_clause) (clauses_made c p cs v)
inner_made c p true t no_exp cs v = refl
inner_made c p true t (exp e no_exp) cs v = refl
inner_made c p true t (exp e (exp f es)) cs v = refl
inner_made c p false t no_exp cs v = refl
inner_made c p false t (exp e es) cs v = refl

more_made : (c : Context) (p : Pos) (d : Datum) (ds : Items) (v : View) → is_clause false d ≡ true
    → all_clauses c p (item d ds) v ≡ all_clauses c p (item d none) (all_clauses c p ds v)
more_made c p (datum.Atomic q a) ds v h = absurd (cc)
more_made c p (datum.Dotted q is d) ds v h = absurd (cc)
more_made c p (datum.Vector q is) ds v h = absurd (cc)
more_made c p (datum.List q none) ds v h = absurd (cc)
more_made c p (datum.List q (item t es)) ds v h =
    let w = no_else q t es h in
    let as_clause : Bool → Clauses → Clauses = λ b cs. cond_clause b (is_arrow es) (expr t) (exprs es) cs in
    ap (λ b. clauses_made c p (as_clause b (clauses ds)) v) w
    ∙ (inner_made c p (is_arrow es) (expr t) (exprs es) (clauses ds) v
    ∙ ap (λ b. clauses_made c p (as_clause b no_clause) (all_clauses c p ds v)) (sym w))

abbrev pub IsLastClause : Context → Pos → Source → List ℕ → ℕ → Items → Type 0
IsLastClause c p s ids id ds = IsLastMade is_clause of_clauses (all_clauses c p) s ids id ds

pub last_clause : (c : Context) (p : Pos) (s : Source) (all ids : List ℕ) (id : ℕ) (ds : Items) → ReadAll s all ds
    → may_be_clauses is_clause ds ≡ true → in_clauses (clauses ds) ≡ [] → all ≡ ids ++ id ∷ [] → IsLastClause c p s ids id ds
last_clause c p s all ids id ds h may right e =
    last_made is_clause of_clauses (all_clauses c p) s all ids id ds weaker refl more_clauses (λ v. refl) (more_made c p) h may
    (ap least right) e

pub right_clauses : (ds : Items) → of_clauses ds ≡ None → in_clauses (clauses ds) ≡ []
right_clauses ds e = no_least (in_clauses (clauses ds)) e

-- Clauses of a `case`

abbrev pub all_cases : Context → Pos → ℕ → Items → View → View
all_cases c p k ds v = cases_made c p k (cases ds) v

more_cases_made : (c : Context) (p : Pos) (k : ℕ) (d : Datum) (ds : Items) (v : View) → is_case false d ≡ true
    → all_cases c p k (item d ds) v ≡ all_cases c p k (item d none) (all_cases c p k ds v)
more_cases_made c p k (datum.Atomic q a) ds v h = absurd (cc)
more_cases_made c p k (datum.Dotted q is d) ds v h = absurd (cc)
more_cases_made c p k (datum.Vector q is) ds v h = absurd (cc)
more_cases_made c p k (datum.List q none) ds v h = absurd (cc)
more_cases_made c p k (datum.List q (item (datum.Atomic r a) es)) ds v h = absurd (cc)
more_cases_made c p k (datum.List q (item (datum.List r is) es)) ds v h = refl
more_cases_made c p k (datum.List q (item (datum.Dotted r is d) es)) ds v h = absurd (cc)
more_cases_made c p k (datum.List q (item (datum.Vector r is) es)) ds v h = absurd (cc)

abbrev pub IsLastCase : Context → Pos → ℕ → Source → List ℕ → ℕ → Items → Type 0
IsLastCase c p k s ids id ds = IsLastMade is_case of_cases (all_cases c p k) s ids id ds

pub last_case : (c : Context) (p : Pos) (k : ℕ) (s : Source) (all ids : List ℕ) (id : ℕ) (ds : Items) → ReadAll s all ds
    → may_be_clauses is_case ds ≡ true → in_cases (cases ds) ≡ [] → all ≡ ids ++ id ∷ [] → IsLastCase c p k s ids id ds
last_case c p k s all ids id ds h may right e =
    last_made is_case of_cases (all_cases c p k) s all ids id ds inner_case refl more_cases (λ v. refl) (more_cases_made c p k) h
    may (ap least right) e

pub right_cases : (ds : Items) → of_cases ds ≡ None → in_cases (cases ds) ≡ []
right_cases ds e = no_least (in_cases (cases ds)) e

-- Heights

pub height_sequenced : (c : Context) (p : Pos) (es : Exps) (v : View) → height (sequenced c p es v) ≡ height v
height_sequenced c p es v = ap height (sequence_standing c p es v) ∙ length-raised (parts (Seq p (cores es (scope_of c v)))) v.bound

pub height_seen : (c : Context) (e : Exp) (v : View) → height (seen c e v) ≡ height v
height_seen c e v = length-raised (parts (core e (scope_of c v))) v.bound

pub height_two : (v : View) (ds : List Draft) (f : Draft → Draft → Draft) → height (given_two v ds f) ≡ height v
height_two v [] f = refl
height_two v (d ∷ []) f = refl
height_two v (d ∷ e ∷ ds) f = refl

pub height_three : (v : View) (ds : List Draft) (f : Draft → Draft → Draft → Draft) → height (given_three v ds f) ≡ height v
height_three v [] f = refl
height_three v (d ∷ []) f = refl
height_three v (d ∷ e ∷ []) f = refl
height_three v (d ∷ e ∷ g ∷ ds) f = refl

length-lowered : (k : ℕ) (bs : List Bound) → k ≤ length bs → length (lowered k bs) ≡ k
length-lowered k [] h = omega arith
length-lowered k (b ∷ bs) h = by_test (nat_lt (length bs) k) refl (length-lowered k bs)
  where
    by_test : (t : Bool) → nat_lt (length bs) k ≡ t → (k ≤ length bs → length (lowered k bs) ≡ k)
        → length (if t then b ∷ bs else lowered k bs) ≡ k
    by_test true e rest = let at : suc (length bs) ≡ k = grind (arith, nat_tests) in at
    by_test false e rest = let within : k ≤ length bs = grind (arith, nat_tests) in rest within

pub below_is : (n : ℕ) → below n ≡ n - 1
below_is zero = omega arith
below_is (suc n) = omega arith

pub height_left : (k : ℕ) (v : View) → k ≡ height v - 1 → height (leave k v) ≡ k
height_left k v e = length-lowered k v.bound (omega arith)
