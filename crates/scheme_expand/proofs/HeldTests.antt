-- Which tests of the clauses of a `cond` are held, clause by clause.
use Rattle.std.proofs.Common.{ℕ, ◌≡◌, List, [], ◌∷◌, Bool, true, false, refl, sym, ap, subst, ◌∙◌}
use Rattle.std.specs.Prelude.{if◌then◌else◌}
use Rattle.datum_form.specs.Data.{Datum, Datum as datum, Items}
use Rattle.datum_form.specs.Data.Items.{none, item}
use Rattle.draft_form.specs.Drawn.{Names}
use Rattle.quasi_expand.specs.Shapes.{are_clauses, is_none}
use Rattle.scheme_expand.specs.declared.clause.Clause.{Clause}
use Rattle.scheme_expand.specs.declared.clause.Clause.TheVariants as which
use Rattle.scheme_expand.specs.declared.scope.Scope.{Scope as Variables}
use Rattle.scheme_expand.specs.declared.source.Source.{Source}
use Rattle.scheme_expand.specs.Forms.{Exp, Exps, Clauses, no_exp, exp, no_clause}
use Rattle.scheme_expand.specs.Grammar.{expr, exprs, is_arrow, is_clause, cond_clause, clauses, clause_before}
use Rattle.scheme_expand.specs.Holding.{held_values, clauses_end, Holds}
use Rattle.scheme_expand.specs.Rewriting.{unnamed}
use Rattle.scheme_expand.specs.Shapes.{IsClause}
use Rattle.scheme_expand.specs.Viewed.{AreWords, IsScope}
use Rattle.scheme_expand.specs.Views.{Bound, put_inside}
use Rattle.scheme_expand.specs.Waiting.{may_be_clauses, Reads, ReadAll}
use Rattle.scheme_expand.proofs.CondParts.{no_else}
use Rattle.scheme_expand.proofs.LastClause.{and_split}
use Rattle.scheme_expand.proofs.Parts.{no_items, first_of}

-- One clause

one_value : (before after : Variables) (cs ds : Clauses) (ends : Bool) → cs ≡ ds → Holds ds ends before after → Holds cs ends before after
one_value before after cs ds ends e h = let P : Clauses → Type 0 = λ x. Holds x ends before after in subst P (sym e) h

-- what is read of a clause tells what it holds
abbrev pub holds_as : Clause → Variables → Variables → Type 0
holds_as (which.Then test ids) before after = after ≡ before
holds_as (which.Test test) before after =
    (names : Names) (bs : List Bound) → AreWords names → IsScope names before bs → IsScope names after (put_inside ([] ∷ []) bs)
holds_as (which.Receiver test receiver) before after =
    (names : Names) (bs : List Bound) → AreWords names → IsScope names before bs → IsScope names after (put_inside ([] ∷ []) bs)
holds_as (which.Else ids) before after = after ≡ before

abbrev pub begins_else : Clause → Bool
begins_else (which.Else ids) = true
begins_else x = false

unchanged : (before after : Variables) → after ≡ before → (names : Names) (bs : List Bound) → AreWords names → IsScope names before bs
    → IsScope names after bs
unchanged before after e names bs w h = let P : Variables → Type 0 = λ x. IsScope names x bs in subst P (sym e) h

pub one_held : (s : Source) (x : Clause) (d : Datum) (before after : Variables) → IsClause s x d → holds_as x before after
    → Holds (clause_before d no_clause) (begins_else x) before after
one_held s (which.Then test ids) d before after i h =
    one_value before after (clause_before d no_clause) _ false (i.5 no_clause)
    (record { ends_so = refl; bound = unchanged before after h })
one_held s (which.Test test) d before after i h =
    one_value before after (clause_before d no_clause) _ false (i.3 no_clause) (record { ends_so = refl; bound = h })
one_held s (which.Receiver test receiver) d before after i h =
    one_value before after (clause_before d no_clause) _ false (i.5 no_clause) (record { ends_so = refl; bound = h })
one_held s (which.Else ids) d before after i h =
    one_value before after (clause_before d no_clause) _ true (i.3 no_clause)
    (record { ends_so = refl; bound = unchanged before after h })

-- An inner clause before others

inner_values : (arrow : Bool) (t : Exp) (es : Exps) (cs : Clauses) (bs : List Bound)
    → put_inside (unnamed (held_values (cond_clause false arrow t es cs))) bs
    ≡ put_inside (unnamed (held_values cs)) (put_inside (unnamed (held_values (cond_clause false arrow t es no_clause))) bs)
inner_values true t no_exp cs bs = refl
inner_values true t (exp e no_exp) cs bs = refl
inner_values true t (exp e (exp f es)) cs bs = refl
inner_values false t no_exp cs bs = refl
inner_values false t (exp e es) cs bs = refl

inner_ends : (arrow : Bool) (t : Exp) (es : Exps) (cs : Clauses) → clauses_end (cond_clause false arrow t es cs) ≡ clauses_end cs
inner_ends true t no_exp cs = refl
inner_ends true t (exp e no_exp) cs = refl
inner_ends true t (exp e (exp f es)) cs = refl
inner_ends false t no_exp cs = refl
inner_ends false t (exp e es) cs = refl

abbrev values_of : Items → List (List ℕ)
values_of ds = unnamed (held_values (clauses ds))

more_values : (d : Datum) (ds : Items) (bs : List Bound) → is_clause false d ≡ true
    → put_inside (values_of (item d ds)) bs ≡ put_inside (values_of ds) (put_inside (values_of (item d none)) bs)
more_values (datum.Atomic q a) ds bs h = absurd (cc)
more_values (datum.Dotted q is d) ds bs h = absurd (cc)
more_values (datum.Vector q is) ds bs h = absurd (cc)
more_values (datum.List q none) ds bs h = absurd (cc)
more_values (datum.List q (item t es)) ds bs h =
    let w = no_else q t es h in
    let as_clause : Bool → Clauses → Clauses = λ b cs. cond_clause b (is_arrow es) (expr t) (exprs es) cs in
    ap (λ b. put_inside (unnamed (held_values (as_clause b (clauses ds)))) bs) w
    ∙ (inner_values (is_arrow es) (expr t) (exprs es) (clauses ds) bs
    ∙ ap (λ b. put_inside (values_of ds) (put_inside (unnamed (held_values (as_clause b no_clause))) bs)) (sym w))

more_ends : (d : Datum) (ds : Items) → is_clause false d ≡ true → clauses_end (clauses (item d ds)) ≡ clauses_end (clauses ds)
more_ends (datum.Atomic q a) ds h = absurd (cc)
more_ends (datum.Dotted q is d) ds h = absurd (cc)
more_ends (datum.Vector q is) ds h = absurd (cc)
more_ends (datum.List q none) ds h = absurd (cc)
more_ends (datum.List q (item t es)) ds h =
    ap (λ b. clauses_end (cond_clause b (is_arrow es) (expr t) (exprs es) (clauses ds))) (no_else q t es h)
    ∙ inner_ends (is_arrow es) (expr t) (exprs es) (clauses ds)

-- All clauses

-- the values of the tests before the clauses that are left are held
pub record HeldSo (s : Source) (rest : List ℕ) (ends : Bool) (ds : Items) (before after : Variables) : Type 0 where
  pub left : Items
  pub read : ReadAll s rest left
  pub may : may_be_clauses is_clause left ≡ true
  pub ends_so : (if is_none left then ends else clauses_end (clauses left)) ≡ clauses_end (clauses ds)
  pub bound : (names : Names) (bs : List Bound) → AreWords names → IsScope names before bs
      → (now : List Bound) × IsScope names after now × (put_inside (values_of left) now ≡ put_inside (values_of ds) bs)

pub none_held : (s : Source) (ids : List ℕ) (ds : Items) (scope : Variables) → ReadAll s ids ds → may_be_clauses is_clause ds ≡ true
    → HeldSo s ids false ds scope scope
none_held s ids ds scope h may = record {
  left = ds;
  read = h;
  may = may;
  ends_so = if_none ds;
  bound = λ names bs w k. (bs, k, refl);
}
  where
    if_none : (es : Items) → (if is_none es then false else clauses_end (clauses es)) ≡ clauses_end (clauses es)
    if_none none = refl
    if_none (item e es) = refl

pub next_held : (s : Source) (rest others : List ℕ) (id : ℕ) (ends is_else : Bool) (ds : Items) (before now after : Variables)
    → HeldSo s rest ends ds before now → rest ≡ id ∷ others
    → ((d : Datum) → Reads s id d → is_clause true d ≡ true → Holds (clause_before d no_clause) is_else now after)
    → ((d : Datum) → is_clause false d ≡ true → is_clause true d ≡ true) → HeldSo s others is_else ds before after
next_held s rest others id ends is_else ds before now after i e one weak =
    let f = first_of s rest id others i.left e i.read in
    let P : Items → Type 0 = λ l. may_be_clauses is_clause l ≡ true in
    let Q : Items → Type 0 = λ l. (if is_none l then ends else clauses_end (clauses l)) ≡ clauses_end (clauses ds) in
    by_others f.others f.datum (subst P f.are i.may) (subst Q f.are i.ends_so) f.rest (one f.datum f.first)
    (λ names bs w k.
    let b = i.bound names bs w k in (
      b.0,
      b.1,
      ap (λ l. put_inside (values_of l) b.0) (sym f.are) ∙ b.2,
    ))
  where
    by_others : (left : Items) → (d : Datum) → may_be_clauses is_clause (item d left) ≡ true
        → clauses_end (clauses (item d left)) ≡ clauses_end (clauses ds) → ReadAll s others left
        → (is_clause true d ≡ true → Holds (clause_before d no_clause) is_else now after)
        → ((names : Names) (bs : List Bound) → AreWords names → IsScope names before bs
        → (mid : List Bound) × IsScope names now mid × (put_inside (values_of (item d left)) mid ≡ put_inside (values_of ds) bs))
        → HeldSo s others is_else ds before after
    by_others none d may so read held bound =
        let h = held may in
        record {
          left = none;
          read = read;
          may = refl;
          ends_so = h.ends_so ∙ so;
          bound =
              λ names bs w k.
              let b = bound names bs w k in (put_inside (values_of (item d none)) b.0, h.bound names b.0 w b.1, b.2);
        }
    by_others (item c left) d may so read held bound =
        let t = and_split (is_clause false d) (are_clauses is_clause (item c left)) may in
        let h = held (weak d t.0) in
        record {
          left = item c left;
          read = read;
          may = t.1;
          ends_so = sym (more_ends d (item c left) t.0) ∙ so;
          bound =
              λ names bs w k.
              let b = bound names bs w k in (
                put_inside (values_of (item d none)) b.0,
                h.bound names b.0 w b.1,
                sym (more_values d (item c left) b.0 t.0) ∙ b.2,
              );
        }

pub all_held : (s : Source) (rest : List ℕ) (ends : Bool) (ds : Items) (before after : Variables)
    → HeldSo s rest ends ds before after → rest ≡ [] → Holds (clauses ds) ends before after
all_held s rest ends ds before after i e =
    let over : i.left ≡ none = no_items s rest i.left e i.read in
    record {
      ends_so = ap (λ l. if is_none l then ends else clauses_end (clauses l)) (sym over) ∙ i.ends_so;
      bound =
          λ names bs w k.
          let b = i.bound names bs w k in
          let P : List Bound → Type 0 = λ x. IsScope names after x in
          subst P (ap (λ l. put_inside (values_of l) b.0) (sym over) ∙ b.2) b.1;
    }
