-- The clauses of a `cond`, and their faults.
use Rattle.std.proofs.Common.{ℕ, ◌≡◌, Bor, List, [], ◌∷◌, ◌++◌, Option, Some, None, Bool, true, false, refl, sym, ap, subst, ◌∙◌}
use Rattle.std.specs.Prelude.{not, ◌&&◌, if◌then◌else◌, codes}
use Rattle.std.proofs.lemmas.List.{append-nil}
use Rattle.scheme_base.specs.declared.pos.Pos.{Pos}
use Rattle.datum_form.specs.Data.{Datum, Datum as datum, Items}
use Rattle.datum_form.specs.Data.Items.{none, item}
use Rattle.quasi_expand.specs.Shapes.{all_items, are_clauses, is_list, is_none, is_word}
use Rattle.scheme_expand.specs.declared.source.Source.{Source}
use Rattle.scheme_expand.specs.declared.expander.Expander.{Expander}
use Rattle.scheme_expand.specs.declared.clause.Clause.{Clause}
use Rattle.scheme_expand.specs.declared.clause.Clause.TheVariants as which
use Rattle.scheme_expand.specs.Forms.{Wrong, Cond, Exp, Exps, Clauses, no_exp, exp, no_clause, clause}
use Rattle.scheme_expand.specs.Grammar.{rule, checked, is_clause, passes, is_arrow, cond_clause, clauses, expr, exprs}
use Rattle.scheme_expand.specs.Faults.{Fault, least, in_exp, in_exps, in_clauses}
use Rattle.scheme_expand.specs.Shapes.{IsClause, IsFound, cond_form}
use Rattle.scheme_expand.specs.Waiting.{earlier, may_be_clauses, Reads, ReadAll, IsList, Adds}
use Rattle.scheme_expand.proofs.Adding.{due, nothing}
use Rattle.scheme_expand.proofs.Due.{of, of_all}
use Rattle.scheme_expand.proofs.LastClause.{inner_and_last, they_are, others_are, last_apart}
use Rattle.scheme_expand.proofs.Least.{earlier_assoc, least_append}
use Rattle.scheme_expand.proofs.Parts.{no_items, first_of, last_of}

abbrev pub of_clauses : Items → Option Fault
of_clauses ds = least (in_clauses (clauses ds))

-- What a clause is

-- the first item of a clause that may stand before others is not `else`
pub no_else : (p : Pos) (t : Datum) (es : Items) → is_clause false (datum.List p (item t es)) ≡ true → is_word (codes "else") t ≡ false
no_else p t es h = by_word (is_word (codes "else") t) (passes es) h
  where
    by_word : (w b : Bool) → (if w then false else b) ≡ true → w ≡ false
    by_word true b k = absurd (cc)
    by_word false b k = refl

pub weaker : (d : Datum) → is_clause false d ≡ true → is_clause true d ≡ true
weaker (datum.Atomic p a) h = absurd (cc)
weaker (datum.Dotted p is d) h = absurd (cc)
weaker (datum.Vector p is) h = absurd (cc)
weaker (datum.List p none) h = absurd (cc)
weaker (datum.List p (item t es)) h =
    let w = no_else p t es h in
    ap (λ b. if b then true && not (is_none es) else passes es) w
    ∙ (ap (λ b. if b then false && not (is_none es) else passes es) (sym w) ∙ h)

split : (xs ys : List Fault) → least (xs ++ ys) ≡ earlier (least (xs ++ [])) (least ys)
split xs ys = least_append xs ys ∙ ap (λ l. earlier (least l) (least ys)) (sym (append-nil xs))

split_two : (xs ys zs : List Fault) → least (xs ++ (ys ++ zs)) ≡ earlier (least (xs ++ (ys ++ []))) (least zs)
split_two xs ys zs =
    least_append xs (ys ++ zs)
    ∙ (ap (earlier (least xs)) (split ys zs)
    ∙ (sym (earlier_assoc (least xs) (least (ys ++ [])) (least zs))
    ∙ ap (λ x. earlier x (least zs)) (sym (least_append xs (ys ++ [])))))

clause_apart : (arrow : Bool) (t : Exp) (es : Exps) (cs : Clauses)
    → least (in_clauses (cond_clause false arrow t es cs))
    ≡ earlier (least (in_clauses (cond_clause false arrow t es no_clause))) (least (in_clauses cs))
clause_apart true t no_exp cs = split (in_exp t) (in_clauses cs)
clause_apart true t (exp e no_exp) cs = split_two (in_exp t) (in_exps (exp e no_exp)) (in_clauses cs)
clause_apart true t (exp e (exp f es)) cs = split_two (in_exp t) (in_exp f) (in_clauses cs)
clause_apart false t no_exp cs = split (in_exp t) (in_clauses cs)
clause_apart false t (exp e es) cs = split_two (in_exp t) (in_exps (exp e es)) (in_clauses cs)

pub more_clauses : (d : Datum) (ds : Items) → is_clause false d ≡ true
    → of_clauses (item d ds) ≡ earlier (of_clauses (item d none)) (of_clauses ds)
more_clauses (datum.Atomic p a) ds h = absurd (cc)
more_clauses (datum.Dotted p is d) ds h = absurd (cc)
more_clauses (datum.Vector p is) ds h = absurd (cc)
more_clauses (datum.List p none) ds h = absurd (cc)
more_clauses (datum.List p (item t es)) ds h =
    let w = no_else p t es h in
    ap (λ b. least (in_clauses (cond_clause b (is_arrow es) (expr t) (exprs es) (clauses ds)))) w
    ∙ (clause_apart (is_arrow es) (expr t) (exprs es) (clauses ds)
    ∙ ap (λ b. earlier (least (in_clauses (cond_clause b (is_arrow es) (expr t) (exprs es) no_clause))) (of_clauses ds)) (sym w))

-- What is read

pub no_list_clause : (d : Datum) → is_list d ≡ false → is_clause true d ≡ false
no_list_clause (datum.Atomic p a) h = refl
no_list_clause (datum.List p is) h = absurd (cc)
no_list_clause (datum.Dotted p is d) h = refl
no_list_clause (datum.Vector p is) h = refl

pub no_first : (s : Source) (ids : List ℕ) (d : Datum) → IsList s ids d → ids ≡ [] → is_clause true d ≡ false
no_first s ids d i e = ap (is_clause true) (i.are ∙ ap (datum.List i.at) (no_items s ids i.items e i.read))

-- what is found of a list of a first item and others is found of the datum
pub of_list : (s : Source) (ids others : List ℕ) (id : ℕ) (d : Datum) (found : Option Clause) → IsList s ids d → ids ≡ id ∷ others
    → ((p : Pos) (t : Datum) (ds : Items) → Reads s id t → ReadAll s others ds → IsFound s found (datum.List p (item t ds)))
    → IsFound s found d
of_list s ids others id d found i e k =
    let f = first_of s ids id others i.items e i.read in
    let P : Datum → Type 0 = λ x. IsFound s found x in
    subst P (sym (i.are ∙ ap (datum.List i.at) f.are)) (k i.at f.datum f.others f.first f.rest)

word_clause : (last b : Bool) (p : Pos) (t : Datum) (ds : Items) → is_word (codes "else") t ≡ b
    → is_clause last (datum.List p (item t ds)) ≡ (if b then last && not (is_none ds) else passes ds)
word_clause last b p t ds e = ap (λ x. if x then last && not (is_none ds) else passes ds) e

pub empty_else : (s : Source) (exprs : List ℕ) (p : Pos) (t : Datum) (ds : Items) → ReadAll s exprs ds
    → is_word (codes "else") t ≡ true → exprs ≡ [] → is_clause true (datum.List p (item t ds)) ≡ false
empty_else s exprs p t ds h w e = word_clause true true p t ds w ∙ ap (λ l. not (is_none l)) (no_items s exprs ds e h)

some_items : (s : Source) (ids : List ℕ) (ds : Items) → ReadAll s ids ds → (ids ≡ [] → ⊥) → is_none ds ≡ false
some_items s ids none h absent = absurd (absent h.stand)
some_items s ids (item d ds) h absent = refl

pub else_read : (s : Source) (ids : Bor (List ℕ)) (p : Pos) (t : Datum) (ds : Items) → ReadAll s ids.now ds
    → is_word (codes "else") t ≡ true → (ids.now ≡ [] → ⊥) → IsFound s (Some (which.Else ids)) (datum.List p (item t ds))
else_read s ids p t ds h w some = (
  word_clause true true p t ds w ∙ ap not (some_items s ids.now ds h some),
  (
    word_clause false true p t ds w,
    ds,
    h,
    λ cs. ap (λ b. cond_clause b (is_arrow ds) (expr t) (exprs ds) cs) w,
  ),
)

-- a clause of a test, and perhaps others, read
pub test_read : (s : Source) (found : Clause) (p : Pos) (t : Datum) (ds : Items) → is_word (codes "else") t ≡ false
    → passes ds ≡ true
    → (is_clause false (datum.List p (item t ds)) ≡ true → IsClause s found (datum.List p (item t ds)))
    → IsFound s (Some found) (datum.List p (item t ds))
test_read s found p t ds w e k =
    (word_clause true false p t ds w ∙ e, k (word_clause false false p t ds w ∙ e))

pub only_test : (s : Source) (test : ℕ) (ids : List ℕ) (p : Pos) (t : Datum) (ds : Items) → Reads s test t → ReadAll s ids ds
    → is_word (codes "else") t ≡ false → ids ≡ [] → IsFound s (Some (which.Test test)) (datum.List p (item t ds))
only_test s test ids p t ds h k w e =
    let over = no_items s ids ds e k in
    test_read s (which.Test test) p t ds w (ap passes over)
    (λ c. (
      c,
      t,
      h,
      λ cs.
          ap (λ b. cond_clause b (is_arrow ds) (expr t) (exprs ds) cs) w
          ∙ (ap (λ l. cond_clause false (is_arrow l) (expr t) (exprs l) cs) over),
    ))

plain : (d : Datum) (ds : Items) → is_word (codes "=>") d ≡ false → passes (item d ds) ≡ true
plain d none w = ap not w
plain d (item e none) w = refl
plain d (item e (item f ds)) w = ap not w

pub test_and_more : (s : Source) (test : ℕ) (ids : Bor (List ℕ)) (others : List ℕ) (second : ℕ) (p : Pos) (t : Datum) (ds : Items)
    → Reads s test t → ReadAll s ids.now ds → is_word (codes "else") t ≡ false → ids.now ≡ second ∷ others
    → ((e : Datum) → Reads s second e → is_word (codes "=>") e ≡ false)
    → IsFound s (Some (which.Then test ids)) (datum.List p (item t ds))
test_and_more s test ids others second p t ds h k w e arrow =
    let f = first_of s ids.now second others ds e k in
    let a = arrow f.datum f.first in
    test_read s (which.Then test ids) p t ds w (ap passes f.are ∙ plain f.datum f.others a)
    (λ c. (
      c,
      t,
      ds,
      h,
      k,
      λ cs.
          ap (λ b. cond_clause b (is_arrow ds) (expr t) (exprs ds) cs) w
          ∙ (ap (λ l. cond_clause false (is_arrow l) (expr t) (exprs l) cs) f.are
          ∙ (ap (λ b. cond_clause false b (expr t) (exprs (item f.datum f.others)) cs) a
          ∙ ap (λ l. clause (expr t) (exprs l) cs) (sym f.are))),
    ))

pub test_and_receiver : (s : Source) (test receiver second : ℕ) (ids others : List ℕ) (p : Pos) (t : Datum) (ds : Items)
    → Reads s test t → ReadAll s ids ds → is_word (codes "else") t ≡ false → ids ≡ second ∷ others → others ≡ receiver ∷ []
    → ((e : Datum) → Reads s second e → is_word (codes "=>") e ≡ true)
    → IsFound s (Some (which.Receiver test receiver)) (datum.List p (item t ds))
test_and_receiver s test receiver second ids others p t ds h k w e q arrow =
    let f = first_of s ids second others ds e k in
    let a = arrow f.datum f.first in
    let g = first_of s others receiver [] f.others q f.rest in
    let are : ds ≡ item f.datum (item g.datum none) =
    f.are ∙ ap (item f.datum) (g.are ∙ ap (item g.datum) (no_items s [] g.others refl g.rest))
    in
    test_read s (which.Receiver test receiver) p t ds w (ap passes are)
    (λ c. (
      c,
      t,
      g.datum,
      h,
      g.first,
      λ cs.
          ap (λ b. cond_clause b (is_arrow ds) (expr t) (exprs ds) cs) w
          ∙ (ap (λ l. cond_clause false (is_arrow l) (expr t) (exprs l) cs) are
          ∙ ap (λ b. cond_clause false b (expr t) (exprs (item f.datum (item g.datum none))) cs) a),
    ))

arrow_alone : (d : Datum) (ds : Items) → is_word (codes "=>") d ≡ true → ((e : Datum) → ds ≡ item e none → ⊥)
    → passes (item d ds) ≡ false
arrow_alone d none w absent = ap not w
arrow_alone d (item e none) w absent = absurd (absent e refl)
arrow_alone d (item e (item f ds)) w absent = ap not w

pub no_receiver : (s : Source) (second : ℕ) (ids others : List ℕ) (p : Pos) (t : Datum) (ds : Items) → ReadAll s ids ds
    → is_word (codes "else") t ≡ false → ids ≡ second ∷ others
    → ((es : Items) → ReadAll s others es → (e : Datum) → es ≡ item e none → ⊥)
    → ((e : Datum) → Reads s second e → is_word (codes "=>") e ≡ true) → is_clause true (datum.List p (item t ds)) ≡ false
no_receiver s second ids others p t ds k w e absent arrow =
    let f = first_of s ids second others ds e k in
    word_clause true false p t ds w
    ∙ (ap passes f.are ∙ arrow_alone f.datum f.others (arrow f.datum f.first) (absent f.others f.rest))

-- Each clause and the last

-- those that are left are inner clauses just as all are
pub record InnerLeft (s : Source) (rest : List ℕ) (all : Bool) : Type 0 where
  pub left : Items
  pub read : ReadAll s rest left
  pub same : all ≡ all_items (is_clause false) left

pub one_inner : (s : Source) (rest others : List ℕ) (id : ℕ) (all found : Bool) → InnerLeft s rest all → rest ≡ id ∷ others
    → ((d : Datum) → Reads s id d → found ≡ is_clause false d) → found ≡ true → InnerLeft s others all
one_inner s rest others id all found i e k t =
    let f = first_of s rest id others i.left e i.read in
    record {
      left = f.others;
      read = f.rest;
      same =
          i.same
          ∙ (ap (all_items (is_clause false)) f.are
          ∙ ap (λ b. b && all_items (is_clause false) f.others) (sym (k f.datum f.first) ∙ t));
    }

pub not_inner : (s : Source) (rest others : List ℕ) (id : ℕ) (all found : Bool) → InnerLeft s rest all → rest ≡ id ∷ others
    → ((d : Datum) → Reads s id d → found ≡ is_clause false d) → found ≡ false → all ≡ false
not_inner s rest others id all found i e k t =
    let f = first_of s rest id others i.left e i.read in
    i.same
    ∙ (ap (all_items (is_clause false)) f.are
    ∙ ap (λ b. b && all_items (is_clause false) f.others) (sym (k f.datum f.first) ∙ t))

pub all_inner : (s : Source) (rest : List ℕ) (all : Bool) → InnerLeft s rest all → rest ≡ [] → all ≡ true
all_inner s rest all i e = i.same ∙ ap (all_items (is_clause false)) (no_items s rest i.left e i.read)

pub no_clauses : (s : Source) (ids : List ℕ) (ds : Items) → ReadAll s ids ds → ids ≡ [] → false ≡ are_clauses is_clause ds
no_clauses s ids ds h e = sym (ap (are_clauses is_clause) (no_items s ids ds e h))

-- the last clause, and those before it
pub record Ended (s : Source) (others : List ℕ) (id : ℕ) (ds : Items) : Type 0 where
  pub front : Items
  pub last : Datum
  pub rest : ReadAll s others front
  pub read : Reads s id last
  pub same : are_clauses is_clause ds ≡ (all_items (is_clause false) front && is_clause true last)

pub ended : (s : Source) (ids others : List ℕ) (id : ℕ) (ds : Items) → ReadAll s ids ds → ids ≡ others ++ id ∷ []
    → Ended s others id ds
ended s ids others id ds h e =
    let r = last_of s ids others id ds e h in
    record {
      front = r.others;
      last = r.datum;
      rest = r.rest;
      read = r.last;
      same = ap (are_clauses is_clause) r.are ∙ inner_and_last is_clause r.others r.datum;
    }

and_false : (a : Bool) → (a && false) ≡ false
and_false true = refl
and_false false = refl

pub bad_last : (s : Source) (others : List ℕ) (id : ℕ) (ds : Items) → (i : Ended s others id ds) → is_clause true i.last ≡ false
    → false ≡ are_clauses is_clause ds
bad_last s others id ds i e =
    sym
    (i.same
    ∙ (ap (λ b. all_items (is_clause false) i.front && b) e ∙ and_false (all_items (is_clause false) i.front)))

pub good_last : (s : Source) (others : List ℕ) (id : ℕ) (ds : Items) (all : Bool) → (i : Ended s others id ds)
    → is_clause true i.last ≡ true → all_items (is_clause false) i.front ≡ all → all ≡ are_clauses is_clause ds
good_last s others id ds all i e f =
    sym (i.same ∙ (ap (λ b. all_items (is_clause false) i.front && b) e ∙ (and_true (all_items (is_clause false) i.front) ∙ f)))
  where
    and_true : (a : Bool) → (a && true) ≡ a
    and_true true = refl
    and_true false = refl

-- The whole

pub cond_not : (p : Pos) (ds : Items) → are_clauses is_clause ds ≡ false → cond_form p ds ≡ Wrong p 6
cond_not p ds e = ap (λ b. checked p (rule (not b) 6 ∷ []) (Cond p (clauses ds))) e

pub cond_is : (p : Pos) (ds : Items) → are_clauses is_clause ds ≡ true → of_clauses ds ≡ least (in_exp (cond_form p ds))
cond_is p ds e = ap (λ b. least (in_exp (checked p (rule (not b) 6 ∷ []) (Cond p (clauses ds))))) (sym e)

pub may_be : (ds : Items) → are_clauses is_clause ds ≡ true → may_be_clauses is_clause ds ≡ true
may_be none h = refl
may_be (item d ds) h = h

-- the clauses before the last, and what is due of the last
pub record LastRead (s : Source) (others : List ℕ) (id : ℕ) (ds : Items) : Type 0 where
  pub front : Items
  pub last : Datum
  pub rest : ReadAll s others front
  pub may : may_be_clauses is_clause front ≡ true
  pub read : Reads s id last
  pub total : earlier (of_clauses front) (of_clauses (item last none)) ≡ of_clauses ds

pub last_read : (s : Source) (ids others : List ℕ) (id : ℕ) (ds : Items) → ReadAll s ids ds → may_be_clauses is_clause ds ≡ true
    → ids ≡ others ++ id ∷ [] → LastRead s others id ds
last_read s ids others id ds h may e =
    let r = last_of s ids others id ds e h in
    let P : Items → Type 0 = λ l. may_be_clauses is_clause l ≡ true in
    let are = they_are is_clause r.others r.datum (subst P r.are may) in
    record {
      front = r.others;
      last = r.datum;
      rest = r.rest;
      may = others_are is_clause weaker r.others r.datum are;
      read = r.last;
      total =
          sym (last_apart is_clause of_clauses refl more_clauses r.others r.datum are) ∙ ap of_clauses (sym r.are);
    }

pub else_is : (s : Source) (ids : Bor (List ℕ)) (d : Datum) → (i : IsClause s (which.Else ids) d) → of_all i.1 ≡ of_clauses (item d none)
else_is s ids d i = ap (λ c. least (in_clauses c)) (sym (i.3 no_clause))

pub then_is : (s : Source) (test : ℕ) (ids : Bor (List ℕ)) (d : Datum) → (i : IsClause s (which.Then test ids) d)
    → earlier (of i.1) (of_all i.2) ≡ of_clauses (item d none)
then_is s test ids d i =
    sym (least_append (in_exp (expr i.1)) (in_exps (exprs i.2)))
    ∙ (ap (λ l. least (in_exp (expr i.1) ++ l)) (sym (append-nil (in_exps (exprs i.2))))
    ∙ ap (λ c. least (in_clauses c)) (sym (i.5 no_clause)))

pub test_is : (s : Source) (test : ℕ) (d : Datum) → (i : IsClause s (which.Test test) d) → of i.1 ≡ of_clauses (item d none)
test_is s test d i = ap least (sym (append-nil (in_exp (expr i.1)))) ∙ ap (λ c. least (in_clauses c)) (sym (i.3 no_clause))

pub receiver_is : (s : Source) (test receiver : ℕ) (d : Datum) → (i : IsClause s (which.Receiver test receiver) d)
    → earlier (of i.1) (of i.2) ≡ of_clauses (item d none)
receiver_is s test receiver d i =
    sym (least_append (in_exp (expr i.1)) (in_exp (expr i.2)))
    ∙ (ap (λ l. least (in_exp (expr i.1) ++ l)) (sym (append-nil (in_exp (expr i.2))))
    ∙ ap (λ c. least (in_clauses c)) (sym (i.5 no_clause)))

-- what is found tells whether a clause may stand before others

no_clause_inner : (b : Bool) (d : Datum) → is_clause false d ≡ b → is_clause true d ≡ false → false ≡ b
no_clause_inner true d e h = absurd (let g : true ≡ false = sym (weaker d e) ∙ h in cc)
no_clause_inner false d e h = refl

pub none_inner : (d : Datum) → is_clause true d ≡ false → false ≡ is_clause false d
none_inner d h = no_clause_inner (is_clause false d) d refl h

pub inner_found : (s : Source) (found : Clause) (d : Datum) → IsClause s found d
    → ((ids : Bor (List ℕ)) → found ≡ which.Else ids → ⊥) → true ≡ is_clause false d
inner_found s (which.Then test ids) d i other = sym i.0
inner_found s (which.Test test) d i other = sym i.0
inner_found s (which.Receiver test receiver) d i other = sym i.0
inner_found s (which.Else ids) d i other = absurd (other ids refl)

pub no_clauses_due : (a : Expander) (ids : List ℕ) (ds : Items) → ReadAll a.source ids ds → ids ≡ [] → Adds a a (of_clauses ds)
no_clauses_due a ids ds h e = due a a None (of_clauses ds) (ap of_clauses (sym (no_items a.source ids ds e h))) (nothing a)

pub found_as : (s : Source) (d : Datum) (x y : Clause) → x ≡ y → IsFound s (Some x) d → IsClause s y d
found_as s d x y e i = let P : Clause → Type 0 = λ z. IsClause s z d in subst P e i.1
