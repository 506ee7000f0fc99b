-- The faults in a template are those of the expressions that are evaluated in it, in their order.
use Rattle.std.proofs.Common.{ℕ, zero, suc, ◌≡◌, List, ◌++◌, Bool, true, false, refl, sym, ap, ◌∙◌, append-nil, append_assoc}
use Rattle.std.specs.Prelude.{if◌then◌else◌, codes}
use Rattle.std.specs.Str.{bytes_eq}
use Rattle.scheme_base.specs.declared.pos.Pos.{Pos}
use Rattle.scheme_base.specs.Constants.{Constant, Constant as constant}
use Rattle.datum_form.specs.declared.token.Atom.TheVariants.{Integer, Boolean, Character, String, Symbol}
use Rattle.datum_form.specs.Data.{Datum, Datum as datum, Items}
use Rattle.datum_form.specs.Data.Items.{none, item}
use Rattle.quasi_expand.specs.Levels.{joined, evaluated, in_list, in_items, in_item, unquoted as unquoted_in}
use Rattle.quasi_expand.specs.Shapes.{is_word}
use Rattle.quasi_expand.proofs.Listing.{joined_none}
use Rattle.scheme_expand.specs.Forms.{Template, Plain, Unquoted, Spliced, Pair, Vector}
use Rattle.scheme_expand.specs.Grammar.{expr, exprs, pair_of, vector_of, marked, unquoted, spliced, template, template_list, templates_before, template_before}
use Rattle.scheme_expand.specs.Faults.{Fault, in_exp, in_exps, in_template}

abbrev all : Items → List Fault
all es = in_exps (exprs es)

-- the faults of a template are those of these expressions
abbrev Same : Template → Items → Type 0
Same t es = in_template t ≡ all es

all_joined : (ds es : Items) → all (joined ds es) ≡ all ds ++ all es
all_joined none es = refl
all_joined (item d ds) es =
    ap (λ l. in_exp (expr d) ++ l) (all_joined ds es) ∙ sym (append_assoc (in_exp (expr d)) (all ds) (all es))

-- Templates whose parts are known

in_pair : (s t : Template) → in_template (pair_of s t) ≡ in_template s ++ in_template t
in_pair (Plain c) (Plain d) = refl
in_pair (Plain c) (Unquoted e) = refl
in_pair (Plain c) (Spliced e t) = refl
in_pair (Plain c) (Pair s t) = refl
in_pair (Plain c) (Vector t) = refl
in_pair (Unquoted e) t = refl
in_pair (Spliced e s) t = refl
in_pair (Pair r s) t = refl
in_pair (Vector s) t = refl

in_vector : (c : Constant) (t : Template) → in_template (vector_of c t) ≡ in_template t
in_vector c (Plain d) = refl
in_vector c (Unquoted e) = refl
in_vector c (Spliced e t) = refl
in_vector c (Pair s t) = refl
in_vector c (Vector t) = refl

in_marked : (x : List ℕ) (t : Template) → in_template (marked x t) ≡ in_template t
in_marked x t =
    in_pair (Plain (constant.Symbol x)) (pair_of t (Plain constant.Nil))
    ∙ (in_pair t (Plain constant.Nil) ∙ append-nil (in_template t))

one_expr : (e : Datum) → in_exp (expr e) ≡ all (item e none)
one_expr e = sym (append-nil (in_exp (expr e)))

in_unquoted : (n : ℕ) (e : Datum) → ((m : ℕ) → Same (template e m) (evaluated e m))
    → Same (unquoted n (expr e) (template e)) (unquoted_in n e (evaluated e))
in_unquoted zero e h = one_expr e
in_unquoted (suc n) e h = in_marked (codes "unquote") (template e n) ∙ h n

in_spliced : (n : ℕ) (e : Datum) (rest : Template) → ((m : ℕ) → Same (template e m) (evaluated e m))
    → in_template (spliced n (expr e) (template e) rest) ≡ all (unquoted_in n e (evaluated e)) ++ in_template rest
in_spliced zero e rest h = ap (λ l. l ++ in_template rest) (one_expr e)
in_spliced (suc n) e rest h =
    in_pair (marked (codes "unquote-splicing") (template e n)) rest
    ∙ ap (λ l. l ++ in_template rest) (in_marked (codes "unquote-splicing") (template e n) ∙ h n)

-- Items

plain_item : (p : Pos) (d : Datum) (ds : Items) (n : ℕ) (inside : Items) → is_word (codes "unquote-splicing") d ≡ false
    → in_item (datum.List p (item d ds)) n inside ≡ inside
plain_item p d none n inside e = refl
plain_item p d (item x none) n inside e = ap (λ b. if b then unquoted_in n x (evaluated x) else inside) e
plain_item p d (item x (item y ds)) n inside e = refl

-- an item that is not spliced
past_item : (t rest : Template) (inside there : Items) → Same t inside → there ≡ inside
    → in_template (pair_of t rest) ≡ all there ++ in_template rest
past_item t rest inside there h e = in_pair t rest ∙ ap (λ l. l ++ in_template rest) (h ∙ ap all (sym e))

marked_item : (x : List ℕ) (e : Datum) (n : ℕ) (t rest : Template) (inside : Items) (b : Bool) → Same t inside
    → ((m : ℕ) → Same (template e m) (evaluated e m)) → bytes_eq x (codes "unquote-splicing") ≡ b
    → in_template (if bytes_eq x (codes "unquote-splicing") then spliced n (expr e) (template e) rest else pair_of t rest)
    ≡ all (if bytes_eq x (codes "unquote-splicing") then unquoted_in n e (evaluated e) else inside) ++ in_template rest
marked_item x e n t rest inside true h k q =
    ap (λ b. in_template (if b then spliced n (expr e) (template e) rest else pair_of t rest)) q
    ∙ (in_spliced n e rest k
    ∙ ap (λ b. all (if b then unquoted_in n e (evaluated e) else inside) ++ in_template rest) (sym q))
marked_item x e n t rest inside false h k q =
    ap (λ b. in_template (if b then spliced n (expr e) (template e) rest else pair_of t rest)) q
    ∙ (past_item t rest inside inside h refl
    ∙ ap (λ b. all (if b then unquoted_in n e (evaluated e) else inside) ++ in_template rest) (sym q))

-- Lists

one_left : (e : Datum) (n : ℕ) → in_list (item e none) n ≡ in_item e n (evaluated e n)
one_left e n = joined_none (in_item e n (evaluated e n))

past_list : (d : Datum) (ds : Items) (n : ℕ) → is_word (codes "unquote") d ≡ false → is_word (codes "quasiquote") d ≡ false
    → in_list (item d ds) n ≡ joined (in_item d n (evaluated d n)) (in_list ds n)
past_list d none n u q = refl
past_list d (item e (item f ds)) n u q = refl
past_list d (item e none) n u q =
    let this = in_item d n (evaluated d n) in
    let next = in_item e n (evaluated e n) in
    ap (λ b. if b then unquoted_in n e (evaluated e) else (if is_word (codes "quasiquote") d then evaluated e (suc n) else joined this next)) u
    ∙ (ap (λ b. if b then evaluated e (suc n) else joined this next) q ∙ ap (joined this) (sym (one_left e n)))

-- an item, and the list of those after it
and_rest : (d : Datum) (ds : Items) (n : ℕ) → Same (template_list ds n) (in_list ds n)
    → ((rest : Template) → in_template (template_before d n (template d n) rest) ≡ all (in_item d n (evaluated d n)) ++ in_template rest)
    → in_list (item d ds) n ≡ joined (in_item d n (evaluated d n)) (in_list ds n)
    → Same (template_before d n (template d n) (template_list ds n)) (in_list (item d ds) n)
and_rest d ds n rest one same =
    one (template_list ds n)
    ∙ (ap (λ l. all (in_item d n (evaluated d n)) ++ l) rest
    ∙ (sym (all_joined (in_item d n (evaluated d n)) (in_list ds n)) ∙ ap all (sym same)))

-- a word and an item at the end of a list
word_and_item : (x : List ℕ) (e : Datum) (n : ℕ) (u q : Bool) → ((m : ℕ) → Same (template e m) (evaluated e m))
    → ((rest : Template) → in_template (template_before e n (template e n) rest) ≡ all (in_item e n (evaluated e n)) ++ in_template rest)
    → bytes_eq x (codes "unquote") ≡ u → bytes_eq x (codes "quasiquote") ≡ q
    → in_template
    (if bytes_eq x (codes "unquote") then unquoted n (expr e) (template e)
    else
    (if bytes_eq x (codes "quasiquote") then marked (codes "quasiquote") (template e (suc n))
    else pair_of (Plain (constant.Symbol x)) (template_before e n (template e n) (Plain constant.Nil))))
    ≡ all
    (if bytes_eq x (codes "unquote") then unquoted_in n e (evaluated e)
    else (if bytes_eq x (codes "quasiquote") then evaluated e (suc n) else in_item e n (evaluated e n)))
word_and_item x e n true q h k f g = simp f (in_unquoted n e h)
word_and_item x e n false true h k f g = simp (f, g) (in_marked (codes "quasiquote") (template e (suc n)) ∙ h (suc n))
word_and_item x e n false false h k f g =
    simp (f, g)
    (in_pair (Plain (constant.Symbol x)) (template_before e n (template e n) (Plain constant.Nil))
    ∙ (k (Plain constant.Nil) ∙ append-nil (all (in_item e n (evaluated e n)))))

-- Data

mutual
  pub in_datum : (d : Datum) (n : ℕ) → Same (template d n) (evaluated d n)
  in_datum (datum.Atomic p a) n = refl
  in_datum (datum.List p is) n = list_same is n
  in_datum (datum.Dotted p is d) n =
      before_same is n (template d n)
      ∙ (ap (λ l. all (in_items is n) ++ l) (in_datum d n) ∙ sym (all_joined (in_items is n) (evaluated d n)))
  in_datum (datum.Vector p is) n = in_vector _ (template_list is n) ∙ list_same is n

  list_same : (is : Items) (n : ℕ) → Same (template_list is n) (in_list is n)
  list_same none n = refl
  list_same (item (datum.Atomic p (Symbol x)) (item e none)) n =
      word_and_item x e n (bytes_eq x (codes "unquote")) (bytes_eq x (codes "quasiquote")) (λ m. in_datum e m)
      (λ rest. item_same e n (template e n) rest (evaluated e n) (in_datum e n)) refl refl
  list_same (item (datum.Atomic p (Symbol x)) none) n =
      and_rest (datum.Atomic p (Symbol x)) none n (list_same none n)
      (λ rest. item_same (datum.Atomic p (Symbol x)) n (template (datum.Atomic p (Symbol x)) n) rest none refl) refl
  list_same (item (datum.Atomic p (Symbol x)) (item e (item f fs))) n =
      and_rest (datum.Atomic p (Symbol x)) (item e (item f fs)) n (list_same (item e (item f fs)) n)
      (λ rest. item_same (datum.Atomic p (Symbol x)) n (template (datum.Atomic p (Symbol x)) n) rest none refl) refl
  list_same (item (datum.Atomic p (Integer z)) ds) n =
      and_rest (datum.Atomic p (Integer z)) ds n (list_same ds n)
      (λ rest. item_same (datum.Atomic p (Integer z)) n (template (datum.Atomic p (Integer z)) n) rest none refl)
      (past_list (datum.Atomic p (Integer z)) ds n refl refl)
  list_same (item (datum.Atomic p (Boolean b)) ds) n =
      and_rest (datum.Atomic p (Boolean b)) ds n (list_same ds n)
      (λ rest. item_same (datum.Atomic p (Boolean b)) n (template (datum.Atomic p (Boolean b)) n) rest none refl)
      (past_list (datum.Atomic p (Boolean b)) ds n refl refl)
  list_same (item (datum.Atomic p (Character c)) ds) n =
      and_rest (datum.Atomic p (Character c)) ds n (list_same ds n)
      (λ rest. item_same (datum.Atomic p (Character c)) n (template (datum.Atomic p (Character c)) n) rest none refl)
      (past_list (datum.Atomic p (Character c)) ds n refl refl)
  list_same (item (datum.Atomic p (String t)) ds) n =
      and_rest (datum.Atomic p (String t)) ds n (list_same ds n)
      (λ rest. item_same (datum.Atomic p (String t)) n (template (datum.Atomic p (String t)) n) rest none refl)
      (past_list (datum.Atomic p (String t)) ds n refl refl)
  list_same (item (datum.List p is) ds) n =
      and_rest (datum.List p is) ds n (list_same ds n)
      (λ rest. item_same (datum.List p is) n (template_list is n) rest (in_list is n) (list_same is n))
      (past_list (datum.List p is) ds n refl refl)
  list_same (item (datum.Dotted p is d) ds) n =
      and_rest (datum.Dotted p is d) ds n (list_same ds n)
      (λ rest. item_same (datum.Dotted p is d) n (template (datum.Dotted p is d) n) rest (evaluated (datum.Dotted p is d) n) (in_datum (datum.Dotted p is d) n))
      (past_list (datum.Dotted p is d) ds n refl refl)
  list_same (item (datum.Vector p is) ds) n =
      and_rest (datum.Vector p is) ds n (list_same ds n)
      (λ rest. item_same (datum.Vector p is) n (template (datum.Vector p is) n) rest (in_list is n) (in_datum (datum.Vector p is) n))
      (past_list (datum.Vector p is) ds n refl refl)

  before_same : (is : Items) (n : ℕ) (t : Template) → in_template (templates_before is n t) ≡ all (in_items is n) ++ in_template t
  before_same none n t = refl
  before_same (item d ds) n t =
      let this = in_item d n (evaluated d n) in
      item_same d n (template d n) (templates_before ds n t) (evaluated d n) (in_datum d n)
      ∙ (ap (λ l. all this ++ l) (before_same ds n t)
      ∙ (sym (append_assoc (all this) (all (in_items ds n)) (in_template t))
      ∙ ap (λ l. l ++ in_template t) (sym (all_joined this (in_items ds n)))))

  item_same : (d : Datum) (n : ℕ) (t rest : Template) (inside : Items) → Same t inside
      → in_template (template_before d n t rest) ≡ all (in_item d n inside) ++ in_template rest
  item_same (datum.List p (item (datum.Atomic q (Symbol x)) (item e none))) n t rest inside h =
      marked_item x e n t rest inside (bytes_eq x (codes "unquote-splicing")) h (λ m. in_datum e m) refl
  item_same (datum.List p (item (datum.Atomic q (Symbol x)) none)) n t rest inside h = past_item t rest inside inside h refl
  item_same (datum.List p (item (datum.Atomic q (Symbol x)) (item e (item f fs)))) n t rest inside h = past_item t rest inside inside h refl
  item_same (datum.List p none) n t rest inside h = past_item t rest inside inside h refl
  item_same (datum.List p (item (datum.Atomic q (Integer z)) ds)) n t rest inside h =
      past_item t rest inside _ h (plain_item p (datum.Atomic q (Integer z)) ds n inside refl)
  item_same (datum.List p (item (datum.Atomic q (Boolean b)) ds)) n t rest inside h =
      past_item t rest inside _ h (plain_item p (datum.Atomic q (Boolean b)) ds n inside refl)
  item_same (datum.List p (item (datum.Atomic q (Character c)) ds)) n t rest inside h =
      past_item t rest inside _ h (plain_item p (datum.Atomic q (Character c)) ds n inside refl)
  item_same (datum.List p (item (datum.Atomic q (String s)) ds)) n t rest inside h =
      past_item t rest inside _ h (plain_item p (datum.Atomic q (String s)) ds n inside refl)
  item_same (datum.List p (item (datum.List q is) ds)) n t rest inside h =
      past_item t rest inside _ h (plain_item p (datum.List q is) ds n inside refl)
  item_same (datum.List p (item (datum.Dotted q is d) ds)) n t rest inside h =
      past_item t rest inside _ h (plain_item p (datum.Dotted q is d) ds n inside refl)
  item_same (datum.List p (item (datum.Vector q is) ds)) n t rest inside h =
      past_item t rest inside _ h (plain_item p (datum.Vector q is) ds n inside refl)
  item_same (datum.Atomic p a) n t rest inside h = past_item t rest inside inside h refl
  item_same (datum.Dotted p is d) n t rest inside h = past_item t rest inside inside h refl
  item_same (datum.Vector p is) n t rest inside h = past_item t rest inside inside h refl
