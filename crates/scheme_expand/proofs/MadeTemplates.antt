-- The template that is read of a datum is that of the grammar, with its expressions read, and what its steps make is
-- its core.
use Rattle.std.proofs.Common.{ℕ, zero, suc, ◌≡◌, List, [], ◌∷◌, map, Bool, true, false, refl, sym, ap, subst, ◌∙◌}
use Rattle.std.specs.Prelude.{if◌then◌else◌, codes}
use Rattle.std.specs.Str.{bytes_eq}
use Rattle.scheme_base.specs.declared.pos.Pos.{Pos}
use Rattle.scheme_base.specs.declared.op.Op.TheVariants as op
use Rattle.scheme_base.specs.Constants.{Constant, Constant as constant}
use Rattle.datum_form.specs.declared.datums.Node.{Node}
use Rattle.datum_form.specs.declared.token.Atom.TheVariants.{Integer, Boolean, Character, String, Symbol}
use Rattle.datum_form.specs.Data.{Datum, Datum as datum, Items}
use Rattle.datum_form.specs.Data.Items.{none, item}
use Rattle.datum_form.specs.Stands.{Stands}
use Rattle.draft_form.specs.declared.draft.Constant.{Constant as Held}
use Rattle.draft_form.specs.declared.draft.Constant.TheVariants as held
use Rattle.draft_form.specs.Drafts.{Draft, Library, Const, Ref, Call, Prim}
use Rattle.draft_form.specs.Quoted.{IsHeld, constants}
use Rattle.quasi_expand.specs.declared.template.Part.{Part}
use Rattle.quasi_expand.specs.declared.template.Part.TheVariants as part
use Rattle.quasi_expand.specs.Making.{Makes, MakeAll}
use Rattle.quasi_expand.specs.Shapes.{is_word}
use Rattle.quasi_expand.specs.Templates as quasi
use Rattle.scheme_expand.specs.Calls.{one, two}
use Rattle.scheme_expand.specs.Forms.{Template, Plain, Unquoted, Spliced, Pair, Vector, Quasi}
use Rattle.scheme_expand.specs.Grammar.{expr, pair_of, vector_of, marked, unquoted, spliced, template, template_list, templates_before, template_before}
use Rattle.scheme_expand.specs.Rewriting.{Scope, core, template_core}

-- the expressions of a template are read
abbrev pub read : quasi.Template → Template
read (quasi.Plain c) = Plain c
read (quasi.Unquoted e) = Unquoted (expr e)
read (quasi.Spliced e rest) = Spliced (expr e) (read rest)
read (quasi.Pair s t) = Pair (read s) (read t)
read (quasi.Vector t) = Vector (read t)

-- Templates whose parts are known

read_pair : (s t : quasi.Template) → read (quasi.pair_of s t) ≡ pair_of (read s) (read t)
read_pair (quasi.Plain c) (quasi.Plain d) = refl
read_pair (quasi.Plain c) (quasi.Unquoted e) = refl
read_pair (quasi.Plain c) (quasi.Spliced e t) = refl
read_pair (quasi.Plain c) (quasi.Pair s t) = refl
read_pair (quasi.Plain c) (quasi.Vector t) = refl
read_pair (quasi.Unquoted e) t = refl
read_pair (quasi.Spliced e s) t = refl
read_pair (quasi.Pair r s) t = refl
read_pair (quasi.Vector s) t = refl

read_vector : (c : Constant) (t : quasi.Template) → read (quasi.vector_of c t) ≡ vector_of c (read t)
read_vector c (quasi.Plain d) = refl
read_vector c (quasi.Unquoted e) = refl
read_vector c (quasi.Spliced e t) = refl
read_vector c (quasi.Pair s t) = refl
read_vector c (quasi.Vector t) = refl

read_marked : (x : List ℕ) (t : quasi.Template) → read (quasi.marked x t) ≡ marked x (read t)
read_marked x t =
    read_pair (quasi.Plain (constant.Symbol x)) (quasi.pair_of t (quasi.Plain constant.Nil))
    ∙ ap (pair_of (Plain (constant.Symbol x))) (read_pair t (quasi.Plain constant.Nil))

-- a datum's templates are read
abbrev AtLevels : Datum → Type 0
AtLevels e = (m : ℕ) → read (quasi.template e m) ≡ template e m

read_unquoted : (n : ℕ) (e : Datum) → AtLevels e
    → read (quasi.unquoted (codes "unquote") n e (quasi.template e)) ≡ unquoted n (expr e) (template e)
read_unquoted zero e h = refl
read_unquoted (suc n) e h = read_marked (codes "unquote") (quasi.template e n) ∙ ap (marked (codes "unquote")) (h n)

read_spliced : (n : ℕ) (e : Datum) (rest : quasi.Template) → AtLevels e
    → read (quasi.before (quasi.spliced n e (quasi.template e)) rest) ≡ spliced n (expr e) (template e) (read rest)
read_spliced zero e rest h = refl
read_spliced (suc n) e rest h =
    read_pair (quasi.marked (codes "unquote-splicing") (quasi.template e n)) rest
    ∙ ap (λ t. pair_of t (read rest))
    (read_marked (codes "unquote-splicing") (quasi.template e n) ∙ ap (marked (codes "unquote-splicing")) (h n))

chosen : {A : Type 0} (f : A → Template) (b : Bool) (s t : A) (u v : Template) → f s ≡ u → f t ≡ v
    → f (if b then s else t) ≡ (if b then u else v)
chosen f true s t u v p q = p
chosen f false s t u v p q = q

-- an item that is the list of a word and a datum
read_word : (x : List ℕ) (e : Datum) (n : ℕ) (t rest : quasi.Template) → AtLevels e
    → read (quasi.before (if bytes_eq x (codes "unquote-splicing") then quasi.spliced n e (quasi.template e) else quasi.One t) rest)
    ≡ (if bytes_eq x (codes "unquote-splicing") then spliced n (expr e) (template e) (read rest) else pair_of (read t) (read rest))
read_word x e n t rest h =
    chosen (λ y. read (quasi.before y rest)) (bytes_eq x (codes "unquote-splicing")) (quasi.spliced n e (quasi.template e))
    (quasi.One t) (spliced n (expr e) (template e) (read rest)) (pair_of (read t) (read rest)) (read_spliced n e rest h)
    (read_pair t rest)

-- Lists

one_left : (d : Datum) (n : ℕ) → template_list (item d none) n ≡ template_before d n (template d n) (Plain constant.Nil)
one_left (datum.Atomic p (Integer z)) n = refl
one_left (datum.Atomic p (Boolean b)) n = refl
one_left (datum.Atomic p (Character c)) n = refl
one_left (datum.Atomic p (String t)) n = refl
one_left (datum.Atomic p (Symbol x)) n = refl
one_left (datum.List p is) n = refl
one_left (datum.Dotted p is d) n = refl
one_left (datum.Vector p is) n = refl

-- a list whose last two items are these
abbrev last_two : Datum → Datum → ℕ → Template
last_two d e n =
    if is_word (codes "unquote") d then unquoted n (expr e) (template e)
    else
    (if is_word (codes "quasiquote") d then marked (codes "quasiquote") (template e (suc n))
    else template_before d n (template d n) (template_before e n (template e n) (Plain constant.Nil)))

two_left : (d e : Datum) (n : ℕ) → template_list (item d (item e none)) n ≡ last_two d e n
two_left (datum.Atomic p (Symbol x)) e n = refl
two_left (datum.Atomic p (Integer z)) e n = ap (template_before (datum.Atomic p (Integer z)) n (template (datum.Atomic p (Integer z)) n)) (one_left e n)
two_left (datum.Atomic p (Boolean b)) e n = ap (template_before (datum.Atomic p (Boolean b)) n (template (datum.Atomic p (Boolean b)) n)) (one_left e n)
two_left (datum.Atomic p (Character c)) e n = ap (template_before (datum.Atomic p (Character c)) n (template (datum.Atomic p (Character c)) n)) (one_left e n)
two_left (datum.Atomic p (String t)) e n = ap (template_before (datum.Atomic p (String t)) n (template (datum.Atomic p (String t)) n)) (one_left e n)
two_left (datum.List p is) e n = ap (template_before (datum.List p is) n (template (datum.List p is) n)) (one_left e n)
two_left (datum.Dotted p is d) e n = ap (template_before (datum.Dotted p is d) n (template (datum.Dotted p is d) n)) (one_left e n)
two_left (datum.Vector p is) e n = ap (template_before (datum.Vector p is) n (template (datum.Vector p is) n)) (one_left e n)

more_left : (d e f : Datum) (ds : Items) (n : ℕ)
    → template_list (item d (item e (item f ds))) n ≡ template_before d n (template d n) (template_list (item e (item f ds)) n)
more_left (datum.Atomic p (Integer z)) e f ds n = refl
more_left (datum.Atomic p (Boolean b)) e f ds n = refl
more_left (datum.Atomic p (Character c)) e f ds n = refl
more_left (datum.Atomic p (String t)) e f ds n = refl
more_left (datum.Atomic p (Symbol x)) e f ds n = refl
more_left (datum.List p is) e f ds n = refl
more_left (datum.Dotted p is d) e f ds n = refl
more_left (datum.Vector p is) e f ds n = refl

-- Data

-- an item and the rest of its list
abbrev Follows : Datum → ℕ → quasi.Template → Type 0
Follows d n t = (rest : quasi.Template) → read (quasi.before (quasi.entry d n t) rest) ≡ template_before d n (read t) (read rest)

past_item : (d : Datum) (n : ℕ) (rest : quasi.Template) (u : Template) → Follows d n (quasi.template d n)
    → read (quasi.template d n) ≡ template d n → read rest ≡ u
    → read (quasi.before (quasi.entry d n (quasi.template d n)) rest) ≡ template_before d n (template d n) u
past_item d n rest u f e g =
    f rest ∙ (ap (λ t. template_before d n t (read rest)) e ∙ ap (template_before d n (template d n)) g)

mutual
  -- at each level
  pub read_template : (d : Datum) → AtLevels d
  read_template (datum.Atomic p a) n = refl
  read_template (datum.List p is) n = read_list is n
  read_template (datum.Dotted p is d) n = read_entries is n (quasi.template d n) ∙ ap (templates_before is n) (read_template d n)
  read_template (datum.Vector p is) n =
      read_vector (constant.Vector (constants is)) (quasi.template_list is n)
      ∙ ap (vector_of (constant.Vector (constants is))) (read_list is n)

  read_list : (is : Items) (n : ℕ) → read (quasi.template_list is n) ≡ template_list is n
  read_list none n = refl
  read_list (item d none) n =
      past_item d n (quasi.Plain constant.Nil) (Plain constant.Nil) (read_entry d n (quasi.template d n)) (read_template d n) refl
      ∙ sym (one_left d n)
  read_list (item d (item e none)) n =
      let next : quasi.Template = quasi.before (quasi.entry e n (quasi.template e n)) (quasi.Plain constant.Nil) in
      let plain : quasi.Template = quasi.before (quasi.entry d n (quasi.template d n)) next in
      let further : quasi.Template = quasi.marked (codes "quasiquote") (quasi.template e (suc n)) in
      let next_read : Template = template_before e n (template e n) (Plain constant.Nil) in
      let plain_read : Template = template_before d n (template d n) next_read in
      let further_read : Template = marked (codes "quasiquote") (template e (suc n)) in
      chosen read (is_word (codes "unquote") d) (quasi.unquoted (codes "unquote") n e (quasi.template e))
      (if is_word (codes "quasiquote") d then further else plain) (unquoted n (expr e) (template e))
      (if is_word (codes "quasiquote") d then further_read else plain_read) (read_unquoted n e (λ m. read_template e m))
      (chosen read (is_word (codes "quasiquote") d) further plain further_read plain_read
      (read_marked (codes "quasiquote") (quasi.template e (suc n)) ∙ ap (marked (codes "quasiquote")) (read_template e (suc n)))
      (past_item d n next next_read (read_entry d n (quasi.template d n)) (read_template d n)
      (past_item e n (quasi.Plain constant.Nil) (Plain constant.Nil) (read_entry e n (quasi.template e n)) (read_template e n) refl)))
      ∙ sym (two_left d e n)
  read_list (item d (item e (item f ds))) n =
      past_item d n (quasi.template_list (item e (item f ds)) n) (template_list (item e (item f ds)) n)
      (read_entry d n (quasi.template d n)) (read_template d n) (read_list (item e (item f ds)) n)
      ∙ sym (more_left d e f ds n)

  read_entries : (is : Items) (n : ℕ) (t : quasi.Template)
      → read (quasi.all_before (quasi.entries is n) t) ≡ templates_before is n (read t)
  read_entries none n t = refl
  read_entries (item d ds) n t =
      past_item d n (quasi.all_before (quasi.entries ds n) t) (templates_before ds n (read t))
      (read_entry d n (quasi.template d n)) (read_template d n) (read_entries ds n t)

  read_entry : (d : Datum) (n : ℕ) (t : quasi.Template) → Follows d n t
  read_entry (datum.List p (item (datum.Atomic q (Symbol x)) (item e none))) n t rest =
      read_word x e n t rest (λ m. read_template e m)
  read_entry (datum.List p (item (datum.Atomic q (Symbol x)) none)) n t rest = read_pair t rest
  read_entry (datum.List p (item (datum.Atomic q (Symbol x)) (item e (item f ds)))) n t rest = read_pair t rest
  read_entry (datum.List p none) n t rest = read_pair t rest
  read_entry (datum.List p (item (datum.Atomic q (Integer z)) none)) n t rest = read_pair t rest
  read_entry (datum.List p (item (datum.Atomic q (Integer z)) (item e none))) n t rest = read_pair t rest
  read_entry (datum.List p (item (datum.Atomic q (Integer z)) (item e (item f ds)))) n t rest = read_pair t rest
  read_entry (datum.List p (item (datum.Atomic q (Boolean b)) none)) n t rest = read_pair t rest
  read_entry (datum.List p (item (datum.Atomic q (Boolean b)) (item e none))) n t rest = read_pair t rest
  read_entry (datum.List p (item (datum.Atomic q (Boolean b)) (item e (item f ds)))) n t rest = read_pair t rest
  read_entry (datum.List p (item (datum.Atomic q (Character c)) none)) n t rest = read_pair t rest
  read_entry (datum.List p (item (datum.Atomic q (Character c)) (item e none))) n t rest = read_pair t rest
  read_entry (datum.List p (item (datum.Atomic q (Character c)) (item e (item f ds)))) n t rest = read_pair t rest
  read_entry (datum.List p (item (datum.Atomic q (String s)) none)) n t rest = read_pair t rest
  read_entry (datum.List p (item (datum.Atomic q (String s)) (item e none))) n t rest = read_pair t rest
  read_entry (datum.List p (item (datum.Atomic q (String s)) (item e (item f ds)))) n t rest = read_pair t rest
  read_entry (datum.List p (item (datum.List q is) none)) n t rest = read_pair t rest
  read_entry (datum.List p (item (datum.List q is) (item e none))) n t rest = read_pair t rest
  read_entry (datum.List p (item (datum.List q is) (item e (item f ds)))) n t rest = read_pair t rest
  read_entry (datum.List p (item (datum.Dotted q is d) none)) n t rest = read_pair t rest
  read_entry (datum.List p (item (datum.Dotted q is d) (item e none))) n t rest = read_pair t rest
  read_entry (datum.List p (item (datum.Dotted q is d) (item e (item f ds)))) n t rest = read_pair t rest
  read_entry (datum.List p (item (datum.Vector q is) none)) n t rest = read_pair t rest
  read_entry (datum.List p (item (datum.Vector q is) (item e none))) n t rest = read_pair t rest
  read_entry (datum.List p (item (datum.Vector q is) (item e (item f ds)))) n t rest = read_pair t rest
  read_entry (datum.Atomic p a) n t rest = read_pair t rest
  read_entry (datum.Dotted p is d) n t rest = read_pair t rest
  read_entry (datum.Vector p is) n t rest = read_pair t rest

-- What a step of a template does with the drafts that are made, the last one first

abbrev PutsConst : List Node → Pos → Held → (before after : List Draft) → Type 0
PutsConst nodes p h before after = (c : Constant) × IsHeld nodes h c × (after ≡ Const p c ∷ before)

abbrev pub Does : List Node → Pos → Scope → Part → (before after : List Draft) → Type 0
Does nodes p s (part.Datum id) before after = PutsConst nodes p (held.Datum id) before after
Does nodes p s (part.Rest id from) before after = PutsConst nodes p (held.Rest id from) before after
Does nodes p s (part.Expr id) before after = (d : Datum) × Stands nodes id d × (after ≡ core (expr d) s ∷ before)
Does nodes p s part.Cons before after =
    (car cdr : Draft) × (others : List Draft) × (before ≡ cdr ∷ car ∷ others)
    × (after ≡ Prim p op.Cons (two car cdr) ∷ others)
Does nodes p s part.Join before after =
    (items rest : Draft) × (others : List Draft) × (before ≡ rest ∷ items ∷ others)
    × (after ≡ Call p (Ref p (Library (codes "%join"))) (two items rest) ∷ others)
Does nodes p s part.Vector before after =
    (items : Draft) × (others : List Draft) × (before ≡ items ∷ others)
    × (after ≡ Call p (Ref p (Library (codes "list->vector"))) (one items) ∷ others)

abbrev pub DoAll : List Node → Pos → Scope → List Part → (before after : List Draft) → Type 0
DoAll nodes p s [] before after = after ≡ before
DoAll nodes p s (x ∷ xs) before after =
    (next : List Draft) × Does nodes p s x before next × DoAll nodes p s xs next after

abbrev pub cores_of : Pos → Scope → List quasi.Template → List Draft
cores_of p s ts = map (λ t. template_core (read t) p s) ts

step_done : (nodes : List Node) (p : Pos) (s : Scope) (x : Part) (a b : List quasi.Template) → Makes nodes x a b
    → Does nodes p s x (cores_of p s a) (cores_of p s b)
step_done nodes p s (part.Datum id) a b h = (h.0, h.1, ap (cores_of p s) h.2)
step_done nodes p s (part.Rest id from) a b h = (h.0, h.1, ap (cores_of p s) h.2)
step_done nodes p s (part.Expr id) a b h = (h.0, h.1, ap (cores_of p s) h.2)
step_done nodes p s part.Cons a b h = (
  template_core (read h.0) p s,
  template_core (read h.1) p s,
  cores_of p s h.2,
  ap (cores_of p s) h.3,
  ap (cores_of p s) h.4,
)
step_done nodes p s part.Join a b h = (
  core (expr h.0) s,
  template_core (read h.1) p s,
  cores_of p s h.2,
  ap (cores_of p s) h.3,
  ap (cores_of p s) h.4,
)
step_done nodes p s part.Vector a b h =
    (template_core (read h.0) p s, cores_of p s h.1, ap (cores_of p s) h.2, ap (cores_of p s) h.3)

all_done : (nodes : List Node) (p : Pos) (s : Scope) (xs : List Part) (a b : List quasi.Template) → MakeAll nodes xs a b
    → DoAll nodes p s xs (cores_of p s a) (cores_of p s b)
all_done nodes p s [] a b h = ap (cores_of p s) h
all_done nodes p s (x ∷ xs) a b h =
    (cores_of p s h.0, step_done nodes p s x a h.0 h.1, all_done nodes p s xs h.0 b h.2)

-- the steps of a datum's template make the core of its quasiquote
pub template_done : (nodes : List Node) (p : Pos) (s : Scope) (xs : List Part) (d : Datum)
    → MakeAll nodes xs [] (quasi.template d 0 ∷ []) → DoAll nodes p s xs [] (core (Quasi p (template d 0)) s ∷ [])
template_done nodes p s xs d h =
    subst (λ t. DoAll nodes p s xs [] (template_core t p s ∷ [])) (read_template d 0)
    (all_done nodes p s xs [] (quasi.template d 0 ∷ []) h)
