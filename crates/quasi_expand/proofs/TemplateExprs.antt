-- The expressions in a template are those that are evaluated in its datum, and its steps have them in that order.
use Rattle.std.proofs.Common.{ℕ, zero, suc, ◌≡◌, List as Seq, [], ◌∷◌, ◌++◌, Bool, true, false, refl, sym, ap, subst, ◌∙◌}
use Rattle.std.specs.Prelude.{if◌then◌else◌, codes}
use Rattle.scheme_base.specs.Constants.{Constant, Constant as constant}
use Rattle.datum_form.specs.declared.datums.Node.{Node}
use Rattle.datum_form.specs.Data.{Datum, Datum as datum, Items}
use Rattle.datum_form.specs.Data.Items.{none, item}
use Rattle.datum_form.specs.Stands.{Stands, StandAll}
use Rattle.quasi_expand.specs.declared.template.Part.{Part}
use Rattle.quasi_expand.specs.declared.template.Part.TheVariants as part
use Rattle.quasi_expand.specs.Levels.{joined, evaluated, in_list, in_items, in_item, unquoted as unquoted_in}
use Rattle.quasi_expand.specs.Making.{MakeAll}
use Rattle.quasi_expand.specs.Shapes.{is_word}
use Rattle.quasi_expand.specs.Steps.{exprs_in, Gives}
use Rattle.quasi_expand.specs.Templates.{Template, Entry, Plain, Unquoted, Spliced, Pair, Vector, One, All, pair_of, vector_of, before, all_before, marked, unquoted, spliced, template, template_list, entries, entry}
use Rattle.quasi_expand.proofs.Listing.{joined_none, joined_assoc}

-- in the order in which they stand
abbrev exprs_of : Template → Items
exprs_of (Plain c) = none
exprs_of (Unquoted e) = item e none
exprs_of (Spliced e rest) = item e (exprs_of rest)
exprs_of (Pair s t) = joined (exprs_of s) (exprs_of t)
exprs_of (Vector t) = exprs_of t

abbrev entry_exprs : Entry → Items
entry_exprs (One t) = exprs_of t
entry_exprs (All e) = item e none

-- Templates whose parts are known

in_pair : (s t : Template) → exprs_of (pair_of s t) ≡ joined (exprs_of s) (exprs_of t)
in_pair (Plain c) (Plain d) = refl
in_pair (Plain c) (Unquoted e) = refl
in_pair (Plain c) (Spliced e t) = refl
in_pair (Plain c) (Pair s t) = refl
in_pair (Plain c) (Vector t) = refl
in_pair (Unquoted e) t = refl
in_pair (Spliced e s) t = refl
in_pair (Pair r s) t = refl
in_pair (Vector s) t = refl

in_vector : (c : Constant) (t : Template) → exprs_of (vector_of c t) ≡ exprs_of t
in_vector c (Plain d) = refl
in_vector c (Unquoted e) = refl
in_vector c (Spliced e t) = refl
in_vector c (Pair s t) = refl
in_vector c (Vector t) = refl

in_before : (e : Entry) (rest : Template) → exprs_of (before e rest) ≡ joined (entry_exprs e) (exprs_of rest)
in_before (One t) rest = in_pair t rest
in_before (All e) rest = refl

in_marked : (x : Seq ℕ) (t : Template) → exprs_of (marked x t) ≡ exprs_of t
in_marked x t =
    in_pair (Plain (constant.Symbol x)) (pair_of t (Plain constant.Nil))
    ∙ (in_pair t (Plain constant.Nil) ∙ joined_none (exprs_of t))

-- the expressions of a datum are these, at each level
abbrev AtLevels : Datum → Type 0
AtLevels e = (m : ℕ) → exprs_of (template e m) ≡ evaluated e m

in_unquoted : (x : Seq ℕ) (n : ℕ) (e : Datum) → AtLevels e
    → exprs_of (unquoted x n e (template e)) ≡ unquoted_in n e (evaluated e)
in_unquoted x zero e h = refl
in_unquoted x (suc n) e h = in_marked x (template e n) ∙ h n

in_spliced : (n : ℕ) (e : Datum) → AtLevels e → entry_exprs (spliced n e (template e)) ≡ unquoted_in n e (evaluated e)
in_spliced zero e h = refl
in_spliced (suc n) e h = in_marked (codes "unquote-splicing") (template e n) ∙ h n

chosen : {A : Type 0} (f : A → Items) (b : Bool) (s t : A) (xs ys : Items) → f s ≡ xs → f t ≡ ys
    → f (if b then s else t) ≡ (if b then xs else ys)
chosen f true s t xs ys p q = p
chosen f false s t xs ys p q = q

item_before : (e : Entry) (rest : Template) (xs ys : Items) → entry_exprs e ≡ xs → exprs_of rest ≡ ys
    → exprs_of (before e rest) ≡ joined xs ys
item_before e rest xs ys p q = in_before e rest ∙ (ap (λ l. joined l (exprs_of rest)) p ∙ ap (joined xs) q)

-- Data

mutual
  in_datum : (d : Datum) → AtLevels d
  in_datum (datum.Atomic p a) n = refl
  in_datum (datum.List p is) n = in_list_of is n
  in_datum (datum.Dotted p is d) n = in_entries is n (template d n) ∙ ap (joined (in_items is n)) (in_datum d n)
  in_datum (datum.Vector p is) n = in_vector _ (template_list is n) ∙ in_list_of is n

  in_list_of : (is : Items) (n : ℕ) → exprs_of (template_list is n) ≡ in_list is n
  in_list_of none n = refl
  in_list_of (item d none) n =
      item_before (entry d n (template d n)) (Plain constant.Nil) (in_item d n (evaluated d n)) none
      (in_entry d n (template d n) (evaluated d n) (in_datum d n)) refl
  in_list_of (item d (item e none)) n =
      let next : Template = before (entry e n (template e n)) (Plain constant.Nil) in
      let plain : Template = before (entry d n (template d n)) next in
      let this = in_item d n (evaluated d n) in
      let other = in_item e n (evaluated e n) in
      chosen exprs_of (is_word (codes "unquote") d) (unquoted (codes "unquote") n e (template e))
      (if is_word (codes "quasiquote") d then marked (codes "quasiquote") (template e (suc n)) else plain)
      (unquoted_in n e (evaluated e)) (if is_word (codes "quasiquote") d then evaluated e (suc n) else joined this other)
      (in_unquoted (codes "unquote") n e (λ m. in_datum e m))
      (chosen exprs_of (is_word (codes "quasiquote") d) (marked (codes "quasiquote") (template e (suc n))) plain
      (evaluated e (suc n)) (joined this other)
      (in_marked (codes "quasiquote") (template e (suc n)) ∙ in_datum e (suc n))
      (item_before (entry d n (template d n)) next this other
      (in_entry d n (template d n) (evaluated d n) (in_datum d n))
      (item_before (entry e n (template e n)) (Plain constant.Nil) other none
      (in_entry e n (template e n) (evaluated e n) (in_datum e n)) refl
      ∙ joined_none other)))
  in_list_of (item d (item e (item f fs))) n =
      item_before (entry d n (template d n)) (template_list (item e (item f fs)) n) (in_item d n (evaluated d n))
      (in_list (item e (item f fs)) n)
      (in_entry d n (template d n) (evaluated d n) (in_datum d n)) (in_list_of (item e (item f fs)) n)

  in_entries : (is : Items) (n : ℕ) (t : Template) → exprs_of (all_before (entries is n) t) ≡ joined (in_items is n) (exprs_of t)
  in_entries none n t = refl
  in_entries (item d ds) n t =
      let this = in_item d n (evaluated d n) in
      item_before (entry d n (template d n)) (all_before (entries ds n) t) this (joined (in_items ds n) (exprs_of t))
      (in_entry d n (template d n) (evaluated d n) (in_datum d n)) (in_entries ds n t)
      ∙ sym (joined_assoc this (in_items ds n) (exprs_of t))

  in_entry : (d : Datum) (n : ℕ) (t : Template) (inside : Items) → exprs_of t ≡ inside
      → entry_exprs (entry d n t) ≡ in_item d n inside
  in_entry (datum.List p (item d (item e none))) n t inside h =
      chosen entry_exprs (is_word (codes "unquote-splicing") d) (spliced n e (template e)) (One t)
      (unquoted_in n e (evaluated e)) inside (in_spliced n e (λ m. in_datum e m)) h
  in_entry (datum.List p none) n t inside h = h
  in_entry (datum.List p (item d none)) n t inside h = h
  in_entry (datum.List p (item d (item e (item f fs)))) n t inside h = h
  in_entry (datum.Atomic p a) n t inside h = h
  in_entry (datum.Dotted p is d) n t inside h = h
  in_entry (datum.Vector p is) n t inside h = h

-- Steps

stand_joined : (nodes : Seq Node) (is js : Seq ℕ) (ds es : Items) → StandAll nodes is ds → StandAll nodes js es
    → StandAll nodes (is ++ js) (joined ds es)
stand_joined nodes is js none es p q = let P : Seq ℕ → Type 0 = λ l. StandAll nodes (l ++ js) es in subst P (sym p) q
stand_joined nodes is js (item d ds) es p q =
    (p.0, p.1 ++ js, ap (λ l. l ++ js) p.2, p.3, stand_joined nodes p.1 js ds es p.4 q)

-- of a stack, the last one on top
abbrev stack_exprs : Seq Template → Items
stack_exprs [] = none
stack_exprs (t ∷ s) = joined (stack_exprs s) (exprs_of t)

-- the expressions that stand in steps are those that come onto the stack
record Comes (nodes : Seq Node) (ids : Seq ℕ) (a b : Seq Template) : Type 0 where
  exprs : Items
  stand : StandAll nodes ids exprs
  total : stack_exprs b ≡ joined (stack_exprs a) exprs

none_come : (nodes : Seq Node) (a b : Seq Template) → stack_exprs b ≡ stack_exprs a → Comes nodes [] a b
none_come nodes a b e = record { exprs = none; stand = refl; total = e ∙ sym (joined_none (stack_exprs a)) }

one_comes : (nodes : Seq Node) (id : ℕ) (d : Datum) (a b : Seq Template) → Stands nodes id d → b ≡ Unquoted d ∷ a
    → Comes nodes (id ∷ []) a b
one_comes nodes id d a b h e = record { exprs = item d none; stand = (id, [], refl, h, refl); total = ap stack_exprs e }

then_come : (nodes : Seq Node) (ids js : Seq ℕ) (a b c : Seq Template) → Comes nodes ids a b → Comes nodes js b c
    → Comes nodes (ids ++ js) a c
then_come nodes ids js a b c h k = record {
  exprs = joined h.exprs k.exprs;
  stand = stand_joined nodes ids js h.exprs k.exprs h.stand k.stand;
  total = k.total ∙ (ap (λ l. joined l k.exprs) h.total ∙ joined_assoc (stack_exprs a) h.exprs k.exprs);
}

pair_total : (s t : Template) (others a b : Seq Template) → a ≡ t ∷ s ∷ others → b ≡ Pair s t ∷ others
    → stack_exprs b ≡ stack_exprs a
pair_total s t others a b e f =
    ap stack_exprs f ∙ (sym (joined_assoc (stack_exprs others) (exprs_of s) (exprs_of t)) ∙ ap stack_exprs (sym e))

join_total : (d : Datum) (t : Template) (others a b : Seq Template) → a ≡ t ∷ Unquoted d ∷ others → b ≡ Spliced d t ∷ others
    → stack_exprs b ≡ stack_exprs a
join_total d t others a b e f =
    ap stack_exprs f ∙ (sym (joined_assoc (stack_exprs others) (item d none) (exprs_of t)) ∙ ap stack_exprs (sym e))

come : (nodes : Seq Node) (ps : Seq Part) (a b : Seq Template) → MakeAll nodes ps a b → Comes nodes (exprs_in ps) a b
come nodes [] a b h = none_come nodes a b (ap stack_exprs h)
come nodes (part.Expr id ∷ ps) a b h =
    then_come nodes (id ∷ []) (exprs_in ps) a h.0 b (one_comes nodes id h.1.0 a h.0 h.1.1 h.1.2) (come nodes ps h.0 b h.2)
come nodes (part.Datum id ∷ ps) a b h =
    then_come nodes [] (exprs_in ps) a h.0 b
    (none_come nodes a h.0 (ap stack_exprs h.1.2 ∙ joined_none (stack_exprs a))) (come nodes ps h.0 b h.2)
come nodes (part.Rest id from ∷ ps) a b h =
    then_come nodes [] (exprs_in ps) a h.0 b
    (none_come nodes a h.0 (ap stack_exprs h.1.2 ∙ joined_none (stack_exprs a))) (come nodes ps h.0 b h.2)
come nodes (part.Cons ∷ ps) a b h =
    then_come nodes [] (exprs_in ps) a h.0 b
    (none_come nodes a h.0 (pair_total h.1.0 h.1.1 h.1.2 a h.0 h.1.3 h.1.4)) (come nodes ps h.0 b h.2)
come nodes (part.Join ∷ ps) a b h =
    then_come nodes [] (exprs_in ps) a h.0 b
    (none_come nodes a h.0 (join_total h.1.0 h.1.1 h.1.2 a h.0 h.1.3 h.1.4)) (come nodes ps h.0 b h.2)
come nodes (part.Vector ∷ ps) a b h =
    then_come nodes [] (exprs_in ps) a h.0 b
    (none_come nodes a h.0 (ap stack_exprs h.1.3 ∙ ap stack_exprs (sym h.1.2))) (come nodes ps h.0 b h.2)

-- steps that make a datum's template
pub made_exprs : (nodes : Seq Node) (ps : Seq Part) (d : Datum) → MakeAll nodes ps [] (template d 0 ∷ [])
    → StandAll nodes (exprs_in ps) (evaluated d 0)
made_exprs nodes ps d h =
    let r = come nodes ps [] (template d 0 ∷ []) h in
    let P : Items → Type 0 = λ l. StandAll nodes (exprs_in ps) l in
    subst P (sym r.total ∙ in_datum d 0) r.stand

-- all that is given where nothing was
pub given_all : (nodes : Seq Node) (found : Bool) (a b : Seq Part) (t : Template) → a ≡ [] → Gives nodes found a b t
    → MakeAll nodes b [] (t ∷ [])
given_all nodes true a b t e g =
    let P : Seq Part → Type 0 = λ l. MakeAll nodes l [] (t ∷ []) in
    subst P (sym (g.longer ∙ ap (λ l. l ++ g.more) e)) (g.make [])
given_all nodes false a b t e g =
    let P : Seq Part → Type 0 = λ l. MakeAll nodes l [] (t ∷ []) in
    subst P (sym (g.1 ∙ ap (λ l. l ++ g.0 ∷ []) e)) (t ∷ [], g.2 [], refl)
