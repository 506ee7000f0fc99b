-- A template that is a literal is its datum as it is written.
use Rattle.std.proofs.Common.{◌≡◌, ℕ, zero, suc, Bool, true, false, List as Seq, refl, sym, ap, subst, ◌∙◌}
use Rattle.std.specs.Prelude.{if◌then◌else◌, codes}
use Rattle.std.proofs.lemmas.Slice.Eq.{bytes_eq-Decides}
use Rattle.scheme_base.specs.declared.pos.Pos.{Pos}
use Rattle.scheme_base.specs.Constants.{Constant, Constant as constant}
use Rattle.datum_form.specs.declared.token.Atom.TheVariants.{Integer, Boolean, Character, String, Symbol}
use Rattle.datum_form.specs.Data.{Datum, Datum as datum, Items}
use Rattle.datum_form.specs.Data.Items.{none, item}
use Rattle.draft_form.specs.Quoted.{atom, constant_of, constant_list, constants}
use Rattle.quasi_expand.specs.Shapes.{is_word}
use Rattle.quasi_expand.specs.Making.{value}
use Rattle.quasi_expand.specs.Templates.{Template, Entry, Plain, Unquoted, Spliced, Pair, Vector, One, All, pair_of, vector_of, before, all_before, marked, unquoted, spliced, template, template_list, entries, entry}

-- a literal template is this constant
abbrev pub Writes : Template → Constant → Type 0
Writes t k = (c : Constant) → t ≡ Plain c → c ≡ k

pub plain_writes : (k : Constant) → Writes (Plain k) k
plain_writes k c e = cc

-- a pair is a literal only of literals
plain_pair : (s t : Template) (c : Constant) → pair_of s t ≡ Plain c
    → (a b : Constant) × (s ≡ Plain a) × (t ≡ Plain b) × (c ≡ constant.Pair a b)
plain_pair (Plain a) (Plain b) c e = (a, b, refl, refl, plain_writes (constant.Pair a b) c e)
plain_pair (Plain a) (Unquoted d) c e = absurd (cc)
plain_pair (Plain a) (Spliced d t) c e = absurd (cc)
plain_pair (Plain a) (Pair t u) c e = absurd (cc)
plain_pair (Plain a) (Vector t) c e = absurd (cc)
plain_pair (Unquoted d) t c e = absurd (cc)
plain_pair (Spliced d s) t c e = absurd (cc)
plain_pair (Pair r s) t c e = absurd (cc)
plain_pair (Vector s) t c e = absurd (cc)

pair_writes : (s t : Template) (k l : Constant) → Writes s k → Writes t l → Writes (pair_of s t) (constant.Pair k l)
pair_writes s t k l hs ht c e =
    let parts = plain_pair s t c e in
    parts.4
    ∙ (ap (λ a. constant.Pair a parts.1) (hs parts.0 parts.2) ∙ ap (λ b. constant.Pair k b) (ht parts.1 parts.3))

vector_writes : (k : Constant) (t : Template) → Writes (vector_of k t) k
vector_writes k (Plain d) = plain_writes k
vector_writes k (Unquoted d) = λ c e. absurd (cc)
vector_writes k (Spliced d t) = λ c e. absurd (cc)
vector_writes k (Pair s t) = λ c e. absurd (cc)
vector_writes k (Vector t) = λ c e. absurd (cc)

before_writes : (e : Entry) (rest : Template) (k l : Constant) → Writes (value e) k → Writes rest l
    → Writes (before e rest) (constant.Pair k l)
before_writes (One t) rest k l h r = pair_writes t rest k l h r
before_writes (All d) rest k l h r = λ c e. absurd (cc)

pub marked_writes : (x : Seq ℕ) (t : Template) (k : Constant) → Writes t k
    → Writes (marked x t) (constant.Pair (constant.Symbol x) (constant.Pair k constant.Nil))
marked_writes x t k h =
    pair_writes (Plain (constant.Symbol x)) (pair_of t (Plain constant.Nil)) (constant.Symbol x) (constant.Pair k constant.Nil)
    (plain_writes (constant.Symbol x)) (pair_writes t (Plain constant.Nil) k constant.Nil h (plain_writes constant.Nil))

pub unquoted_writes : (x : Seq ℕ) (n : ℕ) (e : Datum) (k : Constant) → ((m : ℕ) → Writes (template e m) k)
    → Writes (unquoted x n e (template e)) (constant.Pair (constant.Symbol x) (constant.Pair k constant.Nil))
unquoted_writes x zero e k h = λ c same. absurd (cc)
unquoted_writes x (suc n) e k h = marked_writes x (template e n) k (h n)

spliced_writes : (n : ℕ) (e : Datum) (k : Constant) → ((m : ℕ) → Writes (template e m) k)
    → Writes (value (spliced n e (template e)))
    (constant.Pair (constant.Symbol (codes "unquote-splicing")) (constant.Pair k constant.Nil))
spliced_writes zero e k h = λ c same. absurd (cc)
spliced_writes (suc n) e k h = marked_writes (codes "unquote-splicing") (template e n) k (h n)

-- Words

pub word_is : (x : Seq ℕ) (d : Datum) → is_word x d ≡ true → (p : Pos) × (d ≡ datum.Atomic p (Symbol x))
word_is x (datum.Atomic p (Symbol y)) e = (p, ap (λ z. datum.Atomic p (Symbol z)) ((bytes_eq-Decides y x).0 e))
word_is x (datum.Atomic p (Integer z)) e = absurd (cc)
word_is x (datum.Atomic p (Boolean b)) e = absurd (cc)
word_is x (datum.Atomic p (Character b)) e = absurd (cc)
word_is x (datum.Atomic p (String t)) e = absurd (cc)
word_is x (datum.List p is) e = absurd (cc)
word_is x (datum.Dotted p is d) e = absurd (cc)
word_is x (datum.Vector p is) e = absurd (cc)

-- the list of a word and a datum
pub word_writes : (x : Seq ℕ) (d e : Datum) (t : Template) → is_word x d ≡ true
    → Writes t (constant.Pair (constant.Symbol x) (constant.Pair (constant_of e) constant.Nil))
    → Writes t (constant_list (item d (item e none)) constant.Nil)
word_writes x d e t same h =
    let P : Datum → Type 0 = λ w. Writes t (constant_list (item w (item e none)) constant.Nil) in
    subst P (sym (word_is x d same).1) h

chosen : (b : Bool) (s t : Template) (k : Constant) → (b ≡ true → Writes s k) → Writes t k → Writes (if b then s else t) k
chosen true s t k f g = f refl
chosen false s t k f g = g

chosen_entry : (b : Bool) (x y : Entry) (k : Constant) → (b ≡ true → Writes (value x) k) → Writes (value y) k
    → Writes (value (if b then x else y)) k
chosen_entry true x y k f g = f refl
chosen_entry false x y k f g = g

-- Data

mutual
  pub written : (d : Datum) (n : ℕ) → Writes (template d n) (constant_of d)
  written (datum.Atomic p a) n = plain_writes (atom a)
  written (datum.List p is) n = list_written is n
  written (datum.Dotted p is d) n = before_written is n (template d n) (constant_of d) (written d n)
  written (datum.Vector p is) n = vector_writes (constant.Vector (constants is)) (template_list is n)

  list_written : (is : Items) (n : ℕ) → Writes (template_list is n) (constant_list is constant.Nil)
  list_written none n = plain_writes constant.Nil
  list_written (item d none) n =
      before_writes (entry d n (template d n)) (Plain constant.Nil) (constant_of d) constant.Nil
      (entry_written d n (template d n) (written d n)) (plain_writes constant.Nil)
  list_written (item d (item e none)) n =
      let k : Constant = constant_list (item d (item e none)) constant.Nil in
      let next : Template = before (entry e n (template e n)) (Plain constant.Nil) in
      let plain : Template = before (entry d n (template d n)) next in
      let further : Template = marked (codes "quasiquote") (template e (suc n)) in
      chosen (is_word (codes "unquote") d) (unquoted (codes "unquote") n e (template e))
      (if is_word (codes "quasiquote") d then further else plain) k
      (λ same.
      word_writes (codes "unquote") d e (unquoted (codes "unquote") n e (template e)) same
      (unquoted_writes (codes "unquote") n e (constant_of e) (λ m. written e m)))
      (chosen (is_word (codes "quasiquote") d) further plain k
      (λ same.
      word_writes (codes "quasiquote") d e further same
      (marked_writes (codes "quasiquote") (template e (suc n)) (constant_of e) (written e (suc n))))
      (before_writes (entry d n (template d n)) next (constant_of d) (constant.Pair (constant_of e) constant.Nil)
      (entry_written d n (template d n) (written d n))
      (before_writes (entry e n (template e n)) (Plain constant.Nil) (constant_of e) constant.Nil
      (entry_written e n (template e n) (written e n)) (plain_writes constant.Nil))))
  list_written (item d (item e (item f fs))) n =
      before_writes (entry d n (template d n)) (template_list (item e (item f fs)) n) (constant_of d)
      (constant_list (item e (item f fs)) constant.Nil)
      (entry_written d n (template d n) (written d n)) (list_written (item e (item f fs)) n)

  pub before_written : (is : Items) (n : ℕ) (t : Template) (k : Constant) → Writes t k
      → Writes (all_before (entries is n) t) (constant_list is k)
  before_written none n t k h = h
  before_written (item d ds) n t k h =
      before_writes (entry d n (template d n)) (all_before (entries ds n) t) (constant_of d) (constant_list ds k)
      (entry_written d n (template d n) (written d n)) (before_written ds n t k h)

  pub entry_written : (d : Datum) (n : ℕ) (t : Template) → Writes t (constant_of d) → Writes (value (entry d n t)) (constant_of d)
  entry_written (datum.List p (item d (item e none))) n t h =
      chosen_entry (is_word (codes "unquote-splicing") d) (spliced n e (template e)) (One t)
      (constant_list (item d (item e none)) constant.Nil)
      (λ same.
      word_writes (codes "unquote-splicing") d e (value (spliced n e (template e))) same
      (spliced_writes n e (constant_of e) (λ m. written e m)))
      h
  entry_written (datum.List p none) n t h = h
  entry_written (datum.List p (item d none)) n t h = h
  entry_written (datum.List p (item d (item e (item f fs)))) n t h = h
  entry_written (datum.Atomic p a) n t h = h
  entry_written (datum.Dotted p is d) n t h = h
  entry_written (datum.Vector p is) n t h = h
