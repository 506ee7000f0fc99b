-- Which keyword a name is, and what it begins.
use Rattle.std.proofs.Common.{ℕ, ◌≡◌, List, [], ◌∷◌, Some, None, Bool, true, false, refl, sym, ap, ◌∙◌}
use Rattle.std.specs.Prelude.{if◌then◌else◌, ◌||◌}
use Rattle.std.specs.Str.{bytes_eq}
use Rattle.std.proofs.lemmas.Slice.Eq.{bytes_eq-Decides}
use denote.Enum.Bare.{sameb, same_true, same_false}
use Rattle.scheme_expand.specs.contracts.words.Keyword.{the_type}
use Rattle.scheme_base.specs.declared.pos.Pos.{Pos}
use Rattle.datum_form.specs.declared.token.Atom.TheVariants.{Integer, Boolean, Character, String, Symbol}
use Rattle.datum_form.specs.Data.{Datum, Datum as datum, Items}
use Rattle.datum_form.specs.Data.Items.{item}
use Rattle.quasi_expand.specs.Shapes.{is_word}
use Rattle.scheme_expand.specs.declared.words.Keyword.{Keyword}
use Rattle.scheme_expand.specs.declared.words.Keyword.TheVariants as keyword
use Rattle.scheme_expand.specs.Forms.{Exp, Variable, Application}
use Rattle.scheme_expand.specs.Grammar.{word, expr, exprs}
use Rattle.scheme_expand.specs.Faults.{fault, in_word}
use Rattle.scheme_expand.specs.Waiting.{keyword_table, keyword_among, keyword_named, keyword_of, name_of}

-- Names

same_bytes : (a b : List ℕ) → bytes_eq a b ≡ true → a ≡ b
same_bytes a b e = (bytes_eq-Decides a b).0 e

found : (ks : List Keyword) (x : List ℕ) (j k : Keyword) (b : Bool) → bytes_eq x (name_of j) ≡ b
    → (keyword_among ks x ≡ Some k → x ≡ name_of k)
    → (if b then Some j else keyword_among ks x) ≡ Some k → x ≡ name_of k
found ks x j k true q rest e = let s : j ≡ k = cc in same_bytes x (name_of j) q ∙ ap name_of s
found ks x j k false q rest e = rest e

among : (ks : List Keyword) (x : List ℕ) (k : Keyword) → keyword_among ks x ≡ Some k → x ≡ name_of k
among [] x k e = absurd (cc)
among (j ∷ ks) x k e = found ks x j k (bytes_eq x (name_of j)) refl (among ks x k) e

pub is_name : (x : List ℕ) (k : Keyword) → keyword_named x ≡ Some k → x ≡ name_of k
is_name x k e = among keyword_table x k e

pub named : (k : Keyword) → keyword_named (name_of k) ≡ Some k
named keyword.Quote = refl
named keyword.Lambda = refl
named keyword.If = refl
named keyword.Set = refl
named keyword.Begin = refl
named keyword.Cond = refl
named keyword.And = refl
named keyword.Or = refl
named keyword.Case = refl
named keyword.Let = refl
named keyword.LetStar = refl
named keyword.Letrec = refl
named keyword.Do = refl
named keyword.Delay = refl
named keyword.Quasiquote = refl
named keyword.Else = refl
named keyword.Arrow = refl
named keyword.Define = refl
named keyword.Unquote = refl
named keyword.Splice = refl

other : (x : List ℕ) (k : Keyword) (b : Bool) → keyword_named x ≡ None → bytes_eq x (name_of k) ≡ b → b ≡ false
other x k true e q =
    absurd
    (let s : keyword_named x ≡ Some k = ap keyword_named (same_bytes x (name_of k) q) ∙ named k in
    let t : None ≡ Some k = sym e ∙ s in
    cc)
other x k false e q = refl

-- a name that is no keyword is not this one
pub differs : (x : List ℕ) (k : Keyword) → keyword_named x ≡ None → bytes_eq x (name_of k) ≡ false
differs x k e = other x k (bytes_eq x (name_of k)) e refl

-- Keywords as variables

each_fault : (p : Pos) (k : Keyword) → in_word (word p (name_of k)) ≡ fault p 1 ∷ []
each_fault p keyword.Quote = refl
each_fault p keyword.Lambda = refl
each_fault p keyword.If = refl
each_fault p keyword.Set = refl
each_fault p keyword.Begin = refl
each_fault p keyword.Cond = refl
each_fault p keyword.And = refl
each_fault p keyword.Or = refl
each_fault p keyword.Case = refl
each_fault p keyword.Let = refl
each_fault p keyword.LetStar = refl
each_fault p keyword.Letrec = refl
each_fault p keyword.Do = refl
each_fault p keyword.Delay = refl
each_fault p keyword.Quasiquote = refl
each_fault p keyword.Else = refl
each_fault p keyword.Arrow = refl
each_fault p keyword.Define = refl
each_fault p keyword.Unquote = refl
each_fault p keyword.Splice = refl

pub keyword_fault : (p : Pos) (x : List ℕ) (k : Keyword) → keyword_named x ≡ Some k → in_word (word p x) ≡ fault p 1 ∷ []
keyword_fault p x k e = ap (λ y. in_word (word p y)) (is_name x k e) ∙ each_fault p k

skip_or : (b c : Bool) → b ≡ false → (b || c) ≡ c
skip_or true c e = absurd (cc)
skip_or false c e = refl

pub no_keyword_fault : (p : Pos) (x : List ℕ) → keyword_named x ≡ None → in_word (word p x) ≡ []
no_keyword_fault p x e =
    let n : (k : Keyword) → bytes_eq x (name_of k) ≡ false = λ k. differs x k e in
    ap (λ b. if b then fault p 1 ∷ [] else [])
    (skip_or _ _ (n keyword.Quote) ∙ (skip_or _ _ (n keyword.Lambda) ∙ (skip_or _ _ (n keyword.If)
    ∙ (skip_or _ _ (n keyword.Set) ∙ (skip_or _ _ (n keyword.Begin) ∙ (skip_or _ _ (n keyword.Cond)
    ∙ (skip_or _ _ (n keyword.And) ∙ (skip_or _ _ (n keyword.Case) ∙ (skip_or _ _ (n keyword.Or)
    ∙ (skip_or _ _ (n keyword.Let) ∙ (skip_or _ _ (n keyword.LetStar) ∙ (skip_or _ _ (n keyword.Letrec)
    ∙ (skip_or _ _ (n keyword.Do) ∙ (skip_or _ _ (n keyword.Delay) ∙ (skip_or _ _ (n keyword.Quasiquote)
    ∙ (skip_or _ _ (n keyword.Else) ∙ (skip_or _ _ (n keyword.Arrow) ∙ (skip_or _ _ (n keyword.Define)
    ∙ (skip_or _ _ (n keyword.Unquote) ∙ skip_or _ _ (n keyword.Splice))))))))))))))))))))

-- What a keyword begins

pub record IsKeyword (d : Datum) (k : Keyword) : Type 0 where
  pub at : Pos
  pub name : List ℕ
  pub are : d ≡ datum.Atomic at (Symbol name)
  pub keyword : keyword_named name ≡ Some k

pub keyword_name : (d : Datum) (k : Keyword) → keyword_of d ≡ Some k → IsKeyword d k
keyword_name (datum.Atomic p (Symbol x)) k e = record { at = p; name = x; are = refl; keyword = e }
keyword_name (datum.Atomic p (Integer z)) k e = absurd (cc)
keyword_name (datum.Atomic p (Boolean b)) k e = absurd (cc)
keyword_name (datum.Atomic p (Character c)) k e = absurd (cc)
keyword_name (datum.Atomic p (String t)) k e = absurd (cc)
keyword_name (datum.List p is) k e = absurd (cc)
keyword_name (datum.Dotted p is d) k e = absurd (cc)
keyword_name (datum.Vector p is) k e = absurd (cc)

-- the expression that a keyword begins, wherever it stands
pub begins : (p : Pos) (d : Datum) (ds : Items) (k : Keyword) (f : Exp) → keyword_of d ≡ Some k
    → ((q : Pos) → expr (datum.List p (item (datum.Atomic q (Symbol (name_of k))) ds)) ≡ f) → expr (datum.List p (item d ds)) ≡ f
begins p d ds k f e form =
    let i = keyword_name d k e in
    let s : d ≡ datum.Atomic i.at (Symbol (name_of k)) = i.are ∙ ap (λ x. datum.Atomic i.at (Symbol x)) (is_name i.name k i.keyword) in
    ap (λ y. expr (datum.List p (item y ds))) s ∙ form i.at

skip : {A : Type 0} (b : Bool) (f r : A) → b ≡ false → (if b then f else r) ≡ r
skip true f r e = absurd (cc)
skip false f r e = refl

-- what is no keyword is the operator of a call
pub calls : (p q : Pos) (x : List ℕ) (ds : Items) → keyword_named x ≡ None
    → expr (datum.List p (item (datum.Atomic q (Symbol x)) ds)) ≡ Application p (Variable (word q x)) (exprs ds)
calls p q x ds e =
    let n : (k : Keyword) → bytes_eq x (name_of k) ≡ false = λ k. differs x k e in
    skip _ _ _ (n keyword.Quote) ∙ (skip _ _ _ (n keyword.Quasiquote) ∙ (skip _ _ _ (n keyword.Lambda)
    ∙ (skip _ _ _ (n keyword.If) ∙ (skip _ _ _ (n keyword.Set) ∙ (skip _ _ _ (n keyword.Begin)
    ∙ (skip _ _ _ (n keyword.Cond) ∙ (skip _ _ _ (n keyword.Case) ∙ (skip _ _ _ (n keyword.And)
    ∙ (skip _ _ _ (n keyword.Or) ∙ (skip _ _ _ (n keyword.Let) ∙ (skip _ _ _ (n keyword.LetStar)
    ∙ (skip _ _ _ (n keyword.Letrec) ∙ (skip _ _ _ (n keyword.Do) ∙ (skip _ _ _ (n keyword.Define)
    ∙ (skip _ _ _ (n keyword.Unquote) ∙ (skip _ _ _ (n keyword.Splice) ∙ skip _ _ _ (n keyword.Delay)))))))))))))))))

-- Keywords as words

pub word_is : (d : Datum) (j k : Keyword) → keyword_of d ≡ Some j → j ≡ k → is_word (name_of k) d ≡ true
word_is d j k e q =
    let i = keyword_name d j e in
    ap (is_word (name_of k)) i.are ∙ (bytes_eq-Decides i.name (name_of k)).1 (is_name i.name j i.keyword ∙ ap name_of q)

name_not : (x : List ℕ) (k : Keyword) (b : Bool) → bytes_eq x (name_of k) ≡ b → (keyword_named x ≡ Some k → ⊥) → b ≡ false
name_not x k true e absent = absurd (absent (ap keyword_named (same_bytes x (name_of k) e) ∙ named k))
name_not x k false e absent = refl

pub word_is_not : (d : Datum) (k : Keyword) → (keyword_of d ≡ Some k → ⊥) → is_word (name_of k) d ≡ false
word_is_not (datum.Atomic p (Symbol x)) k absent = name_not x k (bytes_eq x (name_of k)) refl absent
word_is_not (datum.Atomic p (Integer z)) k absent = refl
word_is_not (datum.Atomic p (Boolean b)) k absent = refl
word_is_not (datum.Atomic p (Character c)) k absent = refl
word_is_not (datum.Atomic p (String t)) k absent = refl
word_is_not (datum.List p is) k absent = refl
word_is_not (datum.Dotted p is d) k absent = refl
word_is_not (datum.Vector p is) k absent = refl

pub is_this : (d : Datum) (j k : Keyword) (b : Bool) → keyword_of d ≡ Some j → sameb the_type j k ≡ b → b ≡ is_word (name_of k) d
is_this d j k true e t = sym (word_is d j k e (same_true the_type tt j k t))
is_this d j k false e t =
    sym
    (word_is_not d k
    (λ f. let g : Some j ≡ Some k = sym e ∙ f in let same : j ≡ k = cc in same_false the_type j k t same))

pub no_keyword : (d : Datum) (k : Keyword) → keyword_of d ≡ None → false ≡ is_word (name_of k) d
no_keyword d k e = sym (word_is_not d k (λ f. let g : None ≡ Some k = sym e ∙ f in cc))
