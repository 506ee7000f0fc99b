-- Which lists begin with `define`.
use Rattle.std.proofs.Common.{◌≡◌, Some, None, false, refl, ap, ◌∙◌}
use Rattle.std.specs.Prelude.{codes}
use Rattle.scheme_base.specs.declared.pos.Pos.{Pos}
use Rattle.datum_form.specs.declared.token.Atom.TheVariants.{Integer, Boolean, Character, String, Symbol}
use Rattle.datum_form.specs.Data.{Datum, Datum as datum}
use Rattle.datum_form.specs.Data.Items.{none, item}
use Rattle.scheme_expand.specs.declared.words.Keyword.{Keyword}
use Rattle.scheme_expand.specs.declared.words.Keyword.TheVariants as keyword
use Rattle.quasi_expand.specs.Shapes.{is_word}
use Rattle.scheme_expand.specs.Grammar.{is_define}
use Rattle.scheme_expand.specs.Shapes.{defines}
use Rattle.scheme_expand.specs.Waiting.{keyword_of, head_of, name_of}
use Rattle.scheme_expand.proofs.Named.{is_name, differs, keyword_name}

each_define : (p : Pos) (k : Keyword) → is_word (codes "define") (datum.Atomic p (Symbol (name_of k))) ≡ defines k
each_define p keyword.Quote = refl
each_define p keyword.Lambda = refl
each_define p keyword.If = refl
each_define p keyword.Set = refl
each_define p keyword.Begin = refl
each_define p keyword.Cond = refl
each_define p keyword.And = refl
each_define p keyword.Or = refl
each_define p keyword.Case = refl
each_define p keyword.Let = refl
each_define p keyword.LetStar = refl
each_define p keyword.Letrec = refl
each_define p keyword.Do = refl
each_define p keyword.Delay = refl
each_define p keyword.Quasiquote = refl
each_define p keyword.Else = refl
each_define p keyword.Arrow = refl
each_define p keyword.Define = refl
each_define p keyword.Unquote = refl
each_define p keyword.Splice = refl

define_name : (d : Datum) (k : Keyword) → keyword_of d ≡ Some k → is_word (codes "define") d ≡ defines k
define_name d k e =
    let i = keyword_name d k e in
    ap (is_word (codes "define")) (i.are ∙ ap (λ x. datum.Atomic i.at (Symbol x)) (is_name i.name k i.keyword)) ∙ each_define i.at k

pub begins_define : (d : Datum) (k : Keyword) → head_of d ≡ Some k → is_define d ≡ defines k
begins_define (datum.Atomic p a) k e = absurd (cc)
begins_define (datum.List p none) k e = absurd (cc)
begins_define (datum.List p (item d ds)) k e = define_name d k e
begins_define (datum.Dotted p none f) k e = absurd (cc)
begins_define (datum.Dotted p (item d ds) f) k e = define_name d k e
begins_define (datum.Vector p is) k e = absurd (cc)

other_word : (d : Datum) → keyword_of d ≡ None → is_word (codes "define") d ≡ false
other_word (datum.Atomic p (Symbol x)) h = differs x keyword.Define h
other_word (datum.Atomic p (Integer z)) h = refl
other_word (datum.Atomic p (Boolean b)) h = refl
other_word (datum.Atomic p (Character c)) h = refl
other_word (datum.Atomic p (String t)) h = refl
other_word (datum.List p is) h = refl
other_word (datum.Dotted p is d) h = refl
other_word (datum.Vector p is) h = refl

pub begins_no_define : (d : Datum) → head_of d ≡ None → is_define d ≡ false
begins_no_define (datum.Atomic p a) h = refl
begins_no_define (datum.List p none) h = refl
begins_no_define (datum.List p (item d ds)) h = other_word d h
begins_no_define (datum.Dotted p none e) h = refl
begins_no_define (datum.Dotted p (item d ds) e) h = other_word d h
begins_no_define (datum.Vector p is) h = refl
