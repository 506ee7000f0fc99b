-- Numbers of names: what has one is a name, and one whose calls are known is no keyword, and so no fault.
use Rattle.std.proofs.Common.{ℕ, ◌≡◌, Option, Some, None, refl, sym, ap, ◌∙◌}
use Rattle.std.specs.Prelude.{slice_get}
use Rattle.datum_form.specs.declared.token.Atom.TheVariants.{Integer, Boolean, Character, String, Symbol}
use Rattle.datum_form.specs.Data.{Datum, Datum as datum}
use Rattle.scheme_expand.specs.declared.source.Source.{Source}
use Rattle.scheme_expand.specs.Faults.{least}
use Rattle.scheme_expand.specs.Noted.{level_in}
use Rattle.scheme_expand.specs.Forms.{Word}
use Rattle.scheme_expand.specs.Grammar.{word}
use Rattle.scheme_expand.specs.Waiting.{Reads, keyword_at, keyword_named, named_datum}
use Rattle.scheme_expand.proofs.Due.{of}
use Rattle.scheme_expand.proofs.Named.{no_keyword_fault}

differ : (r : Option ℕ) (w : ℕ) → r ≡ Some w → r ≡ None → ⊥
differ r w e f = let g : Some w ≡ None = sym e ∙ f in cc

pub no_fault : (s : Source) (id : ℕ) (d : Datum) (w : ℕ) (r : Option ℕ) → Reads s id d
    → r ≡ level_in (slice_get s.words.now id) → r ≡ Some w → keyword_at w ≡ None → of d ≡ None
no_fault s id (datum.Atomic p (Symbol x)) w r h e f known =
    let n = h.named.words id (datum.Atomic p (Symbol x)) h.stands in
    let same : w ≡ n.0 = let g : Some w ≡ Some n.0 = sym f ∙ (e ∙ n.1) in cc in
    let k : keyword_named x ≡ None =
    sym (h.named.keywords n.0 x n.2) ∙ (ap keyword_at (sym same) ∙ known)
    in
    ap least (no_keyword_fault p x k)
no_fault s id (datum.Atomic p (Integer z)) w r h e f known = refl
no_fault s id (datum.Atomic p (Boolean b)) w r h e f known = refl
no_fault s id (datum.Atomic p (Character c)) w r h e f known = refl
no_fault s id (datum.Atomic p (String t)) w r h e f known = refl
no_fault s id (datum.List p is) w r h e f known = absurd (differ r w f (e ∙ h.named.words id (datum.List p is) h.stands))
no_fault s id (datum.Dotted p is d) w r h e f known = absurd (differ r w f (e ∙ h.named.words id (datum.Dotted p is d) h.stands))
no_fault s id (datum.Vector p is) w r h e f known = absurd (differ r w f (e ∙ h.named.words id (datum.Vector p is) h.stands))

pub name_read : (s : Source) (id : ℕ) (d : Datum) (w : ℕ) (r : Option ℕ) → Reads s id d
    → r ≡ level_in (slice_get s.words.now id) → r ≡ Some w → (v : Word) × (d ≡ named_datum v)
name_read s id (datum.Atomic p (Symbol x)) w r h e f = (word p x, refl)
name_read s id (datum.Atomic p (Integer z)) w r h e f = absurd (differ r w f (e ∙ h.named.words id (datum.Atomic p (Integer z)) h.stands))
name_read s id (datum.Atomic p (Boolean b)) w r h e f = absurd (differ r w f (e ∙ h.named.words id (datum.Atomic p (Boolean b)) h.stands))
name_read s id (datum.Atomic p (Character c)) w r h e f = absurd (differ r w f (e ∙ h.named.words id (datum.Atomic p (Character c)) h.stands))
name_read s id (datum.Atomic p (String t)) w r h e f = absurd (differ r w f (e ∙ h.named.words id (datum.Atomic p (String t)) h.stands))
name_read s id (datum.List p is) w r h e f = absurd (differ r w f (e ∙ h.named.words id (datum.List p is) h.stands))
name_read s id (datum.Dotted p is d) w r h e f = absurd (differ r w f (e ∙ h.named.words id (datum.Dotted p is d) h.stands))
name_read s id (datum.Vector p is) w r h e f = absurd (differ r w f (e ∙ h.named.words id (datum.Vector p is) h.stands))
