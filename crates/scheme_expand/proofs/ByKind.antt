-- What an expression is by the kind of its node.
use Rattle.std.proofs.Common.{ℕ, ◌≡◌, List, [], ◌∷◌, Option, Some, None, refl, sym, ap, subst, ◌∙◌}
use Rattle.datum_form.specs.declared.token.Atom.TheVariants.{Integer, Boolean, Character, String, Symbol}
use Rattle.datum_form.specs.declared.datums.Kind.{Kind}
use Rattle.datum_form.specs.declared.datums.Kind.TheVariants as kind
use Rattle.datum_form.specs.Pending.{IsKind}
use Rattle.datum_form.specs.Stands.{StandAll}
use Rattle.datum_form.specs.Data.{Datum, Datum as datum, Items}
use Rattle.scheme_expand.specs.declared.source.Source.{Source}
use Rattle.scheme_expand.specs.Forms.{Word, Wrong}
use Rattle.scheme_expand.specs.Grammar.{word, expr}
use Rattle.scheme_expand.specs.Faults.{fault, least, in_exp}
use Rattle.scheme_expand.specs.Shapes.{IsListed, ReadTail, with_end}
use Rattle.scheme_expand.specs.Waiting.{place, named_datum, Reads, ReadAll, Adds}
use Rattle.scheme_base.specs.declared.pos.Pos.{Pos}
use Rattle.scheme_expand.specs.declared.expander.Expander.{Expander}
use Rattle.scheme_expand.proofs.Adding.{due}
use Rattle.scheme_expand.proofs.Due.{of}

pub named : (s : Source) (id : ℕ) (d : Datum) (k : Kind) (y : List ℕ) → Reads s id d → IsKind s.nodes.now k d → k ≡ kind.Name y
    → (w : Word) × (d ≡ named_datum w)
named s id (datum.Atomic p (Integer z)) k y h i e = let g : kind.Integer z ≡ kind.Name y = sym i ∙ e in absurd (cc)
named s id (datum.Atomic p (Boolean b)) k y h i e = let g : kind.Boolean b ≡ kind.Name y = sym i ∙ e in absurd (cc)
named s id (datum.Atomic p (Character c)) k y h i e = let g : kind.Char c ≡ kind.Name y = sym i ∙ e in absurd (cc)
named s id (datum.Atomic p (String t)) k y h i e = let g : kind.Text t ≡ kind.Name y = sym i ∙ e in absurd (cc)
named s id (datum.Atomic p (Symbol x)) k y h i e = (word p x, refl)
named s id (datum.List p is) k y h i e = let g : kind.List i.0 None ≡ kind.Name y = sym i.1 ∙ e in absurd (cc)
named s id (datum.Dotted p is f) k y h i e = let g : kind.List i.0 (Some i.1) ≡ kind.Name y = sym i.2 ∙ e in absurd (cc)
named s id (datum.Vector p is) k y h i e = let g : kind.Vector i.0 ≡ kind.Name y = sym i.1 ∙ e in absurd (cc)

pub listed : (s : Source) (id : ℕ) (d : Datum) (k : Kind) (ids js : List ℕ) → Reads s id d → IsKind s.nodes.now k d
    → k ≡ kind.List js None → ids ≡ js → (is : Items) × ReadAll s ids is × (d ≡ datum.List (place d) is)
listed s id (datum.Atomic p (Integer z)) k ids js h i e q = let g : kind.Integer z ≡ kind.List js None = sym i ∙ e in absurd (cc)
listed s id (datum.Atomic p (Boolean b)) k ids js h i e q = let g : kind.Boolean b ≡ kind.List js None = sym i ∙ e in absurd (cc)
listed s id (datum.Atomic p (Character c)) k ids js h i e q = let g : kind.Char c ≡ kind.List js None = sym i ∙ e in absurd (cc)
listed s id (datum.Atomic p (String t)) k ids js h i e q = let g : kind.Text t ≡ kind.List js None = sym i ∙ e in absurd (cc)
listed s id (datum.Atomic p (Symbol x)) k ids js h i e q = let g : kind.Name x ≡ kind.List js None = sym i ∙ e in absurd (cc)
listed s id (datum.List p is) k ids js h i e q =
    let g : kind.List i.0 None ≡ kind.List js None = sym i.1 ∙ e in
    let same : i.0 ≡ js = cc in
    let P : List ℕ → Type 0 = λ l. StandAll s.nodes.now l is in
    (is, record { named = h.named; stand = subst P (same ∙ sym q) i.2 }, refl)
listed s id (datum.Dotted p is f) k ids js h i e q = let g : kind.List i.0 (Some i.1) ≡ kind.List js None = sym i.2 ∙ e in absurd (cc)
listed s id (datum.Vector p is) k ids js h i e q = let g : kind.Vector i.0 ≡ kind.List js None = sym i.1 ∙ e in absurd (cc)

pub dotted : (s : Source) (d : Datum) (k : Kind) (js : List ℕ) (tail : ℕ) → IsKind s.nodes.now k d
    → k ≡ kind.List js (Some tail) → expr d ≡ Wrong (place d) 10
dotted s (datum.Atomic p (Integer z)) k js tail i e = let g : kind.Integer z ≡ kind.List js (Some tail) = sym i ∙ e in absurd (cc)
dotted s (datum.Atomic p (Boolean b)) k js tail i e = let g : kind.Boolean b ≡ kind.List js (Some tail) = sym i ∙ e in absurd (cc)
dotted s (datum.Atomic p (Character c)) k js tail i e = let g : kind.Char c ≡ kind.List js (Some tail) = sym i ∙ e in absurd (cc)
dotted s (datum.Atomic p (String t)) k js tail i e = let g : kind.Text t ≡ kind.List js (Some tail) = sym i ∙ e in absurd (cc)
dotted s (datum.Atomic p (Symbol x)) k js tail i e = let g : kind.Name x ≡ kind.List js (Some tail) = sym i ∙ e in absurd (cc)
dotted s (datum.List p is) k js tail i e = let g : kind.List i.0 None ≡ kind.List js (Some tail) = sym i.1 ∙ e in absurd (cc)
dotted s (datum.Dotted p is f) k js tail i e = refl
dotted s (datum.Vector p is) k js tail i e = let g : kind.Vector i.0 ≡ kind.List js (Some tail) = sym i.1 ∙ e in absurd (cc)

pub row : (s : Source) (d : Datum) (k : Kind) (js : List ℕ) → IsKind s.nodes.now k d → k ≡ kind.Vector js
    → expr d ≡ Wrong (place d) 15
row s (datum.Atomic p (Integer z)) k js i e = let g : kind.Integer z ≡ kind.Vector js = sym i ∙ e in absurd (cc)
row s (datum.Atomic p (Boolean b)) k js i e = let g : kind.Boolean b ≡ kind.Vector js = sym i ∙ e in absurd (cc)
row s (datum.Atomic p (Character c)) k js i e = let g : kind.Char c ≡ kind.Vector js = sym i ∙ e in absurd (cc)
row s (datum.Atomic p (String t)) k js i e = let g : kind.Text t ≡ kind.Vector js = sym i ∙ e in absurd (cc)
row s (datum.Atomic p (Symbol x)) k js i e = let g : kind.Name x ≡ kind.Vector js = sym i ∙ e in absurd (cc)
row s (datum.List p is) k js i e = let g : kind.List i.0 None ≡ kind.Vector js = sym i.1 ∙ e in absurd (cc)
row s (datum.Dotted p is f) k js i e = let g : kind.List i.0 (Some i.1) ≡ kind.Vector js = sym i.2 ∙ e in absurd (cc)
row s (datum.Vector p is) k js i e = refl

pub literal : (s : Source) (d : Datum) (k : Kind) → IsKind s.nodes.now k d → ((x : List ℕ) → k ≡ kind.Name x → ⊥)
    → ((ids : List ℕ) (tail : Option ℕ) → k ≡ kind.List ids tail → ⊥) → ((ids : List ℕ) → k ≡ kind.Vector ids → ⊥)
    → in_exp (expr d) ≡ []
literal s (datum.Atomic p (Integer z)) k i name list vector = refl
literal s (datum.Atomic p (Boolean b)) k i name list vector = refl
literal s (datum.Atomic p (Character c)) k i name list vector = refl
literal s (datum.Atomic p (String t)) k i name list vector = refl
literal s (datum.Atomic p (Symbol x)) k i name list vector = absurd (name x i)
literal s (datum.List p is) k i name list vector = absurd (list i.0 None i.1)
literal s (datum.Dotted p is d) k i name list vector = absurd (list i.0 (Some i.1) i.2)
literal s (datum.Vector p is) k i name list vector = absurd (vector i.0 i.1)

-- Lists

placed : (p q : Pos) (d : Datum) (is : Items) (end : Option Datum) → p ≡ place d → d ≡ with_end q is end
    → of (with_end p is end) ≡ of d
placed p q d is None e are = ap (λ r. of (datum.List r is)) (e ∙ ap place are) ∙ ap of (sym are)
placed p q d is (Some t) e are = ap (λ r. of (datum.Dotted r is t)) (e ∙ ap place are) ∙ ap of (sym are)

pub in_place : (a b : Expander) (p : Pos) (d : Datum) (ids : List ℕ) (tail : Option ℕ) (i : IsListed a.source ids tail d) → p ≡ place d
    → Adds a b (of (with_end p i.items i.end)) → Adds a b (of d)
in_place a b p d ids tail i e k = due a b (of (with_end p i.items i.end)) (of d) (placed p i.at d i.items i.end e i.are) k

pub no_tail_due : (a b : Expander) (p : Pos) (is : Items) (tail : Option ℕ) (end : Option Datum) → ReadTail a.source tail end
    → tail ≡ None → Adds a b (of (datum.List p is)) → Adds a b (of (with_end p is end))
no_tail_due a b p is tail end t e k =
    let P : Option ℕ → Type 0 = λ r. ReadTail a.source r end in
    due a b (of (datum.List p is)) (of (with_end p is end)) (ap (λ x. of (with_end p is x)) (sym (subst P e t))) k

pub tail_due : (a b : Expander) (p : Pos) (is : Items) (tail : Option ℕ) (id : ℕ) (end : Option Datum) → ReadTail a.source tail end
    → tail ≡ Some id → Adds a b (least (fault p 10 ∷ [])) → Adds a b (of (with_end p is end))
tail_due a b p is tail id end t e k =
    let P : Option ℕ → Type 0 = λ r. ReadTail a.source r end in
    let i = subst P e t in
    due a b (least (fault p 10 ∷ [])) (of (with_end p is end)) (ap (λ x. of (with_end p is x)) (sym i.2)) k

pub wrong_at : (p : Pos) (d : Datum) (n : ℕ) → p ≡ place d → expr d ≡ Wrong (place d) n → least (fault p n ∷ []) ≡ of d
wrong_at p d n e f = ap (λ q. least (fault q n ∷ [])) e ∙ ap (λ x. least (in_exp x)) (sym f)
