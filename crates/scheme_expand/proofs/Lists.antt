-- Lists with a tail or without, read from nodes.
use Rattle.std.proofs.Common.{ℕ, ◌≡◌, List, Option, Some, None, refl, sym, subst, ◌∙◌}
use Rattle.datum_form.specs.declared.token.Atom.TheVariants.{Integer, Boolean, Character, String, Symbol}
use Rattle.datum_form.specs.declared.datums.Kind.{Kind}
use Rattle.datum_form.specs.declared.datums.Kind.TheVariants as kind
use Rattle.datum_form.specs.Pending.{IsKind}
use Rattle.datum_form.specs.Stands.{StandAll}
use Rattle.datum_form.specs.Data.{Datum, Datum as datum}
use Rattle.scheme_expand.specs.declared.source.Source.{Source}
use Rattle.scheme_expand.specs.Shapes.{IsListed, ReadTail}
use Rattle.scheme_expand.specs.Waiting.{Reads}

pub list_parts : (s : Source) (id : ℕ) (d : Datum) (k : Kind) (ids js : List ℕ) (tail : Option ℕ) → Reads s id d
    → IsKind s.nodes.now k d → k ≡ kind.List js tail → ids ≡ js → IsListed s ids tail d
list_parts s id (datum.Atomic p (Integer z)) k ids js tail h i e q = let f : kind.Integer z ≡ kind.List js tail = sym i ∙ e in absurd (cc)
list_parts s id (datum.Atomic p (Boolean b)) k ids js tail h i e q = let f : kind.Boolean b ≡ kind.List js tail = sym i ∙ e in absurd (cc)
list_parts s id (datum.Atomic p (Character c)) k ids js tail h i e q = let f : kind.Char c ≡ kind.List js tail = sym i ∙ e in absurd (cc)
list_parts s id (datum.Atomic p (String t)) k ids js tail h i e q = let f : kind.Text t ≡ kind.List js tail = sym i ∙ e in absurd (cc)
list_parts s id (datum.Atomic p (Symbol x)) k ids js tail h i e q = let f : kind.Name x ≡ kind.List js tail = sym i ∙ e in absurd (cc)
list_parts s id (datum.Vector p is) k ids js tail h i e q = let f : kind.Vector i.0 ≡ kind.List js tail = sym i.1 ∙ e in absurd (cc)
list_parts s id (datum.List p is) k ids js tail h i e q =
    let f : kind.List i.0 None ≡ kind.List js tail = sym i.1 ∙ e in
    let same : i.0 ≡ js = cc in
    let no_end : None ≡ tail = cc in
    let P : List ℕ → Type 0 = λ l. StandAll s.nodes.now l is in
    let Q : Option ℕ → Type 0 = λ t. ReadTail s t None in
    record {
      at = p;
      items = is;
      end = None;
      are = refl;
      read = record { named = h.named; stand = subst P (same ∙ sym q) i.2 };
      ends = subst Q no_end refl;
    }
list_parts s id (datum.Dotted p is d) k ids js tail h i e q =
    let f : kind.List i.0 (Some i.1) ≡ kind.List js tail = sym i.2 ∙ e in
    let same : i.0 ≡ js = cc in
    let an_end : Some i.1 ≡ tail = cc in
    let P : List ℕ → Type 0 = λ l. StandAll s.nodes.now l is in
    let Q : Option ℕ → Type 0 = λ t. ReadTail s t (Some d) in
    record {
      at = p;
      items = is;
      end = Some d;
      are = refl;
      read = record { named = h.named; stand = subst P (same ∙ sym q) i.3 };
      ends = subst Q an_end (d, record { named = h.named; stands = i.4 }, refl);
    }
