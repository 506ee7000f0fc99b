-- Names are entered one after another.
use Rattle.std.proofs.Common.{ℕ, ◌≡◌, List, [], ◌∷◌, Option, None, refl, sym, ap, subst, ◌∙◌}
use Rattle.datum_form.specs.Data.{Datum, Items}
use Rattle.datum_form.specs.Data.Items.{none, item}
use Rattle.scheme_expand.specs.declared.source.Source.{Source}
use Rattle.scheme_expand.specs.declared.expander.Expander.{Expander}
use Rattle.scheme_expand.specs.Forms.{Word}
use Rattle.scheme_expand.specs.Faults.{Fault, least, in_word, in_words}
use Rattle.scheme_expand.specs.Waiting.{earlier, named_datum, named_data, Reads, ReadAll, Adds}
use Rattle.scheme_expand.proofs.Adding.{both, nothing}
use Rattle.scheme_expand.proofs.Least.{earlier_none, earlier_assoc, least_append}
use Rattle.scheme_expand.proofs.Parts.{first_of}

pub record Entered (a b : Expander) (rest : List ℕ) (ws : List Word) : Type 0 where
  pub left : List Word
  pub read : ReadAll a.source rest (named_data left)
  pub paid : Option Fault
  pub adds : Adds a b paid
  pub total : earlier paid (least (in_words left)) ≡ least (in_words ws)

pub none_entered : (a : Expander) (ids : List ℕ) (ws : List Word) → ReadAll a.source ids (named_data ws) → Entered a a ids ws
none_entered a ids ws h = record { left = ws; read = h; paid = None; adds = nothing a; total = refl }

abbrev first_or : Datum → Items → Datum
first_or d none = d
first_or d (item e es) = e

abbrev others_in : Items → Items
others_in none = none
others_in (item d ds) = ds

-- the first of some names, and the others
pub first_name : (s : Source) (all ids : List ℕ) (id : ℕ) (w : Word) (ws : List Word) → all ≡ id ∷ ids
    → ReadAll s all (named_data (w ∷ ws)) → Reads s id (named_datum w) × ReadAll s ids (named_data ws)
first_name s all ids id w ws e h =
    let r = first_of s all id ids (named_data (w ∷ ws)) e h in
    let P : Datum → Type 0 = λ d. Reads s id d in
    let Q : Items → Type 0 = λ ds. ReadAll s ids ds in
    (subst P (ap (first_or (named_datum w)) (sym r.are)) r.first, subst Q (ap others_in (sym r.are)) r.rest)

entered : (a b c : Expander) (rest others : List ℕ) (id : ℕ) (ws left : List Word) (paid : Option Fault)
    → rest ≡ id ∷ others → ReadAll a.source rest (named_data left) → Adds a b paid
    → earlier paid (least (in_words left)) ≡ least (in_words ws)
    → ((w : Word) → Reads b.source id (named_datum w) → Adds b c (least (in_word w))) → Entered a c others ws
entered a b c rest others id ws [] paid e read adds total name =
    absurd (let none_left : rest ≡ [] = read.stand in let more : [] ≡ id ∷ others = sym none_left ∙ e in cc)
entered a b c rest others id ws (w ∷ left) paid e read adds total name =
    let r = first_name a.source rest others id w left e read in
    let P : Source → Type 0 = λ s. Reads s id (named_datum w) in
    record {
      left = left;
      read = r.1;
      paid = earlier paid (least (in_word w));
      adds = both a b c paid (least (in_word w)) adds (name w (subst P (sym adds.source) r.0));
      total =
          earlier_assoc paid (least (in_word w)) (least (in_words left))
          ∙ (ap (earlier paid) (sym (least_append (in_word w) (in_words left))) ∙ total);
    }

pub name_entered : (a b c : Expander) (rest others : List ℕ) (id : ℕ) (ws : List Word) → Entered a b rest ws
    → rest ≡ id ∷ others → ((w : Word) → Reads b.source id (named_datum w) → Adds b c (least (in_word w)))
    → Entered a c others ws
name_entered a b c rest others id ws i e name =
    entered a b c rest others id ws i.left i.paid e i.read i.adds i.total name

finished : (a b : Expander) (ws left : List Word) (paid : Option Fault) → ReadAll a.source [] (named_data left)
    → Adds a b paid → earlier paid (least (in_words left)) ≡ least (in_words ws) → Adds a b (least (in_words ws))
finished a b ws [] paid read adds total =
    let P : Option Fault → Type 0 = λ x. Adds a b x in subst P (sym (earlier_none paid) ∙ total) adds
finished a b ws (w ∷ left) paid read adds total = absurd (let whole = read.stand.2 in cc)

pub names_entered : (a b : Expander) (rest : List ℕ) (ws : List Word) → Entered a b rest ws → rest ≡ []
    → Adds a b (least (in_words ws))
names_entered a b rest ws i e =
    let P : List ℕ → Type 0 = λ ids. ReadAll a.source ids (named_data i.left) in
    finished a b ws i.left i.paid (subst P e i.read) i.adds i.total
