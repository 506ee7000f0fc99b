-- Which data the numbers of a list are.
use Rattle.std.proofs.Common.{ℕ, ◌≡◌, List, [], ◌∷◌, ◌++◌, refl, sym, ap, subst, ◌∙◌}
use Rattle.datum_form.specs.Data.{Datum, Items}
use Rattle.datum_form.specs.Data.Items.{none, item}
use Rattle.datum_form.specs.Stands.{Stands, StandAll}
use Rattle.scheme_expand.specs.declared.source.Source.{Source}
use Rattle.scheme_expand.specs.Waiting.{Reads, ReadAll}

pub no_items : (s : Source) (ids : List ℕ) (ds : Items) → ids ≡ [] → ReadAll s ids ds → ds ≡ none
no_items s ids none e h = refl
no_items s ids (item d ds) e h = let first = h.stand.2 in absurd (cc)

pub record First (s : Source) (id : ℕ) (ids : List ℕ) (ds : Items) : Type 0 where
  pub datum : Datum
  pub others : Items
  pub are : ds ≡ item datum others
  pub first : Reads s id datum
  pub rest : ReadAll s ids others

pub first_of : (s : Source) (all : List ℕ) (id : ℕ) (ids : List ℕ) (ds : Items) → all ≡ id ∷ ids → ReadAll s all ds
    → First s id ids ds
first_of s all id ids none e h = let empty : all ≡ [] = h.stand in absurd (cc)
first_of s all id ids (item d ds) e h =
    let whole : all ≡ h.stand.0 ∷ h.stand.1 = h.stand.2 in
    let same : h.stand.0 ≡ id = cc in
    let others : h.stand.1 ≡ ids = cc in
    let P : ℕ → Type 0 = λ i. Stands s.nodes.now i d in
    let Q : List ℕ → Type 0 = λ is. StandAll s.nodes.now is ds in
    record {
      datum = d;
      others = ds;
      are = refl;
      first = record { named = h.named; stands = subst P same h.stand.3 };
      rest = record { named = h.named; stand = subst Q others h.stand.4 };
    }

pub read_none : (s : Source) (ids : List ℕ) (ds : Items) → ReadAll s ids ds → ReadAll s [] none
read_none s ids ds h = record { named = h.named; stand = refl }

pub read_more : (s : Source) (id : ℕ) (ids : List ℕ) (d : Datum) (ds : Items) → Reads s id d → ReadAll s ids ds
    → ReadAll s (id ∷ ids) (item d ds)
read_more s id ids d ds p q = record { named = p.named; stand = (id, ids, refl, p.stands, q.stand) }

pub read_one : (s : Source) (id : ℕ) (d : Datum) → Reads s id d → ReadAll s (id ∷ []) (item d none)
read_one s id d p = record { named = p.named; stand = (id, [], refl, p.stands, refl) }

-- data behind others
abbrev pub joined : Items → Items → Items
joined none es = es
joined (item d ds) es = item d (joined ds es)

stand_joined : (s : Source) (is js : List ℕ) (ds es : Items) → StandAll s.nodes.now is ds → StandAll s.nodes.now js es
    → StandAll s.nodes.now (is ++ js) (joined ds es)
stand_joined s is js none es p q =
    let Q : List ℕ → Type 0 = λ l. StandAll s.nodes.now (l ++ js) es in subst Q (sym p) q
stand_joined s is js (item d ds) es p q =
    (p.0, p.1 ++ js, ap (λ l. l ++ js) p.2, p.3, stand_joined s p.1 js ds es p.4 q)

pub read_joined : (s : Source) (is js : List ℕ) (ds es : Items) → ReadAll s is ds → ReadAll s js es
    → ReadAll s (is ++ js) (joined ds es)
read_joined s is js ds es p q = record { named = p.named; stand = stand_joined s is js ds es p.stand q.stand }

pub record Last (s : Source) (ids : List ℕ) (id : ℕ) (ds : Items) : Type 0 where
  pub others : Items
  pub datum : Datum
  pub are : ds ≡ joined others (item datum none)
  pub rest : ReadAll s ids others
  pub last : Reads s id datum

pub last_of : (s : Source) (all ids : List ℕ) (id : ℕ) (ds : Items) → all ≡ ids ++ id ∷ [] → ReadAll s all ds → Last s ids id ds
last_of s all [] id ds e h =
    let r = first_of s all id [] ds e h in
    record {
      others = none;
      datum = r.datum;
      are = r.are ∙ ap (item r.datum) (no_items s [] r.others refl r.rest);
      rest = read_none s all ds h;
      last = r.first;
    }
last_of s all (i ∷ ids) id ds e h =
    let r = first_of s all i (ids ++ id ∷ []) ds e h in
    let q = last_of s (ids ++ id ∷ []) ids id r.others refl r.rest in
    record {
      others = item r.datum q.others;
      datum = q.datum;
      are = r.are ∙ ap (item r.datum) q.are;
      rest = read_more s i ids r.datum q.others r.first q.rest;
      last = q.last;
    }

pub read_same : (s t : Source) (ids js : List ℕ) (ds es : Items) → s ≡ t → ids ≡ js → ds ≡ es → ReadAll s ids ds → ReadAll t js es
read_same s t ids js ds es p q r h =
    let P : Source → Type 0 = λ u. ReadAll u ids ds in
    let Q : List ℕ → Type 0 = λ is. ReadAll t is ds in
    let R : Items → Type 0 = λ is. ReadAll t js is in
    subst R r (subst Q q (subst P p h))

pub read_in : (s t : Source) (id : ℕ) (d : Datum) → s ≡ t → Reads s id d → Reads t id d
read_in s t id d p h = let P : Source → Type 0 = λ u. Reads u id d in subst P p h

-- the same numbers, written otherwise
pub read_at : (s : Source) (ids js : List ℕ) (ds : Items) → ids ≡ js → ReadAll s js ds → ReadAll s ids ds
read_at s ids js ds e h = let P : List ℕ → Type 0 = λ l. ReadAll s l ds in subst P (sym e) h
