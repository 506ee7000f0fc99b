-- What is copied gets a number, and keeps it.
use Rattle.std.proofs.Common.{◌≡◌, ℕ, zero, suc, ◌+◌, ◌<◌, ◌≤◌, List as Seq, [], ◌∷◌, ◌++◌, length, take, get_or, Option, Some, None, ◌⊎◌, inl, inr, refl, sym, ap, subst, ◌∙◌, append_assoc, arith}
use Rattle.std.specs.Prelude.{slice_get}
use Rattle.std.proofs.lemmas.List.{map-append, take_more, length-take-le}
use Rattle.std.proofs.lemmas.Option.{slice_get_cases, slice_get_read, slice_get_within}
use Rattle.datum_form.specs.declared.datums.Kind.{Kind}
use Rattle.datum_form.specs.declared.datums.Kind.TheVariants as kind
use Rattle.datum_form.specs.declared.datums.Node.{Node}
use Rattle.draft_form.proofs.Building.{get_append}
use Rattle.scheme_expand.specs.declared.placed.Original.{Original}
use Rattle.scheme_expand.specs.Copied.{original, all_in, forms_from, Grows, AreAt, TailIsAt, KindCopies, IsCopy, AreCopies}

-- The list grows

pub grows_twice : (a b c : Seq Original) → Grows a b → Grows b c → Grows a c
grows_twice a b c p q = (p.0 ++ q.0, q.1 ∙ (ap (λ l. l ++ q.0) p.1 ∙ append_assoc a p.0 q.0))

still_at : (old new : Seq Original) (copy : ℕ) (o : Original) → Grows old new → slice_get old copy ≡ Some o → slice_get new copy ≡ Some o
still_at old new copy o g h = ap (λ l. slice_get l copy) g.1 ∙ get_append old g.0 copy o h

pub all_still_at : (old new originals : Seq Original) (copies : Seq ℕ) → Grows old new → AreAt old originals copies → AreAt new originals copies
all_still_at old new [] copies g h = h
all_still_at old new (o ∷ originals) copies g h =
    (h.0, h.1, h.2, still_at old new h.0 o g h.3, all_still_at old new originals h.1 g h.4)

-- Numbers of many

one_more_at : (from originals : Seq Original) (copies : Seq ℕ) (o : Original) (copy : ℕ) → AreAt from originals copies
    → slice_get from copy ≡ Some o → AreAt from (originals ++ o ∷ []) (copies ++ copy ∷ [])
one_more_at from [] copies o copy h one = (copy, [], ap (λ l. l ++ copy ∷ []) h, one, refl)
one_more_at from (p ∷ originals) copies o copy h one =
    (h.0, h.1 ++ copy ∷ [], ap (λ l. l ++ copy ∷ []) h.2, h.3, one_more_at from originals h.1 o copy h.4 one)

then_at : (old new originals all : Seq Original) (copies more : Seq ℕ) (o : Original) (copy : ℕ) → Grows old new
    → AreAt old originals copies → slice_get new copy ≡ Some o → all ≡ originals ++ o ∷ [] → more ≡ copies ++ copy ∷ []
    → AreAt new all more
then_at old new originals all copies more o copy g h one p q =
    let P : Seq Original → Type 0 = λ l. AreAt new l more in
    let Q : Seq ℕ → Type 0 = λ l. AreAt new (originals ++ o ∷ []) l in
    subst P (sym p) (subst Q (sym q) (one_more_at new originals copies o copy (all_still_at old new originals copies g h) one))

-- the first of a form's nodes have numbers
pub next_at : (old new : Seq Original) (form : ℕ) (ids copies more : Seq ℕ) (i copy : ℕ) → i < length ids → Grows old new
    → AreAt old (all_in form (take i ids)) copies → slice_get new copy ≡ Some (original form (get_or ids i 0))
    → more ≡ copies ++ copy ∷ [] → AreAt new (all_in form (take (i + 1) ids)) more
next_at old new form ids copies more i copy within g h one q =
    then_at old new (all_in form (take i ids)) (all_in form (take (i + 1) ids)) copies more (original form (get_or ids i 0)) copy g h one
    (ap (λ l. all_in form l) (take_more ids i 0 within) ∙ map-append (original form) (take i ids) (get_or ids i 0 ∷ [])) q

form_behind : (k : ℕ) (ids : Seq ℕ) (id : ℕ) → forms_from k (ids ++ id ∷ []) ≡ forms_from k ids ++ original (k + length ids) id ∷ []
form_behind k [] id = ap (λ n. original n id ∷ []) (plus_none k)
  where
    plus_none : (k : ℕ) → k ≡ k + 0
    plus_none k = omega arith
form_behind k (i ∷ ids) id =
    ap (λ l. original k i ∷ l) (form_behind (suc k) ids id
    ∙ ap (λ n. forms_from (suc k) ids ++ original n id ∷ []) (sum k (length ids)))
  where
    sum : (k n : ℕ) → suc k + n ≡ k + suc n
    sum k n = omega arith

-- the first forms have numbers
pub next_form_at : (old new : Seq Original) (ids copies more : Seq ℕ) (i form copy : ℕ) → i < length ids → form ≡ 1 + i → Grows old new
    → AreAt old (forms_from 1 (take i ids)) copies → slice_get new copy ≡ Some (original form (get_or ids i 0))
    → more ≡ copies ++ copy ∷ [] → AreAt new (forms_from 1 (take (i + 1) ids)) more
next_form_at old new ids copies more i form copy within n g h one q =
    let count : form ≡ 1 + length (take i ids) = n ∙ ap (λ m. 1 + m) (sym (length-take-le i ids (omega (arith, within)))) in
    then_at old new (forms_from 1 (take i ids)) (forms_from 1 (take (i + 1) ids)) copies more (original form (get_or ids i 0)) copy g h one
    (ap (λ l. forms_from 1 l) (take_more ids i 0 within)
    ∙ (form_behind 1 (take i ids) (get_or ids i 0)
    ∙ ap (λ m. forms_from 1 (take i ids) ++ original m (get_or ids i 0) ∷ []) (sym count))) q

-- Copies

tail_stays : (old new : Seq Original) (form : ℕ) (tail end : Option ℕ) → Grows old new → TailIsAt old form tail end
    → TailIsAt new form tail end
tail_stays old new form None end g h = h
tail_stays old new form (Some id) end g h = (h.0, h.1, still_at old new h.0 (original form id) g h.2)

kind_stays : (old new : Seq Original) (form : ℕ) (j k : Kind) → Grows old new → KindCopies old form j k → KindCopies new form j k
kind_stays old new form (kind.List ids tail) k g h =
    (h.0, h.1, h.2, all_still_at old new (all_in form ids) h.0 g h.3, tail_stays old new form tail h.1 g h.4)
kind_stays old new form (kind.Vector ids) k g h = (h.0, h.1, all_still_at old new (all_in form ids) h.0 g h.2)
kind_stays old new form (kind.Integer n) k g h = h
kind_stays old new form (kind.Boolean b) k g h = h
kind_stays old new form (kind.Char b) k g h = h
kind_stays old new form (kind.Text t) k g h = h
kind_stays old new form (kind.Name x) k g h = h

-- a list's items have numbers before its tail has one
pub list_copied : (old new : Seq Original) (form : ℕ) (k : Kind) (ids given copies : Seq ℕ) (tail end : Option ℕ) → Grows old new
    → k ≡ kind.List ids tail → given ≡ ids → AreAt old (all_in form given) copies → TailIsAt new form tail end
    → KindCopies new form k (kind.List copies end)
list_copied old new form k ids given copies tail end g is same h t =
    let P : Kind → Type 0 = λ j. KindCopies new form j (kind.List copies end) in
    let Q : Seq ℕ → Type 0 = λ l. AreAt new (all_in form l) copies in
    subst P (sym is) (copies, end, refl, subst Q same (all_still_at old new (all_in form given) copies g h), t)

copy_stays : (nodes : Seq Node) (old new : Seq Original) (o : Original) (copy : Node) → Grows old new → IsCopy nodes old o copy
    → IsCopy nodes new o copy
copy_stays nodes old new o copy g i = record {
  node = i.node;
  there = i.there;
  kind = kind_stays old new o.form i.node.kind copy.kind g i.kind;
  place = i.place;
}

-- the last of a list, or one of the others
last_or_before : (copies : Seq Node) (last : Node) (id : ℕ) (copy : Node) → slice_get (copies ++ last ∷ []) id ≡ Some copy
    → (slice_get copies id ≡ Some copy) ⊎ ((id ≡ length copies) × (last ≡ copy))
last_or_before [] last zero copy h = inr (refl, cc)
last_or_before [] last (suc id) copy h = absurd (cc)
last_or_before (c ∷ copies) last zero copy h = inl h
last_or_before (c ∷ copies) last (suc id) copy h =
    by_case (last_or_before copies last id copy h)
  where
    by_case : (slice_get copies id ≡ Some copy) ⊎ ((id ≡ length copies) × (last ≡ copy))
        → (slice_get copies id ≡ Some copy) ⊎ ((suc id ≡ suc (length copies)) × (last ≡ copy))
    by_case (inl e) = inl e
    by_case (inr e) = inr (ap suc e.0, e.1)

pub one_copied : (nodes : Seq Node) (old new : Seq Original) (o : Original) (copies more : Seq Node) (last : Node) → Grows old new
    → AreCopies nodes old copies → slice_get old (length copies) ≡ Some o → IsCopy nodes new o last → more ≡ copies ++ last ∷ []
    → AreCopies nodes new more
one_copied nodes old new o copies more last g before next is e id copy h =
    by_case (last_or_before copies last id copy (ap (λ l. slice_get l id) (sym e) ∙ h))
  where
    by_case : (slice_get copies id ≡ Some copy) ⊎ ((id ≡ length copies) × (last ≡ copy))
        → (p : Original) × (slice_get new id ≡ Some p) × IsCopy nodes new p copy
    by_case (inl there) =
        let one = before id copy there in
        (one.0, still_at old new id one.0 g one.1, copy_stays nodes old new one.0 copy g one.2)
    by_case (inr at) =
        let P : Node → Type 0 = λ c. IsCopy nodes new o c in
        (o, ap (λ n. slice_get new n) at.0 ∙ still_at old new (length copies) o g next, subst P at.1 is)

-- what is to be copied next
pub next_in : (from got : Seq Original) (copies : Seq Node) (i : ℕ) (o : Original) → got ≡ from → i ≡ length copies → i < length got
    → o ≡ get_or got i o → slice_get from (length copies) ≡ Some o
next_in from got copies i o same at within is =
    ap (λ n. slice_get from n) (sym at) ∙ (ap (λ l. slice_get l i) (sym same) ∙ slice_get_read got (length got) i o refl within is)

-- all is copied where nothing is to be copied next
pub all_copied : (nodes : Seq Node) (from : Seq Original) (copies : Seq Node) → AreCopies nodes from copies → length from ≤ length copies
    → length copies ≡ length from
all_copied nodes from copies are past = by_case (slice_get_cases copies (length from)).1
  where
    by_case : ((c : Node) × (length from < length copies) × (slice_get copies (length from) ≡ Some c) × (get_or copies (length from) c ≡ c))
        ⊎ ((length copies ≤ length from) × (slice_get copies (length from) ≡ None)) → length copies ≡ length from
    by_case (inl more) =
        let one = are (length from) more.0 more.2 in
        absurd (let within = slice_get_within from (length from) one.0 one.1 in omega (arith, within))
    by_case (inr over) = omega (arith, past, over.0)
