-- What steps make one after another, and when a list of items is no literal.
use Rattle.std.proofs.Common.{◌≡◌, true, false, List as Seq, [], ◌∷◌, ◌++◌, refl, ap, subst, ◌∙◌}
use Rattle.scheme_base.specs.Constants.{Constant}
use Rattle.datum_form.specs.declared.datums.Node.{Node}
use Rattle.quasi_expand.specs.declared.template.Part.{Part}
use Rattle.quasi_expand.specs.Making.{Makes, MakeAll, value, onto, link, links}
use Rattle.quasi_expand.specs.Steps.{ArePlain, Live}
use Rattle.quasi_expand.specs.Templates.{Template, Entry, Plain, Unquoted, Spliced, Pair, Vector, One, All, is_plain, pair_of, before, all_before}

-- Steps

pub then_all : (nodes : Seq Node) (ps qs : Seq Part) (a b c : Seq Template) → MakeAll nodes ps a b → MakeAll nodes qs b c
    → MakeAll nodes (ps ++ qs) a c
then_all nodes [] qs a b c h k = let P : Seq Template → Type 0 = λ s. MakeAll nodes qs s c in subst P h k
then_all nodes (p ∷ ps) qs a b c h k = (h.0, h.1, then_all nodes ps qs h.0 b c h.2 k)

pub one_step : (nodes : Seq Node) (p : Part) (a b : Seq Template) → Makes nodes p a b → MakeAll nodes (p ∷ []) a b
one_step nodes p a b h = (b, h, refl)

pub makes_as : (nodes : Seq Node) (ps : Seq Part) (a b c : Seq Template) → b ≡ c → MakeAll nodes ps a b → MakeAll nodes ps a c
makes_as nodes ps a b c e h = let P : Seq Template → Type 0 = λ s. MakeAll nodes ps a s in subst P e h

-- Items

pub onto_append : (es fs : Seq Entry) (s : Seq Template) → onto (es ++ fs) s ≡ onto fs (onto es s)
onto_append [] fs s = refl
onto_append (e ∷ es) fs s = onto_append es fs (value e ∷ s)

pub all_before_append : (es fs : Seq Entry) (rest : Template) → all_before (es ++ fs) rest ≡ all_before es (all_before fs rest)
all_before_append [] fs rest = refl
all_before_append (e ∷ es) fs rest = ap (before e) (all_before_append es fs rest)

-- Literals

pub plain_is : (t : Template) → is_plain t ≡ true → (c : Constant) × (t ≡ Plain c)
plain_is (Plain c) h = (c, refl)
plain_is (Unquoted d) h = absurd (cc)
plain_is (Spliced d t) h = absurd (cc)
plain_is (Pair s t) h = absurd (cc)
plain_is (Vector t) h = absurd (cc)

plain_pair : (s t : Template) → is_plain s ≡ true → is_plain t ≡ true → is_plain (pair_of s t) ≡ true
plain_pair s t h k =
    let a = plain_is s h in
    let b = plain_is t k in
    ap (λ x. is_plain (pair_of x t)) a.1 ∙ ap (λ x. is_plain (pair_of (Plain a.0) x)) b.1

plain_before : (e : Entry) (rest : Template) → is_plain (value e) ≡ true → is_plain rest ≡ true
    → is_plain (before e rest) ≡ true
plain_before (One t) rest h k = plain_pair t rest h k
plain_before (All d) rest h k = absurd (cc)

pub all_plain : (es : Seq Entry) (rest : Template) → ArePlain es → is_plain rest ≡ true → is_plain (all_before es rest) ≡ true
all_plain [] rest h k = k
all_plain (e ∷ es) rest h k = plain_before e (all_before es rest) h.0 (all_plain es rest h.1 k)

pub plain_append : (es fs : Seq Entry) → ArePlain es → ArePlain fs → ArePlain (es ++ fs)
plain_append [] fs h k = k
plain_append (e ∷ es) fs h k = (h.0, plain_append es fs h.1 k)

-- What is no literal

-- a pair is one of a step where it is no literal
pub real_pair : (s t : Template) → is_plain (pair_of s t) ≡ false → pair_of s t ≡ Pair s t
real_pair (Plain c) (Plain d) h = absurd (cc)
real_pair (Plain c) (Unquoted d) h = refl
real_pair (Plain c) (Spliced d t) h = refl
real_pair (Plain c) (Pair s t) h = refl
real_pair (Plain c) (Vector t) h = refl
real_pair (Unquoted d) t h = refl
real_pair (Spliced d s) t h = refl
real_pair (Pair r s) t h = refl
real_pair (Vector s) t h = refl

pub live_car : (s t : Template) → is_plain s ≡ false → is_plain (pair_of s t) ≡ false
live_car (Plain c) t h = absurd (cc)
live_car (Unquoted d) t h = refl
live_car (Spliced d s) t h = refl
live_car (Pair r s) t h = refl
live_car (Vector s) t h = refl

pub live_cdr : (s t : Template) → is_plain t ≡ false → is_plain (pair_of s t) ≡ false
live_cdr s (Plain c) h = absurd (cc)
live_cdr (Plain c) (Unquoted d) h = refl
live_cdr (Plain c) (Spliced d t) h = refl
live_cdr (Plain c) (Pair s t) h = refl
live_cdr (Plain c) (Vector t) h = refl
live_cdr (Unquoted d) t h = refl
live_cdr (Spliced d s) t h = refl
live_cdr (Pair r s) t h = refl
live_cdr (Vector s) t h = refl

live_item : (e : Entry) (rest : Template) → is_plain (value e) ≡ false → is_plain (before e rest) ≡ false
live_item (One t) rest h = live_car t rest h
live_item (All d) rest h = refl

live_rest : (e : Entry) (rest : Template) → is_plain rest ≡ false → is_plain (before e rest) ≡ false
live_rest (One t) rest h = live_cdr t rest h
live_rest (All d) rest h = refl

pub all_live : (es : Seq Entry) (rest : Template) → is_plain rest ≡ false → is_plain (all_before es rest) ≡ false
all_live [] rest h = h
all_live (e ∷ es) rest h = live_rest e (all_before es rest) (all_live es rest h)

pub each_live : (es : Seq Entry) (rest : Template) → is_plain rest ≡ false → Live es rest
each_live [] rest h = tt
each_live (e ∷ es) rest h = (all_live (e ∷ es) rest h, each_live es rest h)

-- the last item is none
pub all_end_live : (es : Seq Entry) (e : Entry) (rest : Template) → is_plain (value e) ≡ false
    → is_plain (all_before (es ++ e ∷ []) rest) ≡ false
all_end_live [] e rest h = live_item e rest h
all_end_live (x ∷ es) e rest h = live_rest x (all_before (es ++ e ∷ []) rest) (all_end_live es e rest h)

pub end_live : (es : Seq Entry) (e : Entry) (rest : Template) → is_plain (value e) ≡ false → Live (es ++ e ∷ []) rest
end_live [] e rest h = (live_item e rest h, tt)
end_live (x ∷ es) e rest h = (all_end_live (x ∷ es) e rest h, end_live es e rest h)

-- Items are put before a list's rest

link_made : (nodes : Seq Node) (e : Entry) (rest : Template) (s : Seq Template) → is_plain (before e rest) ≡ false
    → Makes nodes (link e) (rest ∷ value e ∷ s) (before e rest ∷ s)
link_made nodes (One t) rest s h = (t, rest, s, refl, ap (λ x. x ∷ s) (real_pair t rest h))
link_made nodes (All d) rest s h = (d, rest, s, refl, refl)

pub linked : (nodes : Seq Node) (es : Seq Entry) (rest : Template) (s : Seq Template) → Live es rest
    → MakeAll nodes (links es) (rest ∷ onto es s) (all_before es rest ∷ s)
linked nodes [] rest s h = refl
linked nodes (e ∷ es) rest s h =
    let tail : Template = all_before es rest in
    then_all nodes (links es) (link e ∷ []) (rest ∷ onto es (value e ∷ s)) (tail ∷ value e ∷ s) (before e tail ∷ s)
    (linked nodes es rest (value e ∷ s) h.1)
    (one_step nodes (link e) (tail ∷ value e ∷ s) (before e tail ∷ s) (link_made nodes e tail s h.0))
