-- Each name of a table of names has one word, and the word of a node is that of its name.
use Rattle.std.proofs.Common.{ℕ, zero, suc, ◌≡◌, ◌<◌, ◌≤◌, List, [], ◌∷◌, length, Option, Some, Bor, true, false, inl, inr, refl, sym, ap, subst, ◌∙◌, arith}
use Rattle.std.specs.Prelude.{nat_lt, slice_get, ◌⊎◌}
use Rattle.std.proofs.lemmas.Bool.{lt-ltb, le-ltb}
use Rattle.datum_form.specs.declared.datums.Kind.{Kind}
use Rattle.datum_form.specs.declared.datums.Kind.TheVariants as kind
use Rattle.datum_form.specs.declared.datums.Node.{Node}
use Rattle.draft_form.specs.Drawn.{name_or_none, word_name, Names}
use Rattle.scheme_expand.specs.ByWord.{all_names, HaveOneWord}
use Rattle.scheme_expand.specs.Naming.{AreDistinct, AreNamed, AreWordsOf, IsWordOf}
use Rattle.scheme_expand.specs.Noted.{level_in}
use Rattle.scheme_expand.specs.Rewriting.{has_name}
use Rattle.scheme_expand.specs.Symbols.{IsSpelled, AreSpelled}
use Rattle.scheme_expand.proofs.Numbering.{node_word}
use Rattle.scheme_expand.proofs.Scoping.{apart}
use Rattle.scheme_expand.proofs.SymbolsListed.{word_listed}

-- Words

pub record IsPast (names : Names) (w : ℕ) : Type 0 where
  pub past : length names ≤ w
  pub none : word_name names w ≡ []

-- a word of a name is within the table
pub record IsWithin (names : Names) (w : ℕ) : Type 0 where
  pub name : Bor (List ℕ)
  pub within : w < length names
  pub at : slice_get names w ≡ Some name
  pub text : slice_get (all_names names) w ≡ Some (word_name names w)
  pub is : name.now ≡ word_name names w

pub within_or_past : (names : Names) (w : ℕ) → IsWithin names w ⊎ IsPast names w
within_or_past [] w = inr (record { past = omega arith; none = refl })
within_or_past (y ∷ names) zero = inl (record { name = y; within = omega arith; at = refl; text = refl; is = refl })
within_or_past (y ∷ names) (suc w) = by_case (within_or_past names w)
  where
    by_case : (IsWithin names w ⊎ IsPast names w) → (IsWithin (y ∷ names) (suc w) ⊎ IsPast (y ∷ names) (suc w))
    by_case (inl i) =
        inl (record { name = i.name; within = omega (arith, i.within); at = i.at; text = i.text; is = i.is })
    by_case (inr i) = inr (record { past = omega (arith, i.past); none = i.none })

-- a listed name is within, where no empty name is listed
pub listed_within : (names : Names) (listed : List (List ℕ)) (w : ℕ) → has_name listed [] ≡ false
    → has_name listed (word_name names w) ≡ true → IsWithin names w
listed_within names listed w named there = by_case (within_or_past names w)
  where
    by_case : (IsWithin names w ⊎ IsPast names w) → IsWithin names w
    by_case (inl i) = i
    by_case (inr i) = absurd (apart (sym there ∙ (ap (has_name listed) i.none ∙ named)))

pub one_word : (names : Names) (listed : List (List ℕ)) → AreDistinct (all_names names) → has_name listed [] ≡ false
    → HaveOneWord names listed
one_word names listed distinct named v w there same =
    let P : List ℕ → Type 0 = λ x. has_name listed x ≡ true in
    let i = listed_within names listed v named there in
    let j = listed_within names listed w named (subst P same there) in
    distinct v w (word_name names v) i.text (j.text ∙ ap Some (sym same))

pub name_listed : (names : Names) (w : ℕ) → IsWithin names w → has_name (all_names names) (word_name names w) ≡ true
name_listed names w i = let P : List ℕ → Type 0 = λ x. has_name (all_names names) x ≡ true in subst P i.is (word_listed names w i.name i.at)

-- the words of names are those within
pub words_listed : (names : Names) → AreNamed (all_names names)
    → (n : ℕ) → nat_lt n (length names) ≡ has_name (all_names names) (word_name names n)
words_listed names named n = by_case (within_or_past names n)
  where
    by_case : (IsWithin names n ⊎ IsPast names n) → nat_lt n (length names) ≡ has_name (all_names names) (word_name names n)
    by_case (inl i) = lt-ltb n (length names) i.within ∙ sym (name_listed names n i)
    by_case (inr i) =
        le-ltb n (length names) i.past ∙ sym (ap (has_name (all_names names)) i.none ∙ named)

-- the names of words are all different
pub all_different : (names : Names) → AreDistinct (all_names names) → AreNamed (all_names names) → (v w : ℕ)
    → nat_lt v (length names) ≡ true → word_name names v ≡ word_name names w → v ≡ w
all_different names distinct named v w within same =
    one_word names (all_names names) distinct named v w (sym (words_listed names named v) ∙ within) same

-- Nodes

name_there : (names : Names) (w : ℕ) (x : List ℕ) → slice_get (all_names names) w ≡ Some x
    → (y : Bor (List ℕ)) × (slice_get names w ≡ Some y) × (y.now ≡ x)
name_there [] w x e = absurd (cc)
name_there (y ∷ names) zero x e = (y, refl, cc)
name_there (y ∷ names) (suc w) x e = name_there names w x e

pub name_is : (names : Names) (w : ℕ) (x : List ℕ) → slice_get (all_names names) w ≡ Some x → word_name names w ≡ x
name_is names w x e = let n = name_there names w x e in ap name_or_none n.1 ∙ n.2

node_spelled : (names : Names) (word : Option ℕ) (k : Kind) → IsWordOf (all_names names) word k → IsSpelled names k word
node_spelled names word (kind.Name x) h =
    let n = name_there names h.0 x h.2 in
    (h.0, n.0, h.1, n.1, n.2)
node_spelled names word (kind.Integer z) h = h
node_spelled names word (kind.Boolean b) h = h
node_spelled names word (kind.Char c) h = h
node_spelled names word (kind.Text t) h = h
node_spelled names word (kind.List is t) h = h
node_spelled names word (kind.Vector is) h = h

pub all_spelled : (names : Names) (words : List (Option ℕ)) (nodes : List Node) → AreWordsOf (all_names names) words nodes
    → AreSpelled names nodes words
all_spelled names words nodes h id node at =
    node_spelled names (level_in (slice_get words id)) node.kind (node_word (all_names names) words nodes id node h at)
