-- The names of nodes get numbers, node by node.
use Rattle.std.proofs.Common.{ℕ, zero, suc, ◌≡◌, List, [], ◌∷◌, ◌++◌, map, length, Option, Some, None, refl, sym, ap, subst, ◌∙◌, append_assoc, arith}
use Rattle.std.specs.Prelude.{slice_get}
use Rattle.std.proofs.lemmas.List.{append-nil}
use Rattle.datum_form.specs.declared.datums.Kind.{Kind}
use Rattle.datum_form.specs.declared.datums.Kind.TheVariants as kind
use Rattle.datum_form.specs.declared.datums.Node.{Node}
use Rattle.datum_form.specs.declared.token.Atom.TheVariants.{Integer, Boolean, Character, String, Symbol}
use Rattle.datum_form.specs.Data.{Datum, Datum as datum}
use Rattle.datum_form.specs.Stands.{Stands}
use Rattle.scheme_expand.specs.declared.source.Source.{Source}
use Rattle.scheme_expand.specs.declared.words.Keyword.{Keyword}
use Rattle.scheme_expand.specs.declared.words.Keyword.TheVariants as keyword
use Rattle.scheme_expand.specs.Naming.{IsTable, Grows, IsWordOf, AreWordsOf, Names, keyword_names, known_names, operation_names, table_names}
use Rattle.scheme_expand.specs.Noted.{level_in}
use Rattle.scheme_expand.specs.Waiting.{HasWord, IsNamed, keyword_table, keyword_at, keyword_named, name_of}
use Rattle.scheme_expand.proofs.Named.{named, is_name}
use Rattle.scheme_expand.proofs.NumberedNames.{adds_twice}

-- Lists of names

pub get_front : {A : Type 0} (xs ys : List A) (i : ℕ) (x : A) → slice_get xs i ≡ Some x → slice_get (xs ++ ys) i ≡ Some x
get_front [] ys i x h = absurd (cc)
get_front (y ∷ xs) ys zero x h = h
get_front (y ∷ xs) ys (suc i) x h = get_front xs ys i x h

pub same_names : (names : List (List ℕ)) → Grows names names
same_names names =
    record { more = []; adds = record { longer = sym (append-nil names); distinct = λ h. h; named = λ h. h } }

pub grows_twice : (a b c : List (List ℕ)) → Grows a b → Grows b c → Grows a c
grows_twice a b c p q = record { more = p.more ++ q.more; adds = adds_twice a p.more b q.more c p.adds q.adds }

pub still_there : (a b : List (List ℕ)) (w : ℕ) (x : List ℕ) → Grows a b → slice_get a w ≡ Some x → slice_get b w ≡ Some x
still_there a b w x g h = ap (λ l. slice_get l w) g.adds.longer ∙ get_front a g.more w x h

-- Nodes

word_stays : (a b : List (List ℕ)) (found : Option ℕ) (k : Kind) → Grows a b → IsWordOf a found k → IsWordOf b found k
word_stays a b found (kind.Name x) g h = (h.0, h.1, still_there a b h.0 x g h.2)
word_stays a b found (kind.Integer z) g h = h
word_stays a b found (kind.Boolean c) g h = h
word_stays a b found (kind.Char c) g h = h
word_stays a b found (kind.Text t) g h = h
word_stays a b found (kind.List is t) g h = h
word_stays a b found (kind.Vector is) g h = h

pub words_stay : (a b : List (List ℕ)) (found : List (Option ℕ)) (nodes : List Node) → Grows a b → AreWordsOf a found nodes
    → AreWordsOf b found nodes
words_stay a b found [] g h = h
words_stay a b found (node ∷ nodes) g h =
    (h.0, h.1, h.2, word_stays a b h.0 node.kind g h.3, words_stay a b h.1 nodes g h.4)

words_more : (names : List (List ℕ)) (found : List (Option ℕ)) (one : Option ℕ) (nodes : List Node) (node : Node)
    → AreWordsOf names found nodes → IsWordOf names one node.kind → AreWordsOf names (found ++ one ∷ []) (nodes ++ node ∷ [])
words_more names found one [] node h k = (one, [], ap (λ l. l ++ one ∷ []) h, k, refl)
words_more names found one (n ∷ nodes) node h k =
    (h.0, h.1 ++ one ∷ [], ap (λ l. l ++ one ∷ []) h.2, h.3, words_more names h.1 one nodes node h.4 k)

-- the nodes before those that are left have their numbers
pub record SomeNamed (old now : List (List ℕ)) (found : List (Option ℕ)) (all rest : List Node) : Type 0 where
  pub front : List Node
  pub are : all ≡ front ++ rest
  pub grows : Grows old now
  pub words : AreWordsOf now found front

pub none_named : (names : List (List ℕ)) (found : List (Option ℕ)) (nodes : List Node) → found ≡ []
    → SomeNamed names names found nodes nodes
none_named names found nodes e = record { front = []; are = refl; grows = same_names names; words = e }

pub one_named : (old now after : List (List ℕ)) (found found2 : List (Option ℕ)) (one : Option ℕ) (all rest others : List Node)
    (node : Node) → SomeNamed old now found all rest → rest ≡ node ∷ others → found2 ≡ found ++ one ∷ []
    → Grows now after → IsWordOf after one node.kind → SomeNamed old after found2 all others
one_named old now after found found2 one all rest others node i e p g h =
    let P : List (Option ℕ) → Type 0 = λ l. AreWordsOf after l (i.front ++ node ∷ []) in
    record {
      front = i.front ++ node ∷ [];
      are = i.are ∙ (ap (λ l. i.front ++ l) e ∙ sym (append_assoc i.front (node ∷ []) others));
      grows = grows_twice old now after i.grows g;
      words = subst P (sym p) (words_more after found one i.front node (words_stay now after found i.front g i.words) h);
    }

pub all_named : (old now : List (List ℕ)) (found : List (Option ℕ)) (all rest : List Node) → SomeNamed old now found all rest
    → rest ≡ [] → Names old now found all
all_named old now found all rest i e =
    let P : List Node → Type 0 = λ l. AreWordsOf now found l in
    record {
      grows = i.grows;
      words = subst P (sym (i.are ∙ (ap (λ l. i.front ++ l) e ∙ append-nil i.front))) i.words;
    }

-- Sources

pub node_word : (names : List (List ℕ)) (found : List (Option ℕ)) (nodes : List Node) (id : ℕ) (node : Node)
    → AreWordsOf names found nodes → slice_get nodes id ≡ Some node → IsWordOf names (level_in (slice_get found id)) node.kind
node_word names found [] id node h e = absurd (cc)
node_word names found (n ∷ nodes) zero node h e =
    let same : n ≡ node = cc in
    let P : Node → Type 0 = λ x. IsWordOf names (level_in (slice_get found zero)) x.kind in
    let Q : Option ℕ → Type 0 = λ o. IsWordOf names o n.kind in
    subst P same (subst Q (sym (ap (λ l. level_in (slice_get l zero)) h.2)) h.3)
node_word names found (n ∷ nodes) (suc id) node h e =
    let P : List (Option ℕ) → Type 0 = λ l. IsWordOf names (level_in (slice_get l (suc id))) node.kind in
    subst P (sym h.2) (node_word names h.1 nodes id node h.4 e)

pub has_word : (names : List (List ℕ)) (found : List (Option ℕ)) (nodes : List Node) (id : ℕ) (d : Datum)
    → AreWordsOf names found nodes → Stands nodes id d → HasWord names (level_in (slice_get found id)) d
has_word names found nodes id (datum.Atomic p (Symbol x)) h e = node_word names found nodes id _ h e
has_word names found nodes id (datum.Atomic p (Integer z)) h e = node_word names found nodes id _ h e
has_word names found nodes id (datum.Atomic p (Boolean b)) h e = node_word names found nodes id _ h e
has_word names found nodes id (datum.Atomic p (Character c)) h e = node_word names found nodes id _ h e
has_word names found nodes id (datum.Atomic p (String t)) h e = node_word names found nodes id _ h e
has_word names found nodes id (datum.List p is) h e = node_word names found nodes id _ h e.1
has_word names found nodes id (datum.Dotted p is d) h e = node_word names found nodes id _ h e.2
has_word names found nodes id (datum.Vector p is) h e = node_word names found nodes id _ h e.1

-- Keywords

-- a name of a table is the keyword of its number, or none
keyword_there : (ks : List Keyword) (w : ℕ) (k : Keyword) → slice_get ks w ≡ Some k → slice_get (map name_of ks) w ≡ Some (name_of k)
keyword_there [] w k e = absurd (cc)
keyword_there (j ∷ ks) zero k e = let same : j ≡ k = cc in ap (λ x. Some (name_of x)) same
keyword_there (j ∷ ks) (suc w) k e = keyword_there ks w k e

number_of : (k : Keyword) → (w : ℕ) × (slice_get keyword_table w ≡ Some k)
number_of keyword.Quote = (0, refl)
number_of keyword.Lambda = (1, refl)
number_of keyword.If = (2, refl)
number_of keyword.Set = (3, refl)
number_of keyword.Begin = (4, refl)
number_of keyword.Cond = (5, refl)
number_of keyword.And = (6, refl)
number_of keyword.Or = (7, refl)
number_of keyword.Case = (8, refl)
number_of keyword.Let = (9, refl)
number_of keyword.LetStar = (10, refl)
number_of keyword.Letrec = (11, refl)
number_of keyword.Do = (12, refl)
number_of keyword.Delay = (13, refl)
number_of keyword.Quasiquote = (14, refl)
number_of keyword.Else = (15, refl)
number_of keyword.Arrow = (16, refl)
number_of keyword.Define = (17, refl)
number_of keyword.Unquote = (18, refl)
number_of keyword.Splice = (19, refl)

name_at : (names : List (List ℕ)) (t : IsTable names) (w : ℕ) (k : Keyword) → keyword_at w ≡ Some k → slice_get names w ≡ Some (name_of k)
name_at names t w k e =
    ap (λ l. slice_get l w) t.begins
    ∙ get_front table_names t.more w (name_of k)
    (get_front keyword_names (known_names ++ operation_names) w (name_of k) (keyword_there keyword_table w k e))

by_number : (names : List (List ℕ)) (t : IsTable names) (w : ℕ) (x : List ℕ) (j k : Option Keyword) → slice_get names w ≡ Some x
    → keyword_at w ≡ j → keyword_named x ≡ k → j ≡ k
by_number names t w x (Some j) k h p q =
    let g : Some x ≡ Some (name_of j) = sym h ∙ name_at names t w j p in
    let same : x ≡ name_of j = cc in
    sym (sym q ∙ (ap keyword_named same ∙ named j))
by_number names t w x None (Some k) h p q =
    let i = number_of k in
    let same : w ≡ i.0 = t.distinct w i.0 x h (name_at names t i.0 k i.1 ∙ ap Some (sym (is_name x k q))) in
    absurd (let g : None ≡ Some k = sym p ∙ (ap keyword_at same ∙ i.1) in cc)
by_number names t w x None None h p q = refl

pub source_named : (s : Source) (names : List (List ℕ)) → IsTable names → AreWordsOf names s.words.now s.nodes.now
    → IsNamed s
source_named s names t words = record {
  names = names;
  keywords = λ w x h. by_number names t w x (keyword_at w) (keyword_named x) h refl refl;
  differ = t.distinct;
  words = λ id d h. has_word names s.words.now s.nodes.now id d words h;
}

pub table_grows : (a b : List (List ℕ)) → IsTable a → Grows a b → IsTable b
table_grows a b t g = record {
  more = t.more ++ g.more;
  begins = g.adds.longer ∙ (ap (λ l. l ++ g.more) t.begins ∙ append_assoc table_names t.more g.more);
  distinct = g.adds.distinct t.distinct;
  named = g.adds.named t.named;
}

pub no_nodes : (nodes : List Node) → length nodes ≡ 0 → nodes ≡ []
no_nodes [] e = refl
no_nodes (node ∷ nodes) e = absurd (omega (arith, e))
