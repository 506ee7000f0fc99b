-- The data that a text reads as can be expanded.
use Rattle.std.proofs.Common.{ℕ, List, [], ◌∷◌, refl, sym, subst}
use Rattle.scheme_base.specs.declared.pos.Pos.{Pos}
use Rattle.datum_form.specs.Data.{Datum, Datum as datum, Items, pair, mark_name, datum_of, datum_of_rest, items_of, data_of}
use Rattle.datum_form.specs.Grammar.{IsTokens, IsToken, IsWord}
use Rattle.datum_form.specs.Grammar.IsTokens.{ended, white, comment, token}
use Rattle.datum_form.specs.Grammar.IsToken.{opens, opens_vector, closes, quote, quasiquote, splice, unquote, string, character, word}
use Rattle.datum_form.specs.Grammar.IsWord.{dot, true_word, false_word, number, name}
use Rattle.datum_form.specs.declared.token.Mark.{Mark}
use Rattle.datum_form.specs.declared.token.Token.{Token}
use Rattle.datum_form.specs.Syntax.{Syntax, Rest, Elements, written, written_rest, written_elements, written_all}
use Rattle.datum_form.specs.declared.token.Mark.TheVariants.{Quote, Quasiquote, Unquote, Splice}
use Rattle.datum_form.specs.declared.token.Atom.TheVariants.{Symbol}
use Rattle.datum_form.specs.declared.token.Token.TheVariants.{Close, Atomic}
use Rattle.datum_form.specs.Syntax.Syntax.{Leaf, Marked, Nil, Listed, Vector}
use Rattle.datum_form.specs.Syntax.Rest.{End, More, Tail}
use Rattle.datum_form.specs.Syntax.Elements.{Last, Further}
use Rattle.datum_reader.specs.Answer.{Reads}
use Rattle.scheme_expand.specs.Inputs.{IsAtom, IsInput, AreInputs}

abbrev IsGood : Token → Type 0
IsGood (Atomic p a) = IsAtom a
IsGood t = Unit {0}

abbrev AreGood : List Token → Type 0
AreGood [] = Unit {0}
AreGood (t ∷ ts) = IsGood t × AreGood ts

word_good : (p : Pos) (text : List ℕ) (t : Token) → IsWord p text t → IsGood t
word_good p text t (dot q) = tt
word_good p text t (true_word q) = tt
word_good p text t (false_word q) = tt
word_good p text t (number q w z n r) = r
word_good p text t (name q w n) = n

token_good : (p : Pos) (text after : List ℕ) (t : Token) → IsToken p text after t → IsGood t
token_good p text after t (opens q rest) = tt
token_good p text after t (opens_vector q rest) = tt
token_good p text after t (closes q rest) = tt
token_good p text after t (quote q rest) = tt
token_good p text after t (quasiquote q rest) = tt
token_good p text after t (splice q rest) = tt
token_good p text after t (unquote q rest n) = tt
token_good p text after t (string q rest w bytes h) = tt
token_good p text after t (character q rest b more c h k l) = tt
token_good p text after t (word q rest bytes u h k w) = word_good q _ u w

tokens_good : (p : Pos) (text : List ℕ) (ts : List Token) → IsTokens p text ts → AreGood ts
tokens_good p text ts (ended q) = tt
tokens_good p text ts (white q b rest us h more) = tokens_good _ rest us more
tokens_good p text ts (comment q line rest us one end more) = tokens_good _ rest us more
tokens_good p text ts (token q w rest t us h more) = (token_good q w rest t h, tokens_good _ rest us more)

pair_input : (p : Pos) (d e : Datum) → IsInput d → IsInput e → IsInput (pair p d e)
pair_input p d (datum.Atomic q a) h k = ((h, tt), k)
pair_input p d (datum.List q is) h k = (h, k)
pair_input p d (datum.Dotted q is t) h k = ((h, k.0), k.1)
pair_input p d (datum.Vector q is) h k = ((h, tt), k)

mark_input : (p : Pos) (m : Mark) → IsInput (datum.Atomic p (Symbol (mark_name m)))
mark_input p Quote = refl
mark_input p Quasiquote = refl
mark_input p Unquote = refl
mark_input p Splice = refl

mutual
  tree_input : (s : Syntax) (ts : List Token) → AreGood (written s ts) → IsInput (datum_of s) × AreGood ts
  tree_input (Leaf p a) ts h = h
  tree_input (Marked p m s) ts h =
      let inner = tree_input s ts h.1 in
      ((mark_input p m, (inner.0, tt)), inner.1)
  tree_input (Nil p q) ts h = (tt, h.1.1)
  tree_input (Listed p s r q) ts h =
      let first = tree_input s (written_rest r (Close q ∷ ts)) h.1 in
      let rest = rest_input r p (Close q ∷ ts) first.1 in
      (pair_input p (datum_of s) (datum_of_rest p r) first.0 rest.0, rest.1.1)
  tree_input (Vector p e q) ts h =
      let inner = elements_input e (Close q ∷ ts) h.1 in
      (inner.0, inner.1.1)

  rest_input : (r : Rest) (p : Pos) (ts : List Token) → AreGood (written_rest r ts) → IsInput (datum_of_rest p r) × AreGood ts
  rest_input End p ts h = (tt, h)
  rest_input (More s r) p ts h =
      let first = tree_input s (written_rest r ts) h in
      let rest = rest_input r p ts first.1 in
      (pair_input p (datum_of s) (datum_of_rest p r) first.0 rest.0, rest.1)
  rest_input (Tail d s) p ts h = tree_input s ts h.1

  elements_input : (e : Elements) (ts : List Token) → AreGood (written_elements e ts) → AreInputs (items_of e) × AreGood ts
  elements_input Last ts h = (tt, h)
  elements_input (Further s e) ts h =
      let first = tree_input s (written_elements e ts) h in
      let rest = elements_input e ts first.1 in
      ((first.0, rest.0), rest.1)

trees_input : (ss : List Syntax) → AreGood (written_all ss []) → AreInputs (data_of ss)
trees_input [] h = tt
trees_input (s ∷ ss) h = let first = tree_input s (written_all ss []) h in (first.0, trees_input ss first.1)

pub read_inputs : (text : List ℕ) (ds : Items) → Reads text ds → AreInputs ds
read_inputs text ds h =
    subst (λ is. AreInputs is) (sym h.read)
    (trees_input h.trees (subst (λ ts. AreGood ts) h.is_text.whole (tokens_good (record { line = 1; col = 1 }) text h.tokens h.spelled)))
