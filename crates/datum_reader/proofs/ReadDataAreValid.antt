-- Data that were read may stand in a text, so that what is printed of them reads as the same data.
use Rattle.std.proofs.Common.{ℕ, zero, suc, List, [], ◌∷◌, refl, sym, subst}
use Rattle.scheme_base.specs.declared.pos.Pos.{Pos}
use Rattle.datum_form.specs.Data.{Datum, Datum as datum, Items, pair, mark_name, datum_of, datum_of_rest, items_of, data_of}
use Rattle.datum_form.specs.Data.Items.{none, item}
use Rattle.datum_form.specs.Grammar.{IsTokens}
use Rattle.datum_form.specs.Grammar.IsTokens.{ended, white, comment, token}
use Rattle.datum_form.specs.declared.token.Mark.{Mark}
use Rattle.datum_form.specs.declared.token.Token.{Token}
use Rattle.datum_form.specs.Syntax.{Syntax, Rest, Elements, written, written_rest, written_elements, written_all, Within, WithinRest, WithinElements, WithinAll}
use Rattle.datum_form.specs.declared.token.Atom.TheVariants.{Symbol}
use Rattle.datum_form.specs.declared.token.Mark.TheVariants.{Quote, Quasiquote, Unquote, Splice}
use Rattle.datum_form.specs.declared.token.Token.TheVariants.{Close}
use Rattle.datum_form.specs.Syntax.Syntax.{Leaf, Marked, Nil, Listed, Vector}
use Rattle.datum_form.specs.Syntax.Rest.{End, More, Tail}
use Rattle.datum_form.specs.Syntax.Elements.{Last, Further}
use Rattle.datum_form.proofs.AtomsPrintedAsTokens.{ValidAtom, ValidToken, token_valid}
use Rattle.datum_reader.specs.Answer.{max_depth, Reads, ReadsAgain}
use Rattle.datum_reader.proofs.ValidDataReadBack.{Valid, ValidAll, lines_spelled}

-- All tokens of a text are valid

abbrev AllValid : List Token → Type 0
AllValid [] = Unit {0}
AllValid (t ∷ ts) = ValidToken t × AllValid ts

tokens_valid : (p : Pos) (text : List ℕ) (ts : List Token) → IsTokens p text ts → AllValid ts
tokens_valid p text ts (ended q) = tt
tokens_valid p text ts (white q b rest us h more) = tokens_valid _ rest us more
tokens_valid p text ts (comment q line rest us one end more) = tokens_valid _ rest us more
tokens_valid p text ts (token q word rest t us h more) = (token_valid q word rest t h, tokens_valid _ rest us more)

closed : (q : Pos) (ts : List Token) → AllValid (Close q ∷ ts) → AllValid ts
closed q ts h = h.1

-- More depth

mutual
  deeper : (d : Datum) (n : ℕ) → Valid n d → Valid (suc n) d
  deeper (datum.Atomic p a) n h = h
  deeper (datum.List p is) zero h = absurd h
  deeper (datum.List p is) (suc n) h = deeper_all is n h
  deeper (datum.Dotted p is d) zero h = absurd h
  deeper (datum.Dotted p is d) (suc n) h = (h.0, h.1, deeper_all is n h.2, deeper d n h.3)
  deeper (datum.Vector p is) zero h = absurd h
  deeper (datum.Vector p is) (suc n) h = deeper_all is n h

  deeper_all : (is : Items) (n : ℕ) → ValidAll n is → ValidAll (suc n) is
  deeper_all none n h = tt
  deeper_all (item d is) n h = (deeper d n h.0, deeper_all is n h.1)

-- A first item before a list, or before a tail

abbrev IsList : Datum → Type 0
IsList (datum.Atomic p a) = ⊥
IsList (datum.List p is) = Unit {0}
IsList (datum.Dotted p is d) = Unit {0}
IsList (datum.Vector p is) = ⊥

pair_list : (p : Pos) (d e : Datum) (n : ℕ) → IsList e → Valid n d → Valid (suc n) e → Valid (suc n) (pair p d e)
pair_list p d (datum.Atomic q a) n l h k = absurd l
pair_list p d (datum.List q is) n l h k = (h, k)
pair_list p d (datum.Dotted q is t) n l h k = (tt, k.1, (h, k.2), k.3)
pair_list p d (datum.Vector q is) n l h k = absurd l

pair_tail : (p : Pos) (d e : Datum) (n : ℕ) → Valid n d → Valid n e → Valid (suc n) (pair p d e)
pair_tail p d (datum.Atomic q a) n h k = (tt, tt, (h, tt), k)
pair_tail p d (datum.Vector q is) n h k = (tt, tt, (h, tt), k)
pair_tail p d (datum.List q is) n h k = pair_list p d (datum.List q is) n tt h (deeper (datum.List q is) n k)
pair_tail p d (datum.Dotted q is t) n h k = pair_list p d (datum.Dotted q is t) n tt h (deeper (datum.Dotted q is t) n k)

pair_is_list : (p : Pos) (d e : Datum) → IsList (pair p d e)
pair_is_list p d (datum.Atomic q a) = tt
pair_is_list p d (datum.List q is) = tt
pair_is_list p d (datum.Dotted q is t) = tt
pair_is_list p d (datum.Vector q is) = tt

mark_valid : (m : Mark) → ValidAtom (Symbol (mark_name m))
mark_valid Quote = (refl, (refl, (refl, (refl, (refl, (refl, tt))))), refl)
mark_valid Quasiquote = (refl, (refl, (refl, (refl, (refl, (refl, (refl, (refl, (refl, (refl, (refl, tt)))))))))), refl)
mark_valid Unquote = (refl, (refl, (refl, (refl, (refl, (refl, (refl, (refl, tt))))))), refl)
mark_valid Splice = (
  refl,
  (refl, (refl, (refl, (refl, (refl, (refl, (refl, (refl, (refl, (refl, (refl, (refl, (refl, (refl, (refl, (refl, tt)))))))))))))))),
  refl,
)

-- A tree's datum is valid, and the tokens after the tree's are

record TreeValid (n : ℕ) (d : Datum) (ts : List Token) : Type 0 where
  datum : Valid n d
  after : AllValid ts

record RestValid (p : Pos) (n : ℕ) (e : Datum) (ts : List Token) : Type 0 where
  before : (d : Datum) → Valid n d → Valid (suc n) (pair p d e)
  after : AllValid ts

record ElementsValid (n : ℕ) (is : Items) (ts : List Token) : Type 0 where
  items : ValidAll n is
  after : AllValid ts

mutual
  tree_valid : (s : Syntax) (n : ℕ) (ts : List Token) → Within n s → AllValid (written s ts)
      → TreeValid n (datum_of s) ts
  tree_valid (Leaf p a) n ts w h = record { datum = h.0; after = h.1 }
  tree_valid (Marked p m s) zero ts w h = absurd w
  tree_valid (Marked p m s) (suc n) ts w h =
      let r = tree_valid s n ts w h.1 in
      record { datum = (mark_valid m, (r.datum, tt)); after = r.after }
  tree_valid (Nil p q) zero ts w h = absurd w
  tree_valid (Nil p q) (suc n) ts w h = record { datum = tt; after = closed q ts h.1 }
  tree_valid (Listed p s r q) zero ts w h = absurd w
  tree_valid (Listed p s r q) (suc n) ts w h =
      let a = tree_valid s n (written_rest r (Close q ∷ ts)) w.0 h.1 in
      let b = rest_valid r p n (Close q ∷ ts) w.1 a.after in
      record { datum = b.before (datum_of s) a.datum; after = closed q ts b.after }
  tree_valid (Vector p e q) zero ts w h = absurd w
  tree_valid (Vector p e q) (suc n) ts w h =
      let r = elements_valid e n (Close q ∷ ts) w h.1 in
      record { datum = r.items; after = closed q ts r.after }

  rest_valid : (r : Rest) (p : Pos) (n : ℕ) (ts : List Token) → WithinRest n r → AllValid (written_rest r ts)
      → RestValid p n (datum_of_rest p r) ts
  rest_valid End p n ts w h = record { before = λ d k. (k, tt); after = h }
  rest_valid (More s r) p n ts w h =
      let a = tree_valid s n (written_rest r ts) w.0 h in
      let b = rest_valid r p n ts w.1 a.after in
      let e : Datum = pair p (datum_of s) (datum_of_rest p r) in
      record {
        before = λ d k. pair_list p d e n (pair_is_list p (datum_of s) (datum_of_rest p r)) k (b.before (datum_of s) a.datum);
        after = b.after;
      }
  rest_valid (Tail t s) p n ts w h =
      let a = tree_valid s n ts w h.1 in
      record { before = λ d k. pair_tail p d (datum_of s) n k a.datum; after = a.after }

  elements_valid : (e : Elements) (n : ℕ) (ts : List Token) → WithinElements n e → AllValid (written_elements e ts)
      → ElementsValid n (items_of e) ts
  elements_valid Last n ts w h = record { items = tt; after = h }
  elements_valid (Further s e) n ts w h =
      let a = tree_valid s n (written_elements e ts) w.0 h in
      let b = elements_valid e n ts w.1 a.after in
      record { items = (a.datum, b.items); after = b.after }

trees_valid : (ss : List Syntax) (n : ℕ) → WithinAll n ss → AllValid (written_all ss []) → ValidAll n (data_of ss)
trees_valid [] n w h = tt
trees_valid (s ∷ ss) n w h =
    let a = tree_valid s n (written_all ss []) w.0 h in (a.datum, trees_valid ss n w.1 a.after)

pub reads_again : (text : List ℕ) (is : Items) → Reads text is → ReadsAgain is
reads_again text is h =
    let P : List Token → Type 0 = λ ts. AllValid ts in
    let Q : Items → Type 0 = λ js. ValidAll max_depth js in
    let start : Pos = record { line = 1; col = 1 } in
    let tokens = subst P h.is_text.whole (tokens_valid start text h.tokens h.spelled) in
    let valid = subst Q (sym h.read) (trees_valid h.trees max_depth h.is_text.within tokens) in
    let l = lines_spelled is max_depth start valid in
    record {
      tokens = written_all l.trees [];
      spelled = l.spelled;
      trees = l.trees;
      is_text = record { within = l.within; whole = refl };
      same = l.same;
    }
