-- Data that may stand in a text are printed as a text that reads as the same data.
use Rattle.std.proofs.Common.{◌≡◌, ℕ, zero, suc, List, [], ◌∷◌, ◌++◌, refl, sym, ap, subst, ◌∙◌, append_assoc}
use Rattle.std.specs.Prelude.{codes}
use Rattle.scheme_base.specs.declared.pos.Pos.{Pos}
use Rattle.scheme_base.specs.Positions.{position_after, after_byte}
use Rattle.datum_form.specs.Data.{Datum, Datum as datum, Items, datum_of, data_of, nowhere, unplaced, unplaced_all}
use Rattle.datum_form.specs.Data.Items.{none, item}
use Rattle.datum_form.specs.Grammar.{Delimited, IsTokens}
use Rattle.datum_form.specs.Grammar.IsToken.{opens, opens_vector, closes, word}
use Rattle.datum_form.specs.Grammar.IsTokens.{ended, white, token}
use Rattle.datum_form.specs.Grammar.IsWord.{dot}
use Rattle.datum_form.specs.Print.{atom_text, text_of, items_text, more_text, lines_of}
use Rattle.datum_form.specs.declared.token.Token.{Token}
use Rattle.datum_form.specs.Syntax.{Syntax, written, written_all, Within, WithinAll}
use Rattle.datum_form.specs.Syntax.Syntax.{Leaf, Nil, Listed, Vector}
use Rattle.datum_form.specs.Syntax.Rest.{End, Tail}
use Rattle.datum_form.specs.Syntax.Elements.{Last}
use Rattle.datum_form.specs.declared.token.Token.TheVariants.{Open, OpenVector, Close, Dot, Atomic}
use Rattle.datum_form.proofs.AtomsPrintedAsTokens.{ValidAtom, atom_token}
use Rattle.datum_reader.specs.Machine.{rest_of, elements_of}
use Rattle.datum_reader.specs.Nodes.{tailed}
use Rattle.datum_reader.proofs.AddedNodeStands.{list_data, dotted_data, vector_data}
use Rattle.datum_reader.proofs.ReadingBeginsAText.{written_rest_of, written_elements_of, within_rest_of, within_elements_of}

-- Data that may stand in a text, nested at most n deep

abbrev pub NoList : Datum → Type 0
NoList (datum.Atomic p a) = Unit {0}
NoList (datum.List p is) = ⊥
NoList (datum.Dotted p is d) = ⊥
NoList (datum.Vector p is) = Unit {0}

abbrev pub SomeItems : Items → Type 0
SomeItems none = ⊥
SomeItems (item d is) = Unit {0}

abbrev mutual
  pub Valid : ℕ → Datum → Type 0
  Valid n (datum.Atomic p a) = ValidAtom a
  Valid zero (datum.List p is) = ⊥
  Valid (suc n) (datum.List p is) = ValidAll n is
  Valid zero (datum.Dotted p is d) = ⊥
  Valid (suc n) (datum.Dotted p is d) = SomeItems is × NoList d × ValidAll n is × Valid n d
  Valid zero (datum.Vector p is) = ⊥
  Valid (suc n) (datum.Vector p is) = ValidAll n is

  pub ValidAll : ℕ → Items → Type 0
  ValidAll n none = Unit {0}
  ValidAll n (item d is) = Valid n d × ValidAll n is

-- Places

pub position_after-append : (p : Pos) (xs ys : List ℕ) → position_after p (xs ++ ys) ≡ position_after (position_after p xs) ys
position_after-append p [] ys = refl
position_after-append p (b ∷ xs) ys = position_after-append (after_byte p b) xs ys

moved : (p q : Pos) (text : List ℕ) (us : List Token) → p ≡ q → IsTokens p text us → IsTokens q text us
moved p q text us e h = let P : Pos → Type 0 = λ r. IsTokens r text us in subst P e h

respelled : (p : Pos) (text whole : List ℕ) (us : List Token) → text ≡ whole → IsTokens p text us → IsTokens p whole us
respelled p text whole us e h = let P : List ℕ → Type 0 = λ l. IsTokens p l us in subst P e h

retold : (p : Pos) (text : List ℕ) (us vs : List Token) → us ≡ vs → IsTokens p text us → IsTokens p text vs
retold p text us vs e h = let P : List Token → Type 0 = λ l. IsTokens p text l in subst P e h

-- this text at this place is a tree that is this datum, places aside
record Spelling (p : Pos) (text : List ℕ) (n : ℕ) (d : Datum) : Type 0 where
  tree : Syntax
  within : Within n tree
  same : unplaced (datum_of tree) ≡ unplaced d
  spelled : (after : List ℕ) (us : List Token) → Delimited after → IsTokens (position_after p text) after us
      → IsTokens p (text ++ after) (written tree us)

record SpellingAll (p : Pos) (text : List ℕ) (n : ℕ) (is : Items) : Type 0 where
  trees : List Syntax
  within : WithinAll n trees
  same : unplaced_all (data_of trees) ≡ unplaced_all is
  spelled : (after : List ℕ) (us : List Token) → Delimited after → IsTokens (position_after p text) after us
      → IsTokens p (text ++ after) (written_all trees us)

-- Lists

list_tree : Pos → List Syntax → Pos → Syntax
list_tree p [] q = Nil p q
list_tree p (s ∷ ss) q = Listed p s (rest_of ss End) q

list_written : (p q : Pos) (ss : List Syntax) (us : List Token)
    → written (list_tree p ss q) us ≡ Open p ∷ written_all ss (Close q ∷ us)
unfolding list_tree
list_written p q [] us = refl
list_written p q (s ∷ ss) us = ap (λ ts. Open p ∷ written s ts) (written_rest_of ss End (Close q ∷ us))

list_within : (p q : Pos) (ss : List Syntax) (n : ℕ) → WithinAll n ss → Within (suc n) (list_tree p ss q)
unfolding list_tree
list_within p q [] n h = tt
list_within p q (s ∷ ss) n h = (h.0, within_rest_of ss End n h.1 tt)

list_datum : (p q : Pos) (ss : List Syntax) → datum_of (list_tree p ss q) ≡ datum.List p (data_of ss)
unfolding list_tree
list_datum p q [] = refl
list_datum p q (s ∷ ss) = list_data p q s ss

-- a closing parenthesis after so much of a text
closed : (p q r : Pos) (after : List ℕ) (us : List Token) → r ≡ position_after q (codes ")") → IsTokens r after us
    → IsTokens q (codes ")" ++ after) (Close q ∷ us)
closed p q r after us e h = token q (codes ")") after (Close q) us (closes q after) (moved r (position_after q (codes ")")) after us e h)

list_spelled : (p r : Pos) (is : Items) (n : ℕ) → SpellingAll (after_byte p 40) (items_text is) n is
    → Spelling p (text_of (datum.List r is)) (suc n) (datum.List r is)
list_spelled p r is n s =
    let inner : Pos = after_byte p 40 in
    let q : Pos = position_after inner (items_text is) in
    record {
      tree = list_tree p s.trees q;
      within = list_within p q s.trees n s.within;
      same = ap unplaced (list_datum p q s.trees) ∙ ap (λ js. datum.List nowhere js) s.same;
      spelled = λ after us d k.
          retold p (text_of (datum.List r is) ++ after) (Open p ∷ written_all s.trees (Close q ∷ us)) (written (list_tree p s.trees q) us)
          (sym (list_written p q s.trees us))
          (respelled p (40 ∷ (items_text is ++ (codes ")" ++ after))) (text_of (datum.List r is) ++ after) (Open p ∷ written_all s.trees (Close q ∷ us))
          (ap (λ l. 40 ∷ l) (sym (append_assoc (items_text is) (codes ")") after)))
          (token p (codes "(") (items_text is ++ (codes ")" ++ after)) (Open p) (written_all s.trees (Close q ∷ us))
          (opens p (items_text is ++ (codes ")" ++ after)))
          (s.spelled (codes ")" ++ after) (Close q ∷ us) refl
          (closed p q (position_after p (text_of (datum.List r is))) after us (position_after-append inner (items_text is) (codes ")")) k))));
    }

-- Vectors

vector_spelled : (p r : Pos) (is : Items) (n : ℕ) → SpellingAll (after_byte (after_byte p 35) 40) (items_text is) n is
    → Spelling p (text_of (datum.Vector r is)) (suc n) (datum.Vector r is)
vector_spelled p r is n s =
    let inner : Pos = after_byte (after_byte p 35) 40 in
    let q : Pos = position_after inner (items_text is) in
    record {
      tree = Vector p (elements_of s.trees Last) q;
      within = within_elements_of s.trees Last n s.within tt;
      same = ap (λ js. unplaced (datum.Vector p js)) (vector_data s.trees) ∙ ap (λ js. datum.Vector nowhere js) s.same;
      spelled = λ after us d k.
          retold p (text_of (datum.Vector r is) ++ after) (OpenVector p ∷ written_all s.trees (Close q ∷ us))
          (written (Vector p (elements_of s.trees Last) q) us)
          (ap (λ ts. OpenVector p ∷ ts) (sym (written_elements_of s.trees Last (Close q ∷ us))))
          (respelled p (35 ∷ 40 ∷ (items_text is ++ (codes ")" ++ after))) (text_of (datum.Vector r is) ++ after)
          (OpenVector p ∷ written_all s.trees (Close q ∷ us))
          (ap (λ l. 35 ∷ 40 ∷ l) (sym (append_assoc (items_text is) (codes ")") after)))
          (token p (codes "#(") (items_text is ++ (codes ")" ++ after)) (OpenVector p) (written_all s.trees (Close q ∷ us))
          (opens_vector p (items_text is ++ (codes ")" ++ after)))
          (s.spelled (codes ")" ++ after) (Close q ∷ us) refl
          (closed p q (position_after p (text_of (datum.Vector r is))) after us (position_after-append inner (items_text is) (codes ")")) k))));
    }

-- Dotted lists

tailed_plain : (p : Pos) (js : Items) (t d : Datum) → NoList d → unplaced t ≡ unplaced d
    → tailed p js t ≡ datum.Dotted p js t
tailed_plain p js (datum.Atomic q a) d h e = refl
tailed_plain p js (datum.Vector q is) d h e = refl
tailed_plain p js (datum.List q is) (datum.Atomic r a) h e = absurd (cc)
tailed_plain p js (datum.List q is) (datum.Vector r ks) h e = absurd (cc)
tailed_plain p js (datum.List q is) (datum.List r ks) h e = absurd h
tailed_plain p js (datum.List q is) (datum.Dotted r ks d) h e = absurd h
tailed_plain p js (datum.Dotted q is t) (datum.Atomic r a) h e = absurd (cc)
tailed_plain p js (datum.Dotted q is t) (datum.Vector r ks) h e = absurd (cc)
tailed_plain p js (datum.Dotted q is t) (datum.List r ks) h e = absurd h
tailed_plain p js (datum.Dotted q is t) (datum.Dotted r ks d) h e = absurd h

-- a dot between spaces, a datum, and then a closing parenthesis
tail_spelled : (p : Pos) (d : Datum) (n : ℕ) (after : List ℕ) (us : List Token)
    → (s : Spelling (position_after p (codes " . ")) (text_of d) n d)
    → IsTokens (position_after p (codes " . " ++ (text_of d ++ codes ")"))) after us
    → IsTokens p (codes " . " ++ (text_of d ++ (codes ")" ++ after)))
    (Dot (after_byte p 32) ∷ written s.tree (Close (position_after (position_after p (codes " . ")) (text_of d)) ∷ us))
tail_spelled p d n after us s k =
    let start : Pos = position_after p (codes " . ") in
    let q : Pos = position_after start (text_of d) in
    let rest : List ℕ = text_of d ++ (codes ")" ++ after) in
    let at_dot : Pos = after_byte p 32 in
    white p 32 (46 ∷ 32 ∷ rest) (Dot at_dot ∷ written s.tree (Close q ∷ us)) refl
    (token at_dot (codes ".") (32 ∷ rest) (Dot at_dot) (written s.tree (Close q ∷ us))
    (word at_dot (32 ∷ rest) (codes ".") (Dot at_dot) (refl, tt) refl (dot at_dot))
    (white (after_byte at_dot 46) 32 rest (written s.tree (Close q ∷ us)) refl
    (s.spelled (codes ")" ++ after) (Close q ∷ us) refl
    (closed (position_after p (codes " . " ++ (text_of d ++ codes ")"))) q (position_after p (codes " . " ++ (text_of d ++ codes ")"))) after us
    (position_after-append start (text_of d) (codes ")")) k))))

dotted_spelled : (p r : Pos) (is : Items) (first : Syntax) (others : List Syntax) (d : Datum) (n : ℕ)
    → (items : SpellingAll (after_byte p 40) (items_text is) n is) → items.trees ≡ first ∷ others
    → Spelling (position_after (position_after (after_byte p 40) (items_text is)) (codes " . ")) (text_of d) n d → NoList d
    → Spelling p (text_of (datum.Dotted r is d)) (suc n) (datum.Dotted r is d)
dotted_spelled p r is first others d n items e s plain =
    let inner : Pos = after_byte p 40 in
    let middle : Pos = position_after inner (items_text is) in
    let at_dot : Pos = after_byte middle 32 in
    let q : Pos = position_after (position_after middle (codes " . ")) (text_of d) in
    let tree : Syntax = Listed p first (rest_of others (Tail at_dot s.tree)) q in
    let AllWithin : List Syntax → Type 0 = λ ss. WithinAll n ss in
    let fits = subst AllWithin e items.within in
    let same_items : unplaced_all (data_of (first ∷ others)) ≡ unplaced_all is =
    ap (λ ss. unplaced_all (data_of ss)) (sym e) ∙ items.same in
    record {
      tree = tree;
      within = (fits.0, within_rest_of others (Tail at_dot s.tree) n fits.1 s.within);
      same =
          ap unplaced (dotted_data p at_dot q first s.tree others)
          ∙ (ap unplaced (tailed_plain p (data_of (first ∷ others)) (datum_of s.tree) d plain s.same)
          ∙ (ap (λ js. datum.Dotted nowhere js (unplaced (datum_of s.tree))) same_items
          ∙ ap (λ t. datum.Dotted nowhere (unplaced_all is) t) s.same));
      spelled = λ after us delimited k.
          let last : List ℕ = codes " . " ++ (text_of d ++ codes ")") in
          let end : List ℕ = codes " . " ++ (text_of d ++ (codes ")" ++ after)) in
          let ts : List Token = Dot at_dot ∷ written s.tree (Close q ∷ us) in
          retold p (text_of (datum.Dotted r is d) ++ after) (Open p ∷ written_all items.trees ts) (written tree us)
          (ap (λ ss. Open p ∷ written_all ss ts) e
          ∙ ap (λ l. Open p ∷ written first l) (sym (written_rest_of others (Tail at_dot s.tree) (Close q ∷ us))))
          (respelled p (40 ∷ (items_text is ++ end)) (text_of (datum.Dotted r is d) ++ after) (Open p ∷ written_all items.trees ts)
          (ap (λ l. 40 ∷ l)
          (ap (λ l. items_text is ++ (32 ∷ 46 ∷ 32 ∷ l)) (sym (append_assoc (text_of d) (codes ")") after))
          ∙ sym (append_assoc (items_text is) last after)))
          (token p (codes "(") (items_text is ++ end) (Open p) (written_all items.trees ts)
          (opens p (items_text is ++ end))
          (items.spelled end ts refl
          (tail_spelled middle d n after us s
          (moved (position_after p (text_of (datum.Dotted r is d))) (position_after middle last) after us
          (position_after-append inner (items_text is) last) k)))));
    }

-- All data

delimited_more : (is : Items) (after : List ℕ) → Delimited after → Delimited (more_text is ++ after)
delimited_more none after h = h
delimited_more (item d is) after h = refl

-- a datum and further items
joined : (p : Pos) (d : Datum) (is : Items) (n : ℕ) → Spelling p (text_of d) n d
    → SpellingAll (position_after p (text_of d)) (more_text is) n is → SpellingAll p (text_of d ++ more_text is) n (item d is)
joined p d is n s m =
    record {
      trees = s.tree ∷ m.trees;
      within = (s.within, m.within);
      same = ap (λ e. item e (unplaced_all (data_of m.trees))) s.same ∙ ap (item (unplaced d)) m.same;
      spelled = λ after us h k.
          respelled p (text_of d ++ (more_text is ++ after)) ((text_of d ++ more_text is) ++ after)
          (written s.tree (written_all m.trees us)) (sym (append_assoc (text_of d) (more_text is) after))
          (s.spelled (more_text is ++ after) (written_all m.trees us) (delimited_more is after h)
          (m.spelled after us h
          (moved (position_after p (text_of d ++ more_text is)) (position_after (position_after p (text_of d)) (more_text is)) after us
          (position_after-append p (text_of d) (more_text is)) k)));
    }

joined_trees : (p : Pos) (d : Datum) (is : Items) (n : ℕ) (s : Spelling p (text_of d) n d)
    (m : SpellingAll (position_after p (text_of d)) (more_text is) n is)
    → (joined p d is n s m).trees ≡ s.tree ∷ m.trees
unfolding joined
joined_trees p d is n s m = refl

after_space : (p : Pos) (d : Datum) (is : Items) (n : ℕ)
    → SpellingAll (after_byte p 32) (text_of d ++ more_text is) n (item d is) → SpellingAll p (more_text (item d is)) n (item d is)
after_space p d is n s =
    record {
      trees = s.trees;
      within = s.within;
      same = s.same;
      spelled = λ after us h k.
          white p 32 ((text_of d ++ more_text is) ++ after) (written_all s.trees us) refl (s.spelled after us h k);
    }

nothing : (p : Pos) (n : ℕ) → SpellingAll p [] n none
nothing p n = record { trees = []; within = tt; same = refl; spelled = λ after us h k. k }

mutual
  datum_spelled : (d : Datum) (n : ℕ) (p : Pos) → Valid n d → Spelling p (text_of d) n d
  datum_spelled (datum.Atomic r a) n p h =
      record {
        tree = Leaf p a;
        within = tt;
        same = refl;
        spelled = λ after us d k. token p (atom_text a) after (Atomic p a) us (atom_token p a after h d) k;
      }
  datum_spelled (datum.List r is) zero p h = absurd h
  datum_spelled (datum.List r is) (suc n) p h = list_spelled p r is n (items_spelled is n (after_byte p 40) h)
  datum_spelled (datum.Vector r is) zero p h = absurd h
  datum_spelled (datum.Vector r is) (suc n) p h = vector_spelled p r is n (items_spelled is n (after_byte (after_byte p 35) 40) h)
  datum_spelled (datum.Dotted r is d) zero p h = absurd h
  datum_spelled (datum.Dotted r none d) (suc n) p h = absurd h.0
  datum_spelled (datum.Dotted r (item e is) d) (suc n) p h =
      let inner : Pos = after_byte p 40 in
      let one = datum_spelled e n inner h.2.0 in
      let more = more_spelled is n (position_after inner (text_of e)) h.2.1 in
      dotted_spelled p r (item e is) one.tree more.trees d n (joined inner e is n one more)
      (joined_trees inner e is n one more)
      (datum_spelled d n (position_after (position_after inner (items_text (item e is))) (codes " . ")) h.3) h.1

  items_spelled : (is : Items) (n : ℕ) (p : Pos) → ValidAll n is → SpellingAll p (items_text is) n is
  items_spelled none n p h = nothing p n
  items_spelled (item d is) n p h =
      joined p d is n (datum_spelled d n p h.0) (more_spelled is n (position_after p (text_of d)) h.1)

  more_spelled : (is : Items) (n : ℕ) (p : Pos) → ValidAll n is → SpellingAll p (more_text is) n is
  more_spelled none n p h = nothing p n
  more_spelled (item d is) n p h =
      let q : Pos = after_byte p 32 in
      after_space p d is n
      (joined q d is n (datum_spelled d n q h.0) (more_spelled is n (position_after q (text_of d)) h.1))

-- Lines

pub record Lines (p : Pos) (n : ℕ) (is : Items) : Type 0 where
  pub trees : List Syntax
  pub within : WithinAll n trees
  pub same : unplaced_all (data_of trees) ≡ unplaced_all is
  pub spelled : IsTokens p (lines_of is) (written_all trees [])

pub lines_spelled : (is : Items) (n : ℕ) (p : Pos) → ValidAll n is → Lines p n is
lines_spelled none n p h = record { trees = []; within = tt; same = refl; spelled = ended p }
lines_spelled (item d is) n p h =
    let s = datum_spelled d n p h.0 in
    let q : Pos = position_after p (text_of d) in
    let m = lines_spelled is n (after_byte q 10) h.1 in
    record {
      trees = s.tree ∷ m.trees;
      within = (s.within, m.within);
      same = ap (λ e. item e (unplaced_all (data_of m.trees))) s.same ∙ ap (item (unplaced d)) m.same;
      spelled =
          s.spelled (10 ∷ lines_of is) (written_all m.trees []) refl
          (white q 10 (lines_of is) (written_all m.trees []) refl m.spelled);
    }
