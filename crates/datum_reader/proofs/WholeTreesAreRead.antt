-- Whole trees are read.
use Rattle.std.proofs.Common.{◌≡◌, ℕ, zero, suc, true, List, [], ◌∷◌, ◌++◌, refl, sym, ap, ◌∙◌, append_assoc}
use Rattle.std.proofs.lemmas.List.{append-nil}
use Rattle.scheme_base.specs.declared.pos.Pos.{Pos}
use Rattle.datum_form.specs.declared.token.Token.{Token}
use Rattle.datum_form.specs.Syntax.{Syntax, Rest, Elements, written, written_rest, written_elements, written_all, Within, WithinRest, WithinElements, WithinAll, IsText}
use Rattle.datum_form.specs.declared.token.Token.TheVariants.{Close}
use Rattle.datum_form.specs.Syntax.Syntax.{Leaf, Marked, Nil, Listed, Vector}
use Rattle.datum_form.specs.Syntax.Rest.{End, More, Tail}
use Rattle.datum_form.specs.Syntax.Elements.{Last, Further}
use Rattle.datum_reader.specs.Machine.{Frame, Run, rest_of, elements_of, room, give, in_room, run, start}
use Rattle.datum_reader.specs.Machine.Frame.{Opened, Listing, Dotted, InVector, Waiting}
use Rattle.datum_reader.specs.Machine.Run.{On}

-- Trees in a row

pub rest_of-append : (is : List Syntax) (s : Syntax) (r : Rest) → rest_of (is ++ s ∷ []) r ≡ rest_of is (More s r)
rest_of-append [] s r = refl
rest_of-append (i ∷ is) s r = ap (More i) (rest_of-append is s r)

pub elements_of-append : (is : List Syntax) (s : Syntax) (e : Elements)
    → elements_of (is ++ s ∷ []) e ≡ elements_of is (Further s e)
elements_of-append [] s e = refl
elements_of-append (i ∷ is) s e = ap (Further i) (elements_of-append is s e)

-- A tree, where there is room

enter : (fs : List Frame) (p : Pos) (r : Run) (ts : List Token) → room fs ≡ true
    → run (in_room (room fs) p r) ts ≡ run r ts
enter fs p r ts free = ap (λ b. run (in_room b p r) ts) free

mutual
  pub reads : (s : Syntax) (n : ℕ) (fs : List Frame) (tops : List Syntax) (ts : List Token)
      → Within n s → room fs ≡ true → run (On n fs tops) (written s ts) ≡ run (give n fs tops s) ts
  reads (Leaf p a) n fs tops ts h free = enter fs p (give n fs tops (Leaf p a)) ts free
  reads (Marked p m s) zero fs tops ts h free = absurd h
  reads (Marked p m s) (suc n) fs tops ts h free =
      enter fs p (On n (Waiting p m ∷ fs) tops) (written s ts) free
      ∙ reads s n (Waiting p m ∷ fs) tops ts h refl
  reads (Nil p q) zero fs tops ts h free = absurd h
  reads (Nil p q) (suc n) fs tops ts h free = enter fs p (On n (Opened p ∷ fs) tops) (Close q ∷ ts) free
  reads (Listed p s r q) zero fs tops ts h free = absurd h
  reads (Listed p s r q) (suc n) fs tops ts h free =
      enter fs p (On n (Opened p ∷ fs) tops) (written s (written_rest r (Close q ∷ ts))) free
      ∙ (reads s n (Opened p ∷ fs) tops (written_rest r (Close q ∷ ts)) h.0 refl
      ∙ reads_rest r n p s [] fs tops q ts h.1)
  reads (Vector p e q) zero fs tops ts h free = absurd h
  reads (Vector p e q) (suc n) fs tops ts h free =
      enter fs p (On n (InVector p [] ∷ fs) tops) (written_elements e (Close q ∷ ts)) free
      ∙ reads_elements e n p [] fs tops q ts h

  reads_rest : (r : Rest) (n : ℕ) (p : Pos) (a : Syntax) (is : List Syntax) (fs : List Frame) (tops : List Syntax)
      (q : Pos) (ts : List Token) → WithinRest n r
      → run (On n (Listing p a is ∷ fs) tops) (written_rest r (Close q ∷ ts))
      ≡ run (give (suc n) fs tops (Listed p a (rest_of is r) q)) ts
  reads_rest End n p a is fs tops q ts h = refl
  reads_rest (More s r) n p a is fs tops q ts h =
      reads s n (Listing p a is ∷ fs) tops (written_rest r (Close q ∷ ts)) h.0 refl
      ∙ (reads_rest r n p a (is ++ s ∷ []) fs tops q ts h.1
      ∙ ap (λ v. run (give (suc n) fs tops (Listed p a v q)) ts) (rest_of-append is s r))
  reads_rest (Tail d s) n p a is fs tops q ts h = reads s n (Dotted p a is d ∷ fs) tops (Close q ∷ ts) h refl

  reads_elements : (e : Elements) (n : ℕ) (p : Pos) (is : List Syntax) (fs : List Frame) (tops : List Syntax)
      (q : Pos) (ts : List Token) → WithinElements n e
      → run (On n (InVector p is ∷ fs) tops) (written_elements e (Close q ∷ ts))
      ≡ run (give (suc n) fs tops (Vector p (elements_of is e) q)) ts
  reads_elements Last n p is fs tops q ts h = refl
  reads_elements (Further s e) n p is fs tops q ts h =
      reads s n (InVector p is ∷ fs) tops (written_elements e (Close q ∷ ts)) h.0 refl
      ∙ (reads_elements e n p (is ++ s ∷ []) fs tops q ts h.1
      ∙ ap (λ v. run (give (suc n) fs tops (Vector p v q)) ts) (elements_of-append is s e))

-- Trees in a row, outside of all, in a list and in a vector

pub reads_all : (ss : List Syntax) (n : ℕ) (tops : List Syntax) (ts : List Token) → WithinAll n ss
    → run (On n [] tops) (written_all ss ts) ≡ run (On n [] (tops ++ ss)) ts
reads_all [] n tops ts h = ap (λ v. run (On n [] v) ts) (sym (append-nil tops))
reads_all (s ∷ ss) n tops ts h =
    reads s n [] tops (written_all ss ts) h.0 refl
    ∙ (reads_all ss n (tops ++ s ∷ []) ts h.1
    ∙ ap (λ v. run (On n [] v) ts) (append_assoc tops (s ∷ []) ss))

pub reads_items : (ss : List Syntax) (n : ℕ) (p : Pos) (a : Syntax) (is : List Syntax) (fs : List Frame)
    (tops : List Syntax) (ts : List Token) → WithinAll n ss
    → run (On n (Listing p a is ∷ fs) tops) (written_all ss ts) ≡ run (On n (Listing p a (is ++ ss) ∷ fs) tops) ts
reads_items [] n p a is fs tops ts h = ap (λ v. run (On n (Listing p a v ∷ fs) tops) ts) (sym (append-nil is))
reads_items (s ∷ ss) n p a is fs tops ts h =
    reads s n (Listing p a is ∷ fs) tops (written_all ss ts) h.0 refl
    ∙ (reads_items ss n p a (is ++ s ∷ []) fs tops ts h.1
    ∙ ap (λ v. run (On n (Listing p a v ∷ fs) tops) ts) (append_assoc is (s ∷ []) ss))

pub reads_vector : (ss : List Syntax) (n : ℕ) (p : Pos) (is : List Syntax) (fs : List Frame) (tops : List Syntax)
    (ts : List Token) → WithinAll n ss
    → run (On n (InVector p is ∷ fs) tops) (written_all ss ts) ≡ run (On n (InVector p (is ++ ss) ∷ fs) tops) ts
reads_vector [] n p is fs tops ts h = ap (λ v. run (On n (InVector p v ∷ fs) tops) ts) (sym (append-nil is))
reads_vector (s ∷ ss) n p is fs tops ts h =
    reads s n (InVector p is ∷ fs) tops (written_all ss ts) h.0 refl
    ∙ (reads_vector ss n p (is ++ s ∷ []) fs tops ts h.1
    ∙ ap (λ v. run (On n (InVector p v ∷ fs) tops) ts) (append_assoc is (s ∷ []) ss))

-- a text is read as its trees
pub text_run : (n : ℕ) (ts : List Token) (ss : List Syntax) → IsText n ts ss → run (start n) ts ≡ On n [] ss
text_run n ts ss text = ap (run (start n)) text.whole ∙ reads_all ss n [] [] text.within

-- the trees of a reading
abbrev trees_of : Run → List Syntax
trees_of (On n fs tops) = tops
trees_of r = []

pub one_text : (n : ℕ) (ts : List Token) (ss rs : List Syntax) → IsText n ts ss → IsText n ts rs → ss ≡ rs
one_text n ts ss rs h k = ap trees_of (sym (text_run n ts ss h) ∙ text_run n ts rs k)
