-- A machine that reads tokens from left to right, with a stack of what is still open.
use Rattle.std.specs.Prelude.{ℕ, zero, suc, Bool, true, false, List, [], ◌∷◌, ◌++◌}
use Rattle.scheme_base.specs.declared.pos.Pos.{Pos}
use Rattle.datum_form.specs.declared.token.Mark.{Mark}
use Rattle.datum_form.specs.declared.token.Token.{Token}
use Rattle.datum_form.specs.Syntax.{Syntax, Rest, Elements}
use Rattle.datum_form.specs.declared.token.Token.TheVariants.{Open, OpenVector, Close, Dot, Marking, Atomic}
use Rattle.datum_form.specs.Syntax.Syntax.{Leaf, Marked, Nil, Listed, Vector}
use Rattle.datum_form.specs.Syntax.Rest.{End, More, Tail}
use Rattle.datum_form.specs.Syntax.Elements.{Last, Further}

-- what is open, by its place, with the trees that already stand in it
pub data Frame : Type 0 where
  -- a list without items so far
  Opened : Pos → Frame
  -- a list with a first item and further ones
  Listing : Pos → Syntax → List Syntax → Frame
  -- a list whose dot has been read
  Dotted : Pos → Syntax → List Syntax → Pos → Frame
  -- a list whose tail has been read
  Tailed : Pos → Syntax → List Syntax → Pos → Syntax → Frame
  -- a vector
  InVector : Pos → List Syntax → Frame
  -- a mark that waits for its datum
  Waiting : Pos → Mark → Frame

-- the place of what is open
abbrev pub frame_place : Frame → Pos
frame_place (Opened p) = p
frame_place (Listing p a is) = p
frame_place (Dotted p a is d) = p
frame_place (Tailed p a is d t) = p
frame_place (InVector p is) = p
frame_place (Waiting p m) = p

-- how far a reading has come
pub data Run : Type 0 where
  -- so many levels may still be opened; what is open, the innermost first; the trees outside it
  On : ℕ → List Frame → List Syntax → Run
  -- a token at this place fits no text
  Stray : Pos → Run
  -- a token at this place opens one level too many
  Deep : Pos → Run

abbrev pub rest_of : List Syntax → Rest → Rest
rest_of [] r = r
rest_of (s ∷ ss) r = More s (rest_of ss r)

abbrev pub elements_of : List Syntax → Elements → Elements
elements_of [] e = e
elements_of (s ∷ ss) e = Further s (elements_of ss e)

-- a datum may stand next, if it may stand at all, but after a tail
abbrev pub room : List Frame → Bool
room [] = true
room (Opened p ∷ fs) = true
room (Listing p a is ∷ fs) = true
room (Dotted p a is d ∷ fs) = true
room (Tailed p a is d t ∷ fs) = false
room (InVector p is ∷ fs) = true
room (Waiting p m ∷ fs) = true

-- a tree is given to the innermost that is open, where there is room; a mark is closed by it
abbrev pub give : ℕ → List Frame → List Syntax → Syntax → Run
give n [] tops s = On n [] (tops ++ s ∷ [])
give n (Opened p ∷ fs) tops s = On n (Listing p s [] ∷ fs) tops
give n (Listing p a is ∷ fs) tops s = On n (Listing p a (is ++ s ∷ []) ∷ fs) tops
give n (Dotted p a is d ∷ fs) tops s = On n (Tailed p a is d s ∷ fs) tops
give n (Tailed p a is d t ∷ fs) tops s = On n (Tailed p a is d s ∷ fs) tops
give n (InVector p is ∷ fs) tops s = On n (InVector p (is ++ s ∷ []) ∷ fs) tops
give n (Waiting p m ∷ fs) tops s = give (suc n) fs tops (Marked p m s)

abbrev pub in_room : Bool → Pos → Run → Run
in_room true p run = run
in_room false p run = Stray p

abbrev pub open_one : ℕ → Frame → List Frame → List Syntax → Pos → Run
open_one zero f fs tops p = Deep p
open_one (suc n) f fs tops p = On n (f ∷ fs) tops

abbrev pub dot : ℕ → List Frame → List Syntax → Pos → Run
dot n [] tops q = Stray q
dot n (Opened p ∷ fs) tops q = Stray q
dot n (Listing p a is ∷ fs) tops q = On n (Dotted p a is q ∷ fs) tops
dot n (Dotted p a is d ∷ fs) tops q = Stray q
dot n (Tailed p a is d t ∷ fs) tops q = Stray q
dot n (InVector p is ∷ fs) tops q = Stray q
dot n (Waiting p m ∷ fs) tops q = Stray q

abbrev pub shut : ℕ → List Frame → List Syntax → Pos → Run
shut n [] tops q = Stray q
shut n (Opened p ∷ fs) tops q = give (suc n) fs tops (Nil p q)
shut n (Listing p a is ∷ fs) tops q = give (suc n) fs tops (Listed p a (rest_of is End) q)
shut n (Dotted p a is d ∷ fs) tops q = Stray q
shut n (Tailed p a is d t ∷ fs) tops q = give (suc n) fs tops (Listed p a (rest_of is (Tail d t)) q)
shut n (InVector p is ∷ fs) tops q = give (suc n) fs tops (Vector p (elements_of is Last) q)
shut n (Waiting p m ∷ fs) tops q = Stray q

abbrev pub step : ℕ → List Frame → List Syntax → Token → Run
step n fs tops (Open p) = in_room (room fs) p (open_one n (Opened p) fs tops p)
step n fs tops (OpenVector p) = in_room (room fs) p (open_one n (InVector p []) fs tops p)
step n fs tops (Close q) = shut n fs tops q
step n fs tops (Dot q) = dot n fs tops q
step n fs tops (Marking p m) = in_room (room fs) p (open_one n (Waiting p m) fs tops p)
step n fs tops (Atomic p a) = in_room (room fs) p (give n fs tops (Leaf p a))

abbrev pub run : Run → List Token → Run
run (Stray p) ts = Stray p
run (Deep p) ts = Deep p
run (On n fs tops) [] = On n fs tops
run (On n fs tops) (t ∷ ts) = run (step n fs tops t) ts

-- before the first token, n levels may be opened
abbrev pub start : ℕ → Run
start n = On n [] []
