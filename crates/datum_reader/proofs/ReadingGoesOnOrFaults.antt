-- Where a reading goes on, and what it ends with.
use Rattle.std.proofs.Common.{◌≡◌, ℕ, zero, suc, List, [], ◌∷◌, ◌++◌, Option, Some, None, refl, sym, ap, subst, ◌∙◌}
use Rattle.scheme_base.specs.declared.pos.Pos.{Pos}
use Rattle.datum_form.specs.declared.token.Token.{Token}
use Rattle.datum_form.specs.Syntax.{Syntax, Rest, Elements, written, written_rest, written_elements, written_all, Within, WithinRest, WithinElements, WithinAll, Begins}
use Rattle.datum_form.specs.declared.token.Token.TheVariants.{Open, OpenVector, Close, Dot, Marking}
use Rattle.datum_form.specs.Syntax.Syntax.{Leaf, Marked, Nil, Listed, Vector}
use Rattle.datum_form.specs.Syntax.Rest.{End, More, Tail}
use Rattle.datum_form.specs.Syntax.Elements.{Last, Further}
use Rattle.datum_form.specs.Faults.{Fault}
use Rattle.datum_form.specs.Faults.Fault.{IsStray, IsDeep, IsUnclosed}
use Rattle.datum_reader.specs.Machine.{Frame, Run, frame_place, step, run, start}
use Rattle.datum_reader.specs.Machine.Frame.{Opened, Listing, Dotted, Tailed, InVector, Waiting}
use Rattle.datum_reader.specs.Machine.Run.{On, Stray, Deep}
use Rattle.datum_reader.proofs.WholeTreesAreRead.{text_run}
use Rattle.datum_reader.proofs.ReadingBeginsAText.{frame_written, frames_written, FrameWithin, Fits, GoodRun, start_good, good_begins}
use Rattle.datum_reader.proofs.DeeperReadsTheSame.{IsOn, TooDeep, NotDeep, on_not_deep, on_before, lift, lift_run, up, up_swap, raise, raise_on, raise_levels, raise_stray, raise_run, deep_step}

-- Readings of tokens and more tokens

pub run_append : (ts us : List Token) (r : Run) → run r (ts ++ us) ≡ run (run r ts) us
run_append ts us (Stray p) = refl
run_append ts us (Deep p) = refl
run_append [] us (On n fs tops) = refl
run_append (t ∷ ts) us (On n fs tops) = run_append ts us (step n fs tops t)

run_nil : (r : Run) → run r [] ≡ r
run_nil (On n fs tops) = refl
run_nil (Stray p) = refl
run_nil (Deep p) = refl

pub record Going (r : Run) : Type 0 where
  pub levels : ℕ
  pub frames : List Frame
  pub tops : List Syntax
  pub is : r ≡ On levels frames tops

pub going : (r : Run) → IsOn r → Going r
going (On n fs tops) h = record { levels = n; frames = fs; tops = tops; is = refl }
going (Stray p) h = absurd h
going (Deep p) h = absurd h

-- after the tokens of a reading that goes on, one more and others
pub next : (n m : ℕ) (fs : List Frame) (tops : List Syntax) (front : List Token) (t : Token) (more : List Token)
    → run (start n) front ≡ On m fs tops → run (start n) (front ++ t ∷ more) ≡ run (step m fs tops t) more
next n m fs tops front t more e = run_append front (t ∷ more) (start n) ∙ ap (λ r. run r (t ∷ more)) e

pub next_one : (n m : ℕ) (fs : List Frame) (tops : List Syntax) (front : List Token) (t : Token)
    → run (start n) front ≡ On m fs tops → run (start n) (front ++ t ∷ []) ≡ step m fs tops t
next_one n m fs tops front t e = next n m fs tops front t [] e ∙ run_nil (step m fs tops t)

-- A text begins with some tokens exactly where their reading goes on

pub begins_on : (n : ℕ) (front : List Token) → Begins n front → IsOn (run (start n) front)
begins_on n front b =
    let P : Run → Type 0 = λ r. IsOn r in
    on_before (run (start n) front) b.more
    (subst P
    (sym (text_run n (front ++ b.more) b.trees b.text) ∙ run_append front b.more (start n)) tt)

on_begins_at : (r : Run) (n : ℕ) (ts : List Token) → GoodRun n ts r → IsOn r → Begins n ts
on_begins_at (On m fs tops) n ts good h = good_begins n m fs tops ts good
on_begins_at (Stray p) n ts good h = absurd h
on_begins_at (Deep p) n ts good h = absurd h

pub on_begins : (n : ℕ) (ts : List Token) → IsOn (run (start n) ts) → Begins n ts
on_begins n ts h = on_begins_at (run (start n) ts) n ts (start_good n ts) h

-- Stops

raise_start : (k n : ℕ) (ts : List Token) → NotDeep (run (start n) ts)
    → run (start (up k n)) ts ≡ raise k (run (start n) ts)
raise_start k n ts h = ap (λ r. run r ts) (sym (raise_levels k n [] [])) ∙ raise_run k (start n) ts h

-- a stray token is so at every depth
pub stray_none : (n : ℕ) (ts : List Token) (p : Pos) → run (start n) ts ≡ Stray p → (m : ℕ) → Begins m ts → ⊥
stray_none n ts p e m b =
    let Goes : Run → Type 0 = λ r. IsOn r in
    let Shallow : Run → Type 0 = λ r. NotDeep r in
    let goes : IsOn (run (start m) ts) = begins_on m ts b in
    let deeper : run (start (up n m)) ts ≡ raise n (run (start m) ts) =
    raise_start n m ts (on_not_deep (run (start m) ts) goes) in
    let stray : run (start (up m n)) ts ≡ Stray p =
    raise_start m n ts (subst Shallow (sym e) tt) ∙ (ap (raise m) e ∙ raise_stray m p) in
    subst Goes (sym deeper ∙ (ap (λ k. run (start k) ts) (up_swap n m) ∙ stray))
    (raise_on n (run (start m) ts) goes)

-- one level more is enough for a token that is too deep
pub deep_begins : (n m : ℕ) (fs : List Frame) (tops : List Syntax) (front : List Token) (t : Token)
    → run (start n) front ≡ On m fs tops → TooDeep (step m fs tops t) → Begins (suc n) (front ++ t ∷ [])
deep_begins n m fs tops front t e deep =
    let P : Run → Type 0 = λ r. IsOn r in
    let Shallow : Run → Type 0 = λ r. NotDeep r in
    let lifted : run (start (suc n)) front ≡ On (suc m) fs tops =
    lift_run front (start n) (subst Shallow (sym e) tt) ∙ ap lift e in
    on_begins (suc n) (front ++ t ∷ [])
    (subst P (sym (next_one (suc n) (suc m) fs tops front t lifted)) (deep_step t m fs tops deep))

-- What a reading ends with

-- this reading ends with this fault
abbrev pub Shows : Run → Fault → Type 0
Shows (On m [] tops) d = ⊥
Shows (On m (f ∷ fs) tops) d = d ≡ IsUnclosed (frame_place f)
Shows (Stray p) d = d ≡ IsStray p
Shows (Deep p) d = d ≡ IsDeep p

pub same_fault : (r : Run) (d e : Fault) → Shows r d → Shows r e → d ≡ e
same_fault (On m [] tops) d e h k = absurd h
same_fault (On m (f ∷ fs) tops) d e h k = h ∙ sym k
same_fault (Stray p) d e h k = h ∙ sym k
same_fault (Deep p) d e h k = h ∙ sym k

-- the place of the innermost that is open
abbrev pub innermost : Run → Option Pos
innermost (On m [] tops) = None
innermost (On m (f ∷ fs) tops) = Some (frame_place f)
innermost (Stray p) = None
innermost (Deep p) = None

none_or_some : (p : Pos) → None ≡ Some p → ⊥
none_or_some p e = cc

some_same : (p q : Pos) → Some p ≡ Some q → p ≡ q
some_same p q e = cc

pub shows_innermost : (r : Run) (p : Pos) → innermost r ≡ Some p → Shows r (IsUnclosed p)
shows_innermost (On m [] tops) p e = absurd (none_or_some p e)
shows_innermost (On m (f ∷ fs) tops) p e = ap IsUnclosed (sym (some_same (frame_place f) p e))
shows_innermost (Stray q) p e = absurd (none_or_some p e)
shows_innermost (Deep q) p e = absurd (none_or_some p e)

innermost_lift : (r : Run) → innermost (lift r) ≡ innermost r
innermost_lift (On m [] tops) = refl
innermost_lift (On m (f ∷ fs) tops) = refl
innermost_lift (Stray q) = refl
innermost_lift (Deep q) = refl

pub innermost_raise : (k : ℕ) (r : Run) → innermost (raise k r) ≡ innermost r
innermost_raise zero r = refl
innermost_raise (suc k) r = innermost_lift (raise k r) ∙ innermost_raise k r

-- More levels hold the same trees

mutual
  within_more : (s : Syntax) (n : ℕ) → Within n s → Within (suc n) s
  within_more (Leaf p a) n h = tt
  within_more (Marked p m s) zero h = absurd h
  within_more (Marked p m s) (suc n) h = within_more s n h
  within_more (Nil p q) n h = tt
  within_more (Listed p s r q) zero h = absurd h
  within_more (Listed p s r q) (suc n) h = (within_more s n h.0, within_more_rest r n h.1)
  within_more (Vector p e q) zero h = absurd h
  within_more (Vector p e q) (suc n) h = within_more_elements e n h

  within_more_rest : (r : Rest) (n : ℕ) → WithinRest n r → WithinRest (suc n) r
  within_more_rest End n h = tt
  within_more_rest (More s r) n h = (within_more s n h.0, within_more_rest r n h.1)
  within_more_rest (Tail d s) n h = within_more s n h

  within_more_elements : (e : Elements) (n : ℕ) → WithinElements n e → WithinElements (suc n) e
  within_more_elements Last n h = tt
  within_more_elements (Further s e) n h = (within_more s n h.0, within_more_elements e n h.1)

within_more_all : (ss : List Syntax) (n : ℕ) → WithinAll n ss → WithinAll (suc n) ss
within_more_all [] n h = tt
within_more_all (s ∷ ss) n h = (within_more s n h.0, within_more_all ss n h.1)

pub within_up : (k : ℕ) (s : Syntax) (n : ℕ) → Within n s → Within (up k n) s
within_up zero s n h = h
within_up (suc k) s n h = within_more s (up k n) (within_up k s n h)

pub within_up_all : (k : ℕ) (ss : List Syntax) (n : ℕ) → WithinAll n ss → WithinAll (up k n) ss
within_up_all zero ss n h = h
within_up_all (suc k) ss n h = within_more_all ss (up k n) (within_up_all k ss n h)

pub frame_more : (f : Frame) (n : ℕ) → FrameWithin n f → FrameWithin (suc n) f
frame_more (Opened p) n h = tt
frame_more (Listing p a is) n h = (within_more a n h.0, within_more_all is n h.1)
frame_more (Dotted p a is d) n h = (within_more a n h.0, within_more_all is n h.1)
frame_more (Tailed p a is d t) n h = (within_more a n h.0, within_more_all is n h.1, within_more t n h.2)
frame_more (InVector p is) n h = within_more_all is n h
frame_more (Waiting p k) n h = tt

pub frame_fits : (fs : List Frame) (n m : ℕ) (f : Frame) → FrameWithin m f → Fits n m fs → FrameWithin n f
frame_fits [] n m f h fits =
    let P : ℕ → Type 0 = λ k. FrameWithin k f in
    subst P fits h
frame_fits (g ∷ fs) n m f h fits = frame_fits fs n (suc m) f (frame_more f m h) fits.2

-- Tokens and more tokens

mutual
  written-append : (s : Syntax) (us vs : List Token) → written s (us ++ vs) ≡ written s us ++ vs
  written-append (Leaf p a) us vs = refl
  written-append (Marked p m s) us vs = ap (λ ts. Marking p m ∷ ts) (written-append s us vs)
  written-append (Nil p q) us vs = refl
  written-append (Listed p s r q) us vs =
      ap (λ ts. Open p ∷ ts)
      (ap (written s) (written_rest-append r (Close q ∷ us) vs)
      ∙ written-append s (written_rest r (Close q ∷ us)) vs)
  written-append (Vector p e q) us vs = ap (λ ts. OpenVector p ∷ ts) (written_elements-append e (Close q ∷ us) vs)

  written_rest-append : (r : Rest) (us vs : List Token) → written_rest r (us ++ vs) ≡ written_rest r us ++ vs
  written_rest-append End us vs = refl
  written_rest-append (More s r) us vs =
      ap (written s) (written_rest-append r us vs) ∙ written-append s (written_rest r us) vs
  written_rest-append (Tail d s) us vs = ap (λ ts. Dot d ∷ ts) (written-append s us vs)

  written_elements-append : (e : Elements) (us vs : List Token)
      → written_elements e (us ++ vs) ≡ written_elements e us ++ vs
  written_elements-append Last us vs = refl
  written_elements-append (Further s e) us vs =
      ap (written s) (written_elements-append e us vs) ∙ written-append s (written_elements e us) vs

all-append : (ss : List Syntax) (us vs : List Token) → written_all ss (us ++ vs) ≡ written_all ss us ++ vs
all-append [] us vs = refl
all-append (s ∷ ss) us vs = ap (written s) (all-append ss us vs) ∙ written-append s (written_all ss us) vs

frame-append : (f : Frame) (us vs : List Token) → frame_written f (us ++ vs) ≡ frame_written f us ++ vs
frame-append (Opened p) us vs = refl
frame-append (Listing p a is) us vs =
    ap (λ ts. Open p ∷ ts) (ap (written a) (all-append is us vs) ∙ written-append a (written_all is us) vs)
frame-append (Dotted p a is d) us vs =
    ap (λ ts. Open p ∷ ts)
    (ap (written a) (all-append is (Dot d ∷ us) vs) ∙ written-append a (written_all is (Dot d ∷ us)) vs)
frame-append (Tailed p a is d t) us vs =
    ap (λ ts. Open p ∷ ts)
    (ap (λ ts. written a (written_all is (Dot d ∷ ts))) (written-append t us vs)
    ∙ (ap (written a) (all-append is (Dot d ∷ written t us) vs)
    ∙ written-append a (written_all is (Dot d ∷ written t us)) vs))
frame-append (InVector p is) us vs = ap (λ ts. OpenVector p ∷ ts) (all-append is us vs)
frame-append (Waiting p m) us vs = refl

frames-append : (fs : List Frame) (us vs : List Token) → frames_written fs (us ++ vs) ≡ frames_written fs us ++ vs
frames-append [] us vs = refl
frames-append (f ∷ fs) us vs = ap (frames_written fs) (frame-append f us vs) ∙ frames-append fs (frame_written f us) vs

-- what is open outside comes first
pub outside : (tops : List Syntax) (fs : List Frame) (ts : List Token)
    → written_all tops (frames_written fs ts) ≡ written_all tops (frames_written fs []) ++ ts
outside tops fs ts = ap (written_all tops) (frames-append fs [] ts) ∙ all-append tops (frames_written fs []) ts
