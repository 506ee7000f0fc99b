-- What a reading shows: its tokens so far are those of its trees and of what is open. So a text can still
-- come of them, and at the end they are a text unless something is open.
use Rattle.std.proofs.Common.{◌≡◌, ℕ, zero, suc, Bool, true, false, List, [], ◌∷◌, ◌++◌, refl, sym, ap, subst, ◌∙◌, append_assoc}
use Rattle.std.proofs.lemmas.List.{append-nil}
use Rattle.scheme_base.specs.declared.pos.Pos.{Pos}
use Rattle.datum_form.specs.declared.token.Token.{Token}
use Rattle.datum_form.specs.Syntax.{Syntax, Rest, Elements, written, written_rest, written_elements, written_all, Within, WithinRest, WithinElements, WithinAll, Begins}
use Rattle.datum_form.specs.declared.token.Token.TheVariants.{Open, OpenVector, Close, Dot, Marking, Atomic}
use Rattle.datum_form.specs.Syntax.Syntax.{Leaf, Marked, Nil, Listed, Vector}
use Rattle.datum_form.specs.declared.token.Atom.TheVariants.{Boolean}
use Rattle.datum_form.specs.Syntax.Rest.{End, More, Tail}
use Rattle.datum_form.specs.Syntax.Elements.{Last, Further}
use Rattle.datum_reader.specs.Machine.{Frame, Run, rest_of, elements_of, room, give, in_room, open_one, dot, shut, step, run, start}
use Rattle.datum_reader.specs.Machine.Frame.{Opened, Listing, Dotted, Tailed, InVector, Waiting}
use Rattle.datum_reader.specs.Machine.Run.{On, Stray, Deep}

-- Tokens of what is open

abbrev pub frame_written : Frame → List Token → List Token
frame_written (Opened p) ts = Open p ∷ ts
frame_written (Listing p a is) ts = Open p ∷ written a (written_all is ts)
frame_written (Dotted p a is d) ts = Open p ∷ written a (written_all is (Dot d ∷ ts))
frame_written (Tailed p a is d t) ts = Open p ∷ written a (written_all is (Dot d ∷ written t ts))
frame_written (InVector p is) ts = OpenVector p ∷ written_all is ts
frame_written (Waiting p m) ts = Marking p m ∷ ts

abbrev pub frames_written : List Frame → List Token → List Token
frames_written [] ts = ts
frames_written (f ∷ fs) ts = frames_written fs (frame_written f ts)

-- Depths of what is open: m levels may still be opened, of n at first

abbrev pub FrameWithin : ℕ → Frame → Type 0
FrameWithin m (Opened p) = Unit {0}
FrameWithin m (Listing p a is) = Within m a × WithinAll m is
FrameWithin m (Dotted p a is d) = Within m a × WithinAll m is
FrameWithin m (Tailed p a is d t) = Within m a × WithinAll m is × Within m t
FrameWithin m (InVector p is) = WithinAll m is
FrameWithin m (Waiting p k) = Unit {0}

abbrev pub Fits : ℕ → ℕ → List Frame → Type 0
Fits n m [] = m ≡ n
Fits n m (f ∷ fs) = FrameWithin m f × (room fs ≡ true) × Fits n (suc m) fs

-- the tokens ts have led to this state
pub record Good (n : ℕ) (ts : List Token) (m : ℕ) (fs : List Frame) (tops : List Syntax) : Type 0 where
  pub shows : (us : List Token) → ts ++ us ≡ written_all tops (frames_written fs us)
  pub within : WithinAll n tops
  pub fits : Fits n m fs

abbrev pub GoodRun : ℕ → List Token → Run → Type 0
GoodRun n ts (On m fs tops) = Good n ts m fs tops
GoodRun n ts (Stray p) = Unit {0}
GoodRun n ts (Deep p) = Unit {0}

apart : false ≡ true → ⊥
apart e = cc

-- Rows of trees

pub written_all-append : (is : List Syntax) (s : Syntax) (ts : List Token)
    → written_all (is ++ s ∷ []) ts ≡ written_all is (written s ts)
written_all-append [] s ts = refl
written_all-append (i ∷ is) s ts = ap (written i) (written_all-append is s ts)

pub within-append : (is : List Syntax) (s : Syntax) (n : ℕ) → WithinAll n is → Within n s
    → WithinAll n (is ++ s ∷ [])
within-append [] s n h k = (k, tt)
within-append (i ∷ is) s n h k = (h.0, within-append is s n h.1 k)

pub written_rest_of : (is : List Syntax) (r : Rest) (ts : List Token)
    → written_rest (rest_of is r) ts ≡ written_all is (written_rest r ts)
written_rest_of [] r ts = refl
written_rest_of (i ∷ is) r ts = ap (written i) (written_rest_of is r ts)

pub written_elements_of : (is : List Syntax) (e : Elements) (ts : List Token)
    → written_elements (elements_of is e) ts ≡ written_all is (written_elements e ts)
written_elements_of [] e ts = refl
written_elements_of (i ∷ is) e ts = ap (written i) (written_elements_of is e ts)

pub within_rest_of : (is : List Syntax) (r : Rest) (n : ℕ) → WithinAll n is → WithinRest n r → WithinRest n (rest_of is r)
within_rest_of [] r n h k = k
within_rest_of (i ∷ is) r n h k = (h.0, within_rest_of is r n h.1 k)

pub within_elements_of : (is : List Syntax) (e : Elements) (n : ℕ) → WithinAll n is → WithinElements n e
    → WithinElements n (elements_of is e)
within_elements_of [] e n h k = k
within_elements_of (i ∷ is) e n h k = (h.0, within_elements_of is e n h.1 k)

-- A tree that is given

-- what is open outside, after the trees there
abbrev shown : List Frame → List Syntax → List Token → List Token
shown fs tops us = written_all tops (frames_written fs us)

given : (fs : List Frame) (n m : ℕ) (tops : List Syntax) (s : Syntax) (ts : List Token)
    → room fs ≡ true → Within m s → WithinAll n tops → Fits n m fs
    → ((us : List Token) → ts ++ us ≡ shown fs tops (written s us)) → GoodRun n ts (give m fs tops s)
given [] n m tops s ts free h tops_within fits shows =
    let P : ℕ → Type 0 = λ k. Within k s in
    record {
      shows = λ us. shows us ∙ sym (written_all-append tops s us);
      within = within-append tops s n tops_within (subst P fits h);
      fits = fits;
    }
given (Opened p ∷ fs) n m tops s ts free h tops_within fits shows =
    record { shows = shows; within = tops_within; fits = ((h, tt), fits.1, fits.2) }
given (Listing p a is ∷ fs) n m tops s ts free h tops_within fits shows =
    record {
      shows = λ us. shows us ∙ ap (λ vs. shown fs tops (Open p ∷ written a vs)) (sym (written_all-append is s us));
      within = tops_within;
      fits = ((fits.0.0, within-append is s m fits.0.1 h), fits.1, fits.2);
    }
given (Dotted p a is d ∷ fs) n m tops s ts free h tops_within fits shows =
    record { shows = shows; within = tops_within; fits = ((fits.0.0, fits.0.1, h), fits.1, fits.2) }
given (Tailed p a is d t ∷ fs) n m tops s ts free h tops_within fits shows = absurd (apart free)
given (InVector p is ∷ fs) n m tops s ts free h tops_within fits shows =
    record {
      shows = λ us. shows us ∙ ap (λ vs. shown fs tops (OpenVector p ∷ vs)) (sym (written_all-append is s us));
      within = tops_within;
      fits = (within-append is s m fits.0 h, fits.1, fits.2);
    }
given (Waiting p k ∷ fs) n m tops s ts free h tops_within fits shows =
    given fs n (suc m) tops (Marked p k s) ts fits.1 h tops_within fits.2 shows

-- A step

-- the tokens so far and one more
longer : (n m : ℕ) (fs : List Frame) (tops : List Syntax) (ts : List Token) (t : Token) → Good n ts m fs tops
    → (us : List Token) → (ts ++ t ∷ []) ++ us ≡ shown fs tops (t ∷ us)
longer n m fs tops ts t good us = append_assoc ts (t ∷ []) us ∙ good.shows (t ∷ us)

opened : (n m : ℕ) (f : Frame) (fs : List Frame) (tops : List Syntax) (ts : List Token) (p : Pos)
    → room fs ≡ true → ((k : ℕ) → FrameWithin k f) → WithinAll n tops → Fits n m fs
    → ((us : List Token) → ts ++ us ≡ shown fs tops (frame_written f us)) → GoodRun n ts (open_one m f fs tops p)
opened n zero f fs tops ts p free h tops_within fits shows = tt
opened n (suc m) f fs tops ts p free h tops_within fits shows =
    record { shows = shows; within = tops_within; fits = (h m, free, fits) }

entered : (b : Bool) (n : ℕ) (ts : List Token) (p : Pos) (r : Run) → (b ≡ true → GoodRun n ts r)
    → GoodRun n ts (in_room b p r)
entered true n ts p r h = h refl
entered false n ts p r h = tt

dotted : (fs : List Frame) (n m : ℕ) (tops : List Syntax) (ts : List Token) (q : Pos)
    → WithinAll n tops → Fits n m fs → ((us : List Token) → ts ++ us ≡ shown fs tops (Dot q ∷ us))
    → GoodRun n ts (dot m fs tops q)
dotted (Listing p a is ∷ fs) n m tops ts q tops_within fits shows =
    record { shows = shows; within = tops_within; fits = fits }
dotted [] n m tops ts q tops_within fits shows = tt
dotted (Opened p ∷ fs) n m tops ts q tops_within fits shows = tt
dotted (Dotted p a is d ∷ fs) n m tops ts q tops_within fits shows = tt
dotted (Tailed p a is d t ∷ fs) n m tops ts q tops_within fits shows = tt
dotted (InVector p is ∷ fs) n m tops ts q tops_within fits shows = tt
dotted (Waiting p k ∷ fs) n m tops ts q tops_within fits shows = tt

shut_good : (fs : List Frame) (n m : ℕ) (tops : List Syntax) (ts : List Token) (q : Pos)
    → WithinAll n tops → Fits n m fs → ((us : List Token) → ts ++ us ≡ shown fs tops (Close q ∷ us))
    → GoodRun n ts (shut m fs tops q)
shut_good [] n m tops ts q tops_within fits shows = tt
shut_good (Opened p ∷ fs) n m tops ts q tops_within fits shows =
    given fs n (suc m) tops (Nil p q) ts fits.1 tt tops_within fits.2 shows
shut_good (Listing p a is ∷ fs) n m tops ts q tops_within fits shows =
    given fs n (suc m) tops (Listed p a (rest_of is End) q) ts fits.1
    (fits.0.0, within_rest_of is End m fits.0.1 tt) tops_within fits.2
    (λ us. shows us ∙ ap (λ vs. shown fs tops (Open p ∷ written a vs)) (sym (written_rest_of is End (Close q ∷ us))))
shut_good (Dotted p a is d ∷ fs) n m tops ts q tops_within fits shows = tt
shut_good (Tailed p a is d t ∷ fs) n m tops ts q tops_within fits shows =
    given fs n (suc m) tops (Listed p a (rest_of is (Tail d t)) q) ts fits.1
    (fits.0.0, within_rest_of is (Tail d t) m fits.0.1 fits.0.2) tops_within fits.2
    (λ us.
    shows us
    ∙ ap (λ vs. shown fs tops (Open p ∷ written a vs)) (sym (written_rest_of is (Tail d t) (Close q ∷ us))))
shut_good (InVector p is ∷ fs) n m tops ts q tops_within fits shows =
    given fs n (suc m) tops (Vector p (elements_of is Last) q) ts fits.1 (within_elements_of is Last m fits.0 tt)
    tops_within fits.2
    (λ us. shows us ∙ ap (λ vs. shown fs tops (OpenVector p ∷ vs)) (sym (written_elements_of is Last (Close q ∷ us))))
shut_good (Waiting p k ∷ fs) n m tops ts q tops_within fits shows = tt

pub step_good : (t : Token) (n m : ℕ) (fs : List Frame) (tops : List Syntax) (ts : List Token)
    → Good n ts m fs tops → GoodRun n (ts ++ t ∷ []) (step m fs tops t)
step_good (Open p) n m fs tops ts good =
    entered (room fs) n (ts ++ Open p ∷ []) p (open_one m (Opened p) fs tops p)
    (λ free.
    opened n m (Opened p) fs tops (ts ++ Open p ∷ []) p free (λ k. tt) good.within good.fits
    (longer n m fs tops ts (Open p) good))
step_good (OpenVector p) n m fs tops ts good =
    entered (room fs) n (ts ++ OpenVector p ∷ []) p (open_one m (InVector p []) fs tops p)
    (λ free.
    opened n m (InVector p []) fs tops (ts ++ OpenVector p ∷ []) p free (λ k. tt) good.within good.fits
    (longer n m fs tops ts (OpenVector p) good))
step_good (Close q) n m fs tops ts good =
    shut_good fs n m tops (ts ++ Close q ∷ []) q good.within good.fits (longer n m fs tops ts (Close q) good)
step_good (Dot q) n m fs tops ts good =
    dotted fs n m tops (ts ++ Dot q ∷ []) q good.within good.fits (longer n m fs tops ts (Dot q) good)
step_good (Marking p k) n m fs tops ts good =
    entered (room fs) n (ts ++ Marking p k ∷ []) p (open_one m (Waiting p k) fs tops p)
    (λ free.
    opened n m (Waiting p k) fs tops (ts ++ Marking p k ∷ []) p free (λ j. tt) good.within good.fits
    (longer n m fs tops ts (Marking p k) good))
step_good (Atomic p a) n m fs tops ts good =
    entered (room fs) n (ts ++ Atomic p a ∷ []) p (give m fs tops (Leaf p a))
    (λ free.
    given fs n m tops (Leaf p a) (ts ++ Atomic p a ∷ []) free tt good.within good.fits
    (longer n m fs tops ts (Atomic p a) good))

-- Many steps

pub run_good : (us ts : List Token) (n : ℕ) (r : Run) → GoodRun n ts r → GoodRun n (ts ++ us) (run r us)
run_good us ts n (Stray p) good = tt
run_good us ts n (Deep p) good = tt
run_good [] ts n (On m fs tops) good =
    let P : List Token → Type 0 = λ vs. Good n vs m fs tops in
    subst P (sym (append-nil ts)) good
run_good (t ∷ us) ts n (On m fs tops) good =
    let P : List Token → Type 0 = λ vs. GoodRun n vs (run (step m fs tops t) us) in
    subst P (append_assoc ts (t ∷ []) us)
    (run_good us (ts ++ t ∷ []) n (step m fs tops t) (step_good t n m fs tops ts good))

pub start_good : (n : ℕ) (ts : List Token) → GoodRun n ts (run (start n) ts)
start_good n ts = run_good ts [] n (start n) (record { shows = λ us. refl; within = tt; fits = refl })

-- What is open can be closed

abbrev here : Pos
here = record { line = 1; col = 1 }

record Closed (n : ℕ) (fs : List Frame) (tops : List Syntax) (front : List Token → List Token) : Type 0 where
  more : List Token
  trees : List Syntax
  within : WithinAll n trees
  whole : shown fs tops (front more) ≡ written_all trees []

-- with one token more in front of the rest
close_with : (n : ℕ) (fs gs : List Frame) (tops : List Syntax) (f g : List Token → List Token) (t : Token)
    → ((us : List Token) → shown gs tops (g (t ∷ us)) ≡ shown fs tops (f us)) → Closed n fs tops f → Closed n gs tops g
close_with n fs gs tops f g t e c =
    record { more = t ∷ c.more; trees = c.trees; within = c.within; whole = e c.more ∙ c.whole }

finish : (fs : List Frame) (n m : ℕ) (tops : List Syntax) (s : Syntax) → room fs ≡ true → Within m s
    → WithinAll n tops → Fits n m fs → Closed n fs tops (written s)
finish [] n m tops s free h tops_within fits =
    let P : ℕ → Type 0 = λ k. Within k s in
    record {
      more = [];
      trees = tops ++ s ∷ [];
      within = within-append tops s n tops_within (subst P fits h);
      whole = sym (written_all-append tops s []);
    }
finish (Opened p ∷ fs) n m tops s free h tops_within fits =
    close_with n fs (Opened p ∷ fs) tops (written (Listed p s End here)) (written s) (Close here) (λ us. refl)
    (finish fs n (suc m) tops (Listed p s End here) fits.1 (h, tt) tops_within fits.2)
finish (Listing p a is ∷ fs) n m tops s free h tops_within fits =
    close_with n fs (Listing p a is ∷ fs) tops (written (Listed p a (rest_of is (More s End)) here)) (written s)
    (Close here)
    (λ us.
    ap (λ vs. shown fs tops (Open p ∷ written a vs)) (sym (written_rest_of is (More s End) (Close here ∷ us))))
    (finish fs n (suc m) tops (Listed p a (rest_of is (More s End)) here) fits.1
    (fits.0.0, within_rest_of is (More s End) m fits.0.1 (h, tt)) tops_within fits.2)
finish (Dotted p a is d ∷ fs) n m tops s free h tops_within fits =
    close_with n fs (Dotted p a is d ∷ fs) tops (written (Listed p a (rest_of is (Tail d s)) here)) (written s)
    (Close here)
    (λ us. ap (λ vs. shown fs tops (Open p ∷ written a vs)) (sym (written_rest_of is (Tail d s) (Close here ∷ us))))
    (finish fs n (suc m) tops (Listed p a (rest_of is (Tail d s)) here) fits.1
    (fits.0.0, within_rest_of is (Tail d s) m fits.0.1 h) tops_within fits.2)
finish (Tailed p a is d t ∷ fs) n m tops s free h tops_within fits = absurd (apart free)
finish (InVector p is ∷ fs) n m tops s free h tops_within fits =
    close_with n fs (InVector p is ∷ fs) tops (written (Vector p (elements_of is (Further s Last)) here)) (written s)
    (Close here)
    (λ us.
    ap (λ vs. shown fs tops (OpenVector p ∷ vs)) (sym (written_elements_of is (Further s Last) (Close here ∷ us))))
    (finish fs n (suc m) tops (Vector p (elements_of is (Further s Last)) here) fits.1
    (within_elements_of is (Further s Last) m fits.0 (h, tt)) tops_within fits.2)
finish (Waiting p k ∷ fs) n m tops s free h tops_within fits =
    let c = finish fs n (suc m) tops (Marked p k s) fits.1 h tops_within fits.2 in
    record { more = c.more; trees = c.trees; within = c.within; whole = c.whole }

-- after a tail only a closing parenthesis can come, and else any datum
close_all : (fs : List Frame) (n m : ℕ) (tops : List Syntax) (b : Bool) → room fs ≡ b → WithinAll n tops
    → Fits n m fs → Closed n fs tops (λ us. us)
close_all fs n m tops true free tops_within fits =
    close_with n fs fs tops (written (Leaf here (Boolean false))) (λ us. us) (Atomic here (Boolean false))
    (λ us. refl) (finish fs n m tops (Leaf here (Boolean false)) free tt tops_within fits)
close_all (Tailed p a is d t ∷ fs) n m tops false full tops_within fits =
    close_with n fs (Tailed p a is d t ∷ fs) tops (written (Listed p a (rest_of is (Tail d t)) here)) (λ us. us)
    (Close here)
    (λ us. ap (λ vs. shown fs tops (Open p ∷ written a vs)) (sym (written_rest_of is (Tail d t) (Close here ∷ us))))
    (finish fs n (suc m) tops (Listed p a (rest_of is (Tail d t)) here) fits.1
    (fits.0.0, within_rest_of is (Tail d t) m fits.0.1 fits.0.2) tops_within fits.2)
close_all [] n m tops false full tops_within fits = absurd (apart (sym full))
close_all (Opened p ∷ fs) n m tops false full tops_within fits = absurd (apart (sym full))
close_all (Listing p a is ∷ fs) n m tops false full tops_within fits = absurd (apart (sym full))
close_all (Dotted p a is d ∷ fs) n m tops false full tops_within fits = absurd (apart (sym full))
close_all (InVector p is ∷ fs) n m tops false full tops_within fits = absurd (apart (sym full))
close_all (Waiting p k ∷ fs) n m tops false full tops_within fits = absurd (apart (sym full))

pub good_begins : (n m : ℕ) (fs : List Frame) (tops : List Syntax) (ts : List Token) → Good n ts m fs tops
    → Begins n ts
good_begins n m fs tops ts good =
    let c = close_all fs n m tops (room fs) refl good.within good.fits in
    record {
      more = c.more;
      trees = c.trees;
      text = record { within = c.within; whole = good.shows c.more ∙ c.whole };
    }
