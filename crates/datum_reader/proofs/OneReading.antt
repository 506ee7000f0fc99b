-- A list of tokens is a text of one list of trees, or has one fault: either is what its reading ends with.
use Rattle.std.proofs.Common.{◌≡◌, ℕ, zero, suc, Bool, true, false, List, [], ◌∷◌, ◌++◌, Some, ◌⊎◌, inl, inr, refl, sym, ap, subst, ◌∙◌, append_assoc}
use Rattle.std.proofs.lemmas.List.{append-nil}
use Rattle.scheme_base.specs.declared.pos.Pos.{Pos}
use Rattle.datum_form.specs.declared.token.Token.{Token}
use Rattle.datum_form.specs.Syntax.{Syntax, written, written_all, WithinAll, IsText, Begins, place_of}
use Rattle.datum_form.specs.declared.token.Token.TheVariants.{Open, OpenVector, Close, Dot, Marking, Atomic}
use Rattle.datum_form.specs.Faults.{Inside, written_inside, WithinInside, InsideList, InsideVector, StaysOpen, Reached, Strays, Deepens, Fault, HasFault}
use Rattle.datum_form.specs.Faults.Inside.{Items, Dotted as DottedIn, Tailed as TailedIn}
use Rattle.datum_form.specs.Faults.Fault.{IsStray, IsDeep, IsUnclosed}
use Rattle.datum_reader.specs.Machine.{Frame, Run, frame_place, room, in_room, open_one, step, run, start}
use Rattle.datum_reader.specs.Machine.Frame.{Opened, Listing, Dotted, Tailed, InVector, Waiting}
use Rattle.datum_reader.specs.Machine.Run.{On, Stray, Deep}
use Rattle.datum_reader.proofs.WholeTreesAreRead.{reads, reads_items, reads_vector, text_run}
use Rattle.datum_reader.proofs.ReadingBeginsAText.{frame_written, frames_written, FrameWithin, Good, GoodRun, start_good, good_begins}
use Rattle.datum_reader.proofs.DeeperReadsTheSame.{IsOn, TooDeep, on_not_deep, on_before, up, up_swap, raise_levels, raise_run, AtPlace, at_step}
use Rattle.datum_reader.proofs.ReadingGoesOnOrFaults.{Going, going, next, next_one, run_append, begins_on, on_begins, stray_none, deep_begins, Shows, same_fault, innermost, shows_innermost, innermost_raise, within_up, within_up_all, frame_more, frame_fits, outside}

-- There is an outcome

abbrev Outcome : ℕ → List Token → Type 0
Outcome n ts = ((ss : List Syntax) × IsText n ts ss) ⊎ ((d : Fault) × HasFault n ts d)

-- what is still open, as a token with what stands inside it
record StillOpen (n : ℕ) (f : Frame) : Type 0 where
  opener : Token
  inside : List Token
  whole : frame_written f [] ≡ opener ∷ inside
  stays : StaysOpen n opener inside
  place : frame_place f ≡ place_of opener

still_open : (n : ℕ) (f : Frame) → FrameWithin n f → StillOpen n f
still_open n (Opened p) h =
    record {
      opener = Open p;
      inside = [];
      whole = refl;
      stays = record { inside = Items []; within = tt; whole = refl };
      place = refl;
    }
still_open n (Listing p a is) h =
    record {
      opener = Open p;
      inside = written_all (a ∷ is) [];
      whole = refl;
      stays = record { inside = Items (a ∷ is); within = h; whole = refl };
      place = refl;
    }
still_open n (Dotted p a is d) h =
    record {
      opener = Open p;
      inside = written_inside (DottedIn a is d);
      whole = refl;
      stays = record { inside = DottedIn a is d; within = h; whole = refl };
      place = refl;
    }
still_open n (Tailed p a is d t) h =
    record {
      opener = Open p;
      inside = written_inside (TailedIn a is d t);
      whole = refl;
      stays = record { inside = TailedIn a is d t; within = h; whole = refl };
      place = refl;
    }
still_open n (InVector p is) h =
    record {
      opener = OpenVector p;
      inside = written_all is [];
      whole = refl;
      stays = record { trees = is; within = h; whole = refl };
      place = refl;
    }
still_open n (Waiting p k) h =
    record { opener = Marking p k; inside = []; whole = refl; stays = refl; place = refl }

good_at : (n m : ℕ) (fs : List Frame) (tops : List Syntax) (ts : List Token) → run (start n) ts ≡ On m fs tops
    → Good n ts m fs tops
good_at n m fs tops ts e =
    let P : Run → Type 0 = λ r. GoodRun n ts r in
    subst P e (start_good n ts)

at_end : (fs : List Frame) (n m : ℕ) (tops : List Syntax) (ts : List Token) → Good n ts m fs tops → Outcome n ts
at_end [] n m tops ts good =
    inl (tops, record { within = good.within; whole = sym (append-nil ts) ∙ good.shows [] })
at_end (f ∷ fs) n m tops ts good =
    let o = still_open n f (frame_fits fs n (suc m) f (frame_more f m good.fits.0) good.fits.2) in
    inr (
      IsUnclosed (frame_place f),
      record {
        begins = good_begins n m (f ∷ fs) tops ts good;
        front = written_all tops (frames_written fs []);
        opener = o.opener;
        inside = o.inside;
        whole =
            sym (append-nil ts)
            ∙ (good.shows []
            ∙ (outside tops fs (frame_written f [])
            ∙ ap (λ us. written_all tops (frames_written fs []) ++ us) o.whole));
        stays = o.stays;
        place = o.place;
      },
    )

-- where the reading goes on up to a token, it is reached
abbrev reached : (n m : ℕ) (fs : List Frame) (tops : List Syntax) (front : List Token) (t : Token) (more : List Token)
    → run (start n) front ≡ On m fs tops → Reached n (front ++ t ∷ more)
reached n m fs tops front t more e =
    record {
      front = front;
      token = t;
      more = more;
      whole = refl;
      begins = good_begins n m fs tops front (good_at n m fs tops front e);
    }

-- a step that stops, by its reading
stopped : (r : Run) (n m : ℕ) (fs : List Frame) (tops : List Syntax) (front : List Token) (t : Token)
    (more : List Token) → run (start n) front ≡ On m fs tops → step m fs tops t ≡ r
    → (IsOn r → Outcome n (front ++ t ∷ more)) → Outcome n (front ++ t ∷ more)
stopped (On k gs us) n m fs tops front t more e s again = again tt
stopped (Stray p) n m fs tops front t more e s again =
    let P : Run → Type 0 = λ r. AtPlace (place_of t) r in
    inr (
      IsStray p,
      record {
        at = reached n m fs tops front t more e;
        stops = stray_none n (front ++ t ∷ []) p (next_one n m fs tops front t e ∙ s);
        place = subst P s (at_step t m fs tops);
      },
    )
stopped (Deep p) n m fs tops front t more e s again =
    let P : Run → Type 0 = λ r. AtPlace (place_of t) r in
    let Q : Run → Type 0 = λ r. IsOn r in
    let R : Run → Type 0 = λ r. TooDeep r in
    inr (
      IsDeep p,
      record {
        at = reached n m fs tops front t more e;
        stops = λ b. subst Q (next_one n m fs tops front t e ∙ s) (begins_on n (front ++ t ∷ []) b);
        depth = suc n;
        deeper = deep_begins n m fs tops front t e (subst R (sym s) tt);
        place = subst P s (at_step t m fs tops);
      },
    )

outcome_from : (rest : List Token) (n m : ℕ) (fs : List Frame) (tops : List Syntax) (front : List Token)
    → run (start n) front ≡ On m fs tops → Outcome n (front ++ rest)
outcome_from [] n m fs tops front e =
    let P : List Token → Type 0 = λ ts. Outcome n ts in
    subst P (sym (append-nil front)) (at_end fs n m tops front (good_at n m fs tops front e))
outcome_from (t ∷ rest) n m fs tops front e =
    stopped (step m fs tops t) n m fs tops front t rest e refl
    (λ goes.
    let g = going (step m fs tops t) goes in
    let P : List Token → Type 0 = λ ts. Outcome n ts in
    subst P (append_assoc front (t ∷ []) rest)
    (outcome_from rest n g.levels g.frames g.tops (front ++ t ∷ []) (next_one n m fs tops front t e ∙ g.is)))

pub outcome : (n : ℕ) (ts : List Token) → Outcome n ts
outcome n ts = outcome_from ts n n [] [] [] refl

-- A fault is what the reading ends with

-- the token after which no text goes on, by the reading with it
stray_shown : (r : Run) (n m : ℕ) (fs : List Frame) (tops : List Syntax) (ts : List Token) (p : Pos)
    (h : Strays n ts p) → run (start n) h.at.front ≡ On m fs tops → step m fs tops h.at.token ≡ r
    → Shows (run r h.at.more) (IsStray p)
stray_shown (On k gs us) n m fs tops ts p h e s =
    absurd
    (h.stops n
    (on_begins n (h.at.front ++ h.at.token ∷ []) (subst (λ r. IsOn r) (sym (next_one n m fs tops h.at.front h.at.token e ∙ s)) tt)))
stray_shown (Stray q) n m fs tops ts p h e s =
    let P : Run → Type 0 = λ r. AtPlace (place_of h.at.token) r in
    ap IsStray (h.place ∙ sym (subst P s (at_step h.at.token m fs tops)))
stray_shown (Deep q) n m fs tops ts p h e s =
    let R : Run → Type 0 = λ r. TooDeep r in
    absurd (h.stops (suc n) (deep_begins n m fs tops h.at.front h.at.token e (subst R (sym s) tt)))

deep_shown : (r : Run) (n m : ℕ) (fs : List Frame) (tops : List Syntax) (ts : List Token) (p : Pos)
    (h : Deepens n ts p) → run (start n) h.at.front ≡ On m fs tops → step m fs tops h.at.token ≡ r
    → Shows (run r h.at.more) (IsDeep p)
deep_shown (On k gs us) n m fs tops ts p h e s =
    absurd
    (h.stops (on_begins n (h.at.front ++ h.at.token ∷ []) (subst (λ r. IsOn r) (sym (next_one n m fs tops h.at.front h.at.token e ∙ s)) tt)))
deep_shown (Stray q) n m fs tops ts p h e s =
    absurd
    (stray_none n (h.at.front ++ h.at.token ∷ []) q (next_one n m fs tops h.at.front h.at.token e ∙ s) h.depth h.deeper)
deep_shown (Deep q) n m fs tops ts p h e s =
    let P : Run → Type 0 = λ r. AtPlace (place_of h.at.token) r in
    ap IsDeep (h.place ∙ sym (subst P s (at_step h.at.token m fs tops)))

-- Where the reading of what stands inside an opener goes on, the opener is the innermost that is open.

record Entered (r : Run) (f : Frame) (fs : List Frame) (tops : List Syntax) : Type 0 where
  levels : ℕ
  is : r ≡ On levels (f ∷ fs) tops

entered : (b : Bool) (m : ℕ) (f : Frame) (fs : List Frame) (tops : List Syntax) (p : Pos)
    → IsOn (in_room b p (open_one m f fs tops p)) → Entered (in_room b p (open_one m f fs tops p)) f fs tops
entered false m f fs tops p h = absurd h
entered true zero f fs tops p h = absurd h
entered true (suc m) f fs tops p h = record { levels = m; is = refl }

inside_run : (i : Inside) (m : ℕ) (p : Pos) (fs : List Frame) (tops : List Syntax) → WithinInside m i
    → innermost (run (On m (Opened p ∷ fs) tops) (written_inside i)) ≡ Some p
inside_run (Items []) m p fs tops h = refl
inside_run (Items (s ∷ ss)) m p fs tops h =
    ap innermost
    (reads s m (Opened p ∷ fs) tops (written_all ss []) h.0 refl ∙ reads_items ss m p s [] fs tops [] h.1)
inside_run (DottedIn s ss d) m p fs tops h =
    ap innermost
    (reads s m (Opened p ∷ fs) tops (written_all ss (Dot d ∷ [])) h.0 refl
    ∙ reads_items ss m p s [] fs tops (Dot d ∷ []) h.1)
inside_run (TailedIn s ss d t) m p fs tops h =
    ap innermost
    (reads s m (Opened p ∷ fs) tops (written_all ss (Dot d ∷ written t [])) h.0 refl
    ∙ (reads_items ss m p s [] fs tops (Dot d ∷ written t []) h.1
    ∙ reads t m (Dotted p s ss d ∷ fs) tops [] h.2 refl))

inside_up : (i : Inside) (k n : ℕ) → WithinInside n i → WithinInside (up k n) i
inside_up (Items ss) k n h = within_up_all k ss n h
inside_up (DottedIn s ss d) k n h = (within_up k s n h.0, within_up_all k ss n h.1)
inside_up (TailedIn s ss d t) k n h = (within_up k s n h.0, within_up_all k ss n h.1, within_up k t n h.2)

-- the same, with more levels
raised : (n m : ℕ) (fs : List Frame) (tops : List Syntax) (ts : List Token) (p : Pos)
    → IsOn (run (On m fs tops) ts) → innermost (run (On (up n m) fs tops) ts) ≡ Some p
    → innermost (run (On m fs tops) ts) ≡ Some p
raised n m fs tops ts p goes e =
    sym (innermost_raise n (run (On m fs tops) ts))
    ∙ (ap innermost
    (sym (raise_run n (On m fs tops) ts (on_not_deep (run (On m fs tops) ts) goes))
    ∙ ap (λ r. run r ts) (raise_levels n m fs tops))
    ∙ e)

list_innermost : (n m : ℕ) (fs : List Frame) (tops : List Syntax) (ts : List Token) (p : Pos) → InsideList n ts
    → IsOn (run (On m (Opened p ∷ fs) tops) ts) → innermost (run (On m (Opened p ∷ fs) tops) ts) ≡ Some p
list_innermost n m fs tops ts p o goes =
    let P : ℕ → Type 0 = λ k. WithinInside k o.inside in
    raised n m (Opened p ∷ fs) tops ts p goes
    (ap (λ us. innermost (run (On (up n m) (Opened p ∷ fs) tops) us)) o.whole
    ∙ inside_run o.inside (up n m) p fs tops (subst P (up_swap m n) (inside_up o.inside m n o.within)))

vector_innermost : (n m : ℕ) (fs : List Frame) (tops : List Syntax) (ts : List Token) (p : Pos) → InsideVector n ts
    → IsOn (run (On m (InVector p [] ∷ fs) tops) ts) → innermost (run (On m (InVector p [] ∷ fs) tops) ts) ≡ Some p
vector_innermost n m fs tops ts p o goes =
    let P : ℕ → Type 0 = λ k. WithinAll k o.trees in
    raised n m (InVector p [] ∷ fs) tops ts p goes
    (ap (λ us. innermost (run (On (up n m) (InVector p [] ∷ fs) tops) us)) o.whole
    ∙ ap innermost
    (reads_vector o.trees (up n m) p [] fs tops [] (subst P (up_swap m n) (within_up_all m o.trees n o.within))))

-- a reading goes through a token that opens
through : (r s : Run) (ts : List Token) (p : Pos) → r ≡ s → IsOn (run r ts)
    → (IsOn (run s ts) → innermost (run s ts) ≡ Some p) → innermost (run r ts) ≡ Some p
through r s ts p e goes f =
    let P : Run → Type 0 = λ v. IsOn (run v ts) in
    ap (λ v. innermost (run v ts)) e ∙ f (subst P e goes)

opener_innermost : (t : Token) (n m : ℕ) (fs : List Frame) (tops : List Syntax) (ts : List Token) → StaysOpen n t ts
    → IsOn (run (step m fs tops t) ts) → innermost (run (step m fs tops t) ts) ≡ Some (place_of t)
opener_innermost (Open p) n m fs tops ts stays goes =
    let first = step m fs tops (Open p) in
    let one = entered (room fs) m (Opened p) fs tops p (on_before first ts goes) in
    through first (On one.levels (Opened p ∷ fs) tops) ts p one.is goes
    (λ on. list_innermost n one.levels fs tops ts p stays on)
opener_innermost (OpenVector p) n m fs tops ts stays goes =
    let first = step m fs tops (OpenVector p) in
    let one = entered (room fs) m (InVector p []) fs tops p (on_before first ts goes) in
    through first (On one.levels (InVector p [] ∷ fs) tops) ts p one.is goes
    (λ on. vector_innermost n one.levels fs tops ts p stays on)
opener_innermost (Close p) n m fs tops ts stays goes = absurd stays
opener_innermost (Dot p) n m fs tops ts stays goes = absurd stays
opener_innermost (Marking p k) n m fs tops ts stays goes =
    let first = step m fs tops (Marking p k) in
    let one = entered (room fs) m (Waiting p k) fs tops p (on_before first ts goes) in
    through first (On one.levels (Waiting p k ∷ fs) tops) ts p one.is goes
    (λ on. ap (λ us. innermost (run (On one.levels (Waiting p k ∷ fs) tops) us)) stays)
opener_innermost (Atomic p a) n m fs tops ts stays goes = absurd stays

-- the reading goes on up to the first token of these
front_goes : (n : ℕ) (front : List Token) → Begins n front → Going (run (start n) front)
front_goes n front b = going (run (start n) front) (begins_on n front b)

-- what is shown at the token behind them, the whole shows
shown_after : (n : ℕ) (ts front : List Token) (t : Token) (more : List Token) (d : Fault) → ts ≡ front ++ t ∷ more
    → (g : Going (run (start n) front)) → Shows (run (step g.levels g.frames g.tops t) more) d → Shows (run (start n) ts) d
shown_after n ts front t more d whole g shown =
    let P : Run → Type 0 = λ r. Shows r d in
    subst P (sym (ap (run (start n)) whole ∙ next n g.levels g.frames g.tops front t more g.is)) shown

pub fault_shown : (n : ℕ) (ts : List Token) (d : Fault) → HasFault n ts d → Shows (run (start n) ts) d
fault_shown n ts (IsStray p) h =
    let g = front_goes n h.at.front h.at.begins in
    shown_after n ts h.at.front h.at.token h.at.more (IsStray p) h.at.whole g
    (stray_shown (step g.levels g.frames g.tops h.at.token) n g.levels g.frames g.tops ts p h g.is refl)
fault_shown n ts (IsDeep p) h =
    let g = front_goes n h.at.front h.at.begins in
    shown_after n ts h.at.front h.at.token h.at.more (IsDeep p) h.at.whole g
    (deep_shown (step g.levels g.frames g.tops h.at.token) n g.levels g.frames g.tops ts p h g.is refl)
fault_shown n ts (IsUnclosed p) h =
    let Goes : Run → Type 0 = λ r. IsOn r in
    let goes : IsOn (run (run (start n) h.front) (h.opener ∷ h.inside)) =
    subst Goes (ap (run (start n)) h.whole ∙ run_append h.front (h.opener ∷ h.inside) (start n)) (begins_on n ts h.begins) in
    let g = going (run (start n) h.front) (on_before (run (start n) h.front) (h.opener ∷ h.inside) goes) in
    let same : run (start n) ts ≡ run (step g.levels g.frames g.tops h.opener) h.inside =
    ap (run (start n)) h.whole ∙ next n g.levels g.frames g.tops h.front h.opener h.inside g.is in
    shows_innermost (run (start n) ts) p
    (ap innermost same
    ∙ (opener_innermost h.opener n g.levels g.frames g.tops h.inside h.stays (subst Goes same (begins_on n ts h.begins))
    ∙ ap Some (sym h.place)))

pub one_fault : (n : ℕ) (ts : List Token) (d e : Fault) → HasFault n ts d → HasFault n ts e → d ≡ e
one_fault n ts d e h k = same_fault (run (start n) ts) d e (fault_shown n ts d h) (fault_shown n ts e k)

pub text_or_fault : (n : ℕ) (ts : List Token) (ss : List Syntax) (d : Fault) → IsText n ts ss → HasFault n ts d → ⊥
text_or_fault n ts ss d text h =
    let P : Run → Type 0 = λ r. Shows r d in
    subst P (text_run n ts ss text) (fault_shown n ts d h)
