-- A reading that may nest deeper goes on in the same way, and only a token that opens one level too many
-- is read differently.
use Rattle.std.proofs.Common.{◌≡◌, ℕ, zero, suc, ◌+◌, Bool, true, false, List, [], ◌∷◌, refl, sym, ap, subst, ◌∙◌, arith}
use Rattle.scheme_base.specs.declared.pos.Pos.{Pos}
use Rattle.datum_form.specs.declared.token.Token.{Token}
use Rattle.datum_form.specs.Syntax.{Syntax, place_of}
use Rattle.datum_form.specs.declared.token.Token.TheVariants.{Open, OpenVector, Close, Dot, Marking, Atomic}
use Rattle.datum_form.specs.Syntax.Syntax.{Leaf, Marked, Nil, Listed, Vector}
use Rattle.datum_form.specs.Syntax.Rest.{End, Tail}
use Rattle.datum_form.specs.Syntax.Elements.{Last}
use Rattle.datum_reader.specs.Machine.{Frame, Run, rest_of, elements_of, room, give, in_room, open_one, dot, shut, step, run}
use Rattle.datum_reader.specs.Machine.Frame.{Opened, Listing, Tailed, InVector, Waiting}
use Rattle.datum_reader.specs.Machine.Run.{On, Stray, Deep}

-- Readings

abbrev pub IsOn : Run → Type 0
IsOn (On n fs tops) = Unit {0}
IsOn (Stray p) = ⊥
IsOn (Deep p) = ⊥

abbrev pub TooDeep : Run → Type 0
TooDeep (On n fs tops) = ⊥
TooDeep (Stray p) = ⊥
TooDeep (Deep p) = Unit {0}

abbrev pub NotDeep : Run → Type 0
NotDeep (On n fs tops) = Unit {0}
NotDeep (Stray p) = Unit {0}
NotDeep (Deep p) = ⊥

pub on_not_deep : (r : Run) → IsOn r → NotDeep r
on_not_deep (On n fs tops) h = tt
on_not_deep (Stray p) h = absurd h
on_not_deep (Deep p) h = absurd h

pub on_before : (r : Run) (ts : List Token) → IsOn (run r ts) → IsOn r
on_before (On n fs tops) ts h = tt
on_before (Stray p) ts h = h
on_before (Deep p) ts h = h

not_deep_before : (r : Run) (ts : List Token) → NotDeep (run r ts) → NotDeep r
not_deep_before (On n fs tops) ts h = tt
not_deep_before (Stray p) ts h = tt
not_deep_before (Deep p) ts h = h

-- One level more

abbrev pub lift : Run → Run
lift (On n fs tops) = On (suc n) fs tops
lift (Stray p) = Stray p
lift (Deep p) = Deep p

lift_give : (fs : List Frame) (n : ℕ) (tops : List Syntax) (s : Syntax)
    → give (suc n) fs tops s ≡ lift (give n fs tops s)
lift_give (Waiting p m ∷ fs) n tops s = lift_give fs (suc n) tops (Marked p m s)
lift_give fs n tops s = refl

lift_open : (n : ℕ) (f : Frame) (fs : List Frame) (tops : List Syntax) (p : Pos) → NotDeep (open_one n f fs tops p)
    → open_one (suc n) f fs tops p ≡ lift (open_one n f fs tops p)
lift_open zero f fs tops p h = absurd h
lift_open (suc n) f fs tops p h = refl

lift_room : (b : Bool) (p : Pos) (r deeper : Run) → (NotDeep r → deeper ≡ lift r) → NotDeep (in_room b p r)
    → in_room b p deeper ≡ lift (in_room b p r)
lift_room true p r deeper e h = e h
lift_room false p r deeper e h = refl

lift_opener : (n : ℕ) (f : Frame) (fs : List Frame) (tops : List Syntax) (p : Pos)
    → NotDeep (in_room (room fs) p (open_one n f fs tops p))
    → in_room (room fs) p (open_one (suc n) f fs tops p) ≡ lift (in_room (room fs) p (open_one n f fs tops p))
lift_opener n f fs tops p h =
    lift_room (room fs) p (open_one n f fs tops p) (open_one (suc n) f fs tops p) (lift_open n f fs tops p) h

lift_dot : (fs : List Frame) (n : ℕ) (tops : List Syntax) (q : Pos) → dot (suc n) fs tops q ≡ lift (dot n fs tops q)
lift_dot (Listing p a is ∷ fs) n tops q = refl
lift_dot fs n tops q = refl

lift_shut : (fs : List Frame) (n : ℕ) (tops : List Syntax) (q : Pos)
    → shut (suc n) fs tops q ≡ lift (shut n fs tops q)
lift_shut (Opened p ∷ fs) n tops q = lift_give fs (suc n) tops (Nil p q)
lift_shut (Listing p a is ∷ fs) n tops q = lift_give fs (suc n) tops (Listed p a (rest_of is End) q)
lift_shut (Tailed p a is d t ∷ fs) n tops q = lift_give fs (suc n) tops (Listed p a (rest_of is (Tail d t)) q)
lift_shut (InVector p is ∷ fs) n tops q = lift_give fs (suc n) tops (Vector p (elements_of is Last) q)
lift_shut fs n tops q = refl

lift_step : (t : Token) (n : ℕ) (fs : List Frame) (tops : List Syntax) → NotDeep (step n fs tops t)
    → step (suc n) fs tops t ≡ lift (step n fs tops t)
lift_step (Open p) n fs tops h = lift_opener n (Opened p) fs tops p h
lift_step (OpenVector p) n fs tops h = lift_opener n (InVector p []) fs tops p h
lift_step (Close q) n fs tops h = lift_shut fs n tops q
lift_step (Dot q) n fs tops h = lift_dot fs n tops q
lift_step (Marking p m) n fs tops h = lift_opener n (Waiting p m) fs tops p h
lift_step (Atomic p a) n fs tops h =
    lift_room (room fs) p (give n fs tops (Leaf p a)) (give (suc n) fs tops (Leaf p a))
    (λ _. lift_give fs n tops (Leaf p a)) h

pub lift_run : (ts : List Token) (r : Run) → NotDeep (run r ts) → run (lift r) ts ≡ lift (run r ts)
lift_run ts (Stray p) h = refl
lift_run ts (Deep p) h = refl
lift_run [] (On n fs tops) h = refl
lift_run (t ∷ ts) (On n fs tops) h =
    ap (λ r. run r ts) (lift_step t n fs tops (not_deep_before (step n fs tops t) ts h))
    ∙ lift_run ts (step n fs tops t) h

-- Many levels more

abbrev pub up : ℕ → ℕ → ℕ
up zero n = n
up (suc k) n = suc (up k n)

up_add : (k n : ℕ) → up k n ≡ k + n
up_add zero n = omega arith
up_add (suc k) n = omega (arith, up_add k n)

pub up_swap : (k n : ℕ) → up k n ≡ up n k
up_swap k n = omega (arith, up_add k n, up_add n k)

abbrev pub raise : ℕ → Run → Run
raise zero r = r
raise (suc k) r = lift (raise k r)

lift_on : (r : Run) → IsOn r → IsOn (lift r)
lift_on (On n fs tops) h = tt
lift_on (Stray p) h = h
lift_on (Deep p) h = h

pub raise_on : (k : ℕ) (r : Run) → IsOn r → IsOn (raise k r)
raise_on zero r h = h
raise_on (suc k) r h = lift_on (raise k r) (raise_on k r h)

lift_not_deep : (r : Run) → NotDeep r → NotDeep (lift r)
lift_not_deep (On n fs tops) h = tt
lift_not_deep (Stray p) h = tt
lift_not_deep (Deep p) h = h

raise_not_deep : (k : ℕ) (r : Run) → NotDeep r → NotDeep (raise k r)
raise_not_deep zero r h = h
raise_not_deep (suc k) r h = lift_not_deep (raise k r) (raise_not_deep k r h)

pub raise_levels : (k n : ℕ) (fs : List Frame) (tops : List Syntax) → raise k (On n fs tops) ≡ On (up k n) fs tops
raise_levels zero n fs tops = refl
raise_levels (suc k) n fs tops = ap lift (raise_levels k n fs tops)

pub raise_stray : (k : ℕ) (p : Pos) → raise k (Stray p) ≡ Stray p
raise_stray zero p = refl
raise_stray (suc k) p = ap lift (raise_stray k p)

pub raise_run : (k : ℕ) (r : Run) (ts : List Token) → NotDeep (run r ts) → run (raise k r) ts ≡ raise k (run r ts)
raise_run zero r ts h = refl
raise_run (suc k) r ts h =
    let same = raise_run k r ts h in
    let P : Run → Type 0 = λ v. NotDeep v in
    lift_run ts (raise k r) (subst P (sym same) (raise_not_deep k (run r ts) h)) ∙ ap lift same

-- One level too many

give_on : (fs : List Frame) (n : ℕ) (tops : List Syntax) (s : Syntax) → IsOn (give n fs tops s)
give_on (Waiting p m ∷ fs) n tops s = give_on fs (suc n) tops (Marked p m s)
give_on fs n tops s = tt

on_or_deep : (r : Run) → IsOn r → TooDeep r → ⊥
on_or_deep (On n fs tops) h k = k
on_or_deep (Stray p) h k = k
on_or_deep (Deep p) h k = h

deep_room : (b : Bool) (p : Pos) (r deeper : Run) → (TooDeep r → IsOn deeper) → TooDeep (in_room b p r)
    → IsOn (in_room b p deeper)
deep_room true p r deeper f h = f h
deep_room false p r deeper f h = h

deep_open : (n : ℕ) (f : Frame) (fs : List Frame) (tops : List Syntax) (p : Pos) → TooDeep (open_one n f fs tops p)
    → IsOn (open_one (suc n) f fs tops p)
deep_open zero f fs tops p h = tt
deep_open (suc n) f fs tops p h = tt

deep_opener : (n : ℕ) (f : Frame) (fs : List Frame) (tops : List Syntax) (p : Pos)
    → TooDeep (in_room (room fs) p (open_one n f fs tops p)) → IsOn (in_room (room fs) p (open_one (suc n) f fs tops p))
deep_opener n f fs tops p h =
    deep_room (room fs) p (open_one n f fs tops p) (open_one (suc n) f fs tops p) (deep_open n f fs tops p) h

deep_dot : (fs : List Frame) (n : ℕ) (tops : List Syntax) (q : Pos) → TooDeep (dot n fs tops q) → ⊥
deep_dot (Listing p a is ∷ fs) n tops q h = h
deep_dot fs n tops q h = h

deep_give : (fs : List Frame) (n : ℕ) (tops : List Syntax) (s : Syntax) → TooDeep (give n fs tops s) → ⊥
deep_give fs n tops s h = on_or_deep (give n fs tops s) (give_on fs n tops s) h

deep_shut : (fs : List Frame) (n : ℕ) (tops : List Syntax) (q : Pos) → TooDeep (shut n fs tops q) → ⊥
deep_shut (Opened p ∷ fs) n tops q h = deep_give fs (suc n) tops (Nil p q) h
deep_shut (Listing p a is ∷ fs) n tops q h = deep_give fs (suc n) tops (Listed p a (rest_of is End) q) h
deep_shut (Tailed p a is d t ∷ fs) n tops q h = deep_give fs (suc n) tops (Listed p a (rest_of is (Tail d t)) q) h
deep_shut (InVector p is ∷ fs) n tops q h = deep_give fs (suc n) tops (Vector p (elements_of is Last) q) h
deep_shut fs n tops q h = h

-- with one level more, the token is read
pub deep_step : (t : Token) (n : ℕ) (fs : List Frame) (tops : List Syntax) → TooDeep (step n fs tops t)
    → IsOn (step (suc n) fs tops t)
deep_step (Open p) n fs tops h = deep_opener n (Opened p) fs tops p h
deep_step (OpenVector p) n fs tops h = deep_opener n (InVector p []) fs tops p h
deep_step (Close q) n fs tops h = absurd (deep_shut fs n tops q h)
deep_step (Dot q) n fs tops h = absurd (deep_dot fs n tops q h)
deep_step (Marking p m) n fs tops h = deep_opener n (Waiting p m) fs tops p h
deep_step (Atomic p a) n fs tops h =
    deep_room (room fs) p (give n fs tops (Leaf p a)) (give (suc n) fs tops (Leaf p a))
    (λ deep. absurd (deep_give fs n tops (Leaf p a) deep)) h

-- The place at which a reading stops

-- a reading that stops has this place
abbrev pub AtPlace : Pos → Run → Type 0
AtPlace q (On n fs tops) = Unit {0}
AtPlace q (Stray p) = p ≡ q
AtPlace q (Deep p) = p ≡ q

at_room : (b : Bool) (p : Pos) (r : Run) → AtPlace p r → AtPlace p (in_room b p r)
at_room true p r h = h
at_room false p r h = refl

at_open : (n : ℕ) (f : Frame) (fs : List Frame) (tops : List Syntax) (p : Pos) → AtPlace p (open_one n f fs tops p)
at_open zero f fs tops p = refl
at_open (suc n) f fs tops p = tt

at_on : (r : Run) (q : Pos) → IsOn r → AtPlace q r
at_on (On n fs tops) q h = tt
at_on (Stray p) q h = absurd h
at_on (Deep p) q h = absurd h

at_dot : (fs : List Frame) (n : ℕ) (tops : List Syntax) (q : Pos) → AtPlace q (dot n fs tops q)
at_dot (Listing p a is ∷ fs) n tops q = tt
at_dot fs n tops q = refl

at_give : (fs : List Frame) (n : ℕ) (tops : List Syntax) (s : Syntax) (q : Pos) → AtPlace q (give n fs tops s)
at_give fs n tops s q = at_on (give n fs tops s) q (give_on fs n tops s)

at_shut : (fs : List Frame) (n : ℕ) (tops : List Syntax) (q : Pos) → AtPlace q (shut n fs tops q)
at_shut (Opened p ∷ fs) n tops q = at_give fs (suc n) tops (Nil p q) q
at_shut (Listing p a is ∷ fs) n tops q = at_give fs (suc n) tops (Listed p a (rest_of is End) q) q
at_shut (Tailed p a is d t ∷ fs) n tops q = at_give fs (suc n) tops (Listed p a (rest_of is (Tail d t)) q) q
at_shut (InVector p is ∷ fs) n tops q = at_give fs (suc n) tops (Vector p (elements_of is Last) q) q
at_shut fs n tops q = refl

pub at_step : (t : Token) (n : ℕ) (fs : List Frame) (tops : List Syntax) → AtPlace (place_of t) (step n fs tops t)
at_step (Open p) n fs tops = at_room (room fs) p (open_one n (Opened p) fs tops p) (at_open n (Opened p) fs tops p)
at_step (OpenVector p) n fs tops =
    at_room (room fs) p (open_one n (InVector p []) fs tops p) (at_open n (InVector p []) fs tops p)
at_step (Close q) n fs tops = at_shut fs n tops q
at_step (Dot q) n fs tops = at_dot fs n tops q
at_step (Marking p m) n fs tops =
    at_room (room fs) p (open_one n (Waiting p m) fs tops p) (at_open n (Waiting p m) fs tops p)
at_step (Atomic p a) n fs tops =
    at_room (room fs) p (give n fs tops (Leaf p a)) (at_give fs n tops (Leaf p a) p)
