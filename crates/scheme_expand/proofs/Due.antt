-- The faults of some expressions, part by part.
use Rattle.std.proofs.Common.{ℕ, ◌≡◌, ◌<◌, ◌≤◌, List, [], ◌∷◌, ◌++◌, Option, None, length, get_or, refl, sym, ap, ◌∙◌, arith}
use Rattle.std.specs.Prelude.{Result, Ok, Err, OnOk, IfOk}
use Rattle.datum_form.specs.Data.{Datum, Items}
use Rattle.datum_form.specs.Data.Items.{none, item}
use Rattle.scheme_expand.specs.declared.source.Source.{Source}
use Rattle.scheme_expand.specs.declared.step.Step.{Step}
use Rattle.scheme_expand.specs.declared.expander.Expander.{Expander}
use Rattle.scheme_expand.specs.Grammar.{expr, exprs}
use Rattle.scheme_expand.specs.Faults.{Fault, least, in_exp, in_exps}
use Rattle.scheme_expand.specs.Waiting.{earlier, Reads, ReadAll, Waits, AllWait, Adds, Keeps}
use Rattle.scheme_expand.proofs.Adding.{due, kept, nothing}
use Rattle.scheme_expand.proofs.Least.{earlier_none, earlier_comm, earlier_assoc, least_append}
use Rattle.scheme_expand.proofs.Parts.{no_items, first_of, last_of, joined}

pub on_ok : {T E : Type 0} (r : Result T E) {P Q : Type 0} → (P → Q) → OnOk r P → OnOk r Q
on_ok (Ok x) f h = f h
on_ok (Err e) f h = h

pub any_ok : {T E : Type 0} (r : Result T E) {P : Type 0} → P → OnOk r P
any_ok (Ok x) p = p
any_ok (Err e) p = tt

pub if_ok : {T E : Type 0} (r : Result T E) {P Q : T → Type 0} → ((x : T) → P x → Q x) → IfOk r P → IfOk r Q
if_ok (Ok x) f h = f x h
if_ok (Err e) f h = h

-- Waiting steps, from the first

pub more_wait : (s : Source) (one : Step) (steps : List Step) (a b : Option Fault) → Waits s one a → AllWait s steps b
    → AllWait s (one ∷ steps) (earlier a b)
more_wait s one steps a b p q = (a, b, p, q, refl)

-- a step that waits for no data
pub idle : (s : Source) (one : Step) (steps : List Step) (b : Option Fault) → Waits s one None → AllWait s steps b
    → AllWait s (one ∷ steps) b
idle s one steps b p q = (None, b, p, q, refl)

-- Faults of data

abbrev pub of : Datum → Option Fault
of d = least (in_exp (expr d))

abbrev pub of_all : Items → Option Fault
of_all ds = least (in_exps (exprs ds))

pub of_more : (d : Datum) (ds : Items) → of_all (item d ds) ≡ earlier (of d) (of_all ds)
of_more d ds = least_append (in_exp (expr d)) (in_exps (exprs ds))

pub of_one : (d : Datum) → of_all (item d none) ≡ of d
of_one d = of_more d none ∙ earlier_none (of d)

pub of_joined : (ds es : Items) → of_all (joined ds es) ≡ earlier (of_all ds) (of_all es)
of_joined none es = refl
of_joined (item d ds) es =
    of_more d (joined ds es)
    ∙ (ap (earlier (of d)) (of_joined ds es)
    ∙ (sym (earlier_assoc (of d) (of_all ds) (of_all es)) ∙ ap (λ x. earlier x (of_all es)) (sym (of_more d ds))))

pub of_last : (ds : Items) (d : Datum) → of_all (joined ds (item d none)) ≡ earlier (of_all ds) (of d)
of_last ds d = of_joined ds (item d none) ∙ ap (earlier (of_all ds)) (of_one d)

pub backwards : (a b c : Option Fault) → earlier c (earlier b a) ≡ earlier a (earlier b c)
backwards a b c =
    earlier_comm c (earlier b a) ∙ (ap (λ x. earlier x c) (earlier_comm b a) ∙ earlier_assoc a b c)

-- Calls over many data

pub none_left : (ids : List ℕ) → length ids ≡ 0 → ids ≡ []
none_left [] e = refl
none_left (i ∷ ids) e = absurd (omega (arith, e))

pub one_number : (ids : List ℕ) → 1 ≤ length ids → length ids < 2 → ids ≡ get_or ids 0 0 ∷ []
one_number [] least most = absurd (omega (arith, least))
one_number (i ∷ []) least most = refl
one_number (i ∷ j ∷ ids) least most = absurd (omega (arith, most))

-- there are none
pub none_due : (a : Expander) (ids : List ℕ) (ds : Items) → ids ≡ [] → ReadAll a.source ids ds → Adds a a (of_all ds)
none_due a ids ds e h = due a a None (of_all ds) (ap of_all (sym (no_items a.source ids ds e h))) (nothing a)

pub none_kept : (a b : Expander) (ids : List ℕ) (ds : Items) → ids ≡ [] → Keeps a b → ReadAll a.source ids ds
    → Adds a b (of_all ds)
none_kept a b ids ds e k h = due a b None (of_all ds) (ap of_all (sym (no_items a.source ids ds e h))) (kept a b k)

-- what the first and the others have
pub first_due : (a b : Expander) (all : List ℕ) (id : ℕ) (ids : List ℕ) (ds : Items) → all ≡ id ∷ ids
    → ((d : Datum) (os : Items) → Reads a.source id d → ReadAll a.source ids os → Adds a b (earlier (of d) (of_all os)))
    → ReadAll a.source all ds → Adds a b (of_all ds)
first_due a b all id ids ds e f h =
    let r = first_of a.source all id ids ds e h in
    due a b (earlier (of r.datum) (of_all r.others)) (of_all ds) (sym (of_more r.datum r.others) ∙ ap of_all (sym r.are))
    (f r.datum r.others r.first r.rest)

-- what the last and the others have
pub last_due : (a b : Expander) (all ids : List ℕ) (id : ℕ) (ds : Items) → all ≡ ids ++ id ∷ []
    → ((os : Items) (d : Datum) → ReadAll a.source ids os → Reads a.source id d → Adds a b (earlier (of_all os) (of d)))
    → ReadAll a.source all ds → Adds a b (of_all ds)
last_due a b all ids id ds e f h =
    let r = last_of a.source all ids id ds e h in
    due a b (earlier (of_all r.others) (of r.datum)) (of_all ds) (sym (of_last r.others r.datum) ∙ ap of_all (sym r.are))
    (f r.others r.datum r.rest r.last)
