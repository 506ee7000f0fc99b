-- What calls of a name are, by its number.
use Rattle.std.proofs.Common.{ℕ, zero, suc, ◌≡◌, ◌+◌, ◌-◌, ◌<◌, ◌≤◌, List, [], ◌∷◌, ◌++◌, map, length, get_or, Option, Some, None, Bool, true, false, MatchOption, option_map, nat_eq, eqb-true, refl, sym, ap, ◌∙◌, append_assoc, length-append, arith}
use Rattle.std.specs.Prelude.{slice_get, if◌then◌else◌}
use Rattle.std.specs.Str.{bytes_eq}
use Rattle.std.proofs.lemmas.Bool.Decides.{nat_tests}
use Rattle.std.proofs.lemmas.Option.{slice_get-get_or, slice_get-map}
use Rattle.std.proofs.lemmas.Slice.Eq.{bytes_eq-Decides}
use Rattle.scheme_base.specs.declared.op.Op.{Op}
use Rattle.scheme_base.specs.declared.op.TheConstants.{OPERATIONS}
use Rattle.scheme_base.specs.Operands.{name_of}
use Rattle.scheme_base.specs.declared.pos.Pos.{Pos}
use Rattle.draft_form.specs.Drafts.{Draft, Drafts}
use Rattle.draft_form.proofs.Building.{get_append}
use Rattle.draft_form.proofs.Ends.{got_last}
use Rattle.scheme_expand.specs.declared.words.Known.{Known}
use Rattle.scheme_expand.specs.declared.words.Known.TheVariants as known
use Rattle.scheme_expand.specs.Calls.{integrated}
use Rattle.scheme_expand.specs.KnownNames.{Entry, library_table, operation_table, known_table, entry_names, call_from, call_at}
use Rattle.scheme_expand.specs.Making.{known_draft}
use Rattle.scheme_expand.specs.Naming.{AreDistinct, IsTable, keyword_names}

-- what the call of a name is by the first entry that has the name
abbrev called_by : Pos → ℕ → List ℕ → Drafts → List Entry → Option Draft
called_by p k x es [] = None
called_by p k x es (e ∷ entries) = if bytes_eq x e.0 then known_draft p k e.1 es else called_by p k x es entries

as_listed : (p : Pos) (k : ℕ) (x : List ℕ) (es : Drafts) → integrated p k x es ≡ called_by p k x es known_table
as_listed p k x es = refl

abbrev drafted : Pos → ℕ → Drafts → Option Known → Option Draft
drafted p k es None = None
drafted p k es (Some known) = known_draft p k known es

same_name : (x : List ℕ) → bytes_eq x x ≡ true
same_name x = (bytes_eq-Decides x x).1 refl

longer : (xs : List (List ℕ)) (m : ℕ) (y : List ℕ) → m ≡ length xs → suc m ≡ length (xs ++ y ∷ [])
longer xs m y h = omega (arith, length-append xs (y ∷ []), h)

-- a name of some whose number is looked up, beside the one of this number
module _ (p : Pos) (k : ℕ) (x : List ℕ) (es : Drafts) (names : List (List ℕ)) (w : ℕ) (distinct : AreDistinct names)
    (named : slice_get names w ≡ Some x) where
  one_called : (e : Entry) (t : List Entry) (n : ℕ) → slice_get names n ≡ Some e.0 → (b : Bool) → bytes_eq x e.0 ≡ b
      → (c : Bool) → nat_eq w n ≡ c → called_by p k x es t ≡ drafted p k es (call_from (suc n) t w)
      → (if b then known_draft p k e.1 es else called_by p k x es t)
      ≡ drafted p k es (if c then Some e.1 else call_from (suc n) t w)
  one_called e t n here true is true at rest = refl
  one_called e t n here true is false at rest =
      let same : x ≡ e.0 = (bytes_eq-Decides x e.0).0 is in
      let there : slice_get names n ≡ Some x = here ∙ ap (λ y. Some y) (sym same) in
      absurd (let number : w ≡ n = distinct w n x named there in let not : nat_eq w n ≡ true = grind (arith, nat_tests) in cc)
  one_called e t n here false is true at rest =
      let number : w ≡ n = eqb-true w n at in
      let same : Some x ≡ Some e.0 = sym named ∙ (ap (slice_get names) number ∙ here) in
      let equal : x ≡ e.0 = cc in
      absurd (let not : bytes_eq x e.0 ≡ true = (bytes_eq-Decides x e.0).1 equal in cc)
  one_called e t n here false is false at rest = rest

  called_at : (before : List (List ℕ)) (t : List Entry) (more : List (List ℕ)) (n : ℕ)
      → names ≡ before ++ (entry_names t ++ more) → n ≡ length before
      → called_by p k x es t ≡ drafted p k es (call_from n t w)
  called_at before [] more n are long = refl
  called_at before (e ∷ t) more n are long =
      let there : slice_get names n ≡ Some e.0 =
      ap (λ xs. slice_get xs n) are
      ∙ (ap (slice_get (before ++ e.0 ∷ (entry_names t ++ more))) long ∙ got_last before e.0 (entry_names t ++ more))
      in
      one_called e t n there (bytes_eq x e.0) refl (nat_eq w n) refl
      (called_at (before ++ e.0 ∷ []) t more (suc n) (are ∙ sym (append_assoc before (e.0 ∷ []) (entry_names t ++ more)))
      (longer before n e.0 long))

-- the call that a name has by its number is what its calls are
abbrev pub IsCalledAs : Option Known → Pos → ℕ → List ℕ → Drafts → Type 0
IsCalledAs found p k x es = MatchOption found (integrated p k x es ≡ None) (λ known. integrated p k x es ≡ known_draft p k known es)

called_as : (found : Option Known) (p : Pos) (k : ℕ) (x : List ℕ) (es : Drafts) → integrated p k x es ≡ drafted p k es found
    → IsCalledAs found p k x es
called_as None p k x es h = h
called_as (Some known) p k x es h = h

pub known_name : (names : List (List ℕ)) (w : ℕ) (x : List ℕ) (p : Pos) (k : ℕ) (es : Drafts) (found : Option Known) → found ≡ call_at w
    → IsTable names → slice_get names w ≡ Some x → IsCalledAs found p k x es
known_name names w x p k es found at table named =
    called_as found p k x es
    (as_listed p k x es
    ∙ (called_at p k x es names w table.distinct named keyword_names known_table table.more (length keyword_names)
    (table.begins ∙ append_assoc keyword_names (entry_names known_table) table.more) refl
    ∙ ap (drafted p k es) (sym at)))

-- The number of an entry

-- an entry whose number this is, or not
here : (b : Bool) (e : Entry) (o : Option Known) → b ≡ true → (if b then Some e.1 else o) ≡ Some e.1
here b e o h = ap (λ a. if a then Some e.1 else o) h

elsewhere : (b : Bool) (e : Entry) (o : Option Known) → b ≡ false → (if b then Some e.1 else o) ≡ o
elsewhere b e o h = ap (λ a. if a then Some e.1 else o) h

pub call_before : (n : ℕ) (t : List Entry) (w : ℕ) → w < n → call_from n t w ≡ None
call_before n [] w h = refl
call_before n (e ∷ t) w h =
    let not : nat_eq w n ≡ false = grind (arith, nat_tests) in
    elsewhere (nat_eq w n) e (call_from (suc n) t w) not ∙ call_before (suc n) t w (omega arith)

pub call_there : (n : ℕ) (t : List Entry) (i : ℕ) (e : Entry) → slice_get t i ≡ Some e → (w : ℕ) → w ≡ n + i
    → call_from n t w ≡ Some e.1
call_there n [] i e h w at = absurd (cc)
call_there n (d ∷ t) zero e h w at =
    let is : nat_eq w n ≡ true = grind (arith, nat_tests) in
    let same : d ≡ e = cc in
    here (nat_eq w n) d (call_from (suc n) t w) is ∙ ap (λ a. Some a.1) same
call_there n (d ∷ t) (suc i) e h w at =
    let not : nat_eq w n ≡ false = grind (arith, nat_tests) in
    elsewhere (nat_eq w n) d (call_from (suc n) t w) not ∙ call_there (suc n) t i e h w (omega arith)

pub call_after : (n : ℕ) (t : List Entry) (w : ℕ) → n + length t ≤ w → call_from n t w ≡ None
call_after n [] w h = refl
call_after n (e ∷ t) w h =
    let not : nat_eq w n ≡ false = grind (arith, nat_tests) in
    elsewhere (nat_eq w n) e (call_from (suc n) t w) not ∙ call_after (suc n) t w (omega arith)

-- What the tables of the code say

behind : {A : Type 0} (xs ys : List A) (n : ℕ) → slice_get (xs ++ ys) (length xs + n) ≡ slice_get ys n
behind [] ys n = ap (slice_get ys) (omega arith)
behind (x ∷ xs) ys n =
    let next : suc (length xs) + n ≡ suc (length xs + n) = omega arith in
    ap (slice_get (x ∷ (xs ++ ys))) next ∙ behind xs ys n

-- an entry of the library's table
pub call_listed : (at w : ℕ) (k : Known) → Some k ≡ slice_get (map (λ e. e.1) library_table) at → 20 ≤ w → at ≡ w - 20
    → Some k ≡ call_at w
call_listed at w k h least place =
    by_entry (slice_get library_table at) refl (h ∙ slice_get-map (λ e. e.1) library_table at)
  where
    by_entry : (o : Option Entry) → slice_get library_table at ≡ o → Some k ≡ option_map (λ e. e.1) o → Some k ≡ call_at w
    by_entry None there is = absurd (cc)
    by_entry (Some e) there is =
        is ∙ sym (call_there 20 known_table at e (get_append library_table operation_table at e there) w (omega arith))

-- each place of the library's table has a call
pub call_absent : (at : ℕ) (found : Option Known) → found ≡ slice_get (map (λ e. e.1) library_table) at → found ≡ None
    → (49 ≤ at → ⊥) → ⊥
call_absent at found is nothing few =
    let calls : List Known = map (λ e. e.1) library_table in
    let inside : at < 49 = omega (arith, few) in
    let some : slice_get calls at ≡ Some (get_or calls at known.Not) = slice_get-get_or calls at known.Not inside in
    let none_there : Some (get_or calls at known.Not) ≡ None = sym some ∙ (sym is ∙ nothing) in
    cc

pub call_named : (at w k : ℕ) (o : Op) → slice_get OPERATIONS k ≡ Some o → 20 ≤ w → at ≡ w - 20 → 49 ≤ at → k ≡ at - 49
    → Some (known.Operation o) ≡ call_at w
call_named at w k o h least place most where_ =
    let e : Entry = (name_of o, known.Operation o) in
    let there : slice_get operation_table k ≡ Some e =
    slice_get-map (λ x. (name_of x, known.Operation x)) OPERATIONS k ∙ ap (option_map (λ x. (name_of x, known.Operation x))) h
    in
    sym (call_there 20 known_table (49 + k) e (behind library_table operation_table k ∙ there) w (omega arith))

pub call_beyond : (at w k : ℕ) → 20 ≤ w → at ≡ w - 20 → 49 ≤ at → k ≡ at - 49 → 41 ≤ k → None ≡ call_at w
call_beyond at w k least place most where_ h = sym (call_after 20 known_table w (omega arith))

pub call_keyword : (w : ℕ) → (20 ≤ w → ⊥) → None ≡ call_at w
call_keyword w h = sym (call_before 20 known_table w (omega (arith, h)))
