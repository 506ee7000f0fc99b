-- The literals that are added are those of the constants, in order.
use Rattle.std.proofs.Common.{◌≡◌, ℕ, zero, suc, ◌+◌, ◌<◌, ◌≤◌, List, [], ◌∷◌, ◌++◌, length, take, get_or, Option, Some, None, Result, Ok, Err, OnOk, refl, sym, ap, subst, ◌∙◌, arith, append_assoc, length-append, append-nil}
use Rattle.std.specs.Prelude.{slice_get, slice_set, map}
use Rattle.std.specs.Borrow.{Bor}
use Rattle.std.proofs.lemmas.List.{take_more}
use Rattle.scheme_base.specs.declared.lit.Lit.{Lit}
use Rattle.scheme_base.specs.declared.lit.Lit.TheVariants as lit
use Rattle.scheme_base.specs.Constants.{Constant, Constant as constant}
use Rattle.datum_form.specs.declared.datums.Kind.TheVariants as kind
use Rattle.datum_form.specs.declared.datums.Node.{Node}
use Rattle.datum_form.specs.Data.{Datum, Datum as datum, Items}
use Rattle.datum_form.specs.Data.Items.{none, item}
use Rattle.datum_form.specs.Stands.{Stands, StandAll}
use Rattle.draft_form.specs.declared.draft.Constant.{Constant as Held}
use Rattle.draft_form.specs.Drawn.{word_name}
use Rattle.draft_form.specs.Numbers.{size, sizes, numbers_from, laid, all_laid}
use Rattle.draft_form.specs.Quoted.{constant_of, constant_list, constants, symbols_before, Adds, AddsDatum, AddsList, AddsRow, AddsRest, AddsHeld, IsHeldWith, IsLeaf, IsTail, IsRest, Leads}
use Rattle.draft_form.proofs.Laying.{laid-length, all_laid-length}
use Rattle.draft_form.proofs.Ends.{set_last}

pub on_ok3 : {T E : Type 0} (r : Result T E) {P Q R S : Type 0} → (P → Q → R → S) → OnOk r P → OnOk r Q → OnOk r R → OnOk r S
on_ok3 (Ok x) f h k m = f h k m
on_ok3 (Err e) f h k m = h

pub on_ok : {T E : Type 0} (r : Result T E) {P Q : Type 0} → (P → Q) → OnOk r P → OnOk r Q
on_ok (Ok x) f h = f h
on_ok (Err e) f h = h

taken_more : (xs : List ℕ) (i x : ℕ) → i < length xs → x ≡ get_or xs i 0 → take (i + 1) xs ≡ take i xs ++ x ∷ []
taken_more xs i x within is = take_more xs i 0 within ∙ ap (λ y. take i xs ++ y ∷ []) (sym is)

pub taken_all : {A : Type 0} (xs : List A) (i : ℕ) → length xs ≤ i → take i xs ≡ xs
taken_all [] zero h = refl
taken_all [] (suc i) h = refl
taken_all (x ∷ xs) zero h = absurd (omega (arith, h))
taken_all (x ∷ xs) (suc i) h = ap (λ l. x ∷ l) (taken_all xs i (omega (arith, h)))

-- Items

abbrev behind : Items → Datum → Items
behind none d = item d none
behind (item e es) d = item e (behind es d)

all_behind : (nodes : List Node) (ids : List ℕ) (is : Items) (id : ℕ) (d : Datum) → StandAll nodes ids is → Stands nodes id d
    → StandAll nodes (ids ++ id ∷ []) (behind is d)
all_behind nodes ids none id d h k = (id, [], ap (λ l. l ++ id ∷ []) h, k, refl)
all_behind nodes ids (item e es) id d h k =
    (h.0, h.1 ++ id ∷ [], ap (λ l. l ++ id ∷ []) h.2, h.3, all_behind nodes h.1 es id d h.4 k)

more_stand : (nodes : List Node) (ids : List ℕ) (i id : ℕ) (is : Items) (d : Datum) → i < length ids → id ≡ get_or ids i 0
    → StandAll nodes (take i ids) is → Stands nodes id d → StandAll nodes (take (i + 1) ids) (behind is d)
more_stand nodes ids i id is d within at h k =
    let P : List ℕ → Type 0 = λ l. StandAll nodes l (behind is d) in
    subst P (sym (taken_more ids i id within at)) (all_behind nodes (take i ids) is id d h k)

all_stand : (nodes : List Node) (ids : List ℕ) (i : ℕ) (is : Items) → length ids ≤ i → StandAll nodes (take i ids) is
    → StandAll nodes ids is
all_stand nodes ids i is past h = let P : List ℕ → Type 0 = λ l. StandAll nodes l is in subst P (taken_all ids i past) h

list_behind : (is : Items) (d : Datum) (t : Constant) → constant_list (behind is d) t ≡ constant_list is (constant.Pair (constant_of d) t)
list_behind none d t = refl
list_behind (item e es) d t = ap (λ c. constant.Pair (constant_of e) c) (list_behind es d t)

no_more : (i : ℕ) → i ≡ i + 0
no_more i = omega arith

sum : (i n m : ℕ) → (i + n) + m ≡ i + (n + m)
sum i n m = omega arith

laid_behind : (i : ℕ) (is : Items) (d : Datum)
    → all_laid i (constants (behind is d)) ≡ all_laid i (constants is) ++ laid (i + sizes (constants is)) (constant_of d)
laid_behind i none d = append-nil (laid i (constant_of d)) ∙ ap (λ k. laid k (constant_of d)) (no_more i)
laid_behind i (item e es) d =
    let n : ℕ = size (constant_of e) in
    let m : ℕ = sizes (constants es) in
    ap (λ ls. laid i (constant_of e) ++ ls)
    (laid_behind (i + n) es d
    ∙ ap (λ k. all_laid (i + n) (constants es) ++ laid k (constant_of d)) (sum i n m))
    ∙ sym (append_assoc (laid i (constant_of e)) (all_laid (i + n) (constants es)) (laid (i + (n + m)) (constant_of d)))

numbers_behind : (i : ℕ) (is : Items) (d : Datum)
    → numbers_from i (constants (behind is d)) ≡ numbers_from i (constants is) ++ (i + sizes (constants is)) ∷ []
numbers_behind i none d = ap (λ k. k ∷ []) (no_more i)
numbers_behind i (item e es) d =
    let n : ℕ = size (constant_of e) in
    let m : ℕ = sizes (constants es) in
    ap (λ ls. i ∷ ls)
    (numbers_behind (i + n) es d ∙ ap (λ k. numbers_from (i + n) (constants es) ++ k ∷ []) (sum i n m))

-- Data

pub leaf_added : (nodes : List Node) (id : ℕ) (node : Node) (lits after : List Lit) (l : Lit) → slice_get nodes id ≡ Some node
    → IsLeaf node.kind l → after ≡ lits ++ l ∷ [] → AddsDatum nodes id lits after
leaf_added nodes id node lits after l got leaf e = (
  datum.Atomic node.pos leaf.0,
  got ∙ ap (λ k. Some (record { kind = k; pos = node.pos })) leaf.1,
  e ∙ ap (λ ls. lits ++ ls) (sym (leaf.2 (length lits))),
)

pub leaf_held : (symbols : Constant) (nodes : List Node) (h k : Held) (c : Constant) (l : Lit) (before after : List Lit) → h ≡ k
    → IsHeldWith symbols nodes k c → ((i : ℕ) → laid i c ≡ l ∷ []) → after ≡ before ++ l ∷ []
    → AddsHeld symbols nodes h before after
leaf_held symbols nodes h k c l before after e is_held leaf f =
    let P : Held → Type 0 = λ x. IsHeldWith symbols nodes x c in
    (c, subst P (sym e) is_held, f ∙ ap (λ ls. before ++ ls) (sym (leaf (length before))))

pub list_added : (nodes : List Node) (id : ℕ) (node : Node) (ids : List ℕ) (tail : Option ℕ) (lits after : List Lit)
    → slice_get nodes id ≡ Some node → node.kind ≡ kind.List ids tail → AddsList nodes ids tail lits after
    → AddsDatum nodes id lits after
list_added nodes id node ids None lits after got k h =
    let P : Constant → Type 0 = λ t. Adds (constant_list h.0 t) lits after in (
      datum.List node.pos h.0,
      (ids, got ∙ ap (λ k. Some (record { kind = k; pos = node.pos })) k, h.2),
      subst P h.3 h.4,
    )
list_added nodes id node ids (Some tail) lits after got k h =
    let P : Constant → Type 0 = λ t. Adds (constant_list h.0 t) lits after in (
      datum.Dotted node.pos h.0 h.3.0,
      (ids, tail, got ∙ ap (λ k. Some (record { kind = k; pos = node.pos })) k, h.2, h.3.1),
      subst P h.3.2 h.4,
    )

pub row_added : (nodes : List Node) (id : ℕ) (node : Node) (ids : List ℕ) (lits after : List Lit)
    → slice_get nodes id ≡ Some node → node.kind ≡ kind.Vector ids → AddsRow nodes ids lits after
    → AddsDatum nodes id lits after
row_added nodes id node ids lits after got k h =
    (datum.Vector node.pos h.0, (ids, got ∙ ap (λ k. Some (record { kind = k; pos = node.pos })) k, h.1), h.2)

-- the rest of a list or a vector
pub rest_added : (nodes : List Node) (id from : ℕ) (node : Node) (ids rest : List ℕ) (tail : Option ℕ) (lits after : List Lit)
    → slice_get nodes id ≡ Some node
    → ((is : Items) (t : Constant) → StandAll nodes rest is → IsTail nodes tail t → IsRest nodes from node.kind (constant_list is t))
    → AddsList nodes rest tail lits after → AddsRest nodes id from lits after
rest_added nodes id from node ids rest tail lits after got is_rest h =
    (constant_list h.0 h.1, (node, got, is_rest h.0 h.1 h.2 h.3), h.4)

-- Lists

pair_added : (lits pushed more after : List Lit) (pair : ℕ) (c : Constant) → pair ≡ length lits
    → pushed ≡ lits ++ lit.Nil ∷ [] → Adds c pushed more
    → after ≡ slice_set more pair (lit.Pair (suc pair) (length more))
    → (t : Constant) → lits ++ laid (length lits) (constant.Pair c t) ≡ after ++ laid (length after) t
pair_added lits pushed more after pair c n e adds f t =
    let i : ℕ = length lits in
    let first : List Lit = laid (suc i) c in
    let count : length pushed ≡ suc i = omega (arith, ap (λ ls. length ls) e, length-append lits (lit.Nil ∷ [])) in
    let whole : more ≡ lits ++ lit.Nil ∷ first =
    adds ∙ (ap (λ k. pushed ++ laid k c) count
    ∙ (ap (λ ls. ls ++ first) e ∙ append_assoc lits (lit.Nil ∷ []) first)) in
    let end : length more ≡ suc i + size c =
    omega (arith, ap (λ ls. length ls) whole, length-append lits (lit.Nil ∷ first), laid-length (suc i) c) in
    let p : Lit = lit.Pair (suc i) (suc i + size c) in
    let g : after ≡ lits ++ p ∷ first =
    f ∙ (ap (λ k. slice_set more k (lit.Pair (suc k) (length more))) n
    ∙ (ap (λ k. slice_set more i (lit.Pair (suc i) k)) end
    ∙ (ap (λ ls. slice_set ls i p) whole ∙ set_last lits lit.Nil p first))) in
    let last : length after ≡ suc i + size c =
    omega (arith, ap (λ ls. length ls) g, length-append lits (p ∷ first), laid-length (suc i) c) in
    sym
    (ap (λ ls. ls ++ laid (length after) t) g
    ∙ (ap (λ k. (lits ++ p ∷ first) ++ laid k t) last ∙ append_assoc lits (p ∷ first) (laid (suc i + size c) t)))

pub list_begins : (nodes : List Node) (ids : List ℕ) (lits : List Lit)
    → (is : Items) × StandAll nodes (take 0 ids) is × Leads is lits lits
list_begins nodes ids lits = (none, refl, λ t. refl)

pub list_goes_on : (nodes : List Node) (ids : List ℕ) (i id pair : ℕ) (is : Items) (before lits pushed more after : List Lit)
    → i < length ids → id ≡ get_or ids i 0 → pair ≡ length lits → pushed ≡ lits ++ lit.Nil ∷ []
    → AddsDatum nodes id pushed more → after ≡ slice_set more pair (lit.Pair (suc pair) (length more))
    → StandAll nodes (take i ids) is → Leads is before lits
    → (js : Items) × StandAll nodes (take (i + 1) ids) js × Leads js before after
list_goes_on nodes ids i id pair is before lits pushed more after within at n e adds f h leads =
    let d : Datum = adds.0 in (
      behind is d,
      more_stand nodes ids i id is d within at h adds.1,
      λ t. ap (λ c. before ++ laid (length before) c) (list_behind is d t)
          ∙ (leads (constant.Pair (constant_of d) t) ∙ pair_added lits pushed more after pair (constant_of d) n e adds.2 f t),
    )

list_ends : (nodes : List Node) (ids : List ℕ) (i : ℕ) (is : Items) (tail : Option ℕ) (t : Constant) (before lits after : List Lit)
    → length ids ≤ i → StandAll nodes (take i ids) is → Leads is before lits → IsTail nodes tail t → Adds t lits after
    → AddsList nodes ids tail before after
list_ends nodes ids i is tail t before lits after past h leads k adds =
    (is, t, all_stand nodes ids i is past h, k, adds ∙ sym (leads t))

pub tail_ends : (nodes : List Node) (ids : List ℕ) (i : ℕ) (is : Items) (tail : Option ℕ) (id : ℕ) (before lits after : List Lit)
    → length ids ≤ i → tail ≡ Some id → StandAll nodes (take i ids) is → Leads is before lits → AddsDatum nodes id lits after
    → AddsList nodes ids tail before after
tail_ends nodes ids i is tail id before lits after past e h leads adds =
    let P : Option ℕ → Type 0 = λ o. IsTail nodes o (constant_of adds.0) in
    list_ends nodes ids i is tail (constant_of adds.0) before lits after past h leads (subst P (sym e) (adds.0, adds.1, refl)) adds.2

pub no_tail_ends : (nodes : List Node) (ids : List ℕ) (i : ℕ) (is : Items) (tail : Option ℕ) (before lits after : List Lit)
    → length ids ≤ i → tail ≡ None → StandAll nodes (take i ids) is → Leads is before lits → after ≡ lits ++ lit.Nil ∷ []
    → AddsList nodes ids tail before after
no_tail_ends nodes ids i is tail before lits after past e h leads adds =
    let P : Option ℕ → Type 0 = λ o. IsTail nodes o constant.Nil in
    list_ends nodes ids i is tail constant.Nil before lits after past h leads (subst P (sym e) refl) adds

-- Vectors

pub row_goes_on : (nodes : List Node) (ids : List ℕ) (i id number : ℕ) (is : Items) (before lits more : List Lit) (numbers after : List ℕ)
    → i < length ids → id ≡ get_or ids i 0 → number ≡ length lits → after ≡ numbers ++ number ∷ [] → AddsDatum nodes id lits more
    → StandAll nodes (take i ids) is → numbers ≡ numbers_from (suc (length before)) (constants is)
    → lits ≡ before ++ lit.Nil ∷ all_laid (suc (length before)) (constants is)
    → (js : Items) × StandAll nodes (take (i + 1) ids) js × (after ≡ numbers_from (suc (length before)) (constants js))
    × (more ≡ before ++ lit.Nil ∷ all_laid (suc (length before)) (constants js))
row_goes_on nodes ids i id number is before lits more numbers after within at n e adds h f g =
    let d : Datum = adds.0 in
    let k : ℕ = suc (length before) in
    let first : List Lit = all_laid k (constants is) in
    let end : length lits ≡ k + sizes (constants is) =
    omega (arith, ap (λ ls. length ls) g, length-append before (lit.Nil ∷ first), all_laid-length k (constants is)) in
    let next : List Lit = laid (k + sizes (constants is)) (constant_of d) in (
      behind is d,
      more_stand nodes ids i id is d within at h adds.1,
      e ∙ (ap (λ m. numbers ++ m ∷ []) (n ∙ end)
          ∙ (ap (λ ns. ns ++ (k + sizes (constants is)) ∷ []) f ∙ sym (numbers_behind k is d))),
      adds.2 ∙ (ap (λ m. lits ++ laid m (constant_of d)) end
          ∙ (ap (λ ls. ls ++ next) g ∙ (append_assoc before (lit.Nil ∷ first) next
          ∙ ap (λ ls. before ++ lit.Nil ∷ ls) (sym (laid_behind k is d))))),
    )

pub row_ends : (nodes : List Node) (ids : List ℕ) (i vector : ℕ) (is : Items) (before lits after : List Lit) (numbers : List ℕ)
    → length ids ≤ i → vector ≡ length before → StandAll nodes (take i ids) is
    → numbers ≡ numbers_from (suc (length before)) (constants is)
    → lits ≡ before ++ lit.Nil ∷ all_laid (suc (length before)) (constants is)
    → after ≡ slice_set lits vector (lit.Vector numbers) → AddsRow nodes ids before after
row_ends nodes ids i vector is before lits after numbers past n h f g set =
    let k : ℕ = suc (length before) in
    let v : Lit = lit.Vector (numbers_from k (constants is)) in (
      is,
      all_stand nodes ids i is past h,
      set ∙ (ap (λ m. slice_set lits m (lit.Vector numbers)) n
          ∙ (ap (λ ns. slice_set lits (length before) (lit.Vector ns)) f
          ∙ (ap (λ ls. slice_set ls (length before) v) g ∙ set_last before lit.Nil v (all_laid k (constants is))))),
    )

-- The list of symbols

symbols_behind : (xs : List (List ℕ)) (x : List ℕ) (t : Constant)
    → symbols_before (xs ++ x ∷ []) t ≡ symbols_before xs (constant.Pair (constant.Symbol x) t)
symbols_behind [] x t = refl
symbols_behind (y ∷ ys) x t = ap (λ c. constant.Pair (constant.Symbol y) c) (symbols_behind ys x t)

named_behind : (names : List (Bor (List ℕ))) (ws : List ℕ) (w : ℕ)
    → map (word_name names) (ws ++ w ∷ []) ≡ map (word_name names) ws ++ word_name names w ∷ []
named_behind names [] w = refl
named_behind names (v ∷ ws) w = ap (λ xs. word_name names v ∷ xs) (named_behind names ws w)

-- with a constant behind these literals, there is the list of the symbols of some words before it
abbrev pub LeadSymbols : List (Bor (List ℕ)) → List ℕ → (before after : List Lit) → Type 0
LeadSymbols names ws before after =
    (t : Constant) → before ++ laid (length before) (symbols_before (map (word_name names) ws) t) ≡ after ++ laid (length after) t

pub symbols_begin : (names : List (Bor (List ℕ))) (ws : List ℕ) (lits : List Lit) → LeadSymbols names (take 0 ws) lits lits
symbols_begin names ws lits t = refl

pub row_begins : (nodes : List Node) (ids : List ℕ) (numbers : List ℕ) (before pushed : List Lit) → numbers ≡ []
    → pushed ≡ before ++ lit.Nil ∷ []
    → (is : Items) × StandAll nodes (take 0 ids) is × (numbers ≡ numbers_from (suc (length before)) (constants is))
    × (pushed ≡ before ++ lit.Nil ∷ all_laid (suc (length before)) (constants is))
row_begins nodes ids numbers before pushed e f = (none, refl, e, f)

pub symbols_go_on : (names : List (Bor (List ℕ))) (ws : List ℕ) (i w pair : ℕ) (x : List ℕ) (before lits pushed more after : List Lit)
    → i < length ws → w ≡ get_or ws i 0 → x ≡ word_name names w → pair ≡ length lits → pushed ≡ lits ++ lit.Nil ∷ []
    → more ≡ pushed ++ lit.Symbol x ∷ [] → after ≡ slice_set more pair (lit.Pair (suc pair) (length more))
    → LeadSymbols names (take i ws) before lits → LeadSymbols names (take (i + 1) ws) before after
symbols_go_on names ws i w pair x before lits pushed more after within at named n e adds f leads t =
    let s : List (List ℕ) = map (word_name names) (take i ws) in
    let more_names : map (word_name names) (take (i + 1) ws) ≡ s ++ x ∷ [] =
    ap (map (word_name names)) (taken_more ws i w within at)
    ∙ (named_behind names (take i ws) w ∙ ap (λ y. s ++ y ∷ []) (sym named)) in
    ap (λ xs. before ++ laid (length before) (symbols_before xs t)) more_names
    ∙ (ap (λ c. before ++ laid (length before) c) (symbols_behind s x t)
    ∙ (leads (constant.Pair (constant.Symbol x) t) ∙ pair_added lits pushed more after pair (constant.Symbol x) n e adds f t))

pub symbols_end : (names : List (Bor (List ℕ))) (ws : List ℕ) (i : ℕ) (before lits after : List Lit) → length ws ≤ i
    → LeadSymbols names (take i ws) before lits → after ≡ lits ++ lit.Nil ∷ []
    → Adds (symbols_before (map (word_name names) ws) constant.Nil) before after
symbols_end names ws i before lits after past leads e =
    e ∙ (sym (leads constant.Nil)
    ∙ ap (λ vs. before ++ laid (length before) (symbols_before (map (word_name names) vs) constant.Nil)) (taken_all ws i past))
