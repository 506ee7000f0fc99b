-- Calls, known or not, from the drafts of their operators and operands.
use Rattle.std.proofs.Common.{ℕ, suc, ◌≡◌, List, [], ◌∷◌, ◌++◌, Bool, true, false, length, nat_eq, Option, Some, None, refl, sym, ap, ap₂, subst, ◌∙◌, append-nil}
use Rattle.std.specs.Prelude.{pos, if◌then◌else◌}
use Rattle.scheme_base.specs.declared.pos.Pos.{Pos}
use Rattle.scheme_base.specs.declared.op.Op.{Op}
use Rattle.scheme_base.specs.declared.op.Op.TheVariants as op
use Rattle.scheme_base.specs.Constants.{Constant, Constant as constant}
use Rattle.scheme_base.specs.Operands.{operands_of}
use Rattle.datum_form.specs.Data.{Datum}
use Rattle.draft_form.specs.Drafts.{Draft, Drafts, Fresh, Const, If, Call, Prim, none, item, Part, parts, all_parts}
use Rattle.scheme_expand.specs.declared.expander.Expander.{Expander}
use Rattle.scheme_expand.specs.declared.step.Step.{Step}
use Rattle.scheme_expand.specs.declared.step.Step.TheVariants as step
use Rattle.scheme_expand.specs.declared.words.Comparison.TheVariants as how
use Rattle.scheme_expand.specs.declared.words.Known.{Known}
use Rattle.scheme_expand.specs.declared.words.Known.TheVariants as known
use Rattle.scheme_expand.specs.Calls.{count, two, truth, negation, references, folded, difference, Comparison, Equal, Less, Greater, NotGreater, NotLess, comparison, compared, listed, Way, Sums, Differs, Compares, Lists, way, bound_first, operation, at_once, negated, symbol_call}
use Rattle.scheme_expand.specs.Grammar.{expr}
use Rattle.scheme_expand.specs.Making.{known_draft, taken, left_of, instead, called, ComesTo, IsRight}
use Rattle.scheme_expand.specs.Rewriting.{call, core}
use Rattle.scheme_expand.specs.Viewed.{IsView, Puts, Turns}
use Rattle.scheme_expand.specs.Views.{Context, View, bound_names, scope_of, height, visit, visit_all}
use Rattle.scheme_expand.specs.Waiting.{Reads}
use Rattle.scheme_expand.proofs.Coming.{one_comes, next_comes, puts_turn, turns_as}
use Rattle.scheme_expand.proofs.Noting.{Alike, alike, alike_sym, alike_twice, alike_held, alike_referred, alike_both, made_before, visit_all_is, length-raised, raised_names, standing, taken_all, left_of_all}

-- Drafts that change nothing

abbrev Still : Draft → Type 0
Still d = Alike (parts d) []

abbrev AllStill : List Draft → Type 0
AllStill [] = Unit {0}
AllStill (t ∷ ts) = Still t × AllStill ts

both_still : (ps qs : List Part) → Alike ps [] → Alike qs [] → Alike (ps ++ qs) []
both_still ps qs h k = alike_both ps [] qs [] h k

last_still : (ps : List Part) → Alike ps [] → Alike (ps ++ []) []
last_still ps h = alike_twice (ps ++ []) ps [] (alike (ps ++ []) ps (append-nil ps)) h

two_still : (p : Pos) (o : Op) (d e : Draft) → Still d → Still e → Still (Prim p o (two d e))
two_still p o d e h k = both_still (parts d) (parts e ++ []) h (last_still (parts e) k)

if_still : (p : Pos) (d e f : Draft) → Still d → Still e → Still f → Still (If p d e f)
if_still p d e f h k l = both_still (parts d) (parts e ++ parts f) h (both_still (parts e) (parts f) k l)

const_still : (p : Pos) (a : Constant) → Still (Const p a)
const_still p a = alike_held a []

negation_still : (p : Pos) (e : Draft) → Still e → Still (negation p e)
negation_still p e h =
    if_still p e (truth p false) (truth p true) h (const_still p (constant.Boolean false)) (const_still p (constant.Boolean true))

folded_still : (p : Pos) (o : Op) (e : Draft) (ts : List Draft) → Still e → AllStill ts → Still (folded p o e ts)
folded_still p o e [] h k = h
folded_still p o e (t ∷ ts) h k = folded_still p o (Prim p o (two e t)) ts (two_still p o e t h k.0) k.1

comparison_still : (p : Pos) (c : Comparison) (d e : Draft) → Still d → Still e → Still (comparison p c d e)
comparison_still p Equal d e h k = two_still p op.Equals d e h k
comparison_still p Less d e h k = two_still p op.Less d e h k
comparison_still p Greater d e h k = two_still p op.Less e d k h
comparison_still p NotGreater d e h k = negation_still p (Prim p op.Less (two e d)) (two_still p op.Less e d k h)
comparison_still p NotLess d e h k = negation_still p (Prim p op.Less (two d e)) (two_still p op.Less d e h k)

compared_still : (p : Pos) (c : Comparison) (d e : Draft) (fs : List Draft) → Still d → Still e → AllStill fs
    → Still (compared p c d e fs)
compared_still p c d e [] h k l = comparison_still p c d e h k
compared_still p c d e (f ∷ fs) h k l =
    if_still p (comparison p c d e) (compared p c e f fs) (truth p false) (comparison_still p c d e h k)
    (compared_still p c e f fs k l.0 l.1) (const_still p (constant.Boolean false))

listed_still : (p : Pos) (ts : List Draft) → AllStill ts → Still (listed p ts)
listed_still p [] h = const_still p constant.Nil
listed_still p (t ∷ ts) h = two_still p op.Cons t (listed p ts) h.0 (listed_still p ts h.1)

still_as : (e d : Draft) → Some e ≡ Some d → Still e → Still d
still_as e d h s = let same : e ≡ d = cc in let P : Draft → Type 0 = λ f. Still f in subst P same s

way_still : (p : Pos) (w : Way) (ts : List Draft) → AllStill ts → (d : Draft) → way p w ts ≡ Some d → Still d
way_still p (Sums o n) [] h d e = still_as (Const p (constant.Integer n)) d e (const_still p (constant.Integer n))
way_still p (Sums o n) (t ∷ []) h d e =
    still_as (Prim p o (two (Const p (constant.Integer n)) t)) d e
    (two_still p o (Const p (constant.Integer n)) t (const_still p (constant.Integer n)) h.0)
way_still p (Sums o n) (t ∷ u ∷ ts) h d e =
    still_as (folded p o t (u ∷ ts)) d e (folded_still p o t (u ∷ ts) h.0 h.1)
way_still p Differs [] h d e = absurd (cc)
way_still p Differs (t ∷ []) h d e =
    still_as (difference p t []) d e
    (two_still p op.Subtract (Const p (constant.Integer (pos 0))) t (const_still p (constant.Integer (pos 0))) h.0)
way_still p Differs (t ∷ u ∷ ts) h d e =
    still_as (folded p op.Subtract t (u ∷ ts)) d e (folded_still p op.Subtract t (u ∷ ts) h.0 h.1)
way_still p (Compares c) [] h d e = absurd (cc)
way_still p (Compares c) (t ∷ []) h d e = absurd (cc)
way_still p (Compares c) (t ∷ u ∷ ts) h d e =
    still_as (compared p c t u ts) d e (compared_still p c t u ts h.0 h.1.0 h.1.1)
way_still p Lists ts h d e = still_as (listed p ts) d e (listed_still p ts h)

references_still : (p : Pos) (k : ℕ) (es : Drafts) → AllStill (references p k es)
references_still p k none = tt
references_still p k (item e es) = (alike_referred (Fresh k) [], references_still p (suc k) es)

-- Known calls change what their operands change

abbrev ChangesAs : Drafts → Draft → Type 0
ChangesAs es d = Alike (all_parts es) (parts d)

changes_as : (es : Drafts) (e d : Draft) → Some e ≡ Some d → ChangesAs es e → ChangesAs es d
changes_as es e d h a = let same : e ≡ d = cc in let P : Draft → Type 0 = λ f. ChangesAs es f in subst P same a

bound_changes : (p : Pos) (k : ℕ) (es : Drafts) (x : Option Draft) → ((e : Draft) → x ≡ Some e → Still e)
    → (d : Draft) → bound_first p k es x ≡ Some d → ChangesAs es d
bound_changes p k es None h d e = absurd (cc)
bound_changes p k none (Some b) h d e = changes_as none b d e (alike_sym (parts b) [] (h b refl))
bound_changes p k (item f es) (Some b) h d e =
    let ps : List Part = all_parts (item f es) in
    changes_as (item f es) _ d e
    (alike_sym (parts b ++ ps) ps (alike_both (parts b) [] ps ps (h b refl) (alike ps ps refl)))

first_changes : (p : Pos) (k : ℕ) (w : Way) (es : Drafts) (d : Draft)
    → bound_first p k es (way p w (references p k es)) ≡ Some d → ChangesAs es d
first_changes p k w es d e =
    bound_changes p k es (way p w (references p k es)) (way_still p w (references p k es) (references_still p k es)) d e

operation_changes : (p : Pos) (o : Op) (es : Drafts) (d : Draft) → operation p o es ≡ Some d → ChangesAs es d
operation_changes p o es d e = by_test (nat_eq (count es) (length (operands_of o))) e
  where
    by_test : (b : Bool) → (if b then Some (Prim p o es) else None) ≡ Some d → ChangesAs es d
    by_test true h = changes_as es (Prim p o es) d h (alike (all_parts es) (all_parts es) refl)
    by_test false h = absurd (cc)

at_once_changes : (p : Pos) (o : Op) (es : Drafts) (other : Option Draft) (d : Draft) → (other ≡ Some d → ChangesAs es d)
    → at_once p o es other ≡ Some d → ChangesAs es d
at_once_changes p o none other d h e = h e
at_once_changes p o (item x none) other d h e = h e
at_once_changes p o (item x (item y none)) other d h e =
    let es : Drafts = two x y in changes_as es (Prim p o es) d e (alike (all_parts es) (all_parts es) refl)
at_once_changes p o (item x (item y (item z zs))) other d h e = h e

negated_changes : (p : Pos) (es : Drafts) (d : Draft) → negated p es ≡ Some d → ChangesAs es d
negated_changes p none d e = absurd (cc)
negated_changes p (item x none) d e =
    changes_as (item x none) (negation p x) d e
    (alike_both (parts x) (parts x) [] (parts (truth p false) ++ parts (truth p true)) (alike (parts x) (parts x) refl)
    (alike_sym (parts (truth p false) ++ parts (truth p true)) []
    (both_still (parts (truth p false)) (parts (truth p true)) (const_still p (constant.Boolean false)) (const_still p (constant.Boolean true)))))
negated_changes p (item x (item y ys)) d e = absurd (cc)

symbols_change : (p : Pos) (es : Drafts) (d : Draft) → symbol_call p es ≡ Some d → ChangesAs es d
symbols_change p none d e = changes_as none _ d e (record { levels = λ k n. refl; names = λ x. refl })
symbols_change p (item x xs) d e = absurd (cc)

pub known_changes : (p : Pos) (k : ℕ) (x : Known) (es : Drafts) (d : Draft) → known_draft p k x es ≡ Some d → ChangesAs es d
known_changes p k (known.Operation o) es d e = operation_changes p o es d e
known_changes p k known.Not es d e = negated_changes p es d e
known_changes p k (known.Fold o n) es d e = at_once_changes p o es _ d (first_changes p k (Sums o n) es d) e
known_changes p k known.Subtract es d e = at_once_changes p op.Subtract es _ d (first_changes p k Differs es d) e
known_changes p k (known.Compare how.Equal) es d e =
    at_once_changes p op.Equals es _ d (first_changes p k (Compares Equal) es d) e
known_changes p k (known.Compare how.Less) es d e =
    at_once_changes p op.Less es _ d (first_changes p k (Compares Less) es d) e
known_changes p k (known.Compare how.Greater) es d e = first_changes p k (Compares Greater) es d e
known_changes p k (known.Compare how.AtMost) es d e = first_changes p k (Compares NotGreater) es d e
known_changes p k (known.Compare how.AtLeast) es d e = first_changes p k (Compares NotLess) es d e
known_changes p k known.List es d e = first_changes p k Lists es d e
known_changes p k known.Symbols es d e = symbols_change p es d e

-- What calls come to

made_all : (c : Context) (es : Drafts) (v : View) → (visit_all c es v).made ≡ made_before es v.made
made_all c es v = ap (λ u. u.made) (visit_all_is c es v)

pub height_all : (c : Context) (es : Drafts) (v : View) → height (visit_all c es v) ≡ height v
height_all c es v = ap height (visit_all_is c es v) ∙ length-raised (all_parts es) v.bound

known_comes : (c : Context) (p : Pos) (x : Known) (n : ℕ) (es : Drafts) (d : Draft) (v : View) → count es ≡ n
    → known_draft p (height v) x es ≡ Some d → ComesTo c (step.Known p x n) (visit_all c es v) (visit c d v)
known_comes c p x n es d v many h =
    let u : View = visit_all c es v in (
      d,
      ap₂ (λ k ds. known_draft p k x ds) (height_all c es v)
          (ap (taken n) (made_all c es v) ∙ taken_all n es v.made (sym many))
          ∙ h,
      sym (standing c es d v (known_changes p (height v) x es d h))
          ∙ ap (λ ds. instead u ds d) (sym (ap (left_of n) (made_all c es v) ∙ left_of_all n es v.made (sym many))),
    )

call_comes : (c : Context) (p : Pos) (n : ℕ) (e : Draft) (es : Drafts) (v : View) → count es ≡ n
    → ComesTo c (step.Call p n) (visit_all c es (visit c e v)) (visit c (Call p e es) v)
call_comes c p n e es v many =
    let u : View = visit_all c es (visit c e v) in
    let before : List Draft = e ∷ v.made in
    sym (standing c (item e es) (Call p e es) v (alike (all_parts (item e es)) (all_parts (item e es)) refl))
    ∙ ap₂ (λ fs ds. called p fs u ds) (sym (ap (taken n) (made_all c es (visit c e v)) ∙ taken_all n es before (sym many)))
    (sym (ap (left_of n) (made_all c es (visit c e v)) ∙ left_of_all n es before (sym many)))

-- the operands of a call, wherever the same variables are bound
abbrev pub AreOperands : Context → Step → Drafts → View → Type 0
AreOperands c x es v = (u : View) → bound_names u.bound ≡ bound_names v.bound → ComesTo c x u (visit_all c es u)

pub known_turn : (c : Context) (a b : Expander) (p : Pos) (x : Known) (n : ℕ) (operands : Step) (d : Datum) (v : View) (es : Drafts)
    → IsView c a v → count es ≡ n → AreOperands c operands es v → Puts a b (step.Known p x n ∷ operands ∷ [])
    → (e : Draft) × (known_draft p (height v) x es ≡ Some e) × (call p (scope_of c v) (expr d) (core (expr d) (scope_of c v)) es ≡ e)
    → Turns c a b (visit c (call p (scope_of c v) (expr d) (core (expr d) (scope_of c v)) es) v)
known_turn c a b p x n operands d v es i many are put is =
    turns_as c a b (visit c is.0 v) _ (ap (λ e. visit c e v) (sym is.2))
    (puts_turn c a b v (visit c is.0 v) (step.Known p x n ∷ operands ∷ []) i put
    (next_comes c (step.Known p x n) (operands ∷ []) v (visit_all c es v) (visit c is.0 v)
    (one_comes c operands v (visit_all c es v) (are v refl)) (known_comes c p x n es is.0 v many is.1)))

pub call_turn : (c : Context) (a b : Expander) (p : Pos) (n head : ℕ) (operands : Step) (d : Datum) (v : View) (es : Drafts)
    → IsView c a v → Reads c.source head d → IsRight (expr d) → count es ≡ n → AreOperands c operands es v
    → Puts a b (step.Call p n ∷ operands ∷ step.Expr head ∷ [])
    → call p (scope_of c v) (expr d) (core (expr d) (scope_of c v)) es ≡ Call p (core (expr d) (scope_of c v)) es
    → Turns c a b (visit c (call p (scope_of c v) (expr d) (core (expr d) (scope_of c v)) es) v)
call_turn c a b p n head operands d v es i read right many are put is =
    let e : Draft = core (expr d) (scope_of c v) in
    let u : View = visit_all c es (visit c e v) in
    turns_as c a b (visit c (Call p e es) v) _ (ap (λ f. visit c f v) (sym is))
    (puts_turn c a b v (visit c (Call p e es) v) (step.Call p n ∷ operands ∷ step.Expr head ∷ []) i put
    (next_comes c (step.Call p n) (operands ∷ step.Expr head ∷ []) v u (visit c (Call p e es) v)
    (next_comes c operands (step.Expr head ∷ []) v (visit c e v) u
    (one_comes c (step.Expr head) v (visit c e v) (d, read, right, refl)) (are (visit c e v) (raised_names (parts e) v.bound)))
    (call_comes c p n e es v many)))
