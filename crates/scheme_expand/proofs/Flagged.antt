-- Variables that are assigned: those that are bound, and those of the library, by the flags of their words.
use Rattle.std.proofs.Common.{Bor, ℕ, zero, suc, ◌≡◌, ◌<◌, ◌≤◌, List, [], ◌∷◌, Bool, true, false, ◌||◌, length, nat_lt, slice_get, slice_set, get_or, Some, None, ◌⊎◌, inl, inr, refl, sym, ap, ap₂, subst, ◌∙◌, arith, lt-ltb}
use Rattle.std.proofs.Math.Bool.{or-false, or-true}
use Rattle.std.proofs.lemmas.Bool.{cases_Bool}
use Rattle.std.proofs.lemmas.Option.{slice_get_cases}
use Rattle.std.proofs.lemmas.Slice.Eq.{bytes_eq-Decides}
use Rattle.std.specs.Str.{bytes_eq}
use Rattle.scheme_expand.specs.declared.expander.Expander.{Expander}
use Rattle.scheme_expand.specs.declared.make.Maker.{Maker}
use Rattle.scheme_expand.specs.Programs.{changed}
use Rattle.scheme_expand.specs.Rewriting.{has_name}
use Rattle.scheme_expand.specs.Viewed.{AreFree, AreWords, IsMade, IsScope, IsView, Leaves}
use Rattle.scheme_expand.specs.Views.{Context, View, Bound, marked, noting, raised}
use Rattle.scheme_expand.proofs.Coming.{Remade, Rescoped, leaves_as, made_rescoped, rescoped}
use Rattle.scheme_expand.proofs.Noting.{length-marked, marked_named, marked_none, noting_alike, noting_none, raised_named, raised_none, same_view, view_of}
use Rattle.draft_form.specs.declared.draft.Variable.{Variable}
use Rattle.draft_form.specs.declared.draft.Variable.TheVariants as variable
use Rattle.draft_form.specs.Drafts.{Local, Library, Part, Changed}
use Rattle.draft_form.specs.Drawn.{Names, name_of, name_or_none, word_name}

-- One of the library's variables

abbrev change_of : List ℕ → List Part
change_of y = Changed (Library y) ∷ []

-- a name that is not changed keeps its flag
other_flag : (x y : List ℕ) (f : Bool) → (x ≡ y → ⊥) → (f || has_name (changed (change_of y)) x) ≡ f
other_flag x y f differ = decided (cases_Bool (bytes_eq x y))
  where
    decided : (bytes_eq x y ≡ true) ⊎ (bytes_eq x y ≡ false) → (f || has_name (changed (change_of y)) x) ≡ f
    decided (inl same) = absurd (differ ((bytes_eq-Decides x y).0 same))
    decided (inr e) = ap (λ b. f || (b || false)) e ∙ or-false f

this_flag : (x y : List ℕ) (f : Bool) → x ≡ y → (f || has_name (changed (change_of y)) x) ≡ true
this_flag x y f e = ap (λ b. f || (b || false)) ((bytes_eq-Decides x y).1 e) ∙ or-true f

-- no name is this one
unmarked : (y : List ℕ) (xs : Names) (fs : List Bool)
    → ((v : ℕ) (b : Bor (List ℕ)) → slice_get xs v ≡ Some b → b.now ≡ y → ⊥) → marked (change_of y) xs fs ≡ fs
unmarked y [] fs none = refl
unmarked y (x ∷ xs) [] none = refl
unmarked y (x ∷ xs) (f ∷ fs) none =
    ap₂ (λ g gs. g ∷ gs) (other_flag x.now y f (none zero x refl)) (unmarked y xs fs (λ v b. none (suc v) b))

-- the flag of the one word of a name
flag_set : (y : List ℕ) (xs : Names) (fs : List Bool) (w : ℕ)
    → ((v : ℕ) (b : Bor (List ℕ)) → slice_get xs v ≡ Some b → b.now ≡ y → v ≡ w)
    → (w < length xs → word_name xs w ≡ y) → length fs ≡ length xs → marked (change_of y) xs fs ≡ slice_set fs w true
flag_set y [] [] w only here e = refl
flag_set y [] (f ∷ fs) w only here e = absurd (omega (arith, e))
flag_set y (x ∷ xs) [] w only here e = absurd (omega (arith, e))
flag_set y (x ∷ xs) (f ∷ fs) zero only here e =
    ap₂ (λ g gs. g ∷ gs) (this_flag x.now y f (here (omega arith)))
    (unmarked y xs fs (λ v b p q. let no_more : suc v ≡ zero = only (suc v) b p q in omega arith))
flag_set y (x ∷ xs) (f ∷ fs) (suc w) only here e =
    ap₂ (λ g gs. g ∷ gs) (other_flag x.now y f (λ q. let first : zero ≡ suc w = only zero x refl q in omega arith))
    (flag_set y xs fs w (λ v b p q. let next : suc v ≡ suc w = only (suc v) b p q in omega arith)
    (λ h. here (omega (arith, h))) (omega (arith, e)))

marks_word : (names : Names) (fs : List Bool) (w : ℕ) → AreWords names → length fs ≡ length names
    → marked (change_of (word_name names w)) names fs ≡ slice_set fs w true
marks_word names fs w words e =
    flag_set (word_name names w) names fs w
    (λ v b p q. words.distinct v w (within v b p (slice_get_cases names v).1) (ap name_or_none p ∙ q)) (λ h. refl) e
  where
    within : (v : ℕ) (b : Bor (List ℕ)) → slice_get names v ≡ Some b
        → ((x : Bor (List ℕ)) × (v < length names) × (slice_get names v ≡ Some x) × (get_or names v x ≡ x))
        ⊎ ((length names ≤ v) × (slice_get names v ≡ None))
        → nat_lt v (length names) ≡ true
    within v b p (inl there) = lt-ltb v (length names) there.1
    within v b p (inr past) = let none : slice_get names v ≡ None = past.1 in absurd (cc)

made_with : (c : Context) (m n : Maker) (v : View) (bs : List Bound) (fs : List Bool) → v.bound ≡ bs → n ≡ m
    → IsMade c m v → IsMade c n (view_of v.made bs fs)
made_with c m n v bs fs e f i =
    let P : List Bound → Type 0 = λ cs. IsScope c.names n.scope cs in
    let Q : Maker → Type 0 = λ o. IsScope c.names o.scope v.bound in
    let again = made_rescoped c m n v bs i
    (record { made = ap (λ o. o.made) f; drafts = ap (λ o. o.drafts) f; helpers = ap (λ o. o.helpers) f })
    (subst P e (subst Q (sym f) i.scope)) in
    record { words = again.words; scope = again.scope; made = again.made; helpers = again.helpers }

-- a variable of the library is changed
pub library_noted : (c : Context) (a z : Expander) (v : View) (word : ℕ) → IsView c a v → z.source ≡ a.source
    → z.library ≡ a.library → z.maker ≡ a.maker → z.steps ≡ a.steps
    → z.changed.items ≡ slice_set a.changed.items word true
    → Leaves c a z (noting c (change_of (word_name c.names word)) v)
library_noted c a z v word i source library maker steps flags =
    let ps : List Part = change_of (word_name c.names word) in
    let same : raised ps v.bound ≡ v.bound = raised_named ps [] v.bound (λ k n. refl) ∙ raised_none v.bound in
    record {
      steps = ap (λ l. l.items) steps;
      view = record {
        fits = i.fits;
        source = source ∙ i.source;
        library = subst (λ l. AreFree c.names c.side l.now) (sym library) i.library;
        flags = flags ∙ (ap (λ fs. slice_set fs word true) i.flags ∙ sym (marks_word c.names v.flags word i.made.words i.size));
        size = length-marked ps c.names v.flags i.size;
        made = made_with c a.maker z.maker v (raised ps v.bound) (marked ps c.names v.flags) (sym same) maker i.made;
      };
    }

-- Variables that are bound

-- a variable that is bound is assigned
pub local_noted : (c : Context) (a z : Expander) (v : View) (level : ℕ) (y : List ℕ) → IsView c a v → Remade a z
    → Rescoped a.maker z.maker → z.steps ≡ a.steps
    → IsScope c.names z.maker.scope (raised (Changed (Local level y) ∷ []) v.bound)
    → Leaves c a z (noting c (Changed (Local level y) ∷ []) v)
local_noted c a z v level y i remade rest steps scope =
    let ps : List Part = Changed (Local level y) ∷ [] in
    leaves_as c a z (view_of v.made (raised ps v.bound) v.flags) (noting c ps v)
    (same_view (view_of v.made (raised ps v.bound) v.flags) (noting c ps v) refl refl
    (sym (marked_named ps [] c.names v.flags (λ x. refl) ∙ marked_none c.names v.flags)))
    (record { steps = ap (λ l. l.items) steps; view = rescoped c a z v (raised ps v.bound) i remade rest scope })

-- Other variables

-- nothing is noted of a variable that is neither bound nor the library's
pub none_noted : (c : Context) (x : Variable) (v : View) → ((level word : ℕ) → x ≡ variable.Local level word → ⊥)
    → ((word : ℕ) → x ≡ variable.Library word → ⊥) → v ≡ noting c (Changed (name_of c.names x) ∷ []) v
none_noted c (variable.Local k w) v not_local not_library = absurd (not_local k w refl)
none_noted c (variable.Library w) v not_local not_library = absurd (not_library w refl)
none_noted c (variable.Fresh k) v not_local not_library =
    sym
    (noting_alike c (Changed (name_of c.names (variable.Fresh k)) ∷ []) [] v (record { levels = λ k n. refl; names = λ x. refl })
    ∙ noting_none c v)
none_noted c (variable.Top w) v not_local not_library =
    sym
    (noting_alike c (Changed (name_of c.names (variable.Top w)) ∷ []) [] v (record { levels = λ k n. refl; names = λ x. refl })
    ∙ noting_none c v)
