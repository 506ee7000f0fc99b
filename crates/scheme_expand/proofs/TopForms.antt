-- What the expansions of a text's forms come to where nothing was made before.
--
-- `all_flags`, `all_library`: flags that all stand. `forms_drawn`: what is made is the forms' drafts. `forms_changed`: what is
-- noted of the library's variables. `own_flags`, `first_drawn`: a program's first pass. `side_ends`: the same, in the scope of a side.
use Rattle.std.proofs.Common.{ℕ, zero, suc, ◌≡◌, ◌-◌, ◌++◌, Bool, true, false, nat_lt, Some, List, [], ◌∷◌, length, map, refl, sym, ap, subst, ◌∙◌, arith, ltb-true}
use Rattle.std.specs.Prelude.{slice_get}
use Rattle.std.proofs.Math.ListN.{replicate, take}
use Rattle.std.proofs.Math.Seq.{take-nil}
use Rattle.std.proofs.lemmas.List.{length-map}
use Rattle.std.proofs.lemmas.Simd.{splat_is_map}
use Rattle.scheme_expand.specs.declared.expander.Expander.{Expander}
use Rattle.scheme_expand.specs.Forms.{Forms}
use Rattle.scheme_expand.specs.ByWord.{AreListed, Marks, flags_where, one_flag}
use Rattle.scheme_expand.specs.Programs.{Library, changed as changed_names, own_names, program_scope, public_names}
use Rattle.scheme_expand.specs.Rewriting.{Side, OfLibrary, OfProgram, form_cores}
use Rattle.scheme_expand.specs.Viewed.{AreFree, AreMade, Ends, Fits}
use Rattle.scheme_expand.specs.Views.{Context, View, empty_view, marked, scope_of, visit_all}
use Rattle.scheme_expand.proofs.DrawnInOrder.{all_drawn}
use Rattle.scheme_expand.proofs.Noting.{length-marked, scope_with, visit_all_is}
use Rattle.scheme_expand.proofs.OwnNames.{all_free, free_first, free_marked, length-flags_where, less_inside, no_own, own_marked, taken_words}
use Rattle.draft_form.specs.Drafts.{Drafts, all_parts}
use Rattle.draft_form.specs.Drawn.{Names, AllDrawn}

-- Flags

all_stand : (names : Names) (w : ℕ) → nat_lt w (length names) ≡ true → slice_get (map (λ x. true) names) w ≡ Some true
all_stand [] w h = absurd (omega (arith, ltb-true w 0 h))
all_stand (x ∷ names) zero h = refl
all_stand (x ∷ names) (suc w) h = all_stand names w (less_inside w (length names) h)

pub all_flags : (n m : ℕ) (old flags : List Bool) (names : Names) → old ≡ [] → m ≡ 0
    → flags ≡ take n old ++ replicate (n - m) true → n ≡ length names → flags ≡ map (λ x. true) names
all_flags n m old flags names empty zero_long are many =
    let left : n - m ≡ n = omega arith in
    are
    ∙ (ap (λ l. take n l ++ replicate (n - m) true) empty
    ∙ (ap (λ l. l ++ replicate (n - m) true) (take-nil n)
    ∙ (ap (λ k. replicate k true) left ∙ splat_is_map names n true (sym many))))

-- where all flags stand, a name that nothing binds is the library's
pub all_library : (names : Names) (flags : List Bool) (side : Side) → flags ≡ map (λ x. true) names → side ≡ OfLibrary
    → AreFree names side flags
all_library names flags side same library =
    let P : List Bool → Type 0 = λ fs. AreFree names OfLibrary fs in
    let Q : Side → Type 0 = λ s. AreFree names s flags in
    subst Q (sym library) (subst P (sym same) (all_free names (map (λ x. true) names) (all_stand names)))

-- Forms

-- what is made is these drafts
pub forms_drawn : (c : Context) (x : Expander) (es : Drafts) → Ends c x (visit_all c es (empty_view c.names))
    → AllDrawn c.names c.source.nodes.now x.maker.drafts x.maker.made.items es
forms_drawn c x es h =
    let P : View → Type 0 = λ v. AreMade c.names c.source.nodes.now x.maker.drafts x.maker.made.items v.made in
    all_drawn c.names c.source.nodes.now x.maker.drafts x.maker.made.items es
    (subst P (visit_all_is c es (empty_view c.names)) h.view.made.made)

-- what they change is noted
pub forms_changed : (c : Context) (x : Expander) (es : Drafts) → Ends c x (visit_all c es (empty_view c.names))
    → x.changed.items ≡ marked (all_parts es) c.names (map (λ x. false) c.names)
forms_changed c x es h = h.view.flags ∙ ap (λ v. v.flags) (visit_all_is c es (empty_view c.names))

-- the same, in the scope of a side
pub side_ends : (c : Context) (x : Expander) (fs : Forms) (side : Side) → c.side ≡ side
    → Ends c x (visit_all c (form_cores fs (scope_of c (empty_view c.names))) (empty_view c.names))
    → Ends c x (visit_all c (form_cores fs (scope_with side [])) (empty_view c.names))
side_ends c x fs side e h =
    let P : Side → Type 0 = λ s. Ends c x (visit_all c (form_cores fs (scope_with s [])) (empty_view c.names)) in
    subst P e h

-- A program

-- the same context, where a program has these variables of its own
abbrev pub with_own : Context → (public own : List (List ℕ)) → Context
with_own c public own = record { source = c.source; names = c.names; side = OfProgram public own }

pub fits_own : (c : Context) (public own : List (List ℕ)) → Fits c → Fits (with_own c public own)
fits_own c public own f = record { words = f.words; table = f.table; named = f.named }

pub first_free : (c : Context) (public : List (List ℕ)) (flags : List Bool) → c.side ≡ OfProgram public []
    → Marks c.names public flags → AreFree c.names c.side flags
first_free c public flags side marks =
    let P : Side → Type 0 = λ s. AreFree c.names s flags in subst P (sym side) (free_first c.names public flags marks)

-- the flags that a first pass leaves are those of the program's own names
pub own_flags : (c : Context) (x : Expander) (library : Library) (fs : Forms) (public own changed : List Bool)
    → Ends c x (visit_all c (form_cores fs (program_scope library [])) (empty_view c.names))
    → Marks c.names (public_names library.names) public → length public ≡ length c.names
    → AreListed c.names (public_names library.names) → own ≡ flags_where true public changed → changed ≡ x.changed.items
    → Marks c.names (own_names library fs) own
own_flags c x library fs public own changed ends marks size listed are same =
    let es : Drafts = form_cores fs (program_scope library []) in
    let P : List Bool → Type 0 = λ l. Marks c.names (own_names library fs) l in
    subst P (sym (are ∙ ap (flags_where true public) (same ∙ forms_changed c x es ends)))
    (own_marked c.names (public_names library.names) public (all_parts es) marks listed.named size)

-- where none of them stands, the first pass is the whole
pub first_drawn : (c : Context) (x : Expander) (library : Library) (fs : Forms) (own : List Bool)
    → Ends c x (visit_all c (form_cores fs (program_scope library [])) (empty_view c.names))
    → Marks c.names (own_names library fs) own → AreListed c.names (public_names library.names) → one_flag own ≡ false
    → AllDrawn c.names c.source.nodes.now x.maker.drafts x.maker.made.items (form_cores fs (program_scope library (own_names library fs)))
first_drawn c x library fs own ends marks listed none =
    let es : Drafts = form_cores fs (program_scope library []) in
    let P : List (List ℕ) → Type 0 = λ xs. AllDrawn c.names c.source.nodes.now x.maker.drafts x.maker.made.items (form_cores fs (program_scope library xs)) in
    subst P
    (sym (no_own c.names (own_names library fs) own marks none
    (taken_words c.names (public_names library.names) (changed_names (all_parts es)) listed)))
    (forms_drawn c x es ends)

pub own_length : (c : Context) (x : Expander) (es : Drafts) (public own changed : List Bool)
    → Ends c x (visit_all c es (empty_view c.names)) → length public ≡ length c.names
    → own ≡ flags_where true public changed → changed ≡ x.changed.items → length own ≡ length public
own_length c x es public own changed ends size are same =
    let none : List Bool = map (λ x. false) c.names in
    let many : length (marked (all_parts es) c.names none) ≡ length c.names = length-marked (all_parts es) c.names none (length-map c.names (λ x. false)) in
    ap length are
    ∙ length-flags_where true public changed (size ∙ sym (ap length (same ∙ forms_changed c x es ends) ∙ many))

-- what a name means in the second pass
pub others_free : (names : Names) (public own : List (List ℕ)) (flags own_flags others : List Bool) → Marks names public flags
    → Marks names own own_flags → length flags ≡ length own_flags → others ≡ flags_where false flags own_flags
    → AreFree names (OfProgram public own) others
others_free names public own flags own_flags others marks own_marks size are =
    let P : List Bool → Type 0 = λ l. AreFree names (OfProgram public own) l in
    subst P (sym are) (free_marked names public own flags own_flags marks own_marks size)
