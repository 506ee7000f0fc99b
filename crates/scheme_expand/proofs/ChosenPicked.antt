-- The forms that are picked by increasing numbers are the definitions that are chosen.
use Rattle.std.proofs.Common.{◌≡◌, ℕ, zero, suc, ◌+◌, ◌<◌, ◌≤◌, List, [], ◌∷◌, Some, Bool, true, false, ◌||◌, if◌then◌else◌, refl, sym, ap, subst, ◌∙◌, arith}
use Rattle.std.specs.Prelude.{nat_eq, slice_get}
use Rattle.std.proofs.lemmas.Bool.Decides.{Decides-eqb}
use Rattle.scheme_base.proofs.Lists.{same_item}
use Rattle.prelude_text.specs.Closure.{has, Increases}
use Rattle.draft_form.specs.declared.draft.Drafts.{Drafts as Table}
use Rattle.draft_form.specs.Drafts.{Draft, Drafts, none, item}
use Rattle.draft_form.specs.Drawn.{Names, Data, Drawn, AllDrawn}
use Rattle.scheme_expand.specs.Assembled.{ArePicked}
use Rattle.scheme_expand.specs.Programs.{as_list, chosen}
use Rattle.scheme_expand.proofs.Scoping.{some_none}

not_equal : (a b : ℕ) → a < b → nat_eq a b ≡ false
not_equal a b h = by_test (nat_eq a b) refl
  where
    by_test : (t : Bool) → nat_eq a b ≡ t → t ≡ false
    by_test true e = absurd (omega (arith, h, (Decides-eqb a b).0 e))
    by_test false e = refl

not_equal_after : (a b : ℕ) → b < a → nat_eq a b ≡ false
not_equal_after a b h = by_test (nat_eq a b) refl
  where
    by_test : (t : Bool) → nat_eq a b ≡ t → t ≡ false
    by_test true e = absurd (omega (arith, h, (Decides-eqb a b).0 e))
    by_test false e = refl

is_equal : (a b : ℕ) → a ≡ b → nat_eq a b ≡ true
is_equal a b e = (Decides-eqb a b).1 e

has_past : (k m : ℕ) (ks : List ℕ) → k ≤ m → Increases m ks → has ks k ≡ false
has_past k m [] low h = refl
has_past k m (j ∷ ks) low h =
    ap (λ b. b || has ks k) (not_equal k j (omega (arith, low, h.0))) ∙ has_past k j ks (omega (arith, low, h.0)) h.1

chosen_none : (k : ℕ) (ds : List Draft) → chosen k [] ds ≡ none
chosen_none k [] = refl
chosen_none k (d ∷ ds) = chosen_none (suc k) ds

-- a number that is past chooses nothing more
chosen_past : (k j : ℕ) (ks : List ℕ) (ds : List Draft) → j < k → chosen k (j ∷ ks) ds ≡ chosen k ks ds
chosen_past k j ks [] low = refl
chosen_past k j ks (d ∷ ds) low =
    by_test (chosen_past (suc k) j ks ds (omega (arith, low)))
  where
    by_test : chosen (suc k) (j ∷ ks) ds ≡ chosen (suc k) ks ds
        → (if nat_eq k j || has ks k then item d (chosen (suc k) (j ∷ ks) ds) else chosen (suc k) (j ∷ ks) ds)
        ≡ (if has ks k then item d (chosen (suc k) ks ds) else chosen (suc k) ks ds)
    by_test h =
        ap (λ es. if nat_eq k j || has ks k then item d es else es) h
        ∙ ap (λ b. if b || has ks k then item d (chosen (suc k) ks ds) else chosen (suc k) ks ds) (not_equal_after k j low)

-- the same numbers in the rest of a list
lower : (m j : ℕ) (js : List ℕ) → m ≤ j → Increases j js → Increases m js
lower m j [] low up = tt
lower m j (i ∷ js) low up = (omega (arith, low, up.0), up.1)

shifted : (n a : ℕ) (all ks forms : List ℕ) → Increases (suc n) ks → ArePicked (suc n) (a ∷ all) ks forms → ArePicked (suc (suc n)) all ks forms
shifted n a all [] forms up h = h
shifted n a all (k ∷ ks) forms up h =
    by_index (shifted n a all ks h.2 (lower (suc n) k ks (omega (arith, up.0)) up.1) h.6) h.0 h.3 h.4
  where
    by_index : ArePicked (suc (suc n)) all ks h.2 → (i : ℕ) → k ≡ suc n + i → slice_get (a ∷ all) i ≡ Some h.1
        → ArePicked (suc (suc n)) all (k ∷ ks) forms
    by_index rest zero e got = absurd (omega (arith, e, up.0))
    by_index rest (suc i) e got = (i, h.1, h.2, omega (arith, e), got, h.5, rest)

nothing_picked : (n : ℕ) (all ks forms : List ℕ) → all ≡ [] → ArePicked (suc n) all ks forms → forms ≡ []
nothing_picked n all [] forms empty h = h
nothing_picked n all (k ∷ ks) forms empty h =
    let P : List ℕ → Type 0 = λ l. slice_get l h.0 ≡ Some h.1 in absurd (some_none h.1 (sym (subst P empty h.4)))

abbrev Chooses : Names → Data → Table → ℕ → (ks forms : List ℕ) → List Draft → Type 0
Chooses names data_nodes t n ks forms ds = AllDrawn names data_nodes t forms (chosen (suc n) ks ds)

choose_this : (names : Names) (data_nodes : Data) (t : Table) (n k form : ℕ) (ks forms others : List ℕ) (d : Draft) (ds : List Draft) → k ≡ suc n
    → forms ≡ form ∷ others → Drawn names data_nodes t form d → Chooses names data_nodes t (suc n) ks others ds
    → Chooses names data_nodes t n (k ∷ ks) forms (d ∷ ds)
choose_this names data_nodes t n k form ks forms others d ds e f drawn rest =
    let P : Drafts → Type 0 = λ es. AllDrawn names data_nodes t forms es in
    let past : chosen (suc (suc n)) (k ∷ ks) ds ≡ chosen (suc (suc n)) ks ds = chosen_past (suc (suc n)) k ks ds (omega (arith, e)) in
    let taken : item d (chosen (suc (suc n)) ks ds) ≡ chosen (suc n) (k ∷ ks) (d ∷ ds) =
    ap (item d) (sym past)
    ∙ ap (λ b. if b || has ks (suc n) then item d (chosen (suc (suc n)) (k ∷ ks) ds) else chosen (suc (suc n)) (k ∷ ks) ds)
    (sym (is_equal (suc n) k (sym e))) in
    subst P taken (form, others, f, drawn, rest)

choose_later : (names : Names) (data_nodes : Data) (t : Table) (n k : ℕ) (ks forms : List ℕ) (d : Draft) (ds : List Draft) → suc n < k
    → Increases k ks → Chooses names data_nodes t (suc n) (k ∷ ks) forms ds → Chooses names data_nodes t n (k ∷ ks) forms (d ∷ ds)
choose_later names data_nodes t n k ks forms d ds low up rest =
    let P : Drafts → Type 0 = λ es. AllDrawn names data_nodes t forms es in
    let past : has (k ∷ ks) (suc n) ≡ false =
    ap (λ b. b || has ks (suc n)) (not_equal (suc n) k low) ∙ has_past (suc n) k ks (omega (arith, low)) up in
    let left : chosen (suc (suc n)) (k ∷ ks) ds ≡ chosen (suc n) (k ∷ ks) (d ∷ ds) =
    ap (λ b. if b then item d (chosen (suc (suc n)) (k ∷ ks) ds) else chosen (suc (suc n)) (k ∷ ks) ds) (sym past) in
    subst P left rest

pub picked_chosen : (names : Names) (data_nodes : Data) (t : Table) (ds : Drafts) (n : ℕ) (all ks forms : List ℕ) → Increases n ks
    → ArePicked (suc n) all ks forms → AllDrawn names data_nodes t all ds → AllDrawn names data_nodes t forms (chosen (suc n) ks (as_list ds))
picked_chosen names data_nodes t none n all ks forms up h drawn = nothing_picked n all ks forms drawn h
picked_chosen names data_nodes t (item d ds) n all [] forms up h drawn =
    let P : Drafts → Type 0 = λ es. AllDrawn names data_nodes t forms es in
    subst P (sym (chosen_none (suc (suc n)) (as_list ds))) h
picked_chosen names data_nodes t (item d ds) n all (k ∷ ks) forms up h drawn =
    let P : List ℕ → Type 0 = λ l. ArePicked (suc n) l (k ∷ ks) forms in
    let p : ArePicked (suc n) (drawn.0 ∷ drawn.1) (k ∷ ks) forms = subst P drawn.2 h in
    by_index p.1 p.2 p.5 p.6 p.0 p.3 p.4
    (λ js others one more. picked_chosen names data_nodes t ds (suc n) drawn.1 js others one more drawn.4)
  where
    by_index : (form : ℕ) (others : List ℕ) → forms ≡ form ∷ others → ArePicked (suc n) (drawn.0 ∷ drawn.1) ks others
        → (i : ℕ) → k ≡ suc n + i → slice_get (drawn.0 ∷ drawn.1) i ≡ Some form
        → ((js others : List ℕ) → Increases (suc n) js → ArePicked (suc (suc n)) drawn.1 js others
        → AllDrawn names data_nodes t others (chosen (suc (suc n)) js (as_list ds)))
        → AllDrawn names data_nodes t forms (chosen (suc n) (k ∷ ks) (d ∷ as_list ds))
    by_index form others e more zero f got rest =
        let same : k ≡ suc n = omega (arith, f) in
        let D : ℕ → Type 0 = λ i. Drawn names data_nodes t i d in
        let I : ℕ → Type 0 = λ m. Increases m ks in
        let one : Increases (suc n) ks = subst I same up.1 in
        choose_this names data_nodes t n k form ks forms others d (as_list ds) same e
        (subst D (same_item (Some drawn.0) drawn.0 form refl got) drawn.3)
        (rest ks others one (shifted n drawn.0 drawn.1 ks others one more))
    by_index form others e more (suc i) f got rest =
        let low : suc n < k = omega (arith, f) in
        choose_later names data_nodes t n k ks forms d (as_list ds) low up.1
        (rest (k ∷ ks) forms (low, up.1)
        (shifted n drawn.0 drawn.1 (k ∷ ks) forms (low, up.1) (suc i, form, others, f, got, e, more)))
