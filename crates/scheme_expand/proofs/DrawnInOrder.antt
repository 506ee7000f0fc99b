-- What is made, the last first, is drawn in order.
use Rattle.std.proofs.Common.{ℕ, ◌≡◌, List, [], ◌∷◌, ◌++◌, refl, sym, ap, subst, ◌∙◌, append-nil, append_assoc}
use Rattle.scheme_expand.specs.Viewed.{AreMade}
use Rattle.scheme_expand.proofs.Noting.{made_before}
use Rattle.draft_form.specs.declared.draft.Drafts.{Drafts as Table}
use Rattle.draft_form.specs.Drafts.{Draft, Drafts, none, item}
use Rattle.draft_form.specs.Drawn.{Names, Data, AllDrawn}

-- What is made

record Split (names : Names) (nodes : Data) (t : Table) (ids : List ℕ) (acc : List Draft) (es : Drafts) : Type 0 where
  pub before : List ℕ
  pub after : List ℕ
  pub are : ids ≡ before ++ after
  pub made : AreMade names nodes t before acc
  pub drawn : AllDrawn names nodes t after es

split_made : (names : Names) (nodes : Data) (t : Table) (ids : List ℕ) (acc : List Draft) (es : Drafts)
    → AreMade names nodes t ids (made_before es acc) → Split names nodes t ids acc es
split_made names nodes t ids acc none h = record { before = ids; after = []; are = sym (append-nil ids); made = h; drawn = refl }
split_made names nodes t ids acc (item d es) h =
    let r = split_made names nodes t ids (d ∷ acc) es h in
    let front = r.made.0 in
    let id = r.made.1 in
    record {
      before = front;
      after = id ∷ r.after;
      are = r.are ∙ (ap (λ l. l ++ r.after) r.made.2 ∙ append_assoc front (id ∷ []) r.after);
      made = r.made.4;
      drawn = (id, r.after, refl, r.made.3, r.drawn);
    }

-- the drafts that are made, in order, where nothing was made before
pub all_drawn : (names : Names) (nodes : Data) (t : Table) (ids : List ℕ) (es : Drafts)
    → AreMade names nodes t ids (made_before es []) → AllDrawn names nodes t ids es
all_drawn names nodes t ids es h =
    let r = split_made names nodes t ids [] es h in
    let P : List ℕ → Type 0 = λ l. AllDrawn names nodes t l es in
    subst P (sym (r.are ∙ ap (λ l. l ++ r.after) r.made)) r.drawn
