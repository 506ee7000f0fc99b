-- The first item of a list of nodes stands for the first of the data.
use Rattle.std.proofs.Common.{◌≡◌, ℕ, List as Seq, ◌∷◌, Option, Some, None, refl, subst}
use Rattle.std.specs.Option.{is_some}
use Rattle.datum_form.specs.declared.datums.Node.{Node}
use Rattle.datum_form.specs.Data.{Datum, Items}
use Rattle.datum_form.specs.Data.Items.{item}
use Rattle.datum_form.specs.Stands.{Stands, StandAll}
use Rattle.quasi_expand.specs.Agreement.{Agree}

pub first_of : (nodes : Seq Node) (ids others : Seq ℕ) (first : ℕ) (d : Datum) (ds : Items) → ids ≡ first ∷ others
    → StandAll nodes ids (item d ds) → Stands nodes first d
first_of nodes ids others first d ds split h =
    let same : h.0 ≡ first = cc in
    let P : ℕ → Type 0 = λ i. Stands nodes i d in
    subst P same h.3

pub after_first : (nodes : Seq Node) (ids others : Seq ℕ) (first : ℕ) (d : Datum) (ds : Items) → ids ≡ first ∷ others
    → StandAll nodes ids (item d ds) → StandAll nodes others ds
after_first nodes ids others first d ds split h =
    let same : h.1 ≡ others = cc in
    let P : Seq ℕ → Type 0 = λ is. StandAll nodes is ds in
    subst P same h.4

pub agree_some : {A B : Type 0} (R : A → B → Type 0) (a : Option A) (b : Option B) → Agree R a b → is_some a ≡ is_some b
agree_some R None None h = refl
agree_some R None (Some b) h = absurd h
agree_some R (Some a) None h = absurd h
agree_some R (Some a) (Some b) h = refl
