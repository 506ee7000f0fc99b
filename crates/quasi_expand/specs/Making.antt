-- What the steps of a template make, done from the first to the last: each takes what it is made of off a stack of
-- templates, and puts what it makes there.
use Rattle.std.specs.Prelude.{◌≡◌, List, [], ◌∷◌, ◌++◌}
use Rattle.scheme_base.specs.Constants.{Constant}
use Rattle.datum_form.specs.declared.datums.Node.{Node}
use Rattle.datum_form.specs.Data.{Datum}
use Rattle.datum_form.specs.Stands.{Stands}
use Rattle.draft_form.specs.declared.draft.Constant.{Constant as Held}
use Rattle.draft_form.specs.declared.draft.Constant.TheVariants as held
use Rattle.draft_form.specs.Quoted.{IsHeld}
use Rattle.quasi_expand.specs.declared.template.Part.{Part}
use Rattle.quasi_expand.specs.declared.template.Part.TheVariants as part
use Rattle.quasi_expand.specs.Templates.{Template, Entry, Plain, Unquoted, Spliced, Pair, Vector, One, All}

-- a constant is put
abbrev pub PutsHeld : List Node → Held → (before after : List Template) → Type 0
PutsHeld nodes h before after = (c : Constant) × IsHeld nodes h c × (after ≡ Plain c ∷ before)

abbrev pub Makes : List Node → Part → (before after : List Template) → Type 0
Makes nodes (part.Datum id) before after = PutsHeld nodes (held.Datum id) before after
Makes nodes (part.Rest id from) before after = PutsHeld nodes (held.Rest id from) before after
Makes nodes (part.Expr id) before after = (d : Datum) × Stands nodes id d × (after ≡ Unquoted d ∷ before)
Makes nodes part.Cons before after =
    (car cdr : Template) × (others : List Template) × (before ≡ cdr ∷ car ∷ others) × (after ≡ Pair car cdr ∷ others)
Makes nodes part.Join before after =
    (d : Datum) × (rest : Template) × (others : List Template) × (before ≡ rest ∷ Unquoted d ∷ others)
    × (after ≡ Spliced d rest ∷ others)
Makes nodes part.Vector before after =
    (items : Template) × (others : List Template) × (before ≡ items ∷ others) × (after ≡ Vector items ∷ others)

-- steps one after another
abbrev pub MakeAll : List Node → List Part → (before after : List Template) → Type 0
MakeAll nodes [] before after = after ≡ before
MakeAll nodes (p ∷ ps) before after = (next : List Template) × Makes nodes p before next × MakeAll nodes ps next after

-- Items of a list, which stand on the stack before they are put before the list's rest

abbrev pub value : Entry → Template
value (One t) = t
value (All e) = Unquoted e

abbrev pub onto : List Entry → List Template → List Template
onto [] s = s
onto (e ∷ es) s = onto es (value e ∷ s)

abbrev pub link : Entry → Part
link (One t) = part.Cons
link (All e) = part.Join

-- the last item first
abbrev pub links : List Entry → List Part
links [] = []
links (e ∷ es) = links es ++ link e ∷ []
