-- The parts of a literal, found with a list of those still to come, the next one last.
use Rattle.std.proofs.Common.{◌≡◌, ℕ, zero, suc, ◌+◌, ◌-◌, ◌<◌, ◌≤◌, List, [], ◌∷◌, ◌++◌, length, get_or, take, Some, refl, sym, ap, ◌∙◌, subst, arith, append_assoc, append-nil}
use Rattle.std.specs.Prelude.{reverse}
use Rattle.std.proofs.lemmas.List.{reverse-append, reverse-reverse}
use Rattle.std.proofs.lemmas.Option.{slice_get_past, slice_get_read}
use Rattle.scheme_base.specs.declared.lit.Lit.{Lit}
use Rattle.flow_constraints.specs.declared.flow.Flow.{Flow}
use Rattle.flow_constraints.specs.declared.literals.Part.{Part}
use Rattle.flow_constraints.specs.Rows.{number_at}
use Rattle.flow_constraints.specs.Table.{items_in, parts_in, parts_of, parts_under}

-- what comes next where parts were put at the end in reverse
pub next_parts : (before parts : List Part) → reverse (before ++ reverse parts) ≡ parts ++ reverse before
next_parts before parts = reverse-append before (reverse parts) ∙ ap (λ qs. qs ++ reverse before) (reverse-reverse parts)

pub none_under : (f : Flow) (lits : List Lit) (most : ℕ) → parts_under f lits most [] ≡ []
none_under f lits zero = refl
none_under f lits (suc most) = refl

-- one of the parts still to come is taken, and its own parts come next
pub one_more : (f : Flow) (lits : List Lit) (n i : ℕ) (parts more coming before next whole : List Part) (p : Part)
    → i < n → more ≡ parts ++ p ∷ [] → coming ≡ before ++ p ∷ [] → next ≡ before ++ reverse (parts_of f lits p.lit)
    → parts ++ parts_under f lits (n - i) (reverse coming) ≡ whole
    → more ++ parts_under f lits (n - (i + 1)) (reverse next) ≡ whole
one_more f lits n i parts more coming before next whole p within takes is puts was =
    let fewer : suc (n - (i + 1)) ≡ n - i = omega (arith, within) in
    ap (λ ps. ps ++ parts_under f lits (n - (i + 1)) (reverse next)) takes
    ∙ (append_assoc parts (p ∷ []) (parts_under f lits (n - (i + 1)) (reverse next))
    ∙ (ap (λ ps. parts ++ (p ∷ parts_under f lits (n - (i + 1)) ps)) (ap reverse puts ∙ next_parts before (parts_of f lits p.lit))
    ∙ (ap (λ m. parts ++ parts_under f lits m (p ∷ reverse before)) fewer
    ∙ (ap (λ ps. parts ++ parts_under f lits (n - i) ps) (sym (ap reverse is ∙ reverse-append before (p ∷ [])))
    ∙ was))))

-- where no part is left to come, all were taken
pub none_left : (f : Flow) (lits : List Lit) (most count : ℕ) (parts coming before whole : List Part) → count ≡ 0
    → before ≡ take (count - 1) coming → coming ≡ before ++ []
    → parts ++ parts_under f lits most (reverse coming) ≡ whole → parts ≡ whole
none_left f lits most count parts coming before whole none front is was =
    let nothing : before ≡ [] = front ∙ ap (λ m. take (m - 1) coming) none in
    let empty : coming ≡ [] = is ∙ (append-nil before ∙ nothing) in
    sym (append-nil parts)
    ∙ (sym (ap (λ ps. parts ++ ps) (none_under f lits most))
    ∙ (sym (ap (λ ps. parts ++ parts_under f lits most (reverse ps)) empty) ∙ was))

-- where as many parts were taken as there are literals, all were taken
pub most_taken : (f : Flow) (lits : List Lit) (n i : ℕ) (parts coming whole : List Part) → n ≤ i
    → parts ++ parts_under f lits (n - i) (reverse coming) ≡ whole → parts ≡ whole
most_taken f lits n i parts coming whole h was =
    let done : n - i ≡ 0 = omega (arith, h) in
    sym (append-nil parts) ∙ (sym (ap (λ m. parts ++ parts_under f lits m (reverse coming)) done) ∙ was)

-- before any part is taken, the literal's own parts are to come
pub none_taken : (f : Flow) (lits : List Lit) (l : ℕ) (parts before coming : List Part) → parts ≡ [] → before ≡ []
    → coming ≡ before ++ reverse (parts_of f lits l)
    → parts ++ parts_under f lits (length lits - 0) (reverse coming) ≡ parts_under f lits (length lits) (parts_of f lits l)
none_taken f lits l parts before coming none empty puts =
    let all : length lits - 0 ≡ length lits = omega arith in
    ap (λ ps. ps ++ parts_under f lits (length lits - 0) (reverse coming)) none
    ∙ (ap (λ ps. parts_under f lits (length lits - 0) (reverse ps)) (puts ∙ ap (λ ps. ps ++ reverse (parts_of f lits l)) empty)
    ∙ (ap (λ ps. parts_under f lits (length lits - 0) ps) (reverse-reverse (parts_of f lits l))
    ∙ ap (λ n. parts_under f lits n (parts_of f lits l)) all))

-- a literal that is not there has no parts
pub no_parts : (f : Flow) (lits : List Lit) (l : ℕ) (coming : List Part) → length lits ≤ l
    → coming ≡ coming ++ reverse (parts_of f lits l)
no_parts f lits l coming h =
    sym (ap (λ o. coming ++ reverse (parts_in f (number_at f.lits l) o)) (slice_get_past lits l h) ∙ append-nil coming)

-- what holds of the parts of a literal that is there
pub own_parts : (f : Flow) (lits : List Lit) (l atom : ℕ) (whole : Lit) (P : List Part → Type 0) → atom ≡ number_at f.lits l
    → l < length lits → whole ≡ get_or lits l whole → P (reverse (parts_in f atom (Some whole))) → P (reverse (parts_of f lits l))
own_parts f lits l atom whole P same within is h =
    subst (λ o. P (reverse (parts_in f (number_at f.lits l) o))) (sym (slice_get_read lits (length lits) l whole refl within is))
    (subst (λ a. P (reverse (parts_in f a (Some whole)))) same h)

items_end : (to : ℕ) (ls : List ℕ) (l : ℕ) → items_in to (ls ++ l ∷ []) ≡ items_in to ls ++ (record { lit = l; to = to }) ∷ []
items_end to [] l = refl
items_end to (k ∷ ls) l = ap (λ ps. (record { lit = k; to = to }) ∷ ps) (items_end to ls l)

pub last_item : (to : ℕ) (items before : List ℕ) (l : ℕ) → items ≡ before ++ l ∷ []
    → reverse (items_in to items) ≡ (record { lit = l; to = to }) ∷ reverse (items_in to before)
last_item to items before l is =
    ap (λ ls. reverse (items_in to ls)) is
    ∙ (ap reverse (items_end to before l) ∙ reverse-append (items_in to before) ((record { lit = l; to = to }) ∷ []))

-- the last one of the elements that are left is put at the end
pub one_item : (to : ℕ) (coming next whole : List Part) (items before : List ℕ) (l : ℕ) → items ≡ before ++ l ∷ []
    → next ≡ coming ++ (record { lit = l; to = to }) ∷ [] → coming ++ reverse (items_in to items) ≡ whole
    → next ++ reverse (items_in to before) ≡ whole
one_item to coming next whole items before l is puts was =
    let p : Part = record { lit = l; to = to } in
    ap (λ ps. ps ++ reverse (items_in to before)) puts
    ∙ (append_assoc coming (p ∷ []) (reverse (items_in to before))
    ∙ (sym (ap (λ ps. coming ++ ps) (last_item to items before l is)) ∙ was))
