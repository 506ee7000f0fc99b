-- The sites of a program, each linked to the procedure whose it is.
use Rattle.std.specs.Prelude.{ℕ, ◌+◌, ◌-◌, ◌&&◌, List, [], ◌∷◌, ◌++◌, map, is_some, nat_le, nat_lt, if◌then◌else◌}
use Rattle.std.specs.List.{flat_map}
use Rattle.flow_constraints.specs.declared.flow.Entry.{Entry}
use Rattle.flow_constraints.specs.declared.flow.Flow.{Flow}
use Rattle.least_set.specs.declared.links.Link.{Link}
use Rattle.named_form.specs.Code.{closure_site}
use Rattle.plan_facts.specs.declared.place.Place.{Place}
use Rattle.plan_facts.specs.Escaping.{closes, makes_object}

abbrev pub link : (from to : ℕ) → Link
link from to = record { from = from; to = to }

-- what a step makes
abbrev pub made_owners : Place → List Link
made_owners p = if makes_object p.action then link p.site p.proc ∷ [] else []

-- the closures that a step of a procedure makes
abbrev pub closure_owner : (proc made : ℕ) → List Link
closure_owner q made = link (closure_site made) q ∷ []

abbrev pub place_owners : Place → List Link
place_owners p = made_owners p ++ flat_map (closure_owner p.proc) (closes p.action)

-- the rest lists of a procedure, by their atom
abbrev pub list_owners : (proc : ℕ) → Entry → List Link
list_owners q e = if is_some e.rest && nat_le 10 e.list then link (e.list - 10) q ∷ [] else []

-- what each procedure gives, where they are numbered from this one on
abbrev pub each_entry : {X : Type 0} → (ℕ → Entry → List X) → (proc : ℕ) → List Entry → List X
each_entry g q [] = []
each_entry g q (e ∷ es) = g q e ++ each_entry g (q + 1) es

abbrev pub owners_of : Flow → List Place → List Link
owners_of f places = flat_map place_owners places ++ each_entry list_owners 1 f.entries

-- the same links, turned round
abbrev pub turned : List Link → List Link
turned links = map (λ l. link l.to l.from) links

abbrev pub larger : ℕ → ℕ → ℕ
larger a b = if nat_lt a b then b else a

-- a number that is above all numbers of links, and not below this one
abbrev pub bound_from : (many : ℕ) → List Link → ℕ
bound_from many [] = many
bound_from many (l ∷ ls) = bound_from (larger (larger many (l.from + 1)) (l.to + 1)) ls
