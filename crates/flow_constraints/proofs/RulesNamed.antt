-- Each rule of a step names rows and atoms that are there, where the numbers of the program fit.
use Rattle.std.proofs.Common.{◌≡◌, ℕ, zero, suc, ◌+◌, ◌<◌, ◌≤◌, Bool, true, false, List, [], ◌∷◌, ◌++◌, length, map, Option, Some, None, refl, arith, leb-true}
use Rattle.std.specs.List.{AllByRecursion, flat_map}
use Rattle.std.specs.Prelude.{if◌then◌else◌, nat_le, slice_get}
use Rattle.scheme_base.specs.declared.lit.Lit.{Lit}
use Rattle.scheme_base.specs.declared.lit.Lit.TheVariants as lit
use Rattle.scheme_base.specs.declared.op.Op.{Op}
use Rattle.scheme_base.specs.declared.op.Op.TheVariants as op
use Rattle.flow_form.specs.declared.rule.Rule.{Rule}
use Rattle.flow_form.specs.declared.rule.Test.{Test}
use Rattle.flow_form.specs.declared.rule.Test.TheVariants.{Has}
use Rattle.flow_form.specs.Valid.{RuleNames, TestNames}
use Rattle.flow_constraints.specs.declared.calls.Site.{Site}
use Rattle.flow_constraints.specs.declared.flow.Entry.{Entry}
use Rattle.flow_constraints.specs.declared.flow.Flow.{Flow}
use Rattle.flow_constraints.specs.declared.flow.Kind.TheVariants as kind
use Rattle.flow_constraints.specs.declared.literals.Part.{Part as Piece}
use Rattle.flow_constraints.specs.declared.operations.Operation.{Operation}
use Rattle.flow_constraints.specs.declared.put.Guard.{Guard}
use Rattle.flow_constraints.specs.Rows.{row, Reach, Var, Part, contents_row, continuing, number_at}
use Rattle.flow_constraints.specs.Table.{also, always, any_list_with, applied, atom_in, call_rules, calling, enter_rules, fix_rules, closure_atom, held_rules, items_in, leave_rules, list_rules, making_rules, one_rules, operand, operand_rules, part_rule, parts_in, parts_of, parts_under, prim_rules, read_rules, reading_rules, rest_with, results, result_rules, resume_one, resume_rules, spine_pair, spine_rules, takes, value_rules, within, write_rules, writing_rules}
use Rattle.flow_constraints.proofs.EachOf.{of_any_mapped, of_both, of_each, of_flat, of_mapped, of_number}

abbrev pub IsRow : Flow → ℕ → Type 0
IsRow f r = r < f.rows

abbrev pub IsAtom : Flow → ℕ → Type 0
IsAtom f a = a < length f.kinds

-- an atom of pairs, which have two rows
pub record HasPairs (f : Flow) (a : ℕ) : Type 0 where
  pub atom : IsAtom f a
  pub parts : IsRow f (contents_row (slice_get f.kinds a) + 1)

abbrev pub HasList : Flow → Option ℕ → (list : ℕ) → Type 0
HasList f None a = Unit {0}
HasList f (Some x) a = HasPairs f a

-- a procedure's atom, the row of its results, and its rest lists are there
pub record EntryFits (f : Flow) (e : Entry) : Type 0 where
  pub atom : IsAtom f e.atom
  pub result : IsRow f (number_at f.blocks e.block + 1)
  pub list : HasList f e.rest e.list

-- the numbers of a program with these literals name what is there
pub record FlowFits (f : Flow) (lits : List Lit) : Type 0 where
  pub some_row : IsRow f 0
  pub fixed : 10 ≤ length f.kinds
  pub vars : AllByRecursion (IsRow f) f.vars
  pub blocks : AllByRecursion (IsRow f) f.blocks
  pub contents : (a : ℕ) → IsRow f (contents_row (slice_get f.kinds a))
  pub pair : (a r : ℕ) (literal : Bool) → slice_get f.kinds a ≡ Some (kind.Pair r literal) → IsRow f (r + 1)
  pub entries : AllByRecursion (EntryFits f) f.entries
  pub pairs : AllByRecursion (HasPairs f) f.pairs
  pub fresh_pairs : AllByRecursion (HasPairs f) f.fresh_pairs
  pub vectors : AllByRecursion (IsAtom f) f.vectors
  pub fresh_vectors : AllByRecursion (IsAtom f) f.fresh_vectors
  pub symbols : AllByRecursion (IsAtom f) f.symbols
  pub continuations : AllByRecursion (IsAtom f) f.continuations
  pub literals : AllByRecursion (IsAtom f) f.lits
  pub quoted :
      (l car cdr : ℕ) → slice_get lits l ≡ Some (lit.Pair car cdr) → IsRow f 1
      → IsRow f (contents_row (slice_get f.kinds (number_at f.lits l)) + 1)

abbrev pub Named : Flow → Rule → Type 0
Named f r = RuleNames f.rows (length f.kinds) r

abbrev pub AllNames : Flow → List Rule → Type 0
AllNames f rs = AllByRecursion (Named f) rs

abbrev pub Tests : Flow → Option Test → Type 0
Tests f t = TestNames f.rows (length f.kinds) t

pub record Guards (f : Flow) (g : Guard) : Type 0 where
  pub first : Tests f g.first
  pub second : Tests f g.second

pub record SiteFits (f : Flow) (s : Site) : Type 0 where
  pub guard : Guards f s.guard
  pub operator : IsRow f s.operator
  pub value : IsRow f s.value

pub always_names : (f : Flow) → Guards f always
always_names f = record { first = tt; second = tt }

pub also_names : (f : Flow) (t : Test) (g : Guard) → Tests f (Some t) → Guards f g → Guards f (also t g)
also_names f t g h k = record { first = k.first; second = h }

pub gives_atom : (f : Flow) (g : Guard) (a to : ℕ) → Guards f g → IsAtom f a → IsRow f to → Named f (atom_in g a to)
gives_atom f g a to h k l = record { first = h.first; second = h.second; give = k; to = l }

pub gives_row : (f : Flow) (g : Guard) (from to : ℕ) → Guards f g → IsRow f from → IsRow f to
    → Named f (within g from to)
gives_row f g from to h k l = record { first = h.first; second = h.second; give = k; to = l }

-- Rows that are there whatever the number

pub var_row : (f : Flow) (lits : List Lit) → FlowFits f lits → (x : ℕ) → IsRow f (row f (Var x))
var_row f lits h x = of_number (IsRow f) f.vars x h.some_row h.vars

pub block_row : (f : Flow) (lits : List Lit) → FlowFits f lits → (b : ℕ) → IsRow f (row f (Reach b))
block_row f lits h b = of_number (IsRow f) f.blocks b h.some_row h.blocks

pub part_row : (f : Flow) (lits : List Lit) → FlowFits f lits → (a : ℕ) → IsRow f (row f (Part a 0))
part_row f lits h a = let there = h.contents a in omega (arith, there)

pub low_atom : (f : Flow) (lits : List Lit) → FlowFits f lits → (a : ℕ) → a < 10 → IsAtom f a
low_atom f lits h a k = let many = h.fixed in omega (arith, k, many)

-- Literals

abbrev PartFits : Flow → Piece → Type 0
PartFits f p = IsRow f p.to

items_fit : (f : Flow) (to : ℕ) (items : List ℕ) → IsRow f to → AllByRecursion (PartFits f) (items_in to items)
items_fit f to [] h = tt
items_fit f to (l ∷ ls) h = (h, items_fit f to ls h)

in_fit : (f : Flow) (lits : List Lit) → FlowFits f lits → (a : ℕ) (o : Option Lit)
    → ((car cdr : ℕ) → o ≡ Some (lit.Pair car cdr) → IsRow f (contents_row (slice_get f.kinds a) + 1))
    → AllByRecursion (PartFits f) (parts_in f a o)
in_fit f lits h a (Some (lit.Pair car cdr)) k = (part_row f lits h a, (k car cdr refl, tt))
in_fit f lits h a (Some (lit.Vector items)) k = items_fit f _ items (part_row f lits h a)
in_fit f lits h a o k = tt

parts_fit : (f : Flow) (lits : List Lit) → FlowFits f lits → IsRow f 1 → (l : ℕ)
    → AllByRecursion (PartFits f) (parts_of f lits l)
parts_fit f lits h two l =
    in_fit f lits h (number_at f.lits l) (slice_get lits l) (λ car cdr e. h.quoted l car cdr e two)

under_fit : (f : Flow) (lits : List Lit) → FlowFits f lits → IsRow f 1 → (most : ℕ) (ps : List Piece)
    → AllByRecursion (PartFits f) ps → AllByRecursion (PartFits f) (parts_under f lits most ps)
under_fit f lits h two zero ps k = tt
under_fit f lits h two (suc most) [] k = tt
under_fit f lits h two (suc most) (p ∷ ps) k = (
  k.0,
  under_fit f lits h two most (parts_of f lits p.lit ++ ps)
      (of_both (PartFits f) (parts_of f lits p.lit) ps (parts_fit f lits h two p.lit) k.1),
)

lit_atom : (f : Flow) (lits : List Lit) → FlowFits f lits → (l : ℕ) → IsAtom f (number_at f.lits l)
lit_atom f lits h l = of_number (IsAtom f) f.lits l (low_atom f lits h 0 (omega arith)) h.literals

held_named : (f : Flow) (lits : List Lit) → FlowFits f lits → IsRow f 1 → (l : ℕ) → AllNames f (held_rules f lits l)
held_named f lits h two l =
    of_mapped (Named f) (PartFits f) (part_rule f)
    (λ p k. gives_atom f always (number_at f.lits p.lit) p.to (always_names f) (lit_atom f lits h p.lit) k)
    (parts_under f lits (length lits) (parts_of f lits l))
    (under_fit f lits h two (length lits) (parts_of f lits l) (parts_fit f lits h two l))

pub const_named : (f : Flow) (lits : List Lit) → FlowFits f lits → (g : Guard) (to l : ℕ) → Guards f g → IsRow f to → IsRow f 1
    → AllNames f (atom_in g (number_at f.lits l) to ∷ held_rules f lits l)
const_named f lits h g to l guard there two =
    (gives_atom f g _ to guard (lit_atom f lits h l) there, held_named f lits h two l)

-- Operations

abbrev low : List ℕ → Bool
low [] = true
low (x ∷ xs) = if nat_le x 9 then low xs else false

low_all : (xs : List ℕ) → low xs ≡ true → AllByRecursion (λ x. x < 10) xs
low_all [] h = tt
low_all (x ∷ xs) h = here (nat_le x 9) refl (low_all xs) h
  where
    here : (b : Bool) → nat_le x 9 ≡ b → (low xs ≡ true → AllByRecursion (λ x. x < 10) xs)
        → (if b then low xs else false) ≡ true → (x < 10) × AllByRecursion (λ x. x < 10) xs
    here true e others h = let less = leb-true x 9 e in (omega (arith, less), others h)
    here false e others h = cc

results_low : (o : Op) → low (results o) ≡ true
results_low op.Eqv = refl
results_low o = refl

-- what the atom of an operation's object must be
abbrev pub MakesFit : Flow → Op → (atom : ℕ) → Type 0
MakesFit f op.Cons a = HasPairs f a
MakesFit f op.MakeVector a = IsAtom f a
MakesFit f op.MakeSymbol a = IsAtom f a
MakesFit f op.MakeString a = IsAtom f a
MakesFit f o a = Unit {0}

one_named : (f : Flow) (lits : List Lit) → FlowFits f lits → (d : Operation) (from : ℕ) → Guards f d.guard → IsRow f d.value
    → IsAtom f d.made → IsRow f from → AllNames f (one_rules f d from)
one_named f lits h d from guard value made there = (
  gives_atom f d.guard d.made d.value guard made value,
  (gives_row f d.guard from _ guard there (part_row f lits h d.made), tt),
)

making_named : (f : Flow) (lits : List Lit) → FlowFits f lits → (d : Operation) (o : Op) (ys : List ℕ) → Guards f d.guard
    → IsRow f d.value → MakesFit f o d.made → AllNames f (making_rules f d o ys)
making_named f lits h d op.Cons ys guard value made = (
  gives_atom f d.guard d.made d.value guard made.atom value,
  (
    gives_row f d.guard _ _ guard (var_row f lits h _) (part_row f lits h d.made),
    (gives_row f d.guard _ _ guard (var_row f lits h _) made.parts, tt),
  ),
)
making_named f lits h d op.MakeVector ys guard value made = one_named f lits h d _ guard value made (var_row f lits h _)
making_named f lits h d op.MakeSymbol ys guard value made = one_named f lits h d _ guard value made (var_row f lits h _)
making_named f lits h d op.MakeString ys guard value made =
    (gives_atom f d.guard d.made d.value guard made value, tt)
making_named f lits h d o ys guard value made = tt

-- parts are read of pairs, at both places, and of other atoms, at the first place
read_pairs : (f : Flow) (d : Operation) (from : ℕ) (atoms : List ℕ) → Guards f d.guard → IsRow f d.value → IsRow f from
    → AllByRecursion (HasPairs f) atoms → AllNames f (read_rules f d atoms from 1)
read_pairs f d from atoms guard value there pairs =
    of_mapped (Named f) (HasPairs f) (λ a. within (also (Has from a) d.guard) (row f (Part a 1)) d.value)
    (λ a k. gives_row f _ _ d.value (also_names f (Has from a) d.guard (there, k.atom) guard) k.parts value)
    atoms pairs

read_first : (f : Flow) (lits : List Lit) → FlowFits f lits → (d : Operation) (from : ℕ) (atoms : List ℕ) → Guards f d.guard
    → IsRow f d.value → IsRow f from → AllByRecursion (IsAtom f) atoms → AllNames f (read_rules f d atoms from 0)
read_first f lits h d from atoms guard value there pairs =
    of_mapped (Named f) (IsAtom f) (λ a. within (also (Has from a) d.guard) (row f (Part a 0)) d.value)
    (λ a k. gives_row f _ _ d.value (also_names f (Has from a) d.guard (there, k) guard) (part_row f lits h a) value)
    atoms pairs

pairs_are : (f : Flow) (atoms : List ℕ) → AllByRecursion (HasPairs f) atoms → AllByRecursion (IsAtom f) atoms
pairs_are f atoms h = of_each (HasPairs f) (IsAtom f) (λ a k. k.atom) atoms h

reading_named : (f : Flow) (lits : List Lit) → FlowFits f lits → (d : Operation) (o : Op) (from : ℕ) → Guards f d.guard
    → IsRow f d.value → IsRow f from → AllNames f (reading_rules f d o from)
reading_named f lits h d op.Car from guard value there =
    read_first f lits h d from f.pairs guard value there (pairs_are f f.pairs h.pairs)
reading_named f lits h d op.Cdr from guard value there = read_pairs f d from f.pairs guard value there h.pairs
reading_named f lits h d op.VectorRef from guard value there =
    read_first f lits h d from f.vectors guard value there h.vectors
reading_named f lits h d op.SymbolName from guard value there = (
  gives_atom f _ 9 d.value (also_names f (Has from 8) d.guard (there, low_atom f lits h 8 (omega arith)) guard)
      (low_atom f lits h 9 (omega arith)) value,
  read_first f lits h d from f.symbols guard value there h.symbols,
)
reading_named f lits h d o from guard value there = tt

write_pairs : (f : Flow) (g : Guard) (to from : ℕ) (atoms : List ℕ) → Guards f g → IsRow f to → IsRow f from
    → AllByRecursion (HasPairs f) atoms → AllNames f (write_rules f g atoms to from 1)
write_pairs f g to from atoms guard target there pairs =
    of_mapped (Named f) (HasPairs f) (λ a. within (also (Has to a) g) from (row f (Part a 1)))
    (λ a k. gives_row f _ from _ (also_names f (Has to a) g (target, k.atom) guard) there k.parts)
    atoms pairs

write_first : (f : Flow) (lits : List Lit) → FlowFits f lits → (g : Guard) (to from : ℕ) (atoms : List ℕ) → Guards f g
    → IsRow f to → IsRow f from → AllByRecursion (IsAtom f) atoms → AllNames f (write_rules f g atoms to from 0)
write_first f lits h g to from atoms guard target there pairs =
    of_mapped (Named f) (IsAtom f) (λ a. within (also (Has to a) g) from (row f (Part a 0)))
    (λ a k. gives_row f _ from _ (also_names f (Has to a) g (target, k) guard) there (part_row f lits h a))
    atoms pairs

writing_named : (f : Flow) (lits : List Lit) → FlowFits f lits → (d : Operation) (o : Op) (ys : List ℕ) → Guards f d.guard
    → AllNames f (writing_rules f d o ys)
writing_named f lits h d op.SetCar ys guard =
    write_first f lits h d.guard _ _ f.fresh_pairs guard (var_row f lits h _) (var_row f lits h _)
    (pairs_are f f.fresh_pairs h.fresh_pairs)
writing_named f lits h d op.SetCdr ys guard =
    write_pairs f d.guard _ _ f.fresh_pairs guard (var_row f lits h _) (var_row f lits h _) h.fresh_pairs
writing_named f lits h d op.VectorSet ys guard =
    write_first f lits h d.guard _ _ f.fresh_vectors guard (var_row f lits h _) (var_row f lits h _) h.fresh_vectors
writing_named f lits h d o ys guard = tt

pub prim_named : (f : Flow) (lits : List Lit) → FlowFits f lits → (d : Operation) (o : Op) (ys : List ℕ) → Guards f d.guard
    → IsRow f d.value → MakesFit f o d.made → AllNames f (prim_rules f d o ys)
prim_named f lits h d o ys guard value made =
    let reads = reading_rules f d o (operand f ys 0) in
    of_both (Named f) (result_rules d (results o)) (making_rules f d o ys ++ (reads ++ writing_rules f d o ys))
    (of_mapped (Named f) (λ a. a < 10) (λ a. atom_in d.guard a d.value)
    (λ a k. gives_atom f d.guard a d.value guard (low_atom f lits h a k) value) (results o) (low_all (results o) (results_low o)))
    (of_both (Named f) (making_rules f d o ys) (reads ++ writing_rules f d o ys)
    (making_named f lits h d o ys guard value made)
    (of_both (Named f) reads (writing_rules f d o ys) (reading_named f lits h d o _ guard value (var_row f lits h _))
    (writing_named f lits h d o ys guard)))

-- Calls

list_named : (f : Flow) (lits : List Lit) → FlowFits f lits → (g : Guard) (e : Entry) (x n : ℕ) → Guards f g
    → HasPairs f e.list → AllNames f (list_rules f g e x n)
list_named f lits h g e x zero guard list =
    (gives_atom f g 5 _ guard (low_atom f lits h 5 (omega arith)) (var_row f lits h x), tt)
list_named f lits h g e x (suc zero) guard list = (
  gives_atom f g e.list _ guard list.atom (var_row f lits h x),
  (gives_atom f g 5 _ guard (low_atom f lits h 5 (omega arith)) list.parts, tt),
)
list_named f lits h g e x (suc (suc n)) guard list = (
  gives_atom f g e.list _ guard list.atom (var_row f lits h x),
  (
    gives_atom f g 5 _ guard (low_atom f lits h 5 (omega arith)) list.parts,
    (gives_atom f g e.list _ guard list.atom list.parts, tt),
  ),
)

rest_named : (f : Flow) (lits : List Lit) → FlowFits f lits → (g : Guard) (e : Entry) (o : Option ℕ) (ys : List ℕ)
    → Guards f g → HasList f o e.list → AllByRecursion (IsRow f) ys → AllNames f (rest_with f g e o ys)
rest_named f lits h g e None ys guard list rows = tt
rest_named f lits h g e (Some x) ys guard list rows =
    of_both (Named f) (map (λ y. within g y (row f (Part e.list 0))) ys) (list_rules f g e x (length ys))
    (of_mapped (Named f) (IsRow f) (λ y. within g y (row f (Part e.list 0)))
    (λ y k. gives_row f g y _ guard k (part_row f lits h e.list)) ys rows)
    (list_named f lits h g e x (length ys) guard list)

operands_named : (f : Flow) (lits : List Lit) → FlowFits f lits → (g : Guard) (e : Entry) (xs ys : List ℕ) → Guards f g
    → HasList f e.rest e.list → AllByRecursion (IsRow f) ys → AllNames f (operand_rules f g e xs ys)
operands_named f lits h g e [] ys guard list rows = rest_named f lits h g e e.rest ys guard list rows
operands_named f lits h g e (x ∷ xs) [] guard list rows = tt
operands_named f lits h g e (x ∷ xs) (y ∷ ys) guard list rows =
    (gives_row f g y _ guard rows.0 (var_row f lits h x), operands_named f lits h g e xs ys guard list rows.1)

leave_named : (f : Flow) (lits : List Lit) → FlowFits f lits → (g : Guard) (e : Entry) (value : ℕ) → Guards f g
    → EntryFits f e → IsRow f value → AllNames f (leave_rules f g e value)
leave_named f lits h g e value guard entry there = (
  gives_atom f g 0 _ guard (low_atom f lits h 0 (omega arith)) (block_row f lits h e.block),
  (gives_row f g _ value guard entry.result there, tt),
)

calling_names : (f : Flow) (s : Site) (a : ℕ) → SiteFits f s → IsAtom f a → Guards f (calling s a)
calling_names f s a h k = also_names f (Has s.operator a) s.guard (h.operator, k) h.guard

if_named : (f : Flow) (b : Bool) (rs : List Rule) → AllNames f rs → AllNames f (if b then rs else [])
if_named f true rs h = h
if_named f false rs h = tt

enter_named : (f : Flow) (lits : List Lit) → FlowFits f lits → (s : Site) (ys : List ℕ) (e : Entry) → SiteFits f s
    → AllByRecursion (IsRow f) ys → EntryFits f e → AllNames f (enter_rules f s ys e)
enter_named f lits h s ys e site rows entry =
    let guard = calling_names f s e.atom site entry.atom in
    if_named f (takes e (length ys)) _
    (of_both (Named f) (operand_rules f (calling s e.atom) e e.params ys) (leave_rules f (calling s e.atom) e s.value)
    (operands_named f lits h (calling s e.atom) e e.params ys guard entry.list rows)
    (leave_named f lits h (calling s e.atom) e s.value guard entry site.value))

resumes_named : (f : Flow) (lits : List Lit) → FlowFits f lits → (s : Site) (y : ℕ) → SiteFits f s → IsRow f y
    → AllNames f (resume_rules f s y)
resumes_named f lits h s y site there =
    of_mapped (Named f) (IsAtom f) (λ a. within (calling s a) y (row f (Var (continuing (slice_get f.kinds a)))))
    (λ a k. gives_row f (calling s a) y _ (calling_names f s a site k) there (var_row f lits h _))
    f.continuations h.continuations

resume_named : (f : Flow) (lits : List Lit) → FlowFits f lits → (s : Site) (ys : List ℕ) → SiteFits f s
    → AllByRecursion (IsRow f) ys → AllNames f (resume_one f s ys)
resume_named f lits h s [] site rows = tt
resume_named f lits h s (y ∷ []) site rows = resumes_named f lits h s y site rows.0
resume_named f lits h s (y ∷ z ∷ zs) site rows = tt

pub call_named : (f : Flow) (lits : List Lit) → FlowFits f lits → (s : Site) (ys : List ℕ) → SiteFits f s
    → AllByRecursion (IsRow f) ys → AllNames f (call_rules f s ys)
call_named f lits h s ys site rows =
    of_both (Named f) (flat_map (enter_rules f s ys) f.entries) (resume_one f s ys)
    (of_flat (Named f) (EntryFits f) (enter_rules f s ys) (λ e k. enter_named f lits h s ys e site rows k) f.entries h.entries)
    (resume_named f lits h s ys site rows)

pub spine_named : (f : Flow) (lits : List Lit) → FlowFits f lits → (g : Guard) (spine items : ℕ) → Guards f g → IsRow f spine
    → IsRow f items → AllNames f (spine_rules f g spine items)
spine_named f lits h g spine items guard there more =
    of_flat (Named f) (HasPairs f) (spine_pair f g spine items)
    (λ a k. (
      gives_row f _ _ spine (also_names f (Has spine a) g (there, k.atom) guard) k.parts there,
      (gives_row f _ _ items (also_names f (Has spine a) g (there, k.atom) guard) (part_row f lits h a) more, tt),
    ))
    f.pairs h.pairs

any_list_named : (f : Flow) (lits : List Lit) → FlowFits f lits → (g : Guard) (e : Entry) (o : Option ℕ) (items : ℕ)
    → Guards f g → HasList f o e.list → IsRow f items → AllNames f (any_list_with f g e o items)
any_list_named f lits h g e None items guard list there = tt
any_list_named f lits h g e (Some x) items guard list there =
    let nil = low_atom f lits h 5 (omega arith) in (
      gives_row f g items _ guard there (part_row f lits h e.list),
      (
        gives_atom f g e.list _ guard list.atom (var_row f lits h x),
        (
          gives_atom f g 5 _ guard nil (var_row f lits h x),
          (gives_atom f g 5 _ guard nil list.parts, (gives_atom f g e.list _ guard list.atom list.parts, tt)),
        ),
      ),
    )

applied_named : (f : Flow) (lits : List Lit) → FlowFits f lits → (s : Site) (items : ℕ) (e : Entry) → SiteFits f s
    → IsRow f items → EntryFits f e → AllNames f (applied f s items e)
applied_named f lits h s items e site there entry =
    let g = calling s e.atom in
    let guard = calling_names f s e.atom site entry.atom in
    let list = any_list_with f g e e.rest items in
    of_both (Named f) (map (λ x. within g items (row f (Var x))) e.params) (list ++ leave_rules f g e s.value)
    (of_any_mapped (Named f) (λ x. within g items (row f (Var x)))
    (λ x. gives_row f g items _ guard there (var_row f lits h x)) e.params)
    (of_both (Named f) list (leave_rules f g e s.value) (any_list_named f lits h g e e.rest items guard entry.list there)
    (leave_named f lits h g e s.value guard entry site.value))

pub apply_named : (f : Flow) (lits : List Lit) → FlowFits f lits → (s : Site) (items : ℕ) → SiteFits f s → IsRow f items
    → AllNames f (flat_map (applied f s items) f.entries ++ resume_rules f s items)
apply_named f lits h s items site there =
    of_both (Named f) (flat_map (applied f s items) f.entries) (resume_rules f s items)
    (of_flat (Named f) (EntryFits f) (applied f s items) (λ e k. applied_named f lits h s items e site there k)
    f.entries h.entries)
    (resumes_named f lits h s items site there)

-- Values, and closures

pub value_named : (f : Flow) (lits : List Lit) → FlowFits f lits → (g : Guard) (o : Option ℕ) (to : ℕ) → Guards f g
    → IsRow f to → AllNames f (value_rules f g o to)
value_named f lits h g None to guard there = tt
value_named f lits h g (Some y) to guard there = (gives_row f g _ to guard (var_row f lits h y) there, tt)

pub fix_named : (f : Flow) (lits : List Lit) → FlowFits f lits → (g : Guard) (xs qs : List ℕ) → Guards f g
    → AllByRecursion (λ q. IsAtom f (closure_atom q)) qs → AllNames f (fix_rules f g xs qs)
fix_named f lits h g [] qs guard closes = tt
fix_named f lits h g (x ∷ xs) [] guard closes = tt
fix_named f lits h g (x ∷ xs) (q ∷ qs) guard closes =
    (gives_atom f g _ _ guard closes.0 (var_row f lits h x), fix_named f lits h g xs qs guard closes.1)
