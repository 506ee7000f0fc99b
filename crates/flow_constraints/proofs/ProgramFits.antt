-- The numbers of a well-formed program name what is there, so its rules do, and few enough of them are valid.
use Rattle.std.proofs.Common.{◌≡◌, ℕ, zero, suc, ◌+◌, ◌-◌, ◌*◌, ◌<◌, ◌≤◌, Bool, true, false, List, [], ◌∷◌, ◌++◌, length, replicate, Option, Some, None, refl, sym, ap, ◌∙◌, subst, arith, leb-true, length-append}
use Rattle.std.proofs.lemmas.List.{length-replicate}
use Rattle.std.proofs.lemmas.Option.{slice_get_within}
use Rattle.std.specs.List.{AllByRecursion}
use Rattle.std.specs.Prelude.{if◌then◌else◌, nat_le, slice_get}
use Rattle.scheme_base.specs.declared.limit.Limit.{Limit}
use Rattle.scheme_base.specs.declared.limit.LimitKind.{LimitKind}
use Rattle.scheme_base.specs.declared.limit.LimitKind.TheVariants.{Rows, Atoms, Table, Rules}
use Rattle.scheme_base.specs.declared.lit.Lit.{Lit}
use Rattle.scheme_base.specs.Operations.{item_or}
use Rattle.flow_form.specs.Valid.{AllNamed, IsFewEnough, IsValid, words_of_row}
use Rattle.named_form.specs.Code.{Written, first_sites, option_list, rest_lists}
use Rattle.named_form.specs.Valid.{Form, WellFormed}
use Rattle.named_form.proofs.Labels.{all_at}
use Rattle.flow_constraints.specs.declared.atoms.Which.{Which}
use Rattle.flow_constraints.specs.declared.atoms.Which.TheVariants.{Pairs, FreshPairs, Vectors, FreshVectors, Symbols, Continuations}
use Rattle.flow_constraints.specs.declared.flow.Entry.{Entry}
use Rattle.flow_constraints.specs.declared.flow.Flow.{Flow}
use Rattle.flow_constraints.specs.declared.flow.Kind.{Kind}
use Rattle.flow_constraints.specs.declared.flow.Kind.TheVariants.{Fixed, Pair, Vector, Symbol}
use Rattle.flow_constraints.specs.declared.layout.Layout.{Layout}
use Rattle.flow_constraints.specs.declared.layout.Quoted.{Quoted}
use Rattle.flow_constraints.specs.Census.{cut}
use Rattle.flow_constraints.specs.Layout.{atoms_of, begins, closure_kinds, flow_of, is_of, joined, kinds_of, laid_lambdas, laid_main, started}
use Rattle.flow_constraints.specs.Limits.{atom_count, or_else, passed, past, row_count, table_limit}
use Rattle.flow_constraints.specs.Listed.{rules_of}
use Rattle.flow_constraints.specs.Quoted.{quoted_all, unquoted}
use Rattle.flow_constraints.specs.Rows.{contents_row, number_at}
use Rattle.flow_constraints.proofs.EachOf.{of_both, of_each}
use Rattle.flow_constraints.proofs.Labelled.{rules_walk}
use Rattle.flow_constraints.proofs.LayoutGrows.{Below, Grows, KindBelow, body_grows, body_lists, front, goes_on, lambdas_entries, lambdas_grow, lambdas_lists, main_entries, main_grows, stays}
use Rattle.flow_constraints.proofs.NumbersFit.{Whole, entries_fit, procs_fit}
use Rattle.flow_constraints.proofs.QuotedFits.{Adds, IsPairs, PairsAt, Safe, all_add, pairs_are_pairs}
use Rattle.flow_constraints.proofs.RulesNamed.{AllNames, EntryFits, FlowFits, HasPairs, IsAtom, IsRow, Named}
use Rattle.flow_constraints.proofs.StepsNamed.{Fits, ProcsFit, procs_boxes, procs_named}

past_front : {X : Type 0} (xs ys : List X) (i : ℕ) (x : X) → slice_get ys i ≡ Some x
    → slice_get (xs ++ ys) (length xs + i) ≡ Some x
past_front [] ys i x h = let same : i ≡ 0 + i = omega arith in subst (λ n. slice_get ys n ≡ Some x) same h
past_front (z ∷ xs) ys i x h =
    let next : suc (length xs + i) ≡ suc (length xs) + i = omega arith in
    subst (λ n. slice_get (z ∷ xs ++ ys) n ≡ Some x) next (past_front xs ys i x h)

-- Kinds

fixed_below : (most n : ℕ) → AllByRecursion (KindBelow most) (replicate n Fixed)
fixed_below most zero = tt
fixed_below most (suc n) = (tt, fixed_below most n)

closures_below : (most q : ℕ) (es : List Entry) → AllByRecursion (KindBelow most) (closure_kinds q es)
closures_below most q [] = tt
closures_below most q (e ∷ es) = (tt, closures_below most (q + 1) es)

pub closures_many : (q : ℕ) (es : List Entry) → length (closure_kinds q es) ≡ length es
closures_many q [] = refl
closures_many q (e ∷ es) = ap suc (closures_many (q + 1) es)

-- the atoms before those of rest lists
abbrev early : Layout → List Kind
early u = replicate 10 Fixed ++ closure_kinds 1 u.entries

early_many : (u : Layout) → length (early u) ≡ 10 + length u.entries
early_many u =
    length-append (replicate 10 Fixed) (closure_kinds 1 u.entries)
    ∙ (ap (λ n. n + length (closure_kinds 1 u.entries)) (length-replicate 10 Fixed)
    ∙ ap (λ n. 10 + n) (closures_many 1 u.entries))

kinds_below : (most : ℕ) (u : Layout) → Below most u → AllByRecursion (KindBelow most) (kinds_of u)
kinds_below most u h =
    of_both (KindBelow most) (early u ++ u.lists) u.made
    (of_both (KindBelow most) (early u) u.lists
    (of_both (KindBelow most) (replicate 10 Fixed) (closure_kinds 1 u.entries) (fixed_below most 10)
    (closures_below most 1 u.entries))
    h.lists)
    h.made

-- the atoms of a kind

record Listed (which : Which) (kinds : List Kind) (a : ℕ) : Type 0 where
  kind : Kind
  there : slice_get kinds a ≡ Some kind
  is : is_of which kind ≡ true

atoms_listed : (which : Which) (kinds : List Kind) (a : ℕ) (ks : List Kind)
    → ((i : ℕ) (k : Kind) → slice_get ks i ≡ Some k → slice_get kinds (a + i) ≡ Some k)
    → AllByRecursion (Listed which kinds) (atoms_of which a ks)
atoms_listed which kinds a [] h = tt
atoms_listed which kinds a (k ∷ ks) h =
    of_both (Listed which kinds) (if is_of which k then a ∷ [] else []) (atoms_of which (a + 1) ks)
    (here (is_of which k) refl)
    (atoms_listed which kinds (a + 1) ks
    (λ i j e. let next : a + suc i ≡ (a + 1) + i = omega arith in subst (λ n. slice_get kinds n ≡ Some j) next (h (suc i) j e)))
  where
    here : (b : Bool) → is_of which k ≡ b → AllByRecursion (Listed which kinds) (if b then a ∷ [] else [])
    here true e =
        let same : a + 0 ≡ a = omega arith in
        (record { kind = k; there = subst (λ n. slice_get kinds n ≡ Some k) same (h 0 k refl); is = e }, tt)
    here false e = tt

all_listed : (which : Which) (kinds : List Kind) → AllByRecursion (Listed which kinds) (atoms_of which 0 kinds)
all_listed which kinds =
    atoms_listed which kinds 0 kinds
    (λ i k e. let same : i ≡ 0 + i = omega arith in subst (λ n. slice_get kinds n ≡ Some k) same e)

listed_atoms : (f : Flow) (which : Which) → AllByRecursion (IsAtom f) (atoms_of which 0 f.kinds)
listed_atoms f which =
    of_each (Listed which f.kinds) (IsAtom f) (λ a h. slice_get_within f.kinds a h.kind h.there)
    (atoms_of which 0 f.kinds) (all_listed which f.kinds)

has_pairs : (f : Flow) → ((a r : ℕ) (literal : Bool) → slice_get f.kinds a ≡ Some (Pair r literal) → IsRow f (r + 1))
    → (a r : ℕ) (literal : Bool) → slice_get f.kinds a ≡ Some (Pair r literal) → HasPairs f a
has_pairs f pair a r literal h =
    record {
      atom = slice_get_within f.kinds a (Pair r literal) h;
      parts = subst (λ o. IsRow f (contents_row o + 1)) (sym h) (pair a r literal h);
    }

pairs_listed : (f : Flow) → ((a r : ℕ) (literal : Bool) → slice_get f.kinds a ≡ Some (Pair r literal) → IsRow f (r + 1))
    → AllByRecursion (HasPairs f) (atoms_of Pairs 0 f.kinds)
pairs_listed f pair =
    of_each (Listed Pairs f.kinds) (HasPairs f) (λ a h. one a h.kind h.there h.is) (atoms_of Pairs 0 f.kinds)
    (all_listed Pairs f.kinds)
  where
    one : (a : ℕ) (k : Kind) → slice_get f.kinds a ≡ Some k → is_of Pairs k ≡ true → HasPairs f a
    one a (Pair r literal) h e = has_pairs f pair a r literal h
    one a k h e = cc

fresh_listed : (f : Flow) → ((a r : ℕ) (literal : Bool) → slice_get f.kinds a ≡ Some (Pair r literal) → IsRow f (r + 1))
    → AllByRecursion (HasPairs f) (atoms_of FreshPairs 0 f.kinds)
fresh_listed f pair =
    of_each (Listed FreshPairs f.kinds) (HasPairs f) (λ a h. one a h.kind h.there h.is) (atoms_of FreshPairs 0 f.kinds)
    (all_listed FreshPairs f.kinds)
  where
    one : (a : ℕ) (k : Kind) → slice_get f.kinds a ≡ Some k → is_of FreshPairs k ≡ true → HasPairs f a
    one a (Pair r literal) h e = has_pairs f pair a r literal h
    one a k h e = cc

contents_of : (most : ℕ) (o : Option Kind) → 0 < most → ((k : Kind) → o ≡ Some k → KindBelow most k)
    → contents_row o < most
contents_of most None some h = some
contents_of most (Some (Pair r literal)) some h = let low = h (Pair r literal) refl in omega (arith, low)
contents_of most (Some (Vector r literal)) some h = h (Vector r literal) refl
contents_of most (Some (Symbol r)) some h = h (Symbol r) refl
contents_of most (Some k) some h = some

pairs_rows : (f : Flow) → ((a r : ℕ) (literal : Bool) → slice_get f.kinds a ≡ Some (Pair r literal) → IsRow f (r + 1))
    → (a : ℕ) → PairsAt f.kinds a → IsRow f 1 → IsRow f (contents_row (slice_get f.kinds a) + 1)
pairs_rows f pair a at two = subst (λ o. IsRow f (contents_row o + 1)) (sym at.there) (one at.kind at.there at.is)
  where
    one : (k : Kind) → slice_get f.kinds a ≡ Some k → IsPairs k → IsRow f (contents_row (Some k) + 1)
    one Fixed h is = two
    one (Pair r literal) h is = pair a r literal h
    one k h is = absurd is

-- The whole program

-- so many sites stand before the first step
first_many : (p : Written) (ps : List Written) (u : Layout) → length u.entries ≡ length ps
    → length u.lists ≡ length (option_list p.rest) + rest_lists ps
    → length (early u ++ u.lists) ≡ 10 + first_sites (p ∷ ps)
first_many p ps u entries lists =
    let all = length-append (early u) u.lists in
    let before = early_many u in
    omega (arith, all, before, entries, lists)

abbrev first_layout : Written → List Written → (tops : ℕ) → Layout
first_layout p ps tops = started tops (length (p ∷ ps) - 1)

-- the layout of a program of these procedures
abbrev laid : Written → List Written → (tops : ℕ) → Layout
laid p ps tops = laid_lambdas ps (laid_main p (first_layout p ps tops))

whole_grows : (p : Written) (ps : List Written) (tops : ℕ) → Grows (first_layout p ps tops) (laid p ps tops)
whole_grows p ps tops =
    let main = laid_main p (first_layout p ps tops) in
    goes_on (first_layout p ps tops) main (laid p ps tops) (main_grows p (first_layout p ps tops)) (lambdas_grow ps main)

some_rows : (p : Written) (ps : List Written) (tops : ℕ) → 1 ≤ (laid p ps tops).rows
some_rows p ps tops =
    let begun = begins 1 (first_layout p ps tops) in
    let body = (body_grows p begun).rows in
    let more = (lambdas_grow ps (laid_main p (first_layout p ps tops))).rows in
    omega (arith, body, more)

entries_are : (p : Written) (ps : List Written) (tops : ℕ) → length (laid p ps tops).entries ≡ length ps
entries_are p ps tops =
    let none = ap length (main_entries p (first_layout p ps tops)) in
    let more = lambdas_entries ps (laid_main p (first_layout p ps tops)) in
    omega (arith, none, more)

lists_are : (p : Written) (ps : List Written) (tops : ℕ)
    → length (laid p ps tops).lists ≡ length (option_list p.rest) + rest_lists ps
lists_are p ps tops =
    let one = body_lists p (begins 1 (first_layout p ps tops)) in
    let more = lambdas_lists ps (laid_main p (first_layout p ps tops)) in
    omega (arith, one, more)

early_are : (p : Written) (ps : List Written) (tops : ℕ) → length (early (laid p ps tops)) ≡ (laid p ps tops).first_list
early_are p ps tops =
    let all = early_many (laid p ps tops) in
    let entries = entries_are p ps tops in
    let first = (whole_grows p ps tops).first in
    omega (arith, all, entries, first)

kinds_many : (p : Written) (ps : List Written) (tops : ℕ) → 10 + length ps ≤ length (kinds_of (laid p ps tops))
kinds_many p ps tops =
    let u = laid p ps tops in
    let all = length-append (early u ++ u.lists) u.made in
    let some = length-append (early u) u.lists in
    let few = early_many u in
    let entries = entries_are p ps tops in
    omega (arith, all, some, few, entries)

low_rows : (p : Written) (ps : List Written) (tops most : ℕ) → (laid p ps tops).rows ≤ most → Below most (laid p ps tops)
low_rows p ps tops most few =
    (whole_grows p ps tops).below most few (record { vars = tt; blocks = tt; lists = tt; made = tt })

-- before its literals are numbered
abbrev before_lits : Layout → Quoted
before_lits u = unquoted u.rows (kinds_of u)

whole_is : (p : Written) (ps : List Written) (tops : ℕ) (s : Quoted) → Adds (before_lits (laid p ps tops)) s
    → AllByRecursion (KindBelow s.rows) s.kinds → Whole (laid p ps tops) (first_sites (p ∷ ps)) (joined (laid p ps tops) s)
whole_is p ps tops s adds low =
    let u = laid p ps tops in
    record {
      rows = adds.rows;
      vars = λ i r h. ap (item_or 0) h;
      blocks = λ i r h. ap (item_or 0) h;
      made = λ i k h.
          let many = first_many p ps u (entries_are p ps tops) (lists_are p ps tops) in
          let place : length (early u ++ u.lists) + i ≡ 10 + (first_sites (p ∷ ps) + i) = omega (arith, many) in
          subst (λ n. slice_get s.kinds n ≡ Some k) place
          (adds.kinds (length (early u ++ u.lists) + i) k (past_front (early u ++ u.lists) u.made i k h));
      lists = λ i k h.
          subst (λ n. slice_get s.kinds (n + i) ≡ Some k) (early_are p ps tops)
          (adds.kinds (length (early u) + i) k
          (front (early u ++ u.lists) u.made (length (early u) + i) k (past_front (early u) u.lists i k h)));
      pair = λ a r literal h. all_at (KindBelow s.rows) s.kinds a (Pair r literal) low h;
    }

safe_first : (p : Written) (ps : List Written) (tops : ℕ) → Safe (before_lits (laid p ps tops))
safe_first p ps tops =
    let many = kinds_many p ps tops in
    record {
      fixed = omega (arith, many);
      pairs = record { kind = Fixed; there = refl; is = tt };
      vectors = omega (arith, many);
      texts = omega (arith, many);
    }

flow_fits : (p : Written) (ps : List Written) (tops : ℕ) (lits : List Lit)
    → FlowFits (joined (laid p ps tops) (quoted_all lits (before_lits (laid p ps tops)))) lits
flow_fits p ps tops lits =
    let u = laid p ps tops in
    let s = quoted_all lits (before_lits u) in
    let f = joined u s in
    let adds = all_add lits (before_lits u) in
    let safe = safe_first p ps tops in
    let some = some_rows p ps tops in
    let rows = adds.rows in
    let many = kinds_many p ps tops in
    let more = adds.many in
    let low_layout = low_rows p ps tops s.rows rows in
    let low = adds.below s.rows (omega arith) (kinds_below s.rows u low_layout) in
    let whole = whole_is p ps tops s adds low in
    let main = laid_main p (first_layout p ps tops) in
    let none = main_entries p (first_layout p ps tops) in
    let no_entries = ap length none in
    record {
      some_row = omega (arith, some, rows);
      fixed = omega (arith, many, more);
      vars = low_layout.vars;
      blocks = low_layout.blocks;
      contents = λ a. contents_of s.rows (slice_get s.kinds a) (omega (arith, some, rows)) (λ k e. all_at (KindBelow s.rows) s.kinds a k low e);
      pair = whole.pair;
      entries =
          entries_fit u (first_sites (p ∷ ps)) f whole ps main (stays u) (omega (arith, many, more, no_entries))
          (subst (λ es. AllByRecursion (EntryFits f) es) (sym none) tt);
      pairs = pairs_listed f whole.pair;
      fresh_pairs = fresh_listed f whole.pair;
      vectors = listed_atoms f Vectors;
      fresh_vectors = listed_atoms f FreshVectors;
      symbols = listed_atoms f Symbols;
      continuations = listed_atoms f Continuations;
      literals = adds.atoms safe (length s.kinds) (omega arith) tt;
      quoted = λ l car cdr e two.
          let same : 0 + l ≡ l = omega arith in
          pairs_rows f whole.pair (number_at s.lits l)
          (subst (λ n. PairsAt s.kinds (number_at s.lits n)) same (pairs_are_pairs lits (before_lits u) safe l car cdr e)) two;
    }

procs_of : (p : Written) (ps : List Written) (tops : ℕ) (lits : List Lit)
    → WellFormed (record { procs = p ∷ ps; tops = tops; lits = lits })
    → ProcsFit (joined (laid p ps tops) (quoted_all lits (before_lits (laid p ps tops)))) (first_sites (p ∷ ps)) (p ∷ ps)
procs_of p ps tops lits w =
    let u = laid p ps tops in
    let s = quoted_all lits (before_lits u) in
    let adds = all_add lits (before_lits u) in
    let low = adds.below s.rows (omega arith) (kinds_below s.rows u (low_rows p ps tops s.rows adds.rows)) in
    procs_fit u (first_sites (p ∷ ps)) (joined u s) (whole_is p ps tops s adds low) p ps (first_layout p ps tops) (stays u)
    (record { vars = refl; blocks = refl; sites = omega arith }) w.numbered

program_fits : (p : Written) (ps : List Written) (tops : ℕ) (lits : List Lit)
    → WellFormed (record { procs = p ∷ ps; tops = tops; lits = lits })
    → Fits (record { procs = p ∷ ps; tops = tops; lits = lits })
    (joined (laid p ps tops) (quoted_all lits (before_lits (laid p ps tops))))
program_fits p ps tops lits w =
    let u = laid p ps tops in
    let s = quoted_all lits (before_lits u) in
    let adds = all_add lits (before_lits u) in
    let many = kinds_many p ps tops in
    let more = adds.many in
    let rows = adds.rows in
    let first = (whole_grows p ps tops).rows in
    record {
      flow = flow_fits p ps tops lits;
      closures = omega (arith, many, more);
      tops = omega (arith, first, rows);
      boxes = procs_boxes (joined u s) (first_sites (p ∷ ps)) (p ∷ ps) (procs_of p ps tops lits w) w.binds;
    }

-- what is needed of the rules of a program, its limits aside
record NamesAll (g : Form) : Type 0 where
  names : AllNames (flow_of g) (rules_of g)
  some_row : 1 ≤ row_count g
  some_atom : 1 ≤ atom_count g

names_all : (procs : List Written) (tops : ℕ) (lits : List Lit)
    → WellFormed (record { procs = procs; tops = tops; lits = lits })
    → NamesAll (record { procs = procs; tops = tops; lits = lits })
names_all [] tops lits w = absurd w.bodies
names_all (p ∷ ps) tops lits w =
    let g : Form = record { procs = p ∷ ps; tops = tops; lits = lits } in
    let fits = program_fits p ps tops lits w in
    let some = fits.flow.some_row in
    let many = fits.flow.fixed in
    record {
      names =
          subst (λ rs. AllNames (flow_of g) rs) (rules_walk g)
          (procs_named (flow_of g) g fits (first_sites (p ∷ ps)) (p ∷ ps) (procs_of p ps tops lits w) w.names w.binds w.boxes);
      some_row = omega (arith, some);
      some_atom = omega (arith, many);
    }

pub all_named : (g : Form) → WellFormed g → AllNamed (row_count g) (atom_count g) (rules_of g)
all_named g w at rule e =
    all_at (Named (flow_of g)) (rules_of g) at rule (names_all g.procs g.tops g.lits w).names e

-- Limits

no_limit : (a b : Option Limit) → or_else a b ≡ None → (a ≡ None) × (b ≡ None)
no_limit None b h = (refl, h)
no_limit (Some limit) b h = cc

none_past : (which : LimitKind) (count most : ℕ) → past which count most ≡ None → count ≤ most
none_past which count most h = here (nat_le count most) refl h
  where
    here : (b : Bool) → nat_le count most ≡ b
        → ◌≡◌ {A = Option Limit} (if b then None else Some (record { which = which; count = cut count })) None → count ≤ most
    here true e h = leb-true count most e
    here false e h = cc

few_enough : (rows atoms rules : ℕ) → 1 ≤ rows → 1 ≤ atoms
    → or_else (table_limit rows atoms) (past Rules rules 8388608) ≡ None → IsFewEnough rows atoms rules
few_enough rows atoms rules some_rows some_atoms h =
    let both = no_limit (table_limit rows atoms) (past Rules rules 8388608) h in
    let more = or_else (past Atoms atoms 8192) (past Table (rows * words_of_row atoms) 4194304) in
    let table = no_limit (past Rows rows 65536) more both.0 in
    let others = no_limit (past Atoms atoms 8192) (past Table (rows * words_of_row atoms) 4194304) table.1 in
    record {
      some_rows = some_rows;
      few_rows = none_past Rows rows 65536 table.0;
      some_atoms = some_atoms;
      few_atoms = none_past Atoms atoms 8192 others.0;
      few_words = none_past Table (rows * words_of_row atoms) 4194304 others.1;
      few_rules = none_past Rules rules 8388608 both.1;
    }

pub rules_valid : (g : Form) → WellFormed g → passed g ≡ None → IsValid (row_count g) (atom_count g) (rules_of g)
rules_valid g w h =
    let all = names_all g.procs g.tops g.lits w in
    record {
      few = few_enough (row_count g) (atom_count g) (length (rules_of g)) all.some_row all.some_atom h;
      named = all_named g w;
    }
