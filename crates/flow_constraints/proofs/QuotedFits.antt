-- The atoms and rows of literals are there.
use Rattle.std.proofs.Common.{◌≡◌, ℕ, zero, suc, ◌+◌, ◌<◌, ◌≤◌, Bool, true, false, List, [], ◌∷◌, ◌++◌, length, Some, refl, sym, ap, ◌∙◌, subst, arith, length-append}
use Rattle.std.proofs.lemmas.Option.{slice_get_within}
use Rattle.std.specs.List.{AllByRecursion}
use Rattle.std.specs.Prelude.{nat_eq, slice_get}
use Rattle.scheme_base.specs.declared.lit.Lit.{Lit}
use Rattle.scheme_base.specs.declared.lit.Lit.TheVariants as lit
use Rattle.scheme_base.specs.Operations.{item_or}
use Rattle.flow_constraints.specs.declared.flow.Kind.{Kind}
use Rattle.flow_constraints.specs.declared.flow.Kind.TheVariants.{Fixed, Pair, Vector, Text}
use Rattle.flow_constraints.specs.declared.layout.Quoted.{Quoted}
use Rattle.flow_constraints.specs.declared.layout.Shape.{Shape}
use Rattle.flow_constraints.specs.Quoted.{literal_atom, literal_put, object_begun, pairs_added, quoted_all, shape_of, texts_added, vectors_added, when}
use Rattle.flow_constraints.specs.Rows.{number_at}
use Rattle.flow_constraints.proofs.EachOf.{of_both}
use Rattle.flow_constraints.proofs.LayoutGrows.{KindBelow, front, seam}

-- an atom of pairs, or one that each program has
abbrev pub IsPairs : Kind → Type 0
IsPairs Fixed = Unit {0}
IsPairs (Pair r literal) = Unit {0}
IsPairs k = ⊥

pub record PairsAt (kinds : List Kind) (atom : ℕ) : Type 0 where
  pub kind : Kind
  pub there : slice_get kinds atom ≡ Some kind
  pub is : IsPairs kind

-- the atoms of the object that is begun are there
pub record Safe (s : Quoted) : Type 0 where
  pub fixed : 10 ≤ length s.kinds
  pub pairs : PairsAt s.kinds s.pairs
  pub vectors : s.vectors < length s.kinds
  pub texts : s.texts < length s.kinds

-- more literals are numbered
pub record Adds (s u : Quoted) : Type 0 where
  pub rows : s.rows ≤ u.rows
  pub many : length s.kinds ≤ length u.kinds
  pub kinds : (i : ℕ) (k : Kind) → slice_get s.kinds i ≡ Some k → slice_get u.kinds i ≡ Some k
  pub lits : (i a : ℕ) → slice_get s.lits i ≡ Some a → slice_get u.lits i ≡ Some a
  pub safe : Safe s → Safe u
  pub below : (most : ℕ) → u.rows ≤ most → AllByRecursion (KindBelow most) s.kinds → AllByRecursion (KindBelow most) u.kinds
  pub atoms :
      Safe s → (most : ℕ) → length u.kinds ≤ most → AllByRecursion (λ a. a < most) s.lits
      → AllByRecursion (λ a. a < most) u.lits

same : (s u : Quoted) → s.rows ≡ u.rows → s.kinds ≡ u.kinds → s.lits ≡ u.lits → (Safe s → Safe u) → Adds s u
same s u rows kinds lits safe =
    record {
      rows = omega (arith, rows);
      many = let long = ap length kinds in omega (arith, long);
      kinds = λ i k h. subst (λ ks. slice_get ks i ≡ Some k) kinds h;
      lits = λ i a h. subst (λ xs. slice_get xs i ≡ Some a) lits h;
      safe = safe;
      below = λ most few h. subst (λ ks. AllByRecursion (KindBelow most) ks) kinds h;
      atoms = λ k most few h. subst (λ xs. AllByRecursion (λ a. a < most) xs) lits h;
    }

then : (s t u : Quoted) → Adds s t → Adds t u → Adds s u
then s t u g h =
    record {
      rows = let less = g.rows in let more = h.rows in omega (arith, less, more);
      many = let less = g.many in let more = h.many in omega (arith, less, more);
      kinds = λ i k e. h.kinds i k (g.kinds i k e);
      lits = λ i a e. h.lits i a (g.lits i a e);
      safe = λ k. h.safe (g.safe k);
      below = λ most few k. let more = h.rows in h.below most few (g.below most (omega (arith, few, more)) k);
      atoms = λ k most few e. let more = h.many in h.atoms (g.safe k) most few (g.atoms k most (omega (arith, few, more)) e);
    }

-- a new atom

new_adds : (s : Quoted) (k : Kind) (n p v t : ℕ) → ((most : ℕ) → s.rows + n ≤ most → KindBelow most k)
    → (Safe s → (PairsAt (s.kinds ++ k ∷ []) p) × (v ≤ length s.kinds) × (t ≤ length s.kinds))
    → Adds s
    (record {
      rows = s.rows + n;
      kinds = s.kinds ++ k ∷ [];
      lits = s.lits;
      coming = s.coming;
      pairs = p;
      vectors = v;
      texts = t;
    })
new_adds s k n p v t low safe =
    let long = length-append s.kinds (k ∷ []) in
    record {
      rows = omega arith;
      many = omega (arith, long);
      kinds = λ i j h. front s.kinds (k ∷ []) i j h;
      lits = λ i a h. h;
      safe = λ h.
          let many = h.fixed in
          let all = safe h in
          let vectors = all.1 in
          let texts = all.2 in
          record {
            fixed = omega (arith, many, long);
            pairs = all.0;
            vectors = omega (arith, vectors, long);
            texts = omega (arith, texts, long);
          };
      below = λ most few h. of_both (KindBelow most) s.kinds (k ∷ []) h (low most few, tt);
      atoms = λ h most few e. e;
    }

pairs_stay : (s : Quoted) (k : Kind) → Safe s → PairsAt (s.kinds ++ k ∷ []) s.pairs
pairs_stay s k h =
    let at = h.pairs in
    record { kind = at.kind; there = front s.kinds (k ∷ []) s.pairs at.kind at.there; is = at.is }

less_than : (a b : ℕ) → a < b → a ≤ b
less_than a b h = omega (arith, h)

pairs_add : (s : Quoted) → Adds s (pairs_added s)
pairs_add s =
    let k = Pair s.rows true in
    new_adds s k 2 (length s.kinds) s.vectors s.texts (λ most few. omega (arith, few))
    (λ h. (
      record { kind = k; there = seam s.kinds k []; is = tt },
      less_than s.vectors (length s.kinds) h.vectors,
      less_than s.texts (length s.kinds) h.texts,
    ))

vectors_add : (s : Quoted) → Adds s (vectors_added s)
vectors_add s =
    let k = Vector s.rows true in
    new_adds s k 1 s.pairs (length s.kinds) s.texts (λ most few. omega (arith, few))
    (λ h. (pairs_stay s k h, omega arith, less_than s.texts (length s.kinds) h.texts))

texts_add : (s : Quoted) → Adds s (texts_added s)
texts_add s =
    let k = Text true in
    new_adds s k 0 s.pairs s.vectors (length s.kinds) (λ most few. tt)
    (λ h. (pairs_stay s k h, less_than s.vectors (length s.kinds) h.vectors, omega arith))

when_adds : (b : Bool) (change : Quoted → Quoted) → ((s : Quoted) → Adds s (change s)) → (s : Quoted)
    → Adds s (when b change s)
when_adds true change h s = h s
when_adds false change h s = same s s refl refl refl (λ k. k)

object_adds : (shape : Shape) (s : Quoted) → Adds s (object_begun shape s)
object_adds shape s =
    let one = when shape.pairs pairs_added s in
    let two = when shape.vectors vectors_added one in
    let three = when shape.texts texts_added two in
    then s one (object_begun shape s) (when_adds shape.pairs pairs_added pairs_add s)
    (then one two (object_begun shape s) (when_adds shape.vectors vectors_added vectors_add one)
    (then two three (object_begun shape s) (when_adds shape.texts texts_added texts_add two)
    (same three (object_begun shape s) refl refl refl
    (λ h. record { fixed = h.fixed; pairs = h.pairs; vectors = h.vectors; texts = h.texts }))))

-- the atom of a literal

atom_there : (s : Quoted) → Safe s → (l : Lit) → literal_atom s l < length s.kinds
atom_there s h (lit.Pair car cdr) = slice_get_within s.kinds s.pairs h.pairs.kind h.pairs.there
atom_there s h (lit.Vector items) = h.vectors
atom_there s h (lit.Text bytes) = h.texts
atom_there s h (lit.Boolean true) = let many = h.fixed in omega (arith, many)
atom_there s h (lit.Boolean false) = let many = h.fixed in omega (arith, many)
atom_there s h l = let many = h.fixed in omega (arith, many)

put_adds : (l : Lit) (s : Quoted) → Adds s (literal_put l s)
put_adds l s =
    record {
      rows = omega arith;
      many = omega arith;
      kinds = λ i k h. h;
      lits = λ i a h. front s.lits (literal_atom s l ∷ []) i a h;
      safe = λ h. record { fixed = h.fixed; pairs = h.pairs; vectors = h.vectors; texts = h.texts };
      below = λ most few h. h;
      atoms = λ h most few e.
          let less = atom_there s h l in
          of_both (λ a. a < most) s.lits (literal_atom s l ∷ []) e (omega (arith, few, less), tt);
    }

-- before a literal is put, its object is begun
abbrev readied : List Lit → Quoted → Quoted
readied ls s = when (nat_eq s.coming 0) (object_begun (shape_of ls)) s

readied_adds : (ls : List Lit) (s : Quoted) → Adds s (readied ls s)
readied_adds ls s = when_adds (nat_eq s.coming 0) (object_begun (shape_of ls)) (object_adds (shape_of ls)) s

pub all_add : (ls : List Lit) (s : Quoted) → Adds s (quoted_all ls s)
all_add [] s = same s s refl refl refl (λ k. k)
all_add (l ∷ ls) s =
    let ready = readied (l ∷ ls) s in
    let put = literal_put l ready in
    then s ready (quoted_all ls put) (readied_adds (l ∷ ls) s)
    (then ready put (quoted_all ls put) (put_adds l ready) (all_add ls put))

-- the atoms of literals that are pairs

when_lits : (b : Bool) (change : Quoted → Quoted) → ((s : Quoted) → (change s).lits ≡ s.lits) → (s : Quoted)
    → (when b change s).lits ≡ s.lits
when_lits true change h s = h s
when_lits false change h s = refl

object_lits : (shape : Shape) (s : Quoted) → (object_begun shape s).lits ≡ s.lits
object_lits shape s =
    let one = when shape.pairs pairs_added s in
    let two = when shape.vectors vectors_added one in
    when_lits shape.texts texts_added (λ w. refl) two
    ∙ (when_lits shape.vectors vectors_added (λ w. refl) one ∙ when_lits shape.pairs pairs_added (λ w. refl) s)

pub pairs_are_pairs : (ls : List Lit) (s : Quoted) → Safe s → (i car cdr : ℕ) → slice_get ls i ≡ Some (lit.Pair car cdr)
    → PairsAt (quoted_all ls s).kinds (number_at (quoted_all ls s).lits (length s.lits + i))
pairs_are_pairs [] s h i car cdr e = cc
pairs_are_pairs (l ∷ ls) s h zero car cdr e =
    let ready = readied (l ∷ ls) s in
    let put = literal_put l ready in
    let all = quoted_all ls put in
    let is : l ≡ lit.Pair car cdr = cc in
    let more = all_add ls put in
    let at = ((readied_adds (l ∷ ls) s).safe h).pairs in
    let place : length ready.lits ≡ length s.lits + 0 =
    ap length (when_lits (nat_eq s.coming 0) (object_begun (shape_of (l ∷ ls))) (object_lits (shape_of (l ∷ ls))) s)
    ∙ nought (length s.lits) in
    let there = more.lits (length ready.lits) (literal_atom ready l) (seam ready.lits (literal_atom ready l) []) in
    let number : ready.pairs ≡ number_at all.lits (length s.lits + 0) =
    sym
    (ap (λ n. number_at all.lits n) (sym place)
    ∙ (ap (item_or 0) there ∙ ap (literal_atom ready) is)) in
    subst (λ a. PairsAt all.kinds a) number
    (record { kind = at.kind; there = more.kinds ready.pairs at.kind at.there; is = at.is })
  where
    nought : (n : ℕ) → n ≡ n + 0
    nought n = omega arith
pairs_are_pairs (l ∷ ls) s h (suc i) car cdr e =
    let ready = readied (l ∷ ls) s in
    let put = literal_put l ready in
    let all = quoted_all ls put in
    let same_lits = ap length (when_lits (nat_eq s.coming 0) (object_begun (shape_of (l ∷ ls))) (object_lits (shape_of (l ∷ ls))) s) in
    let one = length-append ready.lits (literal_atom ready l ∷ []) in
    let place : length put.lits + i ≡ length s.lits + suc i = omega (arith, same_lits, one) in
    subst (λ n. PairsAt all.kinds (number_at all.lits n)) place
    (pairs_are_pairs ls put ((put_adds l ready).safe ((readied_adds (l ∷ ls) s).safe h)) i car cdr e)
