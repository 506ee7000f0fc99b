-- Drafts of known calls over the variables that hold their operands.
use Rattle.std.proofs.Common.{ℕ, zero, suc, ◌≡◌, ◌+◌, ◌<◌, ◌≤◌, false, List, [], ◌∷◌, ◌++◌, map, length, Option, Some, None, refl, sym, ap, subst, ◌∙◌, append_assoc, arith}
use Rattle.std.specs.Prelude.{ℤ, pos}
use Rattle.scheme_base.specs.declared.pos.Pos.{Pos}
use Rattle.scheme_base.specs.declared.op.Op.{Op}
use Rattle.scheme_base.specs.declared.op.Op.TheVariants as op
use Rattle.scheme_base.specs.Constants.{Constant as constant}
use Rattle.draft_form.specs.declared.draft.Drafts.{Drafts as Table}
use Rattle.draft_form.specs.declared.draft.Variable.{Variable}
use Rattle.draft_form.specs.declared.draft.Variable.TheVariants as variable
use Rattle.draft_form.specs.Drafts.{Name, Draft, Drafts, Fresh, Const, Ref, Lambda, If, Call, Prim, none, item}
use Rattle.draft_form.specs.Drawn.{name_of, Names, Data, Drawn, AllDrawn}
use Rattle.draft_form.specs.Made.{Keeps}
use Rattle.scheme_expand.specs.declared.make.Maker.{Maker}
use Rattle.scheme_expand.specs.declared.words.Comparison.{Comparison as How}
use Rattle.scheme_expand.specs.Calls.{count, fresh, references, sum, folded, Comparison, comparison, compared, listed, bound_first, way, Differs, Compares, truth}
use Rattle.scheme_expand.specs.Making.{comparing}
use Rattle.scheme_expand.specs.Rewritten.{refs}
use Rattle.scheme_expand.specs.Stacks.{Draws}

-- Makers

-- drafts are drawn by a table alone
pub more_drawn : (m : Maker) (t : Table) → Keeps m.drafts t → Draws m (record m { drafts = t })
more_drawn m t h = record { drafts = h; scope = refl; made = refl; helpers = refl }

-- The variables

pub no_more : {A : Type 0} (xs : List A) → length xs ≡ 0 → xs ≡ []
no_more [] e = refl
no_more (x ∷ xs) e = absurd (omega (arith, e))

-- so many fresh variables from a level on
abbrev pub fresh_many : ℕ → ℕ → List Name
fresh_many k zero = []
fresh_many k (suc n) = fresh_many k n ++ Fresh (k + n) ∷ []

first_apart : (k n : ℕ) → fresh_many k (suc n) ≡ Fresh k ∷ fresh_many (suc k) n
first_apart k zero = ap (λ l. Fresh l ∷ []) (omega arith)
first_apart k (suc n) =
    let same : k + suc n ≡ suc k + n = omega arith in
    ap (λ xs. xs ++ Fresh (k + suc n) ∷ []) (first_apart k n) ∙ ap (λ l. Fresh k ∷ (fresh_many (suc k) n ++ Fresh l ∷ [])) same

pub fresh_are : (k : ℕ) (es : Drafts) → fresh_many k (count es) ≡ fresh k es
fresh_are k none = refl
fresh_are k (item e es) = first_apart k (count es) ∙ ap (λ xs. Fresh k ∷ xs) (fresh_are (suc k) es)

pub one_held : (names : Names) (vs ws : List Variable) (k n l : ℕ) → map (name_of names) vs ≡ fresh_many k n → l ≡ k + n
    → ws ≡ vs ++ variable.Fresh l ∷ [] → map (name_of names) ws ≡ fresh_many k (n + 1)
one_held names vs ws k n l h e are =
    let more : suc n ≡ n + 1 = omega arith in
    ap (map (name_of names)) are
    ∙ (mapped vs
    ∙ (ap (λ xs. xs ++ Fresh l ∷ []) h ∙ (ap (λ j. fresh_many k n ++ Fresh j ∷ []) e ∙ ap (fresh_many k) more)))
  where
    mapped : (xs : List Variable) → map (name_of names) (xs ++ variable.Fresh l ∷ []) ≡ map (name_of names) xs ++ Fresh l ∷ []
    mapped [] = refl
    mapped (x ∷ xs) = ap (λ ys. name_of names x ∷ ys) (mapped xs)

pub refs_are : (names : Names) (p : Pos) (vs : List Variable) (k : ℕ) (es : Drafts) → map (name_of names) vs ≡ fresh k es
    → refs names p vs ≡ references p k es
refs_are names p [] k none h = refl
refs_are names p [] k (item e es) h = absurd (cc)
refs_are names p (v ∷ vs) k none h = absurd (cc)
refs_are names p (v ∷ vs) k (item e es) h =
    let first : name_of names v ≡ Fresh k = cc in
    let others : map (name_of names) vs ≡ fresh (suc k) es = cc in
    ap (λ x. Ref p x ∷ refs names p vs) first ∙ ap (λ ts. Ref p (Fresh k) ∷ ts) (refs_are names p vs (suc k) es others)

-- Operands that are bound first

pub drawn_many : (names : Names) (nodes : Data) (t : Table) (ids : List ℕ) (es : Drafts) → AllDrawn names nodes t ids es
    → count es ≡ length ids
drawn_many names nodes t ids none h = ap length (sym h)
drawn_many names nodes t ids (item e es) h =
    let rest : count es ≡ length h.1 = drawn_many names nodes t h.1 es h.4 in
    ap suc rest ∙ ap length (sym h.2)

pub none_bound : (names : Names) (nodes : Data) (t : Table) (ids : List ℕ) (es : Drafts) (p : Pos) (k : ℕ) (x : Option Draft) (d : Draft)
    → AllDrawn names nodes t ids es → ids ≡ [] → bound_first p k es x ≡ Some d → x ≡ Some d
none_bound names nodes t ids none p k None d h e b = b
none_bound names nodes t ids none p k (Some f) d h e b = b
none_bound names nodes t ids (item f es) p k x d h e b = let first : ids ≡ h.0 ∷ h.1 = h.2 in absurd (cc)

-- operands that are bound to fresh variables before an expression
pub record AreBoundFirst (p : Pos) (k : ℕ) (es : Drafts) (x : Option Draft) (d : Draft) : Type 0 where
  pub body : Draft
  pub some : x ≡ Some body
  pub is : d ≡ Call p (Lambda p (fresh k es) None body) es

pub some_bound : (names : Names) (nodes : Data) (t : Table) (ids : List ℕ) (es : Drafts) (p : Pos) (k : ℕ) (x : Option Draft) (d : Draft)
    → AllDrawn names nodes t ids es → (ids ≡ [] → ⊥) → bound_first p k es x ≡ Some d → AreBoundFirst p k es x d
some_bound names nodes t ids none p k x d h absent b = absurd (absent h)
some_bound names nodes t ids (item f es) p k None d h absent b = absurd (cc)
some_bound names nodes t ids (item f es) p k (Some e) d h absent b = record { body = e; some = refl; is = cc }

-- Sums

pub few_summed : (names : Names) (p : Pos) (o : Op) (n : ℤ) (vs : List Variable) → length vs < 2
    → folded p o (Const p (constant.Integer n)) (refs names p vs) ≡ sum p o n (refs names p vs)
few_summed names p o n [] h = refl
few_summed names p o n (v ∷ []) h = refl
few_summed names p o n (v ∷ w ∷ vs) h = absurd (omega (arith, h))

pub many_summed : (names : Names) (p : Pos) (o : Op) (n : ℤ) (vs others : List Variable) (v : Variable) → 2 ≤ length vs
    → vs ≡ v ∷ others → folded p o (Ref p (name_of names v)) (refs names p others) ≡ sum p o n (refs names p vs)
many_summed names p o n vs [] v h e = absurd (let one : length vs ≡ 1 = ap length e in omega (arith, one, h))
many_summed names p o n vs (w ∷ others) v h e = ap (λ l. sum p o n (refs names p l)) (sym e)

pub differs_is : (p : Pos) (ts : List Draft) (d : Draft) → way p Differs ts ≡ Some d → sum p op.Subtract (pos 0) ts ≡ d
differs_is p [] d h = absurd (cc)
differs_is p (t ∷ []) d h = cc
differs_is p (t ∷ u ∷ ts) d h = cc

-- the operations with the variables that are left come to this
pub record Folds (names : Names) (nodes : Data) (t : Table) (p : Pos) (o : Op) (rest : List Variable) (value : ℕ) (whole : Draft) : Type 0 where
  pub now : Draft
  pub drawn : Drawn names nodes t value now
  pub come : folded p o now (refs names p rest) ≡ whole

pub next_folded : (names : Names) (nodes : Data) (a b c : Table) (p : Pos) (o : Op) (rest others : List Variable) (next : Variable)
    (value operand id : ℕ) (whole : Draft) → Folds names nodes a p o rest value whole → rest ≡ next ∷ others → Keeps a b
    → Drawn names nodes b operand (Ref p (name_of names next))
    → ((d e : Draft) → Drawn names nodes b value d → Drawn names nodes b operand e
    → Drawn names nodes c id (Prim p o (item d (item e none)))) → Folds names nodes c p o others id whole
next_folded names nodes a b c p o rest others next value operand id whole i e keeps drawn make = record {
  now = Prim p o (item i.now (item (Ref p (name_of names next)) none));
  drawn = make i.now (Ref p (name_of names next)) (keeps.one names nodes value i.now i.drawn) drawn;
  come = ap (λ vs. folded p o i.now (refs names p vs)) (sym e) ∙ i.come;
}

pub all_folded : (names : Names) (nodes : Data) (t : Table) (p : Pos) (o : Op) (rest : List Variable) (value : ℕ) (whole : Draft)
    → Folds names nodes t p o rest value whole → rest ≡ [] → Drawn names nodes t value whole
all_folded names nodes t p o rest value whole i e =
    let P : Draft → Type 0 = λ d. Drawn names nodes t value d in
    subst P (ap (λ vs. folded p o i.now (refs names p vs)) (sym e) ∙ i.come) i.drawn

-- Comparisons

pub compared_as : (names : Names) (nodes : Data) (t : Table) (id : ℕ) (p : Pos) (c h : How) (d e : Draft) → c ≡ h
    → Drawn names nodes t id (comparison p (comparing h) d e) → Drawn names nodes t id (comparison p (comparing c) d e)
compared_as names nodes t id p c h d e same drawn =
    let P : How → Type 0 = λ x. Drawn names nodes t id (comparison p (comparing x) d e) in subst P (sym same) drawn

-- the comparisons from a variable on, which is not the last
pub record Chains (names : Names) (nodes : Data) (t : Table) (p : Pos) (c : Comparison) (rest : List Variable) (next : Variable) (all : ℕ)
    (held : List Variable) : Type 0 where
  pub second : Variable
  pub after : List Variable
  pub are : held ≡ rest ++ next ∷ second ∷ after
  pub drawn : Drawn names nodes t all
      (compared p c (Ref p (name_of names next)) (Ref p (name_of names second)) (refs names p after))

pub next_chained : (names : Names) (nodes : Data) (a b t : Table) (p : Pos) (c : Comparison) (rest others held : List Variable)
    (next last : Variable) (all test falsity id : ℕ) → Chains names nodes a p c rest next all held → rest ≡ others ++ last ∷ []
    → Keeps a b → Drawn names nodes b test (comparison p c (Ref p (name_of names last)) (Ref p (name_of names next)))
    → Drawn names nodes b falsity (truth p false)
    → ((d e f : Draft) → Drawn names nodes b test d → Drawn names nodes b all e → Drawn names nodes b falsity f
    → Drawn names nodes t id (If p d e f)) → Chains names nodes t p c others last id held
next_chained names nodes a b t p c rest others held next last all test falsity id i e keeps drawn false_drawn make = record {
  second = next;
  after = i.second ∷ i.after;
  are =
      i.are
      ∙ (ap (λ l. l ++ next ∷ i.second ∷ i.after) e ∙ append_assoc others (last ∷ []) (next ∷ i.second ∷ i.after));
  drawn =
      let tests : Draft = compared p c (Ref p (name_of names next)) (Ref p (name_of names i.second)) (refs names p i.after) in
      make (comparison p c (Ref p (name_of names last)) (Ref p (name_of names next))) tests (truth p false) drawn
      (keeps.one names nodes all tests i.drawn) false_drawn;
}

pub all_chained : (names : Names) (nodes : Data) (t : Table) (p : Pos) (c : Comparison) (rest held : List Variable) (next : Variable)
    (all : ℕ) (d : Draft) → Chains names nodes t p c rest next all held → rest ≡ []
    → way p (Compares c) (refs names p held) ≡ Some d → Drawn names nodes t all d
all_chained names nodes t p c rest held next all d i e h =
    let are : held ≡ next ∷ i.second ∷ i.after = i.are ∙ ap (λ l. l ++ next ∷ i.second ∷ i.after) e in
    let is : way p (Compares c) (refs names p (next ∷ i.second ∷ i.after)) ≡ Some d =
    ap (λ l. way p (Compares c) (refs names p l)) (sym are) ∙ h
    in
    let same : compared p c (Ref p (name_of names next)) (Ref p (name_of names i.second)) (refs names p i.after) ≡ d = cc in
    let P : Draft → Type 0 = λ x. Drawn names nodes t all x in
    subst P same i.drawn

-- Lists

-- the list of the variables behind those that are left
pub record ListsBehind (names : Names) (nodes : Data) (t : Table) (p : Pos) (rest : List Variable) (list : ℕ) (held : List Variable) : Type 0 where
  pub after : List Variable
  pub are : held ≡ rest ++ after
  pub drawn : Drawn names nodes t list (listed p (refs names p after))

pub next_listed : (names : Names) (nodes : Data) (a b c : Table) (p : Pos) (rest others held : List Variable) (last : Variable)
    (list car id : ℕ) → ListsBehind names nodes a p rest list held → rest ≡ others ++ last ∷ [] → Keeps a b
    → Drawn names nodes b car (Ref p (name_of names last))
    → ((d e : Draft) → Drawn names nodes b car d → Drawn names nodes b list e
    → Drawn names nodes c id (Prim p op.Cons (item d (item e none)))) → ListsBehind names nodes c p others id held
next_listed names nodes a b c p rest others held last list car id i e keeps drawn make = record {
  after = last ∷ i.after;
  are = i.are ∙ (ap (λ l. l ++ i.after) e ∙ append_assoc others (last ∷ []) i.after);
  drawn =
      let behind : Draft = listed p (refs names p i.after) in
      make (Ref p (name_of names last)) behind drawn (keeps.one names nodes list behind i.drawn);
}

pub all_listed : (names : Names) (nodes : Data) (t : Table) (p : Pos) (rest held : List Variable) (list : ℕ)
    → ListsBehind names nodes t p rest list held → rest ≡ [] → Drawn names nodes t list (listed p (refs names p held))
all_listed names nodes t p rest held list i e =
    let P : List Variable → Type 0 = λ vs. Drawn names nodes t list (listed p (refs names p vs)) in
    subst P (sym (i.are ∙ ap (λ l. l ++ i.after) e)) i.drawn
