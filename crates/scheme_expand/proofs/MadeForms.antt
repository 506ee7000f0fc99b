-- What the steps of the forms that bind nothing make: names, constants, conditionals, assignments, sequences, `and`,
-- `or` and calls.
use Rattle.std.proofs.Common.{Bor, ℕ, zero, suc, ◌≡◌, ◌+◌, ◌-◌, ◌≤◌, List, [], ◌∷◌, ◌++◌, Bool, true, false, if◌then◌else◌, get_or, length, nat_lt, Option, Some, None, refl, sym, ap, ap₂, subst, ◌∙◌, append-nil, arith, ltb-true, ltb-false}
use Rattle.std.proofs.lemmas.List.{length-map}
use Rattle.scheme_base.specs.declared.pos.Pos.{Pos}
use Rattle.scheme_base.specs.Constants.{Constant, Constant as constant}
use Rattle.datum_form.specs.declared.token.Atom.TheVariants.{Integer, Boolean, Character, String, Symbol}
use Rattle.datum_form.specs.Data.{Datum, Datum as datum, Items}
use Rattle.datum_form.specs.Data.Items.{none, item}
use Rattle.datum_form.specs.Pending.{IsKind}
use Rattle.datum_form.specs.Stands.{StandAll}
use Rattle.datum_form.specs.declared.datums.Kind.{Kind}
use Rattle.datum_form.specs.declared.datums.Kind.TheVariants as kind
use Rattle.scheme_expand.specs.declared.expander.Expander.{Expander}
use Rattle.scheme_expand.specs.declared.source.Source.{Source}
use Rattle.scheme_expand.specs.declared.step.Step.TheVariants as step
use Rattle.scheme_expand.specs.declared.words.Keyword.{Keyword}
use Rattle.scheme_expand.specs.Calls.{count, one, two, truth}
use Rattle.scheme_expand.specs.Faults.{fault, in_exp, in_exps, in_word}
use Rattle.scheme_expand.specs.Forms.{Word, Exp, Exps, Wrong, Value, Variable, Application, OneArmed, TwoArmed, And, Or, no_exp, exp}
use Rattle.scheme_expand.specs.Grammar.{word, expr, exprs, if_form, set_form, begin_form}
use Rattle.scheme_expand.specs.Making.{makes, given_two, instead, taken, left_of, sequenced, conjoined, alternated, ComesTo, IsRight, AreRight}
use Rattle.scheme_expand.specs.Rewriting.{Scope, call, core, cores, either, and_core, or_core, level, meaning, unnamed, unspecified, within}
use Rattle.scheme_expand.specs.Viewed.{IsView, Leaves, Puts, Spells, Turns}
use Rattle.scheme_expand.specs.Views.{Context, View, Bound, bound_names, scope_of, height, noting, pushed, visit, visit_all, seen, all_seen, bind, leave, lowered, below}
use Rattle.scheme_expand.specs.Shapes.{ReadTail, with_end}
use Rattle.scheme_expand.specs.Waiting.{Reads, ReadAll, keyword_of, named_datum, place, name_of as name_of_keyword}
use Rattle.scheme_expand.proofs.Arms.{Two, Three}
use Rattle.scheme_expand.proofs.Coming.{leave_then_put, leaves_as, leaves_turn, one_comes, puts_turn, puts_twice, turns_as}
use Rattle.scheme_expand.proofs.Expanding.{right_parts}
use Rattle.scheme_expand.proofs.Named.{begins, calls, is_name, keyword_fault, keyword_name, named}
use Rattle.scheme_expand.proofs.Noting.{Alike, alike, alike_behind, alike_both, alike_held, alike_referred, alike_swap, alike_twice, all_seen_is, leave_visit, left_of_all, length-raised, noting_alike, noting_both, noting_none, noting_scope, same_scope, sequence_standing, standing, taken_all, visit_all_is, visit_scope, made_before}
use Rattle.scheme_expand.proofs.Parts.{first_of, joined, last_of, no_items}
use Rattle.draft_form.specs.declared.draft.Variable.{Variable as Meant}
use Rattle.draft_form.specs.Drafts.{Name, Draft, Drafts, Fresh, Const, Ref, Lambda, If, Set, Call, Seq, item as draft_before, Held, Changed, parts}
use Rattle.draft_form.specs.Drawn.{name_of, word_name}
use Rattle.draft_form.specs.Quoted.{constant_of}

-- Drafts that change nothing

pub visit_same : (c : Context) (d : Draft) (v : View) → Alike (parts d) [] → visit c d v ≡ pushed d v
visit_same c d v a = ap (pushed d) (noting_alike c (parts d) [] v a ∙ noting_none c v)

pub constant_same : (c : Context) (p : Pos) (a : Constant) (v : View) → visit c (Const p a) v ≡ pushed (Const p a) v
constant_same c p a v = visit_same c (Const p a) v (alike_held a [])

pub reference_same : (c : Context) (p : Pos) (x : Name) (v : View) → visit c (Ref p x) v ≡ pushed (Ref p x) v
reference_same c p x v = visit_same c (Ref p x) v (alike_referred x [])

-- Names

-- a name where it stands
pub name_seen : (c : Context) (a b z : Expander) (v : View) (w : Word) (word : ℕ) (r : Meant) (p : Pos) → IsView c a v
    → Puts a b [] → Spells c.names word w.name → name_of c.names r ≡ meaning (scope_of c v) (word_name c.names word)
    → Puts b z (step.Reference p r ∷ []) → w.place ≡ p → Turns c a z (seen c (Variable w) v)
name_seen c a b z v w word r p i before spells means after place =
    let x : Name = meaning (scope_of c v) w.name in
    let same : name_of c.names r ≡ x = means ∙ ap (meaning (scope_of c v)) spells.1 in
    puts_turn c a z v (seen c (Variable w) v) (step.Reference p r ∷ []) i
    (puts_twice a b z [] (step.Reference p r ∷ []) before after)
    (one_comes c (step.Reference p r) v (seen c (Variable w) v)
    (reference_same c w.place x v ∙ ap₂ (λ q y. pushed (Ref q y) v) place (sym same)))

-- Several expressions

pub read_count : (c : Context) (ids : List ℕ) (ds : Items) (s : Scope) → ReadAll c.source ids ds
    → length ids ≡ count (cores (exprs ds) s)
read_count c ids ds s h = each ids ds h.stand
  where
    each : (is : List ℕ) (es : Items) → StandAll c.source.nodes.now is es → length is ≡ count (cores (exprs es) s)
    each is none h = ap length h
    each is (item e es) h =
        let rest : length h.1 ≡ count (cores (exprs es) s) = each h.1 es h.4 in ap length h.2 ∙ ap suc rest

-- a sequence is made of what is made last
pub sequence_made : (c : Context) (p : Pos) (n : ℕ) (es : Exps) (v : View) → n ≡ count (cores es (scope_of c v))
    → makes c (step.Sequence p n) (all_seen c es v) ≡ sequenced c p es v
sequence_made c p n es v e =
    let ds : Drafts = cores es (scope_of c v) in
    let u : View = all_seen c es v in
    let made : u.made ≡ made_before ds v.made =
    ap (λ w. w.made) (all_seen_is c es v) ∙ ap (λ w. w.made) (visit_all_is c ds v) in
    ap₂ (λ left es. instead u left (Seq p es)) (ap (left_of n) made ∙ left_of_all n ds v.made e)
    (ap (taken n) made ∙ taken_all n ds v.made e)

pub sequence_turns : (c : Context) (a z : Expander) (p : Pos) (n : ℕ) (ids : Bor (List ℕ)) (v : View) (ds : Items)
    → IsView c a v → ReadAll c.source ids.now ds → AreRight (exprs ds) → n ≡ length ids.now
    → Puts a z (step.Sequence p n ∷ step.Exprs ids ∷ []) → Turns c a z (sequenced c p (exprs ds) v)
sequence_turns c a z p n ids v ds i h r e puts =
    let u : View = all_seen c (exprs ds) v in
    puts_turn c a z v (sequenced c p (exprs ds) v) (step.Sequence p n ∷ step.Exprs ids ∷ []) i puts (
      u,
      one_comes c (step.Exprs ids) v u (ds, h, r, refl),
      sym (sequence_made c p n (exprs ds) v (e ∙ read_count c ids.now ds (scope_of c v) h)),
    )

-- Rightness of the last of some expressions

pub right_joined : (os : Items) (d : Datum) → AreRight (exprs (joined os (item d none)))
    → AreRight (exprs os) × IsRight (expr d)
right_joined none d h = (refl, (right_parts (in_exp (expr d)) [] h).0)
right_joined (item o os) d h =
    let parts = right_parts (in_exp (expr o)) (in_exps (exprs (joined os (item d none)))) h in
    let rest = right_joined os d parts.1 in
    (ap₂ (λ x y. x ++ y) parts.0 rest.0, rest.1)

pub record LastRight (c : Context) (ids : List ℕ) (id : ℕ) (ds : Items) : Type 0 where
  pub others : Items
  pub datum : Datum
  pub are : ds ≡ joined others (item datum none)
  pub rest : ReadAll c.source ids others
  pub last : Reads c.source id datum
  pub right_rest : AreRight (exprs others)
  pub right_last : IsRight (expr datum)

pub last_right : (c : Context) (all ids : List ℕ) (id : ℕ) (ds : Items) → all ≡ ids ++ id ∷ [] → ReadAll c.source all ds
    → AreRight (exprs ds) → LastRight c ids id ds
last_right c all ids id ds e h r =
    let l = last_of c.source all ids id ds e h in
    let P : Items → Type 0 = λ es. AreRight (exprs es) in
    let q = right_joined l.others l.datum (subst P l.are r) in
    record {
      others = l.others;
      datum = l.datum;
      are = l.are;
      rest = l.rest;
      last = l.last;
      right_rest = q.0;
      right_last = q.1;
    }

-- `and`

-- an operand of an `and` before the others
pub conjunct : (c : Context) (p : Pos) (e : Exp) (rest : Draft) (v : View)
    → makes c (step.Both p) (seen c e (visit c rest v)) ≡ visit c (If p (core e (scope_of c v)) rest (truth p false)) v
conjunct c p e rest v =
    let here : Draft = core e (scope_of c v) in
    let whole : Draft = If p here rest (truth p false) in
    ap (λ s. makes c (step.Both p) (visit c (core e s) (visit c rest v))) (visit_scope c rest v)
    ∙ standing c (two rest here) whole v
    (alike_twice (parts rest ++ (parts here ++ [])) (parts here ++ parts rest) (parts whole)
    (alike_twice (parts rest ++ (parts here ++ [])) (parts rest ++ parts here) (parts here ++ parts rest)
    (alike (parts rest ++ (parts here ++ [])) (parts rest ++ parts here) (ap (λ q. parts rest ++ q) (append-nil (parts here))))
    (alike_swap (parts rest) (parts here)))
    (alike_both (parts here) (parts here) (parts rest) (parts rest ++ Held (constant.Boolean false) ∷ [])
    (alike (parts here) (parts here) refl)
    (alike_behind (parts rest) (Held (constant.Boolean false) ∷ []) (alike_held (constant.Boolean false) []))))

and_more : (p : Pos) (s : Scope) (e : Exp) (os : Items) (d : Datum)
    → and_core (exp e (exprs (joined os (item d none)))) p s
    ≡ If p (core e s) (and_core (exprs (joined os (item d none))) p s) (truth p false)
and_more p s e none d = refl
and_more p s e (item o os) d = refl

-- operands before the last one
pub and_made : (c : Context) (p : Pos) (os : Items) (d : Datum) (v : View)
    → conjoined c p (exprs os) (seen c (expr d) v) ≡ seen c (And p (exprs (joined os (item d none)))) v
and_made c p none d v = refl
and_made c p (item o os) d v =
    ap (λ u. makes c (step.Both p) (seen c (expr o) u)) (and_made c p os d v)
    ∙ (conjunct c p (expr o) (and_core (exprs (joined os (item d none))) p (scope_of c v)) v
    ∙ ap (λ e. visit c e v) (sym (and_more p (scope_of c v) (expr o) os d)))

pub and_turns : (c : Context) (a z : Expander) (p : Pos) (all : List ℕ) (others : Bor (List ℕ)) (last : ℕ) (v : View)
    (ds : Items) → IsView c a v → all ≡ others.now ++ last ∷ [] → ReadAll c.source all ds → AreRight (exprs ds)
    → Puts a z (step.Conjuncts p others ∷ step.Expr last ∷ []) → Turns c a z (seen c (And p (exprs ds)) v)
and_turns c a z p all others last v ds i e h r puts =
    let l = last_right c all others.now last ds e h r in
    let u : View = seen c (expr l.datum) v in
    puts_turn c a z v (seen c (And p (exprs ds)) v) (step.Conjuncts p others ∷ step.Expr last ∷ []) i puts (
      u,
      one_comes c (step.Expr last) v u (l.datum, l.last, l.right_last, refl),
      (
        l.others,
        l.rest,
        l.right_rest,
        ap (λ es. seen c (And p (exprs es)) v) l.are ∙ sym (and_made c p l.others l.datum v),
      ),
    )

pub none_conjoined : (c : Context) (p : Pos) (ids : List ℕ) (ds : Items) (v : View) → ids ≡ [] → ReadAll c.source ids ds
    → v ≡ conjoined c p (exprs ds) v
none_conjoined c p ids ds v e h = ap (λ es. conjoined c p (exprs es) v) (sym (no_items c.source ids ds e h))

-- the last operand is the first to be done
conjoined_last : (c : Context) (p : Pos) (os : Items) (d : Datum) (v : View)
    → conjoined c p (exprs (joined os (item d none))) v
    ≡ conjoined c p (exprs os) (makes c (step.Both p) (seen c (expr d) v))
conjoined_last c p none d v = refl
conjoined_last c p (item o os) d v = ap (λ u. makes c (step.Both p) (seen c (expr o) u)) (conjoined_last c p os d v)

pub conjuncts_turn : (c : Context) (a z : Expander) (p : Pos) (all : List ℕ) (others : Bor (List ℕ)) (last : ℕ) (v : View)
    (ds : Items) → IsView c a v → all ≡ others.now ++ last ∷ [] → ReadAll c.source all ds → AreRight (exprs ds)
    → Puts a z (step.Conjuncts p others ∷ step.Both p ∷ step.Expr last ∷ []) → Turns c a z (conjoined c p (exprs ds) v)
conjuncts_turn c a z p all others last v ds i e h r puts =
    let l = last_right c all others.now last ds e h r in
    let u : View = seen c (expr l.datum) v in
    let w : View = makes c (step.Both p) u in
    puts_turn c a z v (conjoined c p (exprs ds) v) (step.Conjuncts p others ∷ step.Both p ∷ step.Expr last ∷ []) i puts (
      w,
      (u, one_comes c (step.Expr last) v u (l.datum, l.last, l.right_last, refl), refl),
      (
        l.others,
        l.rest,
        l.right_rest,
        ap (λ es. conjoined c p (exprs es) v) l.are ∙ conjoined_last c p l.others l.datum v,
      ),
    )

-- `or`

height_names : (c : Context) (v : View) → level (scope_of c v) ≡ height v
height_names c v = length-map v.bound (λ b. b.name)

-- a value is held round what is made in its scope
pub held : (c : Context) (p : Pos) (e : Exp) (rest : Scope → Draft) (v : View)
    → makes c (step.Either p (height v)) (seen c e (visit c (rest (within (scope_of c v) ([] ∷ []))) v))
    ≡ visit c (either p (scope_of c v) (core e (scope_of c v)) rest) v
held c p e rest v =
    let s : Scope = scope_of c v in
    let here : Draft = core e s in
    let inner : Draft = rest (within s ([] ∷ [])) in
    let test : ℕ → Draft = λ k. If p (Ref p (Fresh k)) (Ref p (Fresh k)) inner in
    let whole : ℕ → Draft = λ k. Call p (Lambda p (Fresh k ∷ []) None (test k)) (one here) in
    ap (λ t. makes c (step.Either p (height v)) (visit c (core e t) (visit c inner v))) (visit_scope c inner v)
    ∙ (standing c (two inner here) (whole (height v)) v
    (record { levels = λ k n. refl; names = λ x. refl })
    ∙ ap (λ k. visit c (whole k) v) (sym (height_names c v)))

or_more : (p : Pos) (s : Scope) (e : Exp) (os : Items) (d : Datum)
    → or_core (exp e (exprs (joined os (item d none)))) p s
    ≡ either p s (core e s) (or_core (exprs (joined os (item d none))) p)
or_more p s e none d = refl
or_more p s e (item o os) d = refl

below_raised : (c : Context) (d : Draft) (v : View) → below (height (visit c d (bind ([] ∷ []) v))) ≡ height v
below_raised c d v = length-raised (parts d) v.bound

-- an operand round those after it, of which the first is made in the scope of one more variable
alternative : (c : Context) (p : Pos) (e : Exp) (rest : Scope → Draft) (v : View)
    → (let u : View = visit c (rest (within (scope_of c v) ([] ∷ []))) (bind ([] ∷ []) v) in
    let k : ℕ = below (height u) in
    makes c (step.Either p k) (seen c e (leave k u)))
    ≡ visit c (either p (scope_of c v) (core e (scope_of c v)) rest) v
alternative c p e rest v =
    let inner : Draft = rest (within (scope_of c v) ([] ∷ [])) in
    let u : View = visit c inner (bind ([] ∷ []) v) in
    ap (λ k. makes c (step.Either p k) (seen c e (leave k u))) (below_raised c inner v)
    ∙ (ap (λ w. makes c (step.Either p (height v)) (seen c e w)) (leave_visit c ([] ∷ []) inner v) ∙ held c p e rest v)

abbrev pub size : Items → ℕ
size none = zero
size (item d ds) = suc (size ds)

pub or_made : (c : Context) (p : Pos) (os : Items) (d : Datum) (v : View)
    → alternated c p (exprs os) (seen c (expr d) (bind (unnamed (size os)) v))
    ≡ seen c (Or p (exprs (joined os (item d none)))) v
or_made c p none d v = refl
or_made c p (item o os) d v =
    ap (λ u. makes c (step.Either p (below (height u))) (seen c (expr o) (leave (below (height u)) u)))
    (or_made c p os d (bind ([] ∷ []) v))
    ∙ (alternative c p (expr o) (or_core (exprs (joined os (item d none))) p) v
    ∙ ap (λ e. visit c e v) (sym (or_more p (scope_of c v) (expr o) os d)))

read_size : (c : Context) (ids : List ℕ) (ds : Items) → ReadAll c.source ids ds → length ids ≡ size ds
read_size c ids ds h = each ids ds h.stand
  where
    each : (is : List ℕ) (es : Items) → StandAll c.source.nodes.now is es → length is ≡ size es
    each is none h = ap length h
    each is (item e es) h = let rest : length h.1 ≡ size es = each h.1 es h.4 in ap length h.2 ∙ ap suc rest

pub or_turns : (c : Context) (a b z : Expander) (p : Pos) (all : List ℕ) (others : Bor (List ℕ)) (last level n : ℕ) (v : View)
    (ds : Items) → all ≡ others.now ++ last ∷ [] → ReadAll c.source all ds → AreRight (exprs ds) → n ≡ length others.now
    → Leaves c a b (bind (unnamed n) v) → level ≡ height (bind (unnamed n) v)
    → Puts b z (step.Alternatives p others level ∷ step.Expr last ∷ []) → Turns c a z (seen c (Or p (exprs ds)) v)
or_turns c a b z p all others last level n v ds e h r many leaves here puts =
    let l = last_right c all others.now last ds e h r in
    let w : View = bind (unnamed n) v in
    let u : View = seen c (expr l.datum) w in
    let same : n ≡ size l.others = many ∙ read_size c others.now l.others l.rest in
    leave_then_put c a b z w (seen c (Or p (exprs ds)) v) (step.Alternatives p others level ∷ step.Expr last ∷ []) leaves puts (
      u,
      one_comes c (step.Expr last) w u (l.datum, l.last, l.right_last, refl),
      (
        l.others,
        l.rest,
        l.right_rest,
        here ∙ sym (length-raised (parts (core (expr l.datum) (scope_of c w))) w.bound),
        ap (λ es. seen c (Or p (exprs es)) v) l.are
            ∙ (sym (or_made c p l.others l.datum v)
            ∙ ap (λ k. alternated c p (exprs l.others) (seen c (expr l.datum) (bind (unnamed k) v))) (sym same)),
      ),
    )

pub none_alternated : (c : Context) (p : Pos) (ids : List ℕ) (ds : Items) (v : View) → ids ≡ [] → ReadAll c.source ids ds
    → v ≡ alternated c p (exprs ds) v
none_alternated c p ids ds v e h = ap (λ es. alternated c p (exprs es) v) (sym (no_items c.source ids ds e h))

-- the last operand is the first to be done
alternated_last : (c : Context) (p : Pos) (os : Items) (d : Datum) (v : View)
    → alternated c p (exprs (joined os (item d none))) v
    ≡ alternated c p (exprs os) (makes c (step.Either p (below (height v))) (seen c (expr d) (leave (below (height v)) v)))
alternated_last c p none d v = refl
alternated_last c p (item o os) d v =
    ap (λ u. makes c (step.Either p (below (height u))) (seen c (expr o) (leave (below (height u)) u)))
    (alternated_last c p os d v)

two_bound : (v : View) (ds : List Draft) (f : Draft → Draft → Draft) → (given_two v ds f).bound ≡ v.bound
two_bound v [] f = refl
two_bound v (d ∷ []) f = refl
two_bound v (d ∷ e ∷ ds) f = refl

pub length-lowered : (k : ℕ) (bs : List Bound) → k ≤ length bs → length (lowered k bs) ≡ k
length-lowered k [] h = omega arith
length-lowered k (b ∷ bs) h = decided (nat_lt (length bs) k) refl (length-lowered k bs)
  where
    decided : (t : Bool) → nat_lt (length bs) k ≡ t → (k ≤ length bs → length (lowered k bs) ≡ k)
        → length (if t then b ∷ bs else lowered k bs) ≡ k
    decided true e rest = omega (arith, ltb-true (length bs) k e)
    decided false e rest = rest (omega (arith, ltb-false (length bs) k e))

below_less : (k : ℕ) → below k ≤ k
below_less zero = omega arith
below_less (suc k) = omega arith

pub below_is : (k : ℕ) → k - 1 ≡ below k
below_is zero = omega arith
below_is (suc k) = omega arith

pub alternatives_turn : (c : Context) (a b z : Expander) (p : Pos) (all : List ℕ) (others : Bor (List ℕ)) (last k : ℕ) (v : View)
    (ds : Items) → all ≡ others.now ++ last ∷ [] → ReadAll c.source all ds → AreRight (exprs ds) → k ≡ below (height v)
    → Leaves c a b (leave k v) → Puts b z (step.Alternatives p others k ∷ step.Either p k ∷ step.Expr last ∷ [])
    → Turns c a z (alternated c p (exprs ds) v)
alternatives_turn c a b z p all others last k v ds e h r here leaves puts =
    let l = last_right c all others.now last ds e h r in
    let u : View = seen c (expr l.datum) (leave k v) in
    let w : View = makes c (step.Either p k) u in
    let high : k ≤ height v = let most = below_less (height v) in omega (arith, here) in
    let level : k ≡ height w =
    sym
    (ap length (two_bound u u.made _)
    ∙ (length-raised (parts (core (expr l.datum) (scope_of c (leave k v)))) (lowered k v.bound)
    ∙ length-lowered k v.bound high)) in
    leave_then_put c a b z (leave k v) (alternated c p (exprs ds) v)
    (step.Alternatives p others k ∷ step.Either p k ∷ step.Expr last ∷ []) leaves puts (
      w,
      (u, one_comes c (step.Expr last) (leave k v) u (l.datum, l.last, l.right_last, refl), refl),
      (
        l.others,
        l.rest,
        l.right_rest,
        level,
        ap (λ es. alternated c p (exprs es) v) l.are
            ∙ (alternated_last c p l.others l.datum v
            ∙ ap (λ j. alternated c p (exprs l.others) (makes c (step.Either p j) (seen c (expr l.datum) (leave j v)))) (sym here)),
      ),
    )

-- Conditional expressions

pub conditional_made : (c : Context) (p : Pos) (test this that : Draft) (v : View)
    → makes c (step.If p) (visit c that (visit c this (visit c test v))) ≡ visit c (If p test this that) v
conditional_made c p test this that v =
    standing c (draft_before test (two this that)) (If p test this that) v
    (alike (parts test ++ (parts this ++ (parts that ++ []))) (parts (If p test this that))
    (ap (λ q. parts test ++ (parts this ++ q)) (append-nil (parts that))))

-- expressions after others, where these stand
second_seen : (c : Context) (e : Exp) (d : Draft) (v : View)
    → seen c e (visit c d v) ≡ visit c (core e (scope_of c v)) (visit c d v)
second_seen c e d v = ap (λ s. visit c (core e s) (visit c d v)) (visit_scope c d v)

pub if_made : (c : Context) (p : Pos) (test this : Exp) (v : View)
    → makes c (step.If p) (pushed (unspecified p) (seen c this (seen c test v))) ≡ seen c (OneArmed p test this) v
if_made c p test this v =
    let s : Scope = scope_of c v in
    ap (λ u. makes c (step.If p) (pushed (unspecified p) u)) (second_seen c this (core test s) v)
    ∙ (ap (makes c (step.If p))
    (sym (constant_same c p constant.Unspecified (visit c (core this s) (visit c (core test s) v))))
    ∙ conditional_made c p (core test s) (core this s) (unspecified p) v)

pub if_else_made : (c : Context) (p : Pos) (test this that : Exp) (v : View)
    → makes c (step.If p) (seen c that (seen c this (seen c test v))) ≡ seen c (TwoArmed p test this that) v
if_else_made c p test this that v =
    let s : Scope = scope_of c v in
    let one_made : View = visit c (core test s) v in
    ap (λ u. makes c (step.If p) (seen c that u)) (second_seen c this (core test s) v)
    ∙ (ap (λ t. makes c (step.If p) (visit c (core that t) (visit c (core this s) one_made)))
    (visit_scope c (core this s) one_made ∙ visit_scope c (core test s) v)
    ∙ conditional_made c p (core test s) (core this s) (core that s) v)

pub if_turns : (c : Context) (a z : Expander) (p : Pos) (ids : List ℕ) (ds : Items) (v : View) → IsView c a v
    → Two c.source ids ds → IsRight (if_form p ds)
    → Puts a z (step.If p ∷ step.Unspecified p ∷ step.Expr (get_or ids 1 0) ∷ step.Expr (get_or ids 0 0) ∷ [])
    → Turns c a z (seen c (if_form p ds) v)
if_turns c a z p ids ds v i t r puts =
    let P : Items → Type 0 = λ es. IsRight (if_form p es) in
    let q = right_parts (in_exp (expr t.test)) (in_exp (expr t.yes)) (subst P t.are r) in
    let u : View = seen c (expr t.test) v in
    let w : View = seen c (expr t.yes) u in
    puts_turn c a z v (seen c (if_form p ds) v)
    (step.If p ∷ step.Unspecified p ∷ step.Expr (get_or ids 1 0) ∷ step.Expr (get_or ids 0 0) ∷ []) i puts (
      pushed (unspecified p) w,
      (w, (u, one_comes c (step.Expr (get_or ids 0 0)) v u (t.test, t.read_test, q.0, refl), (t.yes, t.read_yes, q.1, refl)), refl),
      ap (λ es. seen c (if_form p es) v) t.are ∙ sym (if_made c p (expr t.test) (expr t.yes) v),
    )

pub if_else_turns : (c : Context) (a z : Expander) (p : Pos) (ids : List ℕ) (ds : Items) (v : View) → IsView c a v
    → Three c.source ids ds → IsRight (if_form p ds)
    → Puts a z (step.If p ∷ step.Expr (get_or ids 2 0) ∷ step.Expr (get_or ids 1 0) ∷ step.Expr (get_or ids 0 0) ∷ [])
    → Turns c a z (seen c (if_form p ds) v)
if_else_turns c a z p ids ds v i t r puts =
    let P : Items → Type 0 = λ es. IsRight (if_form p es) in
    let q = right_parts (in_exp (expr t.test)) (in_exp (expr t.yes) ++ in_exp (expr t.no)) (subst P t.are r) in
    let arms = right_parts (in_exp (expr t.yes)) (in_exp (expr t.no)) q.1 in
    let u : View = seen c (expr t.test) v in
    let w : View = seen c (expr t.yes) u in
    let x : View = seen c (expr t.no) w in
    puts_turn c a z v (seen c (if_form p ds) v)
    (step.If p ∷ step.Expr (get_or ids 2 0) ∷ step.Expr (get_or ids 1 0) ∷ step.Expr (get_or ids 0 0) ∷ []) i puts (
      x,
      (
        w,
        (u, one_comes c (step.Expr (get_or ids 0 0)) v u (t.test, t.read_test, q.0, refl), (t.yes, t.read_yes, arms.0, refl)),
        (t.no, t.read_no, arms.1, refl),
      ),
      ap (λ es. seen c (if_form p es) v) t.are ∙ sym (if_else_made c p (expr t.test) (expr t.yes) (expr t.no) v),
    )

-- Broken forms

pub wrong_not_right : (p : Pos) (n : ℕ) (e : Exp) → e ≡ Wrong p n → IsRight e → ⊥
wrong_not_right p n e same r = let none : in_exp (Wrong p n) ≡ [] = subst (λ (f : Exp). IsRight f) same r in cc

-- Constants and `begin`

pub constant_turns : (c : Context) (a z : Expander) (p : Pos) (x : Constant) (v : View) (e : Exp)
    → Leaves c a z (pushed (Const p x) v) → e ≡ Value p x → Turns c a z (seen c e v)
constant_turns c a z p x v e l same =
    leaves_turn c a z (seen c e v)
    (leaves_as c a z (pushed (Const p x) v) (seen c e v) (sym (constant_same c p x v) ∙ ap (λ f. seen c f v) (sym same)) l)

-- a form without operands that is a constant
pub none_turns : (c : Context) (a z : Expander) (p : Pos) (ids : List ℕ) (x : Constant) (form : Exps → Exp) (v : View)
    (ds : Items) → ids ≡ [] → ReadAll c.source ids ds → core (form no_exp) (scope_of c v) ≡ Const p x
    → Leaves c a z (pushed (Const p x) v) → Turns c a z (seen c (form (exprs ds)) v)
none_turns c a z p ids x form v ds e h is l =
    leaves_turn c a z (seen c (form (exprs ds)) v)
    (leaves_as c a z (pushed (Const p x) v) (seen c (form (exprs ds)) v)
    (sym (constant_same c p x v)
    ∙ (ap (λ d. visit c d v) (sym is) ∙ ap (λ es. seen c (form (exprs es)) v) (sym (no_items c.source ids ds e h))))
    l)

-- a `begin` of some expressions
pub begin_turns : (c : Context) (a z : Expander) (p : Pos) (ids : List ℕ) (ds : Items) (v : View) → (ids ≡ [] → ⊥)
    → ReadAll c.source ids ds → IsRight (begin_form p ds)
    → (AreRight (exprs ds) → Turns c a z (sequenced c p (exprs ds) v)) → Turns c a z (seen c (begin_form p ds) v)
begin_turns c a z p ids none v some h r turn = absurd (some h.stand)
begin_turns c a z p ids (item d ds) v some h r turn =
    turns_as c a z (sequenced c p (exprs (item d ds)) v) (seen c (begin_form p (item d ds)) v)
    (sequence_standing c p (exprs (item d ds)) v) (turn r)

pub begin_not_right : (c : Context) (p : Pos) (ids : List ℕ) (ds : Items) → ids ≡ [] → ReadAll c.source ids ds
    → IsRight (begin_form p ds) → ⊥
begin_not_right c p ids ds e h r =
    wrong_not_right p 10 (begin_form p ds) (ap (begin_form p) (no_items c.source ids ds e h)) r

-- Assignments

-- a variable is assigned, and its value made in its place
pub set_made : (c : Context) (p : Pos) (x : Meant) (e : Exp) (v : View)
    → makes c (step.Assign p x) (seen c e (noting c (Changed (name_of c.names x) ∷ []) v))
    ≡ visit c (Set p (name_of c.names x) (core e (scope_of c v))) v
set_made c p x e v =
    let s : Scope = scope_of c v in
    let noted : View = noting c (Changed (name_of c.names x) ∷ []) v in
    let here : Draft = core e s in
    ap (λ t. makes c (step.Assign p x) (visit c (core e t) noted)) (noting_scope c (Changed (name_of c.names x) ∷ []) v)
    ∙ ap (pushed (Set p (name_of c.names x) here)) (sym (noting_both c (Changed (name_of c.names x) ∷ []) (parts here) v))

pub set_turns : (c : Context) (a d z : Expander) (p : Pos) (ids : List ℕ) (ds : Items) (w : Word) (e : Datum) (r : Meant)
    (word : ℕ) (v : View) → ds ≡ item (named_datum w) (item e none) → Reads c.source (get_or ids 1 0) e
    → Spells c.names word w.name → name_of c.names r ≡ meaning (scope_of c v) (word_name c.names word)
    → IsRight (set_form p ds) → Leaves c a d (noting c (Changed (name_of c.names r) ∷ []) v)
    → Puts d z (step.Assign p r ∷ step.Expr (get_or ids 1 0) ∷ []) → Turns c a z (seen c (set_form p ds) v)
set_turns c a d z p ids ds w e r word v are h spells means right leaves puts =
    let P : Items → Type 0 = λ es. IsRight (set_form p es) in
    let q = right_parts (in_word w) (in_exp (expr e)) (subst P are right) in
    let s : Scope = scope_of c v in
    let noted : View = noting c (Changed (name_of c.names r) ∷ []) v in
    let u : View = seen c (expr e) noted in
    let same : name_of c.names r ≡ meaning s w.name = means ∙ ap (meaning s) spells.1 in
    leave_then_put c a d z noted (seen c (set_form p ds) v) (step.Assign p r ∷ step.Expr (get_or ids 1 0) ∷ []) leaves puts (
      u,
      one_comes c (step.Expr (get_or ids 1 0)) noted u (e, h, q.1, refl),
      ap (λ es. seen c (set_form p es) v) are
          ∙ (ap (λ x. visit c (Set p x (core (expr e) s)) v) (sym same) ∙ sym (set_made c p r (expr e) v)),
    )

-- Keywords

-- the form that a keyword begins
pub form_turns : (c : Context) (a z : Expander) (p : Pos) (d : Datum) (ds : Items) (k : Keyword) (form : Exp) (v : View)
    → keyword_of d ≡ Some k
    → ((q : Pos) → expr (datum.List p (item (datum.Atomic q (Symbol (name_of_keyword k))) ds)) ≡ form)
    → IsRight (expr (datum.List p (item d ds))) → (IsRight form → Turns c a z (seen c form v))
    → Turns c a z (seen c (expr (datum.List p (item d ds))) v)
form_turns c a z p d ds k form v word same r turn =
    let e = begins p d ds k form word same in
    let P : Exp → Type 0 = λ f. IsRight f in
    turns_as c a z (seen c form v) (seen c (expr (datum.List p (item d ds))) v) (ap (λ f. seen c f v) (sym e))
    (turn (subst P e r))

-- no keyword that begins no form is the operator of a right call
pub operator_not_right : (p : Pos) (d : Datum) (ds : Items) (k : Keyword) → keyword_of d ≡ Some k
    → ((q : Pos) → expr (datum.List p (item (datum.Atomic q (Symbol (name_of_keyword k))) ds))
    ≡ Application p (Variable (word q (name_of_keyword k))) (exprs ds))
    → IsRight (expr (datum.List p (item d ds))) → ⊥
operator_not_right p d ds k e same r =
    let i = keyword_name d k e in
    let named_so : d ≡ datum.Atomic i.at (Symbol (name_of_keyword k)) =
    i.are ∙ ap (λ x. datum.Atomic i.at (Symbol x)) (is_name i.name k i.keyword) in
    let P : Exp → Type 0 = λ f. IsRight f in
    let whole = subst P (ap (λ x. expr (datum.List p (item x ds))) named_so ∙ same i.at) r in
    let none : in_word (word i.at (name_of_keyword k)) ≡ [] =
    (right_parts (in_word (word i.at (name_of_keyword k))) (in_exps (exprs ds)) whole).0 in
    let some : in_word (word i.at (name_of_keyword k)) ≡ fault i.at 1 ∷ [] =
    keyword_fault i.at (name_of_keyword k) k (named k) in
    cc

-- Calls

-- a list that begins with no keyword is a call
pub call_is : (p : Pos) (d : Datum) (ds : Items) → keyword_of d ≡ None
    → expr (datum.List p (item d ds)) ≡ Application p (expr d) (exprs ds)
call_is p (datum.Atomic q (Symbol x)) ds e = calls p q x ds e
call_is p (datum.Atomic q (Integer z)) ds e = refl
call_is p (datum.Atomic q (Boolean b)) ds e = refl
call_is p (datum.Atomic q (Character b)) ds e = refl
call_is p (datum.Atomic q (String t)) ds e = refl
call_is p (datum.List q is) ds e = refl
call_is p (datum.Dotted q is f) ds e = refl
call_is p (datum.Vector q is) ds e = refl

-- operands are made one after another in the scope of their call
pub operands_come : (c : Context) (ids : Bor (List ℕ)) (ds : Items) (v u : View) → ReadAll c.source ids.now ds
    → AreRight (exprs ds) → bound_names u.bound ≡ bound_names v.bound
    → ComesTo c (step.Exprs ids) u (visit_all c (cores (exprs ds) (scope_of c v)) u)
operands_come c ids ds v u h r e = (
  ds,
  h,
  r,
  ap (λ s. visit_all c (cores (exprs ds) s) u) (sym (same_scope c u v e)) ∙ sym (all_seen_is c (exprs ds) u),
)

-- the first item of a list, and the others
pub first_turns : (c : Context) (a z : Expander) (p : Pos) (all others : List ℕ) (id : ℕ) (ds : Items) (v : View)
    → all ≡ id ∷ others → ReadAll c.source all ds → IsRight (expr (datum.List p ds))
    → ((d : Datum) (os : Items) → Reads c.source id d → ReadAll c.source all (item d os) → ReadAll c.source others os
    → IsRight (expr (datum.List p (item d os))) → Turns c a z (seen c (expr (datum.List p (item d os))) v))
    → Turns c a z (seen c (expr (datum.List p ds)) v)
first_turns c a z p all others id ds v e h r turn =
    let f = first_of c.source all id others ds e h in
    let P : Items → Type 0 = λ es. ReadAll c.source all es in
    let Q : Items → Type 0 = λ es. IsRight (expr (datum.List p es)) in
    turns_as c a z (seen c (expr (datum.List p (item f.datum f.others))) v) (seen c (expr (datum.List p ds)) v)
    (ap (λ es. seen c (expr (datum.List p es)) v) (sym f.are))
    (turn f.datum f.others f.first (subst P f.are h) f.rest (subst Q f.are r))

pub empty_not_right : (c : Context) (p : Pos) (ids : List ℕ) (ds : Items) → ids ≡ [] → ReadAll c.source ids ds
    → IsRight (expr (datum.List p ds)) → ⊥
empty_not_right c p ids ds e h r =
    wrong_not_right p 13 (expr (datum.List p ds)) (ap (λ es. expr (datum.List p es)) (no_items c.source ids ds e h)) r

pub list_calls : (c : Context) (a z : Expander) (p : Pos) (d : Datum) (ds : Items) (ids : Bor (List ℕ)) (v : View)
    → keyword_of d ≡ None → ReadAll c.source ids.now ds → IsRight (expr (datum.List p (item d ds)))
    → (IsRight (expr d) → AreRight (exprs ds)
    → Turns c a z (visit c (call p (scope_of c v) (expr d) (core (expr d) (scope_of c v)) (cores (exprs ds) (scope_of c v))) v))
    → Turns c a z (seen c (expr (datum.List p (item d ds))) v)
list_calls c a z p d ds ids v e h r turn =
    let same = call_is p d ds e in
    let P : Exp → Type 0 = λ f. IsRight f in
    let q = right_parts (in_exp (expr d)) (in_exps (exprs ds)) (subst P same r) in
    turns_as c a z (seen c (Application p (expr d) (exprs ds)) v) (seen c (expr (datum.List p (item d ds))) v)
    (ap (λ f. seen c f v) (sym same)) (turn q.0 q.1)

-- Data by their kind

pub no_end : (s : Source) (tail : Option ℕ) (end : Option Datum) → ReadTail s tail end → tail ≡ None → end ≡ None
no_end s tail end t e = let P : Option ℕ → Type 0 = λ r. ReadTail s r end in subst P e t

pub end_not_right : (s : Source) (p : Pos) (is : Items) (tail : Option ℕ) (id : ℕ) (end : Option Datum)
    → ReadTail s tail end → tail ≡ Some id → IsRight (expr (with_end p is end)) → ⊥
end_not_right s p is tail id end t e r =
    let P : Option ℕ → Type 0 = λ x. ReadTail s x end in
    let there = subst P e t in
    wrong_not_right p 10 (expr (with_end p is end)) (ap (λ x. expr (with_end p is x)) there.2) r

pub chain_is : (p q : Pos) (d : Datum) (is : Items) (end : Option Datum) → p ≡ place d → d ≡ with_end q is end
    → with_end p is end ≡ d
chain_is p q d is None e are = ap (λ r. datum.List r is) (e ∙ ap place are) ∙ sym are
chain_is p q d is (Some t) e are = ap (λ r. datum.Dotted r is t) (e ∙ ap place are) ∙ sym are

-- what is no name, list or vector is its own value
pub literal_is : (s : Source) (d : Datum) (k : Kind) → IsKind s.nodes.now k d → ((x : List ℕ) → k ≡ kind.Name x → ⊥)
    → ((ids : List ℕ) (tail : Option ℕ) → k ≡ kind.List ids tail → ⊥) → ((ids : List ℕ) → k ≡ kind.Vector ids → ⊥)
    → expr d ≡ Value (place d) (constant_of d)
literal_is s (datum.Atomic p (Integer z)) k i name list vector = refl
literal_is s (datum.Atomic p (Boolean b)) k i name list vector = refl
literal_is s (datum.Atomic p (Character b)) k i name list vector = refl
literal_is s (datum.Atomic p (String t)) k i name list vector = refl
literal_is s (datum.Atomic p (Symbol x)) k i name list vector = absurd (name x i)
literal_is s (datum.List p is) k i name list vector = absurd (list i.0 None i.1)
literal_is s (datum.Dotted p is d) k i name list vector = absurd (list i.0 (Some i.1) i.2)
literal_is s (datum.Vector p is) k i name list vector = absurd (vector i.0 i.1)

pub items_in : (s t : Source) (ids : List ℕ) (ds : Items) → s ≡ t → ReadAll s ids ds → ReadAll t ids ds
items_in s t ids ds e h = let P : Source → Type 0 = λ u. ReadAll u ids ds in subst P e h

pub tail_in : (s t : Source) (tail : Option ℕ) (end : Option Datum) → s ≡ t → ReadTail s tail end → ReadTail t tail end
tail_in s t tail end e h = let P : Source → Type 0 = λ u. ReadTail u tail end in subst P e h
