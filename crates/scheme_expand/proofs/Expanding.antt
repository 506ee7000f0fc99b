-- What the calls of an expander come to that read names, constants and expressions, and do steps.
use Rattle.std.proofs.Common.{zero, suc, ◌-◌, take, replicate, append-nil, get_or, ltb-true, Bor, ℕ, ◌≡◌, ◌<◌, ◌≤◌, List, [], ◌∷◌, ◌++◌, Bool, true, false, length, map, nat_lt, slice_get, Option, Some, None, option_map, refl, sym, ap, subst, ◌∙◌, ◌⊎◌, inl, inr, arith, ltb-false}
use Rattle.std.proofs.lemmas.List.{length-map}
use Rattle.std.proofs.lemmas.Simd.{splat_is_map}
use Rattle.std.proofs.lemmas.Option.{get_or_from_slice_get, slice_get_cases, slice_get-map, slice_get_past}
use Rattle.std.proofs.lemmas.List.Folds.{list_any_at}
use Rattle.std.specs.Str.{bytes_eq}
use Rattle.scheme_base.specs.declared.pos.Pos.{Pos}
use Rattle.datum_form.specs.Data.{Items}
use Rattle.datum_form.specs.Data.Items.{none}
use Rattle.quasi_expand.specs.declared.template.Part.TheVariants as part
use Rattle.scheme_expand.specs.declared.expander.Expander.{Expander}
use Rattle.scheme_expand.specs.declared.source.Source.{Source}
use Rattle.scheme_expand.specs.declared.step.Step.{Step}
use Rattle.scheme_expand.specs.declared.step.Step.TheVariants as step
use Rattle.scheme_expand.specs.ByWord.{all_names}
use Rattle.scheme_expand.specs.Faults.{Fault, in_exp, in_exps}
use Rattle.scheme_expand.specs.Forms.{Word}
use Rattle.scheme_expand.specs.Grammar.{expr, exprs}
use Rattle.scheme_expand.specs.Making.{given, given_two, given_three, called, letrec_of, ComesTo, AreRight}
use Rattle.scheme_expand.specs.Noted.{level_in}
use Rattle.scheme_expand.specs.Rewriting.{Scope, has_name, names}
use Rattle.scheme_expand.specs.Viewed.{AreWords, Fits, IsScope, IsView, Puts, Leaves, Spells, Turns}
use Rattle.scheme_expand.specs.Views.{Context, View, Bound, bind, put_inside, seen, all_seen, leave}
use Rattle.scheme_expand.specs.Waiting.{HasWord, Reads, ReadAll, named_datum, named_data}
use Rattle.scheme_expand.proofs.Coming.{Remade, Rescoped, leave_then_leave, leaves_as, one_comes, puts_turn, rescoped, stays, view_kept}
use Rattle.scheme_expand.proofs.Entering.{first_name}
use Rattle.scheme_expand.proofs.Parts.{first_of}
use Rattle.draft_form.specs.Drafts.{Draft, Drafts}
use Rattle.draft_form.specs.Drawn.{Names, name_or_none, word_name}

-- Rightness

no_front : {A : Type 0} (xs ys : List A) → xs ++ ys ≡ [] → xs ≡ []
no_front [] ys e = refl
no_front (x ∷ xs) ys e = absurd (cc)

no_back : {A : Type 0} (xs ys : List A) → xs ++ ys ≡ [] → ys ≡ []
no_back [] ys e = e
no_back (x ∷ xs) ys e = absurd (cc)

-- no fault is in either part
pub right_parts : (xs ys : List Fault) → xs ++ ys ≡ [] → (xs ≡ []) × (ys ≡ [])
right_parts xs ys e = (no_front xs ys e, no_back xs ys e)

-- Names

named_at : (names : Names) (w : ℕ) (x : List ℕ) → slice_get (all_names names) w ≡ Some x
    → word_name names w ≡ x
named_at names w x e = is_it (slice_get names w) (sym (slice_get-map (λ y. y.now) names w) ∙ e)
  where
    is_it : (o : Option (Bor (List ℕ))) → option_map (λ y. y.now) o ≡ Some x → name_or_none o ≡ x
    is_it (Some y) h = cc
    is_it None h = absurd (cc)

within : (names : Names) (w : ℕ) (x : List ℕ) → slice_get (all_names names) w ≡ Some x → nat_lt w (length names) ≡ true
within names w x e = decided (nat_lt w (length names)) refl
  where
    decided : (b : Bool) → nat_lt w (length names) ≡ b → b ≡ true
    decided true h = refl
    decided false h =
        let none : slice_get (all_names names) w ≡ None =
        slice_get_past (all_names names) w (omega (arith, ltb-false w (length names) h, length-map names (λ y. y.now))) in
        absurd (cc)

-- the number of a name
pub spelled : (c : Context) (id word : ℕ) (w : Word) → Fits c → Reads c.source id (named_datum w)
    → Some word ≡ level_in (slice_get c.source.words.now id) → Spells c.names word w.name
spelled c id word w f r e =
    let h : HasWord (all_names c.names) (level_in (slice_get c.source.words.now id)) (named_datum w) =
    f.words id (named_datum w) r.stands in
    let same : h.0 ≡ word = let found : level_in (slice_get c.source.words.now id) ≡ Some h.0 = h.1 in cc in
    let P : ℕ → Type 0 = λ k. Spells c.names k w.name in
    subst P same (within c.names h.0 w.name h.2, named_at c.names h.0 w.name h.2)

-- the same by what is found of it in the text
pub word_spelled : (c : Context) (s : Source) (id : ℕ) (found : Option ℕ) (word : ℕ) (w : Word) → Fits c
    → Reads c.source id (named_datum w) → s ≡ c.source → found ≡ level_in (slice_get s.words.now id)
    → found ≡ Some word → Spells c.names word w.name
word_spelled c s id found word w f r e g h =
    spelled c id word w f r (sym h ∙ (g ∙ ap (λ t. level_in (slice_get t.words.now id)) e))

there : (names : Names) (v : ℕ) → nat_lt v (length names) ≡ true → slice_get (all_names names) v ≡ Some (word_name names v)
there names v h = is_it (slice_get names v) refl
  where
    is_it : (o : Option (Bor (List ℕ))) → slice_get names v ≡ o → slice_get (all_names names) v ≡ Some (word_name names v)
    is_it (Some y) e =
        slice_get-map (λ z. z.now) names v
        ∙ (ap (option_map (λ z. z.now)) e ∙ ap (λ o. Some (name_or_none o)) (sym e))
    is_it None e = absurd (past (slice_get_cases names v).1)
      where
        past : ((x : Bor (List ℕ)) × (v < length names) × (slice_get names v ≡ Some x) × (get_or names v x ≡ x))
            ⊎ ((length names ≤ v) × (slice_get names v ≡ None)) → ⊥
        past (inl p) = let same : slice_get names v ≡ Some p.0 = p.2 in cc
        past (inr p) = omega (arith, ltb-true v (length names) h)

has_at : (xs : List (List ℕ)) (v : ℕ) → slice_get xs v ≡ Some [] → has_name xs [] ≡ true
has_at xs v e =
    list_any_at (bytes_eq []) xs v [] (within_list (slice_get_cases xs v).1)
    (ap (bytes_eq []) (get_or_from_slice_get xs v [] [] e))
  where
    within_list : ((x : List ℕ) × (v < length xs) × (slice_get xs v ≡ Some x) × (get_or xs v x ≡ x))
        ⊎ ((length xs ≤ v) × (slice_get xs v ≡ None)) → v < length xs
    within_list (inl p) = p.1
    within_list (inr p) = let none : slice_get xs v ≡ None = p.1 in absurd (cc)

-- the names of a text are all different
pub words_fit : (c : Context) → Fits c → AreWords c.names
words_fit c f = record { named = f.named; distinct = λ v w h e. apart v w h e (slice_get (all_names c.names) w) refl }
  where
    apart : (v w : ℕ) → nat_lt v (length c.names) ≡ true → word_name c.names v ≡ word_name c.names w
        → (o : Option (List ℕ)) → slice_get (all_names c.names) w ≡ o → v ≡ w
    apart v w h e (Some x) q =
        f.table.distinct v w x (there c.names v h ∙ ap (λ y. Some y) (e ∙ named_at c.names w x q)) q
    apart v w h e None q =
        let empty : slice_get (all_names c.names) v ≡ Some [] =
        there c.names v h ∙ ap (λ y. Some y) (e ∙ unnamed_at (slice_get c.names w) (sym (slice_get-map (λ y. y.now) c.names w) ∙ q)) in
        let found : has_name (all_names c.names) [] ≡ true = has_at (all_names c.names) v empty in
        let not_found : has_name (all_names c.names) [] ≡ false = f.named in
        absurd (cc)
      where
        unnamed_at : (o : Option (Bor (List ℕ))) → option_map (λ y. y.now) o ≡ None → name_or_none o ≡ []
        unnamed_at None r = refl
        unnamed_at (Some y) r = absurd (cc)

no_flags : (n : ℕ) (flags : List Bool) → flags ≡ [] → take n flags ≡ []
no_flags zero flags e = refl
no_flags (suc n) [] e = refl
no_flags (suc n) (f ∷ flags) e = absurd (cc)

-- flags that are all false
pub fresh_flags : (n m : ℕ) (old flags : List Bool) (xs : Names) → old ≡ [] → m ≡ 0
    → flags ≡ take n old ++ replicate (n - m) false → n ≡ length xs → flags ≡ map (λ x. false) xs
fresh_flags n m old flags xs empty zero_long are many =
    let left : n - m ≡ n = omega arith in
    are
    ∙ (ap (λ l. l ++ replicate (n - m) false) (no_flags n old empty)
    ∙ (ap (λ k. replicate k false) left ∙ splat_is_map xs n false (sym many)))

-- a name is bound
pub named_bound : (c : Context) (a b z : Expander) (word : ℕ) (w : Word) (v : View) → IsView c a v → Puts a b []
    → Spells c.names word w.name → Remade b z → Rescoped b.maker z.maker → z.steps ≡ b.steps
    → ((names : Names) (bs : List Bound) (x : List ℕ) → AreWords names → IsScope names b.maker.scope bs
    → Spells names word x → IsScope names z.maker.scope (put_inside (x ∷ []) bs))
    → Leaves c a z (bind (w.name ∷ []) v)
named_bound c a b z word w v i p h s t e scope =
    let j = view_kept c a b v p.same i in
    record {
      steps = ap (λ l. l.items) e ∙ (p.steps ∙ append-nil a.steps.items);
      view =
          rescoped c b z v (put_inside (w.name ∷ []) v.bound) j s t
          (scope c.names v.bound w.name (words_fit c i.fits) j.made.scope h);
    }

-- Names one after another

-- the names before those that are left are bound
pub record NamesBound (c : Context) (a b : Expander) (rest : List ℕ) (ws : List Word) (v : View) : Type 0 where
  pub left : List Word
  pub read : ReadAll c.source rest (named_data left)
  pub now : View
  pub leaves : Leaves c a b now
  pub total : bind (names left) now ≡ bind (names ws) v

pub no_names_bound : (c : Context) (a : Expander) (ids : List ℕ) (ws : List Word) (v : View) → IsView c a v
    → ReadAll c.source ids (named_data ws) → NamesBound c a a ids ws v
no_names_bound c a ids ws v i h = record { left = ws; read = h; now = v; leaves = stays c a v i; total = refl }

one_bound : (c : Context) (a b z : Expander) (rest others : List ℕ) (id : ℕ) (ws left : List Word) (v now : View)
    → rest ≡ id ∷ others → ReadAll c.source rest (named_data left) → Leaves c a b now
    → bind (names left) now ≡ bind (names ws) v
    → ((u : View) (w : Word) → IsView c b u → Reads c.source id (named_datum w) → Leaves c b z (bind (w.name ∷ []) u))
    → NamesBound c a z others ws v
one_bound c a b z rest others id ws [] v now e read l total name =
    absurd (let none_left : rest ≡ [] = read.stand in let more : [] ≡ id ∷ others = sym none_left ∙ e in cc)
one_bound c a b z rest others id ws (w ∷ left) v now e read l total name =
    let r = first_name c.source rest others id w left e read in
    record {
      left = left;
      read = r.1;
      now = bind (w.name ∷ []) now;
      leaves = leave_then_leave c a b z now (bind (w.name ∷ []) now) l (name now w l.view r.0);
      total = total;
    }

pub name_bound : (c : Context) (a b z : Expander) (rest others : List ℕ) (id : ℕ) (ws : List Word) (v : View)
    → NamesBound c a b rest ws v → rest ≡ id ∷ others
    → ((u : View) (w : Word) → IsView c b u → Reads c.source id (named_datum w) → Leaves c b z (bind (w.name ∷ []) u))
    → NamesBound c a z others ws v
name_bound c a b z rest others id ws v i e name =
    one_bound c a b z rest others id ws i.left v i.now e i.read i.leaves i.total name

last_bound : (c : Context) (a b : Expander) (ws left : List Word) (v now : View) → ReadAll c.source [] (named_data left)
    → Leaves c a b now → bind (names left) now ≡ bind (names ws) v → Leaves c a b (bind (names ws) v)
last_bound c a b ws [] v now read l total = leaves_as c a b now (bind (names ws) v) total l
last_bound c a b ws (w ∷ left) v now read l total = absurd (let whole = read.stand.2 in cc)

pub names_bound : (c : Context) (a b : Expander) (rest : List ℕ) (ws : List Word) (v : View) → NamesBound c a b rest ws v
    → rest ≡ [] → Leaves c a b (bind (names ws) v)
names_bound c a b rest ws v i e =
    let P : List ℕ → Type 0 = λ ids. ReadAll c.source ids (named_data i.left) in
    last_bound c a b ws i.left v i.now (subst P e i.read) i.leaves i.total

-- Expressions

-- the first of some expressions is made, then the others
pub first_seen : (c : Context) (a z : Expander) (ids : List ℕ) (id : ℕ) (others : Bor (List ℕ)) (v : View) (ds : Items)
    → ids ≡ id ∷ others.now → IsView c a v → ReadAll c.source ids ds → AreRight (exprs ds)
    → Puts a z (step.Exprs others ∷ step.Expr id ∷ []) → Turns c a z (all_seen c (exprs ds) v)
first_seen c a z ids id others v ds e i h r p =
    let f = first_of c.source ids id others.now ds e h in
    let P : Items → Type 0 = λ es. AreRight (exprs es) in
    let q = right_parts (in_exp (expr f.datum)) (in_exps (exprs f.others)) (subst P f.are r) in
    let u : View = seen c (expr f.datum) v in
    puts_turn c a z v (all_seen c (exprs ds) v) (step.Exprs others ∷ step.Expr id ∷ []) i p (
      u,
      one_comes c (step.Expr id) v u (f.datum, f.first, q.0, refl),
      (f.others, f.rest, q.1, ap (λ es. all_seen c (exprs es) v) f.are),
    )

-- Steps

given_flags : (v : View) (ds : List Draft) (f : Draft → Draft) → (given v ds f).flags ≡ v.flags
given_flags v [] f = refl
given_flags v (d ∷ ds) f = refl

two_flags : (v : View) (ds : List Draft) (f : Draft → Draft → Draft) → (given_two v ds f).flags ≡ v.flags
two_flags v [] f = refl
two_flags v (d ∷ []) f = refl
two_flags v (d ∷ e ∷ ds) f = refl

three_flags : (v : View) (ds : List Draft) (f : Draft → Draft → Draft → Draft) → (given_three v ds f).flags ≡ v.flags
three_flags v [] f = refl
three_flags v (d ∷ []) f = refl
three_flags v (d ∷ e ∷ []) f = refl
three_flags v (d ∷ e ∷ g ∷ ds) f = refl

called_flags : (p : Pos) (es : Drafts) (v : View) (ds : List Draft) → (called p es v ds).flags ≡ v.flags
called_flags p es v [] = refl
called_flags p es v (d ∷ ds) = refl

letrec_flags : (p : Pos) (k : ℕ) (is_fix : Bool) (s : Scope) (xs : List (List ℕ)) (es : Drafts) (v : View)
    (ds : List Draft) → (letrec_of p k is_fix s xs es v ds).flags ≡ v.flags
letrec_flags p k is_fix s xs es v [] = refl
letrec_flags p k is_fix s xs es v (d ∷ ds) = refl

flags_of : (v w z : View) → w ≡ z → z.flags ≡ v.flags → w.flags ≡ v.flags
flags_of v w z e f = ap (λ u. u.flags) e ∙ f

-- what a maker does notes no change of the library
pub maker_flags : (c : Context) (x : Step) (v w : View) → ((id : ℕ) → x ≡ step.Expr id → ⊥)
    → ((ids : Bor (List ℕ)) → x ≡ step.Exprs ids → ⊥) → ((id : ℕ) → x ≡ step.Defined id → ⊥)
    → ((p : Pos) (ids : Bor (List ℕ)) → x ≡ step.Conjuncts p ids → ⊥)
    → ((p : Pos) (ids : Bor (List ℕ)) (k : ℕ) → x ≡ step.Alternatives p ids k → ⊥)
    → ((p : Pos) (ids : Bor (List ℕ)) (k : ℕ) → x ≡ step.Clauses p ids k → ⊥)
    → ((p : Pos) (ids : Bor (List ℕ)) (k : ℕ) → x ≡ step.Cases p ids k → ⊥) → ComesTo c x v w → w.flags ≡ v.flags
maker_flags c (step.Expr id) v w a b d e f g h t = absurd (a id refl)
maker_flags c (step.Exprs ids) v w a b d e f g h t = absurd (b ids refl)
maker_flags c (step.Defined id) v w a b d e f g h t = absurd (d id refl)
maker_flags c (step.Conjuncts p ids) v w a b d e f g h t = absurd (e p ids refl)
maker_flags c (step.Alternatives p ids k) v w a b d e f g h t = absurd (f p ids k refl)
maker_flags c (step.Clauses p ids k) v w a b d e f g h t = absurd (g p ids k refl)
maker_flags c (step.Cases p ids k) v w a b d e f g h t = absurd (h p ids k refl)
maker_flags c (step.IsAmong p ids k) v w a b d e f g h t = flags_of v w _ t.3 refl
maker_flags c (step.Template p (part.Datum id)) v w a b d e f g h t = flags_of v w _ t.2 refl
maker_flags c (step.Template p (part.Rest id from)) v w a b d e f g h t = flags_of v w _ t.2 refl
maker_flags c (step.Template p part.Cons) v w a b d e f g h t = flags_of v w _ t (two_flags v v.made _)
maker_flags c (step.Template p part.Join) v w a b d e f g h t = flags_of v w _ t (two_flags v v.made _)
maker_flags c (step.Template p part.Vector) v w a b d e f g h t = flags_of v w _ t (given_flags v v.made _)
maker_flags c (step.Template p (part.Expr id)) v w a b d e f g h t = flags_of v w _ t refl
maker_flags c (step.Known p x n) v w a b d e f g h t = flags_of v w _ t.2 refl
maker_flags c (step.Unspecified p) v w a b d e f g h t = flags_of v w _ t refl
maker_flags c (step.Reference p x) v w a b d e f g h t = flags_of v w _ t refl
maker_flags c (step.Leave k) v w a b d e f g h t = flags_of v w _ t refl
maker_flags c (step.Sequence p n) v w a b d e f g h t = flags_of v w _ t refl
maker_flags c (step.Call p n) v w a b d e f g h t = flags_of v w _ t (called_flags p _ v _)
maker_flags c (step.If p) v w a b d e f g h t = flags_of v w _ t (three_flags v v.made _)
maker_flags c (step.Branch p) v w a b d e f g h t = flags_of v w _ t (three_flags v v.made _)
maker_flags c (step.Both p) v w a b d e f g h t = flags_of v w _ t (two_flags v v.made _)
maker_flags c (step.Either p k) v w a b d e f g h t = flags_of v w _ t (two_flags v v.made _)
maker_flags c (step.Receive p k) v w a b d e f g h t = flags_of v w _ t (three_flags v v.made _)
maker_flags c (step.Assign p x) v w a b d e f g h t = flags_of v w _ t (given_flags v v.made _)
maker_flags c (step.Define p x) v w a b d e f g h t = flags_of v w _ t (given_flags v v.made _)
maker_flags c (step.Lambda p k r) v w a b d e f g h t = flags_of v w _ t (given_flags (leave k v) v.made _)
maker_flags c (step.Bind p x) v w a b d e f g h t = flags_of v w _ t (two_flags v v.made _)
maker_flags c (step.Letrec p k lambdas) v w a b d e f g h t = flags_of v w _ t (letrec_flags p k _ _ _ _ v _)
maker_flags c (step.Loop p k) v w a b d e f g h t = flags_of v w _ t (two_flags (leave k v) v.made _)

pub step_as : (c : Context) (x y : Step) (v w : View) → x ≡ y → ComesTo c x v w → ComesTo c y v w
step_as c x y v w e h = let P : Step → Type 0 = λ z. ComesTo c z v w in subst P e h
