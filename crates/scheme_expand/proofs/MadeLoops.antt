-- What the steps of a `do` come to.
--
-- `read_named`, `mean_inside`: what the names of its variables mean in its body. `firsts_come`, `nexts_come`,
-- `results_come`: the values of its variables, and its results. `again_comes`, `round_comes`, `loop_comes`: the next
-- turn, its body, and the whole.
use Rattle.std.proofs.Common.{Bor, ℕ, suc, ◌≡◌, false, if◌then◌else◌, Option, Some, None, List, [], ◌∷◌, ◌++◌, map, length, refl, sym, ap, ap₂, subst, ◌∙◌, append-nil, append_assoc}
use Rattle.std.proofs.lemmas.List.{length-map}
use Rattle.std.specs.List.{list_any}
use Rattle.std.specs.Str.{bytes_eq}
use Rattle.scheme_base.specs.declared.pos.Pos.{Pos}
use Rattle.scheme_base.specs.Constants.{Constant as constant}
use Rattle.datum_form.specs.Data.{Datum, Items}
use Rattle.scheme_expand.specs.declared.step.Step.{Step}
use Rattle.scheme_expand.specs.declared.step.Step.TheVariants as step
use Rattle.scheme_expand.specs.Calls.{count, one}
use Rattle.scheme_expand.specs.Faults.{in_word, in_exp, in_exps, in_steps}
use Rattle.scheme_expand.specs.Forms.{Word, Exp, Steps, no_step, fixed, stepped, Do}
use Rattle.scheme_expand.specs.Grammar.{expr, exprs, step_words, twice}
use Rattle.scheme_expand.specs.Making.{makes, instead, taken, left_of, AllCome, AreRight, IsRight}
use Rattle.scheme_expand.specs.Putting.{expr_steps, next_steps, result_steps_of, result_steps, loop_steps}
use Rattle.scheme_expand.specs.Rewriting.{Scope, level, found, free, local_or, meaning, inside, within, variable, variables, names, unspecified, core, cores, firsts, nexts, results_of}
use Rattle.scheme_expand.specs.Shapes.{AreSteps}
use Rattle.scheme_expand.specs.Viewed.{AreWords, Fits, Spells}
use Rattle.scheme_expand.specs.Views.{Context, View, scope_of, height, pushed, visit, visit_all, seen, bind}
use Rattle.scheme_expand.specs.Waiting.{Reads, ReadAll, named_datum, named_data}
use Rattle.scheme_expand.proofs.Coming.{come_as, one_comes, next_comes, come_append}
use Rattle.scheme_expand.proofs.Expanding.{right_parts, spelled}
use Rattle.scheme_expand.proofs.MadeLets.{level_height, lambda_left, called_all, count_read, reference_made}
use Rattle.scheme_expand.proofs.MadeForms.{conditional_made}
use Rattle.scheme_expand.proofs.LetTurns.{count_named}
use Rattle.scheme_expand.proofs.Noting.{alike, alike_twice, alike_held, alike_referred, alike_behind, noting_alike, noting_none, visit_scope, visit_all_scope, visit_all_is, visit_all_then, all_seen_is, taken_all, left_of_all, standing, standing_one, scope_bound, leave_visit}
use Rattle.scheme_expand.proofs.Parts.{no_items, first_of}
use Rattle.scheme_expand.proofs.Scopes.{called_variable}
use Rattle.scheme_expand.proofs.Scoping.{or_split, bytes_same}
use Rattle.draft_form.specs.declared.draft.Variable.{Variable}
use Rattle.draft_form.specs.declared.draft.Variable.TheVariants as local
use Rattle.draft_form.specs.Drafts.{Draft, Drafts, Referred, Local, Fresh, Ref, Lambda, If, Call, Seq, Fix, none, item, ◌then◌, parts, all_parts}
use Rattle.draft_form.specs.Drawn.{name_of}

-- What names mean

-- names that are not empty
abbrev pub AreNamed : List Word → Type 0
AreNamed [] = Unit {0}
AreNamed (w ∷ ws) = ((k : ℕ) → variable k w.name ≡ Local k w.name) × AreNamed ws

pub read_named : (c : Context) (ids : List ℕ) (ws : List Word) → Fits c → AreWords c.names → ReadAll c.source ids (named_data ws)
    → AreNamed ws
read_named c ids [] f a h = tt
read_named c ids (w ∷ ws) f a h =
    let id : ℕ = h.stand.0 in
    let there = f.words id (named_datum w) h.stand.3 in
    let spells : Spells c.names there.0 w.name =
    spelled c id there.0 w f (record { named = h.named; stands = h.stand.3 }) (sym there.1) in (
      λ k. sym (called_variable c.names there.0 k w.name a spells) ∙ ap (Local k) spells.1,
      read_named c h.stand.1 ws f a (record { named = h.named; stand = h.stand.4 }),
    )

-- these names mean variables from a level on
abbrev pub Mean : Scope → (level : ℕ) → List Word → Type 0
Mean t k [] = Unit {0}
Mean t k (w ∷ ws) = (meaning t w.name ≡ variable k w.name) × Mean t (suc k) ws

-- a name that is none of those inside
found_outside : (bs : List (List ℕ)) (ws : List Word) (x : List ℕ) → list_any (λ v. bytes_eq x v.name) ws ≡ false
    → found (inside bs (names ws)) x ≡ found bs x
found_outside bs [] x h = refl
found_outside bs (w ∷ ws) x h =
    let q = or_split (bytes_eq x w.name) (list_any (λ v. bytes_eq x v.name) ws) h in
    found_outside (w.name ∷ bs) ws x q.1 ∙ ap (λ b. if b then Some (length bs) else found bs x) q.0

-- names that differ mean the variables that they are bound to
pub mean_inside : (s : Scope) (ws : List Word) → twice ws ≡ false → AreNamed ws → Mean (within s (names ws)) (level s) ws
mean_inside s [] h n = tt
mean_inside s (w ∷ ws) h n =
    let q = or_split (list_any (λ v. bytes_eq w.name v.name) ws) (twice ws) h in
    let at : found (inside (w.name ∷ s.bound) (names ws)) w.name ≡ Some (level s) =
    found_outside (w.name ∷ s.bound) ws w.name q.0
    ∙ ap (λ b. if b then Some (length s.bound) else found s.bound w.name) (bytes_same w.name) in (
      ap (λ o. local_or o w.name (free s.side w.name)) at ∙ sym (n.0 (level s)),
      mean_inside (within s (w.name ∷ [])) ws q.1 n.1,
    )

-- The values of variables

-- one value before the others
first_comes : (c : Context) (e : Exp) (ds : Drafts) (ids : List ℕ) (s : Scope) (v : View) (id : ℕ) (others : List ℕ) (d : Datum)
    → ids ≡ id ∷ others → Reads c.source id d → e ≡ expr d → IsRight e → scope_of c v ≡ s
    → AllCome c (expr_steps others) (visit c (core e s) v) (visit_all c ds (visit c (core e s) v))
    → AllCome c (expr_steps ids) v (visit_all c (item (core e s) ds) v)
first_comes c e ds ids s v id others d i reads is r h rest =
    let u : View = visit c (core e s) v in
    let P : List ℕ → Type 0 = λ l. AllCome c (expr_steps l) v (visit_all c ds u) in
    subst P (sym i)
    (come_append c (expr_steps others) (step.Expr id ∷ []) v u (visit_all c ds u)
    (one_comes c (step.Expr id) v u (d, reads, ap in_exp (sym is) ∙ r, ap₂ (λ y t. visit c (core y t) v) is (sym h))) rest)

pub firsts_come : (c : Context) (ss : Steps) (ids : List ℕ) (os : List (Option ℕ)) (s : Scope) (v : View)
    → AreSteps c.source ids os ss → in_steps ss ≡ [] → scope_of c v ≡ s
    → AllCome c (expr_steps ids) v (visit_all c (firsts ss s) v)
firsts_come c no_step ids os s v a r h =
    let P : List ℕ → Type 0 = λ l. AllCome c (expr_steps l) v v in subst P (sym a.0) refl
firsts_come c (fixed w e ss) ids os s v a r h =
    let inner = right_parts (in_word w) (in_exp e ++ in_steps ss) r in
    let right = right_parts (in_exp e) (in_steps ss) inner.1 in
    first_comes c e (firsts ss s) ids s v a.0 a.1 a.5 a.3 a.6 a.7 right.0 h
    (firsts_come c ss a.1 a.2 s (visit c (core e s) v) a.8 right.1 (visit_scope c (core e s) v ∙ h))
firsts_come c (stepped w e f ss) ids os s v a r h =
    let inner = right_parts (in_word w) (in_exp e ++ (in_exp f ++ in_steps ss)) r in
    let right = right_parts (in_exp e) (in_exp f ++ in_steps ss) inner.1 in
    let last = right_parts (in_exp f) (in_steps ss) right.1 in
    first_comes c e (firsts ss s) ids s v a.0 a.1 a.6 a.4 a.7 a.8 right.0 h
    (firsts_come c ss a.1 a.2 s (visit c (core e s) v) a.12 last.1 (visit_scope c (core e s) v ∙ h))

-- the values for the next turn, of which those that are not written are the variables
pub nexts_come : (c : Context) (p : Pos) (ss : Steps) (ids : List ℕ) (os : List (Option ℕ)) (xs : List Variable) (k : ℕ) (t : Scope)
    (v : View) → AreSteps c.source ids os ss → in_steps ss ≡ [] → Mean t k (step_words ss)
    → map (name_of c.names) xs ≡ variables k (names (step_words ss)) → scope_of c v ≡ t
    → AllCome c (next_steps p os xs) v (visit_all c (nexts ss p t) v)
nexts_come c p no_step ids os xs k t v a r m n h =
    let P : List (Option ℕ) → Type 0 = λ l. AllCome c (next_steps p l xs) v v in subst P (sym a.1) refl
nexts_come c p (fixed w e ss) ids os [] k t v a r m n h = absurd (cc)
nexts_come c p (stepped w e f ss) ids os [] k t v a r m n h = absurd (cc)
nexts_come c p (fixed w e ss) ids os (x ∷ xs) k t v a r m n h =
    let inner = right_parts (in_word w) (in_exp e ++ in_steps ss) r in
    let right = right_parts (in_exp e) (in_steps ss) inner.1 in
    let same : name_of c.names x ≡ variable k w.name = cc in
    let others : map (name_of c.names) xs ≡ variables (suc k) (names (step_words ss)) = cc in
    let d : Draft = Ref p (meaning t w.name) in
    let u : View = visit c d v in
    let z : View = visit_all c (nexts ss p t) u in
    let P : List (Option ℕ) → Type 0 = λ l. AllCome c (next_steps p l (x ∷ xs)) v z in
    subst P (sym a.4)
    (come_append c (next_steps p a.2 xs) (step.Reference p x ∷ []) v u z
    (one_comes c (step.Reference p x) v u
    (sym (reference_made c p (meaning t w.name) v) ∙ ap (λ y. pushed (Ref p y) v) (m.0 ∙ sym same)))
    (nexts_come c p ss a.1 a.2 xs (suc k) t u a.8 right.1 m.1 others (visit_scope c d v ∙ h)))
nexts_come c p (stepped w e f ss) ids os (x ∷ xs) k t v a r m n h =
    let inner = right_parts (in_word w) (in_exp e ++ (in_exp f ++ in_steps ss)) r in
    let right = right_parts (in_exp e) (in_exp f ++ in_steps ss) inner.1 in
    let last = right_parts (in_exp f) (in_steps ss) right.1 in
    let others : map (name_of c.names) xs ≡ variables (suc k) (names (step_words ss)) = cc in
    let u : View = visit c (core f t) v in
    let z : View = visit_all c (nexts ss p t) u in
    let P : List (Option ℕ) → Type 0 = λ l. AllCome c (next_steps p l (x ∷ xs)) v z in
    subst P (sym a.5)
    (come_append c (next_steps p a.2 xs) (step.Expr a.3 ∷ []) v u z
    (one_comes c (step.Expr a.3) v u
    (a.9, a.10, ap in_exp (sym a.11) ∙ last.0, ap₂ (λ y s. visit c (core y s) v) a.11 (sym h)))
    (nexts_come c p ss a.1 a.2 xs (suc k) t u a.12 last.1 m.1 others (visit_scope c (core f t) v ∙ h)))

pub count_firsts : (ss : Steps) (s : Scope) → length (names (step_words ss)) ≡ count (firsts ss s)
count_firsts no_step s = refl
count_firsts (fixed w e ss) s = ap suc (count_firsts ss s)
count_firsts (stepped w e f ss) s = ap suc (count_firsts ss s)

pub count_nexts : (ss : Steps) (p : Pos) (t : Scope) → length (names (step_words ss)) ≡ count (nexts ss p t)
count_nexts no_step p t = refl
count_nexts (fixed w e ss) p t = ap suc (count_nexts ss p t)
count_nexts (stepped w e f ss) p t = ap suc (count_nexts ss p t)

-- Results

-- a `Seq` of what was made one after another
pub sequence_all : (c : Context) (p : Pos) (n : ℕ) (ds : Drafts) (v : View) → n ≡ count ds
    → makes c (step.Sequence p n) (visit_all c ds v) ≡ visit c (Seq p ds) v
sequence_all c p n ds v h =
    let u : View = visit_all c ds v in
    ap (λ l. instead u (left_of n l) (Seq p (taken n l))) (ap (λ w. w.made) (visit_all_is c ds v))
    ∙ (ap₂ (λ l es. instead u l (Seq p es)) (left_of_all n ds v.made h) (taken_all n ds v.made h)
    ∙ standing c ds (Seq p ds) v (alike (all_parts ds) (all_parts ds) refl))

unspecified_made : (c : Context) (p : Pos) (v : View) → pushed (unspecified p) v ≡ visit c (unspecified p) v
unspecified_made c p v =
    ap (pushed (unspecified p))
    (sym (noting_alike c (parts (unspecified p)) [] v (alike_held constant.Unspecified []) ∙ noting_none c v))

pub results_come : (c : Context) (p : Pos) (ids : Bor (List ℕ)) (now : List ℕ) (ds : Items) (t : Scope) (v : View) → ids.now ≡ now
    → ReadAll c.source now ds → AreRight (exprs ds) → scope_of c v ≡ t
    → AllCome c (result_steps_of p ids now) v (visit c (results_of p (cores (exprs ds) t)) v)
results_come c p ids [] ds t v e h r s =
    come_as c (step.Unspecified p ∷ []) v (pushed (unspecified p) v) (visit c (results_of p (cores (exprs ds) t)) v)
    (unspecified_made c p v
    ∙ ap (λ es. visit c (results_of p (cores (exprs es) t)) v) (sym (no_items c.source [] ds refl h)))
    (one_comes c (step.Unspecified p) v (pushed (unspecified p) v) refl)
results_come c p ids (id ∷ now) ds t v e h r s =
    let f = first_of c.source (id ∷ now) id now ds refl h in
    let es : Drafts = cores (exprs ds) t in
    let u : View = visit_all c es v in
    let P : List ℕ → Type 0 = λ l. ReadAll c.source l ds in
    come_as c (step.Sequence p (length (id ∷ now)) ∷ step.Exprs ids ∷ []) v (visit c (Seq p es) v)
    (visit c (results_of p es) v)
    (ap (λ is. visit c (Seq p (cores (exprs is) t)) v) f.are
    ∙ ap (λ is. visit c (results_of p (cores (exprs is) t)) v) (sym f.are))
    (next_comes c (step.Sequence p (length (id ∷ now))) (step.Exprs ids ∷ []) v u (visit c (Seq p es) v)
    (one_comes c (step.Exprs ids) v u
    (ds, subst P (sym e) h, r, sym (all_seen_is c (exprs ds) v ∙ ap (λ x. visit_all c (cores (exprs ds) x) v) s)))
    (sym (sequence_all c p (length (id ∷ now)) es v (count_read c.source (id ∷ now) ds t h))))

-- The whole

count_then : (ds : Drafts) (d : Draft) → count (ds then one d) ≡ suc (count ds)
count_then none d = refl
count_then (item e ds) d = ap suc (count_then ds d)

-- the commands and the call for the next turn, after what was made before
again_comes : (c : Context) (p : Pos) (ss : Steps) (cs : Items) (words inits : List ℕ) (steps : List (Option ℕ))
    (xs : List Variable) (commands : Bor (List ℕ)) (n m k j : ℕ) (t : Scope) (v : View)
    → ReadAll c.source words (named_data (step_words ss)) → AreSteps c.source inits steps ss → in_steps ss ≡ []
    → ReadAll c.source commands.now cs → AreRight (exprs cs) → Mean t j (step_words ss)
    → map (name_of c.names) xs ≡ variables j (names (step_words ss)) → n ≡ length words → m ≡ suc (length commands.now)
    → scope_of c v ≡ t
    → AllCome c
    (step.Sequence p m ∷ step.Call p n
    ∷ (next_steps p steps xs ++ (step.Reference p (local.Fresh k) ∷ step.Exprs commands ∷ [])))
    v (visit c (Seq p (cores (exprs cs) t then one (Call p (Ref p (Fresh k)) (nexts ss p t)))) v)
again_comes c p ss cs words inits steps xs commands n m k j t v read are right h r mean named many together s =
    let loop : Draft = Ref p (Fresh k) in
    let es : Drafts = cores (exprs cs) t in
    let next : Drafts = nexts ss p t in
    let call : Draft = Call p loop next in
    let put : List Step = next_steps p steps xs ++ (step.Reference p (local.Fresh k) ∷ step.Exprs commands ∷ []) in
    let done : View = visit_all c es v in
    let u : View = visit c loop done in
    let z : View = visit_all c next u in
    let w : View = visit c call done in
    let counted : n ≡ count next =
    many ∙ (count_named c.source words (step_words ss) read
    ∙ (sym (length-map (step_words ss) (λ w. w.name)) ∙ count_nexts ss p t)) in
    let all : m ≡ count (es then one call) =
    together ∙ (ap suc (count_read c.source commands.now cs t h) ∙ sym (count_then es call)) in
    next_comes c (step.Sequence p m) (step.Call p n ∷ put) v w (visit c (Seq p (es then one call)) v)
    (next_comes c (step.Call p n) put v z w
    (come_append c (next_steps p steps xs) (step.Reference p (local.Fresh k) ∷ step.Exprs commands ∷ []) v u z
    (next_comes c (step.Reference p (local.Fresh k)) (step.Exprs commands ∷ []) v done u
    (one_comes c (step.Exprs commands) v done
    (cs, h, r, sym (all_seen_is c (exprs cs) v ∙ ap (λ x. visit_all c (cores (exprs cs) x) v) s)))
    (sym (reference_made c p (Fresh k) done)))
    (nexts_come c p ss inits steps xs j t u are right mean named
    (visit_scope c loop done ∙ (visit_all_scope c es v ∙ s))))
    (sym (called_all c p n loop next done counted)))
    (sym (ap (makes c (step.Sequence p m)) (sym (visit_all_then c es (one call) v)) ∙ sequence_all c p m (es then one call) v all))

-- a turn
abbrev round : Pos → Steps → Datum → (results commands : Items) → (loop : ℕ) → Scope → Draft
round p ss td rs cs k t =
    If p (core (expr td) t) (results_of p (cores (exprs rs) t))
    (Seq p (cores (exprs cs) t then one (Call p (Ref p (Fresh k)) (nexts ss p t))))

-- it is made of what is put for it
round_comes : (c : Context) (p : Pos) (ss : Steps) (td : Datum) (rs cs : Items) (words inits : List ℕ)
    (steps : List (Option ℕ)) (xs : List Variable) (test : ℕ) (results commands : Bor (List ℕ)) (n m k j : ℕ) (t : Scope)
    (v : View) → ReadAll c.source words (named_data (step_words ss)) → AreSteps c.source inits steps ss
    → Reads c.source test td → ReadAll c.source results.now rs → ReadAll c.source commands.now cs
    → IsRight (Do p ss (expr td) (exprs rs) (exprs cs)) → Mean t j (step_words ss)
    → map (name_of c.names) xs ≡ variables j (names (step_words ss)) → n ≡ length words → m ≡ suc (length commands.now)
    → scope_of c v ≡ t
    → AllCome c
    (step.If p
    ∷ ((step.Sequence p m ∷ step.Call p n
    ∷ (next_steps p steps xs ++ (step.Reference p (local.Fresh k) ∷ step.Exprs commands ∷ [])))
    ++ (result_steps p results ++ step.Expr test ∷ [])))
    v (visit c (round p ss td rs cs k t) v)
round_comes c p ss td rs cs words inits steps xs test results commands n m k j t v read are tests res h r mean named many together s =
    let inner = right_parts (in_steps ss) (in_exp (expr td) ++ (in_exps (exprs rs) ++ in_exps (exprs cs))) r in
    let right = right_parts (in_exp (expr td)) (in_exps (exprs rs) ++ in_exps (exprs cs)) inner.1 in
    let last = right_parts (in_exps (exprs rs)) (in_exps (exprs cs)) right.1 in
    let first : Draft = core (expr td) t in
    let second : Draft = results_of p (cores (exprs rs) t) in
    let third : Draft = Seq p (cores (exprs cs) t then one (Call p (Ref p (Fresh k)) (nexts ss p t))) in
    let u : View = visit c first v in
    let w : View = visit c second u in
    let scope_u : scope_of c u ≡ t = visit_scope c first v ∙ s in
    let again : List Step =
    step.Sequence p m ∷ step.Call p n
    ∷ (next_steps p steps xs ++ (step.Reference p (local.Fresh k) ∷ step.Exprs commands ∷ [])) in
    next_comes c (step.If p) (again ++ (result_steps p results ++ step.Expr test ∷ [])) v (visit c third w)
    (visit c (round p ss td rs cs k t) v)
    (come_append c again (result_steps p results ++ step.Expr test ∷ []) v w (visit c third w)
    (come_append c (result_steps p results) (step.Expr test ∷ []) v u w
    (one_comes c (step.Expr test) v u (td, tests, right.0, ap (λ x. visit c (core (expr td) x) v) (sym s)))
    (results_come c p results results.now rs t u refl res last.0 scope_u))
    (again_comes c p ss cs words inits steps xs commands n m k j t w read are inner.0 h last.1 mean named many together
    (visit_scope c second u ∙ scope_u)))
    (sym (conditional_made c p first second third v))

-- a procedure over its reference, both in a `Fix` of one fresh variable
loop_made : (c : Context) (p : Pos) (e : Draft) (v : View)
    → makes c (step.Loop p (height v)) (visit c e (pushed (Ref p (Fresh (height v))) (bind ([] ∷ []) v)))
    ≡ visit c (Fix p (Fresh (height v) ∷ []) (one e) (Ref p (Fresh (height v)))) v
loop_made c p e v =
    let k : ℕ = height v in
    let d : Draft = Fix p (Fresh k ∷ []) (one e) (Ref p (Fresh k)) in
    ap (λ u. instead u v.made d) (leave_visit c ([] ∷ []) e v)
    ∙ standing_one c e d v
    (alike_twice (parts e) (parts e ++ []) (parts d) (alike (parts e) (parts e ++ []) (sym (append-nil (parts e))))
    (alike_behind (parts e ++ []) (Referred (Fresh k) ∷ []) (alike_referred (Fresh k) [])))

-- what is put for a turn, and the reference below it, in the order of the calls
flat_steps : (p : Pos) (m n test : ℕ) (next results : List Step) (again commands : Step)
    → (step.If p
    ∷ ((step.Sequence p m ∷ step.Call p n ∷ (next ++ (again ∷ commands ∷ []))) ++ (results ++ step.Expr test ∷ [])))
    ++ again ∷ []
    ≡ step.If p ∷ step.Sequence p m ∷ step.Call p n
    ∷ (next ++ ((again ∷ commands ∷ []) ++ (results ++ (step.Expr test ∷ again ∷ []))))
flat_steps p m n test next results again commands =
    let end : List Step = results ++ step.Expr test ∷ [] in
    ap (λ l. step.If p ∷ step.Sequence p m ∷ step.Call p n ∷ l)
    (ap (λ l. l ++ again ∷ []) (append_assoc next (again ∷ commands ∷ []) end)
    ∙ (append_assoc next (again ∷ commands ∷ end) (again ∷ [])
    ∙ ap (λ l. next ++ (again ∷ commands ∷ l)) (append_assoc results (step.Expr test ∷ []) (again ∷ []))))

pub loop_comes : (c : Context) (p : Pos) (ss : Steps) (td : Datum) (rs cs : Items) (words inits : List ℕ)
    (steps : List (Option ℕ)) (xs : List Variable) (test : ℕ) (results commands : Bor (List ℕ)) (n m inner : ℕ) (v : View)
    → Fits c → AreWords c.names → ReadAll c.source words (named_data (step_words ss)) → AreSteps c.source inits steps ss
    → Reads c.source test td → ReadAll c.source results.now rs → ReadAll c.source commands.now cs
    → twice (step_words ss) ≡ false → IsRight (Do p ss (expr td) (exprs rs) (exprs cs))
    → inner ≡ height (bind ([] ∷ []) v) → map (name_of c.names) xs ≡ variables inner (names (step_words ss))
    → n ≡ length words → m ≡ suc (length commands.now)
    → AllCome c (loop_steps p inits steps xs test results commands n m (height v) inner)
    (bind (names (step_words ss)) (bind ([] ∷ []) v)) (seen c (Do p ss (expr td) (exprs rs) (exprs cs)) v)
loop_comes c p ss td rs cs words inits steps xs test results commands n m inner v fits are_words read are tests res h single r at named many together =
    let k : ℕ = height v in
    let s : Scope = scope_of c v in
    let ws : List (List ℕ) = names (step_words ss) in
    let b : View = bind ([] ∷ []) v in
    let low : View = pushed (Ref p (Fresh k)) b in
    let top : View = bind ws b in
    let body : View = bind ws low in
    let t : Scope = within (scope_of c b) ws in
    let j : ℕ = level (scope_of c b) in
    let j_is : inner ≡ j = at ∙ sym (level_height c b) in
    let mean : Mean t j (step_words ss) =
    mean_inside (scope_of c b) (step_words ss) single (read_named c words (step_words ss) fits are_words read) in
    let turn : Draft = round p ss td rs cs k t in
    let procedure : Draft = Lambda p (variables j ws) None turn in
    let fixed_loop : Draft = Fix p (Fresh k ∷ []) (one procedure) (Ref p (Fresh k)) in
    let values : Drafts = firsts ss s in
    let steps_right = right_parts (in_steps ss) (in_exp (expr td) ++ (in_exps (exprs rs) ++ in_exps (exprs cs))) r in
    let u : View = visit c turn body in
    let z : View = visit c procedure low in
    let w : View = visit c fixed_loop v in
    let reference : Step = step.Reference p (local.Fresh k) in
    let again : List Step =
    step.Sequence p m ∷ step.Call p n ∷ (next_steps p steps xs ++ (reference ∷ step.Exprs commands ∷ [])) in
    let turn_steps : List Step =
    step.If p ∷ step.Sequence p m ∷ step.Call p n
    ∷ (next_steps p steps xs
    ++ ((reference ∷ step.Exprs commands ∷ []) ++ (result_steps p results ++ (step.Expr test ∷ reference ∷ [])))) in
    let in_round : List Step = step.If p ∷ (again ++ (result_steps p results ++ step.Expr test ∷ [])) in
    let counted : n ≡ count values =
    many ∙ (count_named c.source words (step_words ss) read
    ∙ (sym (length-map (step_words ss) (λ w. w.name)) ∙ count_firsts ss s)) in
    let whole : ℕ → Scope → Scope → Draft = λ i low_scope inside_scope.
    Call p
    (Fix p (Fresh i ∷ []) (one (Lambda p (variables (level low_scope) ws) None (round p ss td rs cs i inside_scope)))
    (Ref p (Fresh i))) values in
    let same : whole k (scope_of c b) t ≡ core (Do p ss (expr td) (exprs rs) (exprs cs)) s =
    ap (λ i. whole i (scope_of c b) t) (sym (level_height c v))
    ∙ (ap (λ q. whole (level s) q (within q ws)) (scope_bound c ([] ∷ []) v)
    ∙ ap (λ l. whole (level s) (within s ([] ∷ [])) (within (within s ([] ∷ [])) l)) (sym (append-nil ws))) in
    let made_round : AllCome c in_round body u =
    round_comes c p ss td rs cs words inits steps xs test results commands n m k j t body read are tests res h r mean
    (named ∙ ap (λ i. variables i ws) j_is) many together (scope_bound c ws b) in
    let made_all : AllCome c (in_round ++ reference ∷ []) top u =
    come_append c in_round (reference ∷ []) top body u (one_comes c reference top body refl) made_round in
    come_as c (loop_steps p inits steps xs test results commands n m k inner) top (visit c (Call p fixed_loop values) v)
    (seen c (Do p ss (expr td) (exprs rs) (exprs cs)) v) (ap (λ d. visit c d v) same)
    (next_comes c (step.Call p n) _ top (visit_all c values w) (visit c (Call p fixed_loop values) v)
    (come_append c (expr_steps inits) _ top w (visit_all c values w)
    (next_comes c (step.Loop p k) (step.Lambda p inner false ∷ turn_steps) top z w
    (next_comes c (step.Lambda p inner false) turn_steps top u z
    (let Q : List Step → Type 0 = λ l. AllCome c l top u in
    subst Q (flat_steps p m n test (next_steps p steps xs) (result_steps p results) reference (step.Exprs commands)) made_all)
    (sym
    (ap (λ i. makes c (step.Lambda p i false) u) at
    ∙ (lambda_left c p ws turn low))))
    (sym (loop_made c p procedure v)))
    (firsts_come c ss inits steps s w are steps_right.0 (visit_scope c fixed_loop v)))
    (sym (called_all c p n fixed_loop values v counted)))
