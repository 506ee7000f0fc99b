-- What the steps of the forms that bind variables come to.
--
-- `lambda_left`, `called_all`: a procedure, and a call. `exprs_come`, `values_come`: expressions that a loop put.
-- `let_comes`, `star_comes`, `letrec_comes`, `named_comes`: the forms.
use Rattle.std.proofs.Common.{ℕ, suc, ◌≡◌, ◌≤◌, ◌<◌, Bool, true, false, not, ◌&&◌, ◌||◌, if◌then◌else◌, List, [], ◌∷◌, ◌++◌, map, length, None, refl, sym, ap, ap₂, subst, ◌∙◌, append_assoc, append-nil, arith}
use Rattle.std.proofs.Math.Bool.{or-false}
use Rattle.std.proofs.lemmas.Bool.Decides.{nat_tests}
use Rattle.std.proofs.lemmas.List.{length-map}
use Rattle.draft_form.proofs.FormsNumbered.{parts-then}
use Rattle.scheme_base.specs.declared.pos.Pos.{Pos}
use Rattle.scheme_base.specs.Constants.{Constant as constant}
use Rattle.datum_form.specs.Data.{Datum, Items}
use Rattle.datum_form.specs.Data.Items.{none as no_datum}
use Rattle.scheme_expand.specs.declared.source.Source.{Source}
use Rattle.scheme_expand.specs.declared.expander.Expander.{Expander}
use Rattle.scheme_expand.specs.declared.step.Step.{Step}
use Rattle.scheme_expand.specs.declared.step.Step.TheVariants as step
use Rattle.scheme_expand.specs.Calls.{count, one, two}
use Rattle.scheme_expand.specs.Faults.{in_word, in_exp, in_exps, in_bindings}
use Rattle.scheme_expand.specs.Forms.{Exp, Exps, Bindings, no_exp, exp, no_binding, binding, broken}
use Rattle.scheme_expand.specs.Grammar.{expr, exprs, bound_words}
use Rattle.scheme_expand.specs.Making.{makes, given, instead, called, letrec_of, letrec_made, one_assigned, taken, left_of, AllCome, AreRight, IsRight}
use Rattle.scheme_expand.specs.Programs.{changed}
use Rattle.scheme_expand.specs.Putting.{expr_steps, no_name_steps, nest_steps}
use Rattle.scheme_expand.specs.Rewriting.{Scope, level, within, variable, variables, unnamed, names, undefined, assignments, fix, letrec_by_set, letrec, is_empty, is_lambda, are_lambdas, core, cores, values, let_star, has_name}
use Rattle.scheme_expand.specs.Shapes.{value_exps}
use Rattle.scheme_expand.specs.Viewed.{Puts}
use Rattle.scheme_expand.specs.Views.{Context, View, Bound, scope_of, height, raised, marked, noting, pushed, visit, visit_all, seen, all_seen, bind, leave}
use Rattle.scheme_expand.specs.Waiting.{Reads, ReadAll, named_data}
use Rattle.scheme_expand.proofs.Coming.{come_as, one_comes, next_comes, come_append, puts_nothing, puts_twice}
use Rattle.scheme_expand.proofs.Expanding.{right_parts}
use Rattle.scheme_expand.proofs.Noting.{bound_as, view_of, same_view, alike, alike_swap, alike_held, alike_referred, raised_both, marked_both, noting_alike, noting_none, noting_both, noting_swap, noting_scope, visit_scope, made_before, all_made, visit_all_is, all_seen_is, taken_all, left_of_all, standing, scope_bound, leave_bound, leave_visit, from_bound, assigned_bound}
use Rattle.scheme_expand.proofs.Parts.{no_items, first_of}
use Rattle.draft_form.specs.declared.draft.Variable.{Variable}
use Rattle.draft_form.specs.Drafts.{Name, Draft, Drafts, Fresh, Ref, Lambda, Call, none, item, ◌then◌, Part, Held, Referred, Changed, parts, all_parts, changes}
use Rattle.draft_form.specs.Drawn.{Names, name_of}

-- Procedures and calls

pub level_height : (c : Context) (v : View) → level (scope_of c v) ≡ height v
level_height c v = length-map v.bound (λ b. b.name)

-- what is made among variables that are then left is the body of a procedure
pub lambda_left : (c : Context) (p : Pos) (xs : List (List ℕ)) (e : Draft) (v : View)
    → makes c (step.Lambda p (height v) false) (visit c e (bind xs v))
    ≡ visit c (Lambda p (variables (level (scope_of c v)) xs) None e) v
lambda_left c p xs e v =
    let k : ℕ = height v in
    ap (λ ys. given (leave k (visit c e (bind xs v))) (e ∷ v.made) (λ d. Lambda p (variables k ys) None d))
    (from_bound (parts e) xs v.bound)
    ∙ (ap (λ u. instead u v.made (Lambda p (variables k xs) None e)) (leave_visit c xs e v)
    ∙ ap (λ j. visit c (Lambda p (variables j xs) None e) v) (sym (level_height c v)))

-- an operator, then its operands
pub called_all : (c : Context) (p : Pos) (n : ℕ) (e : Draft) (ds : Drafts) (v : View) → n ≡ count ds
    → makes c (step.Call p n) (visit_all c ds (visit c e v)) ≡ visit c (Call p e ds) v
called_all c p n e ds v h =
    let u : View = all_made c ds (all_parts ds) (visit c e v) in
    ap (makes c (step.Call p n)) (visit_all_is c ds (visit c e v))
    ∙ (ap₂ (λ es l. called p es u l) (taken_all n ds (e ∷ v.made) h) (left_of_all n ds (e ∷ v.made) h)
    ∙ same_view (instead u v.made (Call p e ds)) (visit c (Call p e ds) v) refl
    (sym (raised_both (parts e) (all_parts ds) v.bound)) (sym (marked_both (parts e) (all_parts ds) c.names v.flags)))

-- Expressions that a loop put

pub exprs_come : (c : Context) (ids : List ℕ) (ds : Items) (v : View) → ReadAll c.source ids ds → AreRight (exprs ds)
    → AllCome c (expr_steps ids) v (all_seen c (exprs ds) v)
exprs_come c [] ds v h r = ap (λ es. all_seen c (exprs es) v) (no_items c.source [] ds refl h)
exprs_come c (id ∷ ids) ds v h r =
    let f = first_of c.source (id ∷ ids) id ids ds refl h in
    let P : Items → Type 0 = λ es. AreRight (exprs es) in
    let q = right_parts (in_exp (expr f.datum)) (in_exps (exprs f.others)) (subst P f.are r) in
    let u : View = seen c (expr f.datum) v in
    come_as c (expr_steps (id ∷ ids)) v (all_seen c (exprs f.others) u) (all_seen c (exprs ds) v)
    (ap (λ es. all_seen c (exprs es) v) (sym f.are))
    (come_append c (expr_steps ids) (step.Expr id ∷ []) v u (all_seen c (exprs f.others) u)
    (one_comes c (step.Expr id) v u (f.datum, f.first, q.0, refl)) (exprs_come c ids f.others u f.rest q.1))

-- the same as drafts in the scope of a view
pub values_come : (c : Context) (ids : List ℕ) (ds : Items) (s : Scope) (v : View) → ReadAll c.source ids ds
    → AreRight (exprs ds) → scope_of c v ≡ s → AllCome c (expr_steps ids) v (visit_all c (cores (exprs ds) s) v)
values_come c ids ds s v h r e =
    come_as c (expr_steps ids) v (all_seen c (exprs ds) v) (visit_all c (cores (exprs ds) s) v)
    (all_seen_is c (exprs ds) v ∙ ap (λ t. visit_all c (cores (exprs ds) t) v) e) (exprs_come c ids ds v h r)

pub count_read : (s : Source) (ids : List ℕ) (ds : Items) (t : Scope) → ReadAll s ids ds
    → length ids ≡ count (cores (exprs ds) t)
count_read s [] ds t h = ap (λ es. count (cores (exprs es) t)) (sym (no_items s [] ds refl h))
count_read s (id ∷ ids) ds t h =
    let f = first_of s (id ∷ ids) id ids ds refl h in
    ap suc (count_read s ids f.others t f.rest) ∙ ap (λ es. count (cores (exprs es) t)) (sym f.are)

-- Bindings

-- no value of right bindings is broken
pub right_values : (bs : Bindings) → in_bindings bs ≡ [] → AreRight (value_exps bs)
right_values no_binding r = refl
right_values (binding p w e bs) r =
    let inner = right_parts (in_word w) (in_exp e ++ in_bindings bs) r in
    let right = right_parts (in_exp e) (in_bindings bs) inner.1 in
    ap₂ (λ xs ys. xs ++ ys) right.0 (right_values bs right.1)
right_values (broken p n bs) r = absurd (cc)

pub values_are : (bs : Bindings) (s : Scope) → values bs s ≡ cores (value_exps bs) s
values_are no_binding s = refl
values_are (binding p w e bs) s = ap (item (core e s)) (values_are bs s)
values_are (broken p n bs) s = values_are bs s

-- there are as many values as names
pub count_values : (bs : Bindings) (s : Scope) → length (names (bound_words bs)) ≡ count (cores (value_exps bs) s)
count_values no_binding s = refl
count_values (binding p w e bs) s = ap suc (count_values bs s)
count_values (broken p n bs) s = count_values bs s

-- whether all are lambda expressions
abbrev each_lambda : Exps → Bool
each_lambda no_exp = true
each_lambda (exp e es) = is_lambda e && each_lambda es

lambdas_are : (bs : Bindings) → are_lambdas bs ≡ each_lambda (value_exps bs)
lambdas_are no_binding = refl
lambdas_are (binding p w e bs) = ap (λ b. is_lambda e && b) (lambdas_are bs)
lambdas_are (broken p n bs) = lambdas_are bs

-- all expressions but those that are left are lambda expressions
pub record Looked (s : Source) (ds : Items) (rest : List ℕ) : Type 0 where
  pub left : Items
  pub read : ReadAll s rest left
  pub right : AreRight (exprs left)
  pub same : each_lambda (exprs ds) ≡ each_lambda (exprs left)

pub none_looked : (s : Source) (ids : List ℕ) (ds : Items) → ReadAll s ids ds → AreRight (exprs ds) → Looked s ds ids
none_looked s ids ds h r = record { left = ds; read = h; right = r; same = refl }

record Look (s : Source) (ds : Items) (id : ℕ) (others : List ℕ) : Type 0 where
  datum : Datum
  items : Items
  first : Reads s id datum
  read : ReadAll s others items
  right_first : IsRight (expr datum)
  right : AreRight (exprs items)
  same : each_lambda (exprs ds) ≡ (is_lambda (expr datum) && each_lambda (exprs items))

look : (s : Source) (ds : Items) (rest others : List ℕ) (id : ℕ) → Looked s ds rest → rest ≡ id ∷ others → Look s ds id others
look s ds rest others id i e =
    let f = first_of s rest id others i.left e i.read in
    let P : Items → Type 0 = λ es. AreRight (exprs es) in
    let q = right_parts (in_exp (expr f.datum)) (in_exps (exprs f.others)) (subst P f.are i.right) in
    record {
      datum = f.datum;
      items = f.others;
      first = f.first;
      read = f.rest;
      right_first = q.0;
      right = q.1;
      same = i.same ∙ ap (λ es. each_lambda (exprs es)) f.are;
    }

pub lambda_looked : (s : Source) (ds : Items) (rest others : List ℕ) (id : ℕ) → Looked s ds rest → rest ≡ id ∷ others
    → ((d : Datum) → Reads s id d → IsRight (expr d) → true ≡ is_lambda (expr d)) → Looked s ds others
lambda_looked s ds rest others id i e is =
    let l = look s ds rest others id i e in
    record {
      left = l.items;
      read = l.read;
      right = l.right;
      same = l.same ∙ ap (λ b. b && each_lambda (exprs l.items)) (sym (is l.datum l.first l.right_first));
    }

pub other_looked : (s : Source) (ds : Items) (rest others : List ℕ) (id : ℕ) (bs : Bindings) → Looked s ds rest
    → rest ≡ id ∷ others → value_exps bs ≡ exprs ds
    → ((d : Datum) → Reads s id d → IsRight (expr d) → false ≡ is_lambda (expr d)) → false ≡ are_lambdas bs
other_looked s ds rest others id bs i e v is =
    let l = look s ds rest others id i e in
    sym
    (lambdas_are bs
    ∙ (ap each_lambda v ∙ (l.same ∙ ap (λ b. b && each_lambda (exprs l.items)) (sym (is l.datum l.first l.right_first)))))

pub all_looked : (s : Source) (ds : Items) (rest : List ℕ) (bs : Bindings) → Looked s ds rest → rest ≡ []
    → value_exps bs ≡ exprs ds → true ≡ are_lambdas bs
all_looked s ds rest bs i e v =
    sym
    (lambdas_are bs
    ∙ (ap each_lambda v ∙ (i.same ∙ ap (λ es. each_lambda (exprs es)) (no_items s rest i.left e i.read))))

-- Steps that a loop puts

-- the expressions after those that are left are put
pub record ExprsPut (a b : Expander) (all rest : List ℕ) : Type 0 where
  pub put : List Step
  pub puts : Puts a b put
  pub left : expr_steps all ≡ put ++ expr_steps rest

-- nothing changes
pub nothing_put : (a : Expander) → Puts a a []
nothing_put a = puts_nothing a a (record { source = refl; library = refl; changed = refl; maker = refl }) refl

pub no_expr_put : (a : Expander) (ids : List ℕ) → ExprsPut a a ids ids
no_expr_put a ids = record { put = []; puts = nothing_put a; left = refl }

last_expr : (ids : List ℕ) (id : ℕ) → expr_steps (ids ++ id ∷ []) ≡ step.Expr id ∷ expr_steps ids
last_expr [] id = refl
last_expr (i ∷ ids) id = ap (λ steps. steps ++ step.Expr i ∷ []) (last_expr ids id)

pub expr_put : (a b d : Expander) (all rest others : List ℕ) (id : ℕ) → ExprsPut a b all rest → rest ≡ others ++ id ∷ []
    → Puts b d (step.Expr id ∷ []) → ExprsPut a d all others
expr_put a b d all rest others id i e p = record {
  put = i.put ++ step.Expr id ∷ [];
  puts = puts_twice a b d i.put (step.Expr id ∷ []) i.puts p;
  left =
      i.left
      ∙ (ap (λ l. i.put ++ l) (ap expr_steps e ∙ last_expr others id)
      ∙ sym (append_assoc i.put (step.Expr id ∷ []) (expr_steps others)));
}

put_as : (a b : Expander) (xs ys : List Step) → xs ≡ ys → Puts a b xs → Puts a b ys
put_as a b xs ys e p = let P : List Step → Type 0 = λ l. Puts a b l in subst P e p

pub exprs_put : (a b : Expander) (all rest : List ℕ) → ExprsPut a b all rest → rest ≡ [] → Puts a b (expr_steps all)
exprs_put a b all rest i e =
    put_as a b i.put (expr_steps all) (sym (i.left ∙ (ap (λ l. i.put ++ expr_steps l) e ∙ append-nil i.put))) i.puts

-- the values before those that are left are put, with the variables that they are bound to
pub record NestPut (a b : Expander) (p : Pos) (k : ℕ) (xs : List Variable) (all : List ℕ) (next : ℕ) (later : List Variable)
    (rest : List ℕ) : Type 0 where
  pub put : List Step
  pub puts : Puts a b put
  pub left : nest_steps p k xs all ≡ put ++ nest_steps p next later rest

pub no_value_put : (a : Expander) (p : Pos) (k : ℕ) (xs : List Variable) (ids : List ℕ) → NestPut a a p k xs ids k xs ids
no_value_put a p k xs ids = record { put = []; puts = nothing_put a; left = refl }

pub value_put : (a b d : Expander) (p : Pos) (k : ℕ) (xs : List Variable) (all : List ℕ) (next above : ℕ)
    (later inner : List Variable) (rest others : List ℕ) (x : Variable) (id : ℕ) → NestPut a b p k xs all next later rest
    → rest ≡ id ∷ others → later ≡ x ∷ inner → above ≡ suc next
    → Puts b d (step.Bind p x ∷ step.Expr id ∷ step.Leave next ∷ []) → NestPut a d p k xs all above inner others
value_put a b d p k xs all next above later inner rest others x id i e f g h =
    let here : List Step = step.Bind p x ∷ step.Expr id ∷ step.Leave next ∷ [] in
    record {
      put = i.put ++ here;
      puts = puts_twice a b d i.put here i.puts h;
      left =
          i.left
          ∙ (ap (λ l. i.put ++ l)
          (ap₂ (λ vs is. nest_steps p next vs is) f e ∙ ap (λ j. here ++ nest_steps p j inner others) (sym g))
          ∙ sym (append_assoc i.put here (nest_steps p above inner others)));
    }

no_value_left : (p : Pos) (k : ℕ) (xs : List Variable) → nest_steps p k xs [] ≡ []
no_value_left p k [] = refl
no_value_left p k (x ∷ xs) = refl

pub nest_put : (a b : Expander) (p : Pos) (k : ℕ) (xs : List Variable) (all : List ℕ) (next : ℕ) (later : List Variable)
    (rest : List ℕ) → NestPut a b p k xs all next later rest → rest ≡ [] → Puts a b (nest_steps p k xs all)
nest_put a b p k xs all next later rest i e =
    put_as a b i.put (nest_steps p k xs all)
    (sym
    (i.left
    ∙ (ap (λ l. i.put ++ l) (ap (nest_steps p next later) e ∙ no_value_left p next later) ∙ append-nil i.put)))
    i.puts

-- `let`

pub let_comes : (c : Context) (p : Pos) (n : ℕ) (ids : List ℕ) (ds : Items) (xs : List (List ℕ)) (e : Draft) (v : View)
    → ReadAll c.source ids ds → AreRight (exprs ds) → n ≡ length ids
    → AllCome c (step.Call p n ∷ (expr_steps ids ++ step.Lambda p (height v) false ∷ [])) (visit c e (bind xs v))
    (visit c (Call p (Lambda p (variables (level (scope_of c v)) xs) None e) (cores (exprs ds) (scope_of c v))) v)
let_comes c p n ids ds xs e v h r same =
    let s : Scope = scope_of c v in
    let made : View = visit c e (bind xs v) in
    let operator : Draft = Lambda p (variables (level s) xs) None e in
    let u : View = visit c operator v in
    let w : View = visit_all c (cores (exprs ds) s) u in
    next_comes c (step.Call p n) (expr_steps ids ++ step.Lambda p (height v) false ∷ []) made w
    (visit c (Call p operator (cores (exprs ds) s)) v)
    (come_append c (expr_steps ids) (step.Lambda p (height v) false ∷ []) made u w
    (one_comes c (step.Lambda p (height v) false) made u (sym (lambda_left c p xs e v)))
    (values_come c ids ds s u h r (visit_scope c operator v)))
    (sym (called_all c p n operator (cores (exprs ds) s) v (same ∙ count_read c.source ids ds s h)))

-- `let*`

-- values that are bound from the last one on, round what is made in all variables
abbrev nested : Context → Pos → (level : ℕ) → List Variable → Exps → View → View
nested c p k [] es u = u
nested c p k (x ∷ xs) no_exp u = u
nested c p k (x ∷ xs) (exp e es) u = makes c (step.Bind p x) (seen c e (leave k (nested c p (suc k) xs es u)))

none_nested : (c : Context) (p : Pos) (k : ℕ) (xs : List Variable) (u : View) → nested c p k xs no_exp u ≡ u
none_nested c p k [] u = refl
none_nested c p k (x ∷ xs) u = refl

nest_comes : (c : Context) (p : Pos) (k : ℕ) (xs : List Variable) (ids : List ℕ) (ds : Items) (u : View)
    → ReadAll c.source ids ds → AreRight (exprs ds) → AllCome c (nest_steps p k xs ids) u (nested c p k xs (exprs ds) u)
nest_comes c p k [] ids ds u h r = refl
nest_comes c p k (x ∷ xs) [] ds u h r =
    ap (λ es. nested c p k (x ∷ xs) (exprs es) u) (no_items c.source [] ds refl h)
nest_comes c p k (x ∷ xs) (id ∷ ids) ds u h r =
    let f = first_of c.source (id ∷ ids) id ids ds refl h in
    let P : Items → Type 0 = λ es. AreRight (exprs es) in
    let q = right_parts (in_exp (expr f.datum)) (in_exps (exprs f.others)) (subst P f.are r) in
    let rest : List Step = nest_steps p (suc k) xs ids in
    let t : View = nested c p (suc k) xs (exprs f.others) u in
    let w : View = seen c (expr f.datum) (leave k t) in
    come_as c (nest_steps p k (x ∷ xs) (id ∷ ids)) u (makes c (step.Bind p x) w) (nested c p k (x ∷ xs) (exprs ds) u)
    (ap (λ es. nested c p k (x ∷ xs) (exprs es) u) (sym f.are))
    (next_comes c (step.Bind p x) (step.Expr id ∷ step.Leave k ∷ rest) u w (makes c (step.Bind p x) w)
    (next_comes c (step.Expr id) (step.Leave k ∷ rest) u (leave k t) w
    (next_comes c (step.Leave k) rest u t (leave k t) (nest_comes c p (suc k) xs ids f.others u f.rest q.1) refl)
    (f.datum, f.first, q.0, refl))
    refl)

-- a body, and the value of its one variable
one_bound : (c : Context) (p : Pos) (x : Variable) (y : Name) (xs : List (List ℕ)) (e : Exp) (d : Draft) (v : View)
    → name_of c.names x ≡ y
    → makes c (step.Bind p x) (seen c e (leave (height v) (visit c d (bind xs v))))
    ≡ visit c (Call p (Lambda p (y ∷ []) None d) (one (core e (scope_of c v)))) v
one_bound c p x y xs e d v h =
    let value : Draft = core e (scope_of c v) in
    ap (λ u. makes c (step.Bind p x) (seen c e u)) (leave_visit c xs d v)
    ∙ (ap (λ s. makes c (step.Bind p x) (visit c (core e s) (visit c d v))) (visit_scope c d v)
    ∙ (ap (λ z. instead (visit c value (visit c d v)) v.made (Call p (Lambda p (z ∷ []) None d) (one value))) h
    ∙ standing c (two d value) (Call p (Lambda p (y ∷ []) None d) (one value)) v
    (alike (all_parts (two d value)) (all_parts (two d value)) refl)))

star_nested : (c : Context) (p : Pos) (bs : Bindings) (xs : List Variable) (body : Scope → Draft) (v : View)
    → in_bindings bs ≡ [] → is_empty bs ≡ false
    → map (name_of c.names) xs ≡ variables (level (scope_of c v)) (names (bound_words bs))
    → nested c p (height v) xs (value_exps bs)
    (visit c (body (within (scope_of c v) (names (bound_words bs)))) (bind (names (bound_words bs)) v))
    ≡ visit c (let_star bs p body (scope_of c v)) v
star_nested c p no_binding xs body v r i h = absurd (cc)
star_nested c p (broken q n bs) xs body v r i h = absurd (cc)
star_nested c p (binding q w e bs) [] body v r i h = absurd (cc)
star_nested c p (binding q w e no_binding) (x ∷ xs) body v r i h =
    let s : Scope = scope_of c v in
    let here : List (List ℕ) = w.name ∷ [] in
    let u : View = visit c (body (within s here)) (bind here v) in
    let same : name_of c.names x ≡ variable (level s) w.name = cc in
    ap (λ t. makes c (step.Bind p x) (seen c e (leave (height v) t))) (none_nested c p (suc (height v)) xs u)
    ∙ one_bound c p x (variable (level s) w.name) here e (body (within s here)) v same
star_nested c p (binding q w e (broken q2 n bs)) (x ∷ xs) body v r i h =
    let inner = right_parts (in_word w) (in_exp e ++ in_bindings (broken q2 n bs)) r in
    absurd (let none_left = right_parts (in_exp e) (in_bindings (broken q2 n bs)) inner.1 in let last = none_left.1 in cc)
star_nested c p (binding q w e (binding q2 w2 e2 bs)) (x ∷ xs) body v r i h =
    let s : Scope = scope_of c v in
    let here : List (List ℕ) = w.name ∷ [] in
    let more : Bindings = binding q2 w2 e2 bs in
    let same : name_of c.names x ≡ variable (level s) w.name = cc in
    let others : map (name_of c.names) xs ≡ variables (suc (level s)) (names (bound_words more)) = cc in
    let inner = right_parts (in_word w) (in_exp e ++ in_bindings more) r in
    let right = right_parts (in_exp e) (in_bindings more) inner.1 in
    ap (λ t. makes c (step.Bind p x) (seen c e (leave (height v) t)))
    (star_nested c p more xs body (bind here v) right.1 refl others)
    ∙ one_bound c p x (variable (level s) w.name) here e (let_star more p body (within s here)) v same

-- the steps of `let*`, whether it has variables or none
pub star_comes : (c : Context) (p : Pos) (bs : Bindings) (words values : List ℕ) (ds : Items) (xs : List Variable)
    (body : Scope → Draft) (v : View) → in_bindings bs ≡ [] → ReadAll c.source words (named_data (bound_words bs))
    → ReadAll c.source values ds → value_exps bs ≡ exprs ds
    → map (name_of c.names) xs ≡ variables (level (scope_of c v)) (names (bound_words bs))
    → AllCome c (no_name_steps p words (height v) ++ nest_steps p (height v) xs values)
    (visit c (body (within (scope_of c v) (names (bound_words bs)))) (bind (names (bound_words bs)) v))
    (visit c (let_star bs p body (scope_of c v)) v)
star_comes c p (broken q n bs) words values ds xs body v r named valued e h = absurd (cc)
star_comes c p no_binding (i ∷ words) values ds xs body v r named valued e h =
    absurd (let nothing : i ∷ words ≡ [] = named.stand in cc)
star_comes c p no_binding [] values ds (x ∷ xs) body v r named valued e h = absurd (cc)
star_comes c p no_binding [] values ds [] body v r named valued e h =
    let s : Scope = scope_of c v in
    let_comes c p 0 [] no_datum [] (body (within s [])) v (record { named = valued.named; stand = refl }) refl refl
star_comes c p (binding q w d bs) [] values ds xs body v r named valued e h =
    absurd (let something = named.stand.2 in cc)
star_comes c p (binding q w d bs) (i ∷ words) values ds xs body v r named valued e h =
    let all : Bindings = binding q w d bs in
    let ws : List (List ℕ) = names (bound_words all) in
    let u : View = visit c (body (within (scope_of c v) ws)) (bind ws v) in
    come_as c (nest_steps p (height v) xs values) u (nested c p (height v) xs (exprs ds) u)
    (visit c (let_star all p body (scope_of c v)) v)
    (ap (λ es. nested c p (height v) xs es u) (sym e) ∙ star_nested c p all xs body v r refl h)
    (nest_comes c p (height v) xs values ds u valued (ap in_exps (sym e) ∙ right_values all r))

-- `letrec`

unchanged_there : (i j k : ℕ) (x : List ℕ) → i < j
    → changes i 1 (Changed (variable j x) ∷ Referred (Fresh k) ∷ []) ≡ false
unchanged_there i j k [] h = refl
unchanged_there i j k (b ∷ x) h = grind (arith, nat_tests)

unraised : (j k : ℕ) (x : List ℕ) (bs : List Bound) → length bs ≤ j
    → raised (Changed (variable j x) ∷ Referred (Fresh k) ∷ []) bs ≡ bs
unraised j k x [] h = refl
unraised j k x (b ∷ bs) h =
    ap₂ (λ a cs. bound_as b.name a ∷ cs)
    (ap (λ a. b.assigned || a) (unchanged_there (length bs) j k x (omega arith)) ∙ or-false b.assigned)
    (unraised j k x bs (omega arith))

unmarked : (ps : List Part) (xs : Names) (fs : List Bool) → changed ps ≡ [] → marked ps xs fs ≡ fs
unmarked ps [] fs e = refl
unmarked ps (x ∷ xs) [] e = refl
unmarked ps (x ∷ xs) (f ∷ fs) e =
    ap₂ (λ a gs. a ∷ gs) (ap (λ ys. f || has_name ys x.now) e ∙ or-false f) (unmarked ps xs fs e)

not_public : (j k : ℕ) (x : List ℕ) → changed (Changed (variable j x) ∷ Referred (Fresh k) ∷ []) ≡ []
not_public j k [] = refl
not_public j k (b ∷ x) = refl

-- assignments to inner variables change nothing outside
assignments_noted : (c : Context) (p : Pos) (j k : ℕ) (xs : List (List ℕ)) (v : View) → height v ≤ j
    → noting c (all_parts (assignments p j k xs)) v ≡ v
assignments_noted c p j k [] v h = noting_none c v
assignments_noted c p j k (x ∷ xs) v h =
    let here : List Part = Changed (variable j x) ∷ Referred (Fresh k) ∷ [] in
    let rest : List Part = all_parts (assignments p (suc j) (suc k) xs) in
    noting_both c here rest v
    ∙ (ap (noting c rest)
    (same_view (noting c here v) v refl (unraised j k x v.bound h) (unmarked here c.names v.flags (not_public j k x)))
    ∙ assignments_noted c p (suc j) (suc k) xs v (omega arith))

undefined_noted : (c : Context) (p : Pos) (xs : List (List ℕ)) (v : View)
    → noting c (all_parts (undefined p xs)) v ≡ v
undefined_noted c p [] v = noting_none c v
undefined_noted c p (x ∷ xs) v =
    let rest : List Part = all_parts (undefined p xs) in
    noting_alike c (Held constant.Undefined ∷ rest) rest v (alike_held constant.Undefined rest)
    ∙ undefined_noted c p xs v

-- a `letrec` has the changes of its body and of its values
letrec_noted : (c : Context) (p : Pos) (is_fix : Bool) (s : Scope) (xs : List (List ℕ)) (es : Drafts) (body : Draft) (v : View)
    → height v ≤ level s
    → noting c (parts (letrec_made p is_fix s xs es body)) v ≡ noting c (all_parts es) (noting c (parts body) v)
letrec_noted c p true s xs es body v h =
    noting_both c (all_parts es) (parts body) v ∙ noting_swap c (parts body) (all_parts es) v
letrec_noted c p false s xs es body v h =
    let t : Scope = within s xs in
    let sets : Drafts = assignments p (level s) (level t) xs in
    let rest : Drafts = one (Call p (Lambda p [] None body) none) in
    let inner : List Part = all_parts (sets then rest) in
    noting_both c (inner ++ all_parts es) (all_parts (undefined p xs)) v
    ∙ (undefined_noted c p xs (noting c (inner ++ all_parts es) v)
    ∙ (noting_both c inner (all_parts es) v
    ∙ ap (noting c (all_parts es))
    (ap (λ ps. noting c ps v) (parts-then sets rest)
    ∙ (noting_both c (all_parts sets) (all_parts rest) v
    ∙ (ap (noting c (all_parts rest)) (assignments_noted c p (level s) (level t) xs v h)
    ∙ ap (λ ps. noting c ps v) (append-nil (parts body ++ []) ∙ append-nil (parts body)))))))

letrec_left : (c : Context) (p : Pos) (lambdas : Bool) (xs : List (List ℕ)) (es : Drafts) (body : Draft) (ps : List Part)
    (v : View) → length xs ≡ count es
    → makes c (step.Letrec p (height v) lambdas) (noting c ps (bind xs (view_of (made_before es (body ∷ v.made)) v.bound v.flags)))
    ≡ pushed (letrec_made p (lambdas && not (changes (height v) (length xs) ps)) (scope_of c v) xs es body) (noting c ps v)
letrec_left c p lambdas xs es body ps v h =
    let k : ℕ = height v in
    let before : View = view_of (made_before es (body ∷ v.made)) v.bound v.flags in
    let u : View = noting c ps (bind xs before) in
    let is_fix : Bool = lambdas && not (one_assigned k u.bound) in
    let s : Scope = scope_of c (leave k u) in
    let after : View = noting c ps v in
    ap (λ ys. letrec_of p k is_fix s ys (taken (length ys) u.made) u (left_of (length ys) u.made)) (from_bound ps xs v.bound)
    ∙ (ap₂ (λ ds l. letrec_of p k is_fix s xs ds u l) (taken_all (length xs) es (body ∷ v.made) h)
    (left_of_all (length xs) es (body ∷ v.made) h)
    ∙ (ap (λ t. instead t v.made (letrec_made p is_fix (scope_of c t) xs es body)) (leave_bound c xs ps before)
    ∙ (ap (λ t. pushed (letrec_made p is_fix t xs es body) after) (noting_scope c ps before)
    ∙ ap (λ a. pushed (letrec_made p (lambdas && not a) (scope_of c v) xs es body) after) (assigned_bound ps xs v.bound))))

which_letrec : (p : Pos) (is_fix : Bool) (s : Scope) (xs : List (List ℕ)) (es : Drafts) (body : Draft)
    → letrec_made p is_fix s xs es body ≡ (if is_fix then fix p s xs es body else letrec_by_set p s xs es body)
which_letrec p true s xs es body = refl
which_letrec p false s xs es body = refl

-- a body, then values, of which there are as many as variables
pub letrec_standing : (c : Context) (p : Pos) (lambdas : Bool) (xs : List (List ℕ)) (es : Drafts) (body : Draft) (v : View)
    → length xs ≡ count es
    → makes c (step.Letrec p (height v) lambdas) (visit_all c es (visit c body (bind xs v)))
    ≡ visit c (letrec p (scope_of c v) xs lambdas es body) v
letrec_standing c p lambdas xs es body v h =
    let k : ℕ = height v in
    let s : Scope = scope_of c v in
    let bodys : List Part = parts body in
    let values : List Part = all_parts es in
    let made : Bool → Draft = λ a. letrec_made p (lambdas && not a) s xs es body in
    let before : View = view_of (made_before es (body ∷ v.made)) v.bound v.flags in
    let change : Bool = changes k (length xs) (bodys ++ values) in
    ap (makes c (step.Letrec p k lambdas))
    (visit_all_is c es (visit c body (bind xs v)) ∙ sym (noting_both c bodys values (bind xs before)))
    ∙ (letrec_left c p lambdas xs es body (bodys ++ values) v h
    ∙ (ap (pushed (made change))
    (noting_both c bodys values v
    ∙ sym (letrec_noted c p (lambdas && not change) s xs es body v (omega (arith, level_height c v))))
    ∙ (ap (λ a. visit c (made a) v) (let swapped = alike_swap bodys values in swapped.levels k (length xs))
    ∙ (ap (λ j. visit c (made (changes j (length xs) (values ++ bodys))) v) (sym (level_height c v))
    ∙ ap (λ d. visit c d v)
    (which_letrec p (lambdas && not (changes (level s) (length xs) (values ++ bodys))) s xs es body)))))

-- the steps of a `letrec`, whose body is made where as many fresh variables are bound too
pub letrec_comes : (c : Context) (p : Pos) (inner m : ℕ) (lambdas : Bool) (ids : List ℕ) (ds : Items) (xs : List (List ℕ))
    (body : Draft) (v : View) → ReadAll c.source ids ds → AreRight (exprs ds) → length xs ≡ length ids
    → inner ≡ height (bind xs v)
    → AllCome c (step.Letrec p (height v) lambdas ∷ (expr_steps ids ++ step.Leave inner ∷ []))
    (visit c body (bind (unnamed m) (bind xs v)))
    (visit c (letrec p (scope_of c v) xs lambdas (cores (exprs ds) (within (scope_of c v) xs)) body) v)
letrec_comes c p inner m lambdas ids ds xs body v h r same i =
    let t : Scope = within (scope_of c v) xs in
    let es : Drafts = cores (exprs ds) t in
    let made : View = visit c body (bind (unnamed m) (bind xs v)) in
    let u : View = visit c body (bind xs v) in
    let w : View = visit_all c es u in
    next_comes c (step.Letrec p (height v) lambdas) (expr_steps ids ++ step.Leave inner ∷ []) made w
    (visit c (letrec p (scope_of c v) xs lambdas es body) v)
    (come_append c (expr_steps ids) (step.Leave inner ∷ []) made u w
    (one_comes c (step.Leave inner) made u
    (sym (ap (λ k. leave k made) i ∙ leave_visit c (unnamed m) body (bind xs v))))
    (values_come c ids ds t u h r (visit_scope c body (bind xs v) ∙ scope_bound c xs v)))
    (sym (letrec_standing c p lambdas xs es body v (same ∙ count_read c.source ids ds t h)))

-- `let` with a name

pub reference_made : (c : Context) (p : Pos) (x : Name) (v : View) → pushed (Ref p x) v ≡ visit c (Ref p x) v
reference_made c p x v =
    ap (pushed (Ref p x)) (sym (noting_alike c (Referred x ∷ []) [] v (alike_referred x []) ∙ noting_none c v))

-- the steps of a procedure that knows its name, which is made before its body
pub named_comes : (c : Context) (p : Pos) (n inner : ℕ) (ids : List ℕ) (ds : Items) (x : List ℕ) (y : Name)
    (xs : List (List ℕ)) (e : Draft) (v : View) → ReadAll c.source ids ds → AreRight (exprs ds) → n ≡ length ids
    → inner ≡ height (bind (x ∷ []) v)
    → AllCome c
    (step.Call p n ∷ (expr_steps ids ++ step.Letrec p (height v) true ∷ step.Lambda p inner false ∷ []))
    (visit c e (bind xs (pushed (Ref p y) (bind (x ∷ []) v))))
    (visit c
    (Call p
    (letrec p (scope_of c v) (x ∷ []) true
    (one (Lambda p (variables (level (within (scope_of c v) (x ∷ []))) xs) None e)) (Ref p y))
    (cores (exprs ds) (scope_of c v)))
    v)
named_comes c p n inner ids ds x y xs e v h r same i =
    let s : Scope = scope_of c v in
    let here : List (List ℕ) = x ∷ [] in
    let es : Drafts = cores (exprs ds) s in
    let last : List Step = step.Letrec p (height v) true ∷ step.Lambda p inner false ∷ [] in
    let below : View = pushed (Ref p y) (bind here v) in
    let made : View = visit c e (bind xs below) in
    let procedure : Draft = Lambda p (variables (level (within s here)) xs) None e in
    let operator : Draft = letrec p s here true (one procedure) (Ref p y) in
    let t : View = visit c procedure below in
    let u : View = visit c operator v in
    let w : View = visit_all c es u in
    next_comes c (step.Call p n) (expr_steps ids ++ last) made w (visit c (Call p operator es) v)
    (come_append c (expr_steps ids) last made u w
    (next_comes c (step.Letrec p (height v) true) (step.Lambda p inner false ∷ []) made t u
    (one_comes c (step.Lambda p inner false) made t
    (sym (ap (λ k. makes c (step.Lambda p k false) made) i ∙ lambda_left c p xs e below)))
    (sym
    (ap (λ z. makes c (step.Letrec p (height v) true) (visit c procedure z)) (reference_made c p y (bind here v))
    ∙ letrec_standing c p true here (one procedure) (Ref p y) v refl)))
    (values_come c ids ds s u h r (visit_scope c operator v)))
    (sym (called_all c p n operator es v (same ∙ count_read c.source ids ds s h)))
