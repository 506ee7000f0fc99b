-- The list of rules has as many as are counted.
use Rattle.std.proofs.Common.{◌≡◌, ℕ, zero, suc, ◌+◌, ◌-◌, ◌≤◌, Bool, true, false, List, [], ◌∷◌, ◌++◌, length, min, map, Option, Some, None, refl, sym, ap, ◌∙◌, arith, length-append, append-nil, eqb-true, leb-true}
use Rattle.std.proofs.lemmas.List.{length-map}
use Rattle.std.specs.List.{flat_map}
use Rattle.std.proofs.lemmas.Bool.Decides.{nat_tests}
use Rattle.std.specs.Prelude.{if◌then◌else◌, nat_eq}
use Rattle.scheme_base.specs.declared.lit.Lit.{Lit}
use Rattle.scheme_base.specs.declared.op.Op.{Op}
use Rattle.scheme_base.specs.declared.op.Op.TheVariants as op
use Rattle.scheme_base.specs.declared.pos.Pos.{Pos}
use Rattle.flow_form.specs.declared.rule.Rule.{Rule}
use Rattle.named_form.specs.Code as named
use Rattle.named_form.specs.Code.{Code, Ends, Then, Act, Const, Copy, Prim, Call, Apply, CallCC, If, Closure, Fix, MakeBox, MakeHole, Unbox, SetBox, TopGet, TopSet, TopDefine, Written, past, past_arms, past_code}
use Rattle.flow_constraints.specs.declared.calls.Site.{Site}
use Rattle.flow_constraints.specs.declared.flow.Entry.{Entry}
use Rattle.flow_constraints.specs.declared.flow.Flow.{Flow}
use Rattle.flow_constraints.specs.declared.operations.Operation.{Operation}
use Rattle.flow_constraints.specs.declared.put.Guard.{Guard}
use Rattle.flow_constraints.specs.declared.steps.Spot.{Spot}
use Rattle.flow_constraints.specs.Rows.{row, Result, Var, Part, Items, Given, Spine, number_at}
use Rattle.flow_constraints.specs.Table.{any_list_with, applied, apply_step_rules, call_rules, calling, choice_rules, operation_of, ending, enter_rules, fix_rules, leave_rules, list_rules, making_rules, operand, operand_rules, own_rules, parts_of, parts_under, prim_rules, reading_rules, rest_with, results, result_rules, resume_one, resume_rules, site_of, spine_pair, spine_rules, spot_of, takes, takes_of, value_rules, within, writing_rules}
use Rattle.flow_constraints.specs.Counting.{any_list_count, applied_count, apply_count, applying_count, arms_count, call_count, code_count, enter_count, entering_count, holding_count, lambdas_count, list_count, own_count, procs_count, rest_count, resume_count, value_count}
use Rattle.flow_constraints.specs.Listed.{reached_block}
use Rattle.flow_constraints.specs.Walk.{inside, put_arms, put_code, put_lambda, put_lambdas, put_procs}

list_many : (f : Flow) (g : Guard) (e : Entry) (x n : ℕ) → length (list_rules f g e x n) ≡ list_count n
list_many f g e x zero = refl
list_many f g e x (suc zero) = refl
list_many f g e x (suc (suc n)) = refl

-- a procedure's rest parameter decides how many operands it takes
abbrev TakesRest : Option ℕ → (params operands : ℕ) → Type 0
TakesRest None m n = m ≡ n
TakesRest (Some x) m n = m ≤ n

rest_many : (f : Flow) (g : Guard) (e : Entry) (o : Option ℕ) (ys : List ℕ) → TakesRest o 0 (length ys)
    → length (rest_with f g e o ys) ≡ length ys + rest_count o (length ys)
rest_many f g e None [] h = refl
rest_many f g e None (y ∷ ys) h = absurd (omega (arith, h))
rest_many f g e (Some x) ys h =
    length-append (map (λ y. within g y (row f (Part e.list 0))) ys) (list_rules f g e x (length ys))
    ∙ ap (λ n. n + length (list_rules f g e x (length ys))) (length-map ys (λ y. within g y (row f (Part e.list 0))))
    ∙ ap (λ n. length ys + n) (list_many f g e x (length ys))

takes_less : (o : Option ℕ) (m n : ℕ) → TakesRest o (suc m) (suc n) → TakesRest o m n
takes_less None m n h = omega (arith, h)
takes_less (Some x) m n h = omega (arith, h)

less_one : (m n : ℕ) → suc n - suc m ≡ n - m
less_one m n = omega arith

none_less : (n : ℕ) → n - 0 ≡ n
none_less n = omega arith

suc_front : (m n : ℕ) → suc (m + n) ≡ suc m + n
suc_front m n = omega arith

one_front : (n : ℕ) → suc n ≡ 1 + n
one_front n = omega arith

no_operand : (o : Option ℕ) (m : ℕ) → TakesRest o (suc m) 0 → ⊥
no_operand None m h = omega (arith, h)
no_operand (Some x) m h = omega (arith, h)

operands_many : (f : Flow) (g : Guard) (e : Entry) (xs ys : List ℕ) → TakesRest e.rest (length xs) (length ys)
    → length (operand_rules f g e xs ys) ≡ length ys + rest_count e.rest (length ys - length xs)
operands_many f g e [] ys h =
    rest_many f g e e.rest ys h ∙ ap (λ n. length ys + rest_count e.rest n) (sym (none_less (length ys)))
operands_many f g e (x ∷ xs) [] h = absurd (no_operand e.rest (length xs) h)
operands_many f g e (x ∷ xs) (y ∷ ys) h =
    ap suc (operands_many f g e xs ys (takes_less e.rest (length xs) (length ys) h))
    ∙ suc_front (length ys) (rest_count e.rest (length ys - length xs))
    ∙ ap (λ n. suc (length ys) + rest_count e.rest n) (sym (less_one (length xs) (length ys)))

if_many : (b : Bool) (rs : List Rule) (n : ℕ) → (b ≡ true → length rs ≡ n)
    → length (if b then rs else []) ≡ (if b then n else 0)
if_many true rs n h = h refl
if_many false rs n h = refl

takes_is : (o : Option ℕ) (m n : ℕ) → takes_of o m n ≡ true → TakesRest o m n
takes_is None m n h = eqb-true m n h
takes_is (Some x) m n h = leb-true m n h

entered_many : (f : Flow) (s : Site) (ys : List ℕ) (e : Entry) → takes e (length ys) ≡ true
    → length (operand_rules f (calling s e.atom) e e.params ys ++ leave_rules f (calling s e.atom) e s.value)
    ≡ (length ys + 2) + rest_count e.rest (length ys - length e.params)
entered_many f s ys e h =
    let many = operands_many f (calling s e.atom) e e.params ys (takes_is e.rest (length e.params) (length ys) h) in
    let both = length-append (operand_rules f (calling s e.atom) e e.params ys) (leave_rules f (calling s e.atom) e s.value) in
    regroup _ _ _ _ both many
  where
    regroup : (l o y r : ℕ) → l ≡ o + 2 → o ≡ y + r → l ≡ (y + 2) + r
    regroup l o y r h k = omega (arith, h, k)

enter_many : (f : Flow) (s : Site) (ys : List ℕ) (e : Entry) → length (enter_rules f s ys e) ≡ enter_count (length ys) e
enter_many f s ys e = if_many (takes e (length ys)) _ _ (entered_many f s ys e)

entering_many : (f : Flow) (s : Site) (ys : List ℕ) (es : List Entry)
    → length (flat_map (enter_rules f s ys) es) ≡ entering_count (length ys) es
entering_many f s ys [] = refl
entering_many f s ys (e ∷ es) =
    length-append (enter_rules f s ys e) (flat_map (enter_rules f s ys) es)
    ∙ ap (λ n. n + length (flat_map (enter_rules f s ys) es)) (enter_many f s ys e)
    ∙ ap (λ n. enter_count (length ys) e + n) (entering_many f s ys es)

not_one : (n : ℕ) → nat_eq (suc (suc n)) 1 ≡ false
not_one n = grind (arith, nat_tests)

resume_many : (f : Flow) (s : Site) (ys : List ℕ) → length (resume_one f s ys) ≡ resume_count f (length ys)
resume_many f s [] = refl
resume_many f s (y ∷ []) = length-map f.continuations _
resume_many f s (y ∷ z ∷ zs) = ap (λ b. if b then length f.continuations else 0) (sym (not_one (length zs)))

call_many : (f : Flow) (s : Site) (ys : List ℕ) → length (call_rules f s ys) ≡ call_count f (length ys)
call_many f s ys =
    length-append (flat_map (enter_rules f s ys) f.entries) (resume_one f s ys)
    ∙ ap (λ n. n + length (resume_one f s ys)) (entering_many f s ys f.entries)
    ∙ ap (λ n. entering_count (length ys) f.entries + n) (resume_many f s ys)

-- `Apply`

any_list_many : (f : Flow) (g : Guard) (e : Entry) (o : Option ℕ) (items : ℕ)
    → length (any_list_with f g e o items) ≡ any_list_count o
any_list_many f g e None items = refl
any_list_many f g e (Some x) items = refl

applied_many : (f : Flow) (s : Site) (items : ℕ) (e : Entry) → length (applied f s items e) ≡ applied_count e
applied_many f s items e =
    let g = calling s e.atom in
    let params = map (λ x. within g items (row f (Var x))) e.params in
    let list = any_list_with f g e e.rest items in
    let leave = leave_rules f g e s.value in
    regroup _ _ _ _ _ _ (length-append params (list ++ leave)) (length-map e.params _) (length-append list leave)
    (any_list_many f g e e.rest items)
  where
    regroup : (l p q m k a : ℕ) → l ≡ p + m → p ≡ q → m ≡ k + 2 → k ≡ a → l ≡ (q + 2) + a
    regroup l p q m k a h1 h2 h3 h4 = omega (arith, h1, h2, h3, h4)

applying_many : (f : Flow) (s : Site) (items : ℕ) (es : List Entry)
    → length (flat_map (applied f s items) es) ≡ applying_count es
applying_many f s items [] = refl
applying_many f s items (e ∷ es) =
    length-append (applied f s items e) (flat_map (applied f s items) es)
    ∙ ap (λ n. n + length (flat_map (applied f s items) es)) (applied_many f s items e)
    ∙ ap (λ n. applied_count e + n) (applying_many f s items es)

spine_many : (f : Flow) (g : Guard) (spine items : ℕ) (atoms : List ℕ)
    → length (flat_map (spine_pair f g spine items) atoms) ≡ length atoms + length atoms
spine_many f g spine items [] = refl
spine_many f g spine items (a ∷ atoms) = two _ _ (spine_many f g spine items atoms)
  where
    two : (l n : ℕ) → l ≡ n + n → suc (suc l) ≡ suc n + suc n
    two l n h = omega (arith, h)

apply_many : (f : Flow) (s : Spot) (g y : ℕ) → length (apply_step_rules f s g y) ≡ apply_count f
apply_many f s g y =
    let spine = spine_rules f s.guard (row f (Spine s.var)) (row f (Items s.var)) in
    let enters = flat_map (applied f (site_of f s g) (row f (Items s.var))) f.entries in
    let resumes = resume_rules f (site_of f s g) (row f (Items s.var)) in
    regroup _ _ _ _ _ _ _ (length-append spine (enters ++ resumes)) (length-append enters resumes)
    (spine_many f s.guard (row f (Spine s.var)) (row f (Items s.var)) f.pairs)
    (applying_many f (site_of f s g) (row f (Items s.var)) f.entries) (length-map f.continuations _)
  where
    regroup : (l m k e r a p : ℕ) → l ≡ m + k → k ≡ e + r → m ≡ p + p → e ≡ a → r ≡ length f.continuations
        → suc l ≡ (((1 + p) + p) + a) + length f.continuations
    regroup l m k e r a p h1 h2 h3 h4 h5 = omega (arith, h1, h2, h3, h4, h5)

-- Operations

map_end : (atoms : List ℕ) (rule : ℕ → Rule) → length (map rule atoms ++ []) ≡ length atoms
map_end atoms rule = ap length (append-nil (map rule atoms)) ∙ length-map atoms rule

holding_many : (f : Flow) (d : Operation) (o : Op) (ys : List ℕ)
    → length (making_rules f d o ys ++ (reading_rules f d o (operand f ys 0) ++ writing_rules f d o ys)) ≡ holding_count f o
holding_many f d op.Car ys = map_end f.pairs _
holding_many f d op.Cdr ys = map_end f.pairs _
holding_many f d op.VectorRef ys = map_end f.vectors _
holding_many f d op.SymbolName ys = one_more _ _ (map_end f.symbols _)
  where
    one_more : (l n : ℕ) → l ≡ n → suc l ≡ n + 1
    one_more l n h = omega (arith, h)
holding_many f d op.SetCar ys = length-map f.fresh_pairs _
holding_many f d op.SetCdr ys = length-map f.fresh_pairs _
holding_many f d op.VectorSet ys = length-map f.fresh_vectors _
holding_many f d o ys = refl

prim_many : (f : Flow) (d : Operation) (o : Op) (ys : List ℕ) → length (prim_rules f d o ys) ≡ length (results o) + holding_count f o
prim_many f d o ys =
    let held = making_rules f d o ys ++ (reading_rules f d o (operand f ys 0) ++ writing_rules f d o ys) in
    length-append (result_rules d (results o)) held
    ∙ ap (λ n. n + length held) (length-map (results o) _)
    ∙ ap (λ n. length (results o) + n) (holding_many f d o ys)

-- Steps

value_many : (f : Flow) (g : Guard) (o : Option ℕ) (to : ℕ) → length (value_rules f g o to) ≡ value_count o
value_many f g None to = refl
value_many f g (Some y) to = refl

fix_many : (f : Flow) (g : Guard) (xs qs : List ℕ) → length (fix_rules f g xs qs) ≡ min (length xs) (length qs)
fix_many f g [] qs = no_less (length qs)
  where
    no_less : (n : ℕ) → 0 ≡ min 0 n
    no_less n = omega arith
fix_many f g (x ∷ xs) [] = no_more (length xs)
  where
    no_more : (n : ℕ) → 0 ≡ min (suc n) 0
    no_more n = omega arith
fix_many f g (x ∷ xs) (q ∷ qs) = more _ _ _ (fix_many f g xs qs)
  where
    more : (l m n : ℕ) → l ≡ min m n → suc l ≡ min (suc m) (suc n)
    more l m n h = omega (arith, h)

choice_many : (f : Flow) (s : Spot) (v : ℕ) (this that : Option ℕ)
    → length (choice_rules f s v this that) ≡ (2 + value_count this) + value_count that
choice_many f s v None None = refl
choice_many f s v None (Some y) = refl
choice_many f s v (Some x) None = refl
choice_many f s v (Some x) (Some y) = refl

pub own_many : {L : Type 0} (f : Flow) (lits : List Lit) (s : Spot) (vars : List ℕ) (act : Act L)
    → length (own_rules f lits s vars act) ≡ own_count f lits (length vars) act
own_many f lits s vars (Const l) =
    ap suc (length-map (parts_under f lits (length lits) (parts_of f lits l)) _)
    ∙ one_front (length (parts_under f lits (length lits) (parts_of f lits l)))
own_many f lits s vars (Prim o ys) = prim_many f (operation_of s) o ys
own_many f lits s vars (Call g ys) =
    call_many f (site_of f s g) (map (number_at f.vars) ys) ∙ ap (call_count f) (length-map ys (number_at f.vars))
own_many f lits s vars (Apply g y) = apply_many f s g y
own_many f lits s vars (CallCC g) =
    ap suc (call_many f (site_of f s g) (row f (Given s.var) ∷ [])) ∙ one_front (call_count f 1)
own_many f lits s vars (If v this that) = choice_many f s v (ending this) (ending that)
own_many f lits s vars (Fix qs) = fix_many f s.guard vars qs
own_many f lits s vars act = refl

mutual
  code_many : (f : Flow) (lits : List Lit) (at : named.Counts) (b : ℕ) (c : Code Pos)
      → length (put_code f lits at b c) ≡ code_count f lits c
  code_many f lits at b (Ends value) = refl
  code_many f lits at b (Then pos vars act rest) =
      let own = own_rules f lits (spot_of f (reached_block f b) at.sites at.blocks vars) vars act in
      let arms = put_arms f lits (past at act) at.blocks act in
      let others = put_code f lits (past_arms (past at act) act) b rest in
      length-append own (arms ++ others)
      ∙ ap (λ n. n + length (arms ++ others)) (own_many f lits (spot_of f (reached_block f b) at.sites at.blocks vars) vars act)
      ∙ ap (λ n. own_count f lits (length vars) act + n)
      (length-append arms others
      ∙ ap (λ n. n + length others) (arms_many f lits (past at act) at.blocks act)
      ∙ ap (λ n. arms_count f lits act + n) (code_many f lits (past_arms (past at act) act) b rest))

  arms_many : (f : Flow) (lits : List Lit) (at : named.Counts) (arm : ℕ) (act : Act Pos)
      → length (put_arms f lits at arm act) ≡ arms_count f lits act
  arms_many f lits at arm (If v this that) =
      length-append (put_code f lits at arm this) (put_code f lits (past_code at this) (arm + 1) that)
      ∙ ap (λ n. n + length (put_code f lits (past_code at this) (arm + 1) that)) (code_many f lits at arm this)
      ∙ ap (λ n. code_count f lits this + n) (code_many f lits (past_code at this) (arm + 1) that)
  arms_many f lits at arm act = refl

lambda_many : (f : Flow) (lits : List Lit) (at : named.Counts) (p : Written)
    → length (put_lambda f lits at p) ≡ code_count f lits p.body + value_count (ending p.body)
lambda_many f lits at p =
    let result = value_rules f (reached_block f at.blocks) (ending p.body) (row f (Result at.blocks)) in
    length-append (put_code f lits (inside at) at.blocks p.body) result
    ∙ ap (λ n. n + length result) (code_many f lits (inside at) at.blocks p.body)
    ∙ ap (λ n. code_count f lits p.body + n) (value_many f (reached_block f at.blocks) (ending p.body) (row f (Result at.blocks)))

lambdas_many : (f : Flow) (lits : List Lit) (at : named.Counts) (ps : List Written)
    → length (put_lambdas f lits at ps) ≡ lambdas_count f lits ps
lambdas_many f lits at [] = refl
lambdas_many f lits at (p ∷ ps) =
    let others = put_lambdas f lits (past_code (inside at) p.body) ps in
    length-append (put_lambda f lits at p) others
    ∙ ap (λ n. n + length others) (lambda_many f lits at p)
    ∙ ap (λ n. (code_count f lits p.body + value_count (ending p.body)) + n) (lambdas_many f lits (past_code (inside at) p.body) ps)

pub procs_many : (f : Flow) (lits : List Lit) (n : ℕ) (ps : List Written)
    → length (put_procs f lits n ps) ≡ procs_count f lits ps
procs_many f lits n [] = refl
procs_many f lits n (p ∷ ps) =
    let at : named.Counts = record { steps = 0; sites = n; blocks = 0 } in
    let body = put_code f lits (inside at) 0 p.body in
    let others = put_lambdas f lits (past_code (inside at) p.body) ps in
    ap suc
    (length-append body others
    ∙ ap (λ n. n + length others) (code_many f lits (inside at) 0 p.body)
    ∙ ap (λ n. code_count f lits p.body + n) (lambdas_many f lits (past_code (inside at) p.body) ps))
    ∙ one_more (code_count f lits p.body) (lambdas_count f lits ps)
  where
    one_more : (m n : ℕ) → suc (m + n) ≡ (1 + m) + n
    one_more m n = omega arith
