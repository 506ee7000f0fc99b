-- What the calls for a `do` turn a view to.
--
-- `loop_turns`: the calls for its parts, one after another. `do_turns`: the form, where none of its rules is broken.
use Rattle.std.proofs.Common.{Bor, ℕ, suc, ◌≡◌, ◌≤◌, Option, List, [], ◌∷◌, ◌++◌, map, length, false, refl, sym, ap, subst, ◌∙◌, arith}
use Rattle.scheme_base.specs.declared.pos.Pos.{Pos}
use Rattle.datum_form.specs.Data.{Datum, Items}
use Rattle.quasi_expand.specs.declared.do_loop.DoLoop.{DoLoop}
use Rattle.scheme_expand.specs.declared.binding.Turns.{Turns as Parts}
use Rattle.scheme_expand.specs.declared.expander.Expander.{Expander}
use Rattle.scheme_expand.specs.declared.source.Source.{Source}
use Rattle.scheme_expand.specs.declared.step.Step.{Step}
use Rattle.scheme_expand.specs.declared.step.Step.TheVariants as step
use Rattle.scheme_expand.specs.Faults.{in_exp}
use Rattle.scheme_expand.specs.Forms.{Word, Exp, Steps, no_step, fixed, stepped, Do}
use Rattle.scheme_expand.specs.Grammar.{checked, do_form, expr, exprs, rule, step_list, step_words, twice}
use Rattle.scheme_expand.specs.Making.{from_level, IsRight}
use Rattle.scheme_expand.specs.Putting.{expr_steps, next_steps, result_steps, loop_steps}
use Rattle.scheme_expand.specs.Rewriting.{variables, names}
use Rattle.scheme_expand.specs.Shapes.{AreSteps, AreTurns}
use Rattle.scheme_expand.specs.Viewed.{IsScope, IsView, Leaves, Puts, Turns}
use Rattle.scheme_expand.specs.Views.{Context, View, height, put_inside, bind, seen}
use Rattle.scheme_expand.specs.Waiting.{Reads, ReadAll, named_data}
use Rattle.scheme_expand.proofs.Coming.{Remade, Rescoped, view_kept, puts_twice, turns_as, leave_then_leave, leave_then_put}
use Rattle.scheme_expand.proofs.DoParts.{DoIs}
use Rattle.scheme_expand.proofs.MadeBodies.{fresh_bound}
use Rattle.scheme_expand.proofs.MadeLoops.{loop_comes}
use Rattle.scheme_expand.proofs.Noting.{height_bound, raised_none, from_bound}
use Rattle.scheme_expand.proofs.Parts.{read_in, read_same}
use Rattle.draft_form.specs.declared.draft.Variable.{Variable}
use Rattle.draft_form.specs.declared.draft.Variable.TheVariants as local
use Rattle.draft_form.specs.Drawn.{name_of}

-- there is a value for the next turn for each name
count_steps : (s : Source) (ids : List ℕ) (os : List (Option ℕ)) (ss : Steps) → AreSteps s ids os ss
    → length (names (step_words ss)) ≡ length os
count_steps s ids os no_step a = sym (ap length a.1)
count_steps s ids os (fixed w e ss) a = ap suc (count_steps s a.1 a.2 ss a.8) ∙ sym (ap length a.4)
count_steps s ids os (stepped w e f ss) a = ap suc (count_steps s a.1 a.2 ss a.12) ∙ sym (ap length a.5)

-- the variables of these names, which are bound last
bound_last : (xs : List (List ℕ)) (v : View) → from_level (height v) (bind xs v).bound ≡ xs
bound_last xs v =
    sym (ap (from_level (height v)) (raised_none (put_inside xs v.bound))) ∙ from_bound [] xs v.bound

-- what the call for the next values answers
abbrev Nexts : Context → Expander → Expander → Pos → (inner : ℕ) → List (Option ℕ) → Type 0
Nexts c g h p inner os =
    (v : View) → IsView c g v → inner ≤ height v → length (from_level inner v.bound) ≡ length os
    → (xs : List Variable) × (map (name_of c.names) xs ≡ variables inner (from_level inner v.bound))
    × Puts g h (next_steps p os xs)

pub loop_turns : (c : Context) (a f b d e g h i j x : Expander) (p : Pos) (k inner n m test : ℕ) (ids : List ℕ)
    (os : List (Option ℕ)) (results commands : Bor (List ℕ)) (turns : Parts) (ss : Steps) (td : Datum) (rs cs : Items)
    (v : View) → IsView c a v → AreTurns c.source turns ss → Reads c.source test td → ReadAll c.source results.now rs
    → ReadAll c.source commands.now cs → twice (step_words ss) ≡ false
    → IsRight (Do p ss (expr td) (exprs rs) (exprs cs)) → k ≡ height v → f.steps.items ≡ a.steps.items → Remade a f
    → Rescoped a.maker f.maker → IsScope c.names f.maker.scope (put_inside ([] ∷ []) v.bound)
    → (IsScope c.names f.maker.scope (put_inside ([] ∷ []) v.bound) → inner ≡ suc (height v))
    → ((ws : List Word) (u : View) → IsView c f u → ReadAll c.source turns.names.items (named_data ws)
    → Leaves c f b (bind (names ws) u))
    → Puts b d (step.Call p n ∷ []) → Puts d e (expr_steps ids) → ids ≡ turns.inits.items
    → Puts e g (step.Loop p k ∷ step.Lambda p inner false ∷ step.If p ∷ step.Sequence p m ∷ step.Call p n ∷ [])
    → Nexts c g h p inner os → os ≡ turns.steps.items
    → Puts h i (step.Reference p (local.Fresh k) ∷ step.Exprs commands ∷ []) → Puts i j (result_steps p results)
    → Puts j x (step.Expr test ∷ step.Reference p (local.Fresh k) ∷ []) → n ≡ length turns.names.items
    → m ≡ suc (length commands.now) → Turns c a x (seen c (Do p ss (expr td) (exprs rs) (exprs cs)) v)
loop_turns c a f b d e g h i j x p k inner n m test ids os results commands turns ss td rs cs v view are reads rr rc single right at steps remade rescoped scope next enter call inits same_inits made nexts same_steps again result last many together =
    let low : View = bind ([] ∷ []) v in
    let fresh : Leaves c a f low = fresh_bound c a f 1 v view steps remade rescoped scope in
    let ws : List (List ℕ) = names (step_words ss) in
    let top : View = bind ws low in
    let bound : Leaves c f b top = enter (step_words ss) low fresh.view are.names in
    let leaves : Leaves c a b top = leave_then_leave c a f b low top fresh bound in
    let inner_is : inner ≡ height low = next scope in
    let is : List ℕ = turns.inits.items in
    let ps : List (Option ℕ) = turns.steps.items in
    let one : List Step = step.Call p n ∷ [] in
    let five : List Step =
    step.Loop p k ∷ step.Lambda p inner false ∷ step.If p ∷ step.Sequence p m ∷ step.Call p n ∷ [] in
    let before : Puts b g (one ++ (expr_steps ids ++ five)) =
    puts_twice b d g one (expr_steps ids ++ five) call (puts_twice d e g (expr_steps ids) five inits made) in
    let view_g : IsView c g top = view_kept c b g top before.same leaves.view in
    let over : inner ≤ height top = omega (arith, inner_is, height_bound ws low) in
    let P : ℕ → Type 0 = λ l. from_level l top.bound ≡ ws in
    let are_last : from_level inner top.bound ≡ ws = subst P (sym inner_is) (bound_last ws low) in
    let counted : length (from_level inner top.bound) ≡ length os =
    ap length are_last ∙ (count_steps c.source is ps ss are.are ∙ ap length (sym same_steps)) in
    let found = nexts top view_g over counted in
    let xs : List Variable = found.0 in
    let named : map (name_of c.names) xs ≡ variables inner ws = found.1 ∙ ap (variables inner) are_last in
    let two : List Step = step.Reference p (local.Fresh k) ∷ step.Exprs commands ∷ [] in
    let end : List Step = step.Expr test ∷ step.Reference p (local.Fresh k) ∷ [] in
    let after : Puts g x (next_steps p os xs ++ (two ++ (result_steps p results ++ end))) =
    puts_twice g h x (next_steps p os xs) (two ++ (result_steps p results ++ end)) found.2
    (puts_twice h i x two (result_steps p results ++ end) again (puts_twice i j x (result_steps p results) end result last)) in
    let rest : List Step = next_steps p os xs ++ (two ++ (result_steps p results ++ end)) in
    let puts : Puts b x (loop_steps p ids os xs test results commands n m k inner) =
    puts_twice b d x one (expr_steps ids ++ (five ++ rest)) call
    (puts_twice d e x (expr_steps ids) (five ++ rest) inits (puts_twice e g x five rest made after)) in
    let Q : ℕ → Type 0 = λ l. Puts b x (loop_steps p ids os xs test results commands n m l inner) in
    let R : List ℕ → Type 0 = λ l. Puts b x (loop_steps p l os xs test results commands n m (height v) inner) in
    let S : List (Option ℕ) → Type 0 = λ l. Puts b x (loop_steps p is l xs test results commands n m (height v) inner) in
    leave_then_put c a b x top (seen c (Do p ss (expr td) (exprs rs) (exprs cs)) v)
    (loop_steps p is ps xs test results commands n m (height v) inner) leaves
    (subst S same_steps (subst R same_inits (subst Q at puts)))
    (loop_comes c p ss td rs cs turns.names.items is ps xs test results commands n m inner v view.fits view.made.words
    are.names are.are reads rr rc single right inner_is named many together)

-- The form

pub do_turns : (c : Context) (a b : Expander) (l : DoLoop) (p : Pos) (turns : Parts) (ds : Items) (v : View) → IsView c a v
    → (i : DoIs a.source l p ds) → AreTurns a.source turns (step_list i.steps) → twice (step_words (step_list i.steps)) ≡ false
    → IsRight (do_form p ds)
    → ((ss : Steps) (td : Datum) (rs cs : Items) → AreTurns c.source turns ss → Reads c.source l.test td
    → ReadAll c.source l.results.now rs → ReadAll c.source l.commands.now cs → twice (step_words ss) ≡ false
    → IsRight (Do p ss (expr td) (exprs rs) (exprs cs)) → Turns c a b (seen c (Do p ss (expr td) (exprs rs) (exprs cs)) v))
    → Turns c a b (seen c (do_form p ds) v)
do_turns c a b l p turns ds v view i are single right turn =
    let ss : Steps = step_list i.steps in
    let form : Exp = Do p ss (expr i.test) (exprs i.results) (exprs i.commands) in
    let same : do_form p ds ≡ form = i.same ∙ ap (λ t. checked p (rule t 12 ∷ []) form) single in
    let P : Source → Type 0 = λ s. AreTurns s turns ss in
    turns_as c a b (seen c form v) (seen c (do_form p ds) v) (ap (λ e. seen c e v) (sym same))
    (turn ss i.test i.results i.commands (subst P view.source are)
    (read_in a.source c.source l.test i.test view.source i.read_test)
    (read_same a.source c.source l.results.now l.results.now i.results i.results view.source refl refl i.read_results)
    (read_same a.source c.source l.commands.now l.commands.now i.commands i.commands view.source refl refl i.read_commands)
    single (sym (ap in_exp same) ∙ right))
