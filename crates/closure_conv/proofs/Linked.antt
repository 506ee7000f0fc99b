-- Steps linked to blocks.
use Rattle.std.specs.List.{filter}
use Rattle.std.proofs.lemmas.List.Elements.{filter-append}
use Rattle.std.proofs.Common.{◌++◌, append_assoc, Bool, ◌≡◌, ◌<◌, ℕ, suc, ◌+◌, List, ◌∷◌, length, map, drop, get_or, Option, sym, ◌∙◌, ap, add-one}
use Rattle.std.proofs.Math.Seq.{drop-cons}
use Rattle.scheme_base.specs.declared.pos.Pos.{Pos}
use Rattle.named_form.specs.declared.program.Block.{Block, out-Block, fold_out-Block}
use Rattle.named_form.specs.declared.program.Step.{Step, fold_out-Step}
use Rattle.named_form.specs.Code.{Code, Act, Ends, Then, Counts, past, past_code, past_arms, binds, arms_bind}
use Rattle.named_form.specs.Written.{code, Onto, all_onto, act_layer, block_layer, step_layer}
use Rattle.closure_conv.specs.StepTypes.{act_of, step_of}

-- these steps, and then the end of the block
abbrev pub linked : List Step → Option ℕ → Code Pos
linked steps value = all_onto (map step_of steps) (Ends value)

-- what is left of a block from step i on
abbrev pub left : List Step → (i : ℕ) → Block → Code Pos
left steps i b = linked (drop i steps) (out-Block b).value

pub code_is : (b : Block) (steps : List Step) → steps ≡ (out-Block b).steps → code b ≡ left steps 0 b
code_is b steps same =
    fold_out-Block (Act Pos) (Code Pos) Onto act_layer block_layer step_layer b
    ∙ ap (λ ss. linked ss (out-Block b).value) (sym same)

pub step_is : (s : Step) (rest : Code Pos) → step_of s rest ≡ Then s.pos s.vars (act_of s.act) rest
step_is s rest = ap (λ f. f rest) (fold_out-Step (Act Pos) (Code Pos) Onto act_layer block_layer step_layer s)

-- an item, and those behind it
pub drop_item : {X : Type 0} (xs : List X) (i : ℕ) (x : X) → i < length xs → x ≡ get_or xs i x → drop i xs ≡ x ∷ drop (i + 1) xs
drop_item xs i x within is =
    drop-cons xs i x within ∙ ap (λ y. y ∷ drop (suc i) xs) (sym is) ∙ ap (λ n. x ∷ drop n xs) (sym (add-one i))

-- the step that is next, and what is left behind it
pub left_is :
    (steps : List Step) (i : ℕ) (s : Step) (b : Block)
    → i < length steps
    → s ≡ get_or steps i s
    → left steps i b ≡ Then s.pos s.vars (act_of s.act) (left steps (i + 1) b)
left_is steps i s b within is =
    ap (λ ss. linked ss (out-Block b).value) (drop_item steps i s within is) ∙ step_is s (left steps (i + 1) b)

-- past one step more
pub past_one :
    (steps : List Step) (i : ℕ) (s : Step) (b : Block) (at next whole : Counts)
    → i < length steps
    → s ≡ get_or steps i s
    → next ≡ past_arms (past at (act_of s.act)) (act_of s.act)
    → past_code at (left steps i b) ≡ whole
    → past_code next (left steps (i + 1) b) ≡ whole
past_one steps i s b at next whole within is moves was =
    ap (λ c. past_code c (left steps (i + 1) b)) moves ∙ sym (ap (past_code at) (left_is steps i s b within is)) ∙ was

-- the variables with slots that one step more binds
pub bound_one :
    (p : ℕ → Bool) (steps : List Step) (i : ℕ) (s : Step) (b : Block) (vars middle next whole : List ℕ)
    → i < length steps
    → s ≡ get_or steps i s
    → middle ≡ vars ++ filter p s.vars
    → next ≡ middle ++ filter p (arms_bind (act_of s.act))
    → vars ++ filter p (binds (left steps i b)) ≡ whole
    → next ++ filter p (binds (left steps (i + 1) b)) ≡ whole
bound_one p steps i s b vars middle next whole within is puts puts_arms was =
    let rest = filter p (binds (left steps (i + 1) b)) in
    let arms = filter p (arms_bind (act_of s.act)) in
    ap (λ xs. xs ++ rest) (puts_arms ∙ ap (λ xs. xs ++ arms) puts) ∙ append_assoc (vars ++ filter p s.vars) arms rest
    ∙ append_assoc vars (filter p s.vars) (arms ++ rest)
    ∙ ap (λ xs. vars ++ (filter p s.vars ++ xs)) (sym (filter-append p (arms_bind (act_of s.act)) (binds (left steps (i + 1) b))))
    ∙ ap (λ xs. vars ++ xs) (sym (filter-append p s.vars (arms_bind (act_of s.act) ++ binds (left steps (i + 1) b))))
    ∙ sym (ap (λ code. vars ++ filter p (binds code)) (left_is steps i s b within is)) ∙ was
