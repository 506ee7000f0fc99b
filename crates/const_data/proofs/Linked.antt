-- The greatest operand count in what is left of a block from one of its steps on.
use Rattle.std.proofs.Common.{◌≡◌, ◌<◌, ◌+◌, ℕ, suc, Bool, true, false, cond, List, ◌∷◌, length, drop, get_or, Option, sym, ap, ◌∙◌, add-one, arith}
use Rattle.std.proofs.Math.Seq.{drop-cons}
use Rattle.std.specs.Prelude.{map, max, Some, None}
use Rattle.flat_form.specs.declared.program.FlatBlock.{FlatBlock, out-FlatBlock, fold_out-FlatBlock}
use Rattle.flat_form.specs.declared.program.FlatStep.{FlatStep, fold_out-FlatStep}
use Rattle.flat_form.specs.declared.program.FlatAct.{fold-roll-FlatAct}
use Rattle.flat_form.specs.declared.program.FlatAct.TheVariants as made
use Rattle.flat_form.specs.declared.program.FlatAct.TheOpen as layer
use Rattle.flat_form.specs.declared.program.Place.{Place}
use Rattle.flat_form.specs.FlatCode.{Code, Act, Ends, Then, If, Known}
use Rattle.flat_form.specs.FlatWritten.{Onto, act_layer, block_layer, step_layer, all_onto, act, code, step}
use Rattle.const_data.specs.Words.{arm_code, most_in, most_of}

abbrev pub left : List FlatStep → (i : ℕ) → FlatBlock → Code
left steps i b = all_onto (map step (drop i steps)) (Ends (out-FlatBlock b).value)

abbrev known_of : FlatStep → Known
known_of s = record { pos = s.pos; reached = s.reached; checked = s.checked }

-- before the first step it is the block
pub code_is : (b : FlatBlock) (steps : List FlatStep) → steps ≡ (out-FlatBlock b).steps → code b ≡ left steps 0 b
code_is b steps same =
    fold_out-FlatBlock Act Code Onto act_layer block_layer step_layer b
    ∙ ap (λ ss. all_onto (map step ss) (Ends (out-FlatBlock b).value)) (sym same)

pub drop_item : {X : Type 0} (xs : List X) (i : ℕ) (x : X) → i < length xs → x ≡ get_or xs i x → drop i xs ≡ x ∷ drop (i + 1) xs
drop_item xs i x within is =
    drop-cons xs i x within ∙ ap (λ y. y ∷ drop (suc i) xs) (sym is) ∙ ap (λ n. x ∷ drop n xs) (sym (add-one i))

-- the step that is next, and what is left behind it
left_is :
    (steps : List FlatStep) (i : ℕ) (s : FlatStep) (b : FlatBlock)
    → i < length steps
    → s ≡ get_or steps i s
    → left steps i b ≡ Then (known_of s) s.to (act s.act) (left steps (i + 1) b)
left_is steps i s b within is =
    ap (λ ss. all_onto (map step ss) (Ends (out-FlatBlock b).value)) (drop_item steps i s within is)
    ∙ ap (λ f. f (left steps (i + 1) b)) (fold_out-FlatStep Act Code Onto act_layer block_layer step_layer s)

greatest : (a b c d : ℕ) → d ≡ max a b → max d c ≡ max a (max b c)
greatest a b c d is = omega arith

-- past one step more
pub most_more :
    (steps : List FlatStep) (i : ℕ) (s : FlatStep) (b : FlatBlock) (most next whole : ℕ)
    → i < length steps
    → s ≡ get_or steps i s
    → next ≡ max most (cond s.reached (most_of (act s.act)) 0)
    → max most (most_in (left steps i b)) ≡ whole
    → max next (most_in (left steps (i + 1) b)) ≡ whole
most_more steps i s b most next whole within is more was =
    greatest most (cond s.reached (most_of (act s.act)) 0) (most_in (left steps (i + 1) b)) next more
    ∙ sym (ap (λ c. max most (most_in c)) (left_is steps i s b within is))
    ∙ was

-- a step that is reached, and one that is not
pub reached_more : (b : Bool) (most m next : ℕ) → b ≡ true → next ≡ max most m → next ≡ max most (cond b m 0)
reached_more true most m next reached is = is
reached_more false most m next reached is = absurd (cc)

pub unreached_more : (b : Bool) (most m next : ℕ) → b ≡ false → next ≡ most → next ≡ max most (cond b m 0)
unreached_more true most m next unreached is = absurd (cc)
unreached_more false most m next unreached is = omega arith

-- a choice with its arms
pub if_is : (test : Place) (tail : Bool) (yes other : Option FlatBlock)
    → act (made.If test tail yes other) ≡ If test tail (arm_code yes) (arm_code other)
if_is test tail None None = ap act (sym (made.rolls-If test tail None None)) ∙ fold-roll-FlatAct Act Code Onto act_layer block_layer step_layer (layer.If test tail None None)
if_is test tail None (Some b) = ap act (sym (made.rolls-If test tail None (Some b))) ∙ fold-roll-FlatAct Act Code Onto act_layer block_layer step_layer (layer.If test tail None (Some b))
if_is test tail (Some a) None = ap act (sym (made.rolls-If test tail (Some a) None)) ∙ fold-roll-FlatAct Act Code Onto act_layer block_layer step_layer (layer.If test tail (Some a) None)
if_is test tail (Some a) (Some b) = ap act (sym (made.rolls-If test tail (Some a) (Some b))) ∙ fold-roll-FlatAct Act Code Onto act_layer block_layer step_layer (layer.If test tail (Some a) (Some b))
