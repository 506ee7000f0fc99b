-- What is left of a block from one of its steps on.
use Rattle.std.proofs.Common.{◌≡◌, ◌<◌, ◌≤◌, ◌+◌, ℕ, suc, List, [], ◌∷◌, length, drop, get_or, sym, ap, ◌∙◌, add-one, append-nil}
use Rattle.std.proofs.Math.Seq.{drop-cons}
use Rattle.std.proofs.lemmas.List.{drop_all}
use Rattle.std.specs.Prelude.{map}
use Rattle.flat_form.specs.declared.program.FlatBlock.{FlatBlock, out-FlatBlock, fold_out-FlatBlock}
use Rattle.flat_form.specs.declared.program.FlatStep.{FlatStep, fold_out-FlatStep}
use Rattle.flat_form.specs.FlatCode.{Code, Act, Ends, Then, Known}
use Rattle.tail_codegen.specs.Items.{Text, Onto, Puts}
use Rattle.flat_form.specs.FlatWritten.{Onto as CodeOnto, act_layer, block_layer, step_layer, all_onto, act, code, step}

abbrev pub left : List FlatStep → (i : ℕ) → FlatBlock → Code
left steps i b = all_onto (map step (drop i steps)) (Ends (out-FlatBlock b).value)

abbrev pub known_of : FlatStep → Known
known_of s = record { pos = s.pos; reached = s.reached; checked = s.checked }

-- before the first step it is the block
pub code_is : (b : FlatBlock) (steps : List FlatStep) → steps ≡ (out-FlatBlock b).steps → code b ≡ left steps 0 b
code_is b steps same =
    fold_out-FlatBlock Act Code CodeOnto act_layer block_layer step_layer b
    ∙ ap (λ ss. all_onto (map step ss) (Ends (out-FlatBlock b).value)) (sym same)

-- behind the last step it is the block's end
pub none_left : (b : FlatBlock) (steps : List FlatStep) (i : ℕ) → length steps ≤ i → left steps i b ≡ Ends (out-FlatBlock b).value
none_left b steps i h = ap (λ ss. all_onto (map step ss) (Ends (out-FlatBlock b).value)) (drop_all i steps h)

pub drop_item : {X : Type 0} (xs : List X) (i : ℕ) (x : X) → i < length xs → x ≡ get_or xs i x → drop i xs ≡ x ∷ drop (i + 1) xs
drop_item xs i x within is =
    drop-cons xs i x within ∙ ap (λ y. y ∷ drop (suc i) xs) (sym is) ∙ ap (λ n. x ∷ drop n xs) (sym (add-one i))

-- the step that is next, and what is left behind it
pub left_is :
    (steps : List FlatStep) (i : ℕ) (s : FlatStep) (b : FlatBlock)
    → i < length steps
    → s ≡ get_or steps i s
    → left steps i b ≡ Then (known_of s) s.to (act s.act) (left steps (i + 1) b)
left_is steps i s b within is =
    ap (λ ss. all_onto (map step ss) (Ends (out-FlatBlock b).value)) (drop_item steps i s within is)
    ∙ ap (λ f. f (left steps (i + 1) b)) (fold_out-FlatStep Act Code CodeOnto act_layer block_layer step_layer s)

-- items put where nothing was
pub whole : (b : Text) (items : Onto) → Puts [] b items → b ≡ items []
whole b items h = sym (append-nil b) ∙ h []
