-- What the public types stand for, layer by layer, and the blocks of which some steps are gone over.
use Rattle.std.proofs.Common.{◌≡◌, ℕ, ◌≤◌, List, [], ◌∷◌, length, drop, Option, false, refl, sym, ap, ◌∙◌}
use Rattle.std.proofs.lemmas.List.{drop_all}
use Rattle.std.specs.Prelude.{map}
use Rattle.scheme_base.specs.declared.pos.Pos.{Pos}
use Rattle.named_form.specs.declared.program.Block.{Block, out-Block, fold_out-Block}
use Rattle.named_form.specs.declared.program.Step.{Step, out-Step, fold_out-Step}
use Rattle.named_form.specs.Code.{Code, Ends, Then, Act, ends_with}
use Rattle.named_form.specs.Written.{Onto, act_layer, block_layer, step_layer, all_onto, act_of, onto, code}

pub code_out : (b : Block) → code b ≡ all_onto (map onto (out-Block b).steps) (Ends (out-Block b).value)
code_out b = fold_out-Block (Act Pos) (Code Pos) Onto act_layer block_layer step_layer b

pub step_out : (s : Step) (rest : Code Pos) → onto s rest ≡ Then (out-Step s).pos (out-Step s).vars (act_of (out-Step s).act) rest
step_out s rest = ap (λ f. f rest) (fold_out-Step (Act Pos) (Code Pos) Onto act_layer block_layer step_layer s)

-- what is left of a block after k of its steps
abbrev pub left : Block → List Step → (k : ℕ) → Code Pos
left b steps k = all_onto (map onto (drop k steps)) (Ends (out-Block b).value)

pub none_left : (b : Block) (steps : List Step) (k : ℕ) → length steps ≤ k → left b steps k ≡ Ends (out-Block b).value
none_left b steps k h = ap (λ ss. all_onto (map onto ss) (Ends (out-Block b).value)) (drop_all k steps h)

pub all_left : (b : Block) (steps : List Step) → steps ≡ (out-Block b).steps → left b steps 0 ≡ code b
all_left b steps h =
    ap (λ ss. all_onto (map onto ss) (Ends (out-Block b).value)) h ∙ sym (code_out b)

-- a block that has steps left is not at its end
pub goes_on : (steps : List Step) (value : Option ℕ) (vars : List ℕ) → (steps ≡ [] → ⊥)
    → ends_with (all_onto (map onto steps) (Ends value)) vars ≡ false
goes_on [] value vars h = absurd (h refl)
goes_on (s ∷ ss) value vars h =
    ap (λ c. ends_with c vars) (step_out s (all_onto (map onto ss) (Ends value)))

pub at_end : (steps : List Step) (value : Option ℕ) (vars : List ℕ) → steps ≡ []
    → ends_with (all_onto (map onto steps) (Ends value)) vars ≡ ends_with {L = Pos} (Ends value) vars
at_end steps value vars h = ap (λ ss. ends_with (all_onto (map onto ss) (Ends value)) vars) h
