-- One step more of a block in flat form.
use Rattle.std.proofs.Common.{◌≡◌, ◌<◌, ℕ, zero, suc, ◌+◌, nat_eq, List, [], ◌∷◌, ◌++◌, length, map, drop, get_or, Option, Bool, false, ◌&&◌, refl, sym, ◌∙◌, ap, arith}
use Rattle.std.proofs.lemmas.Grind.{common_steps}
use Rattle.std.proofs.lemmas.Bool.Decides.{nat_tests}
use Rattle.scheme_base.specs.declared.pos.Pos.{Pos}
use Rattle.flat_form.specs.declared.program.FlatStep.{FlatStep}
use Rattle.flat_form.specs.FlatCode as flat
use Rattle.flat_form.specs.FlatWritten as flat_written
use Rattle.named_form.specs.declared.program.Block.{Block, out-Block}
use Rattle.named_form.specs.declared.program.Step.{Step}
use Rattle.named_form.specs.Code.{Ends, Counts, past, past_arms, ends_with, in_tail, labelled, labelled_act, single}
use Rattle.closure_conv.specs.FlatOf.{Scene, homes, known, flat_code, flat_act}
use Rattle.closure_conv.specs.StepTypes.{act_of, label}
use Rattle.closure_conv.proofs.Linked.{linked, left, left_is, step_is}

-- a step at the end of what is done goes before what is left
onto_more :
    (done : List FlatStep) (s : FlatStep) (rest : flat.Code)
    → flat_written.all_onto (map flat_written.step (done ++ s ∷ [])) rest
    ≡ flat_written.all_onto (map flat_written.step done) (flat_written.step s rest)
onto_more [] s rest = refl
onto_more (d ∷ done) s rest = ap (flat_written.step d) (onto_more done s rest)

goes_on : (steps : List Step) (value : Option ℕ) (xs : List ℕ) → 0 < length steps → ends_with (linked steps value) xs ≡ false
goes_on [] value xs some = absurd (omega arith)
goes_on (s ∷ steps) value xs some = ap (λ code. ends_with code xs) (step_is s (linked steps value))

-- a step is the last where none is left behind it
pub ends_is :
    (steps : List Step) (i after : ℕ) (b : Block) (xs : List ℕ)
    → after + (i + 1) ≡ length steps
    → (nat_eq after 0 && ends_with {L = Pos} (Ends (out-Block b).value) xs) ≡ ends_with (left steps (i + 1) b) xs
ends_is steps i zero b xs all =
    let none : drop (i + 1) steps ≡ [] = grind (arith, common_steps) in
    sym (ap (λ ss. ends_with (linked ss (out-Block b).value) xs) none)
ends_is steps i (suc after) b xs all =
    let some : 0 < length (drop (i + 1) steps) = grind (arith, common_steps) in
    let more : nat_eq (suc after) 0 ≡ false = grind (arith, nat_tests) in
    ap (λ t. t && ends_with {L = Pos} (Ends (out-Block b).value) xs) more
    ∙ sym (goes_on (drop (i + 1) steps) (out-Block b).value xs some)

pub flat_one :
    (σ : Scene) (steps : List Step) (i : ℕ) (s : Step) (b : Block) (at next : Counts) (tail t : Bool)
    (done : List FlatStep) (made : FlatStep) (whole : flat.Code)
    → i < length steps
    → s ≡ get_or steps i s
    → next ≡ past_arms (past at (act_of s.act)) (act_of s.act)
    → t ≡ in_tail tail (left steps (i + 1) b) s.vars
    → ((rest : flat.Code) → flat_written.step made rest
    ≡ flat.Then (known σ.plan (label at s.pos t)) (homes σ s.vars)
    (flat_act σ (label at s.pos t) (single s.vars) (labelled_act (past at (act_of s.act)) t (act_of s.act))) rest)
    → flat_written.all_onto (map flat_written.step done) (flat_code σ (labelled at tail (left steps i b))) ≡ whole
    → flat_written.all_onto (map flat_written.step (done ++ made ∷ [])) (flat_code σ (labelled next tail (left steps (i + 1) b)))
    ≡ whole
flat_one σ steps i s b at next tail t done made whole within is moves in_place makes was =
    let behind = left steps (i + 1) b in
    let act = act_of s.act in
    onto_more done made (flat_code σ (labelled next tail behind))
    ∙ ap (flat_written.all_onto (map flat_written.step done))
    (makes (flat_code σ (labelled next tail behind))
    ∙ ap (λ u. flat.Then (known σ.plan (label at s.pos u)) (homes σ s.vars) (flat_act σ (label at s.pos u) (single s.vars) (labelled_act (past at act) u act)) (flat_code σ (labelled next tail behind))) in_place
    ∙ ap (λ c. flat.Then (known σ.plan (label at s.pos (in_tail tail behind s.vars))) (homes σ s.vars) (flat_act σ (label at s.pos (in_tail tail behind s.vars)) (single s.vars) (labelled_act (past at act) (in_tail tail behind s.vars) act)) (flat_code σ (labelled c tail behind))) moves
    ∙ sym (ap (λ c. flat_code σ (labelled at tail c)) (left_is steps i s b within is)))
    ∙ was
