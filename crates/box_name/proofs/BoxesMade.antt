-- A variable of a program is bound to a box exactly where a step makes it one.
use Rattle.std.proofs.Common.{◌≡◌, ℕ, zero, suc, Bool, true, false, List, [], ◌∷◌, ◌++◌, length, refl, sym, ◌∙◌, subst, arith}
use Rattle.std.specs.Prelude.{nat_eq}
use Rattle.std.specs.List.{AllByRecursion, IsDistinct, flat_map}
use Rattle.scheme_base.specs.declared.pos.Pos.{Pos}
use Rattle.named_form.specs.Code.{Code, Ends, Then, Act, Written, arms_bind, binds, bound_in, has, option_list}
use Rattle.named_form.specs.Code as act
use Rattle.named_form.specs.Valid.{AnyValue, Numbered, OfSteps, Throughout, ThroughoutArms, all_boxes, boxes_in, boxes_in_arms, makes_box, numbers_from}
use Rattle.named_form.proofs.Kept.{has_early}
use Rattle.box_name.proofs.Members.{Agrees, Within, agrees_back, agrees_front, apart_flip, apart_within, each, each_apart, has_back, never, parts, within_both}

abbrev pub is_box : Act Pos → Bool
is_box (act.MakeBox y) = true
is_box act.MakeHole = true
is_box a = false

-- the variables of a step are boxes where the step makes one, and else none is
abbrev pub BindsBoxes : List ℕ → OfSteps Pos
BindsBoxes boxes l vars a = AllByRecursion (λ v. has boxes v ≡ is_box a) vars

-- the same of a procedure, whose parameters are no boxes
pub record Boxing (boxes : List ℕ) (w : Written) : Type 0 where
  pub params : AllByRecursion (λ v. has boxes v ≡ false) (w.params ++ option_list w.rest)
  pub steps : Throughout (BindsBoxes boxes) AnyValue w.body

box_bound : (a : Act Pos) (vars : List ℕ) → Within (makes_box a vars) vars
box_bound (act.MakeBox y) vars v h = h
box_bound act.MakeHole vars v h = h
box_bound a vars v h = never h

mutual
  boxes_bound : (c : Code Pos) → Within (boxes_in c) (binds c)
  boxes_bound (Ends value) v h = never h
  boxes_bound (Then l vars a rest) v h =
      within_both (makes_box a vars) (boxes_in_arms a ++ boxes_in rest) vars (arms_bind a ++ binds rest) (box_bound a vars)
      (within_both (boxes_in_arms a) (boxes_in rest) (arms_bind a) (binds rest) (arms_bound a) (boxes_bound rest)) v h

  arms_bound : (a : Act Pos) → Within (boxes_in_arms a) (arms_bind a)
  arms_bound (act.If test this that) v h =
      within_both (boxes_in this) (boxes_in that) (binds this) (binds that) (boxes_bound this) (boxes_bound that) v h
  arms_bound a v h = never h

step_boxing : (boxes : List ℕ) (a : Act Pos) (vars : List ℕ) → Agrees boxes vars (makes_box a vars)
    → AllByRecursion (λ v. has boxes v ≡ is_box a) vars
step_boxing boxes (act.MakeBox y) vars h = each (λ v. has boxes v ≡ true) vars (λ v e. h v e ∙ e)
step_boxing boxes act.MakeHole vars h = each (λ v. has boxes v ≡ true) vars (λ v e. h v e ∙ e)
step_boxing boxes a vars h = each (λ v. has boxes v ≡ false) vars h

mutual
  code_boxing : (boxes : List ℕ) (c : Code Pos) → IsDistinct nat_eq (binds c) → Agrees boxes (binds c) (boxes_in c)
      → Throughout (BindsBoxes boxes) AnyValue c
  code_boxing boxes (Ends value) d h = tt
  code_boxing boxes (Then l vars a rest) d h =
      let inner = arms_bind a ++ binds rest in
      let made = boxes_in_arms a ++ boxes_in rest in
      let made_bound = within_both (boxes_in_arms a) (boxes_in rest) (arms_bind a) (binds rest) (arms_bound a) (boxes_bound rest) in
      let two = parts vars inner d in
      let more = parts (arms_bind a) (binds rest) two.back in
      let others =
      agrees_back boxes vars inner (makes_box a vars) made h
      (apart_within inner vars (makes_box a vars) (apart_flip vars inner two.apart) (box_bound a vars)) in (
        step_boxing boxes a vars
            (agrees_front boxes vars inner (makes_box a vars) made h (apart_within vars inner made two.apart made_bound)),
        arms_boxing boxes a more.front
            (agrees_front boxes (arms_bind a) (binds rest) (boxes_in_arms a) (boxes_in rest) others
            (apart_within (arms_bind a) (binds rest) (boxes_in rest) more.apart (boxes_bound rest))),
        code_boxing boxes rest more.back
            (agrees_back boxes (arms_bind a) (binds rest) (boxes_in_arms a) (boxes_in rest) others
            (apart_within (binds rest) (arms_bind a) (boxes_in_arms a) (apart_flip (arms_bind a) (binds rest) more.apart)
            (arms_bound a))),
      )

  arms_boxing : (boxes : List ℕ) (a : Act Pos) → IsDistinct nat_eq (arms_bind a) → Agrees boxes (arms_bind a) (boxes_in_arms a)
      → ThroughoutArms (BindsBoxes boxes) AnyValue a
  arms_boxing boxes (act.If test this that) d h =
      let two = parts (binds this) (binds that) d in (
        code_boxing boxes this two.front
            (agrees_front boxes (binds this) (binds that) (boxes_in this) (boxes_in that) h
            (apart_within (binds this) (binds that) (boxes_in that) two.apart (boxes_bound that))),
        code_boxing boxes that two.back
            (agrees_back boxes (binds this) (binds that) (boxes_in this) (boxes_in that) h
            (apart_within (binds that) (binds this) (boxes_in this) (apart_flip (binds this) (binds that) two.apart)
            (boxes_bound this))),
      )
  arms_boxing boxes a d h = tt

-- Procedures

proc_bound : (w : Written) → Within (boxes_in w.body) (bound_in w)
proc_bound w v h =
    has_back w.params (option_list w.rest ++ binds w.body) v
    (has_back (option_list w.rest) (binds w.body) v (boxes_bound w.body v h))

proc_boxing : (boxes : List ℕ) (w : Written) → IsDistinct nat_eq (bound_in w) → Agrees boxes (bound_in w) (boxes_in w.body)
    → Boxing boxes w
proc_boxing boxes w d h =
    let body = binds w.body in
    let rest = option_list w.rest in
    let made = boxes_in w.body in
    let two = parts w.params (rest ++ body) d in
    let more = parts rest body two.back in
    let within : Within made (rest ++ body) = λ v e. has_back rest body v (boxes_bound w.body v e) in
    let others = agrees_back boxes w.params (rest ++ body) [] made h (λ v e. refl) in
    record {
      params =
          each_both (λ v. has boxes v ≡ false) w.params rest
          (each (λ v. has boxes v ≡ false) w.params
          (agrees_front boxes w.params (rest ++ body) [] made h (apart_within w.params (rest ++ body) made two.apart within)))
          (each (λ v. has boxes v ≡ false) rest
          (agrees_front boxes rest body [] made others (apart_within rest body made more.apart (boxes_bound w.body))));
      steps = code_boxing boxes w.body more.back (agrees_back boxes rest body [] made others (λ v e. refl));
    }
  where
    each_both : (P : ℕ → Type 0) (xs ys : List ℕ) → AllByRecursion P xs → AllByRecursion P ys → AllByRecursion P (xs ++ ys)
    each_both P [] ys h k = k
    each_both P (x ∷ xs) ys h k = (h.0, each_both P xs ys h.1 k)

all_bound : (ps : List Written) → Within (all_boxes ps) (flat_map bound_in ps)
all_bound [] v h = never h
all_bound (w ∷ ps) v h =
    within_both (boxes_in w.body) (all_boxes ps) (bound_in w) (flat_map bound_in ps) (proc_bound w) (all_bound ps) v h

all_boxing : (boxes : List ℕ) (ps : List Written) → IsDistinct nat_eq (flat_map bound_in ps)
    → Agrees boxes (flat_map bound_in ps) (all_boxes ps) → AllByRecursion (Boxing boxes) ps
all_boxing boxes [] d h = tt
all_boxing boxes (w ∷ ps) d h =
    let others = flat_map bound_in ps in
    let two = parts (bound_in w) others d in (
      proc_boxing boxes w two.front
          (agrees_front boxes (bound_in w) others (boxes_in w.body) (all_boxes ps) h
          (apart_within (bound_in w) others (all_boxes ps) two.apart (all_bound ps))),
      all_boxing boxes ps two.back
          (agrees_back boxes (bound_in w) others (boxes_in w.body) (all_boxes ps) h
          (apart_within others (bound_in w) (boxes_in w.body) (apart_flip (bound_in w) others two.apart) (proc_bound w))),
    )

numbers_apart : (lo many : ℕ) → IsDistinct nat_eq (numbers_from lo many)
unfolding IsDistinct
numbers_apart lo zero = tt
numbers_apart lo (suc many) =
    (each_apart lo (numbers_from (suc lo) many) (has_early (suc lo) many lo (omega arith)), numbers_apart (suc lo) many)

pub boxing : (ps : List Written) → Numbered ps → AllByRecursion (Boxing (all_boxes ps)) ps
boxing ps h =
    all_boxing (all_boxes ps) ps (subst (IsDistinct nat_eq) (sym h) (numbers_apart 0 (length (flat_map bound_in ps)))) (λ v e. refl)
