-- The variables of the calls in record mode rise where variables are numbered in the order of the text.
use Rattle.std.proofs.Common.{◌≡◌, ℕ, suc, ◌+◌, ◌<◌, ◌≤◌, Bool, true, false, List, [], ◌∷◌, ◌++◌, length, map, cond, refl, sym, ap, ◌∙◌, subst, arith, length-append}
use Rattle.std.specs.Prelude.{not, ◌&&◌, ◌||◌}
use Rattle.std.specs.List.{AllByRecursion, filter, flat_map}
use Rattle.std.proofs.lemmas.List.{map-append}
use Rattle.std.proofs.lemmas.List.Elements.{filter-append}
use Rattle.scheme_base.specs.declared.pos.Pos.{Pos}
use Rattle.flow_constraints.specs.Walk.{inside}
use Rattle.flow_form.specs.declared.rows.Rows.{Rows}
use Rattle.named_form.specs.Code.{Act, Code, Ends, Then, Fix, If, Counts, Written, arms_bind, binds, bound_in, first_sites, in_tail, option_list, past, past_arms, past_code, single}
use Rattle.named_form.specs.PlainPlan.{var_count}
use Rattle.named_form.specs.Valid.{AnyValue, Binds, Form, Throughout, ThroughoutArms, WellFormed, numbers_from}
use Rattle.named_form.specs.ValidPlan.{is_set}
use Rattle.named_form.proofs.Kept.{length_numbers, split_append}
use Rattle.named_form.proofs.Rising.{Rises, numbers_append}
use Rattle.named_form.proofs.Waiting.{Within, set_of}
use Rattle.plan_facts.specs.declared.place.Place.{Place}
use Rattle.plan_facts.specs.Capturing.{in_record_mode, recording}
use Rattle.plan_facts.specs.Places.{Facts, facts_of}
use Rattle.plan_facts.specs.Walk.{placed, spot, walk_arms, walk_code, walk_from}
use Rattle.plan_facts.proofs.Listed.{all_listed}

-- lists that rise, one behind the other

wider : (lo early : ℕ) (xs : List ℕ) → early ≤ lo → Rises lo xs → Rises early xs
wider lo early [] h r = tt
wider lo early (x ∷ xs) h r = (omega (arith, r.0, h), r.1)

earlier : (lo early hi : ℕ) (xs : List ℕ) → early ≤ lo → Within lo hi xs → Within early hi xs
earlier lo early hi xs h w = record { rise = wider lo early xs h w.rise; below = w.below }

nothing : (lo hi : ℕ) → Within lo hi []
nothing lo hi = record { rise = tt; below = tt }

behind : (lo mid hi : ℕ) (xs ys : List ℕ) → lo ≤ mid → mid ≤ hi → Within lo mid xs → Within mid hi ys → Within lo hi (xs ++ ys)
behind lo mid hi [] ys h k a b = earlier mid lo hi ys h b
behind lo mid hi (x ∷ xs) ys h k a b =
    let rest = behind (suc x) mid hi xs ys (omega (arith, a.below.0)) k (record { rise = a.rise.1; below = a.below.1 }) b in
    record { rise = (a.rise.0, rest.rise); below = (omega (arith, a.below.0, k), rest.below) }

-- numbers in a row, cut in two

record Cut (lo : ℕ) (xs ys : List ℕ) : Type 0 where
  first : xs ≡ numbers_from lo (length xs)
  second : ys ≡ numbers_from (lo + length xs) (length ys)

cut : (lo : ℕ) (xs ys : List ℕ) → xs ++ ys ≡ numbers_from lo (length (xs ++ ys)) → Cut lo xs ys
cut lo xs ys h =
    let whole = h ∙ (ap (numbers_from lo) (length-append xs ys) ∙ numbers_append lo (length xs) (length ys)) in
    let both = split_append xs (numbers_from lo (length xs)) ys (numbers_from (lo + length xs) (length ys)) (sym (length_numbers lo (length xs))) whole in
    record { first = both.0; second = both.1 }

-- the variables of the calls in record mode among these steps

abbrev told : Facts → (procs : List ℕ) → List Place → List ℕ
told k procs ps = map (λ p. p.var) (filter (in_record_mode k procs) ps)

told_both : (k : Facts) (procs : List ℕ) (ps qs : List Place) → told k procs (ps ++ qs) ≡ told k procs ps ++ told k procs qs
told_both k procs ps qs =
    ap (map (λ p. p.var)) (filter-append (in_record_mode k procs) ps qs)
    ∙ map-append (λ p. p.var) (filter (in_record_mode k procs) ps) (filter (in_record_mode k procs) qs)

told_three : (k : Facts) (procs : List ℕ) (ps qs rs : List Place)
    → told k procs (ps ++ (qs ++ rs)) ≡ told k procs ps ++ (told k procs qs ++ told k procs rs)
told_three k procs ps qs rs = told_both k procs ps (qs ++ rs) ∙ ap (λ xs. told k procs ps ++ xs) (told_both k procs qs rs)

no_call : (tail : Bool) → (not tail && (false || false)) ≡ false
no_call true = refl
no_call false = refl

-- a call binds one variable
one_bound : (k : Facts) (procs : List ℕ) (q b : ℕ) (t : Bool) (at : Counts) (last : Bool) (pos : Pos) (vars : List ℕ) (act : Act Pos)
    → Binds pos vars act → in_record_mode k procs (placed (spot q b t) at last vars act) ≡ true → length vars ≡ 1
one_bound k procs q b t at last pos vars (Fix qs) bound recorded = let e = no_call last in absurd (cc)
one_bound k procs q b t at last pos vars act bound recorded = bound

in_row : (lo : ℕ) (vars : List ℕ) → vars ≡ numbers_from lo (length vars) → length vars ≡ 1
    → (lo ≤ single vars) × (single vars < lo + length vars)
in_row lo [] h one = absurd (cc)
in_row lo (x ∷ xs) h one = let first : x ≡ lo = cc in (omega (arith, first), omega (arith, first))

told_one : (b : Bool) (p : Place) (lo hi : ℕ) → (b ≡ true → (lo ≤ p.var) × (p.var < hi))
    → Within lo hi (map (λ p. p.var) (cond b (p ∷ []) []))
told_one true p lo hi h = record { rise = ((h refl).0, tt); below = ((h refl).1, tt) }
told_one false p lo hi h = nothing lo hi

first_within : (k : Facts) (procs : List ℕ) (lo : ℕ) (q b : ℕ) (t : Bool) (at : Counts) (last : Bool) (pos : Pos) (vars : List ℕ) (act : Act Pos)
    → Binds pos vars act → vars ≡ numbers_from lo (length vars)
    → Within lo (lo + length vars) (told k procs (placed (spot q b t) at last vars act ∷ []))
first_within k procs lo q b t at last pos vars act bound h =
    told_one (in_record_mode k procs (placed (spot q b t) at last vars act)) (placed (spot q b t) at last vars act) lo (lo + length vars)
    (λ e. in_row lo vars h (one_bound k procs q b t at last pos vars act bound e))

mutual
  code_within : (k : Facts) (procs : List ℕ) (lo : ℕ) (q b : ℕ) (t : Bool) (at : Counts) (c : Code Pos) → Throughout Binds AnyValue c
      → binds c ≡ numbers_from lo (length (binds c)) → Within lo (lo + length (binds c)) (told k procs (walk_code (spot q b t) at c))
  code_within k procs lo q b t at (Ends value) bound h = nothing lo (lo + 0)
  code_within k procs lo q b t at (Then pos vars act rest) bound h =
      let last = in_tail t rest vars in
      let inner = walk_arms q last at.blocks (past at act) act in
      let after = walk_code (spot q b t) (past_arms (past at act) act) rest in
      let one = cut lo vars (arms_bind act ++ binds rest) h in
      let two = cut (lo + length vars) (arms_bind act) (binds rest) one.second in
      let here = first_within k procs lo q b t at last pos vars act bound.0 one.first in
      let arms = arms_within k procs (lo + length vars) q last at.blocks (past at act) act bound.1 two.first in
      let others = code_within k procs (lo + length vars + length (arms_bind act)) q b t (past_arms (past at act) act) rest bound.2 two.second in
      let long = length-append vars (arms_bind act ++ binds rest) in
      let longer = length-append (arms_bind act) (binds rest) in
      let end : lo + length vars + length (arms_bind act) + length (binds rest) ≡ lo + length (binds (Then pos vars act rest)) = omega (arith, long, longer) in
      subst (λ hi. Within lo hi (told k procs (walk_code (spot q b t) at (Then pos vars act rest)))) end
      (subst (Within lo (lo + length vars + length (arms_bind act) + length (binds rest)))
      (sym (told_three k procs (placed (spot q b t) at last vars act ∷ []) inner after))
      (behind lo (lo + length vars) _ _ _ (omega arith) (omega arith) here
      (behind (lo + length vars) (lo + length vars + length (arms_bind act)) _ _ _ (omega arith) (omega arith) arms others)))

  arms_within : (k : Facts) (procs : List ℕ) (lo q : ℕ) (tail : Bool) (arm : ℕ) (at : Counts) (act : Act Pos) → ThroughoutArms Binds AnyValue act
      → arms_bind act ≡ numbers_from lo (length (arms_bind act))
      → Within lo (lo + length (arms_bind act)) (told k procs (walk_arms q tail arm at act))
  arms_within k procs lo q tail arm at (If test this that) bound h =
      let both = cut lo (binds this) (binds that) h in
      let one = code_within k procs lo q arm tail at this bound.0 both.first in
      let two = code_within k procs (lo + length (binds this)) q (arm + 1) tail (past_code at this) that bound.1 both.second in
      let long = length-append (binds this) (binds that) in
      let end : lo + length (binds this) + length (binds that) ≡ lo + length (binds this ++ binds that) = omega (arith, long) in
      subst (λ hi. Within lo hi (told k procs (walk_arms q tail arm at (If test this that)))) end
      (subst (Within lo (lo + length (binds this) + length (binds that)))
      (sym (told_both k procs (walk_code (spot q arm tail) at this) (walk_code (spot q (arm + 1) tail) (past_code at this) that)))
      (behind lo (lo + length (binds this)) _ _ _ (omega arith) (omega arith) one two))
  arms_within k procs lo q tail arm at act bound h = nothing lo (lo + 0)

procs_within : (k : Facts) (procs : List ℕ) (lo q : ℕ) (at : Counts) (ps : List Written)
    → AllByRecursion (λ (p : Written). Throughout Binds AnyValue p.body) ps
    → flat_map bound_in ps ≡ numbers_from lo (var_count ps) → Within lo (lo + var_count ps) (told k procs (walk_from q at ps))
procs_within k procs lo q at [] bound h = nothing lo (lo + 0)
procs_within k procs lo q at (p ∷ ps) bound h =
    let here = walk_code (spot q at.blocks true) (inside at) p.body in
    let after = walk_from (suc q) (past_code (inside at) p.body) ps in
    let one = cut lo (bound_in p) (flat_map bound_in ps) h in
    let two = cut lo p.params (option_list p.rest ++ binds p.body) one.first in
    let three = cut (lo + length p.params) (option_list p.rest) (binds p.body) two.second in
    let start : ℕ = lo + length p.params + length (option_list p.rest) in
    let body = code_within k procs start q at.blocks true (inside at) p.body bound.0 three.second in
    let others = procs_within k procs (lo + length (bound_in p)) (suc q) (past_code (inside at) p.body) ps bound.1 one.second in
    let long = length-append p.params (option_list p.rest ++ binds p.body) in
    let longer = length-append (option_list p.rest) (binds p.body) in
    let longest = length-append (bound_in p) (flat_map bound_in ps) in
    let end : start + length (binds p.body) ≡ lo + length (bound_in p) = omega (arith, long, longer) in
    let last : lo + length (bound_in p) + var_count ps ≡ lo + var_count (p ∷ ps) = omega (arith, longest) in
    let first = earlier start lo (lo + length (bound_in p)) (told k procs here) (omega arith) (subst (λ hi. Within start hi (told k procs here)) end body) in
    subst (λ hi. Within lo hi (told k procs (walk_from q at (p ∷ ps)))) last
    (subst (Within lo (lo + length (bound_in p) + var_count ps)) (sym (told_both k procs here after))
    (behind lo (lo + length (bound_in p)) _ _ _ (omega arith) (omega arith) first others))

-- the variables of the calls in record mode are a set of variables of the program
pub recording_set : (f : Form) (rows : Rows) (procs : List ℕ) → WellFormed f → is_set (var_count f.procs) (recording f rows procs) ≡ true
recording_set f rows procs well =
    let from : Counts = record { steps = 0; sites = first_sites f.procs; blocks = 0 } in
    let within = procs_within (facts_of f rows) procs 0 0 from f.procs well.binds well.numbered in
    let all : 0 + var_count f.procs ≡ var_count f.procs = omega arith in
    set_of 0 (var_count f.procs) (recording f rows procs)
    (subst (λ ps. Within 0 (var_count f.procs) (told (facts_of f rows) procs ps)) (all_listed f)
    (subst (λ hi. Within 0 hi (told (facts_of f rows) procs (walk_from 0 from f.procs))) all within))
