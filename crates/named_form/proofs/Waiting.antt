-- The calls that are no tail calls bind variables that rise, and the plain plan fits its program.
use Rattle.std.proofs.Common.{◌≡◌, ℕ, zero, suc, ◌+◌, ◌<◌, ◌≤◌, Bool, true, false, List, [], ◌∷◌, ◌++◌, length, cond, refl, sym, ap, subst, ◌∙◌, arith, length-append}
use Rattle.std.proofs.lemmas.Bool.{lt-ltb}
use Rattle.std.proofs.lemmas.List.{length-map, length-replicate}
use Rattle.std.specs.Prelude.{map, nat_lt, not, ◌&&◌, if◌then◌else◌, IsTrue}
use Rattle.std.specs.List.{AllByRecursion, filter, flat_map, list_all}
use Rattle.scheme_base.specs.declared.pos.Pos.{Pos}
use Rattle.named_form.specs.Code.{Code, Ends, Then, Act, If, Counts, Written, past, past_code, past_arms, in_tail, labelled, labelled_act, procedures, program, is_call, option_list, binds, arms_bind, bound_in, free_in, has, but_first}
use Rattle.named_form.specs.PlainPlan.{waits, waiting_in, arms_wait, captures_any, all_waiting, capturing, var_count, free_vars, all_free, plain}
use Rattle.named_form.specs.Valid.{Form, Numbered, numbers_from}
use Rattle.named_form.specs.ValidPlan.{FitsProgram, rises, is_set}
use Rattle.named_form.proofs.Kept.{length_numbers, split_append}
use Rattle.named_form.proofs.Rising.{Rises, numbers_append}
use Rattle.named_form.proofs.Tallied.{waits_labelled}

-- numbers that rise from lo on, below hi
pub record Within (lo hi : ℕ) (xs : List ℕ) : Type 0 where
  pub rise : Rises lo xs
  pub below : AllByRecursion (λ x. x < hi) xs

wider : (lo lo' : ℕ) (xs : List ℕ) → lo ≤ lo' → Rises lo' xs → Rises lo xs
wider lo lo' [] h r = tt
wider lo lo' (x ∷ xs) h r = (omega (arith, r.0), r.1)

all_wider : (hi hi' : ℕ) (xs : List ℕ) → hi ≤ hi' → AllByRecursion (λ x. x < hi) xs → AllByRecursion (λ x. x < hi') xs
all_wider hi hi' [] h b = tt
all_wider hi hi' (x ∷ xs) h b = (omega (arith, b.0), all_wider hi hi' xs h b.1)

joined : (lo mid hi : ℕ) (xs ys : List ℕ) → lo ≤ mid → mid ≤ hi → Within lo mid xs → Within mid hi ys → Within lo hi (xs ++ ys)
joined lo mid hi [] ys h k a b = record { rise = wider lo mid ys h b.rise; below = b.below }
joined lo mid hi (x ∷ xs) ys h k a b =
    let rest = joined (suc x) mid hi xs ys (omega (arith, a.below.0)) k (record { rise = a.rise.1; below = a.below.1 }) b in
    record { rise = (a.rise.0, rest.rise); below = (omega (arith, a.below.0), rest.below) }

from_earlier : (lo lo' hi : ℕ) (xs : List ℕ) → lo ≤ lo' → Within lo' hi xs → Within lo hi xs
from_earlier lo lo' hi xs h w = record { rise = wider lo lo' xs h w.rise; below = w.below }

nothing : (lo hi : ℕ) → Within lo hi []
nothing lo hi = record { rise = tt; below = tt }

numbers_within : (lo n : ℕ) → Within lo (lo + n) (numbers_from lo n)
numbers_within lo zero = nothing lo (lo + zero)
numbers_within lo (suc n) =
    let rest = numbers_within (suc lo) n in
    let e : suc lo + n ≡ lo + suc n = omega arith in
    record {
      rise = (omega arith, rest.rise);
      below = (omega arith, subst (λ m. AllByRecursion (λ x. x < m) (numbers_from (suc lo) n)) e rest.below);
    }

filter_within : (f : ℕ → Bool) (hi lo : ℕ) (xs : List ℕ) → Within lo hi xs → Within lo hi (filter f xs)
filter_within f hi lo [] h = h
filter_within f hi lo (x ∷ xs) h =
    here (f x) (filter_within f hi (suc x) xs (record { rise = h.rise.1; below = h.below.1 }))
  where
    here : (t : Bool) → Within (suc x) hi (filter f xs) → Within lo hi (cond t (x ∷ filter f xs) (filter f xs))
    here true r = record { rise = (h.rise.0, r.rise); below = (h.below.0, r.below) }
    here false r = let first = h.rise.0 in record { rise = wider lo (suc x) (filter f xs) (omega (arith, first)) r.rise; below = r.below }

-- such a list is a set in a plan's sense

rising : (lo : ℕ) (xs : List ℕ) → Rises lo xs → rises xs ≡ true
rising lo [] h = refl
rising lo (x ∷ []) h = refl
rising lo (x ∷ y ∷ ys) h =
    let less : nat_lt x y ≡ true = lt-ltb x y (omega (arith, h.1.0)) in
    let rest = rising (suc x) (y ∷ ys) h.1 in
    ap (λ b. b && rises (y ∷ ys)) less ∙ rest

all_less : (hi : ℕ) (xs : List ℕ) → AllByRecursion (λ x. x < hi) xs → list_all (λ x. nat_lt x hi) xs ≡ true
all_less hi [] h = refl
all_less hi (x ∷ xs) h = ap (λ b. b && list_all (λ y. nat_lt y hi) xs) (lt-ltb x hi h.0) ∙ all_less hi xs h.1

pub set_of : (lo hi : ℕ) (xs : List ℕ) → Within lo hi xs → is_set hi xs ≡ true
set_of lo hi xs h = ap (λ b. b && list_all (λ x. nat_lt x hi) xs) (rising lo xs h.rise) ∙ all_less hi xs h.below

-- the calls of a block whose variables are numbered from lo on

record Parts (lo : ℕ) (xs ys : List ℕ) : Type 0 where
  first : xs ≡ numbers_from lo (length xs)
  second : ys ≡ numbers_from (lo + length xs) (length ys)

parts : (lo : ℕ) (xs ys : List ℕ) → xs ++ ys ≡ numbers_from lo (length (xs ++ ys)) → Parts lo xs ys
parts lo xs ys h =
    let cut = h ∙ (ap (numbers_from lo) (length-append xs ys) ∙ numbers_append lo (length xs) (length ys)) in
    let both = split_append xs (numbers_from lo (length xs)) ys (numbers_from (lo + length xs) (length ys)) (sym (length_numbers lo (length xs))) cut in
    record { first = both.0; second = both.1 }

waits_within : (lo : ℕ) (tail : Bool) (vars : List ℕ) (act : Act Pos) → vars ≡ numbers_from lo (length vars)
    → Within lo (lo + length vars) (waits tail vars act)
waits_within lo tail [] act h = nothing lo (lo + 0)
waits_within lo tail (x ∷ xs) act h = here (is_call act && not tail)
  where
    first : x ≡ lo
    first = cc

    here : (b : Bool) → Within lo (lo + suc (length xs)) (if b then x ∷ [] else [])
    here true = record { rise = (omega (arith, first), tt); below = (omega (arith, first), tt) }
    here false = nothing lo (lo + suc (length xs))

mutual
  code_within : (lo : ℕ) (tail : Bool) (c : Code Pos) (at : Counts) → binds c ≡ numbers_from lo (length (binds c))
      → Within lo (lo + length (binds c)) (waiting_in (labelled at tail c))
  code_within lo tail (Ends value) at h = nothing lo (lo + 0)
  code_within lo tail (Then pos vars act rest) at h =
      let last = in_tail tail rest vars in
      let one = parts lo vars (arms_bind act ++ binds rest) h in
      let two = parts (lo + length vars) (arms_bind act) (binds rest) one.second in
      let here = subst (Within lo (lo + length vars)) (sym (waits_labelled (past at act) last last vars act)) (waits_within lo last vars act one.first) in
      let arms = arms_within (lo + length vars) last act (past at act) two.first in
      let others = code_within (lo + length vars + length (arms_bind act)) tail rest (past_arms (past at act) act) two.second in
      let long = length-append vars (arms_bind act ++ binds rest) in
      let longer = length-append (arms_bind act) (binds rest) in
      let end : lo + length vars + length (arms_bind act) + length (binds rest) ≡ lo + length (binds (Then pos vars act rest)) = omega (arith, long, longer) in
      subst (λ hi. Within lo hi (waiting_in (labelled at tail (Then pos vars act rest)))) end
      (joined lo (lo + length vars) _ _ _ (omega arith) (omega arith) here
      (joined (lo + length vars) (lo + length vars + length (arms_bind act)) _ _ _ (omega arith) (omega arith) arms others))

  arms_within : (lo : ℕ) (tail : Bool) (act : Act Pos) (at : Counts) → arms_bind act ≡ numbers_from lo (length (arms_bind act))
      → Within lo (lo + length (arms_bind act)) (arms_wait (labelled_act at tail act))
  arms_within lo tail (If test this that) at h =
      let both = parts lo (binds this) (binds that) h in
      let one = code_within lo tail this at both.first in
      let two = code_within (lo + length (binds this)) tail that (past_code at this) both.second in
      let long = length-append (binds this) (binds that) in
      let end : lo + length (binds this) + length (binds that) ≡ lo + length (binds this ++ binds that) = omega (arith, long) in
      subst (λ hi. Within lo hi (waiting_in (labelled at tail this) ++ waiting_in (labelled (past_code at this) tail that))) end
      (joined lo (lo + length (binds this)) _ _ _ (omega arith) (omega arith) one two)
  arms_within lo tail act at h = nothing lo (lo + 0)

procs_within : (lo : ℕ) (all : List Written) (q site : ℕ) (at : Counts) (ps : List Written)
    → flat_map bound_in ps ≡ numbers_from lo (var_count ps)
    → Within lo (lo + var_count ps) (flat_map (λ r. waiting_in r.body) (procedures all q site at ps))
procs_within lo all q site at [] h = nothing lo (lo + 0)
procs_within lo all q site at (p ∷ ps) h =
    let inside : Counts = record { steps = at.steps; sites = at.sites; blocks = suc at.blocks } in
    let one = parts lo (bound_in p) (flat_map bound_in ps) h in
    let two = parts lo p.params (option_list p.rest ++ binds p.body) one.first in
    let three = parts (lo + length p.params) (option_list p.rest) (binds p.body) two.second in
    let start : ℕ = lo + length p.params + length (option_list p.rest) in
    let body = code_within start true p.body inside three.second in
    let others = procs_within (lo + length (bound_in p)) all (suc q) (site + length (option_list p.rest)) (past_code inside p.body) ps one.second in
    let long = length-append p.params (option_list p.rest ++ binds p.body) in
    let longer = length-append (option_list p.rest) (binds p.body) in
    let longest = length-append (bound_in p) (flat_map bound_in ps) in
    let end : start + length (binds p.body) ≡ lo + length (bound_in p) = omega (arith, long, longer) in
    let last : lo + length (bound_in p) + var_count ps ≡ lo + var_count (p ∷ ps) = omega (arith, longest) in
    let first = subst (λ hi. Within start hi (waiting_in (labelled inside true p.body))) end body in
    let early = from_earlier lo start (lo + length (bound_in p)) _ (omega arith) first in
    subst (λ hi. Within lo hi (flat_map (λ r. waiting_in r.body) (procedures all q site at (p ∷ ps)))) last
    (joined lo (lo + length (bound_in p)) _ _ _ (omega arith) (omega arith) early others)

-- The plain plan fits its program.

each_is_set : (n : ℕ) (f : ℕ → List ℕ) (qs : List ℕ) → ((q : ℕ) → is_set n (f q) ≡ true) → list_all (is_set n) (map f qs) ≡ true
each_is_set n f [] h = refl
each_is_set n f (q ∷ qs) h = ap (λ b. b && list_all (is_set n) (map f qs)) (h q) ∙ each_is_set n f qs h

numbers_set : (lo n hi : ℕ) → lo + n ≡ hi → is_set hi (numbers_from lo n) ≡ true
numbers_set lo n hi e = set_of lo hi (numbers_from lo n) (subst (λ m. Within lo m (numbers_from lo n)) e (numbers_within lo n))

free_set : (ps : List Written) (q : ℕ) → is_set (var_count ps) (free_vars ps q) ≡ true
free_set ps q =
    set_of 0 (var_count ps) (free_vars ps q)
    (filter_within (has (free_in (length ps) ps q)) (var_count ps) 0 (numbers_from 0 (var_count ps))
    (let e : 0 + var_count ps ≡ var_count ps = omega arith in
    subst (λ m. Within 0 m (numbers_from 0 (var_count ps))) e (numbers_within 0 (var_count ps))))

waiting_set : (f : Form) → Numbered f.procs → is_set (var_count f.procs) (all_waiting (program f.procs f.lits)) ≡ true
waiting_set f numbered =
    set_of 0 (var_count f.procs) (all_waiting (program f.procs f.lits))
    (let e : 0 + var_count f.procs ≡ var_count f.procs = omega arith in
    subst (λ m. Within 0 m (all_waiting (program f.procs f.lits))) e (procs_within 0 f.procs 0 _ _ f.procs numbered))

captured_procs : (b : Bool) (n : ℕ) (recording : List ℕ) → is_set n (capturing b n recording).procs ≡ true
captured_procs true n recording = numbers_set 0 n n (omega arith)
captured_procs false n recording = refl

captured_calls : (b : Bool) (n hi : ℕ) (recording : List ℕ) → is_set hi recording ≡ true
    → is_set hi (capturing b n recording).recording ≡ true
captured_calls true n hi recording h = h
captured_calls false n hi recording h = refl

compared_set : (ps : List Written) → is_set (length ps) (numbers_from 1 (length (but_first ps))) ≡ true
compared_set [] = refl
compared_set (p ∷ ps) = numbers_set 1 (length ps) (suc (length ps)) (omega arith)

pub plain_fits : (f : Form) → Numbered f.procs → FitsProgram (plain f) f.procs
plain_fits f numbered =
    let many : length (plain f).reprs.vars ≡ var_count f.procs = rw length-replicate in
    record {
      kept = rw length-map (length_numbers 0 (length f.procs));
      marks = rw length-replicate;
      vars = many;
      blocks = rw length-replicate;
      steps = rw length-replicate;
      capturing = captured_procs (captures_any f.procs) (length f.procs) (all_waiting (program f.procs f.lits));
      recording =
          subst (λ n. IsTrue (is_set n (plain f).capturing.recording)) (sym many)
          (captured_calls (captures_any f.procs) (length f.procs) (var_count f.procs) (all_waiting (program f.procs f.lits)) (waiting_set f numbered));
      each_kept =
          subst (λ n. IsTrue (list_all (is_set n) (all_free f.procs))) (sym many)
          (each_is_set (var_count f.procs) (free_vars f.procs) (numbers_from 0 (length f.procs)) (free_set f.procs));
      fictitious = refl;
      stated = refl;
      global = refl;
      compared = compared_set f.procs;
    }
