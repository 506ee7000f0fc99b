-- The tables of a plan say where variables are.
use Rattle.std.proofs.Common.{◌≡◌, ℕ, suc, nat_eq, List, [], ◌∷◌, map, Option, Some, None, is_some, Bool, true, false, not, ◌||◌, ◌&&◌, ◌<◌, length, arith, if◌then◌else◌, refl, sym, ◌∙◌, ap}
use Rattle.std.specs.List.{filter, list_any}
use Rattle.std.specs.Option.{option_map}
use Rattle.flat_form.specs.declared.program.Mode.TheVariants as mode
use Rattle.named_form.specs.declared.plan.Fiction.{Fiction}
use Rattle.named_form.specs.declared.plan.Plan.{Plan}
use Rattle.named_form.specs.Code.{has}
use Rattle.named_form.specs.Storage.{is_fictitious, is_global, is_compared, is_empty, is_static, keeps}
use Rattle.named_form.specs.ValidPlan.{fiction_of}
use Rattle.closure_conv.specs.declared.tables.Tables.{Tables}
use Rattle.closure_conv.specs.FlatOf.{index_from, index_of, stated_or, cell_or, slot_or, kept_or_none, home_at, mode_of}
use Rattle.closure_conv.specs.Tables.{Tells, Runs, scene, number_of, value_at, home_in, has_slot, mode_in}
use Rattle.closure_conv.proofs.Indices.{index_from-suc, index_from-has}

-- what is known of a variable stands at its index
pub fiction_at : (fs : List Fiction) (x : ℕ) → fiction_of fs x ≡ value_at fs (index_of (map (λ f. f.var) fs) x)
fiction_at [] x = refl
fiction_at (f ∷ fs) x =
    elim (nat_eq x f.var) as (λ b. (if b then Some f.value else fiction_of fs x) ≡ value_at (f ∷ fs) (if b then Some 0 else index_from 1 (map (λ f. f.var) fs) x)) [
      | true ↦ refl
      | false ↦ fiction_at fs x ∙ further (index_of (map (λ f. f.var) fs) x) ∙ ap (value_at (f ∷ fs)) (sym (index_from-suc 0 (map (λ f. f.var) fs) x))
    ]
  where
    further : (o : Option ℕ) → value_at fs o ≡ value_at (f ∷ fs) (option_map suc o)
    further None = refl
    further (Some n) = refl

pub home_is : (plan : Plan) (t : Tables) (x : ℕ) → Runs plan t → home_in plan t x ≡ home_at (scene plan t) x
home_is plan t x runs =
    ap (λ o. stated_or (value_at plan.slots.fictitious o) (cell_or t.tops (number_of t.global x) (slot_or (number_of t.slots x) (kept_or_none (number_of t.kept x))))) (runs.tells.fictitious x)
    ∙ ap (λ s. stated_or s (cell_or t.tops (number_of t.global x) (slot_or (number_of t.slots x) (kept_or_none (number_of t.kept x))))) (sym (fiction_at plan.slots.fictitious x))
    ∙ ap (λ o. stated_or (fiction_of plan.slots.fictitious x) (cell_or t.tops o (slot_or (number_of t.slots x) (kept_or_none (number_of t.kept x))))) (runs.tells.global x)
    ∙ ap (λ o. stated_or (fiction_of plan.slots.fictitious x) (cell_or t.tops (index_of plan.slots.global x) (slot_or o (kept_or_none (number_of t.kept x))))) (runs.slots x)
    ∙ ap (λ o. stated_or (fiction_of plan.slots.fictitious x) (cell_or t.tops (index_of plan.slots.global x) (slot_or (index_of t.slotted x) (kept_or_none o)))) (runs.kept x)

-- a number is a member exactly where it has an index
pub is_member : (o : Option ℕ) (xs : List ℕ) (x : ℕ) → o ≡ index_of xs x → is_some o ≡ has xs x
is_member o xs x e = ap is_some e ∙ index_from-has 0 xs x

pub mode_is : (plan : Plan) (t : Tables) (tail : Bool) (x : ℕ) → Runs plan t → mode_in t tail x ≡ mode_of (scene plan t) tail x
mode_is plan t true x runs =
    ap (λ b. if b then mode.RecordTail else mode.StackTail) (is_member _ plan.capturing.procs t.proc (runs.tells.capturing t.proc))
mode_is plan t false x runs =
    ap (λ b. if b then mode.Record else mode.Stack) (is_member _ plan.capturing.recording x (runs.tells.recording x))

fictitious_is : (fs : List Fiction) (x : ℕ) → has (map (λ f. f.var) fs) x ≡ list_any (λ f. nat_eq x f.var) fs
fictitious_is [] x = refl
fictitious_is (f ∷ fs) x = ap (λ b. nat_eq x f.var || b) (fictitious_is fs x)

pub has_slot_is : (plan : Plan) (t : Tables) (x : ℕ) → Tells plan t → has_slot t x ≡ not (is_fictitious plan x || is_global plan x)
has_slot_is plan t x tells =
    ap (λ b. not (b || is_some (number_of t.global x))) (is_member _ _ x (tells.fictitious x) ∙ fictitious_is plan.slots.fictitious x)
    ∙ ap (λ b. not (is_fictitious plan x || b)) (is_member _ plan.slots.global x (tells.global x))

filters_alike : (p q : ℕ → Bool) (xs : List ℕ) → ((x : ℕ) → p x ≡ q x) → filter p xs ≡ filter q xs
filters_alike p q [] same = refl
filters_alike p q (x ∷ xs) same =
    ap (λ b. if b then x ∷ filter p xs else filter p xs) (same x)
    ∙ ap (λ ys. if q x then x ∷ ys else ys) (filters_alike p q xs same)

pub slotted_is :
    (plan : Plan) (t : Tables) (xs : List ℕ) → Tells plan t
    → filter (has_slot t) xs ≡ filter (λ x. not (is_fictitious plan x || is_global plan x)) xs
slotted_is plan t xs tells = filters_alike _ _ xs (λ x. has_slot_is plan t x tells)

nothing : (ks : List ℕ) → length ks < 1 → is_empty ks ≡ true
nothing [] none = refl
nothing (k ∷ ks) none = absurd (omega arith)

-- a procedure whose closures keep nothing
pub static_is :
    (plan : Plan) (t : Tables) (q : ℕ) (kept : List ℕ) (compared : Bool) → Runs plan t
    → kept ≡ keeps plan q
    → length kept < 1
    → compared ≡ is_some (number_of t.compared q)
    → not compared ≡ is_static plan q
static_is plan t q kept compared runs same none told =
    ap not (told ∙ is_member _ plan.slots.compared q (runs.tells.compared q))
    ∙ sym (ap (λ b. b && not (is_compared plan q)) (sym (ap is_empty same) ∙ nothing kept none))
