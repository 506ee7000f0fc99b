-- The values of an outcome come from the operands, and from what their objects hold.
use Rattle.std.proofs.Common.{◌≡◌, ℕ, zero, suc, Bool, true, false, List, [], ◌∷◌, Option, Some, None, refl, arith}
use Rattle.std.specs.Prelude.{ℤ, pos, negsuc, ◌+ℤ◌, ◌-ℤ◌, ◌*ℤ◌, int_div, nat_lt, if◌then◌else◌, replicate, slice_get, slice_set}
use Rattle.std.specs.List.{AllByRecursion, Contains}
use Rattle.std.proofs.lemmas.List.Elements.{Contains-append_right}
use Rattle.scheme_base.specs.declared.env.Env.{Env}
use Rattle.scheme_base.specs.declared.op.Op.{Op}
use Rattle.scheme_base.specs.declared.op.Op.TheVariants as op
use Rattle.scheme_base.specs.declared.error.ErrKind.TheVariants as kind
use Rattle.scheme_base.specs.Outside.{Event, ReadByte, ReadEnd, Calls, next_fails, read_event, after_read}
use Rattle.scheme_base.specs.Values.{Value, Integer, Character, Unspecified, Content, Pair, String, Vector, Symbol, truth}
use Rattle.scheme_base.specs.Integers.{in_range}
use Rattle.std.specs.Ordering.{int_eq}
use Rattle.scheme_base.specs.Operands.{operands_of}
use Rattle.scheme_base.specs.Operations.{Sight, Channels, Outcome, Answers, Changes, Fails, content_at, is_procedure, is_literal, whole, by, character, as_length, as_index, item_or, car_of, cdr_of, items_of, symbol_name, number_of, integer_of, byte_of, items_at, applied, captured, written_to, from_event, from_input, output_after, all_fit, act, checked, nth, operate}
use Rattle.scheme_base.specs.Laws.{values_in, values_of, IsPlain, ComesFrom, plain, operand, held, listed, HoldsWhatItMeets}

-- Lists

pub all_replicate : {A : Type 0} (P : A → Type 0) (n : ℕ) (a : A) → P a → AllByRecursion P (replicate n a)
all_replicate P zero a h = tt
all_replicate P (suc n) a h = (h, all_replicate P n a h)

pub all_set : {A : Type 0} (P : A → Type 0) (xs : List A) (n : ℕ) (a : A) → P a → AllByRecursion P xs
    → AllByRecursion P (slice_set xs n a)
all_set P [] n a h all = tt
all_set P (x ∷ xs) zero a h all = (h, all.1)
all_set P (x ∷ xs) (suc n) a h all = (all.0, all_set P xs n a h all.1)

pub all_item : {A : Type 0} (P : A → Type 0) (xs : List A) (n : ℕ) (a : A) → P a → AllByRecursion P xs
    → P (item_or a (slice_get xs n))
all_item P [] n a h all = h
all_item P (x ∷ xs) zero a h all = all.0
all_item P (x ∷ xs) (suc n) a h all = all_item P xs n a h all.1

-- Outcomes

-- a property of values that those have which name nothing
abbrev HasPlain : (Value → Type 0) → Type 0
HasPlain P = (v : Value) → IsPlain v → P v

abbrev Within : (Value → Type 0) → Outcome → Type 0
Within P x = AllByRecursion P (values_of x)

if_within : (P : Value → Type 0) (b : Bool) (x y : Outcome) → Within P x → Within P y → Within P (if b then x else y)
if_within P true x y h k = h
if_within P false x y h k = k

truth_plain : (b : Bool) → IsPlain (truth b)
truth_plain true = tt
truth_plain false = tt

whole_within : (P : Value → Type 0) → HasPlain P → (z : ℤ) → Within P (whole z)
whole_within P simple z =
    if_within P (in_range z) (Answers (Integer z)) (Fails kind.Overflow) (simple (Integer z) tt, tt) tt

by_within : (P : Value → Type 0) (d : ℤ) (x : Outcome) → Within P x → Within P (by d x)
by_within P d x h = if_within P (int_eq d (pos 0)) (Fails kind.ZeroDivisor) x tt h

character_within : (P : Value → Type 0) → HasPlain P → (z : ℤ) → Within P (character z)
character_within P simple (pos n) =
    if_within P (nat_lt n 256) (Answers (Character n)) (Fails kind.Index) (simple (Character n) tt, tt) tt
character_within P simple (negsuc n) = tt

length_within : (P : Value → Type 0) (z : ℤ) (made : ℕ → Content) → ((n : ℕ) → AllByRecursion P (values_in (made n)))
    → Within P (as_length z made)
length_within P (pos n) made h = h n
length_within P (negsuc n) made h = tt

index_within : (P : Value → Type 0) (z : ℤ) (long : ℕ) (f : ℕ → Outcome) → ((n : ℕ) → Within P (f n))
    → Within P (as_index z long f)
index_within P (pos n) long f h = if_within P (nat_lt n long) (f n) (Fails kind.Index) (h n) tt
index_within P (negsuc n) long f h = tt

write_within : (P : Value → Type 0) (literal : Bool) (x : Outcome) → Within P x → Within P (written_to literal x)
write_within P true x h = tt
write_within P false x h = h

event_within : (P : Value → Type 0) → HasPlain P → (peeks : Bool) (calls : Calls) (e : Event) → Within P (from_event peeks calls e)
event_within P simple peeks calls (ReadByte byte) = (simple (Character byte) tt, tt)
event_within P simple peeks calls ReadEnd = (simple _ tt, tt)
event_within P simple peeks calls e = tt

input_within : (P : Value → Type 0) → HasPlain P → (peeks : Bool) (env : Env) (calls : Calls) (ahead : Option ℕ)
    → Within P (from_input peeks env calls ahead)
input_within P simple peeks env calls (Some byte) = (simple (Character byte) tt, tt)
input_within P simple peeks env calls None =
    event_within P simple peeks (after_read env calls) (read_event (next_fails env calls) calls.input)

output_within : (P : Value → Type 0) → HasPlain P → (after : Channels) (failed : Bool) → Within P (output_after after failed)
output_within P simple after true = tt
output_within P simple after false = (simple Unspecified tt, tt)

applied_within : (P : Value → Type 0) (procedure : Bool) (f : Value) (items : Option (List Value)) → P f
    → ((vs : List Value) → items ≡ Some vs → AllByRecursion P vs) → Within P (applied procedure f items)
applied_within P false f items h all = tt
applied_within P true f None h all = tt
applied_within P true f (Some vs) h all = (h, all vs refl)

captured_within : (P : Value → Type 0) (procedure : Bool) (f : Value) → P f → Within P (captured procedure f)
captured_within P false f h = tt
captured_within P true f h = (h, tt)

-- What an object holds

car_within : (P : Value → Type 0) → HasPlain P → (c : Content) → AllByRecursion P (values_in c) → P (car_of c)
car_within P simple (Pair a d) h = h.0
car_within P simple c h = simple Unspecified tt

cdr_within : (P : Value → Type 0) → HasPlain P → (c : Content) → AllByRecursion P (values_in c) → P (cdr_of c)
cdr_within P simple (Pair a d) h = h.1.0
cdr_within P simple c h = simple Unspecified tt

name_within : (P : Value → Type 0) → HasPlain P → (c : Content) → AllByRecursion P (values_in c) → P (symbol_name c)
name_within P simple (Symbol name) h = h.0
name_within P simple c h = simple Unspecified tt

items_within : (P : Value → Type 0) → HasPlain P → (c : Content) → AllByRecursion P (values_in c) → AllByRecursion P (items_of c)
items_within P simple (Vector items) h = h
items_within P simple c h = tt

-- Operations

-- what a property needs that all values of an outcome are to have
pub record Spreads (P : Value → Type 0) (s : Sight) (o : Op) (vs : List Value) : Type 0 where
  pub plain : (v : Value) → IsPlain v → P v
  pub operands : AllByRecursion P vs
  pub held : AllByRecursion P (values_in (content_at s (nth vs 0)))
  pub listed : (items : List Value) → o ≡ op.Apply → items_at s (nth vs 1) ≡ Some items → AllByRecursion P items

act_within : (P : Value → Type 0) (env : Env) (s : Sight) (ch : Channels) (o : Op) (c : Content) (v w x : Value)
    → HasPlain P → P v → P w → P x → AllByRecursion P (values_in c)
    → ((items : List Value) → o ≡ op.Apply → items_at s w ≡ Some items → AllByRecursion P items)
    → Within P (act env s ch o c v w x)
act_within P env s ch op.Cons c v w x simple pv pw px kept given = (pv, (pw, tt))
act_within P env s ch op.Car c v w x simple pv pw px kept given = (car_within P simple c kept, tt)
act_within P env s ch op.Cdr c v w x simple pv pw px kept given = (cdr_within P simple c kept, tt)
act_within P env s ch op.SetCar c v w x simple pv pw px kept given =
    write_within P (is_literal s v) (Changes (number_of v) (Pair w (cdr_of c))) (pw, (cdr_within P simple c kept, tt))
act_within P env s ch op.SetCdr c v w x simple pv pw px kept given =
    write_within P (is_literal s v) (Changes (number_of v) (Pair (car_of c) w)) (car_within P simple c kept, (pw, tt))
act_within P env s ch op.Add c v w x simple pv pw px kept given =
    whole_within P simple (integer_of v +ℤ integer_of w)
act_within P env s ch op.Subtract c v w x simple pv pw px kept given =
    whole_within P simple (integer_of v -ℤ integer_of w)
act_within P env s ch op.Multiply c v w x simple pv pw px kept given =
    whole_within P simple (integer_of v *ℤ integer_of w)
act_within P env s ch op.Quotient c v w x simple pv pw px kept given =
    by_within P (integer_of w) (whole (int_div (integer_of v) (integer_of w)))
    (whole_within P simple (int_div (integer_of v) (integer_of w)))
act_within P env s ch op.Remainder c v w x simple pv pw px kept given =
    by_within P (integer_of w) (Answers (Integer _)) (simple (Integer _) tt, tt)
act_within P env s ch op.Modulo c v w x simple pv pw px kept given =
    by_within P (integer_of w) (Answers (Integer _)) (simple (Integer _) tt, tt)
act_within P env s ch op.IntegerToChar c v w x simple pv pw px kept given = character_within P simple (integer_of v)
act_within P env s ch op.CharToInteger c v w x simple pv pw px kept given = (simple (Integer _) tt, tt)
act_within P env s ch op.SymbolName c v w x simple pv pw px kept given = (name_within P simple c kept, tt)
act_within P env s ch op.MakeSymbol c v w x simple pv pw px kept given = (pv, tt)
act_within P env s ch op.MakeString c v w x simple pv pw px kept given =
    length_within P (integer_of v) (λ n. String (replicate n (byte_of w))) (λ n. tt)
act_within P env s ch op.MakeVector c v w x simple pv pw px kept given =
    length_within P (integer_of v) (λ n. Vector (replicate n w)) (λ n. all_replicate P n w pw)
act_within P env s ch op.StringLength c v w x simple pv pw px kept given = (simple (Integer _) tt, tt)
act_within P env s ch op.VectorLength c v w x simple pv pw px kept given = (simple (Integer _) tt, tt)
act_within P env s ch op.StringRef c v w x simple pv pw px kept given =
    index_within P (integer_of w) _ _ (λ n. (simple (Character _) tt, tt))
act_within P env s ch op.VectorRef c v w x simple pv pw px kept given =
    index_within P (integer_of w) _ _
    (λ n. (all_item P (items_of c) n Unspecified (simple Unspecified tt) (items_within P simple c kept), tt))
act_within P env s ch op.StringSet c v w x simple pv pw px kept given =
    write_within P (is_literal s v) _ (index_within P (integer_of w) _ _ (λ n. tt))
act_within P env s ch op.VectorSet c v w x simple pv pw px kept given =
    write_within P (is_literal s v) _
    (index_within P (integer_of w) _ _ (λ n. all_set P (items_of c) n x px (items_within P simple c kept)))
act_within P env s ch op.ReadChar c v w x simple pv pw px kept given = input_within P simple false env ch.calls ch.ahead
act_within P env s ch op.PeekChar c v w x simple pv pw px kept given = input_within P simple true env ch.calls ch.ahead
act_within P env s ch op.WriteChar c v w x simple pv pw px kept given = output_within P simple _ (next_fails env ch.calls)
act_within P env s ch op.Apply c v w x simple pv pw px kept given =
    applied_within P (is_procedure s v) v (items_at s w) pv (λ items e. given items refl e)
act_within P env s ch op.CallCC c v w x simple pv pw px kept given = captured_within P (is_procedure s v) v pv
act_within P env s ch o c v w x simple pv pw px kept given = (simple (truth _) (truth_plain _), tt)

-- a property that spreads so is one of all values of an outcome
pub within : (P : Value → Type 0) (env : Env) (s : Sight) (ch : Channels) (o : Op) (vs : List Value)
    → Spreads P s o vs → AllByRecursion P (values_of (operate env s ch o vs))
within P env s ch o vs h = by_fit (all_fit s (operands_of o) vs) where
  at : (n : ℕ) → P (nth vs n)
  at n = all_item P vs n Unspecified (h.plain Unspecified tt) h.operands

  by_fit : (fit : Bool)
      → AllByRecursion P (values_of (checked fit (act env s ch o (content_at s (nth vs 0)) (nth vs 0) (nth vs 1) (nth vs 2))))
  by_fit true =
      act_within P env s ch o (content_at s (nth vs 0)) (nth vs 0) (nth vs 1) (nth vs 2) h.plain (at 0) (at 1) (at 2)
      h.held h.listed
  by_fit false = tt

all_of : {A : Type 0} (P : A → Type 0) (xs : List A) → ((a : A) → Contains xs a → P a) → AllByRecursion P xs
all_of P [] h = tt
all_of P (x ∷ xs) h =
    (h x (0, omega arith, refl), all_of P xs (λ a within. h a (Contains-append_right (x ∷ []) xs a within)))

pub holds_what_it_meets : (env : Env) (s : Sight) (ch : Channels) (o : Op) (vs : List Value) → HoldsWhatItMeets env s ch o vs
holds_what_it_meets env s ch o vs =
    within (ComesFrom s o vs) env s ch o vs
    (record {
      plain = λ v h. plain h;
      operands = all_of (ComesFrom s o vs) vs (λ v h. operand h);
      held = all_of (ComesFrom s o vs) (values_in (content_at s (nth vs 0))) (λ v h. held h);
      listed = λ items e k. all_of (ComesFrom s o vs) items (λ v h. listed items e k h);
    })
