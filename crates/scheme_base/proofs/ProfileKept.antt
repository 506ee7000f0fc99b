-- From integers in range and characters that are bytes an operation makes no others.
use Rattle.std.proofs.Common.{◌≡◌, ℕ, zero, suc, ◌<◌, ◌≤◌, ◌%◌, Bool, true, false, List, [], ◌∷◌, length, Option, Some, None, refl, sym, ap, subst, ◌∙◌, arith, length-set}
use Rattle.std.specs.Prelude.{ℤ, pos, negsuc, neg_ℤ, nat_abs, ◌&&◌, ◌+ℤ◌, ◌-ℤ◌, ◌*ℤ◌, int_div, int_rem, nat_lt, IsTrue, if◌then◌else◌, ◌||◌, replicate, slice_get, slice_set}
use Rattle.std.specs.List.{AllByRecursion}
use Rattle.std.specs.Ordering.{int_eq}
use Rattle.std.proofs.lemmas.List.{length-replicate}
use Rattle.std.specs.Int.Signed.{mag, mag_rem}
use Rattle.scheme_base.specs.declared.env.Env.{Env}
use Rattle.scheme_base.specs.declared.op.Op.{Op}
use Rattle.scheme_base.specs.declared.op.Op.TheVariants as op
use Rattle.scheme_base.specs.declared.error.ErrKind.TheVariants as kind
use Rattle.scheme_base.specs.Outside.{Event, ReadByte, ReadEnd, Calls, next_fails, read_event, after_read, after_write}
use Rattle.scheme_base.specs.Values.{Value, Integer, Character, Unspecified, Content, Pair, String, Vector, Symbol, truth}
use Rattle.scheme_base.specs.Constants.{is_byte, are_bytes}
use Rattle.scheme_base.specs.Integers.{in_range}
use Rattle.scheme_base.specs.Operands.{operands_of}
use Rattle.scheme_base.specs.Operations.{Sight, Channels, Outcome, Answers, Changes, Fails, content_at, is_procedure, is_literal, whole, by, modulo_of, character, as_length, as_index, item_or, car_of, cdr_of, items_of, chars_of, symbol_name, number_of, integer_of, byte_of, items_at, applied, captured, written_to, from_event, from_input, output_after, all_fit, act, checked, nth}
use Rattle.scheme_base.specs.Laws.{IsOfProfile, HoldsOfProfile, AheadIsByte, OutcomeOfProfile, StaysInProfile}
use Rattle.scheme_base.proofs.OutcomeValues.{all_replicate, all_set, all_item}

-- Integers

pos_fits : (n m : ℕ) → IsTrue (in_range (pos n)) → m ≤ n → IsTrue (in_range (pos m))
pos_fits n m h less = grind (arith, h, less)

neg_fits : (n m : ℕ) → IsTrue (in_range (negsuc n)) → mag (neg_ℤ (pos m)) ≤ n → IsTrue (in_range (neg_ℤ (pos m)))
neg_fits n zero h less = refl
neg_fits n (suc m) h less = let l : m ≤ n = less in grind (arith, h, l)

remainder_fits : (y z : ℤ) → IsTrue (in_range y) → IsTrue (in_range (int_rem y z))
remainder_fits (pos n) z h =
    let less : n % nat_abs z ≤ n = mag_rem (pos n) z in pos_fits n (n % nat_abs z) h less
remainder_fits (negsuc n) z h = neg_fits n (suc n % nat_abs z) h (mag_rem (negsuc n) z)

sum_fits : (x y : ℕ) → IsTrue (in_range (pos x)) → IsTrue (in_range (negsuc y)) → IsTrue (in_range (pos x +ℤ negsuc y))
sum_fits x y h k = grind (arith, h, k)

other_sum_fits : (x y : ℕ) → IsTrue (in_range (negsuc x)) → IsTrue (in_range (pos y)) → IsTrue (in_range (negsuc x +ℤ pos y))
other_sum_fits x y h k = grind (arith, h, k)

modulo_fits : (r d : ℤ) → IsTrue (in_range r) → IsTrue (in_range d) → IsTrue (in_range (modulo_of r d))
modulo_fits (pos x) (pos y) h k = by (int_eq (pos x) (pos 0)) where
  by : (c : Bool) → IsTrue (in_range (if c || true then pos x else pos x +ℤ pos y))
  by true = h
  by false = h
modulo_fits (negsuc x) (negsuc y) h k = h
modulo_fits (pos x) (negsuc y) h k = by (int_eq (pos x) (pos 0)) where
  by : (c : Bool) → IsTrue (in_range (if c || false then pos x else pos x +ℤ negsuc y))
  by true = h
  by false = sum_fits x y h k
modulo_fits (negsuc x) (pos y) h k = other_sum_fits x y h k

byte_fits : (n : ℕ) → IsTrue (is_byte n) → IsTrue (in_range (pos n))
byte_fits n h = grind (arith, h)

-- Bytes

left : (a b : Bool) → (a && b) ≡ true → a ≡ true
left true b h = refl
left false b h = cc

right : (a b : Bool) → (a && b) ≡ true → b ≡ true
right true b h = h
right false b h = cc

both : (a b : Bool) → a ≡ true → b ≡ true → (a && b) ≡ true
both a b h k = ap (λ c. c && b) h ∙ k

byte_at : (xs : List ℕ) (n : ℕ) → IsTrue (are_bytes xs) → IsTrue (is_byte (item_or 0 (slice_get xs n)))
byte_at [] n h = refl
byte_at (x ∷ xs) zero h = left (is_byte x) (are_bytes xs) h
byte_at (x ∷ xs) (suc n) h = byte_at xs n (right (is_byte x) (are_bytes xs) h)

bytes_set : (xs : List ℕ) (n b : ℕ) → IsTrue (are_bytes xs) → IsTrue (is_byte b) → IsTrue (are_bytes (slice_set xs n b))
bytes_set [] n b h k = refl
bytes_set (x ∷ xs) zero b h k = both (is_byte b) (are_bytes xs) k (right (is_byte x) (are_bytes xs) h)
bytes_set (x ∷ xs) (suc n) b h k =
    both (is_byte x) (are_bytes (slice_set xs n b)) (left (is_byte x) (are_bytes xs) h)
    (bytes_set xs n b (right (is_byte x) (are_bytes xs) h) k)

bytes_made : (n b : ℕ) → IsTrue (is_byte b) → IsTrue (are_bytes (replicate n b))
bytes_made zero b k = refl
bytes_made (suc n) b k = both (is_byte b) (are_bytes (replicate n b)) k (bytes_made n b k)

-- What operands and contents have

integer_fits : (v : Value) → IsOfProfile v → IsTrue (in_range (integer_of v))
integer_fits (Integer z) h = h
integer_fits v h = refl

byte_of_fits : (v : Value) → IsOfProfile v → IsTrue (is_byte (byte_of v))
byte_of_fits (Character b) h = h
byte_of_fits v h = refl

car_fits : (c : Content) → HoldsOfProfile c → IsOfProfile (car_of c)
car_fits (Pair a d) h = h.0
car_fits c h = tt

cdr_fits : (c : Content) → HoldsOfProfile c → IsOfProfile (cdr_of c)
cdr_fits (Pair a d) h = h.1
cdr_fits c h = tt

name_fits : (c : Content) → HoldsOfProfile c → IsOfProfile (symbol_name c)
name_fits (Symbol name) h = h
name_fits c h = tt

chars_fit : (c : Content) → HoldsOfProfile c → IsTrue (are_bytes (chars_of c)) × IsTrue (in_range (pos (length (chars_of c))))
chars_fit (String chars) h = h
chars_fit c h = (refl, refl)

items_fit : (c : Content) → HoldsOfProfile c
    → AllByRecursion IsOfProfile (items_of c) × IsTrue (in_range (pos (length (items_of c))))
items_fit (Vector items) h = h
items_fit c h = (tt, refl)

-- Outcomes

abbrev Fits : Outcome → Type 0
Fits x = OutcomeOfProfile x

truth_fits : (b : Bool) → IsOfProfile (truth b)
truth_fits true = tt
truth_fits false = tt

whole_fits : (z : ℤ) → Fits (whole z)
whole_fits z = by (in_range z) refl where
  by : (b : Bool) → in_range z ≡ b → Fits (if b then Answers (Integer z) else Fails kind.Overflow)
  by true h = h
  by false h = tt

by_fits : (d : ℤ) (x : Outcome) → Fits x → Fits (by d x)
by_fits d x h = choose (int_eq d (pos 0)) where
  choose : (b : Bool) → Fits (if b then Fails kind.ZeroDivisor else x)
  choose true = tt
  choose false = h

character_fits : (z : ℤ) → Fits (character z)
character_fits (pos n) = by (nat_lt n 256) refl where
  by : (b : Bool) → nat_lt n 256 ≡ b → Fits (if b then Answers (Character n) else Fails kind.Index)
  by true h = h
  by false h = tt
character_fits (negsuc n) = tt

length_fits : (z : ℤ) (made : ℕ → Content) → IsTrue (in_range z)
    → ((n : ℕ) → IsTrue (in_range (pos n)) → HoldsOfProfile (made n)) → Fits (as_length z made)
length_fits (pos n) made h k = k n h
length_fits (negsuc n) made h k = tt

index_fits : (z : ℤ) (long : ℕ) (f : ℕ → Outcome) → ((n : ℕ) → Fits (f n)) → Fits (as_index z long f)
index_fits (pos n) long f h = by (nat_lt n long) where
  by : (b : Bool) → Fits (if b then f n else Fails kind.Index)
  by true = h n
  by false = tt
index_fits (negsuc n) long f h = tt

write_fits : (literal : Bool) (x : Outcome) → Fits x → Fits (written_to literal x)
write_fits true x h = tt
write_fits false x h = h

abbrev EventFits : Event → Type 0
EventFits (ReadByte byte) = IsTrue (is_byte byte)
EventFits e = Unit {0}

item_fits : (n : ℕ) → IsTrue (is_byte (n % 256))
item_fits n = let small : n % 256 < 256 = omega arith in grind (arith, small)

read_fits : (fails : Bool) (items : List (Option ℕ)) → EventFits (read_event fails items)
read_fits true items = tt
read_fits false [] = tt
read_fits false (None ∷ items) = tt
read_fits false (Some n ∷ items) = item_fits n

event_fits : (peeks : Bool) (calls : Calls) (e : Event) → EventFits e → Fits (from_event peeks calls e)
event_fits true calls (ReadByte byte) h = (h, h)
event_fits false calls (ReadByte byte) h = (h, tt)
event_fits peeks calls ReadEnd h = (tt, tt)
event_fits peeks calls e h = tt

input_fits : (peeks : Bool) (env : Env) (calls : Calls) (ahead : Option ℕ) → AheadIsByte ahead
    → Fits (from_input peeks env calls ahead)
input_fits true env calls (Some byte) h = (h, h)
input_fits false env calls (Some byte) h = (h, tt)
input_fits peeks env calls None h =
    event_fits peeks (after_read env calls) (read_event (next_fails env calls) calls.input)
    (read_fits (next_fails env calls) calls.input)

output_fits : (after : Channels) (failed : Bool) → AheadIsByte after.ahead → Fits (output_after after failed)
output_fits after true h = h
output_fits after false h = (tt, h)

applied_fits : (procedure : Bool) (f : Value) (items : Option (List Value)) → IsOfProfile f
    → ((vs : List Value) → items ≡ Some vs → AllByRecursion IsOfProfile vs) → Fits (applied procedure f items)
applied_fits false f items h all = tt
applied_fits true f None h all = tt
applied_fits true f (Some vs) h all = (h, all vs refl)

captured_fits : (procedure : Bool) (f : Value) → IsOfProfile f → Fits (captured procedure f)
captured_fits false f h = tt
captured_fits true f h = h

-- Operations

act_fits : (env : Env) (s : Sight) (ch : Channels) (o : Op) (c : Content) (v w x : Value)
    → IsOfProfile v → IsOfProfile w → IsOfProfile x → HoldsOfProfile c → AheadIsByte ch.ahead
    → ((items : List Value) → o ≡ op.Apply → items_at s w ≡ Some items → AllByRecursion IsOfProfile items)
    → Fits (act env s ch o c v w x)
act_fits env s ch op.Cons c v w x hv hw hx hc ha hl = (hv, hw)
act_fits env s ch op.Car c v w x hv hw hx hc ha hl = car_fits c hc
act_fits env s ch op.Cdr c v w x hv hw hx hc ha hl = cdr_fits c hc
act_fits env s ch op.SetCar c v w x hv hw hx hc ha hl =
    write_fits (is_literal s v) (Changes (number_of v) (Pair w (cdr_of c))) (hw, cdr_fits c hc)
act_fits env s ch op.SetCdr c v w x hv hw hx hc ha hl =
    write_fits (is_literal s v) (Changes (number_of v) (Pair (car_of c) w)) (car_fits c hc, hw)
act_fits env s ch op.Add c v w x hv hw hx hc ha hl = whole_fits (integer_of v +ℤ integer_of w)
act_fits env s ch op.Subtract c v w x hv hw hx hc ha hl = whole_fits (integer_of v -ℤ integer_of w)
act_fits env s ch op.Multiply c v w x hv hw hx hc ha hl = whole_fits (integer_of v *ℤ integer_of w)
act_fits env s ch op.Quotient c v w x hv hw hx hc ha hl =
    by_fits (integer_of w) (whole (int_div (integer_of v) (integer_of w))) (whole_fits (int_div (integer_of v) (integer_of w)))
act_fits env s ch op.Remainder c v w x hv hw hx hc ha hl =
    by_fits (integer_of w) (Answers (Integer (int_rem (integer_of v) (integer_of w))))
    (remainder_fits (integer_of v) (integer_of w) (integer_fits v hv))
act_fits env s ch op.Modulo c v w x hv hw hx hc ha hl =
    let r = int_rem (integer_of v) (integer_of w) in
    by_fits (integer_of w) (Answers (Integer (modulo_of r (integer_of w))))
    (modulo_fits r (integer_of w) (remainder_fits (integer_of v) (integer_of w) (integer_fits v hv)) (integer_fits w hw))
act_fits env s ch op.CharToInteger c v w x hv hw hx hc ha hl = byte_fits (byte_of v) (byte_of_fits v hv)
act_fits env s ch op.IntegerToChar c v w x hv hw hx hc ha hl = character_fits (integer_of v)
act_fits env s ch op.SymbolName c v w x hv hw hx hc ha hl = name_fits c hc
act_fits env s ch op.MakeSymbol c v w x hv hw hx hc ha hl = hv
act_fits env s ch op.MakeString c v w x hv hw hx hc ha hl =
    length_fits (integer_of v) (λ n. String (replicate n (byte_of w))) (integer_fits v hv)
    (λ n fits. (bytes_made n (byte_of w) (byte_of_fits w hw), subst (λ k. IsTrue (in_range (pos k))) (sym (length-replicate n (byte_of w))) fits))
act_fits env s ch op.MakeVector c v w x hv hw hx hc ha hl =
    length_fits (integer_of v) (λ n. Vector (replicate n w)) (integer_fits v hv)
    (λ n fits. (all_replicate IsOfProfile n w hw, subst (λ k. IsTrue (in_range (pos k))) (sym (length-replicate n w)) fits))
act_fits env s ch op.StringLength c v w x hv hw hx hc ha hl = (chars_fit c hc).1
act_fits env s ch op.VectorLength c v w x hv hw hx hc ha hl = (items_fit c hc).1
act_fits env s ch op.StringRef c v w x hv hw hx hc ha hl =
    index_fits (integer_of w) (length (chars_of c)) (λ i. Answers (Character (item_or 0 (slice_get (chars_of c) i))))
    (λ n. byte_at (chars_of c) n (chars_fit c hc).0)
act_fits env s ch op.VectorRef c v w x hv hw hx hc ha hl =
    index_fits (integer_of w) (length (items_of c)) (λ i. Answers (item_or Unspecified (slice_get (items_of c) i)))
    (λ n. all_item IsOfProfile (items_of c) n Unspecified tt (items_fit c hc).0)
act_fits env s ch op.StringSet c v w x hv hw hx hc ha hl =
    let set : ℕ → Outcome = λ i. Changes (number_of v) (String (slice_set (chars_of c) i (byte_of x))) in
    write_fits (is_literal s v) (as_index (integer_of w) (length (chars_of c)) set)
    (index_fits (integer_of w) (length (chars_of c)) set
    (λ n. (
      bytes_set (chars_of c) n (byte_of x) (chars_fit c hc).0 (byte_of_fits x hx),
      subst (λ k. IsTrue (in_range (pos k))) (sym (length-set (chars_of c) n (byte_of x))) (chars_fit c hc).1,
    )))
act_fits env s ch op.VectorSet c v w x hv hw hx hc ha hl =
    let set : ℕ → Outcome = λ i. Changes (number_of v) (Vector (slice_set (items_of c) i x)) in
    write_fits (is_literal s v) (as_index (integer_of w) (length (items_of c)) set)
    (index_fits (integer_of w) (length (items_of c)) set
    (λ n. (
      all_set IsOfProfile (items_of c) n x hx (items_fit c hc).0,
      subst (λ k. IsTrue (in_range (pos k))) (sym (length-set (items_of c) n x)) (items_fit c hc).1,
    )))
act_fits env s ch op.ReadChar c v w x hv hw hx hc ha hl = input_fits false env ch.calls ch.ahead ha
act_fits env s ch op.PeekChar c v w x hv hw hx hc ha hl = input_fits true env ch.calls ch.ahead ha
act_fits env s ch op.WriteChar c v w x hv hw hx hc ha hl =
    output_fits (record { calls = after_write env (byte_of v) ch.calls; ahead = ch.ahead }) (next_fails env ch.calls) ha
act_fits env s ch op.Apply c v w x hv hw hx hc ha hl =
    applied_fits (is_procedure s v) v (items_at s w) hv (λ items e. hl items refl e)
act_fits env s ch op.CallCC c v w x hv hw hx hc ha hl = captured_fits (is_procedure s v) v hv
act_fits env s ch o c v w x hv hw hx hc ha hl = truth_fits _

pub stays_in_profile : (env : Env) (s : Sight) (ch : Channels) (o : Op) (vs : List Value) → StaysInProfile env s ch o vs
stays_in_profile env s ch o vs h = by_fit (all_fit s (operands_of o) vs) where
  at : (n : ℕ) → IsOfProfile (nth vs n)
  at n = all_item IsOfProfile vs n Unspecified tt h.operands

  by_fit : (fit : Bool)
      → Fits (checked fit (act env s ch o (content_at s (nth vs 0)) (nth vs 0) (nth vs 1) (nth vs 2)))
  by_fit true =
      act_fits env s ch o (content_at s (nth vs 0)) (nth vs 0) (nth vs 1) (nth vs 2) (at 0) (at 1) (at 2) h.held
      h.ahead h.listed
  by_fit false = tt
