-- The laws of all operations, operation by operation.
use Rattle.std.proofs.Common.{◌≡◌, ℕ, ◌<◌, inl, inr, Bool, true, false, List, [], ◌∷◌, length, Option, Some, None, refl, sym, ap, subst, ◌∙◌, arith}
use Rattle.std.specs.Prelude.{ℤ, pos, negsuc, ◌&&◌, if◌then◌else◌, nat_lt, slice_get, slice_set}
use Rattle.std.specs.List.{Contains}
use Rattle.std.specs.Ordering.{int_eq}
use Rattle.std.proofs.lemmas.Option.{none-some, slice_get-get_or}
use Rattle.std.specs.Prelude.{int_rem, int_div, int_lt, ◌+ℤ◌, ◌-ℤ◌, ◌*ℤ◌, replicate}
use Rattle.scheme_base.specs.declared.env.Env.{Env}
use Rattle.scheme_base.specs.declared.op.Op.{Op}
use Rattle.scheme_base.specs.declared.op.Op.TheVariants as op
use Rattle.scheme_base.specs.declared.error.ErrKind.{ErrKind}
use Rattle.scheme_base.specs.declared.error.ErrKind.TheVariants as kind
use Rattle.scheme_base.specs.Outside.{Event, ReadByte, ReadEnd, Calls, next_fails, read_event, write_event, after_read, after_write}
use Rattle.scheme_base.specs.Values.{Value, Integer, Character, Unspecified, Object, Content, Pair, String, Vector, Symbol, Blank, truth}
use Rattle.scheme_base.specs.Integers.{in_range}
use Rattle.scheme_base.specs.Operands.{Kind, Any, AnInteger, ACharacter, APair, AString, AVector, ASymbol, Result, Truths, Numbers, Characters, Made, Held, Nothing, FromInput, Called, operands_of, result_of}
use Rattle.scheme_base.specs.Operations.{Sight, Channels, Outcome, Answers, Changes, Passes, Fails, Breaks, held, called, content_at, is_procedure, is_pair, is_string, is_vector, is_symbol, fits, all_fit, whole, by, character, as_length, as_index, item_or, is_integer, is_character, is_boolean, is_nil, is_eof, same, integer_of, byte_of, modulo_of, chars_of, items_of, symbol_name, car_of, cdr_of, number_of, items_at, applied, captured, from_event, from_input, output_after, is_literal, is_constant, written_to, act, checked, nth, operate, channels_after}
use Rattle.scheme_base.specs.Laws.{values_in, CallsOnce, Met, Gives, met_by, Decides, seen_at, Alike, ReadsOperands}

-- Outcomes

if_gives : (met : Met) (r : Result) (b : Bool) (x y : Outcome) → Gives met r x → Gives met r y → Gives met r (if b then x else y)
if_gives met r true x y h k = h
if_gives met r false x y h k = k

-- a failure that is none of types is an outcome of any kind
abbrev IsOther : ErrKind → Type 0
IsOther kind.WrongType = ⊥
IsOther k = Unit {0}

fails : (met : Met) (r : Result) (k : ErrKind) → IsOther k → Gives met r (Fails k)
fails met r kind.WrongType h = absurd h
fails met Truths k h = tt
fails met Numbers k h = tt
fails met Characters k h = tt
fails met Made k h = tt
fails met Held k h = tt
fails met Nothing k h = tt
fails met FromInput k h = tt
fails met Called k h = tt

truths : (met : Met) (b : Bool) → Gives met Truths (Answers (truth b))
truths met true = inr refl
truths met false = inl refl

whole_gives : (met : Met) (z : ℤ) → Gives met Numbers (whole z)
whole_gives met z = if_gives met Numbers (in_range z) (Answers (Integer z)) (Fails kind.Overflow) (z, refl) tt

by_gives : (met : Met) (r : Result) (d : ℤ) (x : Outcome) → Gives met r x → Gives met r (by d x)
by_gives met r d x h = if_gives met r (int_eq d (pos 0)) (Fails kind.ZeroDivisor) x (fails met r kind.ZeroDivisor tt) h

character_gives : (met : Met) (z : ℤ) → Gives met Characters (character z)
character_gives met (pos n) = if_gives met Characters (nat_lt n 256) (Answers (Character n)) (Fails kind.Index) (n, refl) tt
character_gives met (negsuc n) = tt

length_gives : (met : Met) (z : ℤ) (made : ℕ → Content) → Gives met Made (as_length z made)
length_gives met (pos n) made = tt
length_gives met (negsuc n) made = tt

index_gives : (met : Met) (r : Result) (z : ℤ) (long : ℕ) (f : ℕ → Outcome) → ((n : ℕ) → n < long → Gives met r (f n))
    → Gives met r (as_index z long f)
index_gives met r (pos n) long f h = within (nat_lt n long) (λ e. h n (grind arith)) where
  within : (b : Bool) → (b ≡ true → Gives met r (f n)) → Gives met r (if b then f n else Fails kind.Index)
  within true k = k refl
  within false k = fails met r kind.Index tt
index_gives met r (negsuc n) long f h = fails met r kind.Index tt

writes_give : (met : Met) (literal : Bool) (x : Outcome) → Gives met Nothing x → Gives met Nothing (written_to literal x)
writes_give met true x h = tt
writes_give met false x h = h

event_gives : (met : Met) (peeks : Bool) (calls : Calls) (e f : Event) → calls.trace ≡ f ∷ met.channels.calls.trace
    → Gives met FromInput (from_event peeks calls e)
event_gives met peeks calls (ReadByte byte) f h = (inl (byte, refl), inr (f, h))
event_gives met peeks calls ReadEnd f h = (inr refl, inr (f, h))
event_gives met peeks calls e f h = inr (f, h)

input_gives : (met : Met) (peeks : Bool) (env : Env) (ahead : Option ℕ)
    → Gives met FromInput (from_input peeks env met.channels.calls ahead)
input_gives met peeks env (Some byte) = (inl (byte, refl), inl refl)
input_gives met peeks env None =
    let calls = met.channels.calls in
    let e = read_event (next_fails env calls) calls.input in
    event_gives met peeks (after_read env calls) e e refl

written_gives : (met : Met) (after : Channels) (failed : Bool) (e : Event) → after.calls.trace ≡ e ∷ met.channels.calls.trace
    → Gives met Nothing (output_after after failed)
written_gives met after true e h = inr (e, h)
written_gives met after false e h = (refl, inr (e, h))

applied_gives : (met : Met) (p : Bool) (items : Option (List Value)) → met.items ≡ items
    → Gives met Called (applied p met.first items)
applied_gives met false items e = tt
applied_gives met true None e = λ vs h. none-some vs (sym e ∙ h)
applied_gives met true (Some vs) e = refl

captured_gives : (met : Met) (p : Bool) → Gives met Called (captured p met.first)
captured_gives met true = refl
captured_gives met false = tt

car_held : (c : Content) → is_pair c ≡ true → Contains (values_in c) (car_of c)
car_held (Pair a d) h = (0, omega arith, refl)
car_held c h = cc

cdr_held : (c : Content) → is_pair c ≡ true → Contains (values_in c) (cdr_of c)
cdr_held (Pair a d) h = (1, omega arith, refl)
cdr_held c h = cc

name_held : (c : Content) → is_symbol c ≡ true → Contains (values_in c) (symbol_name c)
name_held (Symbol name) h = (0, omega arith, refl)
name_held c h = cc

item_held : (c : Content) (n : ℕ) → is_vector c ≡ true → n < length (items_of c)
    → Contains (values_in c) (item_or Unspecified (slice_get (items_of c) n))
item_held (Vector items) n h within =
    (n, within, sym (ap (item_or Unspecified) (slice_get-get_or items n (item_or Unspecified (slice_get items n)) within)))
item_held c n h within = cc

pub first_fits : (s : Sight) (k : Kind) (ks : List Kind) (vs : List Value) → all_fit s (k ∷ ks) vs ≡ true → fits s k (nth vs 0) ≡ true
first_fits s k ks [] h = cc
first_fits s k ks (v ∷ vs) h = both (fits s k v) (all_fit s ks vs) h where
  both : (a b : Bool) → (a && b) ≡ true → a ≡ true
  both true b h = refl
  both false b h = cc

-- what holds something is an object, and it is the one of its number
pub numbered : (s : Sight) (v : Value) (is : Content → Bool) → is Blank ≡ false → is (content_at s v) ≡ true → v ≡ Object (number_of v)
numbered s (Object n) is h k = refl
numbered s v is h k = cc

gives : (env : Env) (s : Sight) (ch : Channels) (o : Op) (vs : List Value) → all_fit s (operands_of o) vs ≡ true
    → Gives (met_by s ch vs) (result_of o) (act env s ch o (content_at s (nth vs 0)) (nth vs 0) (nth vs 1) (nth vs 2))
gives env s ch op.Eqv vs fit = truths (met_by s ch vs) (same (nth vs 0) (nth vs 1))
gives env s ch op.IsPair vs fit = truths (met_by s ch vs) (is_pair (content_at s (nth vs 0)))
gives env s ch op.IsSymbol vs fit = truths (met_by s ch vs) (is_symbol (content_at s (nth vs 0)))
gives env s ch op.IsString vs fit = truths (met_by s ch vs) (is_string (content_at s (nth vs 0)))
gives env s ch op.IsVector vs fit = truths (met_by s ch vs) (is_vector (content_at s (nth vs 0)))
gives env s ch op.IsProcedure vs fit = truths (met_by s ch vs) (is_procedure s (nth vs 0))
gives env s ch op.IsInteger vs fit = truths (met_by s ch vs) (is_integer (nth vs 0))
gives env s ch op.IsChar vs fit = truths (met_by s ch vs) (is_character (nth vs 0))
gives env s ch op.IsBoolean vs fit = truths (met_by s ch vs) (is_boolean (nth vs 0))
gives env s ch op.IsNull vs fit = truths (met_by s ch vs) (is_nil (nth vs 0))
gives env s ch op.IsEof vs fit = truths (met_by s ch vs) (is_eof (nth vs 0))
gives env s ch op.Cons vs fit = tt
gives env s ch op.Car vs fit = car_held (content_at s (nth vs 0)) (first_fits s APair [] vs fit)
gives env s ch op.Cdr vs fit = cdr_held (content_at s (nth vs 0)) (first_fits s APair [] vs fit)
gives env s ch op.SetCar vs fit =
    writes_give (met_by s ch vs) (is_literal s (nth vs 0))
    (Changes (number_of (nth vs 0)) (Pair (nth vs 1) (cdr_of (content_at s (nth vs 0)))))
    (numbered s (nth vs 0) is_pair refl (first_fits s APair (Any ∷ []) vs fit))
gives env s ch op.SetCdr vs fit =
    writes_give (met_by s ch vs) (is_literal s (nth vs 0))
    (Changes (number_of (nth vs 0)) (Pair (car_of (content_at s (nth vs 0))) (nth vs 1)))
    (numbered s (nth vs 0) is_pair refl (first_fits s APair (Any ∷ []) vs fit))
gives env s ch op.Add vs fit = whole_gives (met_by s ch vs) (integer_of (nth vs 0) +ℤ integer_of (nth vs 1))
gives env s ch op.Subtract vs fit = whole_gives (met_by s ch vs) (integer_of (nth vs 0) -ℤ integer_of (nth vs 1))
gives env s ch op.Multiply vs fit = whole_gives (met_by s ch vs) (integer_of (nth vs 0) *ℤ integer_of (nth vs 1))
gives env s ch op.Quotient vs fit = by_gives (met_by s ch vs) Numbers (integer_of (nth vs 1)) (whole (int_div (integer_of (nth vs 0)) (integer_of (nth vs 1))))
    (whole_gives (met_by s ch vs) (int_div (integer_of (nth vs 0)) (integer_of (nth vs 1))))
gives env s ch op.Remainder vs fit = by_gives (met_by s ch vs) Numbers (integer_of (nth vs 1))
    (Answers (Integer (int_rem (integer_of (nth vs 0)) (integer_of (nth vs 1)))))
    (int_rem (integer_of (nth vs 0)) (integer_of (nth vs 1)), refl)
gives env s ch op.Modulo vs fit = by_gives (met_by s ch vs) Numbers (integer_of (nth vs 1))
    (Answers (Integer (modulo_of (int_rem (integer_of (nth vs 0)) (integer_of (nth vs 1))) (integer_of (nth vs 1)))))
    (modulo_of (int_rem (integer_of (nth vs 0)) (integer_of (nth vs 1))) (integer_of (nth vs 1)), refl)
gives env s ch op.Equals vs fit = truths (met_by s ch vs) (int_eq (integer_of (nth vs 0)) (integer_of (nth vs 1)))
gives env s ch op.Less vs fit = truths (met_by s ch vs) (int_lt (integer_of (nth vs 0)) (integer_of (nth vs 1)))
gives env s ch op.CharToInteger vs fit = (pos (byte_of (nth vs 0)), refl)
gives env s ch op.IntegerToChar vs fit = character_gives (met_by s ch vs) (integer_of (nth vs 0))
gives env s ch op.SymbolName vs fit = name_held (content_at s (nth vs 0)) (first_fits s ASymbol [] vs fit)
gives env s ch op.MakeSymbol vs fit = tt
gives env s ch op.MakeString vs fit = length_gives (met_by s ch vs) (integer_of (nth vs 0)) (λ n. String (replicate n (byte_of (nth vs 1))))
gives env s ch op.MakeVector vs fit = length_gives (met_by s ch vs) (integer_of (nth vs 0)) (λ n. Vector (replicate n (nth vs 1)))
gives env s ch op.StringLength vs fit = (pos (length (chars_of (content_at s (nth vs 0)))), refl)
gives env s ch op.VectorLength vs fit = (pos (length (items_of (content_at s (nth vs 0)))), refl)
gives env s ch op.StringRef vs fit = index_gives (met_by s ch vs) Characters (integer_of (nth vs 1)) (length (chars_of (content_at s (nth vs 0))))
    (λ i. Answers (Character (item_or 0 (slice_get (chars_of (content_at s (nth vs 0))) i))))
    (λ n within. (item_or 0 (slice_get (chars_of (content_at s (nth vs 0))) n), refl))
gives env s ch op.VectorRef vs fit = index_gives (met_by s ch vs) Held (integer_of (nth vs 1)) (length (items_of (content_at s (nth vs 0))))
    (λ i. Answers (item_or Unspecified (slice_get (items_of (content_at s (nth vs 0))) i)))
    (λ n within. item_held (content_at s (nth vs 0)) n (first_fits s AVector (AnInteger ∷ []) vs fit) within)
gives env s ch op.StringSet vs fit =
    let c = content_at s (nth vs 0) in
    let set : ℕ → Outcome = λ i. Changes (number_of (nth vs 0)) (String (slice_set (chars_of c) i (byte_of (nth vs 2)))) in
    writes_give (met_by s ch vs) (is_literal s (nth vs 0)) (as_index (integer_of (nth vs 1)) (length (chars_of c)) set)
    (index_gives (met_by s ch vs) Nothing (integer_of (nth vs 1)) (length (chars_of c)) set
    (λ n within. numbered s (nth vs 0) is_string refl (first_fits s AString (AnInteger ∷ ACharacter ∷ []) vs fit)))
gives env s ch op.VectorSet vs fit =
    let c = content_at s (nth vs 0) in
    let set : ℕ → Outcome = λ i. Changes (number_of (nth vs 0)) (Vector (slice_set (items_of c) i (nth vs 2))) in
    writes_give (met_by s ch vs) (is_literal s (nth vs 0)) (as_index (integer_of (nth vs 1)) (length (items_of c)) set)
    (index_gives (met_by s ch vs) Nothing (integer_of (nth vs 1)) (length (items_of c)) set
    (λ n within. numbered s (nth vs 0) is_vector refl (first_fits s AVector (AnInteger ∷ Any ∷ []) vs fit)))
gives env s ch op.ReadChar vs fit = input_gives (met_by s ch vs) false env ch.ahead
gives env s ch op.PeekChar vs fit = input_gives (met_by s ch vs) true env ch.ahead
gives env s ch op.WriteChar vs fit = written_gives (met_by s ch vs) (record { calls = after_write env (byte_of (nth vs 0)) ch.calls; ahead = ch.ahead })
    (next_fails env ch.calls) (write_event (next_fails env ch.calls) (byte_of (nth vs 0))) refl
gives env s ch op.Apply vs fit = applied_gives (met_by s ch vs) (is_procedure s (nth vs 0)) (items_at s (nth vs 1)) refl
gives env s ch op.CallCC vs fit = captured_gives (met_by s ch vs) (is_procedure s (nth vs 0))

pub decides : (env : Env) (s : Sight) (ch : Channels) (o : Op) (vs : List Value) → Decides env s ch o vs
decides env s ch o vs =
    let outcome = act env s ch o (content_at s (nth vs 0)) (nth vs 0) (nth vs 1) (nth vs 2) in
    record {
      refused = λ h. ap (λ b. checked b outcome) h;
      given = λ h.
          subst (λ b. Gives (met_by s ch vs) (result_of o) (checked b outcome)) (sym h) (gives env s ch o vs h);
    }

-- What an operation reads

content_alike : (s t : Sight) (v : Value) → seen_at s v ≡ seen_at t v → content_at s v ≡ content_at t v
content_alike s t (Object n) e = ap held e
content_alike s t v e = refl

procedure_alike : (s t : Sight) (v : Value) → seen_at s v ≡ seen_at t v → is_procedure s v ≡ is_procedure t v
procedure_alike s t (Object n) e = ap called e
procedure_alike s t v e = refl

literal_alike : (s t : Sight) (v : Value) → seen_at s v ≡ seen_at t v → is_literal s v ≡ is_literal t v
literal_alike s t (Object n) e = ap is_constant e
literal_alike s t v e = refl

fits_alike : (s t : Sight) (k : Kind) (v : Value) → seen_at s v ≡ seen_at t v → fits s k v ≡ fits t k v
fits_alike s t APair v e = ap is_pair (content_alike s t v e)
fits_alike s t AString v e = ap is_string (content_alike s t v e)
fits_alike s t AVector v e = ap is_vector (content_alike s t v e)
fits_alike s t ASymbol v e = ap is_symbol (content_alike s t v e)
fits_alike s t k v e = refl

all_alike : (s t : Sight) (ks : List Kind) (vs : List Value) → Alike s t vs → all_fit s ks vs ≡ all_fit t ks vs
all_alike s t [] [] a = refl
all_alike s t [] (v ∷ vs) a = refl
all_alike s t (k ∷ ks) [] a = refl
all_alike s t (k ∷ ks) (v ∷ vs) a =
    ap (λ b. b && all_fit s ks vs) (fits_alike s t k v a.0) ∙ ap (λ b. fits t k v && b) (all_alike s t ks vs a.1)

first_alike : (s t : Sight) (vs : List Value) → Alike s t vs → seen_at s (nth vs 0) ≡ seen_at t (nth vs 0)
first_alike s t [] a = refl
first_alike s t (v ∷ vs) a = a.0

act_alike : (env : Env) (s t : Sight) (ch : Channels) (o : Op) (c : Content) (v w x : Value)
    → is_procedure s v ≡ is_procedure t v → is_literal s v ≡ is_literal t v → (o ≡ op.Apply → items_at s w ≡ items_at t w)
    → act env s ch o c v w x ≡ act env t ch o c v w x
act_alike env s t ch op.IsProcedure c v w x p l i = ap (λ b. Answers (truth b)) p
act_alike env s t ch op.SetCar c v w x p l i = ap (λ b. written_to b (Changes (number_of v) (Pair w (cdr_of c)))) l
act_alike env s t ch op.SetCdr c v w x p l i = ap (λ b. written_to b (Changes (number_of v) (Pair (car_of c) w))) l
act_alike env s t ch op.StringSet c v w x p l i =
    let set : ℕ → Outcome = λ n. Changes (number_of v) (String (slice_set (chars_of c) n (byte_of x))) in
    ap (λ b. written_to b (as_index (integer_of w) (length (chars_of c)) set)) l
act_alike env s t ch op.VectorSet c v w x p l i =
    let set : ℕ → Outcome = λ n. Changes (number_of v) (Vector (slice_set (items_of c) n x)) in
    ap (λ b. written_to b (as_index (integer_of w) (length (items_of c)) set)) l
act_alike env s t ch op.Apply c v w x p l i =
    ap (λ b. applied b v (items_at s w)) p ∙ ap (applied (is_procedure t v) v) (i refl)
act_alike env s t ch op.CallCC c v w x p l i = ap (λ b. captured b v) p
act_alike env s t ch o c v w x p l i = refl

pub reads_operands : (env : Env) (s t : Sight) (ch : Channels) (o : Op) (vs : List Value) → ReadsOperands env s t ch o vs
reads_operands env s t ch o vs alike items =
    let v = nth vs 0 in
    let w = nth vs 1 in
    let x = nth vs 2 in
    let first = first_alike s t vs alike in
    ap (λ b. checked b (act env s ch o (content_at s v) v w x)) (all_alike s t (operands_of o) vs alike)
    ∙ ap (checked (all_fit t (operands_of o) vs))
    (ap (λ c. act env s ch o c v w x) (content_alike s t v first)
    ∙ act_alike env s t ch o (content_at t v) v w x (procedure_alike s t v first) (literal_alike s t v first) items)

-- What passes on the channels

none_grow : (met : Met) (r : Result) (x : Outcome) → Gives met r x → CallsOnce met.channels (channels_after met.channels x)
none_grow met Nothing (Passes v after) h = h.1
none_grow met FromInput (Passes v after) h = h.1
none_grow met Nothing (Breaks after) h = h
none_grow met FromInput (Breaks after) h = h
none_grow met Truths (Passes v after) h = absurd h
none_grow met Numbers (Passes v after) h = absurd h
none_grow met Characters (Passes v after) h = absurd h
none_grow met Made (Passes v after) h = absurd h
none_grow met Held (Passes v after) h = absurd h
none_grow met Called (Passes v after) h = absurd h
none_grow met Truths (Breaks after) h = absurd h
none_grow met Numbers (Breaks after) h = absurd h
none_grow met Characters (Breaks after) h = absurd h
none_grow met Made (Breaks after) h = absurd h
none_grow met Held (Breaks after) h = absurd h
none_grow met Called (Breaks after) h = absurd h
none_grow met r x h = inl refl

-- an operation makes one call at most
pub calls_once : (env : Env) (s : Sight) (ch : Channels) (o : Op) (vs : List Value)
    → CallsOnce ch (channels_after ch (operate env s ch o vs))
calls_once env s ch o vs = by_fit (all_fit s (operands_of o) vs) refl where
  by_fit : (fit : Bool) → all_fit s (operands_of o) vs ≡ fit
      → CallsOnce ch
      (channels_after ch (checked fit (act env s ch o (content_at s (nth vs 0)) (nth vs 0) (nth vs 1) (nth vs 2))))
  by_fit true h =
      none_grow (met_by s ch vs) (result_of o)
      (act env s ch o (content_at s (nth vs 0)) (nth vs 0) (nth vs 1) (nth vs 2))
      (gives env s ch o vs h)
  by_fit false h = inl refl
