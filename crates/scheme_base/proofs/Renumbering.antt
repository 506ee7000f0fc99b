-- An operation does the same under another numbering of objects, operation by operation.
use Rattle.std.proofs.Common.{◌≡◌, ℕ, zero, suc, Bool, true, false, List, [], ◌∷◌, length, Option, Some, None, refl, sym, ap, subst, ◌∙◌}
use Rattle.std.specs.Prelude.{ℤ, pos, negsuc, ◌+ℤ◌, ◌-ℤ◌, ◌*ℤ◌, int_lt, int_div, int_rem, nat_lt, ◌&&◌, if◌then◌else◌, replicate, slice_get, slice_set, map}
use Rattle.std.specs.Option.{option_map}
use Rattle.std.specs.Ordering.{int_eq}
use Rattle.std.proofs.lemmas.List.{length-map, map-set}
use Rattle.std.proofs.lemmas.Option.{none-some, slice_get-map}
use Rattle.scheme_base.specs.declared.env.Env.{Env}
use Rattle.scheme_base.specs.declared.op.Op.{Op}
use Rattle.scheme_base.specs.declared.op.Op.TheVariants as op
use Rattle.scheme_base.specs.declared.error.ErrKind.TheVariants as kind
use Rattle.scheme_base.specs.Outside.{Event, ReadByte, ReadEnd, Calls, next_fails, read_event, after_read, after_write}
use Rattle.scheme_base.specs.Values.{Value, Integer, Character, Unspecified, Object, ByRun, OfLiteral, NameOfLiteral, Content, Pair, String, Vector, Symbol, Blank, truth, renumber, renumber_content}
use Rattle.scheme_base.specs.Integers.{in_range}
use Rattle.scheme_base.specs.Operands.{Kind, Any, AnInteger, ACharacter, APair, AString, AVector, ASymbol, operands_of}
use Rattle.scheme_base.specs.Operations.{Seen, Holds, IsProcedure, Nowhere, Sight, Channels, Outcome, Answers, Makes, Changes, Fails, held, called, is_constant, content_at, is_procedure, is_literal, is_integer, is_character, is_boolean, is_nil, is_eof, is_pair, is_string, is_vector, is_symbol, fits, all_fit, integer_of, byte_of, number_of, car_of, cdr_of, chars_of, items_of, symbol_name, same, whole, by, modulo_of, to_output, character, as_length, as_index, item_or, written_to, Link, Ended, Further, Broken, link_of, link_at, items_at, applied, captured, from_event, from_input, output_after, act, checked, nth}
use Rattle.scheme_base.specs.Laws.{IsList, Ends, renumber_seen, renumber_outcome, Renumbers, Commutes}
use Rattle.scheme_base.proofs.ListsFound.{items_are_list}
use Rattle.scheme_base.proofs.OperationLaws.{first_fits, numbered}

-- What is seen

held_same : (φ : ℕ → ℕ) (seen : Seen) → held (renumber_seen φ seen) ≡ renumber_content φ (held seen)
held_same φ (Holds o c) = refl
held_same φ IsProcedure = refl
held_same φ Nowhere = refl

called_same : (φ : ℕ → ℕ) (seen : Seen) → called (renumber_seen φ seen) ≡ called seen
called_same φ (Holds o c) = refl
called_same φ IsProcedure = refl
called_same φ Nowhere = refl

constant_same : (φ : ℕ → ℕ) (seen : Seen) → is_constant (renumber_seen φ seen) ≡ is_constant seen
constant_same φ (Holds ByRun c) = refl
constant_same φ (Holds OfLiteral c) = refl
constant_same φ (Holds NameOfLiteral c) = refl
constant_same φ IsProcedure = refl
constant_same φ Nowhere = refl

-- at each number of the first sight the second shows the same
abbrev Shown : (ℕ → ℕ) → Sight → Sight → Type 0
Shown φ s t = (n : ℕ) → t.at (φ n) ≡ renumber_seen φ (s.at n)

content_same : (φ : ℕ → ℕ) (s t : Sight) → Shown φ s t → (v : Value) → content_at t (renumber φ v) ≡ renumber_content φ (content_at s v)
content_same φ s t h (Object n) = ap held (h n) ∙ held_same φ (s.at n)
content_same φ s t h v = refl

procedure_same : (φ : ℕ → ℕ) (s t : Sight) → Shown φ s t → (v : Value) → is_procedure t (renumber φ v) ≡ is_procedure s v
procedure_same φ s t h (Object n) = ap called (h n) ∙ called_same φ (s.at n)
procedure_same φ s t h v = refl

literal_same : (φ : ℕ → ℕ) (s t : Sight) → Shown φ s t → (v : Value) → is_literal t (renumber φ v) ≡ is_literal s v
literal_same φ s t h (Object n) = ap is_constant (h n) ∙ constant_same φ (s.at n)
literal_same φ s t h v = refl

-- Values and contents

integer_same : (φ : ℕ → ℕ) (v : Value) → is_integer (renumber φ v) ≡ is_integer v
integer_same φ (Object n) = refl
integer_same φ v = refl

character_kind_same : (φ : ℕ → ℕ) (v : Value) → is_character (renumber φ v) ≡ is_character v
character_kind_same φ (Object n) = refl
character_kind_same φ v = refl

boolean_same : (φ : ℕ → ℕ) (v : Value) → is_boolean (renumber φ v) ≡ is_boolean v
boolean_same φ (Object n) = refl
boolean_same φ v = refl

nil_same : (φ : ℕ → ℕ) (v : Value) → is_nil (renumber φ v) ≡ is_nil v
nil_same φ (Object n) = refl
nil_same φ v = refl

eof_same : (φ : ℕ → ℕ) (v : Value) → is_eof (renumber φ v) ≡ is_eof v
eof_same φ (Object n) = refl
eof_same φ v = refl

integer_of_same : (φ : ℕ → ℕ) (v : Value) → integer_of (renumber φ v) ≡ integer_of v
integer_of_same φ (Object n) = refl
integer_of_same φ v = refl

byte_of_same : (φ : ℕ → ℕ) (v : Value) → byte_of (renumber φ v) ≡ byte_of v
byte_of_same φ (Object n) = refl
byte_of_same φ v = refl

pair_same : (φ : ℕ → ℕ) (c : Content) → is_pair (renumber_content φ c) ≡ is_pair c
pair_same φ (Pair a d) = refl
pair_same φ c = refl

string_same : (φ : ℕ → ℕ) (c : Content) → is_string (renumber_content φ c) ≡ is_string c
string_same φ (String chars) = refl
string_same φ c = refl

vector_same : (φ : ℕ → ℕ) (c : Content) → is_vector (renumber_content φ c) ≡ is_vector c
vector_same φ (Vector items) = refl
vector_same φ c = refl

symbol_same : (φ : ℕ → ℕ) (c : Content) → is_symbol (renumber_content φ c) ≡ is_symbol c
symbol_same φ (Symbol name) = refl
symbol_same φ c = refl

car_same : (φ : ℕ → ℕ) (c : Content) → car_of (renumber_content φ c) ≡ renumber φ (car_of c)
car_same φ (Pair a d) = refl
car_same φ c = refl

cdr_same : (φ : ℕ → ℕ) (c : Content) → cdr_of (renumber_content φ c) ≡ renumber φ (cdr_of c)
cdr_same φ (Pair a d) = refl
cdr_same φ c = refl

chars_same : (φ : ℕ → ℕ) (c : Content) → chars_of (renumber_content φ c) ≡ chars_of c
chars_same φ (String chars) = refl
chars_same φ c = refl

items_same : (φ : ℕ → ℕ) (c : Content) → items_of (renumber_content φ c) ≡ map (renumber φ) (items_of c)
items_same φ (Vector items) = refl
items_same φ c = refl

name_same : (φ : ℕ → ℕ) (c : Content) → symbol_name (renumber_content φ c) ≡ renumber φ (symbol_name c)
name_same φ (Symbol name) = refl
name_same φ c = refl

item_same : (φ : ℕ → ℕ) (vs : List Value) (n : ℕ)
    → item_or Unspecified (slice_get (map (renumber φ) vs) n) ≡ renumber φ (item_or Unspecified (slice_get vs n))
item_same φ vs n =
    ap (item_or Unspecified) (slice_get-map (renumber φ) vs n) ∙ option_same (slice_get vs n)
  where
    option_same : (o : Option Value) → item_or Unspecified (option_map (renumber φ) o) ≡ renumber φ (item_or Unspecified o)
    option_same None = refl
    option_same (Some v) = refl

replicate_same : (φ : ℕ → ℕ) (n : ℕ) (v : Value) → replicate n (renumber φ v) ≡ map (renumber φ) (replicate n v)
replicate_same φ zero v = refl
replicate_same φ (suc n) v = ap (λ vs. renumber φ v ∷ vs) (replicate_same φ n v)

-- Kinds

fits_same : (φ : ℕ → ℕ) (s t : Sight) → Shown φ s t → (k : Kind) (v : Value) → fits t k (renumber φ v) ≡ fits s k v
fits_same φ s t h Any v = refl
fits_same φ s t h AnInteger v = integer_same φ v
fits_same φ s t h ACharacter v = character_kind_same φ v
fits_same φ s t h APair v = ap is_pair (content_same φ s t h v) ∙ pair_same φ (content_at s v)
fits_same φ s t h AString v = ap is_string (content_same φ s t h v) ∙ string_same φ (content_at s v)
fits_same φ s t h AVector v = ap is_vector (content_same φ s t h v) ∙ vector_same φ (content_at s v)
fits_same φ s t h ASymbol v = ap is_symbol (content_same φ s t h v) ∙ symbol_same φ (content_at s v)

all_fit_same : (φ : ℕ → ℕ) (s t : Sight) → Shown φ s t → (ks : List Kind) (vs : List Value)
    → all_fit t ks (map (renumber φ) vs) ≡ all_fit s ks vs
all_fit_same φ s t h [] [] = refl
all_fit_same φ s t h [] (v ∷ vs) = refl
all_fit_same φ s t h (k ∷ ks) [] = refl
all_fit_same φ s t h (k ∷ ks) (v ∷ vs) =
    ap (λ b. b && all_fit t ks (map (renumber φ) vs)) (fits_same φ s t h k v)
    ∙ ap (λ b. fits s k v && b) (all_fit_same φ s t h ks vs)

-- Lists of operands

link_same : (φ : ℕ → ℕ) → Link → Link
link_same φ Ended = Ended
link_same φ (Further a d) = Further (renumber φ a) (renumber φ d)
link_same φ Broken = Broken

link_of_same : (φ : ℕ → ℕ) (c : Content) → link_of (renumber_content φ c) ≡ link_same φ (link_of c)
unfolding link_same
link_of_same φ (Pair a d) = refl
link_of_same φ c = refl

link_at_same : (φ : ℕ → ℕ) (s t : Sight) → Shown φ s t → (v : Value) → link_at t (renumber φ v) ≡ link_same φ (link_at s v)
unfolding link_same
link_at_same φ s t h (Object n) = ap link_of (content_same φ s t h (Object n)) ∙ link_of_same φ (held (s.at n))
link_at_same φ s t h v = refl

list_same : (φ : ℕ → ℕ) (s t : Sight) → Shown φ s t → (v : Value) (vs : List Value) → IsList s v vs
    → IsList t (renumber φ v) (map (renumber φ) vs)
unfolding link_same
list_same φ s t h v [] k = link_at_same φ s t h v ∙ ap (link_same φ) k
list_same φ s t h v (a ∷ vs) k =
    (renumber φ k.0, link_at_same φ s t h v ∙ ap (link_same φ) k.1, list_same φ s t h k.0 vs k.2)

-- a list of the second sight is one of the first

ended_of : (φ : ℕ → ℕ) (l : Link) → link_same φ l ≡ Ended → l ≡ Ended
unfolding link_same
ended_of φ Ended e = refl
ended_of φ (Further a d) e = cc
ended_of φ Broken e = cc

record Continues (φ : ℕ → ℕ) (l : Link) (a d : Value) : Type 0 where
  car : Value
  cdr : Value
  is : l ≡ Further car cdr
  same_cdr : d ≡ renumber φ cdr

further_of : (φ : ℕ → ℕ) (l : Link) (a d : Value) → link_same φ l ≡ Further a d → Continues φ l a d
unfolding link_same
further_of φ Ended a d e = cc
further_of φ (Further b c) a d e = let rest : d ≡ renumber φ c = cc in record { car = b; cdr = c; is = refl; same_cdr = rest }
further_of φ Broken a d e = cc

list_back : (φ : ℕ → ℕ) (s t : Sight) → Shown φ s t → (v : Value) (us : List Value) → IsList t (renumber φ v) us
    → (vs : List Value) × IsList s v vs
list_back φ s t h v [] k = ([], ended_of φ (link_at s v) (sym (link_at_same φ s t h v) ∙ k))
list_back φ s t h v (u ∷ us) k =
    let on = further_of φ (link_at s v) u k.0 (sym (link_at_same φ s t h v) ∙ k.1) in
    let more = list_back φ s t h on.cdr us (subst (λ w. IsList t w us) on.same_cdr k.2) in
    (on.car ∷ more.0, (on.cdr, on.is, more.1))

items_at_same : (φ : ℕ → ℕ) (s t : Sight) → Shown φ s t → Ends s → Ends t → (v : Value)
    → items_at t (renumber φ v) ≡ option_map (map (renumber φ)) (items_at s v)
items_at_same φ s t h ends other_ends v = by (items_at s v) refl (items_at t (renumber φ v)) refl where
  by : (o : Option (List Value)) → items_at s v ≡ o → (q : Option (List Value)) → items_at t (renumber φ v) ≡ q
      → q ≡ option_map (map (renumber φ)) o
  by (Some vs) e q f =
      sym f
      ∙ (items_are_list t (renumber φ v) (map (renumber φ) vs) other_ends).1
      (list_same φ s t h v vs ((items_are_list s v vs ends).0 e))
  by None e None f = refl
  by None e (Some us) f =
      let back = list_back φ s t h v us ((items_are_list t (renumber φ v) us other_ends).0 f) in
      absurd (none-some back.0 (sym e ∙ (items_are_list s v back.0 ends).1 back.1))

-- Outcomes

if_same : (φ : ℕ → ℕ) (b : Bool) (x y z w : Outcome) → x ≡ renumber_outcome φ z → y ≡ renumber_outcome φ w
    → (if b then x else y) ≡ renumber_outcome φ (if b then z else w)
if_same φ true x y z w h k = h
if_same φ false x y z w h k = k

truth_same : (φ : ℕ → ℕ) (b c : Bool) → c ≡ b → Answers (truth c) ≡ renumber_outcome φ (Answers (truth b))
truth_same φ b c e = ap (λ a. Answers (truth a)) e ∙ by b where
  by : (b : Bool) → Answers (truth b) ≡ renumber_outcome φ (Answers (truth b))
  by true = refl
  by false = refl

whole_same : (φ : ℕ → ℕ) (z : ℤ) → whole z ≡ renumber_outcome φ (whole z)
whole_same φ z = if_same φ (in_range z) _ _ (Answers (Integer z)) (Fails kind.Overflow) refl refl

by_same : (φ : ℕ → ℕ) (d : ℤ) (x : Outcome) → x ≡ renumber_outcome φ x → by d x ≡ renumber_outcome φ (by d x)
by_same φ d x h = if_same φ (int_eq d (pos 0)) _ _ (Fails kind.ZeroDivisor) x refl h

character_same : (φ : ℕ → ℕ) (z : ℤ) → character z ≡ renumber_outcome φ (character z)
character_same φ (pos n) = if_same φ (nat_lt n 256) _ _ (Answers (Character n)) (Fails kind.Index) refl refl
character_same φ (negsuc n) = refl

length_same : (φ : ℕ → ℕ) (z : ℤ) (made other : ℕ → Content) → ((n : ℕ) → other n ≡ renumber_content φ (made n))
    → as_length z other ≡ renumber_outcome φ (as_length z made)
length_same φ (pos n) made other h = ap Makes (h n)
length_same φ (negsuc n) made other h = refl

index_same : (φ : ℕ → ℕ) (z : ℤ) (long : ℕ) (f g : ℕ → Outcome) → ((n : ℕ) → g n ≡ renumber_outcome φ (f n))
    → as_index z long g ≡ renumber_outcome φ (as_index z long f)
index_same φ (pos n) long f g h = if_same φ (nat_lt n long) (g n) _ (f n) (Fails kind.Index) (h n) refl
index_same φ (negsuc n) long f g h = refl

write_same : (φ : ℕ → ℕ) (literal : Bool) (x y : Outcome) → y ≡ renumber_outcome φ x
    → written_to literal y ≡ renumber_outcome φ (written_to literal x)
write_same φ true x y h = refl
write_same φ false x y h = h

event_same : (φ : ℕ → ℕ) (peeks : Bool) (calls : Calls) (e : Event)
    → from_event peeks calls e ≡ renumber_outcome φ (from_event peeks calls e)
event_same φ peeks calls (ReadByte byte) = refl
event_same φ peeks calls ReadEnd = refl
event_same φ peeks calls e = refl

input_same : (φ : ℕ → ℕ) (peeks : Bool) (env : Env) (calls : Calls) (ahead : Option ℕ)
    → from_input peeks env calls ahead ≡ renumber_outcome φ (from_input peeks env calls ahead)
input_same φ peeks env calls (Some byte) = refl
input_same φ peeks env calls None =
    event_same φ peeks (after_read env calls) (read_event (next_fails env calls) calls.input)

output_same : (φ : ℕ → ℕ) (after : Channels) (failed : Bool)
    → output_after after failed ≡ renumber_outcome φ (output_after after failed)
output_same φ after true = refl
output_same φ after false = refl

applied_same : (φ : ℕ → ℕ) (procedure : Bool) (f : Value) (items : Option (List Value))
    → applied procedure (renumber φ f) (option_map (map (renumber φ)) items) ≡ renumber_outcome φ (applied procedure f items)
applied_same φ false f items = refl
applied_same φ true f None = refl
applied_same φ true f (Some vs) = refl

captured_same : (φ : ℕ → ℕ) (procedure : Bool) (f : Value)
    → captured procedure (renumber φ f) ≡ renumber_outcome φ (captured procedure f)
captured_same φ false f = refl
captured_same φ true f = refl

integers_same : (φ : ℕ → ℕ) (v w : Value) (f : ℤ → ℤ → Outcome) → ((y z : ℤ) → f y z ≡ renumber_outcome φ (f y z))
    → f (integer_of (renumber φ v)) (integer_of (renumber φ w)) ≡ renumber_outcome φ (f (integer_of v) (integer_of w))
integers_same φ v w f h =
    ap (λ y. f y (integer_of (renumber φ w))) (integer_of_same φ v)
    ∙ (ap (f (integer_of v)) (integer_of_same φ w) ∙ h (integer_of v) (integer_of w))

long_same : (φ : ℕ → ℕ) (c : Content) → length (items_of (renumber_content φ c)) ≡ length (items_of c)
long_same φ c = ap length (items_same φ c) ∙ length-map (items_of c) (renumber φ)

-- Operations

-- what an operation asks of its operands and of the first one's object
record Meets (φ : ℕ → ℕ) (s t : Sight) (o : Op) (c : Content) (v w : Value) : Type 0 where
  procedure : is_procedure t (renumber φ v) ≡ is_procedure s v
  literal : is_literal t (renumber φ v) ≡ is_literal s v
  number : (is : Content → Bool) → is Blank ≡ false → is c ≡ true → number_of (renumber φ v) ≡ φ (number_of v)
  items : items_at t (renumber φ w) ≡ option_map (map (renumber φ)) (items_at s w)
  alike : o ≡ op.Eqv → same (renumber φ v) (renumber φ w) ≡ same v w

-- whether the first operand has its kind
abbrev first_is : Op → Content → Bool
first_is op.SetCar c = is_pair c
first_is op.SetCdr c = is_pair c
first_is op.StringSet c = is_string c
first_is op.VectorSet c = is_vector c
first_is o c = true

set_same : (φ : ℕ → ℕ) (literal other : Bool) (n m : ℕ) (c d : Content) → other ≡ literal → m ≡ φ n
    → d ≡ renumber_content φ c → written_to other (Changes m d) ≡ renumber_outcome φ (written_to literal (Changes n c))
set_same φ literal other n m c d e f g =
    ap (λ b. written_to b (Changes m d)) e ∙ write_same φ literal (Changes n c) (Changes m d) (ap (λ k. Changes k d) f ∙ ap (Changes (φ n)) g)

act_same : (φ : ℕ → ℕ) (s t : Sight) (env : Env) (ch : Channels) (o : Op) (c : Content) (v w x : Value)
    → Meets φ s t o c v w → first_is o c ≡ true
    → act env t ch o (renumber_content φ c) (renumber φ v) (renumber φ w) (renumber φ x)
    ≡ renumber_outcome φ (act env s ch o c v w x)
act_same φ s t env ch op.Eqv c v w x m fit = truth_same φ _ _ (m.alike refl)
act_same φ s t env ch op.IsPair c v w x m fit = truth_same φ _ _ (pair_same φ c)
act_same φ s t env ch op.IsSymbol c v w x m fit = truth_same φ _ _ (symbol_same φ c)
act_same φ s t env ch op.IsString c v w x m fit = truth_same φ _ _ (string_same φ c)
act_same φ s t env ch op.IsVector c v w x m fit = truth_same φ _ _ (vector_same φ c)
act_same φ s t env ch op.IsProcedure c v w x m fit = truth_same φ _ _ m.procedure
act_same φ s t env ch op.IsInteger c v w x m fit = truth_same φ _ _ (integer_same φ v)
act_same φ s t env ch op.IsChar c v w x m fit = truth_same φ _ _ (character_kind_same φ v)
act_same φ s t env ch op.IsBoolean c v w x m fit = truth_same φ _ _ (boolean_same φ v)
act_same φ s t env ch op.IsNull c v w x m fit = truth_same φ _ _ (nil_same φ v)
act_same φ s t env ch op.IsEof c v w x m fit = truth_same φ _ _ (eof_same φ v)
act_same φ s t env ch op.Cons c v w x m fit = refl
act_same φ s t env ch op.Car c v w x m fit = ap Answers (car_same φ c)
act_same φ s t env ch op.Cdr c v w x m fit = ap Answers (cdr_same φ c)
act_same φ s t env ch op.SetCar c v w x m fit =
    set_same φ (is_literal s v) _ (number_of v) _ (Pair w (cdr_of c)) _ m.literal (m.number is_pair refl fit)
    (ap (Pair (renumber φ w)) (cdr_same φ c))
act_same φ s t env ch op.SetCdr c v w x m fit =
    set_same φ (is_literal s v) _ (number_of v) _ (Pair (car_of c) w) _ m.literal (m.number is_pair refl fit)
    (ap (λ a. Pair a (renumber φ w)) (car_same φ c))
act_same φ s t env ch op.Add c v w x m fit = integers_same φ v w (λ y z. whole (y +ℤ z)) (λ y z. whole_same φ (y +ℤ z))
act_same φ s t env ch op.Subtract c v w x m fit = integers_same φ v w (λ y z. whole (y -ℤ z)) (λ y z. whole_same φ (y -ℤ z))
act_same φ s t env ch op.Multiply c v w x m fit = integers_same φ v w (λ y z. whole (y *ℤ z)) (λ y z. whole_same φ (y *ℤ z))
act_same φ s t env ch op.Quotient c v w x m fit =
    integers_same φ v w (λ y z. by z (whole (int_div y z)))
    (λ y z. by_same φ z (whole (int_div y z)) (whole_same φ (int_div y z)))
act_same φ s t env ch op.Remainder c v w x m fit =
    integers_same φ v w (λ y z. by z (Answers (Integer (int_rem y z))))
    (λ y z. by_same φ z (Answers (Integer (int_rem y z))) refl)
act_same φ s t env ch op.Modulo c v w x m fit =
    integers_same φ v w (λ y z. by z (Answers (Integer (modulo_of (int_rem y z) z))))
    (λ y z. by_same φ z (Answers (Integer (modulo_of (int_rem y z) z))) refl)
act_same φ s t env ch op.Equals c v w x m fit =
    integers_same φ v w (λ y z. Answers (truth (int_eq y z))) (λ y z. truth_same φ (int_eq y z) _ refl)
act_same φ s t env ch op.Less c v w x m fit =
    integers_same φ v w (λ y z. Answers (truth (int_lt y z))) (λ y z. truth_same φ (int_lt y z) _ refl)
act_same φ s t env ch op.CharToInteger c v w x m fit = ap (λ b. Answers (Integer (pos b))) (byte_of_same φ v)
act_same φ s t env ch op.IntegerToChar c v w x m fit = ap character (integer_of_same φ v) ∙ character_same φ (integer_of v)
act_same φ s t env ch op.SymbolName c v w x m fit = ap Answers (name_same φ c)
act_same φ s t env ch op.MakeSymbol c v w x m fit = refl
act_same φ s t env ch op.MakeString c v w x m fit =
    ap (λ z. as_length z (λ n. String (replicate n (byte_of (renumber φ w))))) (integer_of_same φ v)
    ∙ length_same φ (integer_of v) (λ n. String (replicate n (byte_of w))) (λ n. String (replicate n (byte_of (renumber φ w))))
    (λ n. ap (λ b. String (replicate n b)) (byte_of_same φ w))
act_same φ s t env ch op.MakeVector c v w x m fit =
    ap (λ z. as_length z (λ n. Vector (replicate n (renumber φ w)))) (integer_of_same φ v)
    ∙ length_same φ (integer_of v) (λ n. Vector (replicate n w)) (λ n. Vector (replicate n (renumber φ w)))
    (λ n. ap Vector (replicate_same φ n w))
act_same φ s t env ch op.StringLength c v w x m fit = ap (λ chars. Answers (Integer (pos (length chars)))) (chars_same φ c)
act_same φ s t env ch op.VectorLength c v w x m fit = ap (λ n. Answers (Integer (pos n))) (long_same φ c)
act_same φ s t env ch op.StringRef c v w x m fit =
    let at : List ℕ → ℕ → Outcome = λ chars i. Answers (Character (item_or 0 (slice_get chars i))) in
    ap (λ chars. as_index (integer_of (renumber φ w)) (length chars) (at chars)) (chars_same φ c)
    ∙ (ap (λ z. as_index z (length (chars_of c)) (at (chars_of c))) (integer_of_same φ w)
    ∙ index_same φ (integer_of w) (length (chars_of c)) (at (chars_of c)) (at (chars_of c)) (λ n. refl))
act_same φ s t env ch op.VectorRef c v w x m fit =
    let at : List Value → ℕ → Outcome = λ items i. Answers (item_or Unspecified (slice_get items i)) in
    ap (λ items. as_index (integer_of (renumber φ w)) (length items) (at items)) (items_same φ c)
    ∙ (ap (λ n. as_index (integer_of (renumber φ w)) n (at (map (renumber φ) (items_of c)))) (length-map (items_of c) (renumber φ))
    ∙ (ap (λ z. as_index z (length (items_of c)) (at (map (renumber φ) (items_of c)))) (integer_of_same φ w)
    ∙ index_same φ (integer_of w) (length (items_of c)) (at (items_of c)) (at (map (renumber φ) (items_of c)))
    (λ n. ap Answers (item_same φ (items_of c) n))))
act_same φ s t env ch op.StringSet c v w x m fit =
    let at : ℕ → List ℕ → ℕ → ℕ → Outcome = λ n chars byte i. Changes n (String (slice_set chars i byte)) in
    ap (λ b. written_to b (as_index (integer_of (renumber φ w)) (length (chars_of (renumber_content φ c))) (at (number_of (renumber φ v)) (chars_of (renumber_content φ c)) (byte_of (renumber φ x))))) m.literal
    ∙ write_same φ (is_literal s v)
    (as_index (integer_of w) (length (chars_of c)) (at (number_of v) (chars_of c) (byte_of x)))
    (as_index (integer_of (renumber φ w)) (length (chars_of (renumber_content φ c))) (at (number_of (renumber φ v)) (chars_of (renumber_content φ c)) (byte_of (renumber φ x))))
    (ap (λ chars. as_index (integer_of (renumber φ w)) (length chars) (at (number_of (renumber φ v)) chars (byte_of (renumber φ x)))) (chars_same φ c)
    ∙ (ap (λ z. as_index z (length (chars_of c)) (at (number_of (renumber φ v)) (chars_of c) (byte_of (renumber φ x)))) (integer_of_same φ w)
    ∙ index_same φ (integer_of w) (length (chars_of c)) (at (number_of v) (chars_of c) (byte_of x)) (at (number_of (renumber φ v)) (chars_of c) (byte_of (renumber φ x)))
    (λ i. ap (λ n. at n (chars_of c) (byte_of (renumber φ x)) i) (m.number is_string refl fit)
    ∙ ap (λ b. at (φ (number_of v)) (chars_of c) b i) (byte_of_same φ x))))
act_same φ s t env ch op.VectorSet c v w x m fit =
    let at : ℕ → List Value → Value → ℕ → Outcome = λ n items u i. Changes n (Vector (slice_set items i u)) in
    let ours : List Value = map (renumber φ) (items_of c) in
    let number = number_of (renumber φ v) in
    ap (λ b. written_to b (as_index (integer_of (renumber φ w)) (length (items_of (renumber_content φ c))) (at number (items_of (renumber_content φ c)) (renumber φ x)))) m.literal
    ∙ write_same φ (is_literal s v)
    (as_index (integer_of w) (length (items_of c)) (at (number_of v) (items_of c) x))
    (as_index (integer_of (renumber φ w)) (length (items_of (renumber_content φ c))) (at number (items_of (renumber_content φ c)) (renumber φ x)))
    (ap (λ items. as_index (integer_of (renumber φ w)) (length items) (at number items (renumber φ x))) (items_same φ c)
    ∙ (ap (λ n. as_index (integer_of (renumber φ w)) n (at number ours (renumber φ x))) (length-map (items_of c) (renumber φ))
    ∙ (ap (λ z. as_index z (length (items_of c)) (at number ours (renumber φ x))) (integer_of_same φ w)
    ∙ index_same φ (integer_of w) (length (items_of c)) (at (number_of v) (items_of c) x) (at number ours (renumber φ x))
    (λ i. ap (λ n. at n ours (renumber φ x) i) (m.number is_vector refl fit)
    ∙ ap (λ items. Changes (φ (number_of v)) (Vector items)) (sym (map-set (renumber φ) (items_of c) i x))))))
act_same φ s t env ch op.ReadChar c v w x m fit = input_same φ false env ch.calls ch.ahead
act_same φ s t env ch op.PeekChar c v w x m fit = input_same φ true env ch.calls ch.ahead
act_same φ s t env ch op.WriteChar c v w x m fit =
    ap (to_output env ch) (byte_of_same φ v)
    ∙ output_same φ (record { calls = after_write env (byte_of v) ch.calls; ahead = ch.ahead }) (next_fails env ch.calls)
act_same φ s t env ch op.Apply c v w x m fit =
    ap (λ b. applied b (renumber φ v) (items_at t (renumber φ w))) m.procedure
    ∙ (ap (applied (is_procedure s v) (renumber φ v)) m.items ∙ applied_same φ (is_procedure s v) v (items_at s w))
act_same φ s t env ch op.CallCC c v w x m fit =
    ap (λ b. captured b (renumber φ v)) m.procedure ∙ captured_same φ (is_procedure s v) v

number_same : (φ : ℕ → ℕ) (s : Sight) (v : Value) (is : Content → Bool) → is Blank ≡ false → is (content_at s v) ≡ true
    → number_of (renumber φ v) ≡ φ (number_of v)
number_same φ s v is h k = ap (λ u. number_of (renumber φ u)) (numbered s v is h k)

first_kind : (s : Sight) (o : Op) (vs : List Value) → all_fit s (operands_of o) vs ≡ true → first_is o (content_at s (nth vs 0)) ≡ true
first_kind s op.SetCar vs h = first_fits s APair (Any ∷ []) vs h
first_kind s op.SetCdr vs h = first_fits s APair (Any ∷ []) vs h
first_kind s op.StringSet vs h = first_fits s AString (AnInteger ∷ ACharacter ∷ []) vs h
first_kind s op.VectorSet vs h = first_fits s AVector (AnInteger ∷ Any ∷ []) vs h
first_kind s o vs h = refl

meets : (φ : ℕ → ℕ) (s t : Sight) (o : Op) (vs : List Value) → Renumbers φ s t o vs
    → Meets φ s t o (content_at s (nth vs 0)) (nth vs 0) (nth vs 1)
meets φ s t o vs h =
    record {
      procedure = procedure_same φ s t h.shown (nth vs 0);
      literal = literal_same φ s t h.shown (nth vs 0);
      number = number_same φ s (nth vs 0);
      items = items_at_same φ s t h.shown h.ends h.other_ends (nth vs 1);
      alike = h.alike;
    }

pub commutes : (env : Env) (φ : ℕ → ℕ) (s t : Sight) (ch : Channels) (o : Op) (vs : List Value) → Commutes env φ s t ch o vs
commutes env φ s t ch o vs h =
    ap (λ b. checked b (act env t ch o (content_at t (nth us 0)) (nth us 0) (nth us 1) (nth us 2))) (all_fit_same φ s t h.shown (operands_of o) vs)
    ∙ by_fit (all_fit s (operands_of o) vs) refl
  where
    us : List Value
    us = map (renumber φ) vs

    first : Content
    first = content_at s (nth vs 0)

    by_fit : (fit : Bool) → all_fit s (operands_of o) vs ≡ fit
        → checked fit (act env t ch o (content_at t (nth us 0)) (nth us 0) (nth us 1) (nth us 2))
        ≡ renumber_outcome φ (checked fit (act env s ch o first (nth vs 0) (nth vs 1) (nth vs 2)))
    by_fit false fit = refl
    by_fit true fit =
        ap (λ v. act env t ch o (content_at t v) v (nth us 1) (nth us 2)) (item_same φ vs 0)
        ∙ (ap (λ w. act env t ch o (content_at t (renumber φ (nth vs 0))) (renumber φ (nth vs 0)) w (nth us 2)) (item_same φ vs 1)
        ∙ (ap (λ x. act env t ch o (content_at t (renumber φ (nth vs 0))) (renumber φ (nth vs 0)) (renumber φ (nth vs 1)) x) (item_same φ vs 2)
        ∙ (ap (λ c. act env t ch o c (renumber φ (nth vs 0)) (renumber φ (nth vs 1)) (renumber φ (nth vs 2))) (content_same φ s t h.shown (nth vs 0))
        ∙ act_same φ s t env ch o first (nth vs 0) (nth vs 1) (nth vs 2) (meets φ s t o vs h) (first_kind s o vs fit))))
