-- What holds of all operations.
use Rattle.std.specs.Prelude.{ℕ, ◌+◌, ◌<◌, ◌≤◌, ℤ, pos, IsTrue, ◌≡◌, ◌⊎◌, List, [], ◌∷◌, length, map, slice_get, Option, Some, None, true, false}
use Rattle.std.specs.List.{AllByRecursion, Contains}
use Rattle.scheme_base.specs.declared.env.Env.{Env}
use Rattle.scheme_base.specs.declared.op.Op.{Op}
use Rattle.scheme_base.specs.declared.op.Op.TheVariants as op
use Rattle.scheme_base.specs.declared.error.ErrKind.TheVariants.{WrongType}
use Rattle.scheme_base.specs.Constants.{is_byte, are_bytes}
use Rattle.scheme_base.specs.Integers.{in_range}
use Rattle.scheme_base.specs.Runs.{GrowsByOne}
use Rattle.scheme_base.specs.Values.{Value, Integer, Character, False, True, Unspecified, Eof, Object, Content, Pair, String, Vector, Symbol, Blank, Box, renumber, renumber_content}
use Rattle.scheme_base.specs.Operands.{Result, Truths, Numbers, Characters, Made, Held, Nothing, FromInput, Called, operands_of, result_of}
use Rattle.scheme_base.specs.Operations.{Seen, Holds, IsProcedure, Nowhere, Sight, Channels, Outcome, Answers, Makes, Changes, Passes, Applies, Captures, Fails, Breaks, all_fit, content_at, link_at, Ended, Further, items_at, nth, same, operate, Store, entries_after}

-- what an object holds, as values
abbrev pub values_in : Content → List Value
values_in (Pair a d) = a ∷ d ∷ []
values_in (String chars) = []
values_in (Vector items) = items
values_in (Symbol name) = name ∷ []
values_in Blank = []

abbrev pub CallsOnce : (before after : Channels) → Type 0
CallsOnce before after = GrowsByOne before.calls.trace after.calls.trace

-- what an operation meets: the channels, its first operand and what the object of this holds, and what
-- its second operand is as a list
pub record Met : Type 0 where
  pub channels : Channels
  pub first : Value
  pub holds : Content
  pub items : Option (List Value)

-- On operands of its kinds an operation comes to an outcome of its result's kind, or fails for another
-- reason than types; `%apply` refuses what is no list. It changes no object but that of its first
-- operand, and makes one call at most.
abbrev pub Gives : Met → Result → Outcome → Type 0
Gives met Called (Fails WrongType) = (items : List Value) → met.items ≡ Some items → ⊥
Gives met r (Fails WrongType) = ⊥
Gives met r (Fails kind) = Unit {0}
Gives met Truths (Answers v) = (v ≡ False) ⊎ (v ≡ True)
Gives met Numbers (Answers v) = (z : ℤ) × (v ≡ Integer z)
Gives met Characters (Answers v) = (byte : ℕ) × (v ≡ Character byte)
Gives met Made (Makes content) = Unit {0}
Gives met Held (Answers v) = Contains (values_in met.holds) v
Gives met Nothing (Changes n content) = met.first ≡ Object n
Gives met Nothing (Passes v after) = (v ≡ Unspecified) × CallsOnce met.channels after
Gives met Nothing (Breaks after) = CallsOnce met.channels after
Gives met FromInput (Passes v after) =
    (((byte : ℕ) × (v ≡ Character byte)) ⊎ (v ≡ Eof)) × CallsOnce met.channels after
Gives met FromInput (Breaks after) = CallsOnce met.channels after
Gives met Called (Applies f vs) = f ≡ met.first
Gives met Called (Captures f) = f ≡ met.first
Gives met r outcome = ⊥

-- what an operation meets with these operands
abbrev pub met_by : Sight → Channels → List Value → Met
met_by s ch vs =
    record { channels = ch; first = nth vs 0; holds = content_at s (nth vs 0); items = items_at s (nth vs 1) }

-- An operation refuses its operands' types where one has not its kind, and else comes to what it gives.
pub record Decides (env : Env) (s : Sight) (ch : Channels) (o : Op) (vs : List Value) : Type 0 where
  pub refused : all_fit s (operands_of o) vs ≡ false → operate env s ch o vs ≡ Fails WrongType
  pub given : all_fit s (operands_of o) vs ≡ true → Gives (met_by s ch vs) (result_of o) (operate env s ch o vs)

-- what is seen at a value
abbrev pub seen_at : Sight → Value → Seen
seen_at s (Object n) = s.at n
seen_at s v = Nowhere

-- two sights are alike at these values
abbrev pub Alike : Sight → Sight → List Value → Type 0
Alike s t [] = Unit {0}
Alike s t (v ∷ vs) = (seen_at s v ≡ seen_at t v) × Alike s t vs

-- An operation reads only the objects of its operands, and `%apply` the pairs of its list.
abbrev pub ReadsOperands : Env → Sight → Sight → Channels → Op → List Value → Type 0
ReadsOperands env s t ch o vs =
    Alike s t vs → (o ≡ op.Apply → items_at s (nth vs 1) ≡ items_at t (nth vs 1))
    → operate env s ch o vs ≡ operate env t ch o vs

-- an outcome does not change the object of this number
abbrev pub Spares : ℕ → Outcome → Type 0
Spares n (Changes m c) = m ≡ n → ⊥
Spares n outcome = Unit {0}

-- A store takes one more entry at most, at the end, and keeps those that the outcome does not change.
pub record KeepsEntries {E : Type 0} (store : Store E) (es : List E) (outcome : Outcome) : Type 0 where
  pub longer : length es ≤ length (entries_after store es outcome)
  pub by_one : length (entries_after store es outcome) ≤ length es + 1
  pub others :
      (n : ℕ) → n < length es → Spares n outcome → slice_get (entries_after store es outcome) n ≡ slice_get es n

-- a value is the list of these items
abbrev pub IsList : Sight → Value → List Value → Type 0
IsList s v [] = link_at s v ≡ Ended
IsList s v (a ∷ vs) = (d : Value) × (link_at s v ≡ Further a d) × IsList s d vs

-- numbers past the last have no object
abbrev pub Ends : Sight → Type 0
Ends s = (n : ℕ) → s.size ≤ n → s.at n ≡ Nowhere

-- What an outcome holds

-- the values that an outcome gives, calls, or puts into an object
abbrev pub values_of : Outcome → List Value
values_of (Answers v) = v ∷ []
values_of (Makes c) = values_in c
values_of (Changes n c) = values_in c
values_of (Passes v channels) = v ∷ []
values_of (Applies f vs) = f ∷ vs
values_of (Captures f) = f ∷ []
values_of (Fails k) = []
values_of (Breaks channels) = []

-- a value that names nothing
abbrev pub IsPlain : Value → Type 0
IsPlain (Object n) = ⊥
IsPlain (Box n) = ⊥
IsPlain v = Unit {0}

-- where a value of an outcome comes from
pub data ComesFrom (s : Sight) (o : Op) (vs : List Value) (v : Value) : Type 0 where
  -- it names nothing
  plain : IsPlain v → ComesFrom s o vs v
  operand : Contains vs v → ComesFrom s o vs v
  -- the first operand's object holds it
  held : Contains (values_in (content_at s (nth vs 0))) v → ComesFrom s o vs v
  -- it is an item of the list that `%apply` takes
  listed :
      (items : List Value) → o ≡ op.Apply → items_at s (nth vs 1) ≡ Some items → Contains items v
      → ComesFrom s o vs v

abbrev pub HoldsWhatItMeets : Env → Sight → Channels → Op → List Value → Type 0
HoldsWhatItMeets env s ch o vs = AllByRecursion (ComesFrom s o vs) (values_of (operate env s ch o vs))

-- Another numbering of objects

abbrev pub renumber_seen : (ℕ → ℕ) → Seen → Seen
renumber_seen φ (Holds o c) = Holds o (renumber_content φ c)
renumber_seen φ IsProcedure = IsProcedure
renumber_seen φ Nowhere = Nowhere

abbrev pub renumber_outcome : (ℕ → ℕ) → Outcome → Outcome
renumber_outcome φ (Answers v) = Answers (renumber φ v)
renumber_outcome φ (Makes c) = Makes (renumber_content φ c)
renumber_outcome φ (Changes n c) = Changes (φ n) (renumber_content φ c)
renumber_outcome φ (Passes v channels) = Passes (renumber φ v) channels
renumber_outcome φ (Applies f vs) = Applies (renumber φ f) (map (renumber φ) vs)
renumber_outcome φ (Captures f) = Captures (renumber φ f)
renumber_outcome φ (Fails k) = Fails k
renumber_outcome φ (Breaks channels) = Breaks channels

-- One sight is another whose objects have other numbers: at each number of the first the second shows what
-- the first shows, with its values renumbered. `%eqv?` is to answer the same of the operands.
pub record Renumbers (φ : ℕ → ℕ) (s t : Sight) (o : Op) (vs : List Value) : Type 0 where
  pub shown : (n : ℕ) → t.at (φ n) ≡ renumber_seen φ (s.at n)
  pub ends : Ends s
  pub other_ends : Ends t
  pub alike : o ≡ op.Eqv → same (renumber φ (nth vs 0)) (renumber φ (nth vs 1)) ≡ same (nth vs 0) (nth vs 1)

-- An operation does the same under another numbering.
abbrev pub Commutes : Env → (ℕ → ℕ) → (s t : Sight) → Channels → Op → List Value → Type 0
Commutes env φ s t ch o vs =
    Renumbers φ s t o vs
    → operate env t ch o (map (renumber φ) vs) ≡ renumber_outcome φ (operate env s ch o vs)

-- Values of the profile

-- an integer is in range, and a character is a byte
abbrev pub IsOfProfile : Value → Type 0
IsOfProfile (Integer z) = IsTrue (in_range z)
IsOfProfile (Character byte) = IsTrue (is_byte byte)
IsOfProfile v = Unit {0}

-- what an object holds is such, and its length is an integer in range
abbrev pub HoldsOfProfile : Content → Type 0
HoldsOfProfile (Pair a d) = IsOfProfile a × IsOfProfile d
HoldsOfProfile (String chars) = IsTrue (are_bytes chars) × IsTrue (in_range (pos (length chars)))
HoldsOfProfile (Vector items) = AllByRecursion IsOfProfile items × IsTrue (in_range (pos (length items)))
HoldsOfProfile (Symbol name) = IsOfProfile name
HoldsOfProfile Blank = Unit {0}

abbrev pub AheadIsByte : Option ℕ → Type 0
AheadIsByte None = Unit {0}
AheadIsByte (Some byte) = IsTrue (is_byte byte)

abbrev pub OutcomeOfProfile : Outcome → Type 0
OutcomeOfProfile (Answers v) = IsOfProfile v
OutcomeOfProfile (Makes c) = HoldsOfProfile c
OutcomeOfProfile (Changes n c) = HoldsOfProfile c
OutcomeOfProfile (Passes v channels) = IsOfProfile v × AheadIsByte channels.ahead
OutcomeOfProfile (Applies f vs) = IsOfProfile f × AllByRecursion IsOfProfile vs
OutcomeOfProfile (Captures f) = IsOfProfile f
OutcomeOfProfile (Fails k) = Unit {0}
OutcomeOfProfile (Breaks channels) = AheadIsByte channels.ahead

-- what an operation meets is of the profile
pub record MeetsProfile (s : Sight) (ch : Channels) (o : Op) (vs : List Value) : Type 0 where
  pub operands : AllByRecursion IsOfProfile vs
  pub held : HoldsOfProfile (content_at s (nth vs 0))
  pub listed :
      (items : List Value) → o ≡ op.Apply → items_at s (nth vs 1) ≡ Some items → AllByRecursion IsOfProfile items
  pub ahead : AheadIsByte ch.ahead

-- From integers in range and characters that are bytes an operation makes no others.
abbrev pub StaysInProfile : Env → Sight → Channels → Op → List Value → Type 0
StaysInProfile env s ch o vs = MeetsProfile s ch o vs → OutcomeOfProfile (operate env s ch o vs)
