-- Values, and the objects that they name (R4RS 3.4 and 6).
--
-- Whatever has an identity is an object of a store, and its value is its number there. So no value holds a
-- value, two values are one exactly where they are equal, and machines that make the same objects in the
-- same order have equal values. Objects are only added, at the end.
use Rattle.std.specs.Prelude.{ℕ, ℤ, List, map, Bool, true, false}

pub data Value : Type 0 where
  Integer : ℤ → Value
  -- by its byte
  Character : ℕ → Value
  False : Value
  True : Value
  Nil : Value
  -- the value of what has no other value
  Unspecified : Value
  -- the end of the input
  Eof : Value
  -- what a variable of a `letrec` holds before it has a value; no expression gives it
  Undefined : Value
  Object : (number : ℕ) → Value
  -- the box of an assigned variable, in machines that have boxes; no expression gives it
  Box : (number : ℕ) → Value

-- how an object came to be: the parts of a literal and the names of literal symbols are not written to
pub data Origin : Type 0 where
  ByRun : Origin
  -- a part of a literal
  OfLiteral : Origin
  -- the name of a literal symbol
  NameOfLiteral : Origin

-- what an object that is no procedure holds
pub data Content : Type 0 where
  Pair : (car cdr : Value) → Content
  -- by its characters
  String : List ℕ → Content
  Vector : List Value → Content
  -- a symbol, by the string that is its name
  Symbol : (name : Value) → Content
  -- nothing: the number is set aside, and no value names it
  Blank : Content

-- an object as a store holds it, of a machine whose procedures, continuations among them, are P
pub data Thing (P : Type 0) : Type 0 where
  Holding : Origin → Content → Thing P
  Procedure : P → Thing P

abbrev pub truth : Bool → Value
truth true = True
truth false = False

-- only #f is false (R4RS 6.1)
abbrev pub chosen : {A : Type 0} → Value → (this that : A) → A
chosen False this that = that
chosen v this that = this

-- Another numbering of objects: machines of two forms of a program may give one object two numbers.

abbrev pub renumber : (ℕ → ℕ) → Value → Value
renumber φ (Object n) = Object (φ n)
renumber φ v = v

abbrev pub renumber_content : (ℕ → ℕ) → Content → Content
renumber_content φ (Pair a d) = Pair (renumber φ a) (renumber φ d)
renumber_content φ (String chars) = String chars
renumber_content φ (Vector items) = Vector (map (renumber φ) items)
renumber_content φ (Symbol name) = Symbol (renumber φ name)
renumber_content φ Blank = Blank
