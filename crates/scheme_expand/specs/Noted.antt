-- The fault that an expansion has noted, and what its names mean.
use Rattle.std.specs.Prelude.{ℕ, ◌≡◌, List, [], Option, Some, None, Result, Ok, Err, Bool, true}
use Rattle.scheme_expand.specs.declared.fault.Fault.{Fault as Noted}
use Rattle.scheme_expand.specs.declared.fault.Rule.{Rule}
use Rattle.scheme_expand.specs.declared.fault.Rule.TheVariants as rule
use Rattle.draft_form.specs.declared.draft.Variable.{Variable}
use Rattle.draft_form.specs.declared.draft.Variable.TheVariants.{Local, Top, Library}
use Rattle.scheme_expand.specs.Faults.{Fault, fault, least}

abbrev pub number_of : Rule → ℕ
number_of rule.Keyword = 1
number_of rule.Quote = 2
number_of rule.Formals = 3
number_of rule.Body = 4
number_of rule.IfOrSet = 5
number_of rule.Cond = 6
number_of rule.Case = 7
number_of rule.Bindings = 8
number_of rule.Do = 9
number_of rule.Begin = 10
number_of rule.Define = 11
number_of rule.Twice = 12
number_of rule.Empty = 13
number_of rule.Unquote = 14
number_of rule.Vector = 15
number_of rule.Delay = 16

abbrev pub fault_of : Noted → Fault
fault_of f = fault f.pos (number_of f.rule)

abbrev pub noted : Option Noted → Option Fault
noted None = None
noted (Some f) = Some (fault_of f)

-- the fault of some data that is noted, or what they come to where they have none
abbrev pub IsLeast : {A : Type 0} → List Fault → Result A Noted → Type 0
IsLeast fs (Ok a) = fs ≡ []
IsLeast fs (Err f) = least fs ≡ Some (fault_of f)

-- the level of the innermost variable of a name, where names are looked up in a table of them
abbrev pub level_in : Option (Option ℕ) → Option ℕ
level_in None = None
level_in (Some level) = level

-- a name that nothing binds is the library's where that is marked
abbrev pub free : Option Bool → ℕ → Variable
free (Some true) word = Library word
free b word = Top word

abbrev pub meant : (level : Option ℕ) → (library : Option Bool) → (word : ℕ) → Variable
meant (Some level) library word = Local level word
meant None library word = free library word
