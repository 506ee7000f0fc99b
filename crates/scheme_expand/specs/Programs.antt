-- The core of a program: the definitions of the library that it reaches, its own variables of public names,
-- and its forms. And the fault of a program that has none.
use Rattle.std.specs.Prelude.{ℕ, suc, ◌≡◌, List, [], ◌∷◌, ◌++◌, map, Some, Result, Ok, Err, Bool, false, not, if◌then◌else◌, nat_eq}
use Rattle.std.specs.Str.{bytes_eq, byte}
use Rattle.scheme_base.specs.declared.pos.Pos.{Pos}
use Rattle.scheme_base.specs.declared.lit.Lit.{Lit}
use Rattle.scheme_base.specs.Constants.{Constant, Constant as constant, Constants}
use Rattle.scheme_base.specs.Constants.Constants.{none as no_constant, item as constant_before}
use Rattle.prelude_text.specs.Text.{library_text}
use Rattle.prelude_text.specs.Closure.{closure, has}
use Rattle.datum_form.specs.declared.error.FormErr.{FormErr}
use Rattle.datum_form.specs.declared.error.FormErr.TheVariants.{Broken, NoMemory}
use Rattle.datum_form.specs.Data.{Datum, Datum as datum, Items}
use Rattle.datum_form.specs.Data.Items.{none as no_datum, item as datum_before}
use Rattle.datum_reader.specs.Answer.{Reads}
use Rattle.core_form.specs.declared.program.Var.{Var}
use Rattle.core_form.specs.declared.program.Program.{Program}
use Rattle.core_form.specs.Trees.{Trees, Holds}
use Rattle.scheme_expand.specs.Forms.{Forms, Bindings, no_binding, binding, broken, no_form, evaluated, defining}
use Rattle.scheme_expand.specs.Grammar.{forms}
use Rattle.scheme_expand.specs.Faults.{Fault, least, in_forms}
use Rattle.draft_form.specs.Drafts.{Draft, Drafts, Part, Top, Library as Lib, Ref, Define, none, item, ◌then◌, Held, Referred, Changed, parts, all_parts}
use Rattle.scheme_expand.specs.Rewriting.{OfLibrary, OfProgram, Scope, has_name, form_cores}
use Rattle.draft_form.specs.Numbers.{constants, laid_list, all_numbered}
use Rattle.draft_form.specs.Quoted.{symbol_list}

-- Data moved to a place

abbrev mutual
  pub moved : Pos → Datum → Datum
  moved p (datum.Atomic q a) = datum.Atomic p a
  moved p (datum.List q is) = datum.List p (all_moved p is)
  moved p (datum.Dotted q is d) = datum.Dotted p (all_moved p is) (moved p d)
  moved p (datum.Vector q is) = datum.Vector p (all_moved p is)

  pub all_moved : Pos → Items → Items
  all_moved p no_datum = no_datum
  all_moved p (datum_before d ds) = datum_before (moved p d) (all_moved p ds)

-- column k of no line
abbrev pub outside : ℕ → Pos
outside k = record { line = 0; col = k }

-- definition k of the library is at 0:k
abbrev pub placed : (k : ℕ) → Items → Items
placed k no_datum = no_datum
placed k (datum_before d ds) = datum_before (moved (outside k) d) (placed (suc k) ds)

-- Names and parts

-- each name where it stands first
abbrev pub unlisted : (before : List (List ℕ)) → List (List ℕ) → List (List ℕ)
unlisted before [] = []
unlisted before (x ∷ xs) = if has_name before x then unlisted before xs else x ∷ unlisted (x ∷ before) xs

-- the names of these that are listed
abbrev pub those_of : List (List ℕ) → List (List ℕ) → List (List ℕ)
those_of listed [] = []
those_of listed (x ∷ xs) = if has_name listed x then x ∷ those_of listed xs else those_of listed xs

-- the program's top-level variables in a text
abbrev pub tops : List Part → List (List ℕ)
tops [] = []
tops (Referred (Top x) ∷ found) = x ∷ tops found
tops (Changed (Top x) ∷ found) = x ∷ tops found
tops (part ∷ found) = tops found

-- the library's variables in a text
abbrev pub libraries : List Part → List (List ℕ)
libraries [] = []
libraries (Referred (Lib x) ∷ found) = x ∷ libraries found
libraries (Changed (Lib x) ∷ found) = x ∷ libraries found
libraries (part ∷ found) = libraries found

-- the library's variables that a text assigns or defines
abbrev pub changed : List Part → List (List ℕ)
changed [] = []
changed (Changed (Lib x) ∷ found) = x ∷ changed found
changed (part ∷ found) = changed found

abbrev mutual
  pub symbols_in : Constant → List (List ℕ)
  symbols_in (constant.Symbol x) = x ∷ []
  symbols_in (constant.Pair c d) = symbols_in c ++ symbols_in d
  symbols_in (constant.Vector cs) = all_symbols_in cs
  symbols_in c = []

  pub all_symbols_in : Constants → List (List ℕ)
  all_symbols_in no_constant = []
  all_symbols_in (constant_before c cs) = symbols_in c ++ all_symbols_in cs

abbrev pub symbols : List Part → List (List ℕ)
symbols [] = []
symbols (Held c ∷ found) = symbols_in c ++ symbols found
symbols (part ∷ found) = symbols found

-- The library

pub record Library : Type 0 where
  pub names : List (List ℕ)
  pub drafts : List Draft
  -- the numbers of the definitions whose variables stand in each
  pub uses : List (List ℕ)

-- the names that forms define
abbrev pub binding_names : Bindings → List (List ℕ)
binding_names no_binding = []
binding_names (binding p w e bs) = w.name ∷ binding_names bs
binding_names (broken p n bs) = binding_names bs

abbrev pub defined : Forms → List (List ℕ)
defined no_form = []
defined (evaluated e fs) = defined fs
defined (defining bs fs) = binding_names bs ++ defined fs

abbrev pub as_list : Drafts → List Draft
as_list none = []
as_list (item e es) = e ∷ as_list es

-- the number of a definition of this name, where the first has the number k
abbrev pub number_of : (k : ℕ) → List (List ℕ) → List ℕ → List ℕ
number_of k [] x = []
number_of k (y ∷ ys) x = if bytes_eq x y then k ∷ [] else number_of (suc k) ys x

abbrev pub numbers_of : List (List ℕ) → List (List ℕ) → List ℕ
numbers_of names [] = []
numbers_of names (x ∷ xs) = number_of 1 names x ++ numbers_of names xs

abbrev pub library_scope : Scope
library_scope = record { side = OfLibrary; bound = [] }

abbrev pub library_with : List (List ℕ) → List Draft → Library
library_with names drafts =
    record { names = names; drafts = drafts; uses = map (λ e. numbers_of names (libraries (parts e))) drafts }

abbrev pub library_forms : Items → Forms
library_forms ds = forms (placed 1 ds)

-- the library of a text with these data
abbrev pub library_of : Items → Library
library_of ds = library_with (defined (library_forms ds)) (as_list (form_cores (library_forms ds) library_scope))

abbrev pub is_public : List ℕ → Bool
is_public [] = false
is_public (b ∷ x) = not (nat_eq b (byte "%"))

abbrev pub public_names : List (List ℕ) → List (List ℕ)
public_names [] = []
public_names (x ∷ xs) = if is_public x then x ∷ public_names xs else public_names xs

-- the definitions of these numbers, where the first has the number k
abbrev pub chosen : (k : ℕ) → List ℕ → List Draft → Drafts
chosen k ks [] = none
chosen k ks (e ∷ es) = if has ks k then item e (chosen (suc k) ks es) else chosen (suc k) ks es

-- Programs

abbrev pub program_scope : Library → (own : List (List ℕ)) → Scope
program_scope library own = record { side = OfProgram (public_names library.names) own; bound = [] }

-- the public names that a program defines at top level, or assigns where nothing else binds them
abbrev pub own_names : Library → Forms → List (List ℕ)
own_names library fs =
    those_of (public_names library.names) (changed (all_parts (form_cores fs (program_scope library []))))

-- a variable of the program starts with the value of the library's
abbrev pub starts : List (List ℕ) → Drafts
starts [] = none
starts (x ∷ xs) = item (Define (outside 0) (Top x) (Ref (outside 0) (Lib x))) (starts xs)

-- the program's own variables of public names, in the order of its text, before its forms
abbrev pub started : (own : List (List ℕ)) → Drafts → Drafts
started own es = starts (those_of own (unlisted [] (tops (all_parts es)))) then es

-- the definitions of the library that a text reaches, before the text
abbrev pub after_library : Library → Drafts → Drafts
after_library library es =
    chosen 1 (closure library.uses (numbers_of library.names (libraries (all_parts es)))) library.drafts then es

abbrev pub program_drafts : Library → Forms → Drafts
program_drafts library fs =
    let own : List (List ℕ) = own_names library fs in
    after_library library (started own (form_cores fs (program_scope library own)))

abbrev pub symbols_of : Drafts → Constant
symbols_of es = symbol_list (unlisted [] (symbols (all_parts es)))

abbrev pub trees_of : Drafts → Trees Var
trees_of es = all_numbered (symbols_of es) (λ k. 0) (record { literals = 0; fresh = 0 }) es

abbrev pub literals_of : Drafts → List Lit
literals_of es = laid_list 0 (constants (symbols_of es) (all_parts es))

-- Answers

abbrev pub faults : Items → List Fault
faults ds = in_forms (forms ds)

-- the drafts of these data, with a library of those
abbrev pub drafts_with : (library : Items) → Items → Drafts
drafts_with library ds = program_drafts (library_of library) (forms ds)

-- a core holds these drafts
pub record IsNumbered (es : Drafts) (core : Program Var) : Type 0 where
  pub forms : Holds core (trees_of es)
  pub literals : core.lits ≡ literals_of es

-- Data without a fault are this core.
pub record Expands (ds : Items) (core : Program Var) : Type 0 where
  pub unbroken : faults ds ≡ []
  pub library : Items
  pub read : Reads library_text library
  pub numbered : IsNumbered (drafts_with library ds) core

-- The form at this place breaks this rule, and no form before it breaks one.
abbrev pub FormFault : Items → Pos → ℕ → Type 0
FormFault ds p n = least (faults ds) ≡ Some (record { place = p; rule = n })

-- what is answered is so: the core of the data, or their fault; only want of memory has no cause
abbrev pub Answers : Items → Result (Program Var) FormErr → Type 0
Answers ds (Ok core) = Expands ds core
Answers ds (Err (Broken p n)) = FormFault ds p n
Answers ds (Err NoMemory) = Unit {0}
