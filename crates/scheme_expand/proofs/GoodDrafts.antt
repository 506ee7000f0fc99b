-- Drafts that are valid cores once they are numbered: what is asked of a draft in a scope, by its levels.
use Rattle.std.proofs.Common.{◌≡◌, ℕ, List, [], ◌∷◌, ◌++◌, length, Option, Some, None, Bool, true, false, not, ◌&&◌, ◌||◌, ◌⊎◌, bytes_eq}
use Rattle.std.specs.Prelude.{nat_eq, nat_le}
use Rattle.std.specs.List.{list_any, IsDistinct}
use Rattle.scheme_base.specs.Operands.{operands_of}
use Rattle.scheme_expand.proofs.OfData.{IsOfData}
use Rattle.scheme_base.specs.Constants.{Constant as constant}
use Rattle.core_form.specs.Valid.{and_rest}
use Rattle.draft_form.specs.Drafts.{Name, Draft, Drafts, Part, Local, Fresh, Top, Library, Const, Symbols, Ref, Lambda, If, Set, Call, Prim, Seq, Fix, Define, none, item, parts, all_parts, changes}
use Rattle.scheme_expand.specs.Calls.{count}
use Rattle.scheme_expand.specs.Rewriting.{found, variables, unnamed, inside}

-- Names

-- a name that is no fresh variable's: it does not begin with a dot and a digit
abbrev pub is_source : List ℕ → Bool
is_source [] = false
is_source (b ∷ []) = true
is_source (b ∷ c ∷ x) = not (nat_eq b 46 && nat_le 48 c)

abbrev pub AreSources : List (List ℕ) → Type 0
AreSources [] = Unit {0}
AreSources (x ∷ xs) = (is_source x ≡ true) × AreSources xs

-- whether a variable has this name in a core
abbrev pub is_var : List ℕ → Name → Bool
is_var x (Local k y) = bytes_eq x y
is_var x (Fresh k) = false
is_var x (Top y) = bytes_eq x y
is_var x (Library y) = false

abbrev pub binds : List ℕ → List Name → Bool
binds x xs = list_any (is_var x) xs

abbrev mutual
  -- whether a draft assigns the variable of a name, where none that it binds hides it
  pub assigned : List ℕ → Draft → Bool
  assigned x (Const p c) = false
  assigned x (Symbols p) = false
  assigned x (Ref p y) = false
  assigned x (Lambda p xs r e) = not (binds x (and_rest xs r)) && assigned x e
  assigned x (If p test this that) = assigned x test || assigned x this || assigned x that
  assigned x (Set p y e) = is_var x y || assigned x e
  assigned x (Call p e es) = assigned x e || one_assigned x es
  assigned x (Prim p o es) = one_assigned x es
  assigned x (Seq p es) = one_assigned x es
  assigned x (Fix p xs es e) = not (binds x xs) && (one_assigned x es || assigned x e)
  assigned x (Define p y e) = assigned x e

  pub one_assigned : List ℕ → Drafts → Bool
  one_assigned x none = false
  one_assigned x (item e es) = assigned x e || one_assigned x es

-- Drafts

-- a variable that is assigned where these are bound
abbrev pub IsTarget : List (List ℕ) → Name → Type 0
IsTarget bound (Local k x) = (found bound x ≡ Some k) × (is_source x ≡ true)
IsTarget bound (Fresh k) = ⊥
IsTarget bound (Top x) = (found bound x ≡ None) × (is_source x ≡ true)
IsTarget bound (Library x) = Unit {0}

-- variables of names that differ, or fresh ones
pub record AreWords (xs : List Name) (k : ℕ) (ns : List (List ℕ)) : Type 0 where
  pub are : xs ≡ variables k ns
  pub sources : AreSources ns
  pub distinct : IsDistinct bytes_eq ns

pub record AreFresh (xs : List Name) (r : Option Name) (k : ℕ) (ns : List (List ℕ)) : Type 0 where
  pub are : xs ≡ variables k ns
  pub fresh : ns ≡ unnamed (length ns)
  pub no_rest : r ≡ None

abbrev pub AreBound : List Name → Option Name → ℕ → List (List ℕ) → Type 0
AreBound xs r k ns = AreWords (and_rest xs r) k ns ⊎ AreFresh xs r k ns

-- variables of names that nothing in a text changes, or fresh ones
abbrev pub AreFixed : ℕ → List Name → List (List ℕ) → List Part → Type 0
AreFixed k xs ns found = (AreWords xs k ns × (changes k (length ns) found ≡ false)) ⊎ AreFresh xs None k ns

abbrev pub IsLambda : Draft → Type 0
IsLambda (Lambda p xs r e) = Unit {0}
IsLambda e = ⊥

abbrev pub AreLambdas : Drafts → Type 0
AreLambdas none = Unit {0}
AreLambdas (item e es) = IsLambda e × AreLambdas es

-- a variable with a name that a draft assigns
abbrev pub IsAssigned : Name → Draft → Type 0
IsAssigned (Local k x) e = (is_source x ≡ true) × (assigned x e ≡ true)
IsAssigned x e = ⊥

abbrev pub IsHole : Draft → Type 0
IsHole (Const p constant.Undefined) = Unit {0}
IsHole e = ⊥

-- as many undefined values as variables, each of which the draft assigns
abbrev pub HolesFor : List Name → Draft → Drafts → Type 0
HolesFor [] e none = Unit {0}
HolesFor [] e (item d ds) = ⊥
HolesFor (x ∷ xs) e none = ⊥
HolesFor (x ∷ xs) e (item d ds) = IsAssigned x e × IsHole d × HolesFor xs e ds

abbrev pub Holes : Draft → Drafts → Type 0
Holes (Lambda p xs None e) es = HolesFor xs e es
Holes e es = ⊥

abbrev pub HasDraft : Drafts → Type 0
HasDraft none = ⊥
HasDraft (item e es) = Unit {0}

abbrev mutual
  pub Good : List (List ℕ) → Draft → Type 0
  Good bound (Const p c) = IsOfData c
  Good bound (Symbols p) = Unit {0}
  Good bound (Ref p x) = Unit {0}
  Good bound (Lambda p xs r e) =
      (ns : List (List ℕ)) × AreBound xs r (length bound) ns × Good (inside bound ns) e
  Good bound (If p test this that) = Good bound test × Good bound this × Good bound that
  Good bound (Set p x e) = IsTarget bound x × Good bound e
  Good bound (Call p e es) = Good bound e × (AllGood bound es ⊎ Holes e es)
  Good bound (Prim p o es) = (count es ≡ length (operands_of o)) × AllGood bound es
  Good bound (Seq p es) = HasDraft es × AllGood bound es
  Good bound (Fix p xs es e) =
      (ns : List (List ℕ)) × AreFixed (length bound) xs ns (all_parts es ++ parts e) × (count es ≡ length xs)
      × AreLambdas es × AllGood (inside bound ns) es × Good (inside (inside bound ns) (unnamed (length ns))) e
  Good bound (Define p x e) = ⊥

  pub AllGood : List (List ℕ) → Drafts → Type 0
  AllGood bound none = Unit {0}
  AllGood bound (item e es) = Good bound e × AllGood bound es
