-- The clauses of a `case` are those whose parts are found, the last alone with `else`.
use Rattle.std.proofs.Common.{◌≡◌, ℕ, Bool, true, false, List as Seq, [], ◌∷◌, Bor, Option, Some, None, refl, sym, ap, ◌∙◌}
use Rattle.std.specs.Prelude.{◌&&◌, ◌||◌, if◌then◌else◌, codes}
use Rattle.std.specs.Option.{is_some, option_copied}
use Rattle.datum_form.specs.declared.datums.Node.{Node}
use Rattle.datum_form.specs.Data.{Datum, Datum as datum, Items}
use Rattle.datum_form.specs.Data.Items.{none, item}
use Rattle.datum_form.specs.Stands.{Stands, StandAll}
use Rattle.quasi_expand.specs.declared.case.CaseClause.{CaseClause}
use Rattle.quasi_expand.specs.Agreement.{Agree}
use Rattle.quasi_expand.specs.Cases.{Clause, IsClause, clause_of}
use Rattle.quasi_expand.specs.Shapes.{are_clauses, is_case, is_word}
use Rattle.quasi_expand.proofs.FirstItem.{first_of, after_first, agree_some}

-- parts can be those of a clause, the last one or not
abbrev fits : (last : Bool) → Option Clause → Bool
fits last None = false
fits last (Some c) = last || is_some c.given

and_false : (b : Bool) → b && false ≡ false
and_false true = refl
and_false false = refl

no_fit : (last : Bool) → (false || last && false) && true ≡ false
no_fit true = refl
no_fit false = refl

any_fit : (last : Bool) → true ≡ last || true
any_fit true = refl
any_fit false = refl

word_fits : (last is_else : Bool) (es : Items)
    → (false || last && is_else) && true ≡ fits last (if is_else then Some (record { given = None; chosen = es }) else None)
word_fits true true es = refl
word_fits true false es = refl
word_fits false true es = refl
word_fits false false es = refl

case_fits : (last : Bool) (d : Datum) → is_case last d ≡ fits last (clause_of d)
case_fits last (datum.Atomic p a) = refl
case_fits last (datum.Dotted p is d) = refl
case_fits last (datum.Vector p is) = refl
case_fits last (datum.List p none) = refl
case_fits last (datum.List p (item (datum.Atomic q a) none)) = and_false (last && is_word (codes "else") (datum.Atomic q a))
case_fits last (datum.List p (item (datum.List q is) none)) = refl
case_fits last (datum.List p (item (datum.Dotted q is d) none)) = and_false (last && false)
case_fits last (datum.List p (item (datum.Vector q is) none)) = and_false (last && false)
case_fits last (datum.List p (item (datum.Atomic q a) (item e es))) = word_fits last (is_word (codes "else") (datum.Atomic q a)) (item e es)
case_fits last (datum.List p (item (datum.List q is) (item e es))) = any_fit last
case_fits last (datum.List p (item (datum.Dotted q is d) (item e es))) = no_fit last
case_fits last (datum.List p (item (datum.Vector q is) (item e es))) = no_fit last

-- what is found of a clause, the last one or not
abbrev found_fits : (last : Bool) → Option CaseClause → Bool
found_fits last None = false
found_fits last (Some c) = last || is_some c.data

copied : {A : Type 0} (o : Option (Bor A)) → is_some o ≡ is_some (option_copied o)
copied None = refl
copied (Some x) = refl

same_fit : (nodes : Seq Node) (last : Bool) (o : Option CaseClause) (c : Option Clause) → Agree (IsClause nodes) o c
    → found_fits last o ≡ fits last c
same_fit nodes last None None h = refl
same_fit nodes last None (Some c) h = absurd h
same_fit nodes last (Some b) None h = absurd h
same_fit nodes last (Some b) (Some c) h =
    ap (λ s. last || s) (copied b.data ∙ agree_some (StandAll nodes) (option_copied b.data) c.given h.given)

found : (nodes : Seq Node) (last : Bool) (first : ℕ) (d : Datum) (o : Option CaseClause) → Stands nodes first d
    → ((e : Datum) → Stands nodes first e → Agree (IsClause nodes) o (clause_of e)) → is_case last d ≡ found_fits last o
found nodes last first d o h parts = case_fits last d ∙ sym (same_fit nodes last o (clause_of d) (parts d h))

-- those that are left are clauses just as all are
abbrev pub Left : Seq Node → Seq ℕ → Bool → Type 0
Left nodes rest all = (es : Items) × StandAll nodes rest es × (all ≡ are_clauses is_case es)

-- no clause, the last one or not
pub no_clause : (nodes : Seq Node) (rest others : Seq ℕ) (first : ℕ) (all : Bool) → rest ≡ first ∷ others
    → ((e : Datum) → Stands nodes first e → Agree (IsClause nodes) None (clause_of e))
    → Left nodes rest all → false ≡ all
no_clause nodes rest others first all split parts (none, h, same) = absurd (cc)
no_clause nodes rest others first all split parts (item d none, h, same) =
    sym (same ∙ found nodes true first d None (first_of nodes rest others first d none split h) parts)
no_clause nodes rest others first all split parts (item d (item e ds), h, same) =
    sym
    (same
    ∙ ap (λ b. b && are_clauses is_case (item e ds))
    (found nodes false first d None (first_of nodes rest others first d (item e ds) split h) parts))

-- the last clause
pub last_clause : (nodes : Seq Node) (rest others : Seq ℕ) (first : ℕ) (all : Bool) (c : CaseClause)
    → rest ≡ first ∷ others → others ≡ []
    → ((e : Datum) → Stands nodes first e → Agree (IsClause nodes) (Some c) (clause_of e))
    → Left nodes rest all → true ≡ all
last_clause nodes rest others first all c split empty parts (none, h, same) = absurd (cc)
last_clause nodes rest others first all c split empty parts (item d none, h, same) =
    sym (same ∙ found nodes true first d (Some c) (first_of nodes rest others first d none split h) parts)
last_clause nodes rest others first all c split empty parts (item d (item e ds), h, same) =
    let more = after_first nodes rest others first d (item e ds) split h in
    let some : others ≡ more.0 ∷ more.1 = more.2 in
    absurd (cc)

-- an `else` clause before others
pub early_else : (nodes : Seq Node) (rest others : Seq ℕ) (first : ℕ) (all : Bool) (c : CaseClause)
    → rest ≡ first ∷ others → (others ≡ [] → ⊥) → is_some c.data ≡ false
    → ((e : Datum) → Stands nodes first e → Agree (IsClause nodes) (Some c) (clause_of e))
    → Left nodes rest all → false ≡ all
early_else nodes rest others first all c split some lacks parts (none, h, same) = absurd (cc)
early_else nodes rest others first all c split some lacks parts (item d none, h, same) =
    absurd (some (after_first nodes rest others first d none split h))
early_else nodes rest others first all c split some lacks parts (item d (item e ds), h, same) =
    sym
    (same
    ∙ ap (λ b. b && are_clauses is_case (item e ds))
    (found nodes false first d (Some c) (first_of nodes rest others first d (item e ds) split h) parts ∙ lacks))

-- a clause with data before others
pub one_clause : (nodes : Seq Node) (rest others : Seq ℕ) (first : ℕ) (all : Bool) (c : CaseClause)
    → rest ≡ first ∷ others → (others ≡ [] → ⊥) → is_some c.data ≡ true
    → ((e : Datum) → Stands nodes first e → Agree (IsClause nodes) (Some c) (clause_of e))
    → Left nodes rest all → Left nodes others all
one_clause nodes rest others first all c split some has parts (none, h, same) = absurd (cc)
one_clause nodes rest others first all c split some has parts (item d none, h, same) =
    absurd (some (after_first nodes rest others first d none split h))
one_clause nodes rest others first all c split some has parts (item d (item e ds), h, same) = (
  item e ds,
  after_first nodes rest others first d (item e ds) split h,
  same
      ∙ ap (λ b. b && are_clauses is_case (item e ds))
      (found nodes false first d (Some c) (first_of nodes rest others first d (item e ds) split h) parts ∙ has),
)

pub no_clauses : (nodes : Seq Node) (rest : Seq ℕ) (all : Bool) → rest ≡ [] → Left nodes rest all → false ≡ all
no_clauses nodes rest all empty (none, h, same) = sym same
no_clauses nodes rest all empty (item d ds, h, same) = absurd (cc)
