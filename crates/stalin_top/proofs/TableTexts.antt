-- The text of a table that is printed in pieces, up to the first call that fails.
use Rattle.std.proofs.Common.{ℕ, zero, suc, ◌+◌, ◌-◌, ◌*◌, ◌/◌, ◌%◌, ◌^◌, ◌<◌, ◌≤◌, ◌≡◌, ◌↔◌, inl, inr, refl, sym, ap, subst, ◌∙◌, nat_eq, Bool, true, false, List, [], ◌∷◌, ◌++◌, length, append_assoc, arith}
use Rattle.std.specs.Prelude.{slice_index, decimal, if◌then◌else◌}
use Rattle.std.specs.Int.{bit_at}
use Rattle.std.proofs.lemmas.Bool.{cases_lt, eqb-true, eq-eqb}
use Rattle.std.proofs.lemmas.List.{append-nil}
use Rattle.bit_rows.specs.Members.{IsMember, IsNextMember}
use Rattle.bit_rows.proofs.Members.{no_member_past}
use Rattle.flow_form.specs.declared.constraints.Constraints.{Constraints}
use Rattle.flow_form.specs.declared.rows.Rows.{Rows}
use Rattle.flow_form.specs.Shape.{HasShape, HoldsLeast, In, stride_of}
use Rattle.stalin_outside.specs.Console.{Told}
use Rattle.stalin_outside.specs.Sending.{Prints}
use Rattle.stalin_outside.proofs.TextsWritten.{prints_front, prints_then}
use Rattle.stalin_top.specs.TableText.{IsTableText, atom_text, atoms_text, has_atom, line_text, lines_text, texts_below}

-- Texts of numbers in order

-- what is left of the texts below one count behind those below another
rest_of : (text : ℕ → List ℕ) (some more : ℕ) → (rest : List ℕ) × (texts_below text (some + more) ≡ texts_below text some ++ rest)
rest_of text some zero =
    let e : some + zero ≡ some = omega arith in
    ([], ap (texts_below text) e ∙ sym (append-nil (texts_below text some)))
rest_of text some (suc more) =
    let before = rest_of text some more in
    let e : some + suc more ≡ suc (some + more) = omega arith in (
      before.0 ++ text (some + more),
      ap (texts_below text) e
          ∙ (ap (λ t. t ++ text (some + more)) before.1
          ∙ append_assoc (texts_below text some) before.0 (text (some + more))),
    )

-- the texts below one number are written, and that of the number is cut off
cut_at : (text : ℕ → List ℕ) (n count : ℕ) (before between now : Told) → n < count
    → Prints (texts_below text n) true before between → Prints (text n) false between now
    → Prints (texts_below text count) false before now
cut_at text n count before between now within one other =
    let rest = rest_of text (suc n) (count - suc n) in
    let e : suc n + (count - suc n) ≡ count = omega (arith, within) in
    subst (λ t. Prints t false before now)
    (sym (sym (ap (texts_below text) e) ∙ rest.1))
    (prints_front (texts_below text n ++ text n) rest.0 before now (prints_then (texts_below text n) (text n) false before between now one other))

skipped : (text : ℕ → List ℕ) (from more : ℕ) → ((k : ℕ) → from ≤ k → k < from + more → text k ≡ [])
    → texts_below text (from + more) ≡ texts_below text from
skipped text from zero none =
    let e : from + zero ≡ from = omega arith in
    ap (texts_below text) e
skipped text from (suc more) none =
    let e : from + suc more ≡ suc (from + more) = omega arith in
    ap (texts_below text) e
    ∙ (ap (λ t. texts_below text (from + more) ++ t) (none (from + more) (omega arith) (omega arith))
    ∙ (append-nil (texts_below text (from + more)) ∙ skipped text from more (λ k at below. none k at (omega (arith, below)))))

-- numbers without a text may be left out
skip_to : (text : ℕ → List ℕ) (from to : ℕ) → from ≤ to → ((k : ℕ) → from ≤ k → k < to → text k ≡ [])
    → texts_below text to ≡ texts_below text from
skip_to text from to later none =
    let e : from + (to - from) ≡ to = omega (arith, later) in
    ap (texts_below text) (sym e) ∙ skipped text from (to - from) (λ k at below. none k at (omega (arith, below, later)))

same_below : (one other : ℕ → List ℕ) (count : ℕ) → ((k : ℕ) → k < count → one k ≡ other k)
    → texts_below one count ≡ texts_below other count
same_below one other zero same = refl
same_below one other (suc n) same =
    ap (λ t. t ++ one n) (same_below one other n (λ k below. same k (omega (arith, below))))
    ∙ ap (λ t. texts_below other n ++ t) (same n (omega arith))

-- The atoms of a row

no_text : (has : ℕ → Bool) (atom : ℕ) → ¬ (has atom ≡ true) → atom_text has atom ≡ []
no_text has atom hasnt =
    elim (has atom) as (λ b. ¬ (b ≡ true) → (if b then 32 ∷ decimal atom else []) ≡ []) [
      | true ↦ λ hasnt. absurd (hasnt refl)
      | false ↦ λ hasnt. refl
    ] hasnt

no_member : (row : List ℕ) (atom : ℕ) → ¬ IsMember row atom → atom_text (has_atom row) atom ≡ []
no_member row atom hasnt = no_text (has_atom row) atom (λ is. hasnt (eqb-true _ _ is))

some_member : (row : List ℕ) (atom : ℕ) → IsMember row atom → atom_text (has_atom row) atom ≡ 32 ∷ decimal atom
some_member row atom is = ap (λ b. if b then 32 ∷ decimal atom else []) (eq-eqb _ _ is)

pub member_below : (row : List ℕ) (atom : ℕ) → IsMember row atom → atom + 1 ≤ 64 * length row
member_below row atom is =
    elim (cases_lt (atom / 64) (length row)) [
      | inl below ↦ omega (arith, below)
      | inr above ↦ absurd (no_member_past row atom above is)
    ]

-- up to the next one that a row has
up_to : (row : List ℕ) (from atom : ℕ) → IsNextMember row from atom
    → atoms_text (has_atom row) atom ≡ atoms_text (has_atom row) from
up_to row from atom next =
    skip_to (atom_text (has_atom row)) from atom next.not_below (λ k at below. no_member row k (next.least k at below))

pub atom_printed : (row : List ℕ) (from atom : ℕ) (before between now : Told) → IsNextMember row from atom
    → Prints (atoms_text (has_atom row) from) true before between → Prints (32 ∷ decimal atom) true between now
    → Prints (atoms_text (has_atom row) (atom + 1)) true before now
atom_printed row from atom before between now next one other =
    let e : atom + 1 ≡ suc atom = omega arith in
    subst (λ t. Prints t true before now)
    (sym
    (ap (atoms_text (has_atom row)) e
    ∙ (ap (λ t. t ++ atom_text (has_atom row) atom) (up_to row from atom next)
    ∙ ap (λ t. atoms_text (has_atom row) from ++ t) (some_member row atom next.member))))
    (prints_then (atoms_text (has_atom row) from) (32 ∷ decimal atom) true before between now one other)

pub atom_cut : (row : List ℕ) (from atom : ℕ) (before between now : Told) → IsNextMember row from atom
    → Prints (atoms_text (has_atom row) from) true before between → Prints (32 ∷ decimal atom) false between now
    → Prints (atoms_text (has_atom row) (64 * length row)) false before now
atom_cut row from atom before between now next one other =
    cut_at (atom_text (has_atom row)) atom (64 * length row) before between now
    (omega (arith, member_below row atom next.member))
    (subst (λ t. Prints t true before between) (sym (up_to row from atom next)) one)
    (subst (λ t. Prints t false between now) (sym (some_member row atom next.member)) other)

pub none_left : (row : List ℕ) (from : ℕ) (before now : Told) → from ≤ 64 * length row → 64 * length row < 2 ^ 32
    → ((atom : ℕ) → from ≤ atom → atom < 2 ^ 32 → ¬ IsMember row atom)
    → Prints (atoms_text (has_atom row) from) true before now → Prints (atoms_text (has_atom row) (64 * length row)) true before now
none_left row from before now within few none printed =
    subst (λ t. Prints t true before now)
    (sym
    (skip_to (atom_text (has_atom row)) from (64 * length row) within
    (λ k at below. no_member row k (none k at (omega (arith, below, few))))))
    printed

-- The line of a row

pub line_printed : (row atoms : ℕ) (has : ℕ → Bool) (whole : Bool) (before one two now : Told)
    → Prints (decimal row ++ 58 ∷ []) true before one → Prints (atoms_text has atoms) true one two
    → Prints (10 ∷ []) whole two now → Prints (line_text row has atoms) whole before now
line_printed row atoms has whole before one two now number all end =
    prints_then (decimal row ++ 58 ∷ []) (atoms_text has atoms ++ 10 ∷ []) whole before one now number
    (prints_then (atoms_text has atoms) (10 ∷ []) whole one two now all end)

pub number_cut : (row atoms : ℕ) (has : ℕ → Bool) (before now : Told) → Prints (decimal row ++ 58 ∷ []) false before now
    → Prints (line_text row has atoms) false before now
number_cut row atoms has before now cut =
    prints_front (decimal row ++ 58 ∷ []) (atoms_text has atoms ++ 10 ∷ []) before now cut

pub atoms_cut : (row atoms : ℕ) (has : ℕ → Bool) (before one now : Told) → Prints (decimal row ++ 58 ∷ []) true before one
    → Prints (atoms_text has atoms) false one now → Prints (line_text row has atoms) false before now
atoms_cut row atoms has before one now number cut =
    prints_then (decimal row ++ 58 ∷ []) (atoms_text has atoms ++ 10 ∷ []) false before one now number
    (prints_front (atoms_text has atoms) (10 ∷ []) one now cut)

-- The lines of all rows

-- whether the words of all rows have an atom in a row
abbrev pub has_in : Constraints → List ℕ → (row atom : ℕ) → Bool
has_in c words row atom = nat_eq (bit_at (slice_index words (row * stride_of c + atom / 64)) (atom % 64)) 1

in_words : (c : Constraints) (words : List ℕ) (row atom : ℕ) → row < c.rows → atom < c.atoms → has_in c words row atom ≡ true
    → In c words row atom
in_words c words row atom there few has = record { row_there = there; atom_there = omega (arith, few); bit = eqb-true _ _ has }

same_bools : (a b : Bool) → (a ≡ true → b ≡ true) → (b ≡ true → a ≡ true) → a ≡ b
same_bools true b one other = sym (one refl)
same_bools false true one other = other refl
same_bools false false one other = refl

-- the line of a row's own words is its line in the words of all rows
same_line : (c : Constraints) (rows : Rows) (slice : List ℕ) (row : ℕ) → HasShape c rows → row < c.rows
    → length slice ≡ stride_of c → ((atom : ℕ) → IsMember slice atom ↔ In c rows.words row atom)
    → line_text row (has_atom slice) (64 * length slice) ≡ line_text row (has_in c rows.words row) c.atoms
same_line c rows slice row shape there size members =
    let all : c.atoms ≤ 64 * length slice = omega (arith, size) in
    let past : texts_below (atom_text (has_atom slice)) (64 * length slice) ≡ texts_below (atom_text (has_atom slice)) c.atoms =
    skip_to (atom_text (has_atom slice)) c.atoms (64 * length slice) all
    (λ k at below. no_member slice k (λ is. absurd (omega (arith, at, shape.atoms row k ((members k).0 is)))))
    in
    let same : texts_below (atom_text (has_atom slice)) c.atoms ≡ texts_below (atom_text (has_in c rows.words row)) c.atoms =
    same_below (atom_text (has_atom slice)) (atom_text (has_in c rows.words row)) c.atoms
    (λ k below.
    ap (λ b. if b then 32 ∷ decimal k else [])
    (same_bools (has_atom slice k) (has_in c rows.words row k) (λ is. eq-eqb _ _ ((members k).0 (eqb-true _ _ is)).bit)
    (λ is. eq-eqb _ _ ((members k).1 (in_words c rows.words row k there below is)))))
    in
    ap (λ t. (decimal row ++ 58 ∷ []) ++ (t ++ 10 ∷ [])) (past ∙ same)

pub row_printed : (c : Constraints) (rows : Rows) (slice : List ℕ) (row : ℕ) (before between now : Told) → HasShape c rows
    → row < c.rows → length slice ≡ stride_of c → ((atom : ℕ) → IsMember slice atom ↔ In c rows.words row atom)
    → Prints (lines_text (has_in c rows.words) c.atoms row) true before between
    → Prints (line_text row (has_atom slice) (64 * length slice)) true between now
    → Prints (lines_text (has_in c rows.words) c.atoms (row + 1)) true before now
row_printed c rows slice row before between now shape there size members one other =
    let e : row + 1 ≡ suc row = omega arith in
    subst (λ t. Prints t true before now) (sym (ap (lines_text (has_in c rows.words) c.atoms) e))
    (prints_then (lines_text (has_in c rows.words) c.atoms row) (line_text row (has_in c rows.words row) c.atoms) true before
    between now one
    (subst (λ t. Prints t true between now) (same_line c rows slice row shape there size members) other))

pub row_cut : (c : Constraints) (rows : Rows) (slice : List ℕ) (row : ℕ) (before between now : Told) → HasShape c rows
    → row < c.rows → length slice ≡ stride_of c → ((atom : ℕ) → IsMember slice atom ↔ In c rows.words row atom)
    → Prints (lines_text (has_in c rows.words) c.atoms row) true before between
    → Prints (line_text row (has_atom slice) (64 * length slice)) false between now
    → Prints (lines_text (has_in c rows.words) c.atoms c.rows) false before now
row_cut c rows slice row before between now shape there size members one other =
    cut_at (λ r. line_text r (has_in c rows.words r) c.atoms) row c.rows before between now there one
    (subst (λ t. Prints t false between now) (same_line c rows slice row shape there size members) other)

pub all_printed : (c : Constraints) (has : ℕ → ℕ → Bool) (row : ℕ) (before now : Told) → row ≡ c.rows
    → Prints (lines_text has c.atoms row) true before now → Prints (lines_text has c.atoms c.rows) true before now
all_printed c has row before now end printed = subst (λ n. Prints (lines_text has c.atoms n) true before now) end printed

pub is_table : (c : Constraints) (rows : Rows) → HoldsLeast c rows → IsTableText c (lines_text (has_in c rows.words) c.atoms c.rows)
is_table c rows holds =
    record {
      has = has_in c rows.words;
      decides =
          λ row atom there few. (
            (λ is. (holds.exact row atom).0 (in_words c rows.words row atom there few is)),
            (λ least. eq-eqb _ _ ((holds.exact row atom).1 least).bit),
          );
      whole = refl;
    }
