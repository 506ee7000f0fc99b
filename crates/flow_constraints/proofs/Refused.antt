-- What is made of a program, and what is told of one that has too much.
use Rattle.std.proofs.Common.{◌≡◌, ℕ, ◌-◌, ◌*◌, ◌<◌, ◌≤◌, ◌^◌, Bool, true, false, length, Option, Some, None, refl, sym, ap, ◌∙◌, arith, leb-true, inl, inr, ◌⊎◌}
use Rattle.std.specs.Prelude.{if◌then◌else◌, nat_le}
use Rattle.std.proofs.lemmas.Bool.{cases_lt, lt-leb}
use Rattle.scheme_base.specs.declared.limit.Limit.{Limit}
use Rattle.scheme_base.specs.declared.limit.LimitKind.{LimitKind}
use Rattle.scheme_base.specs.declared.limit.LimitKind.TheVariants.{Rows, Atoms, Table, Rules}
use Rattle.flow_form.specs.declared.constraints.Constraints.{Constraints}
use Rattle.flow_form.specs.Shape.{IsMadeOf}
use Rattle.flow_form.specs.Valid.{words_of_row}
use Rattle.named_form.specs.Code.{first_sites}
use Rattle.named_form.specs.Valid.{Form}
use Rattle.flow_constraints.specs.declared.flow.Flow.{Flow}
use Rattle.flow_constraints.specs.Census.{cut}
use Rattle.flow_constraints.specs.Counting.{procs_count}
use Rattle.flow_constraints.specs.Layout.{flow_of}
use Rattle.flow_constraints.specs.Limits.{atom_count, or_else, passed, past, row_count, table_limit}
use Rattle.flow_constraints.specs.Listed.{rules_of}
use Rattle.flow_constraints.specs.Walk.{put_procs}
use Rattle.flow_constraints.proofs.Counted.{procs_many}
use Rattle.flow_constraints.proofs.Labelled.{rules_walk}

pub made_is : (f : Form) (flow : Flow) (c : Constraints) (atoms : ℕ) → flow ≡ flow_of f → atoms ≡ length flow.kinds
    → IsMadeOf c flow.rows atoms (put_procs flow f.lits (first_sites f.procs) f.procs)
    → IsMadeOf c (row_count f) (atom_count f) (rules_of f)
made_is f flow c atoms is many h =
    record {
      same_rows = h.same_rows ∙ ap (λ w. w.rows) is;
      same_atoms = h.same_atoms ∙ (many ∙ ap (λ w. length w.kinds) is);
      same_rules = h.same_rules ∙ (ap (λ w. put_procs w f.lits (first_sites f.procs) f.procs) is ∙ rules_walk f);
    }

-- the list has as many rules as are counted
count_is : (f : Form) (flow : Flow) → flow ≡ flow_of f → procs_count flow f.lits f.procs ≡ length (rules_of f)
count_is f flow is =
    sym (procs_many flow f.lits (first_sites f.procs) f.procs)
    ∙ ap length (ap (λ w. put_procs w f.lits (first_sites f.procs) f.procs) is ∙ rules_walk f)

-- a limit is passed, and told, alike by a count and by what 64 bits hold of it
pub past_cut : (which : LimitKind) (n most : ℕ) → most < 2 ^ 64 - 1 → past which (cut n) most ≡ past which n most
past_cut which n most few = by (cases_lt n (2 ^ 64))
  where
    told : (m : ℕ) → most < m → past which m most ≡ Some (record { which = which; count = cut m })
    told m large = ap (λ b. if b then None else Some (record { which = which; count = cut m })) (lt-leb m most large)

    by : (n < 2 ^ 64) ⊎ (2 ^ 64 ≤ n) → past which (cut n) most ≡ past which n most
    by (inl small) = let same : cut n ≡ n = omega (arith, small) in ap (λ m. past which m most) same
    by (inr large) =
        let same : cut (cut n) ≡ cut n = omega arith in
        told (cut n) (omega (arith, few, large))
        ∙ (ap (λ m. Some (record { which = which; count = m })) same ∙ sym (told n (omega (arith, few, large))))

or_passed : (o a b : Option Limit) → (o ≡ None → a ≡ b) → or_else o a ≡ or_else o b
or_passed None a b h = h refl
or_passed (Some l) a b h = refl

within_most : (which : LimitKind) (n most : ℕ) → past which n most ≡ None → n ≤ most
within_most which n most h = by (nat_le n most) refl
  where
    by : (b : Bool) → nat_le n most ≡ b → n ≤ most
    by true e = leb-true n most e
    by false e =
        let told : past which n most ≡ Some (record { which = which; count = cut n }) =
        ap (λ b. if b then None else Some (record { which = which; count = cut n })) e in
        absurd (cc (told, h))

-- so the table's limit is that of the counts that 64 bits hold
table_cut : (rows atoms : ℕ) → table_limit (cut rows) (cut atoms) ≡ table_limit rows atoms
table_cut rows atoms =
    ap (λ o. or_else o (others (cut rows) (cut atoms))) (past_cut Rows rows 65536 (omega arith))
    ∙ or_passed (past Rows rows 65536) (others (cut rows) (cut atoms)) (others rows atoms)
    (λ few.
    let less = within_most Rows rows 65536 few in
    let same : cut rows ≡ rows = omega (arith, less) in
    ap (λ n. others n (cut atoms)) same
    ∙ (ap (λ o. or_else o (past Table (rows * words_of_row (cut atoms)) 4194304)) (past_cut Atoms atoms 8192 (omega arith))
    ∙ or_passed (past Atoms atoms 8192) (past Table (rows * words_of_row (cut atoms)) 4194304) (past Table (rows * words_of_row atoms) 4194304)
    (λ few.
    let less = within_most Atoms atoms 8192 few in
    let same : cut atoms ≡ atoms = omega (arith, less) in
    ap (λ n. past Table (rows * words_of_row n) 4194304) same)))
  where
    others : (rows atoms : ℕ) → Option Limit
    others rows atoms = or_else (past Atoms atoms 8192) (past Table (rows * words_of_row atoms) 4194304)

table_is : (f : Form) (rows atoms : ℕ) → rows ≡ cut (row_count f) → atoms ≡ cut (atom_count f)
    → table_limit (row_count f) (atom_count f) ≡ table_limit rows atoms
table_is f rows atoms same many =
    sym (table_cut (row_count f) (atom_count f))
    ∙ (ap (λ n. table_limit n (cut (atom_count f))) (sym same) ∙ ap (table_limit rows) (sym many))

pub table_passed : (f : Form) (rows atoms : ℕ) (limit : Limit) → rows ≡ cut (row_count f) → atoms ≡ cut (atom_count f)
    → table_limit rows atoms ≡ Some limit → passed f ≡ Some limit
table_passed f rows atoms limit same many h =
    ap (λ o. or_else o (past Rules (length (rules_of f)) 8388608)) (table_is f rows atoms same many ∙ h)

pub table_small : (f : Form) (rows atoms : ℕ) → rows ≡ cut (row_count f) → atoms ≡ cut (atom_count f)
    → table_limit rows atoms ≡ None → table_limit (row_count f) (atom_count f) ≡ None
table_small f rows atoms same many h = table_is f rows atoms same many ∙ h

-- where the table is small enough, the number of rules decides
pub rules_decide : (f : Form) (flow : Flow) (rows atoms count : ℕ) (o : Option Limit) → flow ≡ flow_of f
    → rows ≡ cut (row_count f) → atoms ≡ cut (atom_count f) → table_limit rows atoms ≡ None
    → count ≡ cut (procs_count flow f.lits f.procs) → past Rules count 8388608 ≡ o → passed f ≡ o
rules_decide f flow rows atoms count o is same many none counts h =
    ap (λ t. or_else t (past Rules (length (rules_of f)) 8388608)) (table_small f rows atoms same many none)
    ∙ (ap (λ n. past Rules n 8388608) (sym (count_is f flow is))
    ∙ (sym (past_cut Rules (procs_count flow f.lits f.procs) 8388608 (omega arith))
    ∙ (ap (λ n. past Rules n 8388608) (sym counts) ∙ h)))
