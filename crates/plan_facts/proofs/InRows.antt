-- The members of a row are the atoms that it has.
use Rattle.std.proofs.Common.{◌≡◌, ℕ, ◌+◌, ◌*◌, ◌/◌, ◌%◌, ◌<◌, Bool, true, false, refl, ◌∙◌, arith}
use Rattle.std.specs.Prelude.{nat_lt, ◌&&◌, slice_get}
use Rattle.std.proofs.Math.Nat.{div-add-mod, mod-lt}
use Rattle.std.proofs.lemmas.Bool.{ltb-true}
use Rattle.flow_form.specs.declared.rows.Rows.{Rows}
use Rattle.least_set.specs.Least.{has}
use Rattle.least_set.proofs.Has.{and_cases}
use Rattle.named_form.specs.Valid.{numbers_from}
use Rattle.named_form.proofs.Kept.{has_within}
use Rattle.named_form.proofs.Variables.{has_filter}
use Rattle.plan_facts.specs.Pairs.{bit_of, holds, members_of}

has_width : (rows : Rows) (r a : ℕ) → holds rows r a ≡ true → a < 0 + rows.stride * 64
has_width rows r a h =
    let inside = ltb-true (a / 64) rows.stride
    (and_cases (nat_lt (a / 64) rows.stride) (bit_of (slice_get rows.words (r * rows.stride + a / 64)) (a % 64)) h).0 in
    let whole = div-add-mod a 64 in
    let rest : a % 64 < 64 = mod-lt a (omega arith) in
    omega (arith, inside, whole, rest)

pub has_members : (rows : Rows) (r a : ℕ) → has (members_of rows r) a ≡ holds rows r a
has_members rows r a = has_filter (holds rows r) (numbers_from 0 (rows.stride * 64)) a ∙ by_test (holds rows r a) refl
  where
    by_test : (b : Bool) → holds rows r a ≡ b → (b && has (numbers_from 0 (rows.stride * 64)) a) ≡ b
    by_test true h = has_within 0 (rows.stride * 64) a (omega arith) (has_width rows r a h)
    by_test false h = refl
