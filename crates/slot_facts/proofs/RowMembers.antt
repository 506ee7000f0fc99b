-- The atoms of a row are those that it holds.
use Rattle.std.proofs.Common.{◌≡◌, ℕ, true, sym, ◌∙◌}
use Rattle.flow_form.specs.declared.rows.Rows.{Rows}
use Rattle.least_set.specs.Least.{has}
use Rattle.plan_facts.specs.Pairs.{holds, members_of}
use Rattle.plan_facts.proofs.InRows.{has_members}

pub of_members : (rows : Rows) (r a : ℕ) → has (members_of rows r) a ≡ true → holds rows r a ≡ true
of_members rows r a h = sym (has_members rows r a) ∙ h

pub in_members : (rows : Rows) (r a : ℕ) → holds rows r a ≡ true → has (members_of rows r) a ≡ true
in_members rows r a h = has_members rows r a ∙ h
