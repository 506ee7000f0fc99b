-- How many operands a comparison takes.
use Rattle.std.proofs.Common.{ℕ, ◌≡◌, Option, is_some, nat_le, sym, ap, arith}
use Rattle.std.proofs.lemmas.Bool.Decides.{nat_tests}
use Rattle.scheme_base.specs.declared.pos.Pos.{Pos}
use Rattle.scheme_base.specs.declared.op.Op.{Op}
use Rattle.scheme_base.specs.declared.op.Op.TheVariants as op
use Rattle.scheme_expand.specs.declared.words.Comparison.{Comparison}
use Rattle.scheme_expand.specs.declared.words.Comparison.TheVariants as how
use Rattle.scheme_expand.specs.declared.words.Known.TheVariants as known
use Rattle.scheme_expand.specs.Calls as calls
use Rattle.scheme_expand.specs.Calls.{count, at_once, bound_first, way, references, Compares}
use Rattle.scheme_expand.specs.Making.{known_draft}
use Rattle.draft_form.specs.Drafts.{Draft, Drafts, none, item}

first_compares : (p : Pos) (k : ℕ) (c : calls.Comparison) (es : Drafts) (n : ℕ) → count es ≡ n
    → nat_le 2 n ≡ is_some (bound_first p k es (way p (Compares c) (references p k es)))
first_compares p k c none n e = ap (nat_le 2) (sym e)
first_compares p k c (item d none) n e = ap (nat_le 2) (sym e)
first_compares p k c (item d (item f fs)) n e = grind (arith, nat_tests)

two_too : (p : Pos) (o : Op) (es : Drafts) (other : Option Draft) (n : ℕ) → count es ≡ n → nat_le 2 n ≡ is_some other
    → nat_le 2 n ≡ is_some (at_once p o es other)
two_too p o none other n e h = h
two_too p o (item d none) other n e h = h
two_too p o (item d (item f none)) other n e h = ap (nat_le 2) (sym e)
two_too p o (item d (item f (item g gs))) other n e h = h

pub compare_takes : (p : Pos) (k : ℕ) (c : Comparison) (es : Drafts) (n : ℕ) → count es ≡ n
    → nat_le 2 n ≡ is_some (known_draft p k (known.Compare c) es)
compare_takes p k how.Equal es n e = two_too p op.Equals es _ n e (first_compares p k calls.Equal es n e)
compare_takes p k how.Less es n e = two_too p op.Less es _ n e (first_compares p k calls.Less es n e)
compare_takes p k how.Greater es n e = first_compares p k calls.Greater es n e
compare_takes p k how.AtMost es n e = first_compares p k calls.NotGreater es n e
compare_takes p k how.AtLeast es n e = first_compares p k calls.NotLess es n e
