use Rattle.std.proofs.Common.{Some, refl, sym, ◌∙◌}
use Rattle.std.proofs.lemmas.Option.{slice_get_past, slice_get_read}
use Rattle.scheme_base.specs.declared.op.TheConstants.{OPERATIONS}
use Rattle.scheme_expand.specs.declared.words.Known.TheVariants as known
use Rattle.scheme_expand.specs.Waiting.{keyword_table}
use Rattle.scheme_expand.proofs.KnownNames.{known_name, call_absent, call_listed, call_named, call_beyond, call_keyword}
use Rattle.scheme_expand.proofs.words.known_of.Goals as goal

pub returns-in_err-at-clause-core : goal.returns-in_err-at-clause-core
returns-in_err-at-clause-core c = λ names x p k es table named.
    known_name names c.args.word x p k es c.from_residual.result
    (c.from_residual.ensures ∙ call_keyword c.args.word c.in_err-at.ensures) table named

pub returns-in-Some-clause-core : goal.returns-in-Some-clause-core
returns-in-Some-clause-core c = λ names x p k es table named.
    known_name names c.args.word x p k es (Some c.in-Some.call)
    (call_listed c.in_ok-at.at c.args.word c.in-Some.call (sym c.in-Some.is ∙ c.call_in.ensures) c.in_ok-at.ensures.0
    c.in_ok-at.ensures.1)
    table named

pub returns-in_err-checked_sub-clause-core : goal.returns-in_err-checked_sub-clause-core
returns-in_err-checked_sub-clause-core c = λ names x p k es table named.
    absurd (call_absent c.in_ok-at.at c.call_in.result c.call_in.ensures c.in_default.is c.in_err-checked_sub.ensures)

pub returns-in_err-op-clause-core : goal.returns-in_err-op-clause-core
returns-in_err-op-clause-core c = λ names x p k es table named.
    let first = c.in_ok-at.ensures in
    let second = c.in_ok-checked_sub.ensures in
    known_name names c.args.word x p k es c.from_residual-in_err-op.result
    (c.from_residual-in_err-op.ensures
    ∙ call_beyond c.in_ok-at.at c.args.word c.in_ok-checked_sub.field-0 first.0 first.1 second.0 second.1 c.in_err-op.ensures.lookup.3)
    table named

pub returns-clause-fault : goal.returns-clause-fault
returns-clause-fault c = slice_get_past keyword_table c.args.word c.in_ok-at.ensures.0

pub returns-clause-core : goal.returns-clause-core
returns-clause-core c = λ names x p k es table named.
    let first = c.in_ok-at.ensures in
    let second = c.in_ok-checked_sub.ensures in
    let at = c.in_ok-checked_sub.field-0 in
    let o = c.in_ok-op.op.now in
    let found = c.in_ok-op.ensures.lookup in
    known_name names c.args.word x p k es (Some (known.Operation o))
    (call_named c.in_ok-at.at c.args.word at o (slice_get_read OPERATIONS 41 at o refl found.3.0 found.1) first.0 first.1 second.0 second.1)
    table named
