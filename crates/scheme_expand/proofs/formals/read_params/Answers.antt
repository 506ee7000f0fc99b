use Rattle.std.proofs.Common.{ℕ, Option, refl, sym, subst}
use Rattle.scheme_expand.specs.declared.formals.Formals.{Formals}
use Rattle.scheme_expand.specs.Shapes.{ReadTail}
use Rattle.scheme_expand.proofs.Due.{none_left}
use Rattle.scheme_expand.proofs.Parameters.{IsRead, none_read, name_more, broken_name, no_tail, one_tail}
use Rattle.scheme_expand.proofs.formals.read_params.Goals as goal

pub loop-first-init : goal.loop-first-init
loop-first-init c = λ ds h. none_read c.args.source c.args.params.now ds h

pub loop-first-preserved : goal.loop-first-preserved
loop-first-preserved c = λ ds h.
    name_more c.args.source c.loop-first.left.now c.in-Some.others.now c.in-Some.first.now _ _ ds
    (c.loop-first.invariant ds h) c.in-Some.ensures.cases.0 c.word.ensures c.in_ok-word.was

pub returns-in_err-word : goal.returns-in_err-word
returns-in_err-word c = λ ds end h t.
    let P : Option Formals → Type 0 = λ found. IsRead c.args.source found ds end in
    subst P (sym c.from_residual.ensures)
    (broken_name c.args.source c.loop-first.left.now c.in-Some.others.now c.in-Some.first.now _ ds end
    (c.loop-first.invariant ds h) c.in-Some.ensures.cases.0 c.word.ensures c.in_err-word.was)

pub returns-in_ok-word-in-Some-rest : goal.returns-in_ok-word-in-Some-rest
returns-in_ok-word-in-Some-rest c = λ ds end h t.
    let s = c.args.source in
    let P : Option ℕ → Type 0 = λ r. ReadTail s r end in
    let tail = subst P c.in-Some-rest.is t in
    let left = c.loop-first.left.now in
    one_tail s c.args.params.now _ left c.in-Some-rest.id _ _ ds end h (c.loop-first.invariant ds h)
    (none_left left c.in_default.ensures.cases) tail.0 tail.1 tail.2 c.word-in-Some-rest.ensures
    c.in_ok-word-in-Some-rest.was refl refl

pub returns-in-None : goal.returns-in-None
returns-in-None c = λ ds end h t.
    let s = c.args.source in
    let P : Option ℕ → Type 0 = λ r. ReadTail s r end in
    let left = c.loop-first.left.now in
    no_tail s c.args.params.now _ left ds end h (c.loop-first.invariant ds h) (none_left left c.in_default.ensures.cases)
    (subst P c.in-None.is t) refl refl
