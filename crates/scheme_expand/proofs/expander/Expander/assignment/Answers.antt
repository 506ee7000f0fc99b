use Rattle.std.proofs.Common.{None, get_or, refl, sym, ap, subst, ◌∙◌}
use Rattle.datum_form.specs.Data.{Datum}
use Rattle.datum_form.specs.Data.Items.{none, item}
use Rattle.scheme_expand.specs.declared.source.Source.{Source}
use Rattle.scheme_expand.specs.Faults.{least, in_exp, in_word}
use Rattle.scheme_expand.specs.Grammar.{expr, set_form}
use Rattle.scheme_expand.specs.Waiting.{earlier, Reads}
use Rattle.scheme_expand.proofs.Adding.{both, both_kept, due}
use Rattle.scheme_expand.proofs.Arms.{two_read}
use Rattle.scheme_expand.proofs.Due.{of, on_ok}
use Rattle.scheme_expand.proofs.Least.{earlier_none, least_append}
use Rattle.scheme_expand.proofs.Operators.{name_read}
use Rattle.scheme_expand.proofs.Coming.{put_then_leave, view_kept}
use Rattle.scheme_expand.proofs.MadeForms.{set_turns}
use Rattle.scheme_expand.proofs.Parts.{read_in}
use Rattle.scheme_expand.proofs.expander.Expander.assignment.Goals as goal

pub returns-clause-fault : goal.returns-clause-fault
returns-clause-fault c =
    let a = c.args.self.now in
    let b = c.name.new.self in
    let d = c.assign.new.self in
    let p = c.args.pos in
    on_ok c.wait.result
    (λ w ds h.
    let t = two_read a.source c.args.operands.now ds c.in-len2.len_at_least c.in-len2.len_below h in
    let n = name_read a.source _ t.test _ _ t.read_test c.word.ensures c.in-Some.is in
    let P : Datum → Type 0 = λ e. Reads a.source (get_or c.args.operands.now 0 0) e in
    let named = c.in_ok-word.ensures.fault n.0 (subst P n.1 t.read_test) in
    let x = least (in_word n.0) in
    let y = of t.yes in
    let kept = both_kept a b d x named c.assign.ensures.fault in
    let Q : Source → Type 0 = λ s. Reads s (get_or c.args.operands.now 1 0) t.yes in
    due a c.wait.new.self (earlier x y) (least (in_exp (set_form p ds)))
    (sym (least_append (in_word n.0) (in_exp (expr t.yes)))
    ∙ ap (λ l. least (in_exp (set_form p l))) (sym (t.are ∙ ap (λ l. item l (item t.yes none)) n.1)))
    (both a d c.wait.new.self x y kept
    (w y (None, y, refl, (y, None, (t.yes, subst Q (sym kept.source) t.read_yes, refl), refl, sym (earlier_none y)), refl))))
    c.wait.ensures.fault

pub returns-clause-core : goal.returns-clause-core
returns-clause-core c =
    let a = c.args.self.now in
    let b = c.name.new.self in
    let d = c.assign.new.self in
    let named = c.in_ok-word.ensures.core in
    on_ok c.wait.result
    (λ put κ v ds i h r.
    let t = two_read κ.source c.args.operands.now ds c.in-len2.len_at_least c.in-len2.len_below h in
    let k = read_in κ.source a.source _ t.test (sym i.source) t.read_test in
    let n = name_read a.source _ t.test _ _ k c.word.ensures c.in-Some.is in
    let P : Datum → Type 0 = λ e. Reads κ.source (get_or c.args.operands.now 0 0) e in
    let spells = named.1 κ n.0 i.fits (subst P n.1 t.read_test) i.source in
    let j = view_kept κ a b v named.0.same i in
    set_turns κ a d c.wait.new.self c.args.pos c.args.operands.now ds n.0 t.yes _ _ v
    (t.are ∙ ap (λ l. item l (item t.yes none)) n.1) t.read_yes spells (c.variable-variable.ensures.core κ v j spells.0) r
    (put_then_leave κ a b d _ named.0 (c.assign.ensures.core κ v j)) put)
    c.wait.ensures.core
