use Rattle.scheme_expand.proofs.ByKind.{no_tail_due, tail_due}
use Rattle.scheme_expand.proofs.Due.{on_ok, any_ok}
use Rattle.std.proofs.Common.{sym, ap, subst}
use Rattle.scheme_expand.proofs.Coming.{turns_as}
use Rattle.scheme_expand.proofs.MadeForms.{end_not_right, no_end}
use Rattle.scheme_expand.specs.Forms.{Exp}
use Rattle.scheme_expand.specs.Grammar.{expr}
use Rattle.scheme_expand.specs.Making.{IsRight}
use Rattle.scheme_expand.specs.Shapes.{with_end}
use Rattle.scheme_expand.specs.Views.{seen}
use Rattle.scheme_expand.proofs.expander.Expander.chain.Goals as goal

pub returns-in-None-clause-fault : goal.returns-in-None-clause-fault
returns-in-None-clause-fault c =
    on_ok c.list.result
    (λ w is end h t. no_tail_due c.args.self.now c.list.new.self c.args.pos is c.args.tail end t c.in-None.is (w is h))
    c.list.ensures.fault

pub returns-in-Some-clause-fault : goal.returns-in-Some-clause-fault
returns-in-Some-clause-fault c =
    on_ok c.broken.result
    (λ w is end h t. tail_due c.args.self.now c.broken.new.self c.args.pos is c.args.tail _ end t c.in-Some.is w)
    c.broken.ensures

pub returns-in-None-clause-core : goal.returns-in-None-clause-core
returns-in-None-clause-core c =
    let p = c.args.pos in
    on_ok c.list.result
    (λ w κ v is end i h t r.
    let same = no_end κ.source c.args.tail end t c.in-None.is in
    let P : Exp → Type 0 = λ e. IsRight e in
    turns_as κ c.args.self.now c.list.new.self _ (seen κ (expr (with_end p is end)) v)
    (ap (λ x. seen κ (expr (with_end p is x)) v) (sym same))
    (w κ v is i h (subst P (ap (λ x. expr (with_end p is x)) same) r)))
    c.list.ensures.core

pub returns-in-Some-clause-core : goal.returns-in-Some-clause-core
returns-in-Some-clause-core c =
    any_ok c.broken.result
    (λ κ v is end i h t r. absurd (end_not_right κ.source c.args.pos is c.args.tail _ end t c.in-Some.is r))
