use Rattle.std.proofs.Common.{[], ◌∷◌, false, refl, sym, ap, subst, ◌∙◌}
use Rattle.scheme_base.specs.Constants.{Constant as constant}
use Rattle.draft_form.specs.Drafts.{Const, Ref, If, Seq, Call}
use Rattle.draft_form.specs.Drawn.{name_of}
use Rattle.draft_form.proofs.DraftsMade.{if_ok}
use Rattle.draft_form.proofs.DraftsStay.{then_kept}
use Rattle.scheme_expand.specs.declared.step.Step.TheVariants as step
use Rattle.scheme_expand.specs.Calls.{truth}
use Rattle.scheme_expand.specs.Making.{called, left_of, taken}
use Rattle.scheme_expand.specs.Stacks.{Gives}
use Rattle.scheme_expand.proofs.AddedDrafts.{both_ok, call_added, seq_added}
use Rattle.scheme_expand.proofs.Stacks.{comes_as, holding, is_given, makes_as, one_taken, redrawn, several_given, several_still, several_taken, three_given, three_taken, two_given, two_taken}
use Rattle.scheme_expand.proofs.make.Maker.make.Goals as goal

pub returns-in-Unspecified : goal.returns-in-Unspecified
returns-in-Unspecified c =
    both_ok c.constant.result
    (λ id kept drawn k v w i h.
    let p = c.in-Unspecified.pos in
    is_given k c.args.self.now _ id v w v.made (Const p constant.Unspecified) i (redrawn c.args.self.now c.constant.new.self kept)
    (drawn k.names k.source.nodes.now constant.Unspecified refl) (comes_as k c.args.step (step.Unspecified p) v w c.in-Unspecified.is h))
    c.constant.ensures.kept c.constant.ensures.drawn

pub returns-in-Reference : goal.returns-in-Reference
returns-in-Reference c =
    both_ok c.reference.result
    (λ id kept drawn k v w i h.
    let p = c.in-Reference.pos in
    let x = c.in-Reference.variable in
    is_given k c.args.self.now _ id v w v.made (Ref p (name_of k.names x)) i (redrawn c.args.self.now c.reference.new.self kept)
    (drawn k.names k.source.nodes.now) (comes_as k c.args.step (step.Reference p x) v w c.in-Reference.is h))
    c.reference.ensures.kept c.reference.ensures.drawn

pub returns-in_ok-items-in-Sequence : goal.returns-in_ok-items-in-Sequence
returns-in_ok-items-in-Sequence c =
    both_ok c.add.result
    (λ id kept added k v w i h.
    let p = c.in-Sequence.pos in
    let n = c.in-Sequence.count in
    let m = c.take_all.new.self in
    let items = c.in_ok-items-in-Sequence.items in
    several_given k m _ items n id v w (Seq p)
    (several_taken k c.args.self.now m items n v i c.in_ok-items-in-Sequence.ensures.0 c.in_ok-items-in-Sequence.ensures.1)
    (redrawn m c.add.new.self kept)
    (λ es drawn. seq_added k.names k.source.nodes.now m.drafts c.add.new.self items p id es added drawn)
    (comes_as k c.args.step (step.Sequence p n) v w c.in-Sequence.is h))
    c.add.ensures.kept c.add.ensures.added

pub returns-in_ok-operator-in-Call : goal.returns-in_ok-operator-in-Call
returns-in_ok-operator-in-Call c =
    both_ok c.add-in-Call.result
    (λ id kept added k v w i h.
    let p = c.in-Call.pos in
    let n = c.in-Call.count in
    let l = c.take_all-in-Call.new.self in
    let m = c.take.new.self in
    let operands = c.in_ok-operands-in-Call.operands in
    let operator = c.in_ok-operator-in-Call.operator in
    let es = taken n v.made in
    let several = several_taken k c.args.self.now l operands n v i c.in_ok-operands-in-Call.ensures.0 c.in_ok-operands-in-Call.ensures.1 in
    let one = one_taken k l m operator (holding v (left_of n v.made)) several.made c.in_ok-operator-in-Call.ensures in
    is_given k m _ id v w one.others (Call p one.draft es) one.made (redrawn m c.add-in-Call.new.self kept)
    (call_added k.names k.source.nodes.now m.drafts c.add-in-Call.new.self operator operands p id one.draft es added one.drawn
    (several_still k l m (operator ∷ []) operands es c.in_ok-operator-in-Call.ensures several.drawn))
    (comes_as k c.args.step (step.Call p n) v w c.in-Call.is h ∙ ap (called p es v) one.are))
    c.add-in-Call.ensures.kept c.add-in-Call.ensures.added

pub returns-in-Known : goal.returns-in-Known
returns-in-Known c =
    if_ok c.known_call.result
    (λ id gives k v w i h.
    let e = comes_as k c.args.step (step.Known c.in-Known.pos c.in-Known.known c.in-Known.count) v w c.in-Known.is h in
    subst (λ u. Gives k c.known_call.new.self id u) (sym e.2) (gives k v e.0 i e.1))
    c.known_call.ensures

pub returns-in_ok-test-in-If : goal.returns-in_ok-test-in-If
returns-in_ok-test-in-If c =
    both_ok c.conditional.result
    (λ id kept drawn k v w i h.
    let p = c.in-If.pos in
    let m = c.take-in-If-3.new.self in
    let no = c.in_ok-no-in-If.no in
    let yes = c.in_ok-yes-in-If.yes in
    let test = c.in_ok-test-in-If.test in
    three_given k m _ no yes test id v w (λ d e g. If p g e d)
    (three_taken k c.args.self.now c.take-in-If.new.self c.take-in-If-2.new.self m no yes test v i c.in_ok-no-in-If.ensures c.in_ok-yes-in-If.ensures
    c.in_ok-test-in-If.ensures)
    (redrawn m c.conditional.new.self kept) (λ d e g x y z. drawn k.names k.source.nodes.now g e d z y x)
    (comes_as k c.args.step (step.If p) v w c.in-If.is h))
    c.conditional.ensures.kept c.conditional.ensures.drawn

pub returns-in_ok-no-in-Branch : goal.returns-in_ok-no-in-Branch
returns-in_ok-no-in-Branch c =
    both_ok c.conditional-in-Branch.result
    (λ id kept drawn k v w i h.
    let p = c.in-Branch.pos in
    let m = c.take-in-Branch-3.new.self in
    let test = c.in_ok-test-in-Branch.test in
    let yes = c.in_ok-yes-in-Branch.yes in
    let no = c.in_ok-no-in-Branch.no in
    three_given k m _ test yes no id v w (If p)
    (three_taken k c.args.self.now c.take-in-Branch.new.self c.take-in-Branch-2.new.self m test yes no v i c.in_ok-test-in-Branch.ensures
    c.in_ok-yes-in-Branch.ensures c.in_ok-no-in-Branch.ensures)
    (redrawn m c.conditional-in-Branch.new.self kept) (drawn k.names k.source.nodes.now)
    (comes_as k c.args.step (step.Branch p) v w c.in-Branch.is h))
    c.conditional-in-Branch.ensures.kept c.conditional-in-Branch.ensures.drawn

pub returns-in_ok-no-in-Both : goal.returns-in_ok-no-in-Both
returns-in_ok-no-in-Both c =
    both_ok c.conditional-in-Both.result
    (λ id kept drawn k v w i h.
    let p = c.in-Both.pos in
    let names = k.names in
    let nodes = k.source.nodes.now in
    let m = c.take-in-Both-2.new.self in
    let test = c.in_ok-test-in-Both.test in
    let yes = c.in_ok-yes-in-Both.yes in
    let no = c.in_ok-no-in-Both.no in
    let first = c.in_ok-no-in-Both.ensures.kept in
    two_given k m _ test yes id v w (λ d e. If p d e (truth p false))
    (two_taken k c.args.self.now c.take-in-Both.new.self m test yes v i c.in_ok-test-in-Both.ensures c.in_ok-yes-in-Both.ensures)
    (redrawn m c.conditional-in-Both.new.self (then_kept m.drafts c.constant-in-Both.new.self c.conditional-in-Both.new.self first kept))
    (λ d e x y.
    drawn names nodes d e (truth p false) (first.one names nodes test d x) (first.one names nodes yes e y)
    (c.in_ok-no-in-Both.ensures.drawn names nodes (constant.Boolean false) refl))
    (comes_as k c.args.step (step.Both p) v w c.in-Both.is h))
    c.conditional-in-Both.ensures.kept c.conditional-in-Both.ensures.drawn

pub returns-in-Template : goal.returns-in-Template
returns-in-Template c =
    if_ok c.part.result (λ id made. makes_as c.args.step (step.Template c.in-Template.pos c.in-Template.part) _ _ id c.in-Template.is made) c.part.ensures
