use Rattle.std.proofs.Common.{refl, ap, sym, ◌∙◌}
use Rattle.core_form.specs.declared.program.What.TheVariants as form
use Rattle.draft_form.specs.Drafts.{Prim}
use Rattle.draft_form.proofs.DraftsMade.{if_ok}
use Rattle.draft_form.proofs.DraftsStay.{draft_added}
use Rattle.scheme_expand.specs.Making.{instead, taken, left_of}
use Rattle.scheme_expand.specs.Views.{height}
use Rattle.scheme_expand.proofs.AddedDrafts.{both_ok, prim_added}
use Rattle.scheme_expand.proofs.HeldCalls.{more_drawn, drawn_many}
use Rattle.scheme_expand.proofs.Stacks.{several_taken, several_given, is_given}
use Rattle.scheme_expand.proofs.make.Maker.known_call.Goals as goal

pub returns-in-Some : goal.returns-in-Some
returns-in-Some c =
    let m = c.take_all.new.self in
    let t = c.add.new.self in
    let ids = c.in_ok-operands.operands in
    let p = c.args.pos in
    let o = c.in-Some.op in
    let takes = c.in_ok-operands.ensures in
    if_ok c.add.result
    (λ id adds κ v d made known.
    let s = several_taken κ c.args.self.now m ids c.args.count v made takes.0 takes.1 in
    let es = taken c.args.count v.made in
    let many = drawn_many κ.names κ.source.nodes.now m.drafts ids es s.drawn ∙ takes.1 in
    several_given κ m _ ids c.args.count id v _ (Prim p o) s (more_drawn m t (draft_added m.drafts t (form.Prim o ids) p id adds))
    (λ fs drawn. prim_added κ.names κ.source.nodes.now m.drafts t o ids p id fs adds drawn)
    (ap (instead v (left_of c.args.count v.made)) (c.in-Some.ensures p (height v) es many d known)))
    c.add.ensures.added

pub returns : goal.returns
returns c =
    let m = c.take_all.new.self in
    let ids = c.in_ok-operands.operands in
    let p = c.args.pos in
    let takes = c.in_ok-operands.ensures in
    both_ok c.rewritten.result
    (λ id kept drawn κ v d made known.
    let s = several_taken κ c.args.self.now m ids c.args.count v made takes.0 takes.1 in
    let es = taken c.args.count v.made in
    let many = drawn_many κ.names κ.source.nodes.now m.drafts ids es s.drawn ∙ takes.1 in
    is_given κ m c.rewritten.new.self id v _ (left_of c.args.count v.made) d s.made kept
    (drawn κ.names κ.source.nodes.now v.bound es d s.made.scope s.drawn (sym (c.in_default.ensures p (height v) es many) ∙ known))
    refl)
    c.rewritten.ensures.kept c.rewritten.ensures.drawn
