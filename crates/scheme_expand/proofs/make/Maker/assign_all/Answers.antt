use Rattle.std.proofs.Common.{◌≡◌, [], List, None, ap, subst, rules, arith}
use Rattle.std.specs.Prelude.{map}
use Rattle.std.proofs.lemmas.Grind.{common_steps}
use Rattle.draft_form.specs.Drafts.{Name, Fresh, Ref, Lambda, Call, none}
use Rattle.draft_form.specs.Drawn.{name_of, Drawn}
use Rattle.draft_form.proofs.DraftsMade.{if_ok}
use Rattle.draft_form.proofs.DraftsStay.{then_kept}
use Rattle.draft_form.proofs.LiteralsAdded.{on_ok}
use Rattle.scheme_expand.specs.Rewriting.{assignments}
use Rattle.scheme_expand.proofs.AddedDrafts.{one_more_drawn, seq_added, set_added}
use Rattle.scheme_expand.proofs.MadeLetrecs.{none_assigned, one_assigned_more, all_assigned}
use Rattle.scheme_expand.proofs.Stacks.{draws_more, draws_none, redrawn}
use Rattle.scheme_expand.proofs.make.Maker.assign_all.Goals as goal

pub loop-first-init : goal.loop-first-init
loop-first-init c =
    record {
      kept = draws_none c.args.self.now;
      assigned =
          λ names nodes to xs.
          none_assigned names nodes c.args.self.now.drafts c.args.pos to c.args.level c.new-items.result c.args.variables.now xs c.new-items.ensures;
    }

pub loop-first-preserved : goal.loop-first-preserved
loop-first-preserved c =
    let keeps = then_kept c.loop-first.self.drafts c.reference.new.self c.add.new.self c.in_ok-value.ensures.kept c.in_ok-id.ensures.kept in
    let var = c.in-Some.first.now in
    record {
      kept = draws_more c.args.self.now c.loop-first.self _ c.loop-first.invariant.kept (redrawn c.loop-first.self c.add.new.self keeps);
      assigned =
          λ names nodes to xs h.
          one_assigned_more names nodes c.loop-first.self.drafts c.add.new.self c.args.pos to c.args.level c.loop-first.next c.in_ok-next.next
          c.in_ok-id.id c.loop-first.items c.push.new.self c.loop-first.rest.now c.in-Some.others.now var xs
          (c.loop-first.invariant.assigned names nodes to xs h) (keeps.all names nodes c.loop-first.items) c.in-Some.ensures.cases.0
          (set_added names nodes c.reference.new.self c.add.new.self var c.in_ok-value.value c.args.pos c.in_ok-id.id
          (Ref c.args.pos (Fresh c.loop-first.next)) c.in_ok-id.ensures.added (c.in_ok-value.ensures.drawn names nodes))
          c.in_ok-push.ensures.ok c.in_ok-next.ensures;
    }

pub returns-clause-kept : goal.returns-clause-kept
returns-clause-kept c =
    on_ok c.add-2.result
    (λ kept.
    draws_more c.args.self.now c.loop-first.self _ c.loop-first.invariant.kept
    (redrawn c.loop-first.self c.add-2.new.self
    (then_kept c.loop-first.self.drafts c.bind.new.self c.add-2.new.self c.in_ok-last.ensures.kept kept)))
    c.add-2.ensures.kept

pub returns-clause-drawn : goal.returns-clause-drawn
returns-clause-drawn c =
    if_ok c.add-2.result
    (λ id added names nodes to xs e h body.
    let t = c.bind.new.self in
    let empty : c.loop-first.rest.now ≡ [] = first_of (search rules, grind (arith, common_steps)) in
    let sets =
    all_assigned names nodes c.loop-first.self.drafts c.args.pos to c.args.level c.loop-first.next c.loop-first.items c.loop-first.rest.now xs
    (c.loop-first.invariant.assigned names nodes to xs h) empty in
    let P : List Name → Type 0 = λ ys. Drawn names nodes t c.in_ok-last.last (Call c.args.pos (Lambda c.args.pos ys None e) none) in
    let last : P [] =
    subst P (ap (map (name_of names)) c.new.ensures)
    (c.in_ok-last.ensures.drawn names nodes e none (c.loop-first.invariant.kept.drafts.one names nodes c.args.body e body) c.new-none.ensures) in
    let made = assignments c.args.pos to c.args.level xs in
    seq_added names nodes t c.add-2.new.self c.push-2.new.self c.args.pos id _ added
    (one_more_drawn names nodes t c.loop-first.items c.push-2.new.self c.in_ok-last.last made (Call c.args.pos (Lambda c.args.pos [] None e) none)
    c.in_ok-push-2.ensures.ok (c.in_ok-last.ensures.kept.all names nodes c.loop-first.items made sets) last))
    c.add-2.ensures.added
