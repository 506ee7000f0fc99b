use Rattle.std.proofs.Common.{◌++◌, ◌∷◌, [], sym, ap, ◌∙◌, append_assoc}
use Rattle.std.proofs.lemmas.List.{append-nil}
use Rattle.datum_form.proofs.PrintedByParts.{none_pushed, other_pushed}
use Rattle.datum_form.proofs.text.push_others.Goals as goal

pub loop-last-init : goal.loop-last-init
loop-last-init c = ([], sym (append-nil c.args.ids.now), λ nodes is rest h k. none_pushed nodes c.args.parts.now.items is rest h k)

pub loop-last-preserved : goal.loop-last-preserved
loop-last-preserved c =
    let i = c.loop-last.invariant in
    let last = c.in-Some.last.now in
    let others = c.in-Some.others.now in (
      last ∷ i.0,
      i.1 ∙ (ap (λ l. l ++ i.0) c.in-Some.ensures.cases.0 ∙ append_assoc others (last ∷ []) i.0),
      λ nodes is rest h k.
          other_pushed nodes c.loop-last.parts.items c.push.new.self.items last i.0 is rest c.in_ok-push.ensures.items h
          (λ js hs. i.2 nodes js rest hs k),
    )
