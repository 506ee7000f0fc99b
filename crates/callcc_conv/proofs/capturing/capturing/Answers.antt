use Rattle.std.proofs.Common.{◌≡◌, true, length, map, sym, subst, ap, ◌∙◌}
use Rattle.std.proofs.lemmas.List.{length-map}
use Rattle.least_set.specs.Least.{IsClosed, IsLeast, all_below, has, links_below}
use Rattle.named_form.specs.ValidPlan.{is_set}
use Rattle.named_form.specs.Written.{procedure}
use Rattle.plan_facts.specs.Capturing.{HasJoined}
use Rattle.plan_facts.specs.Places.{facts}
use Rattle.callcc_conv.specs.Graph.{all_links}
use Rattle.callcc_conv.proofs.Joining.{least_joined, links_are_below, starts_are_below}
use Rattle.callcc_conv.proofs.Listing.{below}
use Rattle.callcc_conv.proofs.Sets.{set_below}
use Rattle.callcc_conv.proofs.capturing.capturing.Goals as goal

pub least_closed-requires-clause-starts : goal.least_closed-requires-clause-starts
least_closed-requires-clause-starts c =
    let k = facts (map procedure c.args.procs.now) c.args.flow.now c.args.rows.now c.args.places.now in
    subst (λ xs. all_below c.in_ok-many.many xs ≡ true) (sym (c.as_slice.ensures ∙ c.in_ok-starts.ensures))
    (starts_are_below k (length c.args.procs.now) c.in_ok-many.many c.in_ok-many.ensures)

pub least_closed-requires-clause-links : goal.least_closed-requires-clause-links
least_closed-requires-clause-links c =
    let k = facts (map procedure c.args.procs.now) c.args.flow.now c.args.rows.now c.args.places.now in
    subst (λ xs. links_below c.in_ok-many.many xs ≡ true) (sym (c.as_slice-2.ensures ∙ c.in_ok-links.ensures))
    (links_are_below k (length c.args.procs.now) c.in_ok-many.many (sym (length-map c.args.procs.now procedure)) c.in_ok-many.ensures c.requires)

pub returns-clause-least : goal.returns-clause-least
returns-clause-least c =
    let k = facts (map procedure c.args.procs.now) c.args.flow.now c.args.rows.now c.args.places.now in
    let n = length c.args.procs.now in
    let found = c.in_ok-found.found in
    let starts = c.as_slice.ensures ∙ c.in_ok-starts.ensures in
    let links = c.as_slice-2.ensures ∙ c.in_ok-links.ensures in
    let least =
    subst (λ xs. IsLeast (IsClosed xs (all_links k.procs k.flow k.rows n k.steps)) (has found)) starts
    (subst (λ ls. IsLeast (IsClosed c.as_slice.result.now ls) (has found)) links c.in_ok-found.ensures.least) in
    let same = c.from_vec.ensures ∙ (c.in_ok-set.ensures ∙ ap (below n) c.as_slice-3.ensures) in
    subst (λ xs. IsLeast (HasJoined k) (has xs)) (sym same)
    (least_joined k n found (sym (length-map c.args.procs.now procedure)) c.requires least)

pub returns-clause-fits : goal.returns-clause-fits
returns-clause-fits c =
    let n = length c.args.procs.now in
    let same = c.from_vec.ensures ∙ (c.in_ok-set.ensures ∙ ap (below n) c.as_slice-3.ensures) in
    subst (λ xs. is_set n xs ≡ true) (sym same) (set_below n c.in_ok-many.many c.in_ok-found.found c.in_ok-found.ensures.rises)
