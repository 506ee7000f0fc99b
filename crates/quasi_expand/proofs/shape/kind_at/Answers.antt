use Rattle.std.proofs.Common.{length, refl, sym, ap}
use Rattle.std.specs.Option.{option_map}
use Rattle.std.proofs.lemmas.Option.{slice_get_past, slice_get_read}
use Rattle.quasi_expand.proofs.shape.kind_at.Goals as goal

pub returns-in-Some : goal.returns-in-Some
returns-in-Some c =
    let nodes = c.args.nodes.now in
    let node = c.in-Some.node.now in
    let found = c.in-Some.ensures.lookup in
    sym (ap (option_map (λ n. n.kind)) (slice_get_read nodes (length nodes) c.args.id node refl found.3.0 found.1))

pub returns-in-None : goal.returns-in-None
returns-in-None c =
    sym (ap (option_map (λ n. n.kind)) (slice_get_past c.args.nodes.now c.args.id c.in-None.ensures.lookup.3))
