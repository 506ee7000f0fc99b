use Rattle.std.proofs.Common.{◌≡◌, ◌<◌, true, List, ℕ, get_or, sym, ap, ◌∙◌, subst, refl, arith}
use Rattle.std.specs.Prelude.{vec_len}
use Rattle.least_set.specs.Least.{all_below}
use Rattle.least_set.specs.Search.{Grows}
use Rattle.least_set.proofs.Spreading.{all_on, at_first, found_below, found_few, one_on}
use Rattle.least_set.proofs.search.spread.Goals as goal

pub loop-at-init : goal.loop-at-init
loop-at-init g c =
    record { size = refl; tells = c.requires.tells; reaches = at_first (g.G.Graph.leads c.args.graph.now) c.args.found.now }

pub mark_all-requires-clause-below : goal.mark_all-requires-clause-below
mark_all-requires-clause-below g c =
    let leads = g.G.Graph.leads c.args.graph.now in
    let k = get_or c.as_slice.result.now c.loop-at.at 0 in
    let below = found_below c.loop-at.marks.items c.loop-at.found c.loop-at.at (omega arith) c.loop-at.invariant.tells in
    let same : k ≡ get_or c.loop-at.found c.loop-at.at 0 = ap (λ xs. get_or xs c.loop-at.at 0) c.as_slice.ensures in
    let within : k < vec_len c.args.marks.now = omega (arith, below, same, c.loop-at.invariant.size, c.loop-at.marks.ok.0) in
    let is : leads k ≡ c.as_slice-in-loop-at.result.now = sym (c.as_slice-in-loop-at.ensures ∙ c.in_ok-next.ensures) in
    subst (λ xs. all_below (vec_len c.loop-at.marks) xs ≡ true) is
    (subst (λ n. all_below n (leads k) ≡ true) (sym c.loop-at.invariant.size) (c.requires.below k within))

pub loop-at-smaller : goal.loop-at-smaller
loop-at-smaller g c =
    let few = found_few c.loop-at.marks.items c.loop-at.found c.loop-at.invariant.tells in
    omega (arith, few, c.in_ok-mark_all.ensures.size)

pub loop-at-preserved : goal.loop-at-preserved
loop-at-preserved g c =
    let leads = g.G.Graph.leads c.args.graph.now in
    let k = get_or c.as_slice.result.now c.loop-at.at 0 in
    let same : k ≡ get_or c.loop-at.found c.loop-at.at 0 = ap (λ xs. get_or xs c.loop-at.at 0) c.as_slice.ensures in
    let is : c.as_slice-in-loop-at.result.now ≡ leads (get_or c.loop-at.found c.loop-at.at 0) =
    c.as_slice-in-loop-at.ensures ∙ (c.in_ok-next.ensures ∙ ap leads same) in
    record {
      size = c.in_ok-mark_all.ensures.size ∙ c.loop-at.invariant.size;
      tells = c.in_ok-mark_all.ensures.tells;
      reaches =
          one_on leads c.loop-at.at c.args.found.now c.loop-at.found c.mark_all.new.found (omega arith)
          (subst (λ xs. Grows xs c.loop-at.found c.mark_all.new.found) is c.in_ok-mark_all.ensures.grows) c.loop-at.invariant.reaches;
    }

pub returns-clause-spread : goal.returns-clause-spread
returns-clause-spread g c =
    all_on (g.G.Graph.leads c.args.graph.now) c.loop-at.at c.args.found.now c.loop-at.found (omega arith) c.loop-at.invariant.reaches
