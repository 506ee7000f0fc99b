use Rattle.std.proofs.Common.{◌≡◌, true, map, refl, sym, ◌∙◌, subst}
use Rattle.least_set.specs.Least.{IsLeast, IsLed, all_below, has, links_below}
use Rattle.least_set.specs.Search.{IsNext, listed}
use Rattle.named_form.specs.Written.{form, procedure}
use Rattle.plan_facts.specs.Escaping.{HasEscaping}
use Rattle.plan_facts.specs.Places.{Facts, facts}
use Rattle.plan_facts.proofs.Gathered.{facts_same}
use Rattle.escape_facts.specs.Reached.{held_sites}
use Rattle.escape_facts.proofs.Bounded.{below_bound, belongs_below}
use Rattle.escape_facts.proofs.Escaped.{escaping_below, held_below, least_escaping, starts_below}
use Rattle.escape_facts.proofs.FreeListed.{free_listed}
use Rattle.escape_facts.proofs.Gathered.{others_below, owned_here}
use Rattle.escape_facts.proofs.escaping.escapes.Goals as goal

pub targets_of-requires : goal.targets_of-requires
targets_of-requires c =
    let links = c.as_slice-links.result.now in
    subst (λ n. links_below n links ≡ true) (sym c.bound_of-many.ensures) (below_bound 0 links)

pub targets_of-requires-2 : goal.targets_of-requires-2
targets_of-requires-2 c =
    let links = c.as_slice-links.result.now in
    others_below c.bound_of-many.result links c.as_slice.result.now (c.as_slice.ensures ∙ c.in_ok-others.ensures)
    (subst (λ n. links_below n links ≡ true) (sym c.bound_of-many.ensures) (below_bound 0 links))

pub least_led-requires-clause-starts : goal.least_led-requires-clause-starts
least_led-requires-clause-starts c =
    let links = c.as_slice-links.result.now in
    let many = c.bound_of-many.result in
    let below = subst (λ n. links_below n links ≡ true) (sym c.bound_of-many.ensures) (below_bound 0 links) in
    let flow = c.in_ok-flow.flow in
    let steps = c.as_slice-steps.result.now in
    let owners = subst (λ xs. IsNext many links xs) (sym c.as_slice-by_site.ensures.value) c.in_ok-owners.ensures in
    let own = subst (λ xs. IsNext many c.as_slice.result.now xs) (sym c.as_slice-2.ensures.value) c.in_ok-own.ensures in
    let o = owned_here (map procedure c.args.named.now.procs) flow c.args.rows.now steps links c.as_slice.result.now many
    c.as_slice-by_site.result.now c.as_slice-2.result.now (c.as_slice-links.ensures ∙ c.in_ok-found.ensures)
    (c.as_slice.ensures ∙ c.in_ok-others.ensures) below owners own in
    subst (λ xs. all_below many xs ≡ true) (sym (c.as_slice-5.ensures ∙ c.in_ok-starts.ensures))
    (starts_below (facts (map procedure c.args.named.now.procs) flow c.args.rows.now steps) (listed c.as_slice-by_site.result.now)
    (listed c.as_slice-2.result.now) many c.args.named.now.tops c.as_slice-3.result.now o
    (belongs_below many links c.as_slice-by_site.result.now owners))

pub least_led-requires-clause-graph : goal.least_led-requires-clause-graph
least_led-requires-clause-graph c =
    let links = c.as_slice-links.result.now in
    let many = c.bound_of-many.result in
    let owners = subst (λ xs. IsNext many links xs) (sym c.as_slice-by_site.ensures.value) c.in_ok-owners.ensures in
    λ s less.
    held_below (listed c.as_slice-by_site.result.now) c.in_ok-flow.flow c.args.rows.now (listed c.as_slice-4.result.now) many s
    (belongs_below many links c.as_slice-by_site.result.now owners)

pub returns-clause-exact : goal.returns-clause-exact
returns-clause-exact c =
    λ w.
    let links = c.as_slice-links.result.now in
    let many = c.bound_of-many.result in
    let below = subst (λ n. links_below n links ≡ true) (sym c.bound_of-many.ensures) (below_bound 0 links) in
    let named = c.args.named.now in
    let rows = c.args.rows.now in
    let flow = c.in_ok-flow.flow in
    let steps = c.as_slice-steps.result.now in
    let owners = subst (λ xs. IsNext many links xs) (sym c.as_slice-by_site.ensures.value) c.in_ok-owners.ensures in
    let own = subst (λ xs. IsNext many c.as_slice.result.now xs) (sym c.as_slice-2.ensures.value) c.in_ok-own.ensures in
    let o = owned_here (map procedure named.procs) flow rows steps links c.as_slice.result.now many
    c.as_slice-by_site.result.now c.as_slice-2.result.now (c.as_slice-links.ensures ∙ c.in_ok-found.ensures)
    (c.as_slice.ensures ∙ c.in_ok-others.ensures) below owners own in
    let are = free_listed (form named) w c.as_slice-4.result.now (c.as_slice-4.ensures ∙ c.in_ok-free.ensures w) in
    let found = c.in_ok-sites.sites in
    let k : Facts = facts (map procedure named.procs) flow rows steps in
    let least =
    subst (λ xs. IsLeast (IsLed xs (held_sites (listed c.as_slice-by_site.result.now) flow rows (listed c.as_slice-4.result.now))) (has found))
    (c.as_slice-5.ensures ∙ c.in_ok-starts.ensures) c.in_ok-sites.ensures.least in
    subst (λ k. IsLeast (HasEscaping named.tops k c.args.capturing.now.procs) (has found))
    (facts_same named rows named.procs flow steps refl c.in_ok-flow.ensures (c.as_slice-steps.ensures ∙ c.in_ok-listed.ensures.steps))
    (subst (λ qs. IsLeast (HasEscaping named.tops k qs) (has found)) c.as_slice-3.ensures
    (least_escaping k (listed c.as_slice-by_site.result.now) (listed c.as_slice-2.result.now) (listed c.as_slice-4.result.now) named.tops
    c.as_slice-3.result.now (has found) o are least))

pub returns-clause-rises : goal.returns-clause-rises
returns-clause-rises c = c.in_ok-sites.ensures.rises.in_order

pub returns-clause-fits : goal.returns-clause-fits
returns-clause-fits c =
    λ w. escaping_below (form c.args.named.now) c.args.rows.now c.args.capturing.now.procs c.in_ok-sites.sites w (returns-clause-exact c w)
