use Rattle.std.proofs.Common.{nat_lt, nat_eq, ap, ◌∙◌}
use Rattle.std.specs.List.{filter}
use Rattle.std.proofs.lemmas.List.Filters.{dedup_is}
use Rattle.named_form.proofs.Rising.{among_is}
use Rattle.named_form.proofs.free.in_order.Goals as goal

pub returns : goal.returns
returns c =
    let once = dedup_is nat_eq c.sort.new.self.items c.dedup.new.self.items c.dedup.ensures.filtered in
    c.from_vec.ensures
    ∙ (c.in_ok-before.ensures
    ∙ (ap (filter (λ x. nat_lt x c.args.first)) (c.as_slice.ensures.value ∙ once)
    ∙ among_is c.args.first c.args.wanted.items c.sort.new.self.items c.sort.ensures.permutation c.in_ok-sort.ensures.sorted))
