-- How many sites stand before the first step.
use Rattle.std.proofs.Common.{◌≡◌, ℕ, ◌+◌, ◌-◌, List, length, map, sym, ap, ◌∙◌}
use Rattle.std.proofs.lemmas.List.{length-map}
use Rattle.named_form.specs.declared.program.Proc.{Proc}
use Rattle.named_form.specs.Code.{but_first, first_sites, rest_lists}
use Rattle.named_form.specs.Written.{procedure}
use Rattle.named_form.proofs.Tallied.{length_others}

pub sites_are : (ps : List Proc) (lists closures sites : ℕ) → lists ≡ rest_lists (map procedure ps) → closures ≡ length ps - 1
    → sites ≡ closures + lists → sites ≡ first_sites (map procedure ps)
sites_are ps lists closures sites h k same =
    let others = length_others (map procedure ps) in
    let long = length-map ps procedure in
    same ∙ (ap (λ n. n + lists) (k ∙ (ap (λ n. n - 1) (sym long) ∙ others)) ∙ ap (λ n. length (but_first (map procedure ps)) + n) h)
