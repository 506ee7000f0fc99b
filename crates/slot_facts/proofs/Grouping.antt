-- Links are grouped one after another by what they are from.
use Rattle.std.proofs.Common.{◌≡◌, ℕ, ◌+◌, ◌<◌, ◌≤◌, inl, inr, false, List, [], ◌∷◌, ◌++◌, length, get_or, set, take, sym, ap, ◌∙◌, subst, arith, append-nil, ne_eqb}
use Rattle.std.specs.Prelude.{nat_eq, if◌then◌else◌}
use Rattle.std.proofs.lemmas.Bool.{cases_lt}
use Rattle.std.proofs.lemmas.List.{set_past, take_more}
use Rattle.least_set.specs.declared.links.Link.{Link}
use Rattle.least_set.specs.Search.{IsNext, listed, targets}
use Rattle.least_set.proofs.Nexts.{put_link}
use Rattle.slot_facts.proofs.Linked.{targets_join}

-- a link from past the end changes nothing
skipped : (many : ℕ) (links : List Link) (link : Link) (next : List (List ℕ)) → many ≤ link.from → IsNext many links next
    → IsNext many (links ++ link ∷ []) next
skipped many links link next past h =
    record {
      long = h.long;
      each = λ k below.
          let apart : nat_eq k link.from ≡ false = ne_eqb k link.from (λ e. omega (arith, e, past, below)) in
          h.each k below
          ∙ (sym (append-nil (targets links k))
          ∙ (ap (λ b. targets links k ++ (if b then link.to ∷ [] else [])) (sym apart) ∙ sym (targets_join links (link ∷ []) k)));
    }

pub grouped_on : (many : ℕ) (links : List Link) (i : ℕ) (d : Link) (next new : List (List ℕ)) → i < length links
    → new ≡ set next (get_or links i d).from (listed next (get_or links i d).from ++ (get_or links i d).to ∷ [])
    → IsNext many (take i links) next → IsNext many (take (i + 1) links) new
grouped_on many links i d next new within puts h =
    let link : Link = get_or links i d in
    subst (λ ls. IsNext many ls new) (sym (take_more links i d within))
    (subst (λ ns. IsNext many (take i links ++ link ∷ []) ns) (sym puts)
    (elim (cases_lt link.from many) [
      | inl less ↦ put_link many (take i links) link next less h
      | inr past ↦
          let long = h.long in
          subst (λ ns. IsNext many (take i links ++ link ∷ []) ns) (sym (set_past next link.from (listed next link.from ++ link.to ∷ []) (omega (arith, long, past))))
          (skipped many (take i links) link next past h)
    ]))
