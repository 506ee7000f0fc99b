-- What links lead to is what is closed under them.
use Rattle.std.proofs.Common.{◌≡◌, ℕ, ◌<◌, ◌≤◌, inl, inr, true, false, IsTrue, List, [], sym, ap, ◌∙◌, subst}
use Rattle.std.proofs.lemmas.Bool.{cases_lt}
use Rattle.std.proofs.lemmas.List.{get_or_past}
use Rattle.least_set.specs.declared.links.Link.{Link}
use Rattle.least_set.specs.Least.{IsClosed, IsLeast, IsLed, Set, has, links_below}
use Rattle.least_set.specs.Search.{IsNext, listed}
use Rattle.least_set.proofs.Nexts.{from_below, link_kept, link_of, links_kept, target_of}

led_of : (many : ℕ) (starts : List ℕ) (links : List Link) (next : List (List ℕ)) (xs : Set ℕ) → IsNext many links next
    → IsClosed starts links xs → IsLed starts (listed next) xs
led_of many starts links next xs n c =
    record {
      begun = c.begun;
      led = λ k y from to. elim (cases_lt k many) [
        | inl less ↦
            let l = link_of links k y (ap (λ ys. has ys y) (sym (n.each k less)) ∙ to) in
            subst (λ z. IsTrue (xs z)) l.to (link_kept xs links l.at l.link c.linked l.there (subst (λ z. IsTrue (xs z)) (sym l.from) from))
        | inr past ↦
            let none : listed next k ≡ [] = get_or_past next k [] (subst (λ m. m ≤ k) (sym n.long) past) in
            let empty : has (listed next k) y ≡ false = ap (λ ys. has ys y) none in
            absurd (cc)
      ];
    }

pub least_linked : (many : ℕ) (starts : List ℕ) (links : List Link) (next : List (List ℕ)) (xs : Set ℕ) → links_below many links ≡ true
    → IsNext many links next → IsLeast (IsLed starts (listed next)) xs → IsLeast (IsClosed starts links) xs
least_linked many starts links next xs below n l =
    record {
      closed = record {
        begun = l.closed.begun;
        linked = links_kept xs links (λ at link there from.
            let less = from_below many links at link below there in
            l.closed.led link.from link.to from (ap (λ ys. has ys link.to) (n.each link.from less) ∙ target_of links at link there));
      };
      within = λ other c x there. l.within other (led_of many starts links next other n c) x there;
    }
