-- What is told after bytes or answers were added to it, and then others.
use Rattle.std.proofs.Common.{◌≡◌, ℕ, List, [], ◌∷◌, ◌++◌, Option, Some, None, refl, sym, ap, ◌∙◌, append_assoc}
use Rattle.std.proofs.lemmas.List.{append-nil}
use Rattle.std.specs.Option.{option_map}
use Rattle.stalin_outside.specs.declared.console.Answer.{Answer}
use Rattle.stalin_outside.specs.Console.{Adds, AddsAll}

pub gains_nothing : (told : Option (List ℕ)) → told ≡ option_map (λ bytes. bytes ++ []) told
gains_nothing None = refl
gains_nothing (Some bytes) = ap Some (sym (append-nil bytes))

pub gains_both : (first second : List ℕ) (told : Option (List ℕ))
    → option_map (λ bytes. bytes ++ second) (option_map (λ bytes. bytes ++ first) told)
    ≡ option_map (λ bytes. bytes ++ (first ++ second)) told
gains_both first second None = refl
gains_both first second (Some bytes) = ap Some (append_assoc bytes first second)

pub adds_nothing : (told : Option (List Answer)) → AddsAll [] told told
adds_nothing None = tt
adds_nothing (Some list) = refl

pub adds_one : (answer : Answer) (before now : Option (List Answer)) → Adds answer before now → AddsAll (answer ∷ []) before now
adds_one answer before None added = tt
adds_one answer None (Some now) added = absurd added
adds_one answer (Some before) (Some now) added = added

pub adds_both : (first second : List Answer) (before between now : Option (List Answer)) → AddsAll first before between
    → AddsAll second between now → AddsAll (second ++ first) before now
adds_both first second before between None one other = tt
adds_both first second before None (Some now) one other = absurd other
adds_both first second None (Some between) (Some now) one other = absurd one
adds_both first second (Some before) (Some between) (Some now) one other =
    other ∙ (ap (λ l. second ++ l) one ∙ sym (append_assoc second first before))
