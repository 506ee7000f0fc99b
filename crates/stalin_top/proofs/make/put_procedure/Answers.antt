use Rattle.std.proofs.Common.{◌≡◌, ◌∙◌, ap, ◌++◌, ◌∷◌, []}
use Rattle.std.specs.Prelude.{codes, decimal}
use Rattle.stalin_top.proofs.TextsPut.{seven}
use Rattle.stalin_top.proofs.make.put_procedure.Goals as goal

pub returns : goal.returns
returns c =
    let number : c.as_bytes-number.result.now ≡ decimal c.args.number = c.as_bytes-number.ensures.value ∙ c.format.ensures.text in
    let next : c.as_bytes-next.result.now ≡ decimal c.args.next = c.as_bytes-next.ensures.value ∙ c.format-2.ensures.text in
    seven c.args.text.now.items _ _ _ _ _ _ _ (codes "(define (p") (decimal c.args.number) (codes " x) (if (= x 0) (cons ")
    (decimal c.args.number) (codes " '()) (cons x (p") (decimal c.args.next) (codes " (- x 1)))))" ++ 10 ∷ [])
    c.in_ok-extend_from_slice.ensures.items
    (c.in_ok-extend_from_slice-2.ensures.items ∙ ap (λ t. c.extend_from_slice.new.self.items ++ t) number)
    c.in_ok-extend_from_slice-3.ensures.items
    (c.in_ok-extend_from_slice-4.ensures.items ∙ ap (λ t. c.extend_from_slice-3.new.self.items ++ t) number)
    c.in_ok-extend_from_slice-5.ensures.items
    (c.in_ok-extend_from_slice-6.ensures.items ∙ ap (λ t. c.extend_from_slice-5.new.self.items ++ t) next)
    c.in_ok-extend_from_slice-7.ensures.items
