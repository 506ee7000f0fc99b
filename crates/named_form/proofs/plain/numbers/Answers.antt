use Rattle.std.proofs.Common.{◌≡◌, ℕ, suc, ◌+◌, ◌-◌, ◌<◌, List, [], ◌∷◌, ◌++◌, append_assoc, sym, ap, ◌∙◌, arith}
use Rattle.named_form.specs.Valid.{numbers_from}
use Rattle.named_form.proofs.plain.numbers.Goals as goal

one_more : (now whole more : List ℕ) (n past : ℕ) → n < past → more ≡ now ++ n ∷ []
    → now ++ numbers_from n (past - n) ≡ whole → more ++ numbers_from (n + 1) (past - (n + 1)) ≡ whole
one_more now whole more n past lt pushed h =
    let next : past - n ≡ suc (past - (n + 1)) = omega arith in
    let succ : n + 1 ≡ suc n = omega arith in
    ap (λ xs. xs ++ numbers_from (n + 1) (past - (n + 1))) pushed
    ∙ (append_assoc now (n ∷ []) (numbers_from (n + 1) (past - (n + 1)))
    ∙ (ap (λ m. now ++ n ∷ numbers_from m (past - (n + 1))) succ
    ∙ (sym (ap (λ k. now ++ numbers_from n k) next) ∙ h)))

pub loop-number-preserved : goal.loop-number-preserved
loop-number-preserved c =
    one_more c.loop-number.numbers (numbers_from c.args.first (c.args.past - c.args.first)) c.push.new.self
    c.loop-number.number c.args.past c.loop-number-test.true
    (c.in_ok-push.ensures.ok ∙ ap (λ n. c.loop-number.numbers ++ n ∷ []) c.in_ok-narrow.ensures) c.loop-number.invariant
