use Rattle.std.proofs.Common.{◌≡◌, true, false, refl, sym, ◌∙◌, arith}
use Rattle.std.proofs.lemmas.Grind.{common_steps}
use Rattle.scheme_expand.proofs.FirstNames.{flag_within, word_taken, word_left}
use Rattle.scheme_expand.proofs.first.Firsts.take.Goals as goal

pub returns-then-not-is_left : goal.returns-then-not-is_left
returns-then-not-is_left c = λ names listed text one h.
    let flag : c.is_left.result ≡ false = grind (arith, common_steps, c.if-not-is_left.true) in
    word_left names listed text c.args.word c.args.self.now h (sym c.is_left.ensures ∙ flag)

pub index_mut-requires : goal.index_mut-requires
index_mut-requires c =
    let flag : c.is_left.result ≡ true = grind (arith, common_steps, c.if-not-is_left.false) in
    omega (arith, flag_within c.args.self.now.left.items c.args.word (sym c.is_left.ensures ∙ flag), c.args.self.now.left.ok.0)

pub returns : goal.returns
returns c = λ names listed text one h.
    let flag : c.is_left.result ≡ true = grind (arith, common_steps, c.if-not-is_left.false) in
    word_taken names listed text c.args.word c.args.self.now _ one h (sym c.is_left.ensures ∙ flag) c.in_ok-push.ensures.items refl
