use Rattle.std.proofs.Common.{◌≡◌, ◌++◌, ◌∷◌, [], length, refl, ap, ◌∙◌, arith, reverse}
use Rattle.std.proofs.lemmas.Grind.{common_steps}
use Rattle.datum_reader.specs.declared.level.Level.TheVariants as level
use Rattle.datum_reader.specs.declared.reading.Reading.{Reading}
use Rattle.datum_reader.specs.Machine.{give}
use Rattle.datum_reader.proofs.LevelsAfterDatum.{waits, takes, given_top, last_first, one_longer}
use Rattle.datum_reader.proofs.reading.Reading.give.Goals as goal

pub loop-level-preserved : goal.loop-level-preserved
loop-level-preserved c = λ n fs us s h k.
    let now = c.loop-level.self in
    let left = c.pop.new.self.items in
    let next : Reading = record { nodes = c.marked.new.nodes; tops = now.tops; levels = c.pop.new.self } in
    let waiting = level.Waiting c.in-Waiting.pos c.in-Waiting.mark in
    let popped : now.levels.items ≡ left ++ waiting ∷ [] =
    c.in-Some.ensures.items ∙ ap (λ l. left ++ l ∷ []) c.in-Waiting.is in
    waits now next c.in-Waiting.pos c.in-Waiting.mark c.loop-level.id c.in_ok-id-in-Waiting.id us (give n fs us s)
    (c.loop-level.invariant n fs us s h k) (last_first now.levels.items left waiting popped)
    (one_longer now.levels.items left waiting popped) refl c.in_ok-id-in-Waiting.ensures

pub returns-in_default-level : goal.returns-in_default-level
returns-in_default-level c = λ n fs us s h k.
    let now = c.loop-level.self in
    let left = c.pop.new.self.items in
    let l = c.in-Some.level in
    let taken = c.in_ok-taken-in_default-level.taken in
    let next : Reading = record { nodes = now.nodes; tops = now.tops; levels = c.push.new.self } in
    let popped : now.levels.items ≡ left ++ l ∷ [] = c.in-Some.ensures.items in
    let pushed : next.levels.items ≡ left ++ taken ∷ [] = c.in_ok-push-in_default-level.ensures.items in
    let count : length next.levels.items ≡ length now.levels.items =
    omega (arith, one_longer now.levels.items left l popped, one_longer next.levels.items left taken pushed) in
    takes now next l taken (reverse left) c.loop-level.id us (give n fs us s) (c.loop-level.invariant n fs us s h k)
    (last_first now.levels.items left l popped) c.in_default-level.not-Waiting c.in_ok-taken-in_default-level.ensures
    (last_first next.levels.items left taken pushed) count refl refl

pub returns : goal.returns
returns c = λ n fs us s h k.
    let now = c.loop-level.self in
    let next : Reading = record { nodes = now.nodes; tops = c.push-2.new.self; levels = c.pop.new.self } in
    let none : now.levels.items ≡ [] = grind (arith, common_steps, c.in_default.ensures.cases) in
    let left : c.pop.new.self.items ≡ [] = grind (arith, common_steps, c.in_default.ensures.cases) in
    given_top now next c.loop-level.id us (give n fs us s) (c.loop-level.invariant n fs us s h k) none left refl
    c.in_ok-push.ensures.ok
