use Rattle.std.proofs.Common.{◌+◌, ◌*◌, refl, sym, subst, rules}
use Rattle.rv_emulator.specs.States.{IsCached, StaysAt}
use Rattle.rv_emulator.proofs.CodeStays.{cached_more}
use Rattle.rv_emulator.proofs.loading.read_code.Goals as goal

pub loop-at-preserved : goal.loop-at-preserved
loop-at-preserved c =
    record {
      count = search rules;
      cached =
          subst (IsCached c.args.memory.now c.code_place-base.result.0) (sym c.in_ok-push-in-Some.ensures.items)
          (cached_more c.args.memory.now c.code_place-base.result.0 c.loop-at.words.items c.in-Some.word
          c.loop-at.invariant.cached
          (subst (λ n. StaysAt c.args.memory.now (c.code_place-base.result.0 + 4 * n) c.in-Some.word)
          (sym c.loop-at.invariant.count)
          (c.in-Some.ensures c.in-Some.word refl)));
    }
