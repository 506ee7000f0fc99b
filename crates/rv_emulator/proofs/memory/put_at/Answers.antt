use Rattle.std.proofs.Common.{ap, ◌∙◌, ◌/◌, rules}
use Rattle.std.specs.Prelude.{slice_index}
use Rattle.rv_emulator.proofs.StoredBytes.{put_more, next_digit}
use Rattle.rv_emulator.proofs.memory.put_at.Goals as goal

pub loop-i-preserved : goal.loop-i-preserved
loop-i-preserved c =
    record {
      written = put_more c.loop-i.bytes (λ k. slice_index c.args.bytes.now k) c.args.at c.loop-i.i c.args.value c.loop-i.rest (search rules) c.loop-i.invariant.written c.loop-i.invariant.rest;
      rest = ap (λ n. n / 256) c.loop-i.invariant.rest ∙ next_digit c.args.value c.loop-i.i;
      size = search rules;
    }
