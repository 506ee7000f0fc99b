use Rattle.std.proofs.Common.{rules, arith, ◌≡◌, ap₂, ◌∙◌, ◌+◌, ◌-◌, ◌/◌, ◌++◌}
use Rattle.image_build.specs.Emitted.{codes_from}
use Rattle.image_build.proofs.InRows.{rows_joined}
use Rattle.image_build.proofs.codes.+codes+fn-codes-join+arg2+fn-codes-join+arg3.Goals as goal

pub returns : goal.returns
returns g t c =
    let half = c.args.count / 2 in
    let others = c.args.count - c.args.count / 2 in
    let one : c.in_ok-all.all.items ≡ codes_from c.args.flat.now c.args.offsets.now c.args.first half = search rules in
    let two : c.in_ok-more.more.items ≡ codes_from c.args.flat.now c.args.offsets.now (c.args.first + half) others =
    search rules
    in
    let both : c.append.new.self.items ≡ c.in_ok-all.all.items ++ c.in_ok-more.more.items = search rules in
    both
    ∙ (ap₂ (λ front back. front ++ back) one two
    ∙ rows_joined c.args.flat.now c.args.offsets.now c.args.first half others c.args.count (omega arith))
