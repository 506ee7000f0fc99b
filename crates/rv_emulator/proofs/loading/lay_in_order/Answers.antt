use Rattle.std.proofs.Common.{◌≡◌, rules}
use Rattle.std.specs.Prelude.{map}
use Rattle.std.specs.List.{flat_map}
use Rattle.rv_emulator.specs.Loading.{bytes_in, ordered, region_of}
use Rattle.rv_emulator.proofs.LoadedImage.{are_laid}
use Rattle.rv_emulator.proofs.loading.lay_in_order.Goals as goal

pub new-requires : goal.new-requires
new-requires c =
    let same_regions : c.loop-segment.regions.items ≡ map region_of (ordered c.args.backwards c.args.segments.now) = search rules in
    let same_bytes : c.loop-segment.bytes.items ≡ flat_map bytes_in (ordered c.args.backwards c.args.segments.now) = search rules in
    rw (same_regions, same_bytes) (are_laid (ordered c.args.backwards c.args.segments.now) c.requires.fit)
