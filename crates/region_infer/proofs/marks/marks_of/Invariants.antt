use Rattle.std.proofs.Common.{◌≡◌, length, take}
use Rattle.region_infer.specs.Regions.{AreMarks}
use Rattle.region_infer.proofs.marks.marks_of.Given as goal

abbrev pub invariant-loop-site : goal.invariant-loop-site
invariant-loop-site l =
    record {
      marked : AreMarks (take l.site-index l.escaping) l.marks.items;
      long : length l.marks.items ≡ l.sites;
    }
