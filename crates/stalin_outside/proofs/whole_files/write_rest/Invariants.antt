use Rattle.std.proofs.Common.{◌≡◌, ◌≤◌, length}
use Rattle.stalin_outside.specs.declared.shelf.Kind.TheVariants.{ForWriting}
use Rattle.stalin_outside.specs.Shelf.{last_name}
use Rattle.stalin_outside.proofs.Pieces.{HasWritten}
use Rattle.stalin_outside.proofs.whole_files.write_rest.Given as goal

abbrev pub invariant-writes : goal.invariant-writes
invariant-writes g l =
    record {
      written :
          HasWritten (last_name (g.H.Shelf.asks l.initial.shelf)) l.fn.bytes l.rest
          (g.H.Shelf.files l.initial.shelf)
          (g.H.Shelf.files l.shelf);
      begun : g.H.Shelf.begun l.shelf ≡ ForWriting;
      asks : g.H.Shelf.asks l.shelf ≡ g.H.Shelf.asks l.initial.shelf;
      later : g.H.Shelf.faults l.initial.shelf ≤ g.H.Shelf.faults l.shelf;
    }

abbrev pub decreases-writes : goal.decreases-writes
decreases-writes g l = length l.rest
