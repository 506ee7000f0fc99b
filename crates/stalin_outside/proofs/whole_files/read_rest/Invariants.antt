use Rattle.std.proofs.Common.{◌≡◌, ◌≤◌, ◌+◌, ◌-◌, length}
use Rattle.stalin_outside.specs.declared.shelf.Kind.TheVariants.{ForReading}
use Rattle.stalin_outside.specs.Shelf.{SameFiles, AreNext}
use Rattle.stalin_outside.proofs.whole_files.read_rest.Given as goal

abbrev pub invariant-reads : goal.invariant-reads
invariant-reads g l =
    record {
      taken :
          AreNext (g.H.Shelf.files l.initial.shelf) l.text (g.H.Shelf.left l.initial.shelf) (g.H.Shelf.left l.shelf);
      files : SameFiles (g.H.Shelf.files l.initial.shelf) (g.H.Shelf.files l.shelf);
      begun : g.H.Shelf.begun l.shelf ≡ ForReading;
      asks : g.H.Shelf.asks l.shelf ≡ g.H.Shelf.asks l.initial.shelf;
      later : g.H.Shelf.faults l.initial.shelf ≤ g.H.Shelf.faults l.shelf;
      size : length l.text ≤ l.fn.most + 1;
    }

abbrev pub decreases-reads : goal.decreases-reads
decreases-reads g l = l.fn.most + 1 - length l.text
