use Rattle.std.proofs.Common.{ap}
use Rattle.stalin_outside.specs.Calls.{next_fails}
use Rattle.stalin_outside.specs.Shelf.{last_name}
use Rattle.stalin_outside.specs.MemShelf.{left_of}
use Rattle.stalin_outside.proofs.FilesTold.{empties, appends}
use Rattle.stalin_outside.proofs.mem_shelf.MemShelfShelf.TheImpl.Goals as goal

pub begin_write-tells : goal.begin_write-tells
begin_write-tells c =
    record {
      files =
          empties c.args.name.now c.result (next_fails c.args.self.now.calls) c.args.self.now.files.items
          c.new.self.now.files.items c.ensures.exact c.ensures.files;
      place = λ none. ap left_of (c.ensures.kept none);
      begun = c.ensures.begun;
      asks = c.ensures.asks;
      cause = c.ensures.cause;
    }

pub write-tells : goal.write-tells
write-tells c =
    record {
      files =
          appends (last_name c.args.self.now.asks) c.args.piece.now c.result (next_fails c.args.self.now.calls)
          c.args.self.now.files.items c.new.self.now.files.items c.ensures.exact c.ensures.files;
      begun = c.ensures.begun;
      asks = c.ensures.asks;
      cause = c.ensures.cause;
    }
