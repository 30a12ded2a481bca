use Rattle.std.proofs.Common.{length}
use Rattle.ck_io.specs.MemShelf.{contents, place}
use Rattle.ck_io.proofs.Shelves.{zero-padded}
use Rattle.ck_io.proofs.mem_shelf.MemShelf.new.Goals as goal

pub returns-clause-unfailed : goal.returns-clause-unfailed
returns-clause-unfailed c name =
    rw c.new-counts.ensures.items (zero-padded (length c.args.files.items) (place (contents c.args.files.items) name))
