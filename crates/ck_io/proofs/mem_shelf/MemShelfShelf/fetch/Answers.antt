use Rattle.ck_io.proofs.Shelves.{shelf_after-lasting, shelf_after-uncounted}
use Rattle.ck_io.proofs.mem_shelf.MemShelfShelf.fetch.Goals as goal

pub returns-clause-lasting : goal.returns-clause-lasting
returns-clause-lasting c =
    rw c.answer.ensures.after (shelf_after-lasting c.args.self.now c.args.name.now c.answer.result c.answer.ensures.fits)

pub returns-clause-uncounted : goal.returns-clause-uncounted
returns-clause-uncounted c =
    rw c.answer.ensures.after (shelf_after-uncounted c.args.self.now c.args.name.now c.answer.result)
