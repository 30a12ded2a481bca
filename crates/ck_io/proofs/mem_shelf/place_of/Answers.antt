use Rattle.std.proofs.Common.{◌≡◌}
use Rattle.ck_io.specs.MemShelf.{contents, place}
use Rattle.ck_io.proofs.Shelves.{prefix_len-map, unwrap_or-position, place-contents-le}
use Rattle.ck_io.proofs.mem_shelf.place_of.Goals as goal

pub returns-clause-place : goal.returns-clause-place
returns-clause-place c = rw prefix_len-map (rw (c.unwrap_or.ensures, c.first_of.ensures) (unwrap_or-position _ c.args.files.now))

pub returns-clause-within : goal.returns-clause-within
returns-clause-within c =
    let at : c.unwrap_or.result ≡ place (contents c.args.files.now) c.args.name.now = returns-clause-place c in
    rw at (place-contents-le c.args.files.now c.args.name.now)
