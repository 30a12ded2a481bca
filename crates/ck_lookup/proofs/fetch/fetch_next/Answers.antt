use Rattle.std.proofs.Common.{refl}
use Rattle.ck_lookup.proofs.Told.{past_too_long}
use Rattle.ck_lookup.proofs.fetch.fetch_next.Goals as goal

pub returns-in-Err-TooLong-clause-refused : goal.returns-in-Err-TooLong-clause-refused
returns-in-Err-TooLong-clause-refused g c =
    let cause = rw c.in-Err-TooLong.field-0-is at c.in-Err-TooLong.ensures.cause in
    let fetched = rw c.in-Err-TooLong.field-0-is at c.in-Err-TooLong.ensures.uncounted in
    (refl, fetched tt, past_too_long (g.S.Shelf.held c.args.shelf.now c.args.name.now) c.args.files.now cause.1)
