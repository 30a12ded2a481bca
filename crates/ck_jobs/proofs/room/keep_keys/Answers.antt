use Rattle.std.proofs.Common.{sym}
use Rattle.ck_jobs.proofs.Counting.{keys_after_set, keys_after_put, keys_after_del}
use Rattle.ck_jobs.proofs.room.keep_keys.Goals as goal

pub returns-in_ok-insert-in-Set : goal.returns-in_ok-insert-in-Set
returns-in_ok-insert-in-Set c m sorted room are =
    let to = c.in_ok-insert-in-Set.ensures.updates in
    rw (c.in-Set.is, sym c.get.ensures.value) (keys_after_set c.args.keys.now.keys c.insert.new.self.keys m c.get.result are (λ q apart. to.2 q apart) c.in-Set.field-1 room to.1)

pub returns-in_ok-insert-in-Put : goal.returns-in_ok-insert-in-Put
returns-in_ok-insert-in-Put c m sorted room are =
    let to = c.in_ok-insert-in-Put.ensures.updates in
    rw (c.in-Put.is, sym c.get-in-Put.ensures.value) (keys_after_put c.args.keys.now.keys c.insert-in-Put.new.self.keys m c.get-in-Put.result are (λ q apart. to.2 q apart) c.in-Put.field-1 room to.1)

pub returns-in-Del : goal.returns-in-Del
returns-in-Del c m sorted room are =
    let to = c.remove.ensures.updates in
    rw (c.in-Del.is, sym c.get-in-Del.ensures.value) (keys_after_del c.args.keys.now.keys c.remove.new.self.keys m c.get-in-Del.result are (λ q apart. to.2 q apart) sorted to.1)
