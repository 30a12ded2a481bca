use Rattle.std.proofs.Common.{refl, arith}
use Rattle.ck_ht.proofs.Results.{roomy}
use Rattle.ck_ht.proofs.Sizes.{room_for}
use Rattle.ck_ht.proofs.table.Ht.with_room.Goals as goal

pub open-requires-clause-least : goal.open-requires-clause-least
open-requires-clause-least g c = let room = c.room_log.ensures.room in let least = room.1.0 in let is = room.2 in omega arith

pub open-requires-clause-handler : goal.open-requires-clause-handler
open-requires-clause-handler g c = λ i retires. c.requires.handler i refl

pub returns-clause-client : goal.returns-clause-client
returns-clause-client g c = (c.room_log.result, c.room_log.ensures.room, c.open.ensures.client)

pub returns-clause-room : goal.returns-clause-room
returns-clause-room g c = roomy c.open.result (λ r. r.0.origin.config.client.client) c.args.seed c.room_log.result c.args.keys c.open.ensures.client (room_for c.args.keys c.room_log.result c.room_log.ensures.room)
