use Rattle.ck_ht.proofs.Sizes.{whole_room}
use Rattle.ck_ht.proofs.tests.make.Goals as goal

pub set-requires-clause-room : goal.set-requires-clause-room
set-requires-clause-room g c = whole_room _ _ c.requires.arena

pub put-requires-clause-room : goal.put-requires-clause-room
put-requires-clause-room g c = whole_room _ _ c.requires.arena
