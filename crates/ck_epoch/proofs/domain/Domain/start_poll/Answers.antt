use Rattle.ck_epoch.proofs.Polling.{may_start, start_bounds, start}
use Rattle.ck_epoch.proofs.domain.Domain.start_poll.Goals as goal

pub load-requires-clause-may : goal.load-requires-clause-may
load-requires-clause-may g c n fits = may_start g.C.Client.meaning g.met.C.Client.passes c.args.token.now c.requires.writer.0 c.requires.writer.1 c.requires.calls n

pub returns-clause-bounds : goal.returns-clause-bounds
returns-clause-bounds g c = start_bounds g.C.Client.meaning g.met.C.Client.passes c.args.token.now c.requires.writer.0 c.requires.writer.1 c.requires.calls c.load.new.token c.load.result c.load.ensures.step

pub returns-clause-scanning : goal.returns-clause-scanning
returns-clause-scanning g c = start g.C.Client.meaning g.met.C.Client.passes c.args.token.now c.requires.writer.0 c.requires.writer.1 c.requires.calls c.load.new.token c.load.result c.load.ensures.step
