use Rattle.ck_htwrite.proofs.Openings.{arena_long}
use Rattle.ck_htwrite.proofs.state.arena_log.Goals as goal

pub returns-clause-long : goal.returns-clause-long
returns-clause-long c = arena_long c.args.client.now.arena_log c.max.result c.max.ensures
