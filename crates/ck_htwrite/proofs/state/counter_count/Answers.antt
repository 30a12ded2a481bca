use Rattle.ck_htwrite.proofs.Openings.{few_counters}
use Rattle.ck_htwrite.proofs.state.counter_count.Goals as goal

pub returns-clause-small : goal.returns-clause-small
returns-clause-small c = few_counters c.arena_log.result c.arena_log.ensures.most
